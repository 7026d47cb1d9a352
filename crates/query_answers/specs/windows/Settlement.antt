-- What settlement asks for, leaves and outcomes.
use Rattle.std.specs.Prelude.{◌≡◌, ℕ, Bool, false, List, [], ◌∷◌, map}
use Rattle.valid_intervals.specs.declared.SignalCell.{SignalCell}
use Rattle.journal_meaning.specs.declared.batch.Query.{Query}
use Rattle.journal_meaning.specs.Batches.{Batch}
use Rattle.plan_machine.specs.Shards.{Shard}
use Rattle.plan_machine.specs.Settle.{AreFreed, AreSettled}
use Rattle.circuit_meaning.specs.declared.Run.{Run}
use Rattle.reply_lines.specs.declared.reply.Outcome.{Outcome}
use Rattle.memo_shards.specs.KeptShards.{KeptShard}
use Rattle.plan_core.specs.Parts.{shards_in}
use Rattle.plan_core.specs.asked.Asked.{AsksOn}
use Rattle.plan_core.specs.asked.Shards.{AreNumbered}
use Rattle.query_answers.specs.windows.Phases.{AreOutcomes, refused_of}

-- The queries ask one after another, from shards to shards. The flags say whether each query was refused before, and after.
abbrev pub AskInTurn : Batch → (ℕ → List SignalCell) → List Query → List Shard → List Bool → List Shard → List Bool → Type 0
AskInTurn b opening [] old [] new [] = new ≡ old
AskInTurn b opening (q ∷ qs) old (was ∷ before) new (is ∷ after) = (now : List Shard) × AsksOn b opening q old was now is × AskInTurn b opening qs now before new after
AskInTurn b opening qs old before new after = ⊥

-- no query is refused yet
abbrev pub none_refused : List Query → List Bool
none_refused qs = map (λ _. false) qs

-- Once the claims are freed, all queries ask twice, in order. At first none is refused, and a refused query asks for nothing more.
pub record AsksTwice (b : Batch) (opening : ℕ → List SignalCell) (old new : List Shard) (refused : List Bool) : Type 0 where
  pub freed : List Shard
  pub frees : AreFreed old freed
  pub visited : List Shard
  pub refused_then : List Bool
  pub visits : AskInTurn b opening b.queries freed (none_refused b.queries) visited refused_then
  pub walks : AskInTurn b opening b.queries visited refused_then new refused

-- The shards are in order, each old journal is a prefix of its new one, and no claim is left. If settlement recorded no refusal of a query,
-- the outcome is its waveform, and it is closed. Otherwise the outcome is its budget, with one refusal, which has its cause.
pub record HasSettled (b : Batch) (opening : ℕ → List SignalCell) (old new : List KeptShard) (outcomes : List (Outcome (List Run))) : Type 0 where
  pub numbers : AreNumbered new
  pub settled : AreSettled b opening (shards_in old) (shards_in new) (refused_of outcomes)
  pub outcomes_are : AreOutcomes b.circuit b.queries outcomes
  pub asks : AsksTwice b opening (shards_in old) (shards_in new) (refused_of outcomes)
