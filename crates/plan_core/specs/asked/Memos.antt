-- The shards of a batch as it is asked alone.
use Rattle.std.specs.Prelude.{◌≡◌, ℕ, ◌+◌, Bool, true, false, List, Option, Some, None}
use Rattle.valid_intervals.specs.declared.Point.{Point}
use Rattle.valid_intervals.specs.declared.SignalCell.{SignalCell}
use Rattle.journal_meaning.specs.declared.Entry.{Entry}
use Rattle.journal_meaning.specs.declared.batch.Query.{Query}
use Rattle.journal_meaning.specs.Batches.{Batch}
use Rattle.journal_meaning.specs.Pieces.{Start}
use Rattle.plan_machine.specs.Sound.{IsFresh}
use Rattle.plan_machine.specs.Settle.{entries_in, charge_of}
use Rattle.memo_shards.specs.KeptShards.{KeptShard}
use Rattle.plan_core.specs.Parts.{shards_in}
use Rattle.plan_core.specs.asked.Shards.{AreNumbered}

abbrev pub entries_of : List KeptShard → List Entry
entries_of ms = entries_in (shards_in ms)

-- The shards of the batch in order, without claims.
pub record AreFreeShards (b : Batch) (opening : ℕ → List SignalCell) (ms : List KeptShard) : Type 0 where
  pub numbers : AreNumbered ms
  pub fresh : IsFresh b opening (shards_in ms)

-- The same, with what a query is charged.
pub record IsChargedMemo (b : Batch) (opening : ℕ → List SignalCell) (ms : List KeptShard) (q : Query) (charge : ℕ) : Type 0 where
  pub kept : AreFreeShards b opening ms
  pub counts : charge ≡ charge_of (entries_of ms) q

-- what a query's strand for one time is started with
abbrev pub asked_at : Query → ℕ → ℕ → Start
asked_at q t charge = record { query = q; start = t; stop = t + 1; budget = q.budget; charged = charge }

-- the point of a signal at a time
abbrev pub at_time : Query → ℕ → Point
at_time q t = record { signal = q.signal; time = t }

-- nothing was found
abbrev pub is_missing : {A : Type 0} → Option A → Bool
is_missing None = true
is_missing (Some x) = false
