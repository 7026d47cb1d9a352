-- Both phases are done.
use Rattle.std.proofs.Common.{ℕ, List, [], ◌++◌}
use Rattle.valid_intervals.specs.declared.SignalCell.{SignalCell}
use Rattle.journal_meaning.specs.Batches.{Batch}
use Rattle.journal_meaning.specs.Lawful.{IsLawful}
use Rattle.journal_meaning.proofs.Callers.{added-more}
use Rattle.plan_machine.specs.Settle.{AreShards, AreFreed, journals_of}
use Rattle.plan_machine.proofs.Callers.{all-freed, all-before}
use Rattle.memo_shards.specs.KeptShards.{KeptShard}
use Rattle.plan_core.specs.Parts.{shards_in}
use Rattle.circuit_meaning.specs.declared.Run.{Run}
use Rattle.reply_lines.specs.declared.reply.Outcome.{Outcome}
use Rattle.plan_core.specs.asked.Memos.{AreFreeShards, entries_of}
use Rattle.query_answers.specs.windows.inner.Phases.{IsWalking}
use Rattle.query_answers.specs.windows.Phases.{refused_of}
use Rattle.query_answers.specs.windows.Settlement.{AsksTwice, HasSettled}

-- the claims were freed, and both phases are done
pub has-settled : (b : Batch) → IsLawful b → (opening : ℕ → List SignalCell) (handed begun : List KeptShard) → AreShards b opening (shards_in handed) → AreFreed (shards_in handed) (shards_in begun)
    → (new : List KeptShard) (outcomes : List (Outcome (List Run))) → AreFreeShards b opening new → IsWalking b (entries_of begun) (shards_in begun) (shards_in new) b.queries outcomes [] []
    → AsksTwice b opening (shards_in handed) (shards_in new) (refused_of outcomes) → HasSettled b opening handed new outcomes
has-settled b lawful opening handed begun are f new outcomes free w asks =
    let r = all-freed b lawful opening (shards_in handed) (shards_in begun) are f in
    record {
      numbers = free.numbers;
      settled = record {
        fresh = free.fresh;
        added = r.added ++ w.added;
        journals = added-more (journals_of (shards_in handed)) r.added (journals_of (shards_in begun)) w.added (journals_of (shards_in new)) r.journals w.journals;
        queries = all-before b lawful opening b.circuit (entries_of handed) r.added (entries_of begun) (entries_of new) r.journals.together r.drops b.queries (refused_of outcomes) w.settled;
      };
      outcomes_are = w.answers;
      asks = asks;
    }
