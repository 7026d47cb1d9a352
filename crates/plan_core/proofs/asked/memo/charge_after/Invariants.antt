use Rattle.std.proofs.Common.{◌≡◌, ◌+◌, min, take}
use Rattle.journal_meaning.specs.Answers.{fill_count}
use Rattle.plan_core.proofs.asked.memo.charge_after.Given as goal

abbrev pub invariant-loop-entry : goal.invariant-loop-entry
invariant-loop-entry l = l.total ≡ min (l.charge + fill_count (take l.entry-index l.entries) l.query.number) l.query.budget
