use Rattle.std.proofs.Common.{◌≡◌, ◌++◌, ℕ, take}
use Rattle.std.specs.BTreeMap.{get}
use Rattle.std.specs.Ordering.{nat_cmp}
use Rattle.plan_machine.specs.Settling.{fills_of}
use Rattle.query_answers.specs.windows.inner.Fills.{points_in}
use Rattle.query_answers.proofs.windows.fills.FilledPoints.note_all.Given as goal

abbrev pub invariant-loop-entry : goal.invariant-loop-entry
invariant-loop-entry l = (n : ℕ) → points_in (get nat_cmp l.self.by_query n) ≡ points_in (get nat_cmp l.initial.self.by_query n) ++ fills_of (take l.entry-index l.entries) n
