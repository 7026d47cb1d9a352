use Rattle.std.proofs.Common.{◌+◌, length, not}
use Rattle.std.specs.Prelude.{count_by}
use Rattle.design.proofs.Walked.{WalkedOn}
use Rattle.design.proofs.design.Design.reached.Given as goal

abbrev pub invariant-signals : goal.invariant-signals
invariant-signals l = WalkedOn l.self.circuit l.site l.walk.marks.items l.walk.ahead.items

abbrev pub decreases-signals : goal.decreases-signals
decreases-signals l = count_by not l.walk.marks.items + length l.walk.ahead.items
