use Rattle.unit_answers.proofs.Dumping.{AreShown}
use Rattle.unit_answers.proofs.dump.dump_waves.Given as goal

-- The wires are those of the items so far.
abbrev pub invariant-loop-i : goal.invariant-loop-i
invariant-loop-i l = AreShown l.design l.items l.replies l.i l.wires.items
