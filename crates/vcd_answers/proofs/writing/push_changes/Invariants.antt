use Rattle.std.proofs.Common.{◌≡◌, ◌++◌, take, map}
use Rattle.vcd_answers.specs.inner.Events.{event}
use Rattle.vcd_answers.proofs.writing.push_changes.Given as goal

abbrev pub invariant-loop-run : goal.invariant-loop-run
invariant-loop-run l = l.events.items ≡ l.fn.events.items ++ map (event l.code) (take l.run-index l.changes)
