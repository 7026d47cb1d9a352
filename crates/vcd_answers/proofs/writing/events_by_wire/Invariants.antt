-- With the changes of the wires that are left the list is whole.
use Rattle.std.proofs.Common.{◌≡◌, ◌+◌, ◌++◌, drop}
use Rattle.vcd_answers.specs.inner.Events.{by_wire}
use Rattle.vcd_answers.proofs.writing.events_by_wire.Given as goal

abbrev pub invariant-loop-wire : goal.invariant-loop-wire
invariant-loop-wire l = (l.code ≡ 33 + l.wire-index) × (l.events.items ++ by_wire l.code (drop l.wire-index l.wires) ≡ by_wire 33 l.wires)
