-- With the lines of the changes that are left the text is whole.
use Rattle.std.proofs.Common.{◌≡◌, ◌++◌, drop}
use Rattle.vcd_answers.specs.inner.Events.{event_text}
use Rattle.vcd_answers.proofs.writing.push_events.Given as goal

abbrev pub invariant-loop-event : goal.invariant-loop-event
invariant-loop-event l = l.text.items ++ event_text l.last (drop l.event-index l.events) ≡ l.initial.text.items ++ event_text 0 l.events
