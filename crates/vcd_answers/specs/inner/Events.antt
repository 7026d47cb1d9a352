-- Changes of all wires in one list, and their text.
use Rattle.std.specs.Prelude.{ℕ, ◌+◌, ◌==◌, List, [], ◌∷◌, ◌++◌, map, filter, flat_map, if◌then◌else◌}
use Rattle.std.specs.List.{range_with_len}
use Rattle.circuit_meaning.specs.declared.Run.{Run}
use Rattle.vcd_answers.specs.declared.writing.Event.{Event}
use Rattle.vcd_answers.specs.Wires.{Wire, last_time}
use Rattle.vcd_answers.specs.Dumps.{is_at, first_code, change_line, time_line, with_line_feed}

abbrev pub event : ℕ → Run → Event
event code run = record { time = run.time; code = code; value = run.value }

abbrev pub run_of : Event → Run
run_of e = record { time = e.time; value = e.value }

-- the changes, wire by wire
abbrev pub by_wire : ℕ → List Wire → List Event
by_wire code [] = []
by_wire code (wire ∷ wires) = map (event code) wire.changes ++ by_wire (code + 1) wires

-- the changes at the time t, in the order of the wires
abbrev pub events_at : ℕ → List Wire → ℕ → List Event
events_at code [] t = []
events_at code (wire ∷ wires) t = map (event code) (filter (is_at t) wire.changes) ++ events_at (code + 1) wires t

-- the changes in the order of time
abbrev pub by_time : List Wire → List Event
by_time wires = flat_map (events_at first_code wires) (range_with_len 0 (last_time + 1))

-- the text of a change, after a line of this time
abbrev pub event_line : ℕ → Event → List ℕ
event_line last e = (if e.time == last then [] else with_line_feed (time_line e.time)) ++ with_line_feed (change_line e.code (run_of e))

abbrev pub event_text : ℕ → List Event → List ℕ
event_text last [] = []
event_text last (e ∷ events) = event_line last e ++ event_text e.time events
