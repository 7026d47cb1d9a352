-- The order of settings does not matter, nor does a setting that repeats a value.
use Rattle.std.specs.Prelude.{◌≡◌, ◌≢◌, ℕ, ◌+◌, ◌<◌, List, map, length}
use Rattle.std.specs.List.{range_with_len}
use Rattle.gate_values.specs.declared.Value.{Value}
use Rattle.valid_intervals.specs.Spans.{Span, IsIn, from_to}
use Rattle.circuit_meaning.specs.declared.Setting.{Setting}
use Rattle.circuit_meaning.specs.Circuit.{Circuit, Driver, Input}
use Rattle.circuit_meaning.specs.Forward.{last_setting, input_value, value}
use Rattle.circuit_meaning.specs.Cells.{next_setting, input_start}
use Rattle.bench_reader.specs.Netlists as netlists
use Rattle.bench_reader.specs.Netlists.{NetlistDriver, Primary, Driven}
use Rattle.timing_file.specs.Timing as timings
use Rattle.stimulus_file.specs.Stimulus as stimuli
use Rattle.stimulus_file.specs.Stimulus.{SetRow}
use Rattle.design.specs.Join.{driver_at, joined_driver, circuit_from, schedule_of, changes_of, stated_settings}

-- sorted settings, with each time once, have at every time the last and the next setting of the unsorted ones
pub record OrderIsFree (settings : List Setting) (t limit : ℕ) : Type 0 where
  pub last : last_setting (schedule_of settings) t ≡ last_setting settings t
  pub next : next_setting (schedule_of settings) t limit ≡ next_setting settings t limit

-- the value of an input with these settings at t
abbrev pub set_value : List Setting → ℕ → Value
set_value settings t = input_value (last_setting settings t)

-- the interval of its cell
abbrev pub set_span : ℕ → List Setting → ℕ → Span
set_span limit settings t = from_to (input_start (last_setting settings t)) (next_setting settings t limit)

-- The settings that change the value give the value of all settings at every time. The cell at t has one value, the time before it has
-- another, and so has the time after it, unless that is the limit.
pub record RepeatsAreFree (settings : List Setting) (t limit : ℕ) : Type 0 where
  pub value : set_value (changes_of settings) t ≡ set_value settings t
  pub inside : (u : ℕ) → IsIn (set_span limit (changes_of settings) t) u → set_value settings u ≡ set_value settings t
  pub before : (u : ℕ) → u + 1 ≡ (set_span limit (changes_of settings) t).start → set_value settings u ≢ set_value settings t
  pub after : (u : ℕ) → u ≡ (set_span limit (changes_of settings) t).stop → u < limit → set_value settings u ≢ set_value settings t

-- a driver whose settings are all rows of its input, as they stand in the file
abbrev pub stated_driver : netlists.Content → timings.Content → List SetRow → ℕ → NetlistDriver → Driver
stated_driver netlist timing sets s Primary = Input (stated_settings netlist sets s)
stated_driver netlist timing sets s (Driven kind pins) = joined_driver netlist timing sets s (Driven kind pins)

-- the circuit of three files with all rows of the stimulus file
abbrev pub stated_circuit : netlists.Content → timings.Content → stimuli.Content → Circuit
stated_circuit netlist timing stimulus = record {
  horizon = stimulus.horizon;
  drivers = map (λ s. stated_driver netlist timing stimulus.sets s (driver_at netlist s)) (range_with_len 0 (length netlist.names));
}

-- every signal has at every time the value that all rows give it
abbrev pub RowsAreFollowed : Type 0
RowsAreFollowed = (netlist : netlists.Content) (timing : timings.Content) (stimulus : stimuli.Content) (s t : ℕ)
    → value (circuit_from netlist timing stimulus) s t ≡ value (stated_circuit netlist timing stimulus) s t
