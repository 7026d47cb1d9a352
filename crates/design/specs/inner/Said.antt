-- What is kept of the rows of the two files while they are read.
use Rattle.std.specs.Prelude.{◌≡◌, ℕ, zero, suc, Bool, List, [], ◌∷◌, ◌++◌, length, map, slice_index_or, Option, Some, None, Result, Ok, Err, if◌then◌else◌, ◌⊎◌, ◌<◌, true, false, fold, min}
use Rattle.std.specs.Option.{ok_or}
use Rattle.std.specs.Global.{Vec}
use Rattle.std.specs.declared.cmp.Ordering.{Ordering}
use Rattle.std.specs.Ordering.{nat_cmp, ordering_then}
use Rattle.std.specs.Cmp.Lexicographic.{slice_cmp}
use Rattle.std.specs.BTreeMap.{BTreeMap, get, get_by}
use Rattle.std.specs.Borrow.{Bor}
use Rattle.gate_values.specs.declared.Kind.{Kind}
use Rattle.circuit_meaning.specs.declared.flip_flop.Clock.{Clock}
use Rattle.circuit_meaning.specs.declared.Setting.{Setting}
use Rattle.circuit_meaning.specs.declared.FlipFlop.{FlipFlop}
use Rattle.bench_reader.specs.Netlists as netlists
use Rattle.bench_reader.specs.Netlists.{NetlistDriver, Primary, Driven}
use Rattle.timing_file.specs.Timing as timings
use Rattle.timing_file.specs.declared.ClockRow.{ClockRow}
use Rattle.timing_file.specs.declared.TimingRow.{TimingRow}
use Rattle.stimulus_file.specs.Stimulus.{SetRow}
use Rattle.design.specs.declared.fault.JoinCause.{JoinCause}
use Rattle.design.specs.declared.fault.JoinCause.TheVariants.{UnknownName, NotInput}
use Rattle.design.specs.declared.fault.JoinFault.{JoinFault}
use Rattle.design.specs.declared.rows.Row.{Row}
use Rattle.design.specs.declared.rows.Row.TheVariants as row
use Rattle.design.specs.declared.signal_timing.SignalTiming.{SignalTiming}
use Rattle.design.specs.declared.signal_timing.Rows.{Rows}
use Rattle.std.specs.List.{range_with_len}
use Rattle.design.specs.Causes.{out_of_memory}
use Rattle.design.specs.Join.{number, driver_at, is_dff, is_input, clock_of_row, last_said, rows_say, delay_said, pin_said, initial_said, clock_said, timing_fault, set_fault, first_fault, stated_settings, pin_delays, flop_of}

-- the clocks of these rows, by their names
abbrev pub KnowsClocks : List ClockRow → BTreeMap (Bor (List ℕ)) Clock → Type 0
KnowsClocks rows clocks = (name : Bor (List ℕ)) → get_by (λ key. slice_cmp nat_cmp name.now key.now) clocks ≡ last_said (clock_of_row name.now) rows

-- what a list has of a signal
abbrev pub stated_of : {V : Type 0} → List (Option V) → ℕ → Option V
stated_of list s = slice_index_or list s None

-- pins are in the order of their signals, and of their places
abbrev pub pin_cmp : ℕ × ℕ → ℕ × ℕ → Ordering
pin_cmp a b = ordering_then (nat_cmp a.0 b.0) (nat_cmp a.1 b.1)

-- what these rows state of each signal
pub record HasStated (netlist : netlists.Content) (timing : timings.Content) (rows : List TimingRow) (stated : SignalTiming) : Type 0 where
  pub delays : (s : ℕ) → stated_of stated.delays.items s ≡ rows_say netlist rows s delay_said
  pub pins : (s k : ℕ) → get pin_cmp stated.pins (s, k) ≡ rows_say netlist rows s (pin_said k)
  pub initials : (s : ℕ) → stated_of stated.initials.items s ≡ rows_say netlist rows s initial_said
  pub clocks : (s : ℕ) → stated_of stated.clocks.items s ≡ rows_say netlist rows s (clock_said timing)

-- the result of one more timing row
abbrev pub TakesRow : netlists.Content → timings.Content → List TimingRow → TimingRow → SignalTiming → Result (Unit {0}) JoinFault → Type 0
TakesRow netlist timing before row stated (Ok x) = (timing_fault netlist timing row ≡ None) × HasStated netlist timing (before ++ row ∷ []) stated
TakesRow netlist timing before row stated (Err fault) = (fault ≡ out_of_memory) ⊎ (timing_fault netlist timing row ≡ Some fault)

-- the result of all timing rows
abbrev pub TakesRows : netlists.Content → timings.Content → Result SignalTiming JoinFault → Type 0
TakesRows netlist timing (Ok stated) = (first_fault (timing_fault netlist timing) timing.rows ≡ None) × HasStated netlist timing timing.rows stated
TakesRows netlist timing (Err fault) = (fault ≡ out_of_memory) ⊎ (first_fault (timing_fault netlist timing) timing.rows ≡ Some fault)

-- what the first n signals have, one after another
abbrev pub of_first : {A : Type 0} → (ℕ → List A) → ℕ → List A
of_first has zero = []
of_first has (suc n) = of_first has n ++ has n

-- an input by itself, and nothing for a signal that is driven
abbrev pub input_at : netlists.Content → ℕ → List ℕ
input_at netlist s = if is_input (driver_at netlist s) then s ∷ [] else []

-- the inputs among the first n signals
abbrev pub inputs_in : netlists.Content → ℕ → List ℕ
inputs_in netlist n = of_first (input_at netlist) n

-- all inputs, in the order of the signals
abbrev pub inputs_of : netlists.Content → List ℕ
inputs_of netlist = inputs_in netlist (length netlist.names)

-- the place that the row of an input tells
abbrev pub place_in : Row → Option ℕ
place_in (row.Input place) = Some place
place_in (row.Gate kind least start) = None
place_in (row.Flop place) = None

-- the place of an input among all inputs
abbrev pub place_of : netlists.Content → ℕ → Option ℕ
place_of netlist s = if is_input (driver_at netlist s) then Some (length (inputs_in netlist s)) else None

-- the rows tell which signals are inputs, and their places
pub record KnowsInputs (netlist : netlists.Content) (rows : List Row) : Type 0 where
  pub long : length rows ≡ length netlist.names
  pub each : (s : ℕ) → s < length netlist.names → place_in (slice_index_or rows s (row.Input 0)) ≡ place_of netlist s

-- the place of the input with this number, or why it is none
abbrev pub input_numbered : netlists.Content → Option ℕ → Result ℕ JoinCause
input_numbered netlist None = Err UnknownName
input_numbered netlist (Some s) = ok_or (place_of netlist s) NotInput

-- the place of the input with this name, or why it is none
abbrev pub input_of : netlists.Content → List ℕ → Result ℕ JoinCause
input_of netlist name = input_numbered netlist (number netlist name)

abbrev pub lists_in : List (Vec Setting) → List (List Setting)
lists_in buckets = map (λ b. b.items) buckets

-- the settings of each input in the order of the file
pub record HasSets (netlist : netlists.Content) (rows : List SetRow) (buckets : List (Vec Setting)) : Type 0 where
  pub long : length buckets ≡ length (inputs_of netlist)
  pub each : (k : ℕ) → k < length (inputs_of netlist) → slice_index_or (lists_in buckets) k [] ≡ stated_settings netlist rows (slice_index_or (inputs_of netlist) k 0)

abbrev pub TakesSet : netlists.Content → ℕ → List SetRow → SetRow → List (Vec Setting) → Result (Unit {0}) JoinFault → Type 0
TakesSet netlist horizon before row buckets (Ok x) = (set_fault netlist horizon row ≡ None) × HasSets netlist (before ++ row ∷ []) buckets
TakesSet netlist horizon before row buckets (Err fault) = (fault ≡ out_of_memory) ⊎ (set_fault netlist horizon row ≡ Some fault)

abbrev pub TakesSets : netlists.Content → ℕ → List SetRow → Result (Vec (Vec Setting)) JoinFault → Type 0
TakesSets netlist horizon rows (Ok buckets) = (first_fault (set_fault netlist horizon) rows ≡ None) × HasSets netlist rows buckets.items
TakesSets netlist horizon rows (Err fault) = (fault ≡ out_of_memory) ⊎ (first_fault (set_fault netlist horizon) rows ≡ Some fault)

-- the least of these delays
abbrev pub least_of : List ℕ → ℕ
least_of [] = 0
least_of (d ∷ more) = fold min d more

-- the delays of the pins of a gate; a flip-flop keeps its own delay
abbrev pub gate_delays : netlists.Content → timings.Content → ℕ → Bool → Kind → List ℕ → List ℕ
gate_delays netlist timing s true kind pins = []
gate_delays netlist timing s false kind pins = pin_delays netlist timing s kind pins

abbrev pub delays_of : netlists.Content → timings.Content → ℕ → NetlistDriver → List ℕ
delays_of netlist timing s Primary = []
delays_of netlist timing s (Driven kind pins) = gate_delays netlist timing s (is_dff kind) kind pins

abbrev pub delays_at : netlists.Content → timings.Content → ℕ → List ℕ
delays_at netlist timing s = delays_of netlist timing s (driver_at netlist s)

-- a flip-flop by itself, and nothing for another signal
abbrev pub flops_of : netlists.Content → timings.Content → ℕ → NetlistDriver → List FlipFlop
flops_of netlist timing s Primary = []
flops_of netlist timing s (Driven kind pins) = if is_dff kind then flop_of netlist timing s pins ∷ [] else []

abbrev pub flops_at : netlists.Content → timings.Content → ℕ → List FlipFlop
flops_at netlist timing s = flops_of netlist timing s (driver_at netlist s)

abbrev pub gate_row : netlists.Content → timings.Content → ℕ → Bool → Kind → List ℕ → Row
gate_row netlist timing s true kind pins = row.Flop (length (of_first (flops_at netlist timing) s))
gate_row netlist timing s false kind pins = row.Gate kind (least_of (pin_delays netlist timing s kind pins)) (length (of_first (delays_at netlist timing) s))

abbrev pub row_of : netlists.Content → timings.Content → ℕ → NetlistDriver → Row
row_of netlist timing s Primary = row.Input (length (inputs_in netlist s))
row_of netlist timing s (Driven kind pins) = gate_row netlist timing s (is_dff kind) kind pins

abbrev pub row_at : netlists.Content → timings.Content → ℕ → Row
row_at netlist timing s = row_of netlist timing s (driver_at netlist s)

-- what is kept of the first n signals
pub record KeepsRows (netlist : netlists.Content) (timing : timings.Content) (n : ℕ) (kept : Rows) : Type 0 where
  pub inputs : kept.inputs ≡ length (inputs_in netlist n)
  pub rows : kept.rows.items ≡ map (row_at netlist timing) (range_with_len 0 n)
  pub delays : kept.delays.items ≡ of_first (delays_at netlist timing) n
  pub flops : kept.flops.items ≡ of_first (flops_at netlist timing) n
