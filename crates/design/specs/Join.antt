-- The join of a netlist, a timing file and a stimulus file: a design, or the first row at fault.
use Rattle.std.specs.Prelude.{◌≡◌, ℕ, Bool, true, false, not, ◌&&◌, nat_eq, nat_lt, nat_le, List, [], ◌∷◌, length, map, filter, slice_index_or, Option, Some, None, is_some, unwrap_or, Result, Ok, Err, if◌then◌else◌, ◌⊎◌, position}
use Rattle.std.specs.List.{range_with_len, dedup}
use Rattle.std.specs.Str.{bytes_eq}
use Rattle.gate_values.specs.declared.Value.{Value}
use Rattle.gate_values.specs.declared.Value.TheVariants.{X}
use Rattle.gate_values.specs.declared.Kind.{Kind}
use Rattle.gate_values.specs.declared.Kind.TheVariants.{Dff}
use Rattle.gate_values.specs.Gates.{same_value}
use Rattle.circuit_meaning.specs.declared.flip_flop.Clock.{Clock}
use Rattle.circuit_meaning.specs.declared.Setting.{Setting}
use Rattle.circuit_meaning.specs.declared.FlipFlop.{FlipFlop}
use Rattle.circuit_meaning.specs.Circuit as circuits
use Rattle.circuit_meaning.specs.Circuit.{Circuit}
use Rattle.bench_reader.specs.Netlists as netlists
use Rattle.bench_reader.specs.Netlists.{NetlistDriver, Primary, Driven}
use Rattle.timing_file.specs.Timing as timings
use Rattle.timing_file.specs.Timing.{default_of}
use Rattle.timing_file.specs.declared.ClockRow.{ClockRow}
use Rattle.timing_file.specs.declared.TimingRow.{TimingRow}
use Rattle.timing_file.specs.declared.TimingWhat.{TimingWhat}
use Rattle.timing_file.specs.declared.TimingWhat.TheVariants.{Delay, Init, Pin, Clocked}
use Rattle.stimulus_file.specs.Stimulus as stimuli
use Rattle.stimulus_file.specs.Stimulus.{SetRow}
use Rattle.design.specs.declared.fault.JoinCause.{JoinCause}
use Rattle.design.specs.declared.fault.JoinCause.TheVariants.{UnknownName, NotGate, NotInput, NotFlop, PastHorizon, NotPin, NoClock}
use Rattle.design.specs.declared.fault.JoinFile.{JoinFile}
use Rattle.design.specs.declared.fault.JoinFile.TheVariants as file
use Rattle.design.specs.declared.fault.JoinFault.{JoinFault}
use Rattle.design.specs.Causes.{out_of_memory}
use Rattle.design.specs.Joined.{Joined}
use Rattle.design.specs.KeptDesigns.{pins_with}

-- the number of the signal with this name
abbrev pub number : netlists.Content → List ℕ → Option ℕ
number netlist name = position (bytes_eq name) netlist.names

abbrev pub driver_at : netlists.Content → ℕ → NetlistDriver
driver_at netlist s = slice_index_or netlist.rows s Primary

abbrev pub is_dff : Kind → Bool
is_dff Dff = true
is_dff _ = false

abbrev pub is_input : NetlistDriver → Bool
is_input Primary = true
is_input (Driven kind pins) = false

abbrev pub is_flop : NetlistDriver → Bool
is_flop Primary = false
is_flop (Driven kind pins) = is_dff kind

-- whether it is a gate with this pin
abbrev pub has_pin : NetlistDriver → ℕ → Bool
has_pin Primary place = false
has_pin (Driven kind pins) place = not (is_dff kind) && nat_lt place (length pins)

abbrev pub or_else : {A : Type 0} → Option A → Option A → Option A
or_else None later = later
or_else (Some a) later = Some a

-- what the last of the rows that state anything states
abbrev pub last_said : {R A : Type 0} → (R → Option A) → List R → Option A
last_said says [] = None
last_said says (row ∷ later) = or_else (last_said says later) (says row)

abbrev pub clock_of_row : List ℕ → ClockRow → Option Clock
clock_of_row name row = if bytes_eq name row.name then Some row.clock else None

-- the clock with this name
abbrev pub clock_named : timings.Content → List ℕ → Option Clock
clock_named timing name = last_said (clock_of_row name) timing.clocks

-- this cause, unless the condition holds; then the later causes decide
abbrev pub unless : Bool → JoinCause → Option JoinCause → Option JoinCause
unless true cause later = later
unless false cause later = Some cause

-- the cause of a timing row that states this of a signal with this driver, if the row is at fault
abbrev pub cause_of_what : timings.Content → NetlistDriver → TimingWhat → Option JoinCause
cause_of_what timing driver (Delay delay) = unless (not (is_input driver)) NotGate None
cause_of_what timing driver (Init value) = unless (is_flop driver) NotFlop None
cause_of_what timing driver (Pin place delay) = unless (has_pin driver place) NotPin None
cause_of_what timing driver (Clocked clock) = unless (is_flop driver) NotFlop (unless (is_some (clock_named timing clock)) NoClock None)

-- the cause of a timing row, if it is at fault; the number is that of the signal with its name
abbrev pub cause_of_timing : netlists.Content → timings.Content → Option ℕ → TimingWhat → Option JoinCause
cause_of_timing netlist timing None what = Some UnknownName
cause_of_timing netlist timing (Some s) what = cause_of_what timing (driver_at netlist s) what

-- the cause of a setting at this time, if it is at fault
abbrev pub cause_of_set : netlists.Content → ℕ → Option ℕ → ℕ → Option JoinCause
cause_of_set netlist horizon None time = Some UnknownName
cause_of_set netlist horizon (Some s) time = unless (is_input (driver_at netlist s)) NotInput (unless (nat_le time horizon) PastHorizon None)

abbrev pub fault_of : JoinFile → ℕ → Option JoinCause → Option JoinFault
fault_of file line None = None
fault_of file line (Some cause) = Some (record { cause = cause; file = file; line = line })

abbrev pub timing_fault : netlists.Content → timings.Content → TimingRow → Option JoinFault
timing_fault netlist timing row = fault_of file.Timing row.line (cause_of_timing netlist timing (number netlist row.name) row.what)

abbrev pub set_fault : netlists.Content → ℕ → SetRow → Option JoinFault
set_fault netlist horizon row = fault_of file.Stimulus row.line (cause_of_set netlist horizon (number netlist row.name) row.time)

-- the first fault of some rows
abbrev pub first_fault : {R : Type 0} → (R → Option JoinFault) → List R → Option JoinFault
first_fault fault [] = None
first_fault fault (row ∷ later) = or_else (fault row) (first_fault fault later)

-- whether the number of a name is that of the signal s
abbrev pub is_signal : ℕ → Option ℕ → Bool
is_signal s None = false
is_signal s (Some n) = nat_eq n s

abbrev pub when : {A : Type 0} → Bool → Option A → Option A
when true said = said
when false said = None

abbrev pub delay_said : TimingWhat → Option ℕ
delay_said (Delay delay) = Some delay
delay_said _ = None

abbrev pub pin_said : ℕ → TimingWhat → Option ℕ
pin_said k (Pin place delay) = when (nat_eq place k) (Some delay)
pin_said k _ = None

abbrev pub initial_said : TimingWhat → Option Value
initial_said (Init value) = Some value
initial_said _ = None

abbrev pub clock_said : timings.Content → TimingWhat → Option Clock
clock_said timing (Clocked name) = clock_named timing name
clock_said timing _ = None

-- what the rows state of the signal s
abbrev pub said_of : {A : Type 0} → netlists.Content → ℕ → (TimingWhat → Option A) → TimingRow → Option A
said_of netlist s says row = when (is_signal s (number netlist row.name)) (says row.what)

abbrev pub rows_say : {A : Type 0} → netlists.Content → List TimingRow → ℕ → (TimingWhat → Option A) → Option A
rows_say netlist rows s says = last_said (said_of netlist s says) rows

-- the delay of a gate or flip-flop: that of its row, or else that of its kind
abbrev pub delay_of : netlists.Content → timings.Content → ℕ → Kind → ℕ
delay_of netlist timing s kind = unwrap_or (rows_say netlist timing.rows s delay_said) (default_of timing kind)

-- the delay of a pin: that of its own row, or else that of its gate
abbrev pub pin_delay : netlists.Content → timings.Content → ℕ → Kind → ℕ → ℕ
pin_delay netlist timing s kind k = unwrap_or (rows_say netlist timing.rows s (pin_said k)) (delay_of netlist timing s kind)

abbrev pub pin_delays : netlists.Content → timings.Content → ℕ → Kind → List ℕ → List ℕ
pin_delays netlist timing s kind pins = map (pin_delay netlist timing s kind) (range_with_len 0 (length pins))

-- a flip-flop has the clock of its row, or else the clock without a name; it shows x at first, unless a row states a value
abbrev pub flop_of : netlists.Content → timings.Content → ℕ → List ℕ → FlipFlop
flop_of netlist timing s pins = record {
  pin = slice_index_or pins 0 0;
  delay = delay_of netlist timing s Dff;
  clock = or_else (rows_say netlist timing.rows s (clock_said timing)) timing.clock;
  initial = unwrap_or (rows_say netlist timing.rows s initial_said) X;
}

-- a setting is placed before the later ones and before those of its own time
abbrev pub with_setting : Setting → List Setting → List Setting
with_setting setting [] = setting ∷ []
with_setting setting (next ∷ later) = if nat_le setting.time next.time then setting ∷ next ∷ later else next ∷ with_setting setting later

abbrev pub in_time_order : List Setting → List Setting
in_time_order [] = []
in_time_order (setting ∷ more) = with_setting setting (in_time_order more)

abbrev pub setting_of : SetRow → Setting
setting_of row = record { time = row.time; value = row.value }

abbrev pub is_at_one_time : Setting → Setting → Bool
is_at_one_time a b = nat_eq a.time b.time

-- the settings in the order of time; of several at one time, which no accepted stimulus file has, the first counts
abbrev pub schedule_of : List Setting → List Setting
schedule_of settings = dedup is_at_one_time (in_time_order settings)

-- the settings that change the value of an input, which has this value before them
abbrev pub changes_from : Value → List Setting → List Setting
changes_from value [] = []
changes_from value (setting ∷ later) = if same_value setting.value value then changes_from value later else setting ∷ changes_from setting.value later

-- An input is x until it is set. A setting that gives it the value that it has already is none.
abbrev pub changes_of : List Setting → List Setting
changes_of settings = changes_from X (schedule_of settings)

-- the rows of an input as settings, as they stand in the file
abbrev pub stated_settings : netlists.Content → List SetRow → ℕ → List Setting
stated_settings netlist sets s = map setting_of (filter (λ row. is_signal s (number netlist row.name)) sets)

abbrev pub settings_of : netlists.Content → List SetRow → ℕ → List Setting
settings_of netlist sets s = changes_of (stated_settings netlist sets s)

abbrev pub joined_gate : netlists.Content → timings.Content → ℕ → Bool → Kind → List ℕ → circuits.Driver
joined_gate netlist timing s true kind pins = circuits.Flop (flop_of netlist timing s pins)
joined_gate netlist timing s false kind pins = circuits.Gate kind (pins_with pins (pin_delays netlist timing s kind pins))

abbrev pub joined_driver : netlists.Content → timings.Content → List SetRow → ℕ → NetlistDriver → circuits.Driver
joined_driver netlist timing sets s Primary = circuits.Input (settings_of netlist sets s)
joined_driver netlist timing sets s (Driven kind pins) = joined_gate netlist timing s (is_dff kind) kind pins

abbrev pub circuit_from : netlists.Content → timings.Content → stimuli.Content → Circuit
circuit_from netlist timing stimulus = record {
  horizon = stimulus.horizon;
  drivers = map (λ s. joined_driver netlist timing stimulus.sets s (driver_at netlist s)) (range_with_len 0 (length netlist.names));
}

abbrev pub unless_fault : Option JoinFault → Joined → Result Joined JoinFault
unless_fault None joined = Ok joined
unless_fault (Some fault) joined = Err fault

-- the first fault of the timing rows, or else of the settings, or else the design
unfoldable pub design_of : netlists.Content → timings.Content → stimuli.Content → Result Joined JoinFault
design_of netlist timing stimulus =
    unless_fault (or_else (first_fault (timing_fault netlist timing) timing.rows) (first_fault (set_fault netlist stimulus.horizon) stimulus.sets))
    (record { netlist = netlist; circuit = circuit_from netlist timing stimulus })

-- the result is this one, unless memory ran out
abbrev pub AnswersDesign : Result Joined JoinFault → Result Joined JoinFault → Type 0
AnswersDesign (Ok joined) said = said ≡ Ok joined
AnswersDesign (Err fault) said = (fault ≡ out_of_memory) ⊎ (said ≡ Err fault)
