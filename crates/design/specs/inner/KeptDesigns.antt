-- Definitions for proofs and private functions, beside `KeptDesigns`.
use Rattle.std.specs.Prelude.{◌≡◌, ℕ, ◌+◌, ◌<◌, ◌≤◌, List, [], ◌∷◌, length, map, take, drop, slice_index_or, AllPairs, None}
use Rattle.std.specs.List.{range_with_len}
use Rattle.bench_reader.specs.Netlists.{Primary, Content, pins_of}
use Rattle.gate_values.specs.declared.Value.TheVariants.{X}
use Rattle.circuit_meaning.specs.declared.Setting.{Setting}
use Rattle.circuit_meaning.specs.declared.FlipFlop.{FlipFlop}
use Rattle.circuit_meaning.specs.Circuit.{Driver, Input, Gate, Flop, Circuit, IsDriver, AreDriverLimits, driver}
use Rattle.circuit_meaning.specs.Cells.{least_delay}
use Rattle.design.specs.declared.rows.Row.{Row}
use Rattle.design.specs.declared.rows.Row.TheVariants as row
use Rattle.design.specs.declared.rows.SignalView.{SignalView as View}
use Rattle.design.specs.declared.rows.SignalView.TheVariants as view
use Rattle.design.specs.Joined.{Joined, IsDesign}
use Rattle.design.specs.KeptDesigns.{pins_with}

-- each setting is after those before it
abbrev pub InTimeOrder : List Setting → Type 0
InTimeOrder settings = AllPairs (λ a b. a.time < b.time) settings

-- what is kept of all signals
pub record KeptDesign : Type 0 where
  pub horizon : ℕ
  pub netlist : Content
  pub rows : List Row
  pub delays : List ℕ
  pub flops : List FlipFlop
  pub settings : List (List Setting)

-- the delays of this many pins, from a place on
abbrev pub delays_at : KeptDesign → ℕ → ℕ → List ℕ
delays_at k start pins = take pins (drop start k.delays)

abbrev pub flop_at : KeptDesign → ℕ → FlipFlop
flop_at k place = slice_index_or k.flops place (record { pin = 0; delay = 1; clock = None; initial = X })

abbrev pub settings_at : KeptDesign → ℕ → List Setting
settings_at k place = slice_index_or k.settings place []

-- the driver with this row, which reads these signals
abbrev pub driver_of : KeptDesign → List ℕ → Row → Driver
driver_of k signals (row.Input place) = Input (settings_at k place)
driver_of k signals (row.Gate kind least start) = Gate kind (pins_with signals (delays_at k start (length signals)))
driver_of k signals (row.Flop place) = Flop (flop_at k place)

-- the row names places that are there, and what stands there fits it
abbrev pub FitsRow : KeptDesign → List ℕ → Row → Type 0
FitsRow k signals (row.Input place) = (place < length k.settings) × InTimeOrder (settings_at k place)
FitsRow k signals (row.Gate kind least start) = (start + length signals ≤ length k.delays) × (least ≡ least_delay (pins_with signals (delays_at k start (length signals))))
FitsRow k signals (row.Flop place) = (place < length k.flops) × (signals ≡ (flop_at k place).pin ∷ [])

abbrev pub signals_of : KeptDesign → ℕ → List ℕ
signals_of k s = pins_of (slice_index_or k.netlist.rows s Primary)

abbrev pub row_at : KeptDesign → ℕ → Row
row_at k s = slice_index_or k.rows s (row.Input 0)

abbrev pub driver_at : KeptDesign → ℕ → Driver
driver_at k s = driver_of k (signals_of k s) (row_at k s)

abbrev pub circuit_of : KeptDesign → Circuit
circuit_of k = record { horizon = k.horizon; drivers = map (driver_at k) (range_with_len 0 (length k.netlist.names)) }

abbrev pub joined_of : KeptDesign → Joined
joined_of k = record { netlist = k.netlist; circuit = circuit_of k }

abbrev pub FitsAt : KeptDesign → ℕ → Type 0
FitsAt k s = FitsRow k (signals_of k s) (row_at k s)

pub record IsKeptDesign (k : KeptDesign) : Type 0 where
  pub design : IsDesign (joined_of k)
  pub shapes : length k.netlist.rows ≡ length k.netlist.names
  pub rows : length k.rows ≡ length k.netlist.names
  pub fits : (s : ℕ) → s < length k.netlist.names → FitsAt k s

-- the driver of a signal with this view
abbrev pub driver_seen : View → Driver
driver_seen (view.Input settings) = Input settings.now
driver_seen (view.Gate kind signals delays least) = Gate kind (pins_with signals.now delays.now)
driver_seen (view.Flop f signals) = Flop f

abbrev pub FitsFrom : View → Type 0
FitsFrom (view.Input settings) = InTimeOrder settings.now
FitsFrom (view.Gate kind signals delays least) = (length delays.now ≡ length signals.now) × (least ≡ least_delay (pins_with signals.now delays.now))
FitsFrom (view.Flop f signals) = signals.now ≡ f.pin ∷ []

-- the view is that of the signal s
pub record IsViewOf (c : Circuit) (s : ℕ) (r : View) : Type 0 where
  pub driver : driver c s ≡ driver_seen r
  pub sound : IsDriver (length c.drivers) c.horizon (driver_seen r)
  pub within : AreDriverLimits (driver_seen r)
  pub fits : FitsFrom r
