-- The wires of a dump: what a dump shows of a signal.
use Rattle.std.specs.Prelude.{ℕ, ◌+◌, ◌-◌, ◌≤◌, ◌==◌, ◌||◌, ◌&&◌, Bool, false, not, nat_le, nat_lt, IsTrue, List, [], ◌∷◌, ◌++◌, length, map, filter, if◌then◌else◌}
use Rattle.std.specs.List.{range_with_len, list_all}
use Rattle.gate_values.specs.declared.Value.{Value}
use Rattle.gate_values.specs.declared.Value.TheVariants.{X}
use Rattle.gate_values.specs.Gates.{same_value}
use Rattle.circuit_meaning.specs.declared.Run.{Run}
use Rattle.circuit_meaning.specs.Circuit.{Circuit}
use Rattle.circuit_meaning.specs.Forward.{value}
use Rattle.texts.specs.Text.{is_name}

-- a name, and the times at which a value begins
pub record Wire : Type 0 where
  pub name : List ℕ
  pub changes : List Run

-- the last time of a dump: just after the longest horizon
unfoldable pub last_time : ℕ
last_time = 1000001

-- the changes of a function of time up to this time: one at time 0, and one at each later time whose value differs from the value just
-- before
abbrev pub changes_of : (ℕ → Value) → ℕ → List Run
changes_of f last = map (λ t. record { time = t; value = f t }) (filter (λ t. (t == 0) || not (same_value (f t) (f (t - 1)))) (range_with_len 0 (last + 1)))

-- what a window shows of a function of time: its values in [start, stop), and x elsewhere
abbrev pub shown_value : (ℕ → Value) → ℕ → ℕ → ℕ → Value
shown_value f start stop t = if nat_le start t && nat_lt t stop then f t else X

-- the wire of a query for the signal s in the window from start to stop, up to just after the horizon
abbrev pub wire_of_query : List ℕ → Circuit → ℕ → ℕ → ℕ → Wire
wire_of_query name c s start stop = record { name = name; changes = changes_of (shown_value (value c s) start stop) (c.horizon + 1) }

-- x from time 0 on, if the window begins later
abbrev pub before_window : ℕ → List Run
before_window start = if start == 0 then [] else record { time = 0; value = X } ∷ []

-- the runs of a window, with x before it and from its end on; neighbours may have one value
abbrev pub wire_runs : ℕ → ℕ → List Run → List Run
wire_runs start stop runs = before_window start ++ runs ++ record { time = stop; value = X } ∷ []

-- runs that may come after this one: times ascend, consecutive values differ, and no time is after the last time of a dump
abbrev pub goes_on : Run → List Run → Bool
goes_on run [] = nat_le run.time last_time
goes_on run (next ∷ runs) = nat_lt run.time next.time && not (same_value run.value next.value) && goes_on next runs

-- the changes of a wire: the first at time 0
abbrev pub are_changes : List Run → Bool
are_changes [] = false
are_changes (run ∷ runs) = (run.time == 0) && goes_on run runs

-- a wire that a dump can hold
abbrev pub is_wire : Wire → Bool
is_wire wire = is_name wire.name && are_changes wire.changes

-- wires that a dump can hold
pub record AreWires (wires : List Wire) : Type 0 where
  pub few : length wires ≤ 64
  pub each : IsTrue (list_all is_wire wires)
