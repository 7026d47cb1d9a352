-- Forward simulation: the value of every signal at every time. Each row of values is made from the earlier rows. Delays are transport
-- delays: a pin sees its signal's value of exactly one delay ago, and every pulse passes.
use Rattle.std.specs.Prelude.{ℕ, zero, suc, ◌+◌, ◌-◌, nat_lt, nat_le, if◌then◌else◌, not, ◌||◌, ◌==◌, List, [], ◌∷◌, ◌++◌, length, slice_index_or, map, filter, Option, Some, None}
use Rattle.std.specs.List.{range_with_len}
use Rattle.gate_values.specs.declared.Value.{Value}
use Rattle.gate_values.specs.declared.Value.TheVariants.{X}
use Rattle.gate_values.specs.declared.Kind.TheVariants.{Dff}
use Rattle.gate_values.specs.Gates.{gate_value, same_value}
use Rattle.circuit_meaning.specs.Circuit.{Setting, Pin, FlipFlop, Driver, Input, Gate, Flop, Circuit}
use Rattle.circuit_meaning.specs.declared.Run.{Run}
use Rattle.circuit_meaning.specs.Edges.{shown_edge}

-- one more row, made from the rows so far
abbrev pub with_next_row : {A : Type 0} → (List A → A) → List A → List A
with_next_row next rows = rows ++ next rows ∷ []

-- the rows for the times below t, each made from the earlier rows
unfoldable pub rows_below : {A : Type 0} → (List A → A) → ℕ → List A
rows_below next zero = []
rows_below next (suc t) = with_next_row next (rows_below next t)

-- the row for the time t
unfoldable pub row_at : {A : Type 0} → (List A → A) → ℕ → A
row_at next t = next (rows_below next t)

-- the later of the two settings
abbrev pub later : Setting → Option Setting → Option Setting
later a None = Some a
later a (Some b) = Some (if nat_lt a.time b.time then b else a)

-- the latest setting at or before t
unfoldable pub last_setting : List Setting → ℕ → Option Setting
last_setting [] t = None
last_setting (s ∷ rest) t = if nat_le s.time t then later s (last_setting rest t) else last_setting rest t

abbrev pub input_value : Option Setting → Value
input_value None = X
input_value (Some s) = s.value

-- what a pin of a gate sees at t; before s u is the value of the signal s at an earlier time u; before time 0 the pin sees x
abbrev pub seen_value : (ℕ → ℕ → Value) → ℕ → Pin → Value
seen_value before t p = if nat_lt t p.delay then X else before p.signal (t - p.delay)

-- what a flip-flop shows: its pin at the edge, or its initial value
abbrev pub flop_value : (ℕ → ℕ → Value) → FlipFlop → Option ℕ → Value
flop_value before f None = f.initial
flop_value before f (Some e) = gate_value Dff (before f.pin e ∷ [])

-- the value that a driver gives at t
abbrev pub value_from : (ℕ → ℕ → Value) → ℕ → Driver → Value
value_from before t (Input settings) = input_value (last_setting settings t)
value_from before t (Gate kind pins) = gate_value kind (map (seen_value before t) pins)
value_from before t (Flop f) = flop_value before f (shown_edge f.clock f.delay t)

-- the entry of the signal s in the row of the time t; x if there is none
abbrev pub entry : List (List Value) → ℕ → ℕ → Value
entry rows s t = slice_index_or (slice_index_or rows t []) s X

-- the row that comes after these rows
abbrev pub next_row : Circuit → List (List Value) → List Value
next_row c rows = map (value_from (entry rows) (length rows)) c.drivers

-- the rows for the times 0 to the horizon
abbrev pub forward : Circuit → List (List Value)
forward c = rows_below (next_row c) (c.horizon + 1)

-- the value of the signal s at the time t
unfoldable pub value : Circuit → ℕ → ℕ → Value
value c s t = slice_index_or (row_at (next_row c) t) s X

-- the times [a, b)
abbrev pub window : ℕ → ℕ → List ℕ
window a b = range_with_len a (b - a)

-- the waveform of the signal s in the window from a to b: a run at the start of the window, and one at each change of the value
unfoldable pub wave : Circuit → ℕ → ℕ → ℕ → List Run
wave c s a b = map (λ t. record { time = t; value = value c s t }) (filter (λ t. (t == a) || not (same_value (value c s t) (value c s (t - 1)))) (window a b))
