-- The circuit of the settings that change a value, and that of all rows, have the same values.
use Rattle.std.proofs.Common.{◌≡◌, ℕ, zero, suc, List, [], ◌∷◌, ◌++◌, length, map, get_or, refl, ap, ap₂, ◌∙◌}
use Rattle.std.specs.List.{range_with_len}
use Rattle.gate_values.specs.declared.Value.{Value}
use Rattle.gate_values.specs.declared.Value.TheVariants.{X}
use Rattle.circuit_meaning.specs.Circuit.{Circuit, Driver}
use Rattle.circuit_meaning.specs.Forward.{rows_below, row_at, next_row, value, value_from, entry}
use Rattle.bench_reader.specs.Netlists as netlists
use Rattle.bench_reader.specs.Netlists.{NetlistDriver, Primary, Driven}
use Rattle.timing_file.specs.Timing as timings
use Rattle.stimulus_file.specs.Stimulus.{SetRow}
use Rattle.design.specs.Join.{driver_at, joined_driver, circuit_from, stated_settings}
use Rattle.design.specs.Laws.{stated_driver, stated_circuit, RowsAreFollowed}
use Rattle.design.proofs.Repeats.{same-value-at}

map-alike : (f g : ℕ → Driver) (v : Driver → Value) → ((s : ℕ) → v (f s) ≡ v (g s)) → (xs : List ℕ) → map v (map f xs) ≡ map v (map g xs)
map-alike f g v h [] = refl
map-alike f g v h (x ∷ xs) = ap₂ (λ (y : Value) (ys : List Value). y ∷ ys) (h x) (map-alike f g v h xs)

-- circuits whose next rows are the same have the same values
module _ (c d : Circuit) (next : (rows : List (List Value)) → next_row c rows ≡ next_row d rows) where
  rows-same : (t : ℕ) → rows_below (next_row c) t ≡ rows_below (next_row d) t
  unfolding rows_below
  rows-same zero = refl
  rows-same (suc t) = ap (λ rows. rows ++ next_row c rows ∷ []) (rows-same t) ∙ ap (λ row. rows_below (next_row d) t ++ row ∷ []) (next (rows_below (next_row d) t))

  values-same : (s t : ℕ) → value c s t ≡ value d s t
  unfolding value row_at
  values-same s t = ap (λ row. get_or row s X) (ap (next_row c) (rows-same t) ∙ next (rows_below (next_row d) t))

module _ (netlist : netlists.Content) (timing : timings.Content) (sets : List SetRow) (before : ℕ → ℕ → Value) (t s : ℕ) where
  driven-alike : (d : NetlistDriver) → value_from before t (joined_driver netlist timing sets s d) ≡ value_from before t (stated_driver netlist timing sets s d)
  driven-alike Primary = same-value-at (stated_settings netlist sets s) t
  driven-alike (Driven kind pins) = refl

pub rows-are-followed : RowsAreFollowed
rows-are-followed netlist timing stimulus =
    values-same (circuit_from netlist timing stimulus) (stated_circuit netlist timing stimulus)
    (λ rows. map-alike (λ s. joined_driver netlist timing stimulus.sets s (driver_at netlist s)) (λ s. stated_driver netlist timing stimulus.sets s (driver_at netlist s))
    (value_from (entry rows) (length rows)) (λ s. driven-alike netlist timing stimulus.sets (entry rows) (length rows) s (driver_at netlist s)) (range_with_len 0 (length netlist.names)))
