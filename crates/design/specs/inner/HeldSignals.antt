-- A design with held signals, over the design without them.
use Rattle.std.specs.Prelude.{◌≡◌, ℕ, ◌<◌, nat_eq, List, [], ◌∷◌, length, filter, Option, option_map, is_none}
use Rattle.std.specs.List.{find}
use Rattle.std.specs.Option.{ForSome}
use Rattle.gate_values.specs.declared.Value.{Value}
use Rattle.circuit_meaning.specs.declared.Setting.{Setting}
use Rattle.circuit_meaning.specs.Circuit.{Circuit}
use Rattle.circuit_meaning.specs.Forced.{forced_circuit}
use Rattle.design.specs.declared.held.HeldSignal.{HeldSignal}
use Rattle.design.specs.Joined.{Joined, IsDesign}
use Rattle.design.specs.inner.Walk.{list_at, AreReaders, ReadIt}

-- the settings of a signal that has the value w at all times
abbrev pub held_settings : Value → List Setting
held_settings w = record { time = 0; value = w } ∷ []

-- The circuit in which the signals of the list are forced one after another, from the last of the
-- list to the first.
abbrev pub held_circuit : Circuit → List HeldSignal → Circuit
held_circuit c [] = c
held_circuit c (h ∷ earlier) = forced_circuit (held_circuit c earlier) h.site h.value

-- the value at which a signal is held: that of its first entry
abbrev pub value_of : List HeldSignal → ℕ → Option Value
value_of held s = option_map (λ h. h.value) (find (λ h. nat_eq h.site s) held)

abbrev pub held_design : Joined → List HeldSignal → Joined
held_design j held = record { netlist = j.netlist; circuit = held_circuit j.circuit held }

-- those of the readers of a signal that are not held
abbrev pub open_readers : List (List ℕ) → List HeldSignal → ℕ → List ℕ
open_readers lists held u = filter (λ x. is_none (value_of held x)) (list_at lists u)

-- In this circuit each signal is read by those in its list that are not held.
pub record AreOpenReaders (c : Circuit) (lists : List (List ℕ)) (held : List HeldSignal) : Type 0 where
  pub long : length lists ≡ length c.drivers
  pub each : (u : ℕ) → u < length c.drivers → ReadIt c u (open_readers lists held u)

-- what is kept fits together, with the lists of readers if they were made
pub record IsHeldDesign (j : Joined) (made : Option (List (List ℕ))) (held : List HeldSignal) : Type 0 where
  pub design : IsDesign (held_design j held)
  pub readers : ForSome made (AreReaders j.circuit)
