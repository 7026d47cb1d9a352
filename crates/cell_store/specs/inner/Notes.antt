-- The order of the slots of a store, and uses that are noted and not yet made in it.
use Rattle.std.specs.Prelude.{◌≡◌, ℕ, ◌*◌, ◌<◌, ◌≤◌, false, Bool, nat_eq, List, ◌∷◌, All, None, get_or, length, map, ⊤}
use Rattle.std.specs.List.{fold}
use Rattle.std.specs.Map.{lookup_entry, remove_entry}
use Rattle.gate_values.specs.declared.Value.TheVariants.{Zero}
use Rattle.valid_intervals.specs.declared.SignalCell.{SignalCell}

-- slots, the last used first
abbrev pub Slots : Type 0
Slots = List (ℕ × ⊤)

-- a slot is used
abbrev pub with_note : Slots → ℕ → Slots
with_note slots slot = (slot, tt) ∷ remove_entry (nat_eq slot) slots

-- the slots after these were used, the first first
abbrev pub after_notes : Slots → List ℕ → Slots
after_notes slots noted = fold with_note slots noted

-- what is noted, and how many slots have room for it
pub record NotedSlots : Type 0 where
  pub noted : List ℕ
  pub slots : ℕ

abbrev pub noted_slots : List ℕ → ℕ → NotedSlots
noted_slots noted slots = record { noted = noted; slots = slots }

-- what holds between calls: each note is of a slot, no slot is marked, and there is room for two notes of each
pub record AreNotes (noted : List ℕ) (met : List Bool) (places : ℕ) : Type 0 where
  pub below : All (λ slot. slot < length met) noted
  pub clear : All (λ m. m ≡ false) met
  pub few : length met ≤ 65536
  pub room : 2 * length met ≤ places

-- the cell in a slot
abbrev pub cell_in : List SignalCell → ℕ → SignalCell
cell_in cells slot = get_or cells slot (record { signal = 0; cell = record { span = record { start = 0; stop = 0 }; value = Zero } })

-- the slots with their cells
abbrev pub with_cells : List SignalCell → Slots → List (ℕ × SignalCell)
with_cells cells slots = map (λ e. (e.0, cell_in cells e.0)) slots

-- what holds of the cells by their slots: each slot has a cell and room for notes, none comes twice, and there are not too many
pub record AreRecent (slots : Slots) (cells : List SignalCell) (noteable n cap : ℕ) : Type 0 where
  pub many : n ≡ length slots
  pub within : length slots ≤ cap
  pub celled : All (λ e. e.0 < length cells) slots
  pub room : All (λ e. e.0 < noteable) slots
  pub once : (slot : ℕ) → lookup_entry (nat_eq slot) (remove_entry (nat_eq slot) slots) ≡ None
