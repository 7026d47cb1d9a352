-- What is kept of the settings that were read.
use Rattle.std.specs.Prelude.{◌≡◌, ℕ, ◌<◌, Bool, true, false, not, ◌&&◌, nat_eq, List, [], ◌∷◌, ◌++◌, length, slice_index_or, Option, Some, None, ⊤}
use Rattle.std.specs.List.{list_any}
use Rattle.std.specs.Borrow.{Bor}
use Rattle.std.specs.declared.cmp.Ordering.{Ordering}
use Rattle.std.specs.Ordering.{nat_cmp, ordering_then}
use Rattle.std.specs.Cmp.Lexicographic.{slice_cmp}
use Rattle.std.specs.BTreeMap.{get}
use Rattle.std.specs.BTreeSet.{BTreeSet, contains}
use Rattle.gate_values.specs.declared.Value.{Value}
use Rattle.stimulus_file.specs.declared.NumberedSet.{NumberedSet}
use Rattle.stimulus_file.specs.declared.names.Found.{Found}
use Rattle.stimulus_file.specs.declared.names.Names.{Names}
use Rattle.stimulus_file.specs.Named.{named_rows, HavePlaces}

-- a setting of the name at this place, at this time
abbrev pub is_at : ℕ → ℕ → NumberedSet → Bool
is_at place time set = nat_eq place set.name && nat_eq time set.time

-- the name stands at this place, and at no other
pub record IsPlace (names : List (List ℕ)) (name : List ℕ) (place : ℕ) : Type 0 where
  pub within : place < length names
  pub there : slice_index_or names place [] ≡ name
  pub only : (i : ℕ) → i < length names → slice_index_or names i [] ≡ name → i ≡ place

-- the name at a place is set at no time after its latest
abbrev pub AreLatest : List ℕ → List NumberedSet → Type 0
AreLatest latest sets = (place time : ℕ) → slice_index_or latest place 0 < time → list_any (is_at place time) sets ≡ false

-- where a name stands, if anywhere
abbrev pub StandsAt : List (List ℕ) → List ℕ → Option ℕ → Type 0
StandsAt names name None = (i : ℕ) → i < length names → slice_index_or names i [] ≡ name → ⊥
StandsAt names name (Some place) = IsPlace names name place

-- the order of names
abbrev pub name_cmp : Bor (List ℕ) → Bor (List ℕ) → Ordering
name_cmp a b = slice_cmp nat_cmp a.now b.now

-- the map has the place of each name
abbrev pub ArePlaces : Names → Type 0
ArePlaces n = (q : Bor (List ℕ)) → StandsAt n.texts.items q.now (get name_cmp n.places q)

-- the names of these settings
pub record HasNames (n : Names) (sets : List NumberedSet) : Type 0 where
  pub placed : HavePlaces n.texts.items sets
  pub each : length n.latest.items ≡ length n.texts.items
  pub latest : AreLatest n.latest.items sets
  pub places : ArePlaces n

-- the setting at this place, of which the line and the value are open
abbrev pub then_at : List NumberedSet → ℕ → ℕ → (List NumberedSet → Type 0) → Type 0
then_at sets place time P = (line : ℕ) (value : Value) → P (sets ++ record { line = line; name = place; time = time; value = value } ∷ [])

-- a name was found that is now set at this time, after these settings
pub record Finds (old new : Names) (sets : List NumberedSet) (name : List ℕ) (time : ℕ) (found : Found) : Type 0 where
  pub same : named_rows new.texts.items sets ≡ named_rows old.texts.items sets
  pub placed : HavePlaces new.texts.items sets
  pub place : IsPlace new.texts.items name found.place
  pub later : found.is_later ≡ true → list_any (is_at found.place time) sets ≡ false
  pub next : then_at sets found.place time (HasNames new)

-- the order of pairs of a place and a time
abbrev pub key_cmp : ℕ × ℕ → ℕ × ℕ → Ordering
key_cmp a b = ordering_then (nat_cmp a.0 b.0) (nat_cmp a.1 b.1)

-- the set, if there is one, has the places and times of these settings
abbrev pub HasSeen : Option (BTreeSet (ℕ × ℕ)) → List NumberedSet → Type 0
HasSeen None sets = ⊤
HasSeen (Some seen) sets = (q : ℕ × ℕ) → contains key_cmp seen q ≡ list_any (is_at q.0 q.1) sets

-- it was asked whether a setting at this place and time is new after these
pub record Tells (seen : Option (BTreeSet (ℕ × ℕ))) (sets : List NumberedSet) (place time : ℕ) (is_new : Bool) : Type 0 where
  pub tells : is_new ≡ not (list_any (is_at place time) sets)
  pub next : then_at sets place time (HasSeen seen)
