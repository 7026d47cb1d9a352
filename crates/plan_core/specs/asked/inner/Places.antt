-- Where the entries of a journal stand that say cells: in chains, by a hash of the points for which they were recorded.
use Rattle.std.specs.Prelude.{◌≡◌, ◌≢◌, ℕ, zero, suc, ◌+◌, ◌-◌, ◌*◌, ◌/◌, ◌^◌, ◌<◌, ◌≤◌, ◌⊎◌, bit_and, true, List, [], ◌∷◌, length, take, map, slice_index_or, Option, Some, None}
use Rattle.std.specs.List.{AllByRecursion}
use Rattle.valid_intervals.specs.declared.Point.{Point}
use Rattle.journal_meaning.specs.declared.Entry.{Entry}
use Rattle.journal_meaning.specs.Entries.{SaidCell, cell_said}
use Rattle.plan_core.specs.declared.asked.places.Noted.{Noted}
use Rattle.plan_core.specs.asked.Wanted.{Marked, is_wanted}

abbrev pub point_of : Option SaidCell → Option Point
point_of None = None
point_of (Some f) = Some f.point

-- the point for which the entry in this place says a cell
abbrev pub point_at : List Entry → ℕ → Option Point
point_at [] place = None
point_at (e ∷ journal) zero = point_of (cell_said e)
point_at (e ∷ journal) (suc place) = point_at journal place

-- the chain of a point, of so many
abbrev pub chain_of : Point → ℕ → ℕ
chain_of p chains = bit_and (p.signal * 2654435761 / 65536 + p.time) (chains - 1)

-- the points of noted entries
abbrev pub points_of : List Entry → List Noted → List (Option Point)
points_of journal noted = map (λ (x : Noted). point_at journal x.place) noted

-- the numbers before them in their chains
abbrev pub numbers_before : List Noted → List ℕ
numbers_before noted = map (λ (x : Noted). x.before) noted

-- The places of a chain that ends with this number, among the noted entries: a number is a place and 1, and 0 is none. `before` has the
-- number before each place.
abbrev pub IsChain : List ℕ → ℕ → List ℕ → Type 0
IsChain before number [] = number ≡ 0
IsChain before number (place ∷ places) = (number ≡ place + 1) × IsChain before (slice_index_or before place 0) places

-- the entry in one of the places was recorded for the point
abbrev pub HasPoint : List (Option Point) → Point → List ℕ → Type 0
HasPoint points p [] = ⊥
HasPoint points p (place ∷ places) = (slice_index_or points place None ≡ Some p) ⊎ HasPoint points p places

-- none of the first 32 was
abbrev pub LacksPoint : List (Option Point) → Point → List ℕ → Type 0
LacksPoint points p places = AllByRecursion (λ place. slice_index_or points place None ≢ Some p) (take 32 places)

-- none of the 32 places after a place has an entry for the same point
abbrev pub IsSpread : List (Option Point) → List ℕ → Type 0
IsSpread points [] = Unit {0}
IsSpread points (place ∷ places) = ((p : Point) → slice_index_or points place None ≡ Some p → LacksPoint points p places) × IsSpread points places

-- the entry in this place, one of the first so many, is for a point of the chain
abbrev pub IsOfChain : List (Option Point) → ℕ → ℕ → ℕ → ℕ → Type 0
IsOfChain points linked chains chain place = (place < linked) × ((p : Point) × (slice_index_or points place None ≡ Some p) × (chain_of p chains ≡ chain))

-- A chain, of so many, once so many noted entries are in chains: its places have entries for its points alone, one point twice only
-- where 32 others or more stand between, and each of its points for which one of these entries was recorded. Entries that have no number
-- are not meant.
pub record IsChainOf (points : List (Option Point)) (linked chains chain : ℕ) (before : List ℕ) (number : ℕ) : Type 0 where
  pub places : List ℕ
  pub is : IsChain before number places
  pub own : AllByRecursion (IsOfChain points linked chains chain) places
  pub spread : IsSpread points places
  pub has : (place : ℕ) (p : Point) → place < linked → place + 1 < 2 ^ 32 → slice_index_or points place None ≡ Some p → chain_of p chains ≡ chain → HasPoint points p places

-- each chain, by its last number
abbrev pub AreLinked : List (Option Point) → ℕ → List ℕ → List ℕ → Type 0
AreLinked points linked last before = (chain : ℕ) → IsChainOf points linked (length last) chain before (slice_index_or last chain 0)

-- so many chains, a power of two, are enough for so many entries: at least one for three
pub record AreEnough (entries chains : ℕ) : Type 0 where
  pub some : 0 < chains
  pub power : (k : ℕ) × (chains ≡ 2 ^ k)
  pub many : entries < 2 ^ 32 → entries ≤ 3 * chains

-- of the first so many entries of a journal, each that was recorded for a wanted point is noted, no later than it stands in the journal
abbrev pub HasNoted : List Entry → Marked → ℕ → List (Option Point) → Type 0
HasNoted journal wanted read points = (place : ℕ) (p : Point) → place < read → place + 1 < 2 ^ 32 → point_at journal place ≡ Some p → is_wanted wanted p ≡ true → (n : ℕ) × (n ≤ place) × (slice_index_or points n None ≡ Some p)

-- no entry was recorded for the point; those past the last number are not meant
abbrev pub IsUnsaid : List Entry → Point → Type 0
IsUnsaid journal p = (place : ℕ) → place + 1 < 2 ^ 32 → point_at journal place ≢ Some p

-- The noted entries of a journal are in chains that are enough. Where none is noted, there are no chains. Each entry that was recorded
-- for a wanted point stands in the chain of the point.
pub record ArePlaces (journal : List Entry) (wanted : Marked) (last : List ℕ) (noted : List Noted) : Type 0 where
  pub chains : 0 < length noted → AreEnough (length noted) (length last)
  pub linked : AreLinked (points_of journal noted) (length noted) last (numbers_before noted)
  pub stands : (place : ℕ) (p : Point) → place + 1 < 2 ^ 32 → point_at journal place ≡ Some p → is_wanted wanted p ≡ true → HasPoint (points_of journal noted) p (linked (chain_of p (length last))).places
