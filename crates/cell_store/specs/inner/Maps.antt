-- The ordered maps of an index: one for each signal that has its own, and one for the others.
use Rattle.std.specs.Prelude.{◌≡◌, ℕ, ◌<◌, true, ◌&&◌, not, nat_eq, if◌then◌else◌, List, Option, Some, None, IsSome, slice_get, length}
use Rattle.std.specs.BTreeMap.{get}
use Rattle.std.specs.Ordering.{is_eq}
use Rattle.cell_store.specs.declared.Key.{Key}
use Rattle.cell_store.specs.declared.heads.Head.{Head}
use Rattle.cell_store.specs.declared.heads.Heads.{Heads}
use Rattle.cell_store.specs.declared.heads.More.TheVariants.{Common}
use Rattle.cell_store.specs.declared.index.Node.{Node}
use Rattle.cell_store.specs.declared.index.Place.{Place}
use Rattle.cell_store.specs.declared.maps.OwnMap.{OwnMap}
use Rattle.cell_store.specs.declared.maps.Maps.{Maps}
use Rattle.cell_store.specs.inner.Heads.{head_for, is_own}
use Rattle.cell_store.specs.inner.Index.{key_cmp}
use Rattle.cell_store.specs.inner.Lists.{IsIndex, listed, or_else}
use Rattle.cell_store.specs.inner.SignalCells.{kept_at}

abbrev pub owner_in : Option OwnMap → Option ℕ
owner_in (Some m) = m.owner
owner_in None = None

abbrev pub cells_in : Option OwnMap → ℕ → Option Place
cells_in (Some m) start = kept_at m.cells start
cells_in None start = None

-- the signal that has the map of this number, and the cells in it by their start
abbrev pub owner_at : Maps → ℕ → Option ℕ
owner_at maps n = owner_in (slice_get maps.own.items n)

abbrev pub cells_at : Maps → ℕ → ℕ → Option Place
cells_at maps n start = cells_in (slice_get maps.own.items n) start

abbrev pub common_at : Maps → Key → Option Place
common_at maps k = get key_cmp maps.common k

-- the place of a key in the map of a head
abbrev pub mapped_by : Head → Maps → Key → Option Place
mapped_by head maps k = if is_own head.more then cells_at maps head.first k.start else common_at maps k

abbrev pub mapped_in : (ℕ → Head) → Maps → Key → Option Place
mapped_in heads maps k = mapped_by (heads k.signal) maps k

-- what an index has
pub record Places : Type 0 where
  pub nodes : List Node
  pub heads : Heads
  pub maps : Maps

-- the place of a key
abbrev pub place_of : Places → Key → Option Place
place_of s k = or_else (listed s.nodes k) (mapped_in (head_for s.heads) s.maps k)

-- the map of the head is there
abbrev pub IsThere : Head → Maps → Type 0
IsThere head maps = is_own head.more ≡ true → head.first < length maps.own.items

-- ---- what a call does to the maps
pub record AreSteadyMaps (maps new : Maps) : Type 0 where
  pub owners : (n : ℕ) → owner_at new n ≡ owner_at maps n
  pub cells : (n t : ℕ) → cells_at new n t ≡ cells_at maps n t
  pub common : (q : Key) → common_at new q ≡ common_at maps q

-- a key has this place in the map of the head
pub record SetsMapped (head : Head) (maps new : Maps) (key : Key) (o : Option Place) : Type 0 where
  pub long : length new.own.items ≡ length maps.own.items
  pub owners : (n : ℕ) → owner_at new n ≡ owner_at maps n
  pub cells : (n t : ℕ) → cells_at new n t ≡ (if is_own head.more && (nat_eq head.first n && nat_eq key.start t) then o else cells_at maps n t)
  pub common : (q : Key) → common_at new q ≡ (if not (is_own head.more) && is_eq (key_cmp key q) then o else common_at maps q)

-- a signal got a map that none had, with these cells
pub record IsAdded (maps new : Maps) (signal : ℕ) (places : List (ℕ × Place)) (n : ℕ) : Type 0 where
  pub free : owner_at maps n ≡ None
  pub owners : (m : ℕ) → owner_at new m ≡ (if nat_eq n m then Some signal else owner_at maps m)
  pub cells : (m t : ℕ) → cells_at new m t ≡ (if nat_eq n m then kept_at places t else cells_at maps m t)
  pub common : (q : Key) → common_at new q ≡ common_at maps q

-- a signal gives up its map
pub record IsReleased (maps new : Maps) (n : ℕ) : Type 0 where
  pub owners : (m : ℕ) → owner_at new m ≡ (if nat_eq n m then None else owner_at maps m)
  pub cells : (m t : ℕ) → cells_at new m t ≡ cells_at maps m t
  pub common : (q : Key) → common_at new q ≡ common_at maps q

-- ---- lists, heads and maps together
-- each map of a head is that of its signal, which has no list, and the common map has cells of signals whose heads say so
pub record IsWhole (nodes : List Node) (heads : ℕ → Head) (maps : Maps) : Type 0 where
  pub index : IsIndex nodes heads (mapped_in heads maps)
  pub owned : (s : ℕ) → is_own (heads s).more ≡ true → owner_at maps (heads s).first ≡ Some s
  pub unlisted : (s : ℕ) → is_own (heads s).more ≡ true → (heads s).many ≡ 0
  pub told : (k : Key) → IsSome (common_at maps k) → (heads k.signal).more ≡ Common

-- a key that no list has loses its place
pub record IsUnmapped (heads heads' : ℕ → Head) (maps new : Maps) (key : Key) : Type 0 where
  pub whole : (nodes : List Node) → IsWhole nodes heads maps → listed nodes key ≡ None → IsWhole nodes heads' new
  pub places : (nodes : List Node) → IsWhole nodes heads maps → listed nodes key ≡ None → (q : Key) → mapped_in heads' new q ≡ (if is_eq (key_cmp key q) then None else mapped_in heads maps q)
