-- The lists of an index: nodes in one array, each linked to the node of its signal that begins before it, and the maps beside them.
use Rattle.std.specs.Prelude.{◌≡◌, ℕ, ◌<◌, ◌≤◌, Bool, true, false, ◌&&◌, not, nat_eq, nat_lt, suc, if◌then◌else◌, List, [], ◌∷◌, slice_get, Option, Some, None, IfSome, IfNone, IsSome, length}
use Rattle.std.specs.Ordering.{is_eq}
use Rattle.valid_intervals.specs.declared.Point.{Point}
use Rattle.cell_store.specs.declared.Key.{Key}
use Rattle.cell_store.specs.declared.heads.Head.{Head}
use Rattle.cell_store.specs.inner.Heads.{has_map}
use Rattle.cell_store.specs.declared.index.Place.{Place}
use Rattle.cell_store.specs.declared.index.Node.{Node}
use Rattle.cell_store.specs.declared.index.Gap.{Gap}
use Rattle.cell_store.specs.inner.Index.{key_cmp}

abbrev pub key_at : ℕ → ℕ → Key
key_at signal start = record { signal = signal; start = start }

-- ---- what a node says
abbrev pub place_in : Node → Place
place_in n = record { end = n.end; slot = n.slot; value = n.value }

abbrev pub held_in : Node → Option (Key × Place)
held_in n = if n.live then Some (key_at n.signal n.start, place_in n) else None

abbrev pub link_in : ℕ → Node → Option ℕ
link_in i n = if nat_eq n.next i then None else Some n.next

abbrev pub bound : {X Y : Type 0} → (X → Option Y) → Option X → Option Y
bound f (Some x) = f x
bound f None = None

-- the cell in a node, and the node behind it
abbrev pub held_at : List Node → ℕ → Option (Key × Place)
held_at nodes i = bound held_in (slice_get nodes i)

abbrev pub link_at : List Node → ℕ → Option ℕ
link_at nodes i = bound (link_in i) (slice_get nodes i)

abbrev pub first_in : Head → Option ℕ
first_in head = if nat_eq head.many 0 then None else Some head.first

-- ---- the place of a key
abbrev pub is_of : Key → Key → Bool
is_of k j = is_eq (key_cmp j k)

abbrev pub either_place : Option (Key × Place) → Option Place → Option Place
either_place (Some e) other = Some e.1
either_place None other = other

-- the place that a node has, where it is that of the key
abbrev pub place_if : Key → Option (Key × Place) → Option Place → Option Place
place_if k (Some e) other = if is_of k e.0 then Some e.1 else other
place_if k None other = other

abbrev pub listed : List Node → Key → Option Place
listed [] k = None
listed (n ∷ nodes) k = place_if k (held_in n) (listed nodes k)

abbrev pub or_else : Option Place → Option Place → Option Place
or_else (Some p) other = Some p
or_else None other = other

-- ---- links
-- where a link leads to: to the last cell of the signal among those whose start is low
pub record IsReached (held : ℕ → Option (Key × Place)) (link : Option ℕ) (start : ℕ) : Type 0 where
  pub to : ℕ
  pub key : Key
  pub place : Place
  pub is : link ≡ Some to
  pub at : held to ≡ Some (key, place)
  pub late : start ≤ key.start

pub record IsOn (held : ℕ → Option (Key × Place)) (signal : ℕ) (Low : ℕ → Type 0) (i : ℕ) : Type 0 where
  pub key : Key
  pub place : Place
  pub at : held i ≡ Some (key, place)
  pub of : key.signal ≡ signal
  pub low : Low key.start

pub record IsLink (held : ℕ → Option (Key × Place)) (signal : ℕ) (Low : ℕ → Type 0) (link : Option ℕ) : Type 0 where
  pub on : (i : ℕ) → link ≡ Some i → IsOn held signal Low i
  pub last : (i : ℕ) (k : Key) (p : Place) → held i ≡ Some (k, p) → k.signal ≡ signal → Low k.start → IsReached held link k.start

abbrev pub Any : ℕ → Type 0
Any start = start ≤ start

abbrev pub Below : ℕ → ℕ → Type 0
Below high start = start < high

-- the lists have each cell once
pub record AreLists (held : ℕ → Option (Key × Place)) (link : ℕ → Option ℕ) (first : ℕ → Option ℕ) : Type 0 where
  pub once : (i j : ℕ) (k : Key) (p q : Place) → held i ≡ Some (k, p) → held j ≡ Some (k, q) → i ≡ j
  pub heads : (signal : ℕ) → IsLink held signal Any (first signal)
  pub links : (i : ℕ) (k : Key) (p : Place) → held i ≡ Some (k, p) → IsLink held k.signal (Below k.start) (link i)

abbrev pub firsts : (ℕ → Head) → ℕ → Option ℕ
firsts heads signal = first_in (heads signal)

-- and the maps have the others, of signals whose heads say so
pub record IsIndex (nodes : List Node) (heads : ℕ → Head) (mapped : Key → Option Place) : Type 0 where
  pub lists : AreLists (held_at nodes) (link_at nodes) (firsts heads)
  pub apart : (i : ℕ) (k : Key) (p : Place) → held_at nodes i ≡ Some (k, p) → mapped k ≡ None
  pub told : (k : Key) → IsSome (mapped k) → has_map (heads k.signal).more ≡ true

-- ---- a place in a list, for a cell that begins at a time
pub record IsBefore (held : ℕ → Option (Key × Place)) (link : ℕ → Option ℕ) (signal start : ℕ) (after : Option ℕ) (i : ℕ) : Type 0 where
  pub key : Key
  pub place : Place
  pub at : held i ≡ Some (key, place)
  pub of : key.signal ≡ signal
  pub late : start < key.start
  pub next : link i ≡ after

pub record IsAfter (held : ℕ → Option (Key × Place)) (signal start : ℕ) (i : ℕ) : Type 0 where
  pub key : Key
  pub place : Place
  pub at : held i ≡ Some (key, place)
  pub of : key.signal ≡ signal
  pub early : key.start ≤ start

-- behind the cells that begin later
pub record IsBehind (held : ℕ → Option (Key × Place)) (link : ℕ → Option ℕ) (first : Option ℕ) (signal start : ℕ) (gap : Gap) : Type 0 where
  pub front : IfNone gap.before (gap.after ≡ first)
  pub before : IfSome gap.before (IsBefore held link signal start gap.after)

pub record IsGap (held : ℕ → Option (Key × Place)) (link : ℕ → Option ℕ) (first : Option ℕ) (signal start : ℕ) (gap : Gap) : Type 0 where
  pub behind : IsBehind held link first signal start gap
  pub after : IfSome gap.after (IsAfter held signal start)

-- ---- what a call does to the array and to the heads
abbrev pub is_it : Option ℕ → ℕ → Bool
is_it (Some i) j = nat_eq i j
is_it None j = false

abbrev pub Within : List Node → ℕ → Type 0
Within nodes i = i < length nodes

-- a node that no list has
pub record IsFree (nodes : List Node) (i : ℕ) : Type 0 where
  pub within : i < length nodes
  pub free : held_at nodes i ≡ None

-- a node that a list has
abbrev pub IsHeld : List Node → ℕ → Type 0
IsHeld nodes i = IsSome (held_at nodes i)

-- all lists stay
pub record AreSteady (nodes new : List Node) : Type 0 where
  pub held : (j : ℕ) → held_at new j ≡ held_at nodes j
  pub link : (j : ℕ) → link_at new j ≡ link_at nodes j

-- a cell is in a node, and this in the gap
pub record IsPutIn (nodes new : List Node) (i : ℕ) (key : Key) (place : Place) (gap : Gap) : Type 0 where
  pub held : (j : ℕ) → held_at new j ≡ (if nat_eq i j then Some (key, place) else held_at nodes j)
  pub link : (j : ℕ) → link_at new j ≡ (if nat_eq i j then gap.after else if is_it gap.before j then Some i else link_at nodes j)

-- a node is free, and no longer behind the one before it
pub record IsTakenOut (nodes new : List Node) (i : ℕ) (before next : Option ℕ) : Type 0 where
  pub held : (j : ℕ) → held_at new j ≡ (if nat_eq i j then None else held_at nodes j)
  pub link : (j : ℕ) → nat_eq i j ≡ false → link_at new j ≡ (if is_it before j then next else link_at nodes j)

-- the head after a node came behind another, or in front
abbrev pub longer_first : Head → Option ℕ → ℕ → Option ℕ
longer_first head None i = Some i
longer_first head (Some p) i = first_in head

abbrev pub shorter_first : Head → Option ℕ → Option ℕ → Option ℕ
shorter_first head None next = next
shorter_first head (Some p) next = first_in head

-- the head of one signal is another
abbrev pub HeadSet : (ℕ → Head) → (ℕ → Head) → ℕ → Head → Type 0
HeadSet heads new signal head = (s : ℕ) → new s ≡ (if nat_eq signal s then head else heads s)

-- a cell came into a list
pub record IsListed (nodes new : List Node) (heads heads' : ℕ → Head) (key : Key) (place : Place) (gap : Gap) : Type 0 where
  pub i : ℕ
  pub head : Head
  pub free : held_at nodes i ≡ None
  pub put : IsPutIn nodes new i key place gap
  pub set : HeadSet heads heads' key.signal head
  pub first : first_in head ≡ longer_first (heads key.signal) gap.before i
  pub more : head.more ≡ (heads key.signal).more

pub record AreAllSteady (nodes new : List Node) (heads heads' : ℕ → Head) : Type 0 where
  pub lists : AreSteady nodes new
  pub all : (s : ℕ) → heads' s ≡ heads s

-- a cell came into a list, or all stays
abbrev pub IsListedOr : Bool → (nodes new : List Node) (heads heads' : ℕ → Head) (key : Key) (place : Place) (gap : Gap) → Type 0
IsListedOr true nodes new heads heads' key place gap = IsListed nodes new heads heads' key place gap
IsListedOr false nodes new heads heads' key place gap = AreAllSteady nodes new heads heads'

-- the cells of a signal that begin at this time or later are gone
abbrev pub without_late : ℕ → ℕ → Option (Key × Place) → Option (Key × Place)
without_late signal time (Some e) = if nat_eq e.0.signal signal && not (nat_lt e.0.start time) then None else Some e
without_late signal time None = None

-- the list of a signal is gone, and the others stay
pub record IsEmptied (nodes new : List Node) (signal : ℕ) : Type 0 where
  pub held : (j : ℕ) → held_at new j ≡ without_late signal 0 (held_at nodes j)
  pub link : (j : ℕ) → IsSome (held_at new j) → link_at new j ≡ link_at nodes j

-- how far a search can still go
abbrev pub start_after : Option Node → ℕ
start_after (Some n) = suc n.start
start_after None = 0

abbrev pub way_from : List Node → Option ℕ → ℕ
way_from nodes at = start_after (bound (slice_get nodes) at)

abbrev pub start_and_place : Node → ℕ × Place
start_and_place n = (n.start, place_in n)

-- the place of a node, and its number, where it begins at this time
abbrev pub place_starting : Option Node → ℕ → Option Place
place_starting (Some n) start = if nat_eq n.start start then Some (place_in n) else None
place_starting None start = None

abbrev pub starts_at : Option Node → ℕ → Bool
starts_at (Some n) start = nat_eq n.start start
starts_at None start = false

abbrev pub later_of : Option (ℕ × Place) → Option (ℕ × Place) → Option (ℕ × Place)
later_of (Some a) (Some b) = if nat_lt a.0 b.0 then Some b else Some a
later_of (Some a) None = Some a
later_of None b = b

-- ---- what the calls of an index say
-- the last place of the signal that begins no later than a time
pub record IsLastAt (place_of : Key → Option Place) (p : Point) (start : ℕ) (place : Place) : Type 0 where
  pub at : place_of (key_at p.signal start) ≡ Some place
  pub early : start ≤ p.time
  pub last : (k : Key) → k.signal ≡ p.signal → k.start ≤ p.time → IsSome (place_of k) → k.start ≤ start

-- none begins so early
abbrev pub IsNoneAt : (Key → Option Place) → Point → Type 0
IsNoneAt place_of p = (k : Key) → k.signal ≡ p.signal → k.start ≤ p.time → place_of k ≡ None

abbrev pub Sets : {X : Type 0} → (Key → X) → (Key → X) → Key → X → Type 0
Sets f g k x = (q : Key) → g q ≡ (if is_eq (key_cmp k q) then x else f q)

abbrev pub Same : (Key → Option Place) → (Key → Option Place) → Type 0
Same f g = (q : Key) → g q ≡ f q

-- how a list can be searched
pub record IsSearchable (nodes : List Node) (first : Option ℕ) (signal : ℕ) : Type 0 where
  pub head : IsLink (held_at nodes) signal Any first
  pub links : (i : ℕ) (k : Key) (p : Place) → held_at nodes i ≡ Some (k, p) → IsLink (held_at nodes) k.signal (Below k.start) (link_at nodes i)
