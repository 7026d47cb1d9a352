-- What each call of a store does to its cache, its index and its free slots.
use Rattle.std.proofs.Common.{◌≡◌, ℕ, zero, suc, false, nat_lt, unwrap_or, None, eq-eqb, ◌+◌, ◌-◌, ◌<◌, ◌≤◌, Bool, true, cond, nat_eq, List, [], ◌∷◌, ◌++◌, length, take, All, Option, Some, option_map, find, refl, sym, ap, ap₂, subst, ◌∙◌, arith}
use Rattle.std.proofs.lemmas.List.{length-append, length-take, take_all, take-map}
use Rattle.std.proofs.lemmas.List.Elements.{All-cons}
use Rattle.std.proofs.lemmas.Bool.{ltb-true, ltb-false}
use Rattle.std.proofs.lemmas.Option.{slice_get_within, same_Some}
use Rattle.std.specs.List.{slice_get}
use Rattle.std.specs.Map.{lookup_entry, remove_entry}
use Rattle.std.specs.Option.{option_map_or}
use Rattle.std.specs.Ordering.{is_eq}
use Rattle.lru.specs.LruCache.{lru_cache, promoted, put_entries, last_entry}
use Rattle.valid_intervals.specs.Spans.{IsSpan}
use Rattle.valid_intervals.specs.declared.Cell.{Cell}
use Rattle.valid_intervals.specs.declared.Point.{Point}
use Rattle.valid_intervals.specs.declared.SignalCell.{SignalCell}
use Rattle.valid_intervals.specs.Cells.{covers, cell_for, stored_at, to_front, all_but_last}
use Rattle.cell_store.specs.declared.Key.{Key}
use Rattle.cell_store.specs.declared.index.Place.{Place}
use Rattle.cell_store.specs.Recency.{key_of, last_key, IsApart}
use Rattle.cell_store.specs.inner.Index.{key_cmp, place_at, slot_and_cell, end_in, cells_of, times, uses_of, places_of, AreSlots, IsStoreIndex, IsPlaced, IsSoundStore}
use Rattle.cell_store.proofs.Keys.{covers_true}
use Rattle.cell_store.proofs.Found.{none_some, found_true, found_all}
use Rattle.cell_store.proofs.StoreIndex.{used}
use Rattle.cell_store.proofs.Entries.{CacheEntry, split_last, length-cells_of, times-append, uses_of-append, absent, IsTaken, taken, All-remove_entry, IsMoved, moved, same_slots, IsAtEnd, at_end, IsFresh, fresh, new_slot, still_free}
use Rattle.cell_store.proofs.Placed.{IsAt, same_placed, added_place, dropped_place, IsLocated, IsFoundIn, cell_found}

-- ---- a cell that is stored is used
pub record IsUsed (place_of : Key → Option Place) (entries : List CacheEntry) (free : List ℕ) (capacity slot : ℕ) (x : SignalCell) : Type 0 where
  pub there : lookup_entry (nat_eq slot) entries ≡ Some (slot, x)
  pub first : slice_get (promoted (nat_eq slot) entries) 0 ≡ Some (slot, x)
  pub cells : cells_of (promoted (nat_eq slot) entries) ≡ to_front x (cells_of entries)
  pub sound : IsSoundStore place_of (promoted (nat_eq slot) entries) free capacity

pub is_used : (place_of : Key → Option Place) (entries : List CacheEntry) (free : List ℕ) (capacity : ℕ) (f : SignalCell → Bool) (x : SignalCell) → IsSoundStore place_of entries free capacity → find f (cells_of entries) ≡ Some x
    → (l : IsLocated place_of entries f x) → IsUsed place_of entries free capacity l.slot x
is_used place_of entries free capacity f x sound h l =
    let index : IsStoreIndex (end_in place_of) (cells_of entries) = sound.found.indexed in
    let rest : List CacheEntry = remove_entry (nat_eq l.slot) entries in
    let few : uses_of l.slot entries ≤ 1 = omega (arith, sound.slots.once l.slot) in
    let is : IsTaken entries l.slot x = taken entries f l.slot x index.spans index.apart few l.found in
    let list : promoted (nat_eq l.slot) entries ≡ (l.slot, x) ∷ rest = ap (λ o. option_map_or (λ (e : CacheEntry). e ∷ rest) o entries) is.entry in
    let cells : cells_of ((l.slot, x) ∷ rest) ≡ to_front x (cells_of entries) = ap (λ (r : List SignalCell). x ∷ r) is.rest in
    let move : IsMoved entries ((l.slot, x) ∷ rest) = moved (nat_eq l.slot) entries (l.slot, x) is.entry in
    let after : IsSoundStore place_of ((l.slot, x) ∷ rest) free capacity = record {
      found = record {
        indexed = subst (λ (c : List SignalCell). IsStoreIndex (end_in place_of) c) (sym cells) (used (end_in place_of) (cells_of entries) f x index h);
        placed = All-cons (IsAt place_of) (l.slot, x) rest l.at (All-remove_entry (IsAt place_of) (nat_eq l.slot) entries sound.found.placed);
      };
      slots = same_slots entries ((l.slot, x) ∷ rest) free free (λ s. omega (arith, move.uses s)) (omega (arith, move.many)) sound.slots;
      within = omega (arith, move.many, sound.within);
      some = sound.some;
      most = sound.most;
    } in
    record {
      there = is.entry;
      first = ap (λ (es : List CacheEntry). slice_get es 0) list;
      cells = ap cells_of list ∙ cells;
      sound = subst (λ (es : List CacheEntry). IsSoundStore place_of es free capacity) (sym list) after;
    }

pub same_sound : (f g : Key → Option Place) (entries : List CacheEntry) (free : List ℕ) (capacity : ℕ) → ((q : Key) → f q ≡ g q) → IsSoundStore g entries free capacity → IsSoundStore f entries free capacity
same_sound f g entries free capacity same sound = record {
  found = same_placed f g entries same sound.found;
  slots = sound.slots;
  within = sound.within;
  some = sound.some;
  most = sound.most;
}

-- ---- a new cell
-- it comes where there is room
pub record HasCome (g : Key → Option Place) (entries : List CacheEntry) (free : List ℕ) (capacity slot : ℕ) (x : SignalCell) : Type 0 where
  pub list : put_entries nat_eq (lru_cache entries capacity) slot x ≡ (slot, x) ∷ entries
  pub sound : IsSoundStore g ((slot, x) ∷ entries) (still_free free) capacity

pub has_come : (f g : Key → Option Place) (entries : List CacheEntry) (free : List ℕ) (capacity slot : ℕ) (x : SignalCell) → IsSoundStore f entries free capacity → IsSpan x.cell.span → All (IsApart x) (cells_of entries)
    → length (cells_of entries) < capacity → slot ≡ new_slot entries free
    → ((q : Key) → g q ≡ cond (is_eq (key_cmp (key_of x) q)) (Some (place_at (slot, x))) (f q)) → HasCome g entries free capacity slot x
has_come f g entries free capacity slot x sound span apart short is came =
    let room : length entries < capacity = omega (arith, length-cells_of entries, short) in
    let new : IsFresh entries free slot x = subst (λ (n : ℕ). IsFresh entries free n x) (sym is) (fresh entries free x sound.slots) in
    record {
      list = ap (λ o. option_map_or (λ (e : CacheEntry). (e.0, x) ∷ remove_entry (nat_eq slot) entries) o ((slot, x) ∷ take (capacity - 1) entries)) (absent slot entries new.unused)
          ∙ ap (λ (l : List CacheEntry). (slot, x) ∷ l) (take_all (capacity - 1) entries (omega arith));
      sound = record {
        found = added_place f g entries slot x sound.found span apart came;
        slots = new.slots;
        within = omega (arith, room, sound.within, length-take (length free - 1) free);
        some = sound.some;
        most = sound.most;
      };
    }

-- ---- the least recently used cell
pub record IsLast (entries : List CacheEntry) (slot : ℕ) (y : SignalCell) : Type 0 where
  pub init : List CacheEntry
  pub before : init ≡ take (length entries - 1) entries
  pub split : entries ≡ init ++ (slot, y) ∷ []
  pub many : length entries ≡ length init + 1
  pub cells : cells_of init ≡ all_but_last (cells_of entries)
  pub key : last_key (cells_of entries) ≡ Some (key_of y)

take-cells_of : (n : ℕ) (es : List CacheEntry) → cells_of (take n es) ≡ take n (cells_of es)
take-cells_of n es = sym (take-map (λ (e : CacheEntry). e.1) n es)

slice_get-cells_of : (n : ℕ) (es : List CacheEntry) → slice_get (cells_of es) n ≡ option_map (λ (e : CacheEntry). e.1) (slice_get es n)
slice_get-cells_of n [] = refl
slice_get-cells_of zero (e ∷ es) = refl
slice_get-cells_of (suc n) (e ∷ es) = slice_get-cells_of n es

pub is_last : (entries : List CacheEntry) (slot : ℕ) (y : SignalCell) → last_entry entries ≡ Some (slot, y) → IsLast entries slot y
is_last entries slot y h =
    let within : length entries - 1 < length entries = slice_get_within entries (length entries - 1) (slot, y) h in
    let same : length (cells_of entries) ≡ length entries = length-cells_of entries in
    record {
      init = take (length entries - 1) entries;
      before = refl;
      split = split_last entries (length entries - 1) (slot, y) (omega arith) h;
      many = omega (arith, within, length-take (length entries - 1) entries);
      cells = take-cells_of (length entries - 1) entries ∙ ap (λ (n : ℕ). take (n - 1) (cells_of entries)) (sym same);
      key = ap (option_map key_of) (ap (λ (n : ℕ). slice_get (cells_of entries) (n - 1)) same ∙ slice_get-cells_of (length entries - 1) entries ∙ ap (option_map (λ (e : CacheEntry). e.1)) h);
    }

-- the new cell takes its slot
pub record HasReplaced (h : Key → Option Place) (entries : List CacheEntry) (free : List ℕ) (capacity slot : ℕ) (x : SignalCell) : Type 0 where
  pub list : put_entries nat_eq (lru_cache entries capacity) slot x ≡ (slot, x) ∷ take (length entries - 1) entries
  pub cells : cells_of ((slot, x) ∷ take (length entries - 1) entries) ≡ x ∷ all_but_last (cells_of entries)
  pub sound : IsSoundStore h ((slot, x) ∷ take (length entries - 1) entries) free capacity

-- the slot of the last
pub last_at : (f : Key → Option Place) (entries : List CacheEntry) (free : List ℕ) (capacity slot : ℕ) (y : SignalCell) → IsSoundStore f entries free capacity → (l : IsLast entries slot y) → IsAtEnd l.init slot y
last_at f entries free capacity slot y sound l =
    let itself : nat_eq slot slot ≡ true = eq-eqb slot slot refl in
    let one : uses_of slot ((slot, y) ∷ []) ≡ 1 = ap (λ b. cond b 1 0 + 0) itself in
    let all : uses_of slot entries ≡ uses_of slot l.init + uses_of slot ((slot, y) ∷ []) = ap (uses_of slot) l.split ∙ uses_of-append slot l.init ((slot, y) ∷ []) in
    at_end l.init slot y (omega (arith, one, all, sound.slots.once slot))

pub has_replaced : (f g h : Key → Option Place) (entries : List CacheEntry) (free : List ℕ) (capacity slot : ℕ) (x y : SignalCell) → IsSoundStore f entries free capacity → IsSpan x.cell.span → All (IsApart x) (cells_of entries)
    → last_entry entries ≡ Some (slot, y)
    → ((q : Key) → g q ≡ cond (is_eq (key_cmp (key_of x) q)) (Some (place_at (slot, x))) (f q))
    → ((q : Key) → h q ≡ cond (is_eq (key_cmp (key_of y) q)) None (g q)) → HasReplaced h entries free capacity slot x
has_replaced f g h entries free capacity slot x y sound span apart at came went =
    let l : IsLast entries slot y = is_last entries slot y at in
    let end : IsAtEnd l.init slot y = last_at f entries free capacity slot y sound l in
    let grown : IsPlaced g ((slot, x) ∷ entries) = added_place f g entries slot x sound.found span apart came in
    let cut : IsPlaced h ((slot, x) ∷ l.init) = dropped_place g h ((slot, x) ∷ l.init) slot y (subst (λ (es : List CacheEntry). IsPlaced g ((slot, x) ∷ es)) l.split grown) went in
    let after : IsSoundStore h ((slot, x) ∷ l.init) free capacity = record {
      found = cut;
      slots = same_slots entries ((slot, x) ∷ l.init) free free
          (λ s. omega (arith, ap (uses_of s) l.split, uses_of-append s l.init ((slot, y) ∷ []))) (omega (arith, l.many)) sound.slots;
      within = omega (arith, l.many, sound.within);
      some = sound.some;
      most = sound.most;
    } in
    record {
      list = ap (λ o. option_map_or (λ (e : CacheEntry). (e.0, x) ∷ remove_entry (nat_eq slot) entries) o ((slot, x) ∷ take (capacity - 1) entries)) (ap (lookup_entry (nat_eq slot)) l.split ∙ end.entry)
          ∙ ap (λ (es : List CacheEntry). (slot, x) ∷ es) (ap (remove_entry (nat_eq slot)) l.split ∙ end.rest ∙ l.before);
      cells = ap (λ (es : List CacheEntry). x ∷ cells_of es) (sym l.before) ∙ ap (λ (r : List SignalCell). x ∷ r) l.cells;
      sound = subst (λ (es : List CacheEntry). IsSoundStore h ((slot, x) ∷ es) free capacity) l.before after;
    }

-- a slot that is used or free is one of the first
slot_below : (entries : List CacheEntry) (free : List ℕ) (capacity slot : ℕ) → AreSlots entries free → length entries + length free ≤ capacity → 1 ≤ places_of slot entries free → slot < capacity
slot_below entries free capacity slot slots few there =
    (elim (nat_lt slot (length entries + length free)) as (λ b. nat_lt slot (length entries + length free) ≡ b → slot < capacity) [
      | true ↦ λ t. omega (arith, ltb-true slot (length entries + length free) t, few)
      | false ↦ λ t. let none : places_of slot entries free ≡ 0 = slots.first slot (ltb-false slot (length entries + length free) t) in absurd (omega arith)
    ]) refl

times_at : (free : List ℕ) (n slot : ℕ) → slice_get free n ≡ Some slot → 1 ≤ times slot free
times_at [] n slot h = none_some slot h
times_at (s ∷ free) zero slot h =
    let itself : nat_eq slot s ≡ true = eq-eqb slot s (sym (same_Some s slot h)) in
    subst (λ b. 1 ≤ cond b 1 0 + times slot free) (sym itself) (omega arith)
times_at (s ∷ free) (suc n) slot h = let there : 1 ≤ times slot free = times_at free n slot h in omega arith

pub last_below : (f : Key → Option Place) (entries : List CacheEntry) (free : List ℕ) (capacity slot : ℕ) (y : SignalCell) → IsSoundStore f entries free capacity → last_entry entries ≡ Some (slot, y) → slot < capacity
last_below f entries free capacity slot y sound at =
    let l : IsLast entries slot y = is_last entries slot y at in
    let one : uses_of slot ((slot, y) ∷ []) ≡ 1 = ap (λ b. cond b 1 0 + 0) (eq-eqb slot slot refl) in
    slot_below entries free capacity slot sound.slots sound.within (omega (arith, one, ap (uses_of slot) l.split, uses_of-append slot l.init ((slot, y) ∷ [])))

pub new_below : (f : Key → Option Place) (entries : List CacheEntry) (free : List ℕ) (capacity : ℕ) → IsSoundStore f entries free capacity → length entries < capacity → new_slot entries free < capacity
new_below f entries free capacity sound room =
    (elim (slice_get free (length free - 1)) as (λ o. slice_get free (length free - 1) ≡ o → unwrap_or o (length entries) < capacity) [
      | None ↦ λ h. room
      | Some slot ↦ λ h. slot_below entries free capacity slot sound.slots sound.within (omega (arith, times_at free (length free - 1) slot h))
    ]) refl

-- it goes, and its slot is free
pub popped : (f g : Key → Option Place) (entries : List CacheEntry) (free : List ℕ) (capacity slot : ℕ) (y : SignalCell) → IsSoundStore f entries free capacity → last_entry entries ≡ Some (slot, y)
    → ((q : Key) → g q ≡ cond (is_eq (key_cmp (key_of y) q)) None (f q)) → IsSoundStore g (take (length entries - 1) entries) (free ++ slot ∷ []) capacity
popped f g entries free capacity slot y sound at went =
    let l : IsLast entries slot y = is_last entries slot y at in
    let cut : IsPlaced g l.init = dropped_place f g l.init slot y (subst (IsPlaced f) l.split sound.found) went in
    let after : IsSoundStore g l.init (free ++ slot ∷ []) capacity = record {
      found = cut;
      slots = same_slots entries l.init free (free ++ slot ∷ [])
          (λ s. omega (arith, ap (uses_of s) l.split, uses_of-append s l.init ((slot, y) ∷ []), times-append s free (slot ∷ []))) (omega (arith, l.many, length-append free (slot ∷ []))) sound.slots;
      within = omega (arith, l.many, length-append free (slot ∷ []), sound.within);
      some = sound.some;
      most = sound.most;
    } in
    subst (λ (es : List CacheEntry). IsSoundStore g es (free ++ slot ∷ []) capacity) l.before after

-- ---- find
pub record IsFound (place_of : Key → Option Place) (entries : List CacheEntry) (free : List ℕ) (capacity slot : ℕ) (p : Point) (cell : Cell) : Type 0 where
  pub x : SignalCell
  pub found : stored_at (cells_of entries) p ≡ Some x
  pub is : x ≡ cell_for p cell
  pub used : IsUsed place_of entries free capacity slot x

pub is_found : (place_of : Key → Option Place) (entries : List CacheEntry) (free : List ℕ) (capacity slot : ℕ) (p : Point) (cell : Cell) → IsSoundStore place_of entries free capacity
    → Some (slot, cell) ≡ option_map slot_and_cell (find (λ (e : CacheEntry). covers p e.1) entries) → IsFound place_of entries free capacity slot p cell
is_found place_of entries free capacity slot p cell sound h =
    let in_slot : IsFoundIn entries (covers p) slot cell = cell_found entries (covers p) slot cell h in
    let x : SignalCell = in_slot.x in
    let l : IsLocated place_of entries (covers p) x = record { slot = slot; found = in_slot.entry; at = found_all (IsAt place_of) (λ (e : CacheEntry). covers p e.1) entries (slot, x) sound.found.placed in_slot.entry } in
    record {
      x = x;
      found = in_slot.found;
      is = ap₂ (λ (s : ℕ) (c : Cell). record { signal = s; cell = c }) (covers_true p x (found_true (covers p) (cells_of entries) x in_slot.found)).signal in_slot.is;
      used = is_used place_of entries free capacity (covers p) x sound in_slot.found l;
    }
