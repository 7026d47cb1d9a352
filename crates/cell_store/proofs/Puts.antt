-- What a put leaves in the index, the cache and the free slots, and what its clauses say.
use Rattle.std.proofs.Common.{◌≡◌, ℕ, refl, ◌-◌, ◌<◌, Bool, true, false, cond, not, ◌&&◌, ◌==◌, nat_eq, nat_lt, ◌≤◌, List, ◌∷◌, length, All, Option, Some, None, IsSome, option_map, unwrap_or, find, sym, ap, ap₂, subst, ◌∙◌, eq-eqb, arith}
use Rattle.std.proofs.lemmas.Bool.{ne_eqb, ltb-true, ltb-false}
use Rattle.std.proofs.lemmas.List.Elements.{All-take}
use Rattle.std.specs.List.{slice_get}
use Rattle.std.specs.Map.{lookup_entry}
use Rattle.std.specs.Ordering.{is_eq}
use Rattle.std.proofs.lemmas.Option.{same_Some}
use Rattle.lru.specs.LruCache.{LruCache, lru_cache, promoted, put_entries, last_entry}
use Rattle.valid_intervals.specs.Spans.{IsSpan}
use Rattle.valid_intervals.specs.declared.SignalCell.{SignalCell}
use Rattle.valid_intervals.specs.Cells.{to_front, all_but_last, is_stored}
use Rattle.cell_store.specs.declared.Key.{Key}
use Rattle.cell_store.specs.declared.index.Place.{Place}
use Rattle.cell_store.specs.Recency.{Contents, contents, with_cells, key_of, last_key, pushes_out, after_put, IsApart, FitsStore}
use Rattle.cell_store.specs.inner.Index.{key_cmp, has_key, place_at, cells_of, IsSoundStore}
use Rattle.cell_store.proofs.Found.{none_some}
use Rattle.cell_store.proofs.Cached.{all_kept, all_differ, found_if_stored, not_stored, all_apart}
use Rattle.cell_store.proofs.Entries.{CacheEntry, past_end, length-cells_of, absent, fresh, new_slot, still_free}
use Rattle.cell_store.proofs.Placed.{IsLocated, located, same_slot, no_cell}
use Rattle.cell_store.proofs.Calls.{last_below, new_below, IsUsed, is_used, same_sound, HasCome, has_come, IsLast, is_last, last_at, HasReplaced, has_replaced}

pub came_at : (f g : Key → Option Place) (k : Key) (p : Place) (slot : ℕ) (x : SignalCell) → k ≡ key_of x → p ≡ place_at (slot, x) → ((q : Key) → g q ≡ cond (is_eq (key_cmp k q)) (Some p) (f q))
    → (q : Key) → g q ≡ cond (is_eq (key_cmp (key_of x) q)) (Some (place_at (slot, x))) (f q)
came_at f g k p slot x key is came q = came q ∙ ap₂ (λ (j : Key) (r : Place). cond (is_eq (key_cmp j q)) (Some r) (f q)) key is

pub went_at : (g h : Key → Option Place) (k : Key) (x : SignalCell) → k ≡ key_of x → ((q : Key) → h q ≡ cond (is_eq (key_cmp k q)) None (g q))
    → (q : Key) → h q ≡ cond (is_eq (key_cmp (key_of x) q)) None (g q)
went_at g h k x key went q = went q ∙ ap (λ (j : Key). cond (is_eq (key_cmp j q)) None (g q)) key

-- the cell was stored, and is used
pub record IsStored (place_of : Key → Option Place) (entries : List CacheEntry) (free : List ℕ) (capacity slot : ℕ) (x : SignalCell) : Type 0 where
  pub stored : is_stored x (cells_of entries) ≡ true
  pub used : IsUsed place_of entries free capacity slot x

module _ (place_of : Key → Option Place) (entries : List CacheEntry) (free : List ℕ) (capacity : ℕ) (x : SignalCell) (sound : IsSoundStore place_of entries free capacity) (span : IsSpan x.cell.span) (fits : FitsStore x (cells_of entries)) where
  stored_at_place : (p : Place) → place_of (key_of x) ≡ Some p → IsStored place_of entries free capacity p.slot x
  stored_at_place p at =
      (elim (find (has_key (key_of x)) (cells_of entries)) as (λ o. find (has_key (key_of x)) (cells_of entries) ≡ o → option_map (λ (z : SignalCell). z.cell.span.stop) o ≡ Some p.end → IsStored place_of entries free capacity p.slot x) [
        | None ↦ λ e d. none_some p.end d
        | Some y ↦ λ e d.
            let is = found_if_stored x (cells_of entries) span sound.found.indexed.spans fits y e in
            let there : find (has_key (key_of x)) (cells_of entries) ≡ Some x = e ∙ ap (λ (z : SignalCell). Some z) (sym is.0) in
            let l : IsLocated place_of entries (has_key (key_of x)) x = located place_of entries (has_key (key_of x)) x sound.found there in
            record {
              stored = is.1;
              used = subst (λ (n : ℕ). IsUsed place_of entries free capacity n x) (same_slot place_of l.slot x p l.at at)
                  (is_used place_of entries free capacity (has_key (key_of x)) x sound there l);
            }
      ]) refl (sym (sound.found.indexed.ends (key_of x)) ∙ ap (option_map (λ (q : Place). q.end)) at)

  -- the cell is new
  is_new : place_of (key_of x) ≡ None → (is_stored x (cells_of entries) ≡ false) × All (IsApart x) (cells_of entries)
  is_new none =
      let new : is_stored x (cells_of entries) ≡ false = not_stored x (cells_of entries) (no_cell place_of entries (key_of x) sound.found none) in
      (new, all_apart x (cells_of entries) fits new)

-- ---- the clauses
apart_numbers : (a b : ℕ) → a < b → (a == b) ≡ false
apart_numbers a b h = ne_eqb a b (λ e. omega arith)

module _ (s : Contents) (x : SignalCell) where
  stays_in : is_stored x s.cells ≡ true → pushes_out x s ≡ false
  stays_in stored = ap (λ b. not b && (length s.cells == s.capacity)) stored

  has_room : is_stored x s.cells ≡ false → length s.cells < s.capacity → pushes_out x s ≡ false
  has_room new room = ap (λ b. not b && (length s.cells == s.capacity)) new ∙ apart_numbers (length s.cells) s.capacity room

  goes_out : is_stored x s.cells ≡ false → length s.cells ≡ s.capacity → pushes_out x s ≡ true
  goes_out new full = ap (λ b. not b && (length s.cells == s.capacity)) new ∙ eq-eqb (length s.cells) s.capacity full

  after_as : (b : Bool) → pushes_out x s ≡ b → after_put s x ≡ with_cells s (to_front x (cond b (all_but_last s.cells) s.cells))
  after_as b is = ap (λ c. with_cells s (to_front x (cond c (all_but_last s.cells) s.cells))) is

  again_shows : is_stored x s.cells ≡ true → with_cells s (to_front x s.cells) ≡ after_put s x
  again_shows stored = sym (after_as false (stays_in stored))

  -- where x is apart from the cells, it stands in front of them
  come_shows : IsSpan x.cell.span → All (IsApart x) s.cells → is_stored x s.cells ≡ false → length s.cells < s.capacity → with_cells s (x ∷ s.cells) ≡ after_put s x
  come_shows span apart new room =
      ap (λ (l : List SignalCell). with_cells s (x ∷ l)) (sym (all_kept x s.cells (all_differ x s.cells span apart))) ∙ sym (after_as false (has_room new room))

  replaced_shows : IsSpan x.cell.span → All (IsApart x) s.cells → is_stored x s.cells ≡ false → length s.cells ≡ s.capacity → with_cells s (x ∷ all_but_last s.cells) ≡ after_put s x
  replaced_shows span apart new full =
      ap (λ (l : List SignalCell). with_cells s (x ∷ l)) (sym (all_kept x (all_but_last s.cells) (all_differ x (all_but_last s.cells) span (All-take (IsApart x) (length s.cells - 1) s.cells apart))))
      ∙ sym (after_as true (goes_out new full))

-- ---- the cell that goes
abbrev slot_and_key : CacheEntry → ℕ × Key
slot_and_key e = (e.0, key_of e.1)

abbrev pub last_if_full : List CacheEntry → ℕ → Option (ℕ × Key)
last_if_full entries capacity = cond (nat_lt (length entries) capacity) None (option_map slot_and_key (last_entry entries))

is_none : {X Y : Type 0} (f : X → Y) (o : Option X) → None ≡ option_map f o → o ≡ None
is_none f None h = refl
is_none f (Some x) h = none_some (f x) h

-- where none goes, there is room
room_left : (entries : List CacheEntry) (capacity : ℕ) → 0 < capacity → None ≡ last_if_full entries capacity → length entries < capacity
room_left entries capacity some h =
    (elim (nat_lt (length entries) capacity) as (λ b. nat_lt (length entries) capacity ≡ b → None ≡ cond b None (option_map slot_and_key (last_entry entries)) → length entries < capacity) [
      | true ↦ λ t d. ltb-true (length entries) capacity t
      | false ↦ λ t d. omega (arith, some, past_end entries (length entries - 1) (is_none slot_and_key (last_entry entries) d))
    ]) refl h

record IsFullLast (entries : List CacheEntry) (capacity slot : ℕ) (k : Key) : Type 0 where
  pub y : SignalCell
  pub entry : last_entry entries ≡ Some (slot, y)
  pub key : k ≡ key_of y
  pub full : capacity ≤ length entries

full_last : (entries : List CacheEntry) (capacity slot : ℕ) (k : Key) → Some (slot, k) ≡ last_if_full entries capacity → IsFullLast entries capacity slot k
full_last entries capacity slot k h =
    (elim (nat_lt (length entries) capacity) as (λ b. nat_lt (length entries) capacity ≡ b → Some (slot, k) ≡ cond b None (option_map slot_and_key (last_entry entries)) → IsFullLast entries capacity slot k) [
      | true ↦ λ t d. none_some (slot, k) (sym d)
      | false ↦ λ t d.
          (elim (last_entry entries) as (λ o. last_entry entries ≡ o → Some (slot, k) ≡ option_map slot_and_key o → IsFullLast entries capacity slot k) [
            | None ↦ λ at i. none_some (slot, k) (sym i)
            | Some e ↦ λ at i.
                let is : slot_and_key e ≡ (slot, k) = same_Some (slot_and_key e) (slot, k) (sym i) in
                record {
                  y = e.1;
                  entry = at ∙ ap (λ (n : ℕ). Some (n, e.1)) (ap (λ (p : ℕ × Key). p.0) is);
                  key = ap (λ (p : ℕ × Key). p.1) (sym is);
                  full = ltb-false (length entries) capacity t;
                }
          ]) refl d
    ]) refl h

-- the slot of a new cell is below the capacity
pub below : (f : Key → Option Place) (entries : List CacheEntry) (free : List ℕ) (capacity : ℕ) (last : Option (ℕ × Key)) → IsSoundStore f entries free capacity → last ≡ last_if_full entries capacity
    → unwrap_or (option_map (λ e. e.0) last) (new_slot entries free) < capacity
below f entries free capacity None sound h = new_below f entries free capacity sound (room_left entries capacity sound.some h)
below f entries free capacity (Some e) sound h = let end : IsFullLast entries capacity e.0 e.1 = full_last entries capacity e.0 e.1 h in last_below f entries free capacity e.0 end.y sound end.entry

-- the slot of a new cell is empty where there is room
pub slot_empty : (f : Key → Option Place) (entries : List CacheEntry) (free : List ℕ) (capacity slot : ℕ) (last : Option (ℕ × Key)) → IsSoundStore f entries free capacity → last ≡ last_if_full entries capacity
    → slot ≡ unwrap_or (option_map (λ e. e.0) last) (new_slot entries free) → SignalCell → length entries < capacity → lookup_entry (nat_eq slot) entries ≡ None
slot_empty f entries free capacity slot None sound h is x room = subst (λ (n : ℕ). lookup_entry (nat_eq n) entries ≡ None) (sym is) (absent (new_slot entries free) entries (fresh entries free x sound.slots).unused)
slot_empty f entries free capacity slot (Some e) sound h is x room = let end : IsFullLast entries capacity e.0 e.1 = full_last entries capacity e.0 e.1 h in absurd (omega (arith, end.full))

-- and else it is that of the last cell
pub slot_held : (f : Key → Option Place) (entries : List CacheEntry) (free : List ℕ) (capacity slot : ℕ) (last : Option (ℕ × Key)) → IsSoundStore f entries free capacity → last ≡ last_if_full entries capacity
    → slot ≡ unwrap_or (option_map (λ e. e.0) last) (new_slot entries free) → capacity ≤ length entries → IsSome (lookup_entry (nat_eq slot) entries)
slot_held f entries free capacity slot None sound h is full = absurd (omega (arith, room_left entries capacity sound.some h))
slot_held f entries free capacity slot (Some e) sound h is full =
    let end : IsFullLast entries capacity e.0 e.1 = full_last entries capacity e.0 e.1 h in
    let l : IsLast entries e.0 end.y = is_last entries e.0 end.y end.entry in
    let there : lookup_entry (nat_eq e.0) entries ≡ Some (e.0, end.y) = ap (lookup_entry (nat_eq e.0)) l.split ∙ (last_at f entries free capacity e.0 end.y sound l).entry in
    subst (λ (n : ℕ). IsSome (lookup_entry (nat_eq n) entries)) (sym is) (subst IsSome (sym there) refl)

pub at_slot : (slot given : ℕ) (k : Key) (entries : List CacheEntry) (capacity : ℕ) → slot ≡ given → Some (given, k) ≡ last_if_full entries capacity → Some (slot, k) ≡ last_if_full entries capacity
at_slot slot given k entries capacity is h = subst (λ (n : ℕ). Some (n, k) ≡ last_if_full entries capacity) (sym is) h

-- ---- what a put leaves and returns
pub record IsPut (place_of : Key → Option Place) (cache : LruCache ℕ SignalCell) (free : List ℕ) (s : Contents) (slot : ℕ) (x : SignalCell) (fresh : Bool) (evicted : Option Key) : Type 0 where
  pub first : slice_get cache.entries 0 ≡ Some (slot, x)
  pub sound : IsSoundStore place_of cache.entries free cache.cap
  pub cells : contents cache.cap (cells_of cache.entries) ≡ after_put s x
  pub is_fresh : fresh ≡ not (is_stored x s.cells)
  pub is_evicted : evicted ≡ cond (pushes_out x s) (last_key s.cells) None

module _ (f : Key → Option Place) (cache : LruCache ℕ SignalCell) (free : List ℕ) (s : Contents) (x : SignalCell) (k : Key) (sound : IsSoundStore f cache.entries free cache.cap) (view : contents cache.cap (cells_of cache.entries) ≡ s) (fits : FitsStore x s.cells) (key : k ≡ key_of x) (span : IsSpan x.cell.span) where
  fits_inside : FitsStore x (cells_of cache.entries)
  fits_inside = subst (λ (t : Contents). FitsStore x t.cells) (sym view) fits

  new_inside : None ≡ f k → (is_stored x (cells_of cache.entries) ≡ false) × All (IsApart x) (cells_of cache.entries)
  new_inside none = is_new f cache.entries free cache.cap x sound span fits_inside (ap f (sym key) ∙ sym none)

  new_cell : None ≡ f k → (is_stored x s.cells ≡ false) × All (IsApart x) s.cells
  new_cell none = subst (λ (t : Contents). (is_stored x t.cells ≡ false) × All (IsApart x) t.cells) view (new_inside none)

  was_stored : (slot : ℕ) → Some slot ≡ option_map (λ (p : Place). p.slot) (f k) → IsStored f cache.entries free cache.cap slot x
  was_stored slot at =
      (elim (f k) as (λ o. f k ≡ o → Some slot ≡ option_map (λ (p : Place). p.slot) o → IsStored f cache.entries free cache.cap slot x) [
        | None ↦ λ e d. none_some slot (sym d)
        | Some p ↦ λ e d.
            subst (λ (n : ℕ). IsStored f cache.entries free cache.cap n x) (sym (same_Some slot p.slot d))
            (stored_at_place f cache.entries free cache.cap x sound span fits_inside p (ap f (sym key) ∙ e))
      ]) refl at

  -- the slot that the index has of it holds it
  pub slot_holds : (slot : ℕ) → Some slot ≡ option_map (λ (p : Place). p.slot) (f k) → lookup_entry (nat_eq slot) cache.entries ≡ Some (slot, x)
  slot_holds slot at = (was_stored slot at).used.there

  -- the cell is stored already
  pub put_again : (g : Key → Option Place) (next : LruCache ℕ SignalCell) (slot : ℕ) → Some slot ≡ option_map (λ (p : Place). p.slot) (f k) → ((q : Key) → g q ≡ f q) → next ≡ lru_cache (promoted (nat_eq slot) cache.entries) cache.cap → IsPut g next free s slot x false None
  put_again g next slot at same is =
      let was : IsStored f cache.entries free cache.cap slot x = was_stored slot at in
      let stored : is_stored x s.cells ≡ true = subst (λ (t : Contents). is_stored x t.cells ≡ true) view was.stored in
      record {
        first = ap (λ (l : LruCache ℕ SignalCell). slice_get l.entries 0) is ∙ was.used.first;
        sound = subst (λ (l : LruCache ℕ SignalCell). IsSoundStore g l.entries free l.cap) (sym is) (same_sound g f (promoted (nat_eq slot) cache.entries) free cache.cap same was.used.sound);
        cells = ap (λ (l : LruCache ℕ SignalCell). contents l.cap (cells_of l.entries)) is ∙ ap (contents cache.cap) was.used.cells
            ∙ ap (λ (t : Contents). with_cells t (to_front x t.cells)) view ∙ again_shows s x stored;
        is_fresh = sym (ap not stored);
        is_evicted = sym (ap (λ b. cond b (last_key s.cells) None) (stays_in s x stored));
      }

  -- a new cell where there is room
  pub put_in_room : (g : Key → Option Place) (next : LruCache ℕ SignalCell) (left : List ℕ) (p : Place) (slot : ℕ) → None ≡ f k → None ≡ last_if_full cache.entries cache.cap → slot ≡ new_slot cache.entries free
      → p ≡ place_at (slot, x) → ((q : Key) → g q ≡ cond (is_eq (key_cmp k q)) (Some p) (f q)) → next ≡ lru_cache (put_entries nat_eq (lru_cache cache.entries cache.cap) slot x) cache.cap → left ≡ still_free free → IsPut g next left s slot x true None
  put_in_room g next left p slot none last at place came is off =
      let new = new_cell none in
      let room : length (cells_of cache.entries) < cache.cap = omega (arith, length-cells_of cache.entries, room_left cache.entries cache.cap sound.some last) in
      let short : length s.cells < s.capacity = subst (λ (t : Contents). length t.cells < t.capacity) view room in
      let come : HasCome g cache.entries free cache.cap slot x = has_come f g cache.entries free cache.cap slot x sound span (new_inside none).1 room at (came_at f g k p slot x key place came) in
      record {
        first = ap (λ (l : LruCache ℕ SignalCell). slice_get l.entries 0) is ∙ ap (λ (es : List CacheEntry). slice_get es 0) come.list;
        sound = subst (λ (l : LruCache ℕ SignalCell). IsSoundStore g l.entries left l.cap) (sym is)
            (subst (λ (es : List CacheEntry). IsSoundStore g es left cache.cap) (sym come.list)
            (subst (λ (slots : List ℕ). IsSoundStore g ((slot, x) ∷ cache.entries) slots cache.cap) (sym off) come.sound));
        cells = ap (λ (l : LruCache ℕ SignalCell). contents l.cap (cells_of l.entries)) is ∙ ap (λ (es : List CacheEntry). contents cache.cap (cells_of es)) come.list
            ∙ ap (λ (t : Contents). with_cells t (x ∷ t.cells)) view ∙ come_shows s x span new.1 new.0 short;
        is_fresh = sym (ap not new.0);
        is_evicted = sym (ap (λ b. cond b (last_key s.cells) None) (has_room s x new.0 short));
      }

  -- a new cell in the slot of the least recently used one
  pub put_in_full : (g h : Key → Option Place) (next : LruCache ℕ SignalCell) (p : Place) (slot : ℕ) (gone : Key) → None ≡ f k → Some (slot, gone) ≡ last_if_full cache.entries cache.cap
      → p ≡ place_at (slot, x) → ((q : Key) → g q ≡ cond (is_eq (key_cmp k q)) (Some p) (f q)) → next ≡ lru_cache (put_entries nat_eq (lru_cache cache.entries cache.cap) slot x) cache.cap
      → ((q : Key) → h q ≡ cond (is_eq (key_cmp gone q)) None (g q)) → IsPut h next free s slot x true (Some gone)
  put_in_full g h next p slot gone none last place came is went =
      let new = new_cell none in
      let end : IsFullLast cache.entries cache.cap slot gone = full_last cache.entries cache.cap slot gone last in
      let full : length s.cells ≡ s.capacity = subst (λ (t : Contents). length t.cells ≡ t.capacity) view (omega (arith, length-cells_of cache.entries, sound.within, end.full)) in
      let replaced : HasReplaced h cache.entries free cache.cap slot x =
      has_replaced f g h cache.entries free cache.cap slot x end.y sound span (new_inside none).1 end.entry (came_at f g k p slot x key place came) (went_at g h gone end.y end.key went) in
      record {
        first = ap (λ (l : LruCache ℕ SignalCell). slice_get l.entries 0) is ∙ ap (λ (es : List CacheEntry). slice_get es 0) replaced.list;
        sound = subst (λ (l : LruCache ℕ SignalCell). IsSoundStore h l.entries free l.cap) (sym is) (subst (λ (es : List CacheEntry). IsSoundStore h es free cache.cap) (sym replaced.list) replaced.sound);
        cells = ap (λ (l : LruCache ℕ SignalCell). contents l.cap (cells_of l.entries)) is ∙ ap (λ (es : List CacheEntry). contents cache.cap (cells_of es)) replaced.list ∙ ap (contents cache.cap) replaced.cells
            ∙ ap (λ (t : Contents). with_cells t (x ∷ all_but_last t.cells)) view ∙ replaced_shows s x span new.1 new.0 full;
        is_fresh = sym (ap not new.0);
        is_evicted = ap (λ (j : Key). Some j) end.key ∙ sym (is_last cache.entries slot end.y end.entry).key ∙ ap (λ (t : Contents). last_key t.cells) view
            ∙ sym (ap (λ b. cond b (last_key s.cells) None) (goes_out s x new.0 full));
      }
