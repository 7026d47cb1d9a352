use Rattle.std.proofs.Common.{arith, ◌<◌, refl, ◌≡◌, ℕ, ◌-◌, true, false, List, length, take, Option, None, Some, IfNone, IfSome, cond, nat_eq, option_map, unwrap_or, sym, ap, ap₂, subst, ◌∙◌}
use Rattle.std.specs.List.{slice_get}
use Rattle.cell_store.specs.inner.Lists.{Sets}
use Rattle.cell_store.specs.inner.Maps.{place_of}
use Rattle.std.specs.Map.{lookup_entry}
use Rattle.std.specs.Ordering.{is_eq}
use Rattle.lru.specs.LruCache.{LruCache}
use Rattle.valid_intervals.specs.declared.SignalCell.{SignalCell}
use Rattle.cell_store.specs.Recency.{contents}
use Rattle.cell_store.specs.declared.Key.{Key}
use Rattle.cell_store.specs.declared.index.Place.{Place}
use Rattle.cell_store.specs.inner.Index.{key_cmp, cells_of, IsFront, IsSoundStore}
use Rattle.cell_store.proofs.Found.{none_some}
use Rattle.cell_store.proofs.StoreIndex.{put_back}
use Rattle.cell_store.proofs.Entries.{is_there, new_slot}
use Rattle.cell_store.proofs.Calls.{same_sound}
use Rattle.cell_store.proofs.Puts.{below, slot_empty, slot_held, slot_holds, IsPut, put_again, put_in_room, put_in_full, at_slot}
use Rattle.cell_store.proofs.store.CellStore.put.Goals.{After-last_if_full, After-slot_for_new-slot, After-push}
use Rattle.cell_store.proofs.store.CellStore.put.Goals as goal

-- ---- the look at the least recently used cell leaves the store as it is
sound : (c : After-last_if_full) → IsSoundStore (place_of c.self.inside.index) c.last_if_full.new.cache.entries c.self.inside.free.items c.last_if_full.new.cache.cap
sound c = subst (λ (l : LruCache ℕ SignalCell). IsSoundStore (place_of c.self.inside.index) l.entries c.self.inside.free.items l.cap) (sym c.last_if_full.ensures.unchanged) c.self.invariant.0

front : (c : After-last_if_full) → IsFront c.self.inside.front c.last_if_full.new.cache.entries
front c = subst (λ (l : LruCache ℕ SignalCell). IsFront c.self.inside.front l.entries) (sym c.last_if_full.ensures.unchanged) c.self.invariant.1

view : (c : After-last_if_full) → contents c.last_if_full.new.cache.cap (cells_of c.last_if_full.new.cache.entries) ≡ c.args.self.now
view c = ap (λ (l : LruCache ℕ SignalCell). contents l.cap (cells_of l.entries)) c.last_if_full.ensures.unchanged ∙ c.self.view_is

-- ---- a slot fits
small : (c : After-slot_for_new-slot) → IsSoundStore (place_of c.self.inside.index) c.last_if_full.new.cache.entries c.self.inside.free.items c.last_if_full.new.cache.cap → c.slot_for_new-slot.result < 65536
small c held =
    let fits : unwrap_or (option_map (λ e. e.0) c.in_ok-last.last) (new_slot c.last_if_full.new.cache.entries c.self.inside.free.items) < c.last_if_full.new.cache.cap =
    below (place_of c.self.inside.index) c.last_if_full.new.cache.entries c.self.inside.free.items c.last_if_full.new.cache.cap c.in_ok-last.last held c.in_ok-last.ensures.last in
    omega (
      arith,
      fits,
      held.most,
      c.slot_for_new-slot.ensures
          ∙ ap₂ (λ (l : List ℕ) (n : ℕ). unwrap_or (option_map (λ e. e.0) c.in_ok-last.last) (unwrap_or (slice_get l (length l - 1)) n)) c.deref.ensures.value c.len.ensures,
    )

pub cell_place-requires : goal.cell_place-requires
cell_place-requires c = small ((goal.at.cell_place-requires c).After-slot_for_new-slot) (sound ((goal.at.cell_place-requires c).After-last_if_full))

pub push-requires-clause-small : goal.push-requires-clause-small
push-requires-clause-small c = small ((goal.at.push-requires-clause-small c).After-slot_for_new-slot) (sound ((goal.at.push-requires-clause-small c).After-last_if_full))

pub invariant_of-self : goal.invariant_of-self
invariant_of-self c = let seen : After-last_if_full = (goal.at.invariant_of-self c).After-last_if_full in (sound seen, front seen)

pub invariant_of-self-in_err-held : goal.invariant_of-self-in_err-held
invariant_of-self-in_err-held c =
    let seen : After-last_if_full = (goal.at.invariant_of-self-in_err-held c).After-last_if_full in (
      same_sound (place_of c.insert_if_absent.new.self) (place_of c.self.inside.index) c.last_if_full.new.cache.entries c.self.inside.free.items c.last_if_full.new.cache.cap
          c.in_err-held.ensures.err (sound seen),
      front seen,
    )

-- ---- the cell is stored already
pub promote-requires : goal.promote-requires
promote-requires c =
    let seen : After-last_if_full = (goal.at.promote-requires c).After-last_if_full in
    record {
      there = is_there (lookup_entry (nat_eq c.in-Some.held) c.last_if_full.new.cache.entries) (c.in-Some.held, record { signal = c.args.signal; cell = c.args.cell })
          (slot_holds (place_of c.self.inside.index) c.last_if_full.new.cache c.self.inside.free.items c.args.self.now (record { signal = c.args.signal; cell = c.args.cell }) c.cell_key-key.result
          (sound seen) (view seen) c.requires c.cell_key-key.ensures.key c.cell_key-key.ensures.span c.in-Some.held (sym c.in-Some.is ∙ c.in_ok-held.ensures.had));
    }

again : (c : goal.After-self-1) → IsPut (place_of c.insert_if_absent.new.self) c.promote.new.self c.self.inside.free.items c.args.self.now c.in-Some.held (record { signal = c.args.signal; cell = c.args.cell }) false None
again c =
    let seen : After-last_if_full = (goal.at.invariant_of-self-in-Some c).After-last_if_full in
    put_again (place_of c.self.inside.index) c.last_if_full.new.cache c.self.inside.free.items c.args.self.now (record { signal = c.args.signal; cell = c.args.cell }) c.cell_key-key.result
    (sound seen) (view seen) c.requires c.cell_key-key.ensures.key c.cell_key-key.ensures.span (place_of c.insert_if_absent.new.self) c.promote.new.self c.in-Some.held
    (sym c.in-Some.is ∙ c.in_ok-held.ensures.had)
    (subst (λ o. IfSome o (λ _. (q : Key) → place_of c.insert_if_absent.new.self q ≡ place_of c.self.inside.index q)) c.in-Some.is c.in_ok-held.ensures.stays) c.promote.ensures

pub invariant_of-self-in-Some : goal.invariant_of-self-in-Some
invariant_of-self-in-Some c = ((again c).sound, (again c).first)

pub returns-in-Some-clause-cells : goal.returns-in-Some-clause-cells
returns-in-Some-clause-cells c = (again c).cells

pub returns-in-Some-clause-fresh : goal.returns-in-Some-clause-fresh
returns-in-Some-clause-fresh c = (again c).is_fresh

pub returns-in-Some-clause-evicted : goal.returns-in-Some-clause-evicted
returns-in-Some-clause-evicted c = (again c).is_evicted

-- ---- the cell is new
none : (c : After-push) → None ≡ place_of c.self.inside.index c.cell_key-key.result
none c = no_slot (place_of c.self.inside.index c.cell_key-key.result) (sym c.in_default.is ∙ c.in_ok-held.ensures.had)
  where
    no_slot : (o : Option Place) → None ≡ option_map (λ (p : Place). p.slot) o → None ≡ o
    no_slot None h = refl
    no_slot (Some p) h = none_some p.slot h

came : (c : After-push) → (q : Key) → place_of c.insert_if_absent.new.self q ≡ cond (is_eq (key_cmp c.cell_key-key.result q)) (Some c.cell_place.result) (place_of c.self.inside.index q)
came c = subst (λ o. IfNone o (Sets (place_of c.self.inside.index) (place_of c.insert_if_absent.new.self) c.cell_key-key.result (Some c.cell_place.result))) c.in_default.is c.in_ok-held.ensures.new

slot : (c : After-push) → (last : Option (ℕ × Key)) → c.in_ok-last.last ≡ last
    → c.slot_for_new-slot.result ≡ unwrap_or (option_map (λ e. e.0) last) (new_slot c.last_if_full.new.cache.entries c.self.inside.free.items)
slot c last is =
    c.slot_for_new-slot.ensures
    ∙ ap (λ (o : Option (ℕ × Key)). unwrap_or (option_map (λ e. e.0) o) (unwrap_or (slice_get c.deref.result.now (length c.deref.result.now - 1)) c.len.result)) is
    ∙ ap₂ (λ (l : List ℕ) (n : ℕ). unwrap_or (option_map (λ e. e.0) last) (unwrap_or (slice_get l (length l - 1)) n)) c.deref.ensures.value c.len.ensures

pub push-requires-clause-empty : goal.push-requires-clause-empty
push-requires-clause-empty c =
    slot_empty (place_of c.self.inside.index) c.last_if_full.new.cache.entries c.self.inside.free.items c.last_if_full.new.cache.cap c.slot_for_new-slot.result c.in_ok-last.last
    (sound ((goal.at.push-requires-clause-empty c).After-last_if_full)) c.in_ok-last.ensures.last
    (c.slot_for_new-slot.ensures ∙ ap₂ (λ (l : List ℕ) (n : ℕ). unwrap_or (option_map (λ e. e.0) c.in_ok-last.last) (unwrap_or (slice_get l (length l - 1)) n)) c.deref.ensures.value c.len.ensures)
    (record { signal = c.args.signal; cell = c.args.cell })

pub push-requires-clause-held : goal.push-requires-clause-held
push-requires-clause-held c =
    slot_held (place_of c.self.inside.index) c.last_if_full.new.cache.entries c.self.inside.free.items c.last_if_full.new.cache.cap c.slot_for_new-slot.result c.in_ok-last.last
    (sound ((goal.at.push-requires-clause-held c).After-last_if_full)) c.in_ok-last.ensures.last
    (c.slot_for_new-slot.ensures ∙ ap₂ (λ (l : List ℕ) (n : ℕ). unwrap_or (option_map (λ e. e.0) c.in_ok-last.last) (unwrap_or (slice_get l (length l - 1)) n)) c.deref.ensures.value c.len.ensures)

-- the cache refuses it
pub invariant_of-self-in_default-push : goal.invariant_of-self-in_default-push
invariant_of-self-in_default-push c =
    let new : After-push = (goal.at.invariant_of-self-in_default-push c).After-push in
    let seen : After-last_if_full = (goal.at.invariant_of-self-in_default-push c).After-last_if_full in (
      subst (λ (l : LruCache ℕ SignalCell). IsSoundStore (place_of c.remove.new.self) l.entries c.self.inside.free.items l.cap) (sym c.in_default-push.ensures.err)
          (same_sound (place_of c.remove.new.self) (place_of c.self.inside.index) c.last_if_full.new.cache.entries c.self.inside.free.items c.last_if_full.new.cache.cap
          (put_back (place_of c.self.inside.index) (place_of c.insert_if_absent.new.self) (place_of c.remove.new.self) c.cell_key-key.result (Some c.cell_place.result) None (none new) (came new) c.remove.ensures) (sound seen)),
      subst (λ (l : LruCache ℕ SignalCell). IsFront c.self.inside.front l.entries) (sym c.in_default-push.ensures.err) (front seen),
    )

-- ---- it takes the slot of the least recently used cell
full : (c : goal.After-remove-in-Some-last) → IsPut (place_of c.remove-in-Some-last.new.self) c.push.new.self c.self.inside.free.items c.args.self.now c.slot_for_new-slot.result (record { signal = c.args.signal; cell = c.args.cell }) true (Some c.in-Some-last.evicted)
full c =
    let new : After-push = (goal.at.invariant_of-self-in-Some-last c).After-push in
    let seen : After-last_if_full = (goal.at.invariant_of-self-in-Some-last c).After-last_if_full in
    put_in_full (place_of c.self.inside.index) c.last_if_full.new.cache c.self.inside.free.items c.args.self.now (record { signal = c.args.signal; cell = c.args.cell }) c.cell_key-key.result
    (sound seen) (view seen) c.requires c.cell_key-key.ensures.key c.cell_key-key.ensures.span (place_of c.insert_if_absent.new.self) (place_of c.remove-in-Some-last.new.self) c.push.new.self c.cell_place.result c.slot_for_new-slot.result c.in-Some-last.evicted
    (none new) (at_slot c.slot_for_new-slot.result c.in-Some-last.field-0-0 c.in-Some-last.evicted c.last_if_full.new.cache.entries c.last_if_full.new.cache.cap
    (slot new (Some (c.in-Some-last.field-0-0, c.in-Some-last.evicted)) c.in-Some-last.is) (sym c.in-Some-last.is ∙ c.in_ok-last.ensures.last))
    c.cell_place.ensures (came new) c.in-Ok.ensures.entries c.remove-in-Some-last.ensures

pub invariant_of-self-in-Some-last : goal.invariant_of-self-in-Some-last
invariant_of-self-in-Some-last c = ((full c).sound, (full c).first)

pub returns-in-Some-last-clause-cells : goal.returns-in-Some-last-clause-cells
returns-in-Some-last-clause-cells c = (full c).cells

pub returns-in-Some-last-clause-fresh : goal.returns-in-Some-last-clause-fresh
returns-in-Some-last-clause-fresh c = (full c).is_fresh

pub returns-in-Some-last-clause-evicted : goal.returns-in-Some-last-clause-evicted
returns-in-Some-last-clause-evicted c = (full c).is_evicted

-- ---- it takes a free slot
room : (c : goal.After-pop) → IsPut (place_of c.insert_if_absent.new.self) c.push.new.self c.pop.new.self.items c.args.self.now c.slot_for_new-slot.result (record { signal = c.args.signal; cell = c.args.cell }) true None
room c =
    let new : After-push = (goal.at.invariant_of-self-in-None c).After-push in
    let seen : After-last_if_full = (goal.at.invariant_of-self-in-None c).After-last_if_full in
    put_in_room (place_of c.self.inside.index) c.last_if_full.new.cache c.self.inside.free.items c.args.self.now (record { signal = c.args.signal; cell = c.args.cell }) c.cell_key-key.result
    (sound seen) (view seen) c.requires c.cell_key-key.ensures.key c.cell_key-key.ensures.span (place_of c.insert_if_absent.new.self) c.push.new.self c.pop.new.self.items c.cell_place.result c.slot_for_new-slot.result
    (none new) (sym c.in-None.is ∙ c.in_ok-last.ensures.last) (slot new None c.in-None.is) c.cell_place.ensures (came new) c.in-Ok.ensures.entries
    (c.pop.ensures.rest ∙ ap (λ (n : ℕ). take (n - 1) c.self.inside.free.items) (sym c.deref.ensures.len ∙ ap (λ (l : List ℕ). length l) c.deref.ensures.value))

pub invariant_of-self-in-None : goal.invariant_of-self-in-None
invariant_of-self-in-None c = ((room c).sound, (room c).first)

pub returns-in-None-clause-cells : goal.returns-in-None-clause-cells
returns-in-None-clause-cells c = (room c).cells

pub returns-in-None-clause-fresh : goal.returns-in-None-clause-fresh
returns-in-None-clause-fresh c = (room c).is_fresh

pub returns-in-None-clause-evicted : goal.returns-in-None-clause-evicted
returns-in-None-clause-evicted c = (room c).is_evicted
