-- The cells of a store by their slots, and the order of the slots.
use Rattle.std.proofs.Common.{◌≡◌, ℕ, ◌+◌, ◌-◌, ◌<◌, ◌≤◌, true, false, cond, nat_eq, List, [], ◌∷◌, zero, suc, length, take, get_or, All, Option, Some, None, IsSome, option_map, refl, sym, ap, subst, ◌∙◌, eqb-true, nat_lt, arith}
use Rattle.std.proofs.lemmas.List.{take_all, take-map, length-map, length-take, get_or_read}
use Rattle.std.proofs.lemmas.Option.{slice_get-map, slice_get_within, get_or_from_slice_get, same_Some}
use Rattle.std.specs.List.{slice_get}
use Rattle.std.proofs.lemmas.List.Elements.{All-head, All-tail, All-cons, All-weaker, All-take, All-get_or}
use Rattle.std.proofs.lemmas.Bool.{ltb-true, ltb-false}
use Rattle.std.specs.Map.{lookup_entry, remove_entry}
use Rattle.std.specs.Option.{option_map_or}
use Rattle.lru.specs.LruCache.{LruCache, lru_cache, promoted, put_entries, last_entry}
use Rattle.valid_intervals.specs.declared.SignalCell.{SignalCell}
use Rattle.cell_store.specs.inner.Notes.{Slots, with_note, after_notes, cell_in, with_cells, AreRecent}
use Rattle.cell_store.proofs.Entries.{CacheEntry}
use Rattle.cell_store.proofs.Found.{none_some}
use Rattle.cell_store.proofs.Uses.{without, without_both, slot_of, absent_stays}

-- ---- the cells of the slots
held-none : {X : Type 0} → IsSome {T = CacheEntry} None → X
held-none held = absurd (cc held)

module _ (cells : List SignalCell) where
  abbrev entry_of : ℕ × Unit {0} → CacheEntry
  entry_of e = (e.0, cell_in cells e.0)

  lookup-with_cells : (s : ℕ) (slots : Slots) → lookup_entry (nat_eq s) (with_cells cells slots) ≡ option_map entry_of (lookup_entry (nat_eq s) slots)
  lookup-with_cells s [] = refl
  lookup-with_cells s (e ∷ slots) =
      elim (nat_eq s e.0) as (λ b. cond b (Some (entry_of e)) (lookup_entry (nat_eq s) (with_cells cells slots)) ≡ option_map entry_of (cond b (Some e) (lookup_entry (nat_eq s) slots))) [
        | true ↦ refl
        | false ↦ lookup-with_cells s slots
      ]

  without-with_cells : (s : ℕ) (slots : Slots) → remove_entry (nat_eq s) (with_cells cells slots) ≡ with_cells cells (without s slots)
  without-with_cells s [] = refl
  without-with_cells s (e ∷ slots) =
      elim (nat_eq s e.0) as (λ b. cond b (with_cells cells slots) (entry_of e ∷ remove_entry (nat_eq s) (with_cells cells slots)) ≡ with_cells cells (cond b slots (e ∷ without s slots))) [
        | true ↦ refl
        | false ↦ ap (λ (l : List CacheEntry). entry_of e ∷ l) (without-with_cells s slots)
      ]

  -- a slot that is there
  pub held_slot : (s : ℕ) (slots : Slots) → IsSome (lookup_entry (nat_eq s) (with_cells cells slots)) → lookup_entry (nat_eq s) slots ≡ Some (s, tt)
  held_slot s slots held =
      (elim (lookup_entry (nat_eq s) slots) as (λ o. lookup_entry (nat_eq s) slots ≡ o → IsSome (option_map entry_of o) → o ≡ Some (s, tt)) [
        | None ↦ λ at some. held-none some
        | Some e ↦ λ at some. ap (λ (n : ℕ). Some (n, tt)) (slot_of s slots e at)
      ]) refl (subst IsSome (lookup-with_cells s slots) held)

  pub empty_slot : (s : ℕ) (slots : Slots) → lookup_entry (nat_eq s) (with_cells cells slots) ≡ None → lookup_entry (nat_eq s) slots ≡ None
  empty_slot s slots none =
      (elim (lookup_entry (nat_eq s) slots) as (λ o. option_map entry_of o ≡ None → o ≡ None) [
        | None ↦ λ at. refl
        | Some e ↦ λ at. none_some (entry_of e) (sym at)
      ]) (sym (lookup-with_cells s slots) ∙ none)

  -- its use is that of its cell
  pub used_as : (s : ℕ) (slots : Slots) → IsSome (lookup_entry (nat_eq s) (with_cells cells slots)) → with_cells cells (with_note slots s) ≡ promoted (nat_eq s) (with_cells cells slots)
  used_as s slots held =
      sym (ap (λ (o : Option CacheEntry). option_map_or (λ (e : CacheEntry). e ∷ remove_entry (nat_eq s) (with_cells cells slots)) o (with_cells cells slots)) (lookup-with_cells s slots ∙ ap (option_map entry_of) (held_slot s slots held))
      ∙ ap (λ (l : List CacheEntry). entry_of (s, tt) ∷ l) (without-with_cells s slots))

-- cells that are the same in each of these slots
same_cells : (cells others : List SignalCell) (s : ℕ) (slots : Slots) → lookup_entry (nat_eq s) slots ≡ None → All (λ e. e.0 < length cells) slots
    → ((t : ℕ) → t < length cells → nat_eq s t ≡ false → cell_in others t ≡ cell_in cells t) → with_cells others slots ≡ with_cells cells slots
same_cells cells others s [] none celled same = refl
same_cells cells others s (e ∷ slots) none celled same =
    (elim (nat_eq s e.0) as (λ b. nat_eq s e.0 ≡ b → cond b (Some e) (lookup_entry (nat_eq s) slots) ≡ None → with_cells others (e ∷ slots) ≡ with_cells cells (e ∷ slots)) [
      | true ↦ λ at h. none_some e (sym h)
      | false ↦ λ at h.
          ap (λ (x : SignalCell). (e.0, x) ∷ with_cells others slots) (same e.0 (All-head (λ (d : ℕ × Unit {0}). d.0 < length cells) e slots celled) at)
          ∙ ap (λ (l : List CacheEntry). (e.0, cell_in cells e.0) ∷ l) (same_cells cells others s slots h (All-tail (λ (d : ℕ × Unit {0}). d.0 < length cells) e slots celled) same)
    ]) refl none

-- ---- slots that stay when another is taken out
All-without : (P : ℕ × Unit {0} → Type 0) (s : ℕ) (slots : Slots) → All P slots → All P (without s slots)
All-without P s [] all = all
All-without P s (e ∷ slots) all =
    elim (nat_eq s e.0) as (λ b. All P (cond b slots (e ∷ without s slots))) [
      | true ↦ All-tail P e slots all
      | false ↦ All-cons P e (without s slots) (All-head P e slots all) (All-without P s slots (All-tail P e slots all))
    ]

absent_without : (t s : ℕ) (slots : Slots) → lookup_entry (nat_eq t) slots ≡ None → lookup_entry (nat_eq t) (without s slots) ≡ None
absent_without t s [] none = refl
absent_without t s (e ∷ slots) none =
    (elim (nat_eq t e.0) as (λ b. nat_eq t e.0 ≡ b → cond b (Some e) (lookup_entry (nat_eq t) slots) ≡ None → lookup_entry (nat_eq t) (cond (nat_eq s e.0) slots (e ∷ without s slots)) ≡ None) [
      | true ↦ λ at h. none_some e (sym h)
      | false ↦ λ at h.
          elim (nat_eq s e.0) as (λ c. lookup_entry (nat_eq t) (cond c slots (e ∷ without s slots)) ≡ None) [
            | true ↦ h
            | false ↦ ap (λ b. cond b (Some e) (lookup_entry (nat_eq t) (without s slots))) at ∙ absent_without t s slots h
          ]
    ]) refl none

once_after : (slots : Slots) (s : ℕ) → ((t : ℕ) → lookup_entry (nat_eq t) (without t slots) ≡ None) → (t : ℕ) → lookup_entry (nat_eq t) (without t (with_note slots s)) ≡ None
once_after slots s once t =
    (elim (nat_eq t s) as (λ b. nat_eq t s ≡ b → lookup_entry (nat_eq t) (cond b (without s slots) ((s, tt) ∷ without t (without s slots))) ≡ None) [
      | true ↦ λ at. subst (λ (n : ℕ). lookup_entry (nat_eq t) (without n slots) ≡ None) (eqb-true t s at) (once t)
      | false ↦ λ at.
          ap (λ b. cond b (Some (s, tt)) (lookup_entry (nat_eq t) (without t (without s slots)))) at
          ∙ ap (lookup_entry (nat_eq t)) (without_both t s slots) ∙ absent_without t s (without t slots) (once t)
    ]) refl

found_one : (P : ℕ × Unit {0} → Type 0) (s : ℕ) (slots : Slots) (e : ℕ × Unit {0}) → All P slots → lookup_entry (nat_eq s) slots ≡ Some e → P e
found_one P s [] e all h = none_some e h
found_one P s (d ∷ slots) e all h =
    (elim (nat_eq s d.0) as (λ b. cond b (Some d) (lookup_entry (nat_eq s) slots) ≡ Some e → P e) [
      | true ↦ λ is. subst P (same_Some d e is) (All-head P d slots all)
      | false ↦ λ is. found_one P s slots e (All-tail P d slots all) is
    ]) h

as_many : (s : ℕ) (slots : Slots) (e : ℕ × Unit {0}) → lookup_entry (nat_eq s) slots ≡ Some e → length (with_note slots s) ≡ length slots
as_many s [] e h = none_some e h
as_many s (d ∷ slots) e h =
    (elim (nat_eq s d.0) as (λ b. cond b (Some d) (lookup_entry (nat_eq s) slots) ≡ Some e → length ((s, tt) ∷ cond b slots (d ∷ without s slots)) ≡ length (d ∷ slots)) [
      | true ↦ λ is. refl
      | false ↦ λ is. omega (arith, as_many s slots e is)
    ]) h

-- ---- what holds of the cells goes on to hold
pub more_room : (slots : Slots) (cells : List SignalCell) (m k n cap : ℕ) → m ≤ k → AreRecent slots cells m n cap → AreRecent slots cells k n cap
more_room slots cells m k n cap more recent = record {
  many = recent.many;
  within = recent.within;
  celled = recent.celled;
  room = All-weaker (λ (e : ℕ × Unit {0}). e.0 < m) (λ (e : ℕ × Unit {0}). e.0 < k) (λ e low. omega (arith, low, more)) slots recent.room;
  once = recent.once;
}

module _ (slots : Slots) (cells : List SignalCell) (m n cap s : ℕ) (recent : AreRecent slots cells m n cap) where
  -- a slot with a cell
  pub has_room : IsSome (lookup_entry (nat_eq s) (with_cells cells slots)) → s < m
  has_room held = found_one (λ (e : ℕ × Unit {0}). e.0 < m) s slots (s, tt) recent.room (held_slot cells s slots held)

  -- it is used
  pub recent_used : IsSome (lookup_entry (nat_eq s) (with_cells cells slots)) → AreRecent (with_note slots s) cells m n cap
  recent_used held =
      let at : lookup_entry (nat_eq s) slots ≡ Some (s, tt) = held_slot cells s slots held in
      let same : length (with_note slots s) ≡ length slots = as_many s slots (s, tt) at in
      record {
        many = recent.many ∙ sym same;
        within = omega (arith, same, recent.within);
        celled = All-cons (λ (e : ℕ × Unit {0}). e.0 < length cells) (s, tt) (without s slots) (found_one (λ (e : ℕ × Unit {0}). e.0 < length cells) s slots (s, tt) recent.celled at)
            (All-without (λ (e : ℕ × Unit {0}). e.0 < length cells) s slots recent.celled);
        room = All-cons (λ (e : ℕ × Unit {0}). e.0 < m) (s, tt) (without s slots) (has_room held) (All-without (λ (e : ℕ × Unit {0}). e.0 < m) s slots recent.room);
        once = once_after slots s recent.once;
      }

  -- a cell is put into a slot
  module _ (others : List SignalCell) (k : ℕ) (x : SignalCell) (longer : length cells ≤ length others) (more : m ≤ k) (low : s < length others) (here : s < k) where
    celled_after : All (λ (e : ℕ × Unit {0}). e.0 < length others) (with_note slots s)
    celled_after =
        All-cons (λ (e : ℕ × Unit {0}). e.0 < length others) (s, tt) (without s slots) low
        (All-without (λ (e : ℕ × Unit {0}). e.0 < length others) s slots
        (All-weaker (λ (e : ℕ × Unit {0}). e.0 < length cells) (λ (e : ℕ × Unit {0}). e.0 < length others) (λ e l. omega (arith, l, longer)) slots recent.celled))

    room_after : All (λ (e : ℕ × Unit {0}). e.0 < k) (with_note slots s)
    room_after =
        All-cons (λ (e : ℕ × Unit {0}). e.0 < k) (s, tt) (without s slots) here
        (All-without (λ (e : ℕ × Unit {0}). e.0 < k) s slots (All-weaker (λ (e : ℕ × Unit {0}). e.0 < m) (λ (e : ℕ × Unit {0}). e.0 < k) (λ e l. omega (arith, l, more)) slots recent.room))

    -- that was empty, where there is room
    pub recent_come : lookup_entry (nat_eq s) (with_cells cells slots) ≡ None → n < cap → AreRecent (with_note slots s) others k (n + 1) cap
    recent_come empty free =
        let same : length (without s slots) ≡ length slots = ap (λ (l : Slots). length l) (absent_stays s slots (empty_slot cells s slots empty)) in
        record {
          many = omega (arith, same, recent.many);
          within = omega (arith, same, recent.many, free);
          celled = celled_after;
          room = room_after;
          once = once_after slots s recent.once;
        }

    -- that had a cell
    pub recent_replaced : IsSome (lookup_entry (nat_eq s) (with_cells cells slots)) → AreRecent (with_note slots s) others k n cap
    recent_replaced held =
        let same : length (with_note slots s) ≡ length slots = as_many s slots (s, tt) (held_slot cells s slots held) in
        record {
          many = recent.many ∙ sym same;
          within = omega (arith, same, recent.within);
          celled = celled_after;
          room = room_after;
          once = once_after slots s recent.once;
        }

    module _ (at : cell_in others s ≡ x) (same : (t : ℕ) → t < length cells → nat_eq s t ≡ false → cell_in others t ≡ cell_in cells t) where
      rest_same : with_cells others (without s slots) ≡ with_cells cells (without s slots)
      rest_same = same_cells cells others s (without s slots) (recent.once s) (All-without (λ (e : ℕ × Unit {0}). e.0 < length cells) s slots recent.celled) same

      put_as : (o : Option CacheEntry) → lookup_entry (nat_eq s) (with_cells cells slots) ≡ o → (o ≡ None → n < cap)
          → with_cells others (with_note slots s) ≡ put_entries nat_eq (lru_cache (with_cells cells slots) cap) s x
      put_as None is free =
          let none : lookup_entry (nat_eq s) slots ≡ None = empty_slot cells s slots is in
          let few : length (with_cells cells slots) ≤ cap - 1 = omega (arith, free refl, recent.many, length-map slots (entry_of cells)) in
          ap (λ (y : SignalCell). (s, y) ∷ with_cells others (without s slots)) at
          ∙ ap (λ (l : List CacheEntry). (s, x) ∷ l) (rest_same ∙ ap (with_cells cells) (absent_stays s slots none) ∙ sym (take_all (cap - 1) (with_cells cells slots) few))
          ∙ sym (ap (λ (o : Option CacheEntry). option_map_or (λ (e : CacheEntry). (e.0, x) ∷ remove_entry (nat_eq s) (with_cells cells slots)) o ((s, x) ∷ take (cap - 1) (with_cells cells slots))) is)
      put_as (Some e) is free =
          ap (λ (y : SignalCell). (s, y) ∷ with_cells others (without s slots)) at
          ∙ ap (λ (l : List CacheEntry). (s, x) ∷ l) (rest_same ∙ sym (without-with_cells cells s slots))
          ∙ ap (λ (t : ℕ). (t, x) ∷ remove_entry (nat_eq s) (with_cells cells slots)) (sym (slot_of s (with_cells cells slots) e is))
          ∙ sym (ap (λ (o : Option CacheEntry). option_map_or (λ (e : CacheEntry). (e.0, x) ∷ remove_entry (nat_eq s) (with_cells cells slots)) o ((s, x) ∷ take (cap - 1) (with_cells cells slots))) is)

      -- the cells are those of a cache into which it was put
      pub pushed_as : (n < cap → lookup_entry (nat_eq s) (with_cells cells slots) ≡ None) → (cap ≤ n → IsSome (lookup_entry (nat_eq s) (with_cells cells slots)))
          → with_cells others (with_note slots s) ≡ put_entries nat_eq (lru_cache (with_cells cells slots) cap) s x
      pushed_as empty held = put_as (lookup_entry (nat_eq s) (with_cells cells slots)) refl (λ none. below_cap none)
        where
          below_cap : lookup_entry (nat_eq s) (with_cells cells slots) ≡ None → n < cap
          below_cap none =
              (elim (nat_lt n cap) as (λ b. nat_lt n cap ≡ b → n < cap) [
                | true ↦ λ t. ltb-true n cap t
                | false ↦ λ t. held-none (subst IsSome none (held (ltb-false n cap t)))
              ]) refl

-- ---- as a caller sees the cells
module _ (cells : List SignalCell) (slots : Slots) (cap : ℕ) (now : LruCache ℕ SignalCell) (view : lru_cache (with_cells cells slots) cap ≡ now) (s : ℕ) where
  pub held_inside : IsSome (lookup_entry (nat_eq s) now.entries) → IsSome (lookup_entry (nat_eq s) (with_cells cells slots))
  held_inside held = subst (λ (l : LruCache ℕ SignalCell). IsSome (lookup_entry (nat_eq s) l.entries)) (sym view) held

  module _ (m n : ℕ) (recent : AreRecent slots cells m n cap) where
    many_inside : n ≡ length (with_cells cells slots)
    many_inside = recent.many ∙ sym (length-map slots (entry_of cells))

    -- the slot for a new cell is empty where there is room, and else it has a cell
    pub empty_inside : (length now.entries < now.cap → lookup_entry (nat_eq s) now.entries ≡ None) → n < cap → lookup_entry (nat_eq s) (with_cells cells slots) ≡ None
    empty_inside empty room = subst (λ (l : LruCache ℕ SignalCell). length l.entries < l.cap → lookup_entry (nat_eq s) l.entries ≡ None) (sym view) empty (omega (arith, many_inside, room))

    pub full_inside : (now.cap ≤ length now.entries → IsSome (lookup_entry (nat_eq s) now.entries)) → cap ≤ n → IsSome (lookup_entry (nat_eq s) (with_cells cells slots))
    full_inside held full = subst (λ (l : LruCache ℕ SignalCell). l.cap ≤ length l.entries → IsSome (lookup_entry (nat_eq s) l.entries)) (sym view) held (omega (arith, many_inside, full))

    -- a cell was put into it, and these are the slots now
    pub shows_pushed : (others : List SignalCell) (k : ℕ) (x : SignalCell) (next : Slots) → (longer : length cells ≤ length others) → (more : m ≤ k) → (low : s < length others) → (here : s < k) → cell_in others s ≡ x
        → ((t : ℕ) → t < length cells → nat_eq s t ≡ false → cell_in others t ≡ cell_in cells t)
        → (length now.entries < now.cap → lookup_entry (nat_eq s) now.entries ≡ None) → (now.cap ≤ length now.entries → IsSome (lookup_entry (nat_eq s) now.entries))
        → next ≡ with_note slots s → lru_cache (with_cells others next) cap ≡ lru_cache (put_entries nat_eq now s x) now.cap
    shows_pushed others k x next longer more low here at same empty held is =
        ap (λ (l : Slots). lru_cache (with_cells others l) cap) is
        ∙ ap (λ (l : List CacheEntry). lru_cache l cap) (pushed_as slots cells m n cap s recent others k x longer more low here at same (empty_inside empty) (full_inside held))
        ∙ ap (λ (l : LruCache ℕ SignalCell). lru_cache (put_entries nat_eq l s x) l.cap) view

pub length-with_cells : (cells : List SignalCell) (slots : Slots) → length (with_cells cells slots) ≡ length slots
length-with_cells cells slots = length-map slots (entry_of cells)

-- ---- the uses that were noted are made
pub same_recent : (a b : Slots) (cells : List SignalCell) (m k n cap lim : ℕ) → b ≡ a → k ≡ m → lim ≡ cap → AreRecent a cells m n cap → AreRecent b cells k n lim
same_recent a b cells m k n cap lim slots room most recent =
    subst (λ (l : Slots). AreRecent l cells k n lim) (sym slots) (subst (λ (j : ℕ). AreRecent a cells j n lim) (sym room) (subst (λ (j : ℕ). AreRecent a cells m n j) (sym most) recent))

pub all_made : (slots before : Slots) (noted : List ℕ) → noted ≡ [] → after_notes slots noted ≡ before → slots ≡ before
all_made slots before noted none same = sym (ap (after_notes slots) none) ∙ same

pub counted : (slots : Slots) (cells : List SignalCell) (m n cap : ℕ) → AreRecent slots cells m n cap → AreRecent slots cells m (length slots) cap
counted slots cells m n cap recent = subst (λ (k : ℕ). AreRecent slots cells m k cap) recent.many recent

-- ---- the last slot is taken out
absent_take : (t k : ℕ) (slots : Slots) → lookup_entry (nat_eq t) slots ≡ None → lookup_entry (nat_eq t) (take k slots) ≡ None
absent_take t zero slots none = refl
absent_take t (suc k) [] none = refl
absent_take t (suc k) (e ∷ slots) none =
    (elim (nat_eq t e.0) as (λ b. cond b (Some e) (lookup_entry (nat_eq t) slots) ≡ None → cond b (Some e) (lookup_entry (nat_eq t) (take k slots)) ≡ None) [
      | true ↦ λ h. h
      | false ↦ λ h. absent_take t k slots h
    ]) none

once_take : (t k : ℕ) (slots : Slots) → lookup_entry (nat_eq t) (without t slots) ≡ None → lookup_entry (nat_eq t) (without t (take k slots)) ≡ None
once_take t zero slots once = refl
once_take t (suc k) [] once = refl
once_take t (suc k) (e ∷ slots) once =
    (elim (nat_eq t e.0) as (λ b. nat_eq t e.0 ≡ b → lookup_entry (nat_eq t) (cond b slots (e ∷ without t slots)) ≡ None → lookup_entry (nat_eq t) (cond b (take k slots) (e ∷ without t (take k slots))) ≡ None) [
      | true ↦ λ at h. absent_take t k slots h
      | false ↦ λ at h.
          ap (λ b. cond b (Some e) (lookup_entry (nat_eq t) (without t (take k slots)))) at
          ∙ once_take t k slots (sym (ap (λ b. cond b (Some e) (lookup_entry (nat_eq t) (without t slots))) at) ∙ h)
    ]) refl once

pub recent_cut : (slots next : Slots) (cells : List SignalCell) (m n cap lim k : ℕ) → AreRecent slots cells m n cap → next ≡ take k slots → lim ≡ cap → AreRecent next cells m (length next) lim
recent_cut slots next cells m n cap lim k recent is most =
    let few : length (take k slots) ≤ cap = omega (arith, length-take k slots, recent.within) in
    let cut : AreRecent (take k slots) cells m (length (take k slots)) cap = record {
      many = refl;
      within = few;
      celled = All-take (λ (e : ℕ × Unit {0}). e.0 < length cells) k slots recent.celled;
      room = All-take (λ (e : ℕ × Unit {0}). e.0 < m) k slots recent.room;
      once = λ t. once_take t k slots (recent.once t);
    } in
    subst (λ (j : ℕ). AreRecent next cells m (length next) j) (sym most) (subst (λ (l : Slots). AreRecent l cells m (length l) cap) (sym is) cut)

pub last_cell : (slots : Slots) (cells : List SignalCell) (m n cap s : ℕ) (x : SignalCell) → AreRecent slots cells m n cap → Some (s, tt) ≡ last_entry slots → x ≡ get_or cells s x → Some (s, x) ≡ last_entry (with_cells cells slots)
last_cell slots cells m n cap s x recent at is =
    let within : length slots - 1 < length slots = slice_get_within slots (length slots - 1) (s, tt) (sym at) in
    let low : s < length cells = subst (λ (e : ℕ × Unit {0}). e.0 < length cells) (get_or_from_slice_get slots (length slots - 1) (s, tt) (s, tt) (sym at)) (All-get_or (λ (e : ℕ × Unit {0}). e.0 < length cells) slots (length slots - 1) (s, tt) within recent.celled) in
    let here : x ≡ cell_in cells s = get_or_read cells s x low is (cell_in [] 0) in
    ap (λ (y : SignalCell). Some (s, y)) here ∙ ap (option_map (entry_of cells)) at ∙ sym (slice_get-map (entry_of cells) slots (length slots - 1))
    ∙ ap (λ (k : ℕ). slice_get (with_cells cells slots) (k - 1)) (sym (length-map slots (entry_of cells)))

pub cut_cells : (slots next : Slots) (cells : List SignalCell) (cap lim : ℕ) → next ≡ take (length slots - 1) slots → lim ≡ cap
    → lru_cache (with_cells cells next) lim ≡ lru_cache (take (length (with_cells cells slots) - 1) (with_cells cells slots)) cap
cut_cells slots next cells cap lim is most =
    ap (λ (l : Slots). lru_cache (with_cells cells l) lim) is ∙ ap (lru_cache (with_cells cells (take (length slots - 1) slots))) most
    ∙ ap (λ (l : List CacheEntry). lru_cache l cap) (sym (take-map (entry_of cells) (length slots - 1) slots))
    ∙ ap (λ (k : ℕ). lru_cache (take (k - 1) (with_cells cells slots)) cap) (sym (length-map slots (entry_of cells)))
