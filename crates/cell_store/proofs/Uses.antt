-- Uses of slots that are noted: of several notes of a slot only the last counts.
use Rattle.std.proofs.Common.{◌≡◌, ℕ, zero, suc, ◌+◌, ◌-◌, ◌<◌, ◌≤◌, Bool, true, false, cond, ◌||◌, nat_eq, List, [], ◌∷◌, ◌++◌, length, take, drop, get_or, set, All, Some, None, is_ok, Result, Ok, Err, OnOk, refl, sym, ap, subst, ◌∙◌, eq-eqb, eqb-true, true≢false, arith}
use Rattle.std.proofs.lemmas.List.{take_all, append_assoc, length-set, take-append-drop, take_more, take-set-le, drop-set, drop_all, drop_more, get_or-set_other, get_or_default, take_rest, length-drop}
use Rattle.std.proofs.lemmas.List.Edits.{take-paste}
use Rattle.std.proofs.lemmas.List.Elements.{All-head, All-tail, All-set, All-get_or, All-from_get_or}
use Rattle.std.specs.List.{list_any, copy_within}
use Rattle.std.specs.Map.{lookup_entry, remove_entry}
use Rattle.std.specs.Option.{option_map_or}
use Rattle.std.proofs.lemmas.Option.{same_Some}
use Rattle.lru.specs.LruCache.{LruCache, lru_cache, put_entries}
use Rattle.cell_store.specs.inner.Notes.{Slots, with_note, after_notes}
use Rattle.cell_store.proofs.Found.{none_some}

-- ---- a slot is taken out of the order
abbrev pub without : ℕ → Slots → Slots
without slot slots = remove_entry (nat_eq slot) slots

pub without_first : (s : ℕ) (slots : Slots) → without s ((s, tt) ∷ slots) ≡ slots
without_first s slots = ap (λ b. cond b slots ((s, tt) ∷ without s slots)) (eq-eqb s s refl)

pub without_other : (s t : ℕ) (slots : Slots) → nat_eq s t ≡ false → without s ((t, tt) ∷ slots) ≡ (t, tt) ∷ without s slots
without_other s t slots other = ap (λ b. cond b slots ((t, tt) ∷ without s slots)) other

-- two are taken out in either order
pub without_both : (s t : ℕ) (slots : Slots) → without s (without t slots) ≡ without t (without s slots)
without_both s t [] = refl
without_both s t (e ∷ slots) =
    (elim (nat_eq s e.0) as (λ b. nat_eq s e.0 ≡ b → without s (cond (nat_eq t e.0) slots (e ∷ without t slots)) ≡ without t (cond b slots (e ∷ without s slots))) [
      | true ↦ λ at.
          (elim (nat_eq t e.0) as (λ c. nat_eq t e.0 ≡ c → without s (cond c slots (e ∷ without t slots)) ≡ without t slots) [
            | true ↦ λ too. ap (λ (n : ℕ). without n slots) (eqb-true s e.0 at ∙ sym (eqb-true t e.0 too))
            | false ↦ λ too. ap (λ b. cond b (without t slots) (e ∷ without s (without t slots))) at
          ]) refl
      | false ↦ λ at.
          (elim (nat_eq t e.0) as (λ c. nat_eq t e.0 ≡ c → without s (cond c slots (e ∷ without t slots)) ≡ cond c (without s slots) (e ∷ without t (without s slots))) [
            | true ↦ λ too. refl
            | false ↦ λ too. ap (λ b. cond b (without t slots) (e ∷ without s (without t slots))) at ∙ ap (λ (l : Slots). e ∷ l) (without_both s t slots)
          ]) refl
    ]) refl

-- ---- of several notes only the last counts
-- orders that differ in the place of a slot alone come to the same, once the slot is used
same_after : (s : ℕ) (noted : List ℕ) (a b : Slots) → without s a ≡ without s b → list_any (nat_eq s) noted ≡ true → after_notes a noted ≡ after_notes b noted
same_after s [] a b same there = absurd (true≢false (sym there))
same_after s (n ∷ noted) a b same there =
    (elim (nat_eq s n) as (λ c. nat_eq s n ≡ c → (c || list_any (nat_eq s) noted) ≡ true → after_notes (with_note a n) noted ≡ after_notes (with_note b n) noted) [
      | true ↦ λ at h.
          let is : with_note a n ≡ with_note b n = ap (λ (l : Slots). (n, tt) ∷ l) (subst (λ (m : ℕ). without m a ≡ without m b) (eqb-true s n at) same) in
          ap (λ (l : Slots). after_notes l noted) is
      | false ↦ λ at h.
          same_after s noted (with_note a n) (with_note b n)
          (without_other s n (without n a) at ∙ ap (λ (l : Slots). (n, tt) ∷ l) (without_both s n a ∙ ap (without n) same ∙ sym (without_both s n b)) ∙ sym (without_other s n (without n b) at))
          h
    ]) refl there

-- a use that is noted again later
pub used_again : (slots : Slots) (s : ℕ) (noted : List ℕ) → list_any (nat_eq s) noted ≡ true → after_notes (with_note slots s) noted ≡ after_notes slots noted
used_again slots s noted there = same_after s noted (with_note slots s) slots (without_first s (without s slots)) there

pub after-append : (slots : Slots) (xs ys : List ℕ) → after_notes slots (xs ++ ys) ≡ after_notes (after_notes slots xs) ys
after-append slots [] ys = refl
after-append slots (x ∷ xs) ys = after-append (with_note slots x) xs ys

-- a note is left out where a later one is of its slot
pub left_out : (slots : Slots) (xs : List ℕ) (s : ℕ) (ys : List ℕ) → list_any (nat_eq s) ys ≡ true → after_notes slots (xs ++ s ∷ ys) ≡ after_notes slots (xs ++ ys)
left_out slots xs s ys there = after-append slots xs (s ∷ ys) ∙ used_again (after_notes slots xs) s ys there ∙ sym (after-append slots xs ys)

-- ---- how many slots there are
no_fewer : (s : ℕ) (slots : Slots) → length slots ≤ length (with_note slots s)
no_fewer s [] = omega arith
no_fewer s (e ∷ slots) =
    elim (nat_eq s e.0) as (λ b. length (e ∷ slots) ≤ length ((s, tt) ∷ cond b slots (e ∷ without s slots))) [
      | true ↦ omega arith
      | false ↦ omega (arith, no_fewer s slots)
    ]

pub no_fewer_after : (slots : Slots) (noted : List ℕ) → length slots ≤ length (after_notes slots noted)
no_fewer_after slots [] = omega arith
no_fewer_after slots (n ∷ noted) = omega (arith, no_fewer n slots, no_fewer_after (with_note slots n) noted)

-- ---- the cache makes a use
pub absent_stays : {V : Type 0} (s : ℕ) (es : List (ℕ × V)) → lookup_entry (nat_eq s) es ≡ None → remove_entry (nat_eq s) es ≡ es
absent_stays s [] none = refl
absent_stays {V = V} s (e ∷ es) none =
    (elim (nat_eq s e.0) as (λ b. cond b (Some e) (lookup_entry (nat_eq s) es) ≡ None → cond b es (e ∷ remove_entry (nat_eq s) es) ≡ e ∷ es) [
      | true ↦ λ h. none_some e (sym h)
      | false ↦ λ h. ap (λ (l : List (ℕ × V)). e ∷ l) (absent_stays s es h)
    ]) none

pub slot_of : {V : Type 0} (s : ℕ) (es : List (ℕ × V)) (e : ℕ × V) → lookup_entry (nat_eq s) es ≡ Some e → e.0 ≡ s
slot_of s [] e h = none_some e h
slot_of {V = V} s (d ∷ es) e h =
    (elim (nat_eq s d.0) as (λ b. nat_eq s d.0 ≡ b → cond b (Some d) (lookup_entry (nat_eq s) es) ≡ Some e → e.0 ≡ s) [
      | true ↦ λ at is. ap (λ (x : ℕ × V). x.0) (sym (same_Some d e is)) ∙ sym (eqb-true s d.0 at)
      | false ↦ λ at is. slot_of s es e is
    ]) refl h

put_is : (slots : Slots) (cap s : ℕ) → length (with_note slots s) ≤ cap → put_entries nat_eq (lru_cache slots cap) s tt ≡ with_note slots s
put_is slots cap s within =
    (elim (lookup_entry (nat_eq s) slots) as (λ o. lookup_entry (nat_eq s) slots ≡ o → option_map_or (λ (e : ℕ × Unit {0}). (e.0, tt) ∷ without s slots) o ((s, tt) ∷ take (cap - 1) slots) ≡ with_note slots s) [
      | None ↦ λ at.
          let same : without s slots ≡ slots = absent_stays s slots at in
          ap (λ (l : Slots). (s, tt) ∷ l) (take_all (cap - 1) slots (omega (arith, within, ap (λ (l : Slots). length l) same)) ∙ sym same)
      | Some e ↦ λ at. ap (λ (n : ℕ). (n, tt) ∷ without s slots) (slot_of s slots e at)
    ]) refl

-- one of the uses is made in the cache, and all are noted still
pub record HasMade (made next : Slots) (noted : List ℕ) (s : ℕ) : Type 0 where
  pub is : next ≡ with_note made s
  pub after : after_notes next noted ≡ after_notes made noted

pub has_made : (made : Slots) (cap s : ℕ) (noted : List ℕ) (next : LruCache ℕ (Unit {0})) → list_any (nat_eq s) noted ≡ true → length (after_notes made noted) ≤ cap
    → next ≡ lru_cache (put_entries nat_eq (lru_cache made cap) s tt) cap → HasMade made next.entries noted s
has_made made cap s noted next there within is =
    let again : after_notes (with_note made s) noted ≡ after_notes made noted = used_again made s noted there in
    let few : length (with_note made s) ≤ cap = omega (arith, within, no_fewer_after (with_note made s) noted, ap (λ (l : Slots). length l) again) in
    let made_so : next.entries ≡ with_note made s = ap (λ (l : LruCache ℕ (Unit {0})). l.entries) is ∙ put_is made cap s few in
    record {
      is = made_so;
      after = ap (λ (l : Slots). after_notes l noted) made_so ∙ again;
    }

-- ---- notes are thinned, from the last to the first
-- how many are marked
abbrev pub marks : List Bool → ℕ
marks [] = 0
marks (m ∷ met) = cond m 1 0 + marks met

few_marks : (met : List Bool) → marks met ≤ length met
few_marks [] = omega arith
few_marks (m ∷ met) = elim m as (λ b. cond b 1 0 + marks met ≤ length (m ∷ met)) [ true ↦ omega (arith, few_marks met) | false ↦ omega (arith, few_marks met) ]

-- those from kept on are met, and they and those before left come to the same as all
pub record IsThinning (was noted : List ℕ) (met : List Bool) (left kept : ℕ) : Type 0 where
  pub long : length noted ≡ length was
  pub order : left ≤ kept
  pub within : kept ≤ length noted
  pub same : (slots : Slots) → after_notes slots (take left noted ++ drop kept noted) ≡ after_notes slots was
  pub told : (slot : ℕ) → get_or met slot false ≡ true → list_any (nat_eq slot) (drop kept noted) ≡ true
  pub below : All (λ slot. slot < length met) noted
  pub few : marks met ≡ length noted - kept

unmarked : (met : List Bool) (slot : ℕ) → All (λ m. m ≡ false) met → get_or met slot false ≡ false
unmarked [] slot clear = refl
unmarked (m ∷ met) zero clear = All-head (λ n. n ≡ false) m met clear
unmarked (m ∷ met) (suc slot) clear = unmarked met slot (All-tail (λ n. n ≡ false) m met clear)

unmarked_at : (met : List Bool) (s : ℕ) → get_or (set met s false) s false ≡ false
unmarked_at [] s = refl
unmarked_at (m ∷ met) zero = refl
unmarked_at (m ∷ met) (suc s) = unmarked_at met s

no_marks : (met : List Bool) → All (λ m. m ≡ false) met → marks met ≡ 0
no_marks [] clear = refl
no_marks (m ∷ met) clear =
    let none : cond {A = ℕ} m 1 0 ≡ 0 = ap (λ b. cond {A = ℕ} b 1 0) (All-head (λ n. n ≡ false) m met clear) in
    let others : marks met ≡ 0 = no_marks met (All-tail (λ n. n ≡ false) m met clear) in
    omega arith

one_mark : (met : List Bool) (s : ℕ) → s < length met → get_or met s false ≡ false → marks (set met s true) ≡ marks met + 1
one_mark [] s low clear = absurd (omega arith)
one_mark (m ∷ met) zero low clear = let none : cond {A = ℕ} m 1 0 ≡ 0 = ap (λ b. cond {A = ℕ} b 1 0) clear in omega arith
one_mark (m ∷ met) (suc s) low clear = let on : marks (set met s true) ≡ marks met + 1 = one_mark met s (omega arith) clear in omega (arith, on)

pub thinning_begins : (was : List ℕ) (met : List Bool) (n : ℕ) → n ≡ length was → All (λ slot. slot < length met) was → All (λ m. m ≡ false) met → IsThinning was was met n n
thinning_begins was met n many below clear = record {
  long = refl;
  order = omega arith;
  within = omega arith;
  same = λ slots. ap (after_notes slots) (take-append-drop n was);
  told = λ slot marked. absurd (true≢false (sym marked ∙ unmarked met slot clear));
  below = below;
  few = omega (arith, no_marks met clear, many);
}

-- the note before left is looked at
module _ (was noted : List ℕ) (met : List Bool) (left kept s : ℕ) (so_far : IsThinning was noted met left kept) (some : 0 < left) (at : s ≡ get_or noted (left - 1) s) where
  -- it is the last of those before left
  before : take left noted ≡ take (left - 1) noted ++ s ∷ []
  before =
      let next : left - 1 + 1 ≡ left = omega arith in
      let low : left - 1 < length noted = omega (arith, so_far.order, so_far.within) in
      ap (λ (m : ℕ). take m noted) (sym next) ∙ take_more noted (left - 1) s low ∙ ap (λ (m : ℕ). take (left - 1) noted ++ m ∷ []) (sym at)

  split : take left noted ++ drop kept noted ≡ take (left - 1) noted ++ s ∷ drop kept noted
  split = ap (λ (l : List ℕ). l ++ drop kept noted) before ∙ append_assoc (take (left - 1) noted) (s ∷ []) (drop kept noted)

  here : s < length met
  here = subst (λ (m : ℕ). m < length met) (sym at) (All-get_or (λ slot. slot < length met) noted (left - 1) s (omega (arith, so_far.order, so_far.within)) so_far.below)

  -- whether a later note of its slot was met
  pub read : (mark b : Bool) → mark ≡ get_or met s mark → mark ≡ b → get_or met s false ≡ b
  read mark b is known = get_or_default met s false mark here ∙ sym is ∙ known

  -- a later note of its slot was met
  pub thinning_leaves_out : get_or met s false ≡ true → IsThinning was noted met (left - 1) kept
  thinning_leaves_out marked = record {
    long = so_far.long;
    order = omega (arith, so_far.order);
    within = so_far.within;
    same = λ slots. sym (left_out slots (take (left - 1) noted) s (drop kept noted) (so_far.told s marked)) ∙ ap (after_notes slots) (sym split) ∙ so_far.same slots;
    told = so_far.told;
    below = so_far.below;
    few = so_far.few;
  }

  -- it is the last note of its slot
  pub thinning_keeps : get_or met s false ≡ false → IsThinning was (set noted (kept - 1) s) (set met s true) (left - 1) (kept - 1)
  thinning_keeps unmet =
      let low : kept - 1 < length noted = omega (arith, so_far.order, so_far.within) in
      let next : kept - 1 + 1 ≡ kept = omega (arith, so_far.order) in
      let rest : drop (kept - 1) (set noted (kept - 1) s) ≡ s ∷ drop kept noted = drop-set noted (kept - 1) s low ∙ ap (λ (m : ℕ). s ∷ drop m noted) next in
      let first : take (left - 1) (set noted (kept - 1) s) ≡ take (left - 1) noted = take-set-le (left - 1) noted (kept - 1) s (omega (arith, so_far.order)) in
      record {
        long = length-set noted (kept - 1) s ∙ so_far.long;
        order = omega (arith, so_far.order);
        within = omega (arith, so_far.within, length-set noted (kept - 1) s);
        same = λ slots. ap (after_notes slots) (ap (λ (l : List ℕ). l ++ drop (kept - 1) (set noted (kept - 1) s)) first ∙ ap (λ (l : List ℕ). take (left - 1) noted ++ l) rest ∙ sym split) ∙ so_far.same slots;
        told = λ slot marked. ap (list_any (nat_eq slot)) rest ∙
            (elim (nat_eq slot s) as (λ b. nat_eq slot s ≡ b → (b || list_any (nat_eq slot) (drop kept noted)) ≡ true) [
              | true ↦ λ t. refl
              | false ↦ λ t. so_far.told slot (sym (get_or-set_other met s slot true false (λ e. true≢false (sym (eq-eqb slot s e) ∙ t))) ∙ marked)
            ]) refl;
        below = subst (λ (n : ℕ). All (λ slot. slot < n) (set noted (kept - 1) s)) (sym (length-set met s true)) (All-set (λ slot. slot < length met) noted (kept - 1) s here so_far.below);
        few = omega (arith, one_mark met s here unmet, so_far.few, so_far.order, so_far.within, length-set noted (kept - 1) s, low);
      }

-- ---- when all are looked at
-- what is kept
pub thinned : (noted moved kept_notes : List ℕ) (kept len n : ℕ) → kept ≤ length noted → len ≡ length noted → n ≡ length noted → moved ≡ copy_within noted kept n 0 → kept_notes ≡ take (len - kept) moved → kept_notes ≡ drop kept noted
thinned noted moved kept_notes kept len n within same many is left =
    let short : n - kept ≤ length (drop kept noted) = omega (arith, length-drop kept noted) in
    left ∙ ap (λ (l : List ℕ). take (len - kept) l) is
    ∙ ap (λ (m : ℕ). take (m - kept) (copy_within noted kept n 0)) (same ∙ sym many)
    ∙ ap (λ (m : ℕ). take m (copy_within noted kept n 0)) (omega arith)
    ∙ take-paste noted 0 (drop kept noted) (n - kept) (omega arith) short
    ∙ ap (λ (m : ℕ). take (m - kept) (drop kept noted)) many
    ∙ take_rest noted kept

pub not_too_many : (was noted : List ℕ) (met : List Bool) (left kept : ℕ) (kept_notes : List ℕ) → IsThinning was noted met left kept → kept_notes ≡ drop kept noted → length kept_notes ≤ length met
not_too_many was noted met left kept kept_notes thinning is = omega (arith, ap (λ (l : List ℕ). length l) is, length-drop kept noted, thinning.few, few_marks met)

pub same_at_last : (was noted : List ℕ) (met : List Bool) (left kept : ℕ) (kept_notes : List ℕ) → IsThinning was noted met left kept → left ≤ 0 → kept_notes ≡ drop kept noted → (slots : Slots) → after_notes slots kept_notes ≡ after_notes slots was
same_at_last was noted met left kept kept_notes thinning last is slots =
    let none : left ≡ 0 = omega arith in
    ap (after_notes slots) (is ∙ ap (λ (m : ℕ). take m noted ++ drop kept noted) (sym none)) ∙ thinning.same slots

-- the marks are taken away again
pub mark_goes : (noted : List ℕ) (met : List Bool) (i s : ℕ) → i < length noted → s ≡ get_or noted i s → ((slot : ℕ) → get_or met slot false ≡ true → list_any (nat_eq slot) (drop i noted) ≡ true)
    → (slot : ℕ) → get_or (set met s false) slot false ≡ true → list_any (nat_eq slot) (drop (i + 1) noted) ≡ true
mark_goes noted met i s low at told slot marked =
    (elim (nat_eq slot s) as (λ b. nat_eq slot s ≡ b → list_any (nat_eq slot) (drop (i + 1) noted) ≡ true) [
      | true ↦ λ t. absurd (true≢false (sym marked ∙ ap (λ (n : ℕ). get_or (set met s false) n false) (eqb-true slot s t) ∙ unmarked_at met s))
      | false ↦ λ t.
          let was : get_or met slot false ≡ true = sym (get_or-set_other met s slot false false (λ e. true≢false (sym (eq-eqb slot s e) ∙ t))) ∙ marked in
          let rest : drop i noted ≡ s ∷ drop (i + 1) noted = drop_more noted i s low ∙ ap (λ (n : ℕ). n ∷ drop (i + 1) noted) (sym at) in
          ap (λ b. b || list_any (nat_eq slot) (drop (i + 1) noted)) (sym t) ∙ ap (list_any (nat_eq slot)) (sym rest) ∙ told slot was
    ]) refl

pub no_mark_left : (noted : List ℕ) (met : List Bool) (i : ℕ) → length noted ≤ i → ((slot : ℕ) → get_or met slot false ≡ true → list_any (nat_eq slot) (drop i noted) ≡ true) → All (λ m. m ≡ false) met
no_mark_left noted met i past told = All-from_get_or (λ m. m ≡ false) met false (λ slot low.
    (elim (get_or met slot false) as (λ b. get_or met slot false ≡ b → b ≡ false) [
      | true ↦ λ t. absurd (true≢false (sym (told slot t) ∙ ap (list_any (nat_eq slot)) (drop_all i noted past)))
      | false ↦ λ t. refl
    ]) refl)

-- ---- the uses that are noted are made
pub is_noted : (noted : List ℕ) (i s : ℕ) → i < length noted → s ≡ get_or noted i s → list_any (nat_eq s) noted ≡ true
is_noted [] i s low at = absurd (omega arith)
is_noted (n ∷ noted) zero s low at = ap (λ b. b || list_any (nat_eq s) noted) (eq-eqb s n at)
is_noted (n ∷ noted) (suc i) s low at =
    (elim (nat_eq s n) as (λ b. (b || list_any (nat_eq s) noted) ≡ true) [ true ↦ refl | false ↦ is_noted noted i s (omega arith) at ])

pub made_more : (slots made next : Slots) (noted : List ℕ) (i s : ℕ) → i < length noted → s ≡ get_or noted i s → made ≡ after_notes slots (take i noted) → next ≡ with_note made s → next ≡ after_notes slots (take (i + 1) noted)
made_more slots made next noted i s low at is more =
    more ∙ ap (λ (l : Slots). with_note l s) is ∙ ap (λ (n : ℕ). with_note (after_notes slots (take i noted)) n) at
    ∙ sym (ap (after_notes slots) (take_more noted i s low) ∙ after-append slots (take i noted) (get_or noted i s ∷ []))

pub where_ok : {T E P : Type 0} (r : Result T E) → OnOk r P → is_ok r ≡ true → P
where_ok (Ok x) p ok = p
where_ok (Err e) p ok = absurd (true≢false (sym ok))
