-- The cells of a signal in a list in the order of time: where a search ends, and what comes and goes there.
use Rattle.std.proofs.Common.{◌≡◌, inl, inr, ℕ, zero, suc, ◌+◌, ◌<◌, ◌≤◌, Bool, true, false, cond, nat_eq, List, [], ◌∷◌, length, get_or, take, Option, Some, None, IsSome, refl, sym, ap, ap₂, subst, ◌∙◌, true≢false, is_some, arith}
use Rattle.std.specs.Prelude.{insert, remove}
use Rattle.std.specs.declared.cmp.Ordering.TheVariants.{Less}
use Rattle.std.specs.Ordering.{is_eq, is_gt, nat_cmp}
use Rattle.std.specs.BTreeMap.{is_at}
use Rattle.std.specs.List.{AllByRecursion}
use Rattle.std.specs.List.Sorted.{IsStrictlySortedBy, IsNonDecreasingBy}
use Rattle.std.specs.Map.{keys_of, remove_entry}
use Rattle.std.proofs.lemmas.Bool.{cases_lt, cases_Bool, eqb-true}
use Rattle.std.proofs.lemmas.Bool.Decides.{nat_tests}
use Rattle.std.proofs.lemmas.Cmp.{nat_cmp_total, eq_by_cmp_equiv}
use Rattle.std.proofs.lemmas.Option.{slice_get-get_or, slice_get_within, get_or_from_slice_get}
use Rattle.std.proofs.lemmas.Map.{lookup-insert, lookup-remove_entry, none_passes_from_lookup}
use Rattle.std.proofs.lemmas.Map.Entries.{place_from_lookup, lookup_from_place}
use Rattle.std.proofs.lemmas.Map.Keys.{IsDistinct-from_sorted, sorted_head, sorted_tail}
use Rattle.gate_values.specs.declared.Value.TheVariants.{Zero}
use Rattle.valid_intervals.specs.declared.Point.{Point}
use Rattle.cell_store.specs.declared.index.Place.{Place}
use Rattle.cell_store.specs.inner.Lists.{IsLastAt}
use Rattle.cell_store.specs.inner.SignalCells.{kept_at, AreInOrder, HaveBegun, IsLastBegun, NoneHasBegun}

abbrev Cells : Type 0
Cells = List (ℕ × Place)

abbrev no_cell : ℕ × Place
no_cell = (0, record { end = 0; slot = 0; value = Zero })

pub same_start : (a b : ℕ) → is_eq (nat_cmp a b) ≡ nat_eq a b
same_start a b = grind (arith, nat_tests)

pub to_le : (a b : ℕ) → a ≤ b → is_gt (nat_cmp a b) ≡ false
to_le a b h = grind (arith, nat_tests)

is_less : (a b : ℕ) → nat_cmp a b ≡ Less → a < b
is_less a b h = grind (arith, nat_tests)

to_less : (a b : ℕ) → a < b → nat_cmp a b ≡ Less
to_less a b h = grind (arith, nat_tests)

-- ---- the order by places
all_at : (P : ℕ → Type 0) (cells : Cells) (i : ℕ) (d : ℕ × Place) → AllByRecursion P (keys_of cells) → i < length cells → P (get_or cells i d).0
all_at P [] i d all h = absurd (omega (arith, h))
all_at P (e ∷ cells) zero d all h = all.0
all_at P (e ∷ cells) (suc i) d all h = all_at P cells i d all.1 (omega (arith, h))

rising : (cells : Cells) → AreInOrder cells → (i j : ℕ) (d : ℕ × Place) → i < j → j < length cells → (get_or cells i d).0 < (get_or cells j d).0
rising [] order i j d l h = absurd (omega (arith, h))
rising (e ∷ cells) order i zero d l h = absurd (omega (arith, l))
rising (e ∷ cells) order zero (suc j) d l h = is_less e.0 (get_or cells j d).0 (all_at (λ y. nat_cmp e.0 y ≡ Less) cells j d (sorted_head nat_cmp e.0 (keys_of cells) order) (omega (arith, h)))
rising (e ∷ cells) order (suc i) (suc j) d l h = rising cells (sorted_tail nat_cmp e.0 (keys_of cells) order) i j d (omega (arith, l)) (omega (arith, h))

pub not_falling : (cells : Cells) → AreInOrder cells → IsNonDecreasingBy (λ e. e.0) cells
not_falling cells order i j d l h = elim (cases_lt i j) [
  | inl k ↦ let less = rising cells order i j d k h in omega (arith, less)
  | inr k ↦ let same : i ≡ j = omega (arith, l, k) in subst (λ n. (get_or cells n d).0 ≤ (get_or cells j d).0) (sym same) (omega arith)
]

-- where the last has begun, all have
pub all_begun : (cells : Cells) (time n : ℕ) (d : ℕ × Place) → AreInOrder cells → n < length cells → length cells ≡ suc n → (get_or cells n d).0 ≤ time → HaveBegun cells time (length cells)
all_begun cells time n d order h is early = record {
  within = omega arith;
  begun = λ k x _ l.
      let last : (get_or cells n x).0 ≤ time = subst (λ (e : ℕ × Place). e.0 ≤ time) (sym (get_or_from_slice_get cells n (get_or cells n d) x (slice_get-get_or cells n d h))) early in
      let least = not_falling cells order k n x (omega (arith, l, is)) h in
      omega (arith, last, least);
  later = λ k x a b. absurd (omega (arith, a, b));
}

-- ---- what is kept at a time, by its place
module _ (cells : Cells) (order : AreInOrder cells) where
  pub kept_there : (i : ℕ) (d : ℕ × Place) → i < length cells → kept_at cells (get_or cells i d).0 ≡ Some (get_or cells i d).1
  kept_there i d h =
      lookup_from_place (eq_by_cmp_equiv nat_cmp_total) cells i (get_or cells i d).0 (get_or cells i d).1 (IsDistinct-from_sorted nat_cmp (keys_of cells) order) (slice_get-get_or cells i d h)

  record IsPlaced (t : ℕ) : Type 0 where
    pub i : ℕ
    pub d : ℕ × Place
    pub within : i < length cells
    pub at : (get_or cells i d).0 ≡ t

  placed : (t : ℕ) → IsSome (kept_at cells t) → IsPlaced t
  placed t some =
      (elim (kept_at cells t) as (λ o. kept_at cells t ≡ o → IsSome o → IsPlaced t) [
        | None ↦ λ e s. absurd (true≢false (sym s))
        | Some v ↦ λ e s.
            let p = place_from_lookup (is_at (nat_cmp t)) cells v e in
            record {
              i = p.0;
              d = (p.1, v);
              within = slice_get_within cells p.0 (p.1, v) p.2;
              at = ap (λ (x : ℕ × Place). x.0) (get_or_from_slice_get cells p.0 (p.1, v) (p.1, v) p.2) ∙ sym (eqb-true t p.1 (sym (same_start t p.1) ∙ p.3));
            }
      ]) refl some

  pub last_begun : (time n i : ℕ) (d : ℕ × Place) → HaveBegun cells time n → n ≡ suc i → IsLastBegun cells time (get_or cells i d).0 (get_or cells i d).1
  last_begun time n i d have is = record {
    at = kept_there i d (omega (arith, have.within, is));
    early = have.begun i d (omega arith) (omega (arith, is));
    last = λ t early some.
        let p = placed t some in
        elim (cases_lt p.i n) [
          | inl l ↦
              let most = not_falling cells order p.i i d (omega (arith, l, is)) (omega (arith, have.within, is)) in
              let same : (get_or cells p.i d).0 ≡ t = ap (λ (x : ℕ × Place). x.0) (get_or_from_slice_get cells p.i (get_or cells p.i p.d) d (slice_get-get_or cells p.i p.d p.within)) ∙ p.at in
              omega (arith, most, same)
          | inr l ↦ let late = have.later p.i p.d l p.within in absurd (omega (arith, late, p.at, early))
        ];
  }

  pub none_begun : (time n : ℕ) → HaveBegun cells time n → n ≡ 0 → NoneHasBegun cells time
  none_begun time n have is t early =
      (elim (kept_at cells t) as (λ o. kept_at cells t ≡ o → o ≡ None) [
        | None ↦ λ e. refl
        | Some v ↦ λ e.
            let p = placed t (subst (λ (o : Option Place). IsSome o) (sym e) refl) in
            let late = have.later p.i p.d (omega (arith, is)) p.within in
            absurd (omega (arith, late, p.at, early))
      ]) refl

-- a start is that of the last cell that begins no later, or has no place
not_kept : (cells : Cells) (time start : ℕ) (place : Place) → IsLastBegun cells time start place → nat_eq start time ≡ false → kept_at cells time ≡ None
not_kept cells time start place last other =
    (elim (kept_at cells time) as (λ o. kept_at cells time ≡ o → o ≡ None) [
      | None ↦ λ e. refl
      | Some v ↦ λ e.
          let late = last.last time (omega arith) (subst (λ (o : Option Place). IsSome o) (sym e) refl) in
          let early = last.early in
          absurd (let same : start ≡ time = omega (arith, late, early) in grind (arith, nat_tests, same, other))
    ]) refl

pub not_there : (cells : Cells) → AreInOrder cells → (start n i : ℕ) (d : ℕ × Place) → HaveBegun cells start n → n ≡ suc i → nat_eq (get_or cells i d).0 start ≡ false → kept_at cells start ≡ None
not_there cells order start n i d have is other = not_kept cells start (get_or cells i d).0 (get_or cells i d).1 (last_begun cells order start n i d have is) other

-- where a start has a place, its cell is the last that begins no later
pub some_begun : (cells : Cells) → AreInOrder cells → (start n : ℕ) → HaveBegun cells start n → IsSome (kept_at cells start) → 0 < n
some_begun cells order start n have some = elim (cases_lt 0 n) [
  | inl l ↦ l
  | inr l ↦ absurd (true≢false (sym (subst (λ (o : Option Place). IsSome o) (none_begun cells order start n have (omega (arith, l)) start (omega arith)) some)))
]

last_starts : (cells : Cells) → AreInOrder cells → (start n i : ℕ) (d : ℕ × Place) → HaveBegun cells start n → n ≡ suc i → IsSome (kept_at cells start) → (get_or cells i d).0 ≡ start
last_starts cells order start n i d have is some = elim (cases_Bool (nat_eq (get_or cells i d).0 start)) [
  | inl same ↦ eqb-true (get_or cells i d).0 start same
  | inr other ↦ absurd (true≢false (sym (subst (λ (o : Option Place). IsSome o) (not_there cells order start n i d have is other) some)))
]

pub still_none : (f : ℕ → Option Place) (start : ℕ) → f start ≡ None → (t : ℕ) → f t ≡ cond (nat_eq start t) None (f t)
still_none f start none t =
    (elim (nat_eq start t) as (λ b. nat_eq start t ≡ b → f t ≡ cond b None (f t)) [
      | true ↦ λ e. ap f (sym (eqb-true start t e)) ∙ none
      | false ↦ λ e. refl
    ]) refl

-- ---- a cell comes
pub inserted : (cells : Cells) (n start : ℕ) (place : Place) → kept_at cells start ≡ None → (t : ℕ) → kept_at (insert cells n (start, place)) t ≡ cond (nat_eq start t) (Some place) (kept_at cells t)
inserted cells n start place none t =
    lookup-insert (eq_by_cmp_equiv nat_cmp_total) start place t cells n (none_passes_from_lookup (is_at (nat_cmp start)) cells none) ∙ ap (λ b. cond b (Some place) (kept_at cells t)) (same_start start t)

all_later : (k p : ℕ) (ks : List ℕ) → p < k → AllByRecursion (λ y. nat_cmp k y ≡ Less) ks → AllByRecursion (λ y. nat_cmp p y ≡ Less) ks
all_later k p [] less all = tt
all_later k p (y ∷ ks) less all = (let after = is_less k y all.0 in to_less p y (omega (arith, less, after)), all_later k p ks less all.1)

all_inserted : (P : ℕ → Type 0) (cells : Cells) (n start : ℕ) (place : Place) → P start → AllByRecursion P (keys_of cells) → AllByRecursion P (keys_of (insert cells n (start, place)))
all_inserted P cells zero start place h all = (h, all)
all_inserted P [] (suc n) start place h all = (h, tt)
all_inserted P (e ∷ cells) (suc n) start place h all = (all.0, all_inserted P cells n start place h all.1)

pub order_inserted : (cells : Cells) (n start : ℕ) (place : Place) → AreInOrder cells → kept_at cells start ≡ None → HaveBegun cells start n → AreInOrder (insert cells n (start, place))
unfolding IsStrictlySortedBy
order_inserted [] n start place order none have = let is : n ≡ 0 = omega (arith, have.within) in subst (λ (m : ℕ). AreInOrder (insert [] m (start, place))) (sym is) (tt, tt)
order_inserted (e ∷ cells) zero start place order none have =
    let late : start < e.0 = have.later 0 e (omega arith) (omega arith) in
    ((to_less start e.0 late, all_later e.0 start (keys_of cells) late order.0), order)
order_inserted (e ∷ cells) (suc n) start place order none have =
    let early : e.0 ≤ start = have.begun 0 e (omega arith) (omega arith) in
    let other : nat_eq start e.0 ≡ false = unequal (nat_eq start e.0) (same_start start e.0) none in
    let less : e.0 < start = grind (arith, nat_tests, early, other) in (
      all_inserted (λ y. nat_cmp e.0 y ≡ Less) cells n start place (to_less e.0 start less) order.0,
      order_inserted cells n start place order.1 (ap (λ b. cond b (Some e.1) (kept_at cells start)) (sym (same_start start e.0 ∙ other)) ∙ none) (record {
        within = omega (arith, have.within);
        begun = λ k d a b. have.begun (suc k) d (omega arith) (omega (arith, b));
        later = λ k d a b. have.later (suc k) d (omega (arith, a)) (omega (arith, b));
      }),
    )
  where
    unequal : (b : Bool) → is_eq (nat_cmp start e.0) ≡ b → cond (is_eq (nat_cmp start e.0)) (Some e.1) (kept_at cells start) ≡ None → b ≡ false
    unequal true is h = absurd (true≢false (ap is_some (sym (ap (λ b. cond b (Some e.1) (kept_at cells start)) is) ∙ h)))
    unequal false is h = refl

-- ---- a cell goes
removed : (cells : Cells) (i start : ℕ) (d : ℕ × Place) → AreInOrder cells → i < length cells → (get_or cells i d).0 ≡ start → remove cells i ≡ remove_entry (is_at (nat_cmp start)) cells
removed [] i start d order h is = absurd (omega (arith, h))
removed (e ∷ cells) zero start d order h is = let same : is_eq (nat_cmp start e.0) ≡ true = grind (arith, nat_tests, is) in rw same refl
removed (e ∷ cells) (suc i) start d order h is =
    let less = rising (e ∷ cells) order zero (suc i) d (omega arith) h in
    let other : is_eq (nat_cmp start e.0) ≡ false = grind (arith, nat_tests, less, is) in
    rw other (ap (λ l. e ∷ l) (removed cells i start d (sorted_tail nat_cmp e.0 (keys_of cells) order) (omega (arith, h)) is))

all_removed : (P : ℕ → Type 0) (test : ℕ → Bool) (cells : Cells) → AllByRecursion P (keys_of cells) → AllByRecursion P (keys_of (remove_entry test cells))
all_removed P test [] all = tt
all_removed P test (e ∷ cells) all = elim (test e.0) as (λ b. AllByRecursion P (keys_of (cond b cells (e ∷ remove_entry test cells)))) [
  | true ↦ all.1
  | false ↦ (all.0, all_removed P test cells all.1)
]

order_removed : (test : ℕ → Bool) (cells : Cells) → AreInOrder cells → AreInOrder (remove_entry test cells)
unfolding IsStrictlySortedBy
order_removed test [] order = order
order_removed test (e ∷ cells) order = elim (test e.0) as (λ b. AreInOrder (cond b cells (e ∷ remove_entry test cells))) [
  | true ↦ order.1
  | false ↦ (all_removed (λ y. nat_cmp e.0 y ≡ Less) test cells order.0, order_removed test cells order.1)
]

kept-removed : (cells : Cells) (start t : ℕ) → AreInOrder cells → kept_at (remove_entry (is_at (nat_cmp start)) cells) t ≡ cond (nat_eq start t) None (kept_at cells t)
kept-removed cells start t order =
    lookup-remove_entry (eq_by_cmp_equiv nat_cmp_total) (is_at (nat_cmp start)) (λ a b h. (eq_by_cmp_equiv nat_cmp_total).congr start a b h) t cells (IsDistinct-from_sorted nat_cmp (keys_of cells) order)
    ∙ ap (λ b. cond b None (kept_at cells t)) (same_start start t)

-- the cell of a start goes
pub record IsWithout (cells left : Cells) (start : ℕ) : Type 0 where
  pub gone : (t : ℕ) → kept_at left t ≡ cond (nat_eq start t) None (kept_at cells t)
  pub order : AreInOrder left

pub without : (cells left : Cells) → AreInOrder cells → (start n i : ℕ) → HaveBegun cells start n → n ≡ suc i → IsSome (kept_at cells start) → left ≡ remove cells i → IsWithout cells left start
without cells left order start n i have is some goes =
    let rest : left ≡ remove_entry (is_at (nat_cmp start)) cells =
    goes ∙ removed cells i start no_cell order (omega (arith, have.within, is)) (last_starts cells order start n i no_cell have is some) in
    record {
      gone = λ t. ap (λ (es : Cells). kept_at es t) rest ∙ kept-removed cells start t order;
      order = subst (λ (es : Cells). AreInOrder es) (sym rest) (order_removed (is_at (nat_cmp start)) cells order);
    }

-- ---- one more of a list is in a map
kept-taken : (cells : Cells) (i t : ℕ) (d : ℕ × Place) → AreInOrder cells → i < length cells → kept_at (take (suc i) cells) t ≡ cond (nat_eq (get_or cells i d).0 t) (Some (get_or cells i d).1) (kept_at (take i cells) t)
kept-taken [] i t d order h = absurd (omega (arith, h))
kept-taken (e ∷ cells) zero t d order h = let back : is_eq (nat_cmp t e.0) ≡ nat_eq e.0 t = grind (arith, nat_tests) in rw back refl
kept-taken (e ∷ cells) (suc i) t d order h =
    let less = rising (e ∷ cells) order zero (suc i) d (omega arith) h in
    ap (cond (is_eq (nat_cmp t e.0)) (Some e.1)) (kept-taken cells i t d (sorted_tail nat_cmp e.0 (keys_of cells) order) (omega (arith, h)))
    ∙ swapped (is_eq (nat_cmp t e.0)) (nat_eq (get_or cells i d).0 t) (λ a b. grind (arith, nat_tests, less, a, b))
  where
    swapped : (a b : Bool) → (a ≡ true → b ≡ true → ⊥) → cond a (Some e.1) (cond b (Some (get_or cells i d).1) (kept_at (take i cells) t)) ≡ cond b (Some (get_or cells i d).1) (cond a (Some e.1) (kept_at (take i cells) t))
    swapped true true f = absurd (f refl refl)
    swapped true false f = refl
    swapped false b f = refl

pub taken-more : (cells : Cells) (i t : ℕ) (d : ℕ × Place) (f g : ℕ → Option Place) → AreInOrder cells → i < length cells → ((q : ℕ) → f q ≡ kept_at (take i cells) q)
    → ((q : ℕ) → g q ≡ cond (is_eq (nat_cmp (get_or cells i d).0 q)) (Some (get_or cells i d).1) (f q)) → g t ≡ kept_at (take (i + 1) cells) t
taken-more cells i t d f g order h before came =
    let e = get_or cells i d in
    let next : suc i ≡ i + 1 = omega arith in
    came t ∙ ap₂ (λ (b : Bool) (o : Option Place). cond b (Some e.1) o) (same_start e.0 t) (before t) ∙ sym (kept-taken cells i t d order h) ∙ ap (λ n. kept_at (take n cells) t) next

-- ---- said of the keys of a signal
pub last_of_signal : (cells : Cells) (p : Point) (start : ℕ) (place : Place) → IsLastBegun cells p.time start place → IsLastAt (λ k. kept_at cells k.start) p start place
last_of_signal cells p start place last = record { at = last.at; early = last.early; last = λ k of early some. last.last k.start early some }
