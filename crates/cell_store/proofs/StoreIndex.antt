-- What each change of a store keeps: the cells are apart, and the index has their ends.
use Rattle.std.proofs.Common.{◌≡◌, ℕ, Bool, true, false, cond, not, List, [], ◌∷◌, ◌++◌, filter, All, Option, Some, None, option_map, find, refl, sym, ap, subst, ◌∙◌}
use Rattle.std.proofs.lemmas.List.Elements.{All-head, All-tail, All-cons, All-nil, All-filter}
use Rattle.std.proofs.lemmas.List.Folds.{find-append}
use Rattle.std.specs.Option.{option_or}
use Rattle.std.specs.Ordering.{is_eq}
use Rattle.std.proofs.lemmas.Option.{same_Some}
use Rattle.valid_intervals.specs.Spans.{IsSpan}
use Rattle.valid_intervals.specs.declared.SignalCell.{SignalCell}
use Rattle.valid_intervals.specs.Cells.{same_stored, to_front}
use Rattle.cell_store.specs.declared.Key.{Key}
use Rattle.cell_store.specs.Recency.{key_of, IsApart, AreApart}
use Rattle.cell_store.specs.inner.Index.{key_cmp, has_key, IsStoreIndex}
use Rattle.valid_intervals.proofs.Callers.{same_stored-true, same_stored-itself}
use Rattle.cell_store.proofs.Keys.{first_point, covers_first, shares_first, has_key-true, key_eq-is, equal_keys}
use Rattle.cell_store.proofs.Found.{none_some, found_true, found_all, found_at_key}

abbrev stop_of : SignalCell → ℕ
stop_of x = x.cell.span.stop

abbrev AllSpans : List SignalCell → Type 0
AllSpans cells = All (λ x. IsSpan x.cell.span) cells

pub same_index : (f g : Key → Option ℕ) (cells : List SignalCell) → ((q : Key) → f q ≡ g q) → IsStoreIndex g cells → IsStoreIndex f cells
same_index f g cells same index = record { spans = index.spans; apart = index.apart; ends = λ k. same k ∙ index.ends k }

AreApart-filter : (p : SignalCell → Bool) (cells : List SignalCell) → AreApart cells → AreApart (filter p cells)
AreApart-filter p [] apart = apart
AreApart-filter p (x ∷ cells) apart =
    elim (p x) as (λ b. AreApart (cond b (x ∷ filter p cells) (filter p cells))) [
      | true ↦ (All-filter p (IsApart x) cells apart.0, AreApart-filter p cells apart.1)
      | false ↦ AreApart-filter p cells apart.1
    ]

-- a cell that is found is apart from the others
apart_from_others : (f : SignalCell → Bool) (x : SignalCell) (cells : List SignalCell) → AreApart cells → find f cells ≡ Some x → All (IsApart x) (filter (λ y. not (same_stored x y)) cells)
apart_from_others f x [] apart h = none_some x h
apart_from_others f x (y ∷ cells) apart h =
    let others : List SignalCell = filter (λ z. not (same_stored x z)) cells in
    (elim (f y) as (λ b. cond b (Some y) (find f cells) ≡ Some x → All (IsApart x) (cond (not (same_stored x y)) (y ∷ others) others)) [
      | true ↦ λ e.
          let is : y ≡ x = same_Some y x e in
          let itself : same_stored x y ≡ true = subst (λ (z : SignalCell). same_stored z y ≡ true) is (same_stored-itself y) in
          subst (λ b. All (IsApart x) (cond (not b) (y ∷ others) others)) (sym itself) (All-filter (λ z. not (same_stored x z)) (IsApart x) cells (subst (λ (z : SignalCell). All (IsApart z) cells) is apart.0))
      | false ↦ λ e.
          let rest : All (IsApart x) others = apart_from_others f x cells apart.1 e in
          let here : IsApart x y = λ p a b. found_all (IsApart y) f cells x apart.0 e p b a in
          elim (same_stored x y) as (λ b. All (IsApart x) (cond (not b) (y ∷ others) others)) [ true ↦ rest | false ↦ All-cons (IsApart x) y others here rest ]
    ]) h

-- a search that x does not pass finds the same among the others
find_other : (g : SignalCell → Bool) (x : SignalCell) (cells : List SignalCell) → g x ≡ false → find g (filter (λ y. not (same_stored x y)) cells) ≡ find g cells
find_other g x [] fails = refl
find_other g x (y ∷ cells) fails =
    let others : List SignalCell = filter (λ z. not (same_stored x z)) cells in
    (elim (same_stored x y) as (λ b. same_stored x y ≡ b → find g (cond (not b) (y ∷ others) others) ≡ cond (g y) (Some y) (find g cells)) [
      | true ↦ λ t.
          subst (λ c. find g others ≡ cond c (Some y) (find g cells)) (sym fails ∙ ap g (same_stored-true x y t)) (find_other g x cells fails)
      | false ↦ λ t. ap (cond (g y) (Some y)) (find_other g x cells fails)
    ]) refl

-- a cell that is used
pub used : (end_of : Key → Option ℕ) (cells : List SignalCell) (f : SignalCell → Bool) (x : SignalCell) → IsStoreIndex end_of cells → find f cells ≡ Some x → IsStoreIndex end_of (to_front x cells)
used end_of cells f x index h =
    let s : IsSpan x.cell.span = found_all (λ y. IsSpan y.cell.span) f cells x index.spans h in
    let others : List SignalCell = filter (λ z. not (same_stored x z)) cells in
    record {
      spans = All-cons (λ y. IsSpan y.cell.span) x others s (All-filter (λ z. not (same_stored x z)) (λ y. IsSpan y.cell.span) cells index.spans);
      apart = (apart_from_others f x cells index.apart h, AreApart-filter (λ z. not (same_stored x z)) cells index.apart);
      ends = λ k. index.ends k ∙ ap (option_map stop_of)
          ((elim (has_key k x) as (λ b. has_key k x ≡ b → find (has_key k) cells ≡ cond b (Some x) (find (has_key k) others)) [
            | true ↦ λ t. subst (λ (j : Key). find (has_key j) cells ≡ Some x) (sym (has_key-true k x t)) (found_at_key f cells x index.spans index.apart h)
            | false ↦ λ t. sym (find_other (has_key k) x cells t)
          ]) refl);
    }

-- a new cell in front
pub added : (end_of : Key → Option ℕ) (cells : List SignalCell) (x : SignalCell) → IsStoreIndex end_of cells → IsSpan x.cell.span → All (IsApart x) cells
    → IsStoreIndex (λ q. cond (is_eq (key_cmp (key_of x) q)) (Some x.cell.span.stop) (end_of q)) (x ∷ cells)
added end_of cells x index s apart = record {
  spans = All-cons (λ y. IsSpan y.cell.span) x cells s index.spans;
  apart = (apart, index.apart);
  ends = λ k.
      subst (λ b. cond b (Some x.cell.span.stop) (end_of k) ≡ option_map stop_of (cond (has_key k x) (Some x) (find (has_key k) cells))) (sym (key_eq-is k x))
      (elim (has_key k x) as (λ b. cond b (Some x.cell.span.stop) (end_of k) ≡ option_map stop_of (cond b (Some x) (find (has_key k) cells))) [
        | true ↦ refl
        | false ↦ index.ends k
      ]);
}

pub All-front : {X : Type 0} (P : X → Type 0) (xs : List X) (y : X) → All P (xs ++ y ∷ []) → All P xs
All-front P [] y all = All-nil P
All-front P (x ∷ xs) y all = All-cons P x xs (All-head P x (xs ++ y ∷ []) all) (All-front P xs y (All-tail P x (xs ++ y ∷ []) all))

pub All-back : {X : Type 0} (P : X → Type 0) (xs : List X) (y : X) → All P (xs ++ y ∷ []) → P y
All-back P [] y all = All-head P y [] all
All-back P (x ∷ xs) y all = All-back P xs y (All-tail P x (xs ++ y ∷ []) all)

AreApart-front : (cells : List SignalCell) (y : SignalCell) → AreApart (cells ++ y ∷ []) → AreApart cells
AreApart-front [] y apart = tt
AreApart-front (x ∷ cells) y apart = (All-front (IsApart x) cells y apart.0, AreApart-front cells y apart.1)

-- the last is apart from those before it
last_is_apart : (f : SignalCell → Bool) (cells : List SignalCell) (x y : SignalCell) → AreApart (cells ++ y ∷ []) → find f cells ≡ Some x → IsApart x y
last_is_apart f [] x y apart h = none_some x h
last_is_apart f (z ∷ cells) x y apart h =
    (elim (f z) as (λ b. cond b (Some z) (find f cells) ≡ Some x → IsApart x y) [
      | true ↦ λ e. subst (λ (w : SignalCell). IsApart w y) (same_Some z x e) (All-back (IsApart z) cells y apart.0)
      | false ↦ λ e. last_is_apart f cells x y apart.1 e
    ]) h

-- the last cell goes
pub dropped : (end_of : Key → Option ℕ) (cells : List SignalCell) (y : SignalCell) → IsStoreIndex end_of (cells ++ y ∷ [])
    → IsStoreIndex (λ q. cond (is_eq (key_cmp (key_of y) q)) None (end_of q)) cells
dropped end_of cells y index =
    let s : IsSpan y.cell.span = All-back (λ z. IsSpan z.cell.span) cells y index.spans in
    let spans : AllSpans cells = All-front (λ z. IsSpan z.cell.span) cells y index.spans in
    record {
      spans = spans;
      apart = AreApart-front cells y index.apart;
      ends = λ k.
          let whole : end_of k ≡ option_map stop_of (option_or (find (has_key k) cells) (cond (has_key k y) (Some y) None)) = index.ends k ∙ ap (option_map stop_of) (find-append (has_key k) cells (y ∷ [])) in
          subst (λ b. cond b None (end_of k) ≡ option_map stop_of (find (has_key k) cells)) (sym (key_eq-is k y))
          ((elim (has_key k y) as (λ b. has_key k y ≡ b → end_of k ≡ option_map stop_of (option_or (find (has_key k) cells) (cond b (Some y) None)) → cond b None (end_of k) ≡ option_map stop_of (find (has_key k) cells)) [
            | true ↦ λ t e.
                (elim (find (has_key k) cells) as (λ o. find (has_key k) cells ≡ o → None ≡ option_map stop_of o) [
                  | None ↦ λ d. refl
                  | Some x ↦ λ d.
                      let told : has_key k x ≡ true = found_true (has_key k) cells x d in
                      let same : has_key (key_of x) y ≡ true = subst (λ (j : Key). has_key j y ≡ true) (has_key-true k x told) t in
                      absurd (last_is_apart (has_key k) cells x y index.apart d (first_point x) (covers_first x (found_all (λ z. IsSpan z.cell.span) (has_key k) cells x spans d))
                      (shares_first x y (found_all (λ z. IsSpan z.cell.span) (has_key k) cells x spans d) s same))
                ]) refl
            | false ↦ λ t e. e ∙ ap (option_map stop_of) (or_none (find (has_key k) cells))
          ]) refl whole);
    }
  where
    or_none : {X : Type 0} (o : Option X) → option_or o None ≡ o
    or_none None = refl
    or_none (Some x) = refl

-- a key gets another value, and then what it had
pub put_back : {V : Type 0} (f g h : Key → Option V) (k : Key) (o had : Option V) → had ≡ f k → ((q : Key) → g q ≡ cond (is_eq (key_cmp k q)) o (f q)) → ((q : Key) → h q ≡ cond (is_eq (key_cmp k q)) had (g q))
    → (q : Key) → h q ≡ f q
put_back f g h k o had was came back q =
    back q ∙ ap (cond (is_eq (key_cmp k q)) had) (came q)
    ∙ (elim (is_eq (key_cmp k q)) as (λ b. is_eq (key_cmp k q) ≡ b → cond b had (cond b o (f q)) ≡ f q) [
      | true ↦ λ e. was ∙ ap f (equal_keys k q e)
      | false ↦ λ e. refl
    ]) refl
