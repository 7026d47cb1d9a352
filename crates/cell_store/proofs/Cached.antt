-- What the cache's calls do to cells that are apart.
use Rattle.std.proofs.Common.{length, ◌<◌, ◌≤◌, arith, ◌≡◌, ◌⊎◌, ⊎_elim, Bool, true, false, cond, not, ◌||◌, List, [], ◌∷◌, filter, All, Some, None, find, refl, sym, ap, subst, ◌∙◌, true≢false}
use Rattle.std.proofs.lemmas.List.Elements.{All-head, All-tail, All-cons, All-nil}
use Rattle.std.specs.List.{list_any}
use Rattle.std.proofs.lemmas.Option.{same_Some}
use Rattle.valid_intervals.specs.Spans.{IsSpan}
use Rattle.valid_intervals.specs.declared.SignalCell.{SignalCell}
use Rattle.valid_intervals.specs.Cells.{same_stored, is_stored}
use Rattle.cell_store.specs.Recency.{key_of, IsApart, FitsStore}
use Rattle.cell_store.specs.inner.Index.{has_key}
use Rattle.valid_intervals.proofs.Callers.{same_stored-true, same_stored-itself}
use Rattle.cell_store.proofs.Keys.{first_point, covers_first, shares_first, differs, told_apart, has_key-itself}
use Rattle.cell_store.proofs.Found.{none_some, found_true, found_all}

-- nothing is taken out where nothing is the same
pub all_kept : (x : SignalCell) (cells : List SignalCell) → All (λ y. same_stored x y ≡ false) cells → filter (λ y. not (same_stored x y)) cells ≡ cells
all_kept x [] other = refl
all_kept x (y ∷ cells) other =
    let first : same_stored x y ≡ false = All-head (λ y. same_stored x y ≡ false) y cells other in
    subst (λ b. cond (not b) (y ∷ filter (λ y. not (same_stored x y)) cells) (filter (λ y. not (same_stored x y)) cells) ≡ y ∷ cells) (sym first)
    (ap (λ (r : List SignalCell). y ∷ r) (all_kept x cells (All-tail (λ y. same_stored x y ≡ false) y cells other)))

-- none of the cells that are apart from x is x
pub all_differ : (x : SignalCell) (cells : List SignalCell) → IsSpan x.cell.span → All (IsApart x) cells → All (λ y. same_stored x y ≡ false) cells
all_differ x [] s apart = All-nil (λ y. same_stored x y ≡ false)
all_differ x (y ∷ cells) s apart =
    All-cons (λ y. same_stored x y ≡ false) y cells (differs x y s (All-head (IsApart x) y cells apart)) (all_differ x cells s (All-tail (IsApart x) y cells apart))

pub passes : {X : Type 0} (f g : X → Bool) (xs : List X) (x : X) → find f xs ≡ Some x → g x ≡ true → list_any g xs ≡ true
passes f g [] x h told = none_some x h
passes f g (y ∷ ys) x h told =
    (elim (g y) as (λ c. g y ≡ c → (c || list_any g ys) ≡ true) [
      | true ↦ λ t. refl
      | false ↦ λ t.
          (elim (f y) as (λ b. cond b (Some y) (find f ys) ≡ Some x → list_any g ys ≡ true) [
            | true ↦ λ d. absurd (true≢false (sym told ∙ ap g (sym (same_Some y x d)) ∙ t))
            | false ↦ λ d. passes f g ys x d told
          ]) h
    ]) refl

none_pass : (x : SignalCell) (cells : List SignalCell) → find (has_key (key_of x)) cells ≡ None → list_any (same_stored x) cells ≡ false
none_pass x [] h = refl
none_pass x (y ∷ cells) h =
    (elim (has_key (key_of x) y) as (λ b. has_key (key_of x) y ≡ b → cond b (Some y) (find (has_key (key_of x)) cells) ≡ None → (same_stored x y || list_any (same_stored x) cells) ≡ false) [
      | true ↦ λ t e. none_some y (sym e)
      | false ↦ λ t e.
          let other : same_stored x y ≡ false = told_apart (has_key (key_of x)) x y (has_key-itself x) t in
          subst (λ b. (b || list_any (same_stored x) cells) ≡ false) (sym other) (none_pass x cells e)
    ]) refl h

-- a cell that fits is stored exactly where its key is
pub found_if_stored : (x : SignalCell) (cells : List SignalCell) → IsSpan x.cell.span → All (λ y. IsSpan y.cell.span) cells → FitsStore x cells
    → (y : SignalCell) → find (has_key (key_of x)) cells ≡ Some y → (x ≡ y) × (is_stored x cells ≡ true)
found_if_stored x cells s spans fits y h =
    let t : IsSpan y.cell.span = found_all (λ z. IsSpan z.cell.span) (has_key (key_of x)) cells y spans h in
    let told : has_key (key_of x) y ≡ true = found_true (has_key (key_of x)) cells y h in
    let same : same_stored x y ≡ true =
    ⊎_elim (λ (e : same_stored x y ≡ true). e) (λ (never : IsApart x y). absurd (never (first_point x) (covers_first x s) (shares_first x y s t told)))
    (found_all (λ z. (same_stored x z ≡ true) ⊎ IsApart x z) (has_key (key_of x)) cells y fits h) in
    (same_stored-true x y same, passes (has_key (key_of x)) (same_stored x) cells y h same)

pub not_stored : (x : SignalCell) (cells : List SignalCell) → find (has_key (key_of x)) cells ≡ None → is_stored x cells ≡ false
not_stored x cells h = none_pass x cells h

-- what fits and is not stored is apart
pub all_apart : (x : SignalCell) (cells : List SignalCell) → FitsStore x cells → is_stored x cells ≡ false → All (IsApart x) cells
all_apart x [] fits new = All-nil (IsApart x)
all_apart x (y ∷ cells) fits new =
    (elim (same_stored x y) as (λ b. same_stored x y ≡ b → (b || list_any (same_stored x) cells) ≡ false → All (IsApart x) (y ∷ cells)) [
      | true ↦ λ t e. absurd (true≢false e)
      | false ↦ λ t e.
          All-cons (IsApart x) y cells
          (⊎_elim (λ (same : same_stored x y ≡ true). absurd (true≢false (sym same ∙ t))) (λ (apart : IsApart x y). apart) (All-head (λ z. (same_stored x z ≡ true) ⊎ IsApart x z) y cells fits))
          (all_apart x cells (All-tail (λ z. (same_stored x z ≡ true) ⊎ IsApart x z) y cells fits) e)
    ]) refl new

-- ---- lengths
no_longer : (p : SignalCell → Bool) (cells : List SignalCell) → length (filter p cells) ≤ length cells
no_longer p [] = omega arith
no_longer p (y ∷ cells) =
    elim (p y) as (λ b. length (cond b (y ∷ filter p cells) (filter p cells)) ≤ length (y ∷ cells)) [
      | true ↦ omega (arith, no_longer p cells)
      | false ↦ omega (arith, no_longer p cells)
    ]

pub shorter : (f : SignalCell → Bool) (x : SignalCell) (cells : List SignalCell) → find f cells ≡ Some x → length (filter (λ y. not (same_stored x y)) cells) < length cells
shorter f x [] h = none_some x h
shorter f x (y ∷ cells) h =
    let others : List SignalCell = filter (λ z. not (same_stored x z)) cells in
    (elim (f y) as (λ b. cond b (Some y) (find f cells) ≡ Some x → length (cond (not (same_stored x y)) (y ∷ others) others) < length (y ∷ cells)) [
      | true ↦ λ e.
          let itself : same_stored x y ≡ true = subst (λ (z : SignalCell). same_stored z y ≡ true) (same_Some y x e) (same_stored-itself y) in
          subst (λ b. length (cond (not b) (y ∷ others) others) < length (y ∷ cells)) (sym itself) (omega (arith, no_longer (λ z. not (same_stored x z)) cells))
      | false ↦ λ e.
          elim (same_stored x y) as (λ b. length (cond (not b) (y ∷ others) others) < length (y ∷ cells)) [
            | true ↦ omega (arith, shorter f x cells e)
            | false ↦ omega (arith, shorter f x cells e)
          ]
    ]) h
