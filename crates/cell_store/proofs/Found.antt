-- What a search among cells that are apart finds.
use Rattle.std.proofs.Common.{◌≡◌, ◌⊎◌, inl, inr, ⊎_elim, ℕ, ◌<◌, ◌≤◌, Bool, true, false, cond, List, [], ◌∷◌, All, Option, Some, None, IsSome, option_map, find, refl, sym, ap, subst, ◌∙◌, true≢false, arith}
use Rattle.std.proofs.lemmas.List.Elements.{All-head, All-tail}
use Rattle.std.proofs.lemmas.Option.{same_Some}
use Rattle.valid_intervals.specs.Spans.{IsSpan}
use Rattle.valid_intervals.specs.declared.Point.{Point}
use Rattle.valid_intervals.specs.declared.SignalCell.{SignalCell}
use Rattle.valid_intervals.specs.Cells.{covers, stored_at}
use Rattle.cell_store.specs.declared.Key.{Key}
use Rattle.cell_store.specs.Recency.{key_of, IsApart, AreApart}
use Rattle.cell_store.specs.inner.Index.{has_key, IsStoreIndex}
use Rattle.cell_store.proofs.Keys.{IsCovered, covers_true, covers_from, first_point, covers_first, shares_first, has_key-true, has_key-itself, AtMost}

pub none_some : {X : Type 0} {P : Type 0} (x : X) → None ≡ Some x → P
none_some x h = absurd (cc h)

pub found_true : {X : Type 0} (f : X → Bool) (xs : List X) (x : X) → find f xs ≡ Some x → f x ≡ true
found_true f [] x h = none_some x h
found_true f (y ∷ ys) x h =
    (elim (f y) as (λ b. f y ≡ b → cond b (Some y) (find f ys) ≡ Some x → f x ≡ true) [
      | true ↦ λ t e. subst (λ z. f z ≡ true) (same_Some y x e) t
      | false ↦ λ t e. found_true f ys x e
    ]) refl h

pub found_all : {X : Type 0} (P : X → Type 0) (f : X → Bool) (xs : List X) (x : X) → All P xs → find f xs ≡ Some x → P x
found_all P f [] x all h = none_some x h
found_all P f (y ∷ ys) x all h =
    (elim (f y) as (λ b. cond b (Some y) (find f ys) ≡ Some x → P x) [
      | true ↦ λ e. subst P (same_Some y x e) (All-head P y ys all)
      | false ↦ λ e. found_all P f ys x (All-tail P y ys all) e
    ]) h

-- what one search finds, another that finds nothing does not pass
pub missed : {X : Type 0} (f g : X → Bool) (xs : List X) (x : X) → find f xs ≡ Some x → find g xs ≡ None → g x ≡ false
missed f g [] x h none = none_some x h
missed f g (y ∷ ys) x h none =
    (elim (g y) as (λ c. g y ≡ c → cond c (Some y) (find g ys) ≡ None → g x ≡ false) [
      | true ↦ λ t e. none_some y (sym e)
      | false ↦ λ t e.
          (elim (f y) as (λ b. cond b (Some y) (find f ys) ≡ Some x → g x ≡ false) [
            | true ↦ λ d. subst (λ z. g z ≡ false) (same_Some y x d) t
            | false ↦ λ d. missed f g ys x d e
          ]) h
    ]) refl none

module _ where
  flip : (x y : SignalCell) → IsApart x y → IsApart y x
  flip x y apart p a b = apart p b a

  -- two that are found are one, or apart
  pub two_found : (f g : SignalCell → Bool) (cells : List SignalCell) (x y : SignalCell) → AreApart cells → find f cells ≡ Some x → find g cells ≡ Some y → (x ≡ y) ⊎ IsApart x y
  two_found f g [] x y apart h k = none_some x h
  two_found f g (z ∷ zs) x y apart h k =
      (elim (f z) as (λ b. cond b (Some z) (find f zs) ≡ Some x → (x ≡ y) ⊎ IsApart x y) [
        | true ↦ λ d.
            (elim (g z) as (λ c. cond c (Some z) (find g zs) ≡ Some y → (x ≡ y) ⊎ IsApart x y) [
              | true ↦ λ e. inl (sym (same_Some z x d) ∙ same_Some z y e)
              | false ↦ λ e. inr (subst (λ w. IsApart w y) (same_Some z x d) (found_all (IsApart z) g zs y apart.0 e))
            ]) k
        | false ↦ λ d.
            (elim (g z) as (λ c. cond c (Some z) (find g zs) ≡ Some y → (x ≡ y) ⊎ IsApart x y) [
              | true ↦ λ e. inr (subst (λ w. IsApart x w) (same_Some z y e) (flip z x (found_all (IsApart z) f zs x apart.0 d)))
              | false ↦ λ e. two_found f g zs x y apart.1 d e
            ]) k
      ]) h

  -- two that are found and cover one point are one
  pub one_found : (f g : SignalCell → Bool) (cells : List SignalCell) (x y : SignalCell) (p : Point) → AreApart cells → find f cells ≡ Some x → find g cells ≡ Some y → covers p x ≡ true → covers p y ≡ true → x ≡ y
  one_found f g cells x y p apart h k a b =
      ⊎_elim (λ (same : x ≡ y). same) (λ (never : IsApart x y). absurd (never p a b)) (two_found f g cells x y apart h k)

  found_by : (f g : SignalCell → Bool) (cells : List SignalCell) (x : SignalCell) → find f cells ≡ Some x → g x ≡ true → ((y : SignalCell) → find g cells ≡ Some y → x ≡ y) → find g cells ≡ Some x
  found_by f g cells x h told only =
      (elim (find g cells) as (λ o. find g cells ≡ o → o ≡ Some x) [
        | None ↦ λ e. absurd (true≢false (sym told ∙ missed f g cells x h e))
        | Some y ↦ λ e. ap (λ (z : SignalCell). Some z) (sym (only y e))
      ]) refl

  -- a found cell is what a search for a point that it covers finds
  pub found_at_point : (f : SignalCell → Bool) (cells : List SignalCell) (x : SignalCell) (p : Point) → AreApart cells → find f cells ≡ Some x → covers p x ≡ true → stored_at cells p ≡ Some x
  found_at_point f cells x p apart h a =
      found_by f (covers p) cells x h a (λ y e. one_found f (covers p) cells x y p apart h e a (found_true (covers p) cells y e))

  -- and what a search for its key finds
  pub found_at_key : (f : SignalCell → Bool) (cells : List SignalCell) (x : SignalCell) → All (λ y. IsSpan y.cell.span) cells → AreApart cells → find f cells ≡ Some x → find (has_key (key_of x)) cells ≡ Some x
  found_at_key f cells x spans apart h =
      let s : IsSpan x.cell.span = found_all (λ y. IsSpan y.cell.span) f cells x spans h in
      found_by f (has_key (key_of x)) cells x h (has_key-itself x) (λ y e.
      one_found f (has_key (key_of x)) cells x y (first_point x) apart h e (covers_first x s)
      (shares_first x y s (found_all (λ z. IsSpan z.cell.span) (has_key (key_of x)) cells y spans e) (found_true (has_key (key_of x)) cells y e)))

-- the cell whose end the index has at a key
pub record Holds (cells : List SignalCell) (k : Key) (at : ℕ) : Type 0 where
  pub cell : SignalCell
  pub found : find (has_key k) cells ≡ Some cell
  pub key : k ≡ key_of cell
  pub end : cell.cell.span.stop ≡ at

pub holds : (end_of : Key → Option ℕ) (cells : List SignalCell) (k : Key) (end : ℕ) → IsStoreIndex end_of cells → end_of k ≡ Some end → Holds cells k end
holds end_of cells k end index at =
    (elim (find (has_key k) cells) as (λ o. find (has_key k) cells ≡ o → option_map (λ (x : SignalCell). x.cell.span.stop) o ≡ Some end → Holds cells k end) [
      | None ↦ λ e d. none_some end d
      | Some x ↦ λ e d. record { cell = x; found = e; key = has_key-true k x (found_true (has_key k) cells x e); end = same_Some x.cell.span.stop end d }
    ]) refl (sym (index.ends k) ∙ at)

-- the index has the end of a cell that is found
pub has_end : (end_of : Key → Option ℕ) (cells : List SignalCell) (f : SignalCell → Bool) (x : SignalCell) → IsStoreIndex end_of cells → find f cells ≡ Some x → end_of (key_of x) ≡ Some x.cell.span.stop
has_end end_of cells f x index h = index.ends (key_of x) ∙ ap (option_map (λ (y : SignalCell). y.cell.span.stop)) (found_at_key f cells x index.spans index.apart h)

-- a cell that begins no later than the time and ends after it
pub covered : (end_of : Key → Option ℕ) (cells : List SignalCell) (p : Point) (k : Key) (end : ℕ) → IsStoreIndex end_of cells → end_of k ≡ Some end → k.signal ≡ p.signal → k.start ≤ p.time → p.time < end
    → option_map key_of (stored_at cells p) ≡ Some k
covered end_of cells p k end index at signal low high =
    let h : Holds cells k end = holds end_of cells k end index at in
    let start : h.cell.cell.span.start ≡ k.start = ap (λ (j : Key). j.start) (sym h.key) in
    let of : h.cell.signal ≡ k.signal = ap (λ (j : Key). j.signal) (sym h.key) in
    let there : covers p h.cell ≡ true = covers_from p h.cell (record { signal = of ∙ signal; low = let i = start in omega arith; high = let i = h.end in omega arith }) in
    ap (option_map key_of) (found_at_point (has_key k) cells h.cell p index.apart h.found there) ∙ ap (λ (j : Key). Some j) (sym h.key)

pub same_signal : (q k : Key) (signal time : ℕ) → q.signal ≡ signal → AtMost q k → AtMost k (record { signal = signal; start = time }) → k.signal ≡ signal
same_signal q k signal time is (inl a) (inl b) = absurd (omega arith)
same_signal q k signal time is (inl a) (inr b) = b.0
same_signal q k signal time is (inr a) (inl b) = absurd (let i = a.0 in omega arith)
same_signal q k signal time is (inr a) (inr b) = b.0

pub lower : (q k : Key) → q.signal ≡ k.signal → AtMost q k → q.start ≤ k.start
lower q k is (inl a) = absurd (omega arith)
lower q k is (inr a) = a.1

-- the last cell that begins no later than the time does not cover the point: no cell does
pub past : (end_of : Key → Option ℕ) (cells : List SignalCell) (p : Point) (k : Key) (end : ℕ) → IsStoreIndex end_of cells → end_of k ≡ Some end
    → k.signal ≡ p.signal → k.start ≤ p.time
    → ((q : Key) → q.signal ≡ p.signal → q.start ≤ p.time → IsSome (end_of q) → q.start ≤ k.start)
    → end ≤ p.time → stored_at cells p ≡ None
past end_of cells p k end index at signal below last ended =
    (elim (stored_at cells p) as (λ o. stored_at cells p ≡ o → o ≡ None) [
      | None ↦ λ e. refl
      | Some y ↦ λ e.
          let c : IsCovered p y = covers_true p y (found_true (covers p) cells y e) in
          let there : end_of (key_of y) ≡ Some y.cell.span.stop = has_end end_of cells (covers p) y index e in
          let low : y.cell.span.start ≤ k.start = last (key_of y) c.signal c.low (subst (λ o. IsSome o) (sym there) refl) in
          let h : Holds cells k end = holds end_of cells k end index at in
          let s : IsSpan h.cell.cell.span = found_all (λ z. IsSpan z.cell.span) (has_key k) cells h.cell index.spans h.found in
          let start : h.cell.cell.span.start ≡ k.start = ap (λ (j : Key). j.start) (sym h.key) in
          let of : h.cell.signal ≡ k.signal = ap (λ (j : Key). j.signal) (sym h.key) in
          let q : Point = record { signal = p.signal; time = k.start } in
          let first : covers q h.cell ≡ true = covers_from q h.cell (record { signal = of ∙ signal; low = let i = start in omega arith; high = let i = start in let j = s.some in omega arith }) in
          let second : covers q y ≡ true = covers_from q y (record { signal = c.signal; low = low; high = let j = c.high in omega arith }) in
          let same : h.cell ≡ y = one_found (has_key k) (covers p) cells h.cell y q index.apart h.found e first second in
          let ends : y.cell.span.stop ≡ end = ap (λ (z : SignalCell). z.cell.span.stop) (sym same) ∙ h.end in
          absurd (let j = c.high in omega arith)
    ]) refl

-- no cell of the signal begins so early: none covers the point
pub none_before : (end_of : Key → Option ℕ) (cells : List SignalCell) (p : Point) → IsStoreIndex end_of cells
    → ((q : Key) → q.signal ≡ p.signal → q.start ≤ p.time → end_of q ≡ None) → stored_at cells p ≡ None
none_before end_of cells p index none =
    (elim (stored_at cells p) as (λ o. stored_at cells p ≡ o → o ≡ None) [
      | None ↦ λ e. refl
      | Some y ↦ λ e.
          let c : IsCovered p y = covers_true p y (found_true (covers p) cells y e) in
          none_some y.cell.span.stop (sym (none (key_of y) c.signal c.low) ∙ has_end end_of cells (covers p) y index e)
    ]) refl
