-- Strands of a list that hear a cell, one after another.
use Rattle.std.proofs.Common.{◌≡◌, ℕ, zero, suc, ◌+◌, ◌<◌, ◌≤◌, List, [], ◌∷◌, length, get_or, refl, ap, sym, subst, ◌∙◌, arith, inl, inr}
use Rattle.std.proofs.Math.ListN.{set}
use Rattle.std.specs.List.{AllByRecursion, AllZip, refill}
use Rattle.std.proofs.lemmas.Bool.{cases_eq}
use Rattle.std.proofs.lemmas.List.{get_or_default, get_or-set_same, get_or-set_other}

module _ {X : Type 0} (R : X → X → Type 0) where
  -- those before i have, and the others have not
  pub record IsUpTo (xs ys : List X) (i : ℕ) : Type 0 where
    pub before : (k : ℕ) (d : X) → k < i → R (get_or xs k d) (get_or ys k d)
    pub behind : (k : ℕ) (d : X) → i ≤ k → get_or ys k d ≡ get_or xs k d

  pub none-yet : (xs : List X) → IsUpTo xs xs 0
  none-yet xs = record { before = λ k d h. absurd (omega (arith, h)); behind = λ k d h. refl }

  pub one-more : (xs ys : List X) (i : ℕ) (x v : X) → i < length xs → length ys ≡ length xs → IsUpTo xs ys i → x ≡ get_or ys i x → R x v → IsUpTo xs (set ys i v) (i + 1)
  one-more xs ys i x v lt same h at r = record {
    before = λ k d l. elim (cases_eq k i) [
      | inl e ↦ rw e (subst (λ z. R z (get_or (set ys i v) i d)) (here d) (subst (R x) (sym (get_or-set_same ys i v d (omega (arith, lt, same)))) r))
      | inr e ↦ subst (R (get_or xs k d)) (sym (get_or-set_other ys i k v d e)) (h.before k d (omega (arith, l, e)))
    ];
    behind = λ k d l. get_or-set_other ys i k v d (λ e. omega (arith, l, e)) ∙ h.behind k d (omega (arith, l));
  }
    where
      here : (d : X) → x ≡ get_or xs i d
      here d = at ∙ get_or_default ys i x d (omega (arith, lt, same)) ∙ h.behind i d (omega arith)

  zip-from : (xs ys : List X) → length ys ≡ length xs → ((k : ℕ) (d : X) → k < length xs → R (get_or xs k d) (get_or ys k d)) → AllZip R xs ys
  zip-from [] [] e f = tt
  zip-from [] (y ∷ ys) e f = absurd (omega (arith, e))
  zip-from (x ∷ xs) [] e f = absurd (omega (arith, e))
  zip-from (x ∷ xs) (y ∷ ys) e f = (f zero x (omega arith), zip-from xs ys (omega (arith, e)) (λ k d l. f (suc k) d (omega (arith, l))))

  pub all-done : (xs ys : List X) (i : ℕ) → length xs ≤ i → length ys ≡ length xs → IsUpTo xs ys i → AllZip R xs ys
  all-done xs ys i le same h = zip-from xs ys same (λ k d l. h.before k d (omega (arith, l, le)))

pub each-get_or : {X : Type 0} (P : X → Type 0) (xs : List X) (i : ℕ) (d : X) → AllByRecursion P xs → i < length xs → P (get_or xs i d)
each-get_or P [] i d all h = absurd (omega arith)
each-get_or P (x ∷ xs) zero d all h = all.0
each-get_or P (x ∷ xs) (suc i) d all h = each-get_or P xs i d all.1 (omega arith)

pub refill-same : {X : Type 0} (xs ws : List X) → length ws ≡ length xs → refill (length xs) xs ws ≡ ws
refill-same [] [] e = refl
refill-same [] (w ∷ ws) e = absurd (omega (arith, e))
refill-same (x ∷ xs) [] e = absurd (omega (arith, e))
refill-same (x ∷ xs) (w ∷ ws) e = ap (λ l. w ∷ l) (refill-same xs ws (omega (arith, e)))
