-- Two lists side by side.
use Rattle.std.proofs.Common.{◌≡◌, ℕ, ◌+◌, ◌<◌, List, [], ◌∷◌, ◌++◌, length, get_or, sym, ap, subst, ◌∙◌, arith, inl, inr}
use Rattle.std.proofs.lemmas.Bool.{cases_eq}
use Rattle.std.proofs.lemmas.List.{get_or_default, get_or_append_left}
use Rattle.std.proofs.Math.Seq.{get_or-append_seam}

-- one pair more
pub each-more : {A B : Type 0} (P : A → B → Type 0) (xs : List A) (ys zs : List B) (i : ℕ) (x : A) (y : B) → zs ≡ ys ++ y ∷ [] → length ys ≡ i → i < length xs → x ≡ get_or xs i x → P x y
    → ((n : ℕ) (a : A) (b : B) → n < i → P (get_or xs n a) (get_or ys n b)) → (n : ℕ) (a : A) (b : B) → n < i + 1 → P (get_or xs n a) (get_or zs n b)
each-more P xs ys zs i x y more count low is here was n a b l =
    subst (λ z. P (get_or xs n a) (get_or z n b)) (sym more)
    (elim (cases_eq n i) [
      | inl e ↦
          let left : get_or xs n a ≡ x = ap (λ k. get_or xs k a) e ∙ get_or_default xs i a x low ∙ sym is in
          let right : get_or (ys ++ y ∷ []) n b ≡ y = ap (λ k. get_or (ys ++ y ∷ []) k b) (e ∙ sym count) ∙ get_or-append_seam ys y [] b in
          subst (λ z. P z (get_or (ys ++ y ∷ []) n b)) (sym left) (subst (P x) (sym right) here)
      | inr ne ↦ subst (P (get_or xs n a)) (sym (get_or_append_left ys (y ∷ []) b n (omega arith))) (was n a b (omega arith))
    ])
