-- The last item of a vector is the top of the stack.
use Rattle.std.proofs.Common.{◌≡◌, ℕ, ◌-◌, ◌<◌, List, [], ◌∷◌, ◌++◌, length, get_or, reverse, refl, ap, sym, ◌∙◌, subst, arith}
use Rattle.std.proofs.Math.ListN.{set}
use Rattle.std.proofs.Math.Seq.{set-append_seam, get_or-append_seam}
use Rattle.std.proofs.lemmas.List.{reverse-append, reverse-reverse, length-reverse}
use Rattle.design.specs.declared.pin_walk.PinWalk.{PinWalk}
use Rattle.demand_points.specs.inner.Stacks.{IsTop, OnTop, ChangesTop, with_top}

-- the last item is the top
written : (st : List PinWalk) (n : ℕ) (x : PinWalk) → n ≡ length st → reverse (set (reverse st) (n - 1) x) ≡ with_top x st
written [] n x e = refl
written (y ∷ st) n x e =
    let below = reverse st in
    let at : n - 1 ≡ length below = omega (arith, length-reverse st) in
    ap (λ l. reverse (set l (n - 1) x)) (reverse-append (y ∷ []) st) ∙ ap (λ k. reverse (set (below ++ y ∷ []) k x)) at ∙ ap reverse (set-append_seam below y [] x) ∙ reverse-append below (x ∷ [])
    ∙ ap (λ l. x ∷ l) (reverse-reverse st)

pub top-written : (xs : List PinWalk) (n : ℕ) (x : PinWalk) → n ≡ length xs → reverse (set xs (n - 1) x) ≡ with_top x (reverse xs)
top-written xs n x e = ap (λ l. reverse (set l (n - 1) x)) (sym (reverse-reverse xs)) ∙ written (reverse xs) n x (e ∙ sym (length-reverse xs))

pub no-top : (xs : List PinWalk) (n : ℕ) (x : PinWalk) → n ≡ length xs → (0 < n → ⊥) → reverse xs ≡ with_top x (reverse xs)
no-top [] n x e h = refl
no-top (y ∷ xs) n x e h = absurd (h (omega arith))

pub none-there : (xs : List PinWalk) (n : ℕ) → n ≡ length xs → (0 < n → ⊥) → reverse xs ≡ []
none-there [] n e h = refl
none-there (y ∷ xs) n e h = absurd (h (omega arith))

read : (st : List PinWalk) (n : ℕ) (x : PinWalk) → n ≡ length st → 0 < n → x ≡ get_or (reverse st) (n - 1) x → IsTop st x
read [] n x e h k = absurd (omega arith)
read (y ∷ st) n x e h k =
    let below = reverse st in
    let at : n - 1 ≡ length below = omega (arith, length-reverse st) in
    k ∙ ap (λ l. get_or l (n - 1) x) (reverse-append (y ∷ []) st) ∙ ap (λ i. get_or (below ++ y ∷ []) i x) at ∙ get_or-append_seam below y [] x

pub top-read : (xs : List PinWalk) (n : ℕ) (x : PinWalk) → n ≡ length xs → 0 < n → x ≡ get_or xs (n - 1) x → IsTop (reverse xs) x
top-read xs n x e h k = read (reverse xs) n x (e ∙ sym (length-reverse xs)) h (k ∙ ap (λ l. get_or l (n - 1) x) (sym (reverse-reverse xs)))

pub on-top : (P : PinWalk → Type 0) (st : List PinWalk) (f : PinWalk) → OnTop P st → IsTop st f → P f
on-top P [] f h t = absurd t
on-top P (g ∷ gs) f h t = subst P (sym t) h

-- a top that gives way to another
pub top-changed : (R : PinWalk → PinWalk → Type 0) (st : List PinWalk) (f g : PinWalk) → IsTop st f → R f g → ChangesTop R st (with_top g st)
top-changed R [] f g t r = absurd t
top-changed R (x ∷ xs) f g t r = (g, subst (λ z. R z g) t r, refl)

pub none-changed : (R : PinWalk → PinWalk → Type 0) (st : List PinWalk) → st ≡ [] → ChangesTop R st st
none-changed R [] e = refl
none-changed R (x ∷ xs) e = absurd (cc e)
