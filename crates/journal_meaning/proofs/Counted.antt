-- Every evaluation is of a point for the first time, or again.
use Rattle.std.proofs.Common.{◌≡◌, suc, ◌+◌, true, false, cond, not, ◌||◌, if◌then◌else◌, List, [], ◌∷◌, length, filter, refl, sym, ap, ◌∙◌, arith, true≢false, subst, inl, inr}
use Rattle.std.proofs.lemmas.Bool.{cases_Bool}
use Rattle.std.specs.List.{list_any}
use Rattle.valid_intervals.specs.declared.Point.{Point}
use Rattle.journal_meaning.specs.declared.Entry.{Entry}
use Rattle.valid_intervals.specs.Cells.{same_point}
use Rattle.journal_meaning.specs.Counts.{points_of, different, repeat_count, evaluations, distinct, again}
use Rattle.valid_intervals.proofs.Callers.{same_point-true, same_point-itself}

-- the points that are none of the earlier ones
abbrev new : List Point → List Point → List Point
new earlier ps = filter (λ x. not (list_any (same_point x) earlier)) ps

same_point-sym : (a b : Point) → same_point a b ≡ same_point b a
same_point-sym a b = elim (cases_Bool (same_point a b)) [
  | inl e ↦ e ∙ sym (subst (λ c. same_point b c ≡ true) (sym (same_point-true a b e)) (same_point-itself b))
  | inr e ↦ elim (cases_Bool (same_point b a)) [
    | inl k ↦ absurd (true≢false (sym (subst (λ c. same_point a c ≡ true) (sym (same_point-true b a k)) (same_point-itself a)) ∙ e))
    | inr k ↦ e ∙ sym k
  ]
]

new-more : (p : Point) (earlier ps : List Point) → new (p ∷ earlier) ps ≡ new earlier (filter (λ x. not (same_point p x)) ps)
new-more p earlier [] = refl
new-more p earlier (x ∷ ps) = rw (same_point-sym x p) (elim (same_point p x) as (λ b. cond (not (b || list_any (same_point x) earlier)) (x ∷ new (p ∷ earlier) ps) (new (p ∷ earlier) ps) ≡ new earlier (cond (not b) (x ∷ filter (λ x. not (same_point p x)) ps) (filter (λ x. not (same_point p x)) ps))) [
  | true ↦ new-more p earlier ps
  | false ↦ ap (λ l. cond (not (list_any (same_point x) earlier)) (x ∷ l) l) (new-more p earlier ps)
])

add : (earlier ps : List Point) → length ps ≡ length (new earlier (different ps)) + repeat_count earlier ps
add earlier [] = refl
add earlier (p ∷ rest) =
    let others = new earlier (filter (λ x. not (same_point p x)) (different rest)) in
    let h : length rest ≡ length others + repeat_count (p ∷ earlier) rest =
    add (p ∷ earlier) rest ∙ ap (λ l. length l + repeat_count (p ∷ earlier) rest) (new-more p earlier (different rest)) in
    elim (list_any (same_point p) earlier) as (λ b. suc (length rest) ≡ length (cond (not b) (p ∷ others) others) + ((if b then 1 else 0) + repeat_count (p ∷ earlier) rest)) [
      | true ↦ omega (arith, h)
      | false ↦ omega (arith, h)
    ]

new-none : (ps : List Point) → new [] ps ≡ ps
new-none [] = refl
new-none (p ∷ ps) = ap (λ l. p ∷ l) (new-none ps)

pub counts-add : (es : List Entry) → evaluations es ≡ distinct es + again es
counts-add es = add [] (points_of es) ∙ ap (λ l. length l + again es) (new-none (different (points_of es)))
