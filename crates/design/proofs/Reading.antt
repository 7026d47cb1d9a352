-- The readers of each signal, one reader after another.
use Rattle.std.proofs.Common.{◌≡◌, ℕ, ◌+◌, ◌<◌, Bool, true, false, ◌&&◌, ◌||◌, eqb-true, eq-eqb, List, [], ◌∷◌, ◌++◌, length, take, get_or, set, refl, sym, ap, ◌∙◌, subst, arith, inl, inr, length-set}
use Rattle.std.specs.Prelude.{nat_eq}
use Rattle.std.specs.List.{AllByRecursion}
use Rattle.std.proofs.lemmas.Bool.{cases_lt, or_left, or_right}
use Rattle.std.proofs.lemmas.List.{get_or-set_same, get_or-set_other, get_or_past, take_more}
use Rattle.std.proofs.lemmas.List.Elements.{All-from_recursion}
use Rattle.std.proofs.lemmas.List.Folds.{list_any-append}
use Rattle.circuit_meaning.specs.Circuit.{Circuit, Input, driver, read_by}
use Rattle.design.specs.inner.Walk.{has, list_at, AddsReader, ReadIt}

pub adds-none : (reader : ℕ) (lists : List (List ℕ)) → AddsReader reader [] lists lists
adds-none reader lists = record { long = refl; each = λ u x l. none (has (list_at lists u) x) (nat_eq x reader) }
  where
    none : (a b : Bool) → a ≡ (a || b && false)
    none true b = refl
    none false true = refl
    none false false = refl

-- one signal more that the reader reads
pub adds-more : (reader : ℕ) (reads : List ℕ) (r : ℕ) (was lists : List (List ℕ)) → AddsReader reader reads was lists → r < length was → AddsReader reader (reads ++ r ∷ []) was (set lists r (reader ∷ list_at lists r))
adds-more reader reads r was lists adds l = record {
  long = length-set lists r (reader ∷ list_at lists r) ∙ adds.long;
  each = λ u x m. go u x m (nat_eq u r) refl;
}
  where
    within : r < length lists
    within = let e = adds.long in omega (arith, e, l)

    here : (a p q : Bool) → (p || (a || p && q)) ≡ (a || p && (q || (true || false)))
    here true true q = refl
    here true false q = refl
    here false true true = refl
    here false true false = refl
    here false false q = refl

    there : (a p q : Bool) → (a || p && q) ≡ (a || p && (q || (false || false)))
    there true p q = refl
    there false true true = refl
    there false true false = refl
    there false false q = refl

    more : (u : ℕ) → has (reads ++ r ∷ []) u ≡ (has reads u || (nat_eq u r || false))
    more u = list_any-append (nat_eq u) reads (r ∷ [])

    go : (u x : ℕ) → u < length was → (c : Bool) → nat_eq u r ≡ c → has (list_at (set lists r (reader ∷ list_at lists r)) u) x ≡ (has (list_at was u) x || nat_eq x reader && has (reads ++ r ∷ []) u)
    go u x m true h =
        let same : u ≡ r = eqb-true u r h in
        ap (λ k. has (list_at (set lists r (reader ∷ list_at lists r)) k) x) same ∙ ap (λ xs. has xs x) (get_or-set_same lists r (reader ∷ list_at lists r) [] within)
        ∙ ap (λ k. nat_eq x reader || has (list_at lists k) x) (sym same)
        ∙ ap (λ a. nat_eq x reader || a) (adds.each u x m)
        ∙ here (has (list_at was u) x) (nat_eq x reader) (has reads u)
        ∙ sym (ap (λ q. has (list_at was u) x || nat_eq x reader && q) (more u ∙ ap (λ e. has reads u || (e || false)) h))
    go u x m false h =
        let away : u ≡ r → ⊥ = λ e. absurd (let k = sym h ∙ eq-eqb u r e in cc k) in
        ap (λ xs. has xs x) (get_or-set_other lists r u (reader ∷ list_at lists r) [] away) ∙ adds.each u x m
        ∙ there (has (list_at was u) x) (nat_eq x reader) (has reads u)
        ∙ sym (ap (λ q. has (list_at was u) x || nat_eq x reader && q) (more u ∙ ap (λ e. has reads u || (e || false)) h))

-- the reader stands in the lists of the first i of these and of one more
pub adds-next : (reader : ℕ) (reads : List ℕ) (i : ℕ) (was lists lists' : List (List ℕ)) → AddsReader reader (take i reads) was lists → get_or reads i 0 < length was → i < length reads
    → lists' ≡ set lists (get_or reads i 0) (reader ∷ list_at lists (get_or reads i 0)) → AddsReader reader (take (i + 1) reads) was lists'
adds-next reader reads i was lists lists' adds l in' e =
    subst (λ ys. AddsReader reader (take (i + 1) reads) was ys) (sym e)
    (subst (λ xs. AddsReader reader xs was (set lists (get_or reads i 0) (reader ∷ list_at lists (get_or reads i 0)))) (sym (take_more reads i 0 in')) (adds-more reader (take i reads) (get_or reads i 0) was lists adds l))

-- what holds of each x that a list has, holds of all its items
all-has : (P : ℕ → Type 0) (xs : List ℕ) → ((x : ℕ) → has xs x ≡ true → P x) → AllByRecursion P xs
all-has P [] h = tt
all-has P (y ∷ ys) h = (h y (or_left (nat_eq y y) (has ys y) (eq-eqb y y refl)), all-has P ys (λ x k. h x (or_right (nat_eq x y) (has ys x) k)))

-- what reads a signal is a signal
pub read-it : (c : Circuit) (u : ℕ) (readers : List ℕ) → ((x : ℕ) → has readers x ≡ has (read_by (driver c x)) u) → ReadIt c u readers
read-it c u readers each = record {
  each = each;
  within = All-from_recursion (λ x. x < length c.drivers) readers (all-has (λ x. x < length c.drivers) readers (λ x h. elim (cases_lt x (length c.drivers)) [
    | inl k ↦ k
    | inr k ↦
        let none : driver c x ≡ Input [] = get_or_past c.drivers x (Input []) (omega (arith, k)) in
        let reads : has (read_by (driver c x)) u ≡ true = sym (each x) ∙ h in
        let nothing : has (read_by (driver c x)) u ≡ false = ap (λ d. has (read_by d) u) none in
        absurd (cc (reads, nothing))
  ]));
}
