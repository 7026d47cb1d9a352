-- A wave is its first value and the changes after it, and there is no change inside a cell.
use Rattle.std.proofs.Common.{◌≡◌, ℕ, zero, suc, ◌+◌, ◌-◌, ◌<◌, ◌≤◌, Bool, true, false, cond, not, ◌||◌, ◌==◌, List, [], ◌∷◌, ◌++◌, map, filter, refl, sym, ap, ◌∙◌, subst, inl, inr, arith, zero-add, add-zero, suc-add}
use Rattle.std.specs.List.{range_with_len}
use Rattle.std.proofs.lemmas.Bool.{cases_lt}
use borrow.Author.Tests.{ne_eqb, eq-eqb}
use Rattle.std.proofs.lemmas.List.Elements.{filter-append}
use Rattle.std.proofs.lemmas.List.{map-append}
use Rattle.gate_values.specs.Gates.{same_value}
use Rattle.gate_values.proofs.Callers.{same_itself, same_is, other_is}
use Rattle.circuit_meaning.specs.Circuit.{Circuit, IsCircuit}
use Rattle.circuit_meaning.specs.Laws.{changes, WavesAreChanges, GoOn, AreMaximal}
use Rattle.circuit_meaning.specs.Cells.{span}
use Rattle.circuit_meaning.proofs.Steady.{cell-steady}
use Rattle.circuit_meaning.specs.Forward.{value, wave}
use Rattle.circuit_meaning.specs.declared.Run.{Run}

-- whether the value changes at t, and the changes from a on, n times long
abbrev changed : Circuit → ℕ → ℕ → Bool
changed c s t = not (same_value (value c s t) (value c s (t - 1)))

module _ (c : Circuit) (s : ℕ) where
  later_times : (a k n : ℕ) → a < k → filter (λ t. (t == a) || changed c s t) (range_with_len k n) ≡ filter (changed c s) (range_with_len k n)
  later_times a k zero h = refl
  later_times a k (suc n) h = rw (ne_eqb k a (λ e. omega arith)) (ap (λ rest. cond (changed c s k) (k ∷ rest) rest) (later_times a (k + 1) n (omega arith)))

  pub no_changes : (a n : ℕ) → ((t : ℕ) → a ≤ t → t < a + n → value c s t ≡ value c s (t - 1)) → filter (changed c s) (range_with_len a n) ≡ []
  no_changes a zero h = refl
  no_changes a (suc n) h = rw (h a (omega arith) (omega arith), same_itself (value c s (a - 1))) (no_changes (a + 1) n (λ t low high. h t (omega arith) (omega arith)))

  pub wave-first : (a n : ℕ) → wave c s a (a + suc n) ≡ record { time = a; value = value c s a } ∷ changes c s (a + 1) n
  unfolding wave
  wave-first a n =
      let whole : (a + suc n) - a ≡ suc n = omega arith in
      let point : ℕ → Run = λ t. record { time = t; value = value c s t } in
      let test : ℕ → Bool = λ t. (t == a) || changed c s t in
      ap (λ k. map point (filter test (range_with_len a k))) whole
      ∙ rw (eq-eqb a a refl) (ap (λ ts. point a ∷ map point ts) (later_times a (a + 1) n (omega arith)))

  -- the changes of one stretch after those of another
  range-add : (a m n : ℕ) → range_with_len a (m + n) ≡ range_with_len a m ++ range_with_len (a + m) n
  range-add a zero n = rw (zero-add, add-zero)
  range-add a (suc m) n = ap (range_with_len a) (suc-add m n) ∙ ap (λ rest. a ∷ rest) (range-add (a + 1) m n ∙ ap (λ k. range_with_len (a + 1) m ++ range_with_len k n) (omega arith))

  pub changes-add : (a m n : ℕ) → changes c s a (m + n) ≡ changes c s a m ++ changes c s (a + m) n
  changes-add a m n =
      let point : ℕ → Run = λ t. record { time = t; value = value c s t } in
      ap (λ ts. map point (filter (changed c s) ts)) (range-add a m n)
      ∙ ap (map point) (filter-append (changed c s) (range_with_len a m) (range_with_len (a + m) n)) ∙ map-append point _ _

  -- there is no change inside a cell
  pub changes-cell : IsCircuit c → (t a n : ℕ) → (span c s t).start < a → a + n ≤ (span c s t).stop → changes c s a n ≡ []
  changes-cell ok t a n low high =
      ap (map (λ t. record { time = t; value = value c s t }))
      (no_changes a n (λ x l h. (cell-steady c ok t s x (record { low = omega arith; high = omega arith })).value ∙ sym (cell-steady c ok t s (x - 1) (record { low = omega arith; high = omega arith })).value))

  pub wave-empty : (a b : ℕ) → b ≤ a → wave c s a b ≡ []
  unfolding wave
  wave-empty a b h =
      let none : b - a ≡ 0 = omega arith in
      ap (λ k. map (λ t. record { time = t; value = value c s t }) (filter (λ t. (t == a) || changed c s t) (range_with_len a k))) none

  pub waves-are : WavesAreChanges c s
  waves-are = record { first = wave-first; empty = wave-empty; follow = changes-add; inside = changes-cell }

module _ (c : Circuit) (s : ℕ) where
  -- the changes go on from a run that has the value just before them
  changes-go_on : (r : Run) (k n : ℕ) → r.time < k → r.value ≡ value c s (k - 1) → GoOn r (changes c s k n)
  changes-go_on r k zero low same = tt
  changes-go_on r k (suc n) low same = go (λ x l e. changes-go_on x (k + 1) n l e) (same_value (value c s k) (value c s (k - 1))) refl
    where
      run_at : ℕ → Run
      run_at t = record { time = t; value = value c s t }

      rest : List ℕ
      rest = filter (changed c s) (range_with_len (k + 1) n)

      back : k ≡ (k + 1) - 1
      back = omega arith

      go : ((x : Run) → x.time < k + 1 → x.value ≡ value c s ((k + 1) - 1) → GoOn x (map run_at rest))
          → (b : Bool) → same_value (value c s k) (value c s (k - 1)) ≡ b → GoOn r (map run_at (cond (not b) (k ∷ rest) rest))
      go again true e = again r (omega arith) (same ∙ sym (same_is (value c s k) (value c s (k - 1)) e) ∙ ap (value c s) back)
      go again false e = (low, λ h. other_is (value c s k) (value c s (k - 1)) e (h ∙ same), again (run_at k) (omega arith) (ap (value c s) back))

  pub waves-maximal : (a b : ℕ) → AreMaximal (wave c s a b)
  waves-maximal a b = elim (cases_lt a b) [
    | inl l ↦
        let n = b - (a + 1) in
        let whole : a + suc n ≡ b = omega arith in
        let here : a ≡ (a + 1) - 1 = omega arith in
        subst (λ x. AreMaximal (wave c s a x)) whole
        (subst AreMaximal (sym (wave-first c s a n)) (changes-go_on (record { time = a; value = value c s a }) (a + 1) n (omega arith) (ap (value c s) here)))
    | inr l ↦ subst AreMaximal (sym (wave-empty c s a b l)) tt
  ]
