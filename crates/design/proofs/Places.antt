-- What signals have, kept one after another: where it stands.
use Rattle.std.proofs.Common.{◌≡◌, ℕ, zero, suc, ◌+◌, ◌-◌, ◌<◌, ◌≤◌, Bool, true, false, cond, List, [], ◌∷◌, ◌++◌, length, get_or, take, drop, refl, sym, ap, ap₂, ◌∙◌, subst, arith, inl, inr}
use Rattle.std.proofs.lemmas.Bool.{cases_lt}
use Rattle.std.proofs.lemmas.List.{length-append, drop_at, take_all, drop-append-le, take-append-le, length-drop, get_or-take, get_or-drop}
use Rattle.std.proofs.Math.ListN.{get_or-append}
use Rattle.std.proofs.Math.Seq.{get_or-append_seam}
use Rattle.bench_reader.specs.Netlists as netlists
use Rattle.design.specs.Join.{driver_at, is_input}
use Rattle.design.specs.inner.Said.{of_first, input_at, inputs_in}

-- what was appended to a list
pub appended-is : {A : Type 0} (all before more : List A) (n : ℕ) → n ≡ length before → all ≡ before ++ more → take (length all - n) (drop n all) ≡ more
appended-is {A} all before more n e is =
    ap₂ (λ (m : ℕ) (xs : List A). take (length xs - m) (drop m xs)) e is ∙ ap (take (length (before ++ more) - length before)) (drop_at before more (length before) refl)
    ∙ take_all (length (before ++ more) - length before) more (let long = length-append before more in omega (arith, long))

module _ {A : Type 0} (has : ℕ → List A) where
  pub first-more : (n : ℕ) → of_first has (n + 1) ≡ of_first has n ++ has n
  first-more n = let on : n + 1 ≡ suc n = omega arith in ap (of_first has) on

  -- what a signal has stands before what the later ones have
  pub within : (n s : ℕ) → s < n → length (of_first has s) + length (has s) ≤ length (of_first has n)
  within zero s l = absurd (omega arith)
  within (suc n) s l = elim (cases_lt s n) [
    | inl k ↦ let h = within n s k in let more = length-append (of_first has n) (has n) in omega (arith, h, more)
    | inr k ↦
        let same : s ≡ n = omega arith in
        subst (λ m. length (of_first has m) + length (has m) ≤ length (of_first has (suc n))) (sym same) (let more = length-append (of_first has n) (has n) in omega (arith, more))
  ]

  -- what a signal has stands after what those before it have
  pub stands : (n s : ℕ) → s < n → take (length (has s)) (drop (length (of_first has s)) (of_first has n)) ≡ has s
  stands zero s l = absurd (omega arith)
  stands (suc n) s l = elim (cases_lt s n) [
    | inl k ↦
        let fits = within n s k in
        ap (take (length (has s))) (drop-append-le (length (of_first has s)) (of_first has n) (has n) (omega (arith, fits)))
        ∙ take-append-le (length (has s)) (drop (length (of_first has s)) (of_first has n)) (has n) (rw (length-drop (length (of_first has s)) (of_first has n)) (omega (arith, fits)))
        ∙ stands n s k
    | inr k ↦
        let same : s ≡ n = omega arith in
        subst (λ m. take (length (has m)) (drop (length (of_first has m)) (of_first has (suc n))) ≡ has m) (sym same)
        (ap (take (length (has n))) (drop_at (of_first has n) (has n) (length (of_first has n)) refl) ∙ take_all (length (has n)) (has n) (omega arith))
  ]

  -- what a signal has alone
  module _ (n s : ℕ) (l : s < n) (x : A) (alone : has s ≡ x ∷ []) where
    pub one-within : length (of_first has s) < length (of_first has n)
    one-within = let h = within n s l in let one = ap length alone in omega (arith, h, one)

    pub one-stands : (d : A) → get_or (of_first has n) (length (of_first has s)) d ≡ x
    one-stands d =
        let all = of_first has n in
        let place = length (of_first has s) in
        let end : place + 0 ≡ place = omega arith in
        ap (λ p. get_or all p d) (sym end) ∙ sym (get_or-drop place all 0 d) ∙ sym (get_or-take (length (has s)) (drop place all) 0 d (let one = ap length alone in omega (arith, one)))
        ∙ ap (λ xs. get_or xs 0 d) (stands n s l ∙ alone)

module _ (netlist : netlists.Content) where
  -- an input, and how many stand before it
  abbrev pub IsPlaced : ℕ → ℕ → ℕ → Type 0
  IsPlaced n k s = (s < n) × (is_input (driver_at netlist s) ≡ true) × (k ≡ length (inputs_in netlist s))

  pub alone-at : (s : ℕ) → is_input (driver_at netlist s) ≡ true → input_at netlist s ≡ s ∷ []
  alone-at s e = ap (λ b. cond b (s ∷ []) []) e

  -- not more inputs than signals
  pub inputs-few : (n : ℕ) → length (inputs_in netlist n) ≤ n
  inputs-few zero = omega arith
  inputs-few (suc n) = let long = length-append (inputs_in netlist n) (input_at netlist n) in let most = inputs-few n in let one = at-most (is_input (driver_at netlist n)) in omega (arith, long, most, one)
    where
      at-most : (b : Bool) → length (cond b (n ∷ []) []) ≤ 1
      at-most true = omega arith
      at-most false = omega arith

  -- each entry of the list is an input at its place
  pub placed-at : (n k : ℕ) → k < length (inputs_in netlist n) → IsPlaced n k (get_or (inputs_in netlist n) k 0)
  placed-at zero k l = absurd (omega arith)
  placed-at (suc n) k l = elim (cases_lt k (length (inputs_in netlist n))) [
    | inl m ↦
        let old = placed-at n k m in
        subst (IsPlaced (suc n) k) (sym (get_or-append (inputs_in netlist n) (input_at netlist n) 0 k m)) (let below = old.0 in omega (arith, below), old.1, old.2)
    | inr m ↦ last (is_input (driver_at netlist n)) refl m
  ]
    where
      last : (b : Bool) → is_input (driver_at netlist n) ≡ b → length (inputs_in netlist n) ≤ k → IsPlaced (suc n) k (get_or (inputs_in netlist n ++ input_at netlist n) k 0)
      last true e m =
          let one = ap length (alone-at n e) in
          let long = length-append (inputs_in netlist n) (input_at netlist n) in
          let same : k ≡ length (inputs_in netlist n) = omega (arith, l, m, one, long) in
          let is : get_or (inputs_in netlist n ++ input_at netlist n) k 0 ≡ n =
          ap (λ p. get_or (inputs_in netlist n ++ input_at netlist n) p 0) same ∙ ap (λ xs. get_or (inputs_in netlist n ++ xs) (length (inputs_in netlist n)) 0) (alone-at n e)
          ∙ get_or-append_seam (inputs_in netlist n) n [] 0 in
          subst (IsPlaced (suc n) k) (sym is) (omega arith, e, same)
      last false e m =
          let none = ap (λ b. length (cond b (n ∷ []) [])) e in
          let long = length-append (inputs_in netlist n) (input_at netlist n) in
          absurd (omega (arith, l, m, none, long))

  -- two inputs are different where their places are
  pub places-differ : (n j k : ℕ) → j < length (inputs_in netlist n) → k < length (inputs_in netlist n) → get_or (inputs_in netlist n) j 0 ≡ get_or (inputs_in netlist n) k 0 → j ≡ k
  places-differ n j k a b e = (placed-at n j a).2 ∙ ap (λ s. length (inputs_in netlist s)) e ∙ sym (placed-at n k b).2
