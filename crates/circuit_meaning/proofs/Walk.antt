-- The waveform of a window, walked from cell to cell.
use Rattle.std.proofs.Common.{◌≡◌, ℕ, suc, ◌+◌, ◌-◌, ◌<◌, ◌≤◌, Bool, true, false, if◌then◌else◌, cond, not, ◌||◌, ◌==◌, List, [], ◌∷◌, ◌++◌, map, Option, Some, None, refl, sym, ap, ◌∙◌, subst, arith, inl, inr, append_assoc}
use Rattle.std.proofs.lemmas.List.{append-nil}
use Rattle.std.proofs.lemmas.Bool.{cases_lt, cases_eq}
use borrow.Author.Tests.{ne_eqb, eq-eqb}
use Rattle.gate_values.specs.declared.Value.{Value}
use Rattle.gate_values.specs.Gates.{same_value}
use Rattle.valid_intervals.specs.Spans.{IsIn}
use Rattle.valid_intervals.specs.declared.Cell.{Cell}
use Rattle.circuit_meaning.specs.declared.Run.{Run}
use Rattle.circuit_meaning.specs.Circuit.{Circuit, IsCircuit}
use Rattle.circuit_meaning.specs.Forward.{value, wave}
use Rattle.circuit_meaning.specs.Cells.{span}
use Rattle.circuit_meaning.specs.Laws.{changes, new_run, AreCells, is_value, runs_along}
use Rattle.circuit_meaning.proofs.Steady.{cell-steady}
use Rattle.circuit_meaning.proofs.Cover.{cell-covers}
use Rattle.circuit_meaning.proofs.Waves.{wave-first, wave-empty, changes-add, changes-cell}

module _ (c : Circuit) (ok : IsCircuit c) (s : ℕ) where
  abbrev run_at : ℕ → Run
  run_at t = record { time = t; value = value c s t }

  abbrev changed : ℕ → Bool
  changed t = not (same_value (value c s t) (value c s (t - 1)))

  changes-one : (t : ℕ) → changes c s t 1 ≡ (if changed t then run_at t ∷ [] else [])
  changes-one t = elim (changed t) as (λ b. map run_at (cond b (t ∷ []) []) ≡ cond b (run_at t ∷ []) []) [ true ↦ refl | false ↦ refl ]

  wave-split : (a m k : ℕ) → wave c s a (a + suc (m + k)) ≡ wave c s a (a + suc m) ++ changes c s ((a + 1) + m) k
  wave-split a m k =
      wave-first c s a (m + k) ∙ ap (λ rest. run_at a ∷ rest) (changes-add c s (a + 1) m k)
      ∙ ap (λ front. front ++ changes c s ((a + 1) + m) k) (sym (wave-first c s a m))

  -- as far as the cell of t reaches there is no change after t
  changes-first : (t u : ℕ) → (span c s t).start ≤ t → t < u → u ≤ (span c s t).stop → changes c s t (u - t) ≡ changes c s t 1
  changes-first t u low some high =
      let n = u - (t + 1) in
      let parts : u - t ≡ 1 + n = omega arith in
      ap (changes c s t) parts ∙ changes-add c s t 1 n
      ∙ ap (λ rest. changes c s t 1 ++ rest) (changes-cell c s ok t (t + 1) n (omega arith) (omega arith)) ∙ append-nil (changes c s t 1)

  pub wave-grows : (a t u : ℕ) → a ≤ t → t ≤ c.horizon → t < u → u ≤ (span c s t).stop → wave c s a u ≡ wave c s a t ++ new_run c s a t
  wave-grows a t u low within some high =
      let inside : IsIn (span c s t) t = (cell-covers c ok t s within).inside in
      elim (cases_eq t a) [
        | inl e ↦
            let n = u - (a + 1) in
            let whole : u ≡ a + suc n = omega arith in
            let start : (span c s t).start < a + 1 = omega (arith, inside) in
            let one : new_run c s a t ≡ run_at a ∷ [] = rw (eq-eqb t a e) (ap (λ x. run_at x ∷ []) e) in
            ap (wave c s a) whole ∙ wave-first c s a n ∙ ap (λ rest. run_at a ∷ rest) (changes-cell c s ok t (a + 1) n start (omega arith))
            ∙ sym (ap (λ front. front ++ new_run c s a t) (wave-empty c s a t (omega arith)) ∙ one)
        | inr n ↦
            let m = t - (a + 1) in
            let whole : u ≡ a + suc (m + (u - t)) = omega arith in
            let front : a + suc m ≡ t = omega arith in
            let here : (a + 1) + m ≡ t = omega arith in
            let one : changes c s t 1 ≡ new_run c s a t = rw (ne_eqb t a n) (changes-one t) in
            ap (wave c s a) whole ∙ wave-split a m (u - t) ∙ ap (λ x. wave c s a x ++ changes c s ((a + 1) + m) (u - t)) front
            ∙ ap (λ x. wave c s a t ++ changes c s x (u - t)) here
            ∙ ap (λ rest. wave c s a t ++ rest) (changes-first t u (omega (arith, inside)) some high ∙ one)
      ]

  -- the value just before t, where the window has begun
  abbrev value_before : ℕ → ℕ → Option Value
  value_before a t = if t == a then None else Some (value c s (t - 1))

  run-first : (a t : ℕ) → (if is_value (value_before a t) (value c s t) then [] else run_at t ∷ []) ≡ new_run c s a t
  run-first a t = go (t == a) (same_value (value c s t) (value c s (t - 1))) refl
    where
      go : (b same : Bool) → same_value (value c s t) (value c s (t - 1)) ≡ same
          → (if is_value (if b then None else Some (value c s (t - 1))) (value c s t) then [] else run_at t ∷ []) ≡ (if b || not (same_value (value c s t) (value c s (t - 1))) then run_at t ∷ [] else [])
      go true same e = refl
      go false true e = rw e refl
      go false false e = rw e refl

  -- after the cell that reaches b there is none
  none_left : (b u : ℕ) (xs : List Cell) → b ≤ u → AreCells c s b u xs → xs ≡ []
  none_left b u [] h k = refl
  none_left b u (x ∷ xs) h k = absurd (omega (arith, k.0))

  module _ (a b : ℕ) (within : b ≤ c.horizon + 1) where
    at_cell : (rest : List Cell) (t : ℕ) → a ≤ t → t < b
        → ((u : ℕ) → a ≤ u → u ≤ b → AreCells c s b u rest → wave c s a b ≡ wave c s a u ++ runs_along (value_before a u) u rest)
        → AreCells c s b (span c s t).stop rest
        → wave c s a b ≡ wave c s a t ++ ((if is_value (value_before a t) (value c s t) then [] else run_at t ∷ []) ++ runs_along (Some (value c s t)) (span c s t).stop rest)
    at_cell rest t low high again h =
        let stop = (span c s t).stop in
        let more = runs_along (Some (value c s t)) stop rest in
        let inside : IsIn (span c s t) t = (cell-covers c ok t s (omega arith)).inside in
        elim (cases_lt b stop) [
          | inl l ↦
              let none : rest ≡ [] = none_left b stop rest (omega arith) h in
              let ends : more ≡ [] = ap (runs_along (Some (value c s t)) stop) none in
              wave-grows a t b low (omega arith) high (omega arith)
              ∙ ap (λ r. wave c s a t ++ r) (sym (run-first a t) ∙ sym (ap (λ r. (if is_value (value_before a t) (value c s t) then [] else run_at t ∷ []) ++ r) ends ∙ append-nil _))
          | inr l ↦
              let last : IsIn (span c s t) (stop - 1) = record { low = omega (arith, inside); high = omega (arith, inside) } in
              let other : (stop ≡ a) → ⊥ = λ e. omega (arith, inside) in
              let before : value_before a stop ≡ Some (value c s t) = rw (ne_eqb stop a other) (ap Some (cell-steady c ok t s (stop - 1) last).value) in
              again stop (omega (arith, inside)) l h
              ∙ ap (λ o. wave c s a stop ++ runs_along o stop rest) before
              ∙ ap (λ w. w ++ more) (wave-grows a t stop low (omega arith) (omega (arith, inside)) (omega arith))
              ∙ append_assoc (wave c s a t) (new_run c s a t) more
              ∙ ap (λ r. wave c s a t ++ (r ++ more)) (sym (run-first a t))
        ]

    walk : (xs : List Cell) (t : ℕ) → a ≤ t → t ≤ b → AreCells c s b t xs → wave c s a b ≡ wave c s a t ++ runs_along (value_before a t) t xs
    walk [] t low high h = let e : b ≡ t = omega arith in ap (wave c s a) e ∙ sym (append-nil (wave c s a t))
    walk (x ∷ rest) t low high h =
        subst (λ y. AreCells c s b y.span.stop rest → wave c s a b ≡ wave c s a t ++ ((if is_value (value_before a t) y.value then [] else record { time = t; value = y.value } ∷ []) ++ runs_along (Some y.value) y.span.stop rest))
        (sym h.1) (at_cell rest t low h.0 (walk rest)) h.2

  pub cells-fix : (a b : ℕ) (xs : List Cell) → b ≤ c.horizon + 1 → AreCells c s b a xs → wave c s a b ≡ runs_along None a xs
  cells-fix a b xs within h = elim (cases_lt a b) [
    | inl l ↦
        let first : value_before a a ≡ None = rw (eq-eqb a a refl) refl in
        walk a b within xs a (omega arith) (omega arith) h
        ∙ ap (λ w. w ++ runs_along (value_before a a) a xs) (wave-empty c s a a (omega arith)) ∙ ap (λ o. runs_along o a xs) first
    | inr l ↦ let none : xs ≡ [] = none_left b a xs l h in wave-empty c s a b l ∙ sym (ap (runs_along None a) none)
  ]
