-- Each move keeps the rule of the queue.
use Rattle.std.proofs.Common.{◌≡◌, ◌≢◌, ⊎_elim, subst, true, false, true≢false, ℕ, zero, suc, List, [], ◌∷◌, ◌++◌, set, sym, refl, ap, ◌∙◌, append_assoc, append-nil}
use Rattle.std.specs.Prelude.{IsPermutation}
use Rattle.std.specs.List.{flat_map}
use Rattle.std.proofs.lemmas.List.Sorted.{IsPermutation-sym, IsPermutation-trans, IsPermutation-cons, IsPermutation-middle, IsPermutation-append_left, IsPermutation-append_right, IsPermutation-to_front}
use Rattle.std.proofs.lemmas.Grind.{flat_map-append}
use mathlib.Core.Option.{some, some-ne-none, some-injective}
use lib.ListN.{get_elem?}
use Rattle.crossbeam_queue.specs.Fifo.{Pushes, Pops, Forks, Learns}
use Rattle.crossbeam_queue.proofs.Lists.{at_set, at_snoc}
use Rattle.ready_queue.specs.declared.History.{History}
use Rattle.ready_queue.specs.History.{history, all_pushed, all_popped, IsKept, IsKeptBeside}

module _ {X T : Type 0} (f : X → List T) where
  -- the joined lists after one element's list has grown by x
  more_at : (xs : List X) (k : ℕ) (v w : X) (x : T) → get_elem? xs k ≡ some v → f w ≡ f v ++ x ∷ [] → IsPermutation (flat_map f (set xs k w)) (x ∷ flat_map f xs)
  more_at [] k v w x at grown = absurd (some-ne-none v (sym at))
  more_at (u ∷ xs) zero v w x at grown =
      let same : u ≡ v = some-injective u v at in
      let split : (f v ++ x ∷ []) ++ flat_map f xs ≡ f v ++ (x ∷ flat_map f xs) = append_assoc (f v) (x ∷ []) (flat_map f xs) in
      subst (λ l. IsPermutation (l ++ flat_map f xs) (x ∷ (f u ++ flat_map f xs))) (sym grown)
      (subst (λ l. IsPermutation l (x ∷ (f u ++ flat_map f xs))) (sym split)
      (subst (λ (y : X). IsPermutation (f v ++ (x ∷ flat_map f xs)) (x ∷ (f y ++ flat_map f xs))) (sym same)
      (IsPermutation-middle (f v) x (flat_map f xs))))
  more_at (u ∷ xs) (suc k) v w x at grown =
      IsPermutation-trans (f u ++ flat_map f (set xs k w)) (f u ++ (x ∷ flat_map f xs)) (x ∷ (f u ++ flat_map f xs))
      (IsPermutation-append_right (f u) (flat_map f (set xs k w)) (x ∷ flat_map f xs) (more_at xs k v w x at grown))
      (IsPermutation-middle (f u) x (flat_map f xs))

  -- the joined lists are the same where the element's list is
  same_at : (xs : List X) (k : ℕ) (v w : X) → get_elem? xs k ≡ some v → f w ≡ f v → flat_map f (set xs k w) ≡ flat_map f xs
  same_at [] k v w at same = absurd (some-ne-none v (sym at))
  same_at (u ∷ xs) zero v w at same = ap (λ l. l ++ flat_map f xs) (same ∙ ap f (sym (some-injective u v at)))
  same_at (u ∷ xs) (suc k) v w at same = ap (λ l. f u ++ l) (same_at xs k v w at same)

-- a list of one has its one element at one place
only_one : {X : Type 0} (v u : X) (k : ℕ) → get_elem? (v ∷ []) k ≡ some u → (k ≡ 0) × (v ≡ u)
only_one v u zero at = (refl, some-injective v u at)
only_one v u (suc k) at = absurd (some-ne-none u (sym at))

module _ {T : Type 0} where
  -- that a pass is the only one stays, where the pass that moves keeps that it is or is not
  only_set : (passes : List (History T)) (number : ℕ) (v w : History T) → get_elem? passes number ≡ some v → w.only ≡ v.only
      → ((k : ℕ) (u : History T) → get_elem? passes k ≡ some u → u.only ≡ true → passes ≡ u ∷ [])
      → (k : ℕ) (u : History T) → get_elem? (set passes number w) k ≡ some u → u.only ≡ true → set passes number w ≡ u ∷ []
  only_set passes number v w at same old k u here sure =
      ⊎_elim
      (λ (moved : (k ≡ number) × (w ≡ u)).
      let alone : passes ≡ v ∷ [] = old number v at (sym same ∙ ap (λ (y : History T). y.only) moved.1 ∙ sure) in
      let first : number ≡ 0 = (only_one v v number (subst (λ (l : List (History T)). get_elem? l number ≡ some v) alone at)).0 in
      subst (λ (y : History T). set passes number w ≡ y ∷ []) moved.1
      (subst (λ n. set passes n w ≡ w ∷ []) (sym first) (subst (λ (l : List (History T)). set l 0 w ≡ w ∷ []) (sym alone) refl)))
      (λ (other : (k ≢ number) × (get_elem? passes k ≡ some u)).
      let alone : passes ≡ u ∷ [] = old k u other.1 sure in
      let here : k ≡ 0 = (only_one u u k (subst (λ (l : List (History T)). get_elem? l k ≡ some u) alone other.1)).0 in
      let there : number ≡ 0 = (only_one u v number (subst (λ (l : List (History T)). get_elem? l number ≡ some v) alone at)).0 in
      absurd (other.0 (here ∙ sym there)))
      (at_set passes number k w u here)

  pub pushes : (n number : ℕ) (v : History T) (x : T) → Pushes IsKept n number v x (λ w. w ≡ history (v.pushed ++ x ∷ []) v.popped v.only)
  pushes n number v x items passes room kept at =
      let w : History T = history (v.pushed ++ x ∷ []) v.popped v.only in
      let pushed : IsPermutation (all_pushed (set passes number w)) (x ∷ all_pushed passes) = more_at (λ (p : History T). p.pushed) passes number v w x at refl in
      let popped : all_popped (set passes number w) ≡ all_popped passes = same_at (λ (p : History T). p.popped) passes number v w at refl in
      let front : IsPermutation (x ∷ all_pushed passes) (x ∷ (all_popped passes ++ items)) = IsPermutation-cons x (all_pushed passes) (all_popped passes ++ items) kept.none_lost in
      let back : IsPermutation (x ∷ (all_popped passes ++ items)) ((all_popped passes ++ items) ++ x ∷ []) = IsPermutation-sym ((all_popped passes ++ items) ++ x ∷ []) (x ∷ (all_popped passes ++ items)) (IsPermutation-to_front (all_popped passes ++ items) x) in
      let all : IsPermutation (all_pushed (set passes number w)) ((all_popped passes ++ items) ++ x ∷ []) = IsPermutation-trans (all_pushed (set passes number w)) (x ∷ all_pushed passes) ((all_popped passes ++ items) ++ x ∷ []) pushed (IsPermutation-trans (x ∷ all_pushed passes) (x ∷ (all_popped passes ++ items)) ((all_popped passes ++ items) ++ x ∷ []) front back) in (
        w,
        record {
          none_lost = subst (λ (l : List T). IsPermutation (all_pushed (set passes number w)) (l ++ (items ++ x ∷ []))) (sym popped)
              (subst (λ (l : List T). IsPermutation (all_pushed (set passes number w)) l) (append_assoc (all_popped passes) items (x ∷ [])) all);
          only = only_set passes number v w at refl kept.only;
        },
        refl,
      )

  pub pops : (number : ℕ) (v : History T) → Pops IsKept number v (λ x w. w ≡ history v.pushed (v.popped ++ x ∷ []) v.only)
  pops number v x items passes kept at =
      let w : History T = history v.pushed (v.popped ++ x ∷ []) v.only in
      let pushed : all_pushed (set passes number w) ≡ all_pushed passes = same_at (λ (p : History T). p.pushed) passes number v w at refl in
      let popped : IsPermutation (all_popped (set passes number w)) (x ∷ all_popped passes) = more_at (λ (p : History T). p.popped) passes number v w x at refl in
      let front : IsPermutation (all_popped passes ++ (x ∷ items)) (x ∷ (all_popped passes ++ items)) = IsPermutation-middle (all_popped passes) x items in
      let back : IsPermutation (x ∷ (all_popped passes ++ items)) (all_popped (set passes number w) ++ items) = IsPermutation-append_left items (x ∷ all_popped passes) (all_popped (set passes number w)) (IsPermutation-sym (all_popped (set passes number w)) (x ∷ all_popped passes) popped) in (
        w,
        record {
          none_lost = subst (λ (l : List T). IsPermutation l (all_popped (set passes number w) ++ items)) (sym pushed)
              (IsPermutation-trans (all_pushed passes) (all_popped passes ++ (x ∷ items)) (all_popped (set passes number w) ++ items) kept.none_lost
              (IsPermutation-trans (all_popped passes ++ (x ∷ items)) (x ∷ (all_popped passes ++ items)) (all_popped (set passes number w) ++ items) front back));
          only = only_set passes number v w at refl kept.only;
        },
        refl,
      )

  -- another pass: neither is the only one afterwards
  pub forks : (number : ℕ) (v : History T) → Forks IsKept number v (history v.pushed v.popped false) (history [] [] false)
  forks number v items passes kept at =
      let w : History T = history v.pushed v.popped false in
      let fresh : History T = history [] [] false in
      let pushed : all_pushed (set passes number w ++ fresh ∷ []) ≡ all_pushed passes =
      flat_map-append (λ (p : History T). p.pushed) (set passes number w) (fresh ∷ []) ∙ append-nil (all_pushed (set passes number w)) ∙ same_at (λ (p : History T). p.pushed) passes number v w at refl in
      let popped : all_popped (set passes number w ++ fresh ∷ []) ≡ all_popped passes =
      flat_map-append (λ (p : History T). p.popped) (set passes number w) (fresh ∷ []) ∙ append-nil (all_popped (set passes number w)) ∙ same_at (λ (p : History T). p.popped) passes number v w at refl in
      record {
        none_lost = subst (λ (l : List T). IsPermutation l (all_popped (set passes number w ++ fresh ∷ []) ++ items)) (sym pushed)
            (subst (λ (l : List T). IsPermutation (all_pushed passes) (l ++ items)) (sym popped) kept.none_lost);
        only = λ k u here sure.
            ⊎_elim
            (λ (old : get_elem? (set passes number w) k ≡ some u).
            ⊎_elim
            (λ (moved : (k ≡ number) × (w ≡ u)). absurd (true≢false (sym sure ∙ ap (λ (p : History T). p.only) (sym moved.1))))
            (λ (other : (k ≢ number) × (get_elem? passes k ≡ some u)).
            let alone : passes ≡ u ∷ [] = kept.only k u other.1 sure in
            let first : k ≡ 0 = (only_one u u k (subst (λ (l : List (History T)). get_elem? l k ≡ some u) alone other.1)).0 in
            let there : number ≡ 0 = (only_one u v number (subst (λ (l : List (History T)). get_elem? l number ≡ some v) alone at)).0 in
            absurd (other.0 (first ∙ sym there)))
            (at_set passes number k w u old))
            (λ (new : fresh ≡ u). absurd (true≢false (sym sure ∙ ap (λ (p : History T). p.only) (sym new))))
            (at_snoc (set passes number w) fresh u k here);
      }

  pub learns : (number : ℕ) (v : History T) → Learns IsKept number v (IsKeptBeside v)
  learns number v items passes kept at = (passes, number, at, kept)
