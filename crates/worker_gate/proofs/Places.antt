-- Places that change, with their tasks and counts.
use Rattle.std.proofs.Common.{◌≡◌, ◌≢◌, ℕ, zero, suc, true, List, [], ◌∷◌, ◌++◌, refl, set, length, Option, Some, None, slice_get, get_or, inl, inr, ⊎_elim, sym, ap, subst, arith, ◌⊎◌, All, rules, eqb, ◌&&◌, ◌+◌}
use Rattle.std.proofs.lemmas.List.Sums.{sum_by-set, get_or-le-sum_by}
use Rattle.std.proofs.lemmas.Option.{slice_get_within, get_or_from_slice_get}
use Rattle.demand_points.specs.declared.strand.Task.{Task}
use Rattle.demand_points.specs.Demands.{Demand}
use Rattle.std.specs.Bool.{Decides}
use Rattle.plan_machine.specs.Strands.{next}
use Rattle.plan_machine.specs.declared.strand.Next.TheVariants.{Done}
use Rattle.plan_core.specs.InTurn.{task_of}
use Rattle.worker_gate.specs.Ends.{HasEnded, HaveEnded, AreEnds, AreCounted, AreFilled, one_if_empty, empty_in}

pub read_set : {X : Type 0} (xs : List X) (n i : ℕ) (y z : X) → slice_get (set xs n y) i ≡ Some z → ((i ≡ n) × (y ≡ z)) ⊎ ((i ≢ n) × (slice_get xs i ≡ Some z))
read_set [] n i y z e = absurd (cc)
read_set (x ∷ xs) zero zero y z e = inl (refl, cc)
read_set (x ∷ xs) zero (suc i) y z e = inr ((λ h. omega arith), e)
read_set (x ∷ xs) (suc n) zero y z e = inr ((λ h. omega arith), e)
read_set (x ∷ xs) (suc n) (suc i) y z e = ⊎_elim (λ (h : (i ≡ n) × (y ≡ z)). inl (ap suc h.0, h.1)) (λ (h : (i ≢ n) × (slice_get xs i ≡ Some z)). inr ((λ k. h.0 (omega arith)), h.1)) (read_set xs n i y z e)

-- a strand may be put where it is one that has ended there
pub ended_put : (places : List (Option Demand)) (tasks : List Task) (s : Demand) → HaveEnded places tasks
    → ((t : Task) → slice_get tasks s.number ≡ Some t → HasEnded s s.number t) → HaveEnded (set places s.number (Some s)) tasks
ended_put places tasks s old new i u t at task =
    ⊎_elim
    (λ (h : (i ≡ s.number) × (Some s ≡ Some u)).
    let same : s ≡ u = let e = h.1 in cc in
    let R : ℕ → Type 0 = λ k. slice_get tasks k ≡ Some t → HasEnded s k t in
    let Q : Demand → Type 0 = λ w. HasEnded w i t in
    subst Q same (subst R (sym h.0) (new t) task))
    (λ (h : (i ≢ s.number) × (slice_get places i ≡ Some (Some u))). old i u t h.1 task)
    (read_set places s.number i (Some s) (Some u) at)

-- in empty places no strand has ended
pub ended_none : (places : List (Option Demand)) (tasks : List Task) → All (λ (p : Option Demand). p ≡ None) places → HaveEnded places tasks
ended_none places tasks none i s t at task =
    let e = none i None (slice_get_within places i (Some s) at) in let f = get_or_from_slice_get places i (Some s) None at in absurd (cc)

-- where the counts agree too, each has ended with its count
pub ended_counted : (places : List (Option Demand)) (tasks : List Task) (counts : List ℕ) → HaveEnded places tasks → AreCounted places counts → AreEnds places tasks counts
ended_counted places tasks counts ended counted i s t at task =
    let e = ended i s t at task in (e.0, e.1, e.2, e.3, counted i s at)

-- a strand that is put at an empty place leaves one empty place less
pub empty_put : (places : List (Option Demand)) (n : ℕ) (s : Demand) → slice_get places n ≡ Some None → empty_in (set places n (Some s)) + 1 ≡ empty_in places
empty_put places n s at =
    let c = sum_by-set one_if_empty places n (Some s) None (slice_get_within places n None at) in
    let one : one_if_empty (get_or places n None) ≡ 1 = ap one_if_empty (get_or_from_slice_get places n None None at) in
    omega (arith, c, one)

-- where no place is empty, each is filled
pub none_empty : (places : List (Option Demand)) → empty_in places ≡ 0 → AreFilled places
none_empty places none i within at =
    let c = get_or-le-sum_by one_if_empty places i None within in
    let one : one_if_empty (get_or places i None) ≡ 1 = ap one_if_empty (get_or_from_slice_get places i None None at) in
    absurd (omega (arith, c, one, none))

-- what is said of each place, after one more
pub places_more : {X : Type 0} (P : X → ℕ → Type 0) (xs : List X) (y : X) (n : ℕ) → length xs ≡ n → ((i : ℕ) (x : X) → slice_get xs i ≡ Some x → P x i) → P y n → (i : ℕ) (x : X) → slice_get (xs ++ y ∷ []) i ≡ Some x → P x i
places_more {X = X} P [] y n len old new zero x at =
    let Q : ℕ → Type 0 = λ k. P y k in let R : X → Type 0 = λ z. P z 0 in let e : y ≡ x = cc in subst R e (subst Q (sym len) new)
places_more P [] y n len old new (suc i) x at = absurd (cc)
places_more P (z ∷ xs) y n len old new zero x at = old zero x at
places_more P (z ∷ xs) y zero len old new (suc i) x at = absurd (omega arith)
places_more P (z ∷ xs) y (suc n) len old new (suc i) x at = places_more (λ u k. P u (suc k)) xs y n (omega arith) (λ k u e. old (suc k) u e) new i x at

-- two tasks are compared part by part
pub task_eq : (a b : Task) → Decides (eqb a.query.number b.query.number && (eqb a.query.signal b.query.signal && (eqb a.query.from b.query.from && (eqb a.query.to b.query.to && eqb a.query.budget b.query.budget))) && (eqb a.from b.from && (eqb a.to b.to && eqb a.budget b.budget))) (a ≡ b)
task_eq a b = search rules

pub ended_here : (s : Demand) (tasks : List Task) → next s.strand ≡ Done → slice_get tasks s.number ≡ Some (task_of s) → (s.strand.spent ≡ true → s.strand.charged ≡ s.strand.budget)
    → (t : Task) → slice_get tasks s.number ≡ Some t → HasEnded s s.number t
ended_here s tasks done mine spent t at = let same : task_of s ≡ t = cc in (done, refl, same, spent)
