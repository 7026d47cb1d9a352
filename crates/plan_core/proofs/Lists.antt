-- Lists of places, and strands that go back to them.
use Rattle.std.proofs.Common.{◌≡◌, ℕ, zero, suc, ◌+◌, ◌<◌, List, [], ◌∷◌, length, map, slice_get, slice_set, refl, ap, sym, ◌∙◌, subst, arith, inl, inr, Option, Some, None}
use Rattle.std.proofs.Math.ListN.{length-set}
use Rattle.std.proofs.lemmas.List.{map-set}
use Rattle.std.proofs.lemmas.Bool.{cases_eq}
use Rattle.plan_machine.specs.Strands.{Strand}
use Rattle.plan_machine.specs.Plans.{itself}
use Rattle.plan_machine.specs.Parts.{NumberedStrand, IsAmong, put_back}
use Rattle.plan_machine.proofs.Callers.{set-here, set-other, set-low}
use Rattle.demand_points.specs.Demands.{Demand, TakesStep}
use Rattle.memo_shards.specs.Seen.{numbered_strand}
use Rattle.memo_shards.proofs.Callers.{changed}
use Rattle.plan_core.specs.inner.Places.{seat, seats, AreNumbered, HaveNumbers}

pub set-same : {A : Type 0} (xs : List A) (n : ℕ) (a : A) → slice_get xs n ≡ Some a → slice_set xs n a ≡ xs
set-same [] n a e = refl
set-same (x ∷ xs) zero a e = let k : x ≡ a = cc e in ap (λ y. y ∷ xs) (sym k)
set-same (x ∷ xs) (suc n) a e = ap (λ ys. x ∷ ys) (set-same xs n a e)

pub some-at : {A : Type 0} (xs : List A) (i : ℕ) → i < length xs → (x : A) × (slice_get xs i ≡ Some x)
some-at [] i h = absurd (omega arith)
some-at (x ∷ xs) zero h = (x, refl)
some-at (x ∷ xs) (suc i) h = some-at xs i (omega arith)

set-over : {A : Type 0} (xs : List A) (m n : ℕ) (a b : A) → (m ≡ n → ⊥) → slice_set (slice_set xs m a) n b ≡ slice_set (slice_set xs n b) m a
set-over [] m n a b ne = refl
set-over (x ∷ xs) zero zero a b ne = absurd (ne refl)
set-over (x ∷ xs) zero (suc n) a b ne = refl
set-over (x ∷ xs) (suc m) zero a b ne = refl
set-over (x ∷ xs) (suc m) (suc n) a b ne = ap (λ ys. x ∷ ys) (set-over xs m n a b (λ e. ne (ap suc e)))

-- a place to which none of them goes back
pub put-apart : (f : Strand → Strand) (n : ℕ) (t : Option Strand) (xs : List (Option Strand)) (ws : List NumberedStrand) → ((w : NumberedStrand) → IsAmong w ws → w.number ≡ n → ⊥) → put_back f (slice_set xs n t) ws ≡ slice_set (put_back f xs ws) n t
put-apart f n t xs [] apart = refl
put-apart f n t xs (w ∷ ws) apart =
    ap (λ zs. put_back f zs ws) (sym (set-over xs w.number n (Some (f w.strand)) t (apart w (inl refl))))
    ∙ put-apart f n t (slice_set xs w.number (Some (f w.strand))) ws (λ v h. apart v (inr h))

-- those that are changed already go back as they are
pub put-changed : (f : Strand → Strand) (xs : List (Option Strand)) (ws : List NumberedStrand) → put_back itself xs (map (changed f) ws) ≡ put_back f xs ws
put-changed f xs [] = refl
put-changed f xs (w ∷ ws) = put-changed f (slice_set xs w.number (Some (f w.strand))) ws

pub have-numbers : (f : Strand → Strand) (m : ℕ) (woken : List Demand) (ws : List NumberedStrand) → map numbered_strand woken ≡ map (changed f) ws → ((w : NumberedStrand) → IsAmong w ws → w.number < m) → HaveNumbers m woken
have-numbers f m [] ws e low = tt
have-numbers f m (s ∷ ss) [] e low = absurd (cc e)
have-numbers f m (s ∷ ss) (w ∷ ws) e low =
    let first : numbered_strand s ≡ changed f w = cc e in
    let more : map numbered_strand ss ≡ map (changed f) ws = cc e in
    let number : s.number ≡ w.number = ap (λ (z : NumberedStrand). z.number) first in
    (subst (λ k. k < m) (sym number) (low w (inl refl)), have-numbers f m ss ws more (λ v h. low v (inr h)))

-- a strand with its number in its place, or a gap
pub numbers-set : (places : List (Option Demand)) → AreNumbered places → (n : ℕ) (o : Option Demand) → slice_get places n ≡ Some o → (s : Demand) → s.number ≡ n → AreNumbered (slice_set places n (Some s))
numbers-set places numbers n o at s e i r h = elim (cases_eq i n) [
  | inl k ↦
      let now : slice_get (slice_set places n (Some s)) i ≡ Some (Some s) = subst (λ j. slice_get (slice_set places n (Some s)) j ≡ Some (Some s)) (sym k) (set-here places n o (Some s) at) in
      let same : s ≡ r = cc (now, h) in
      ap (λ (z : Demand). z.number) (sym same) ∙ e ∙ sym k
  | inr k ↦ numbers i r (sym (set-other places n i (Some s) k) ∙ h)
]

-- a strand in its place that has made a step
pub stays-numbered : (places : List (Option Demand)) → AreNumbered places → (n : ℕ) (s : Demand) → slice_get places n ≡ Some (Some s) → (f : Strand → Strand) (r : Demand) → TakesStep f s r → AreNumbered (slice_set places n (Some r))
stays-numbered places numbers n s at f r step = numbers-set places numbers n (Some s) at r (step.number ∙ numbers n s at)

pub numbers-none : (places : List (Option Demand)) → AreNumbered places → (n : ℕ) (o : Option Demand) → slice_get places n ≡ Some o → AreNumbered (slice_set places n None)
numbers-none places numbers n o at i r h = elim (cases_eq i n) [
  | inl k ↦
      let now : slice_get (slice_set places n None) i ≡ Some None = subst (λ j. slice_get (slice_set places n None) j ≡ Some None) (sym k) (set-here places n o None at) in
      absurd (cc (now, h))
  | inr k ↦ numbers i r (sym (set-other places n i None k) ∙ h)
]

pub set-numbers : (places : List (Option Demand)) → AreNumbered places → (n : ℕ) (s : Demand) → s.number ≡ n → n < length places → AreNumbered (slice_set places n (Some s))
set-numbers places numbers n s e low i r h = elim (cases_eq i n) [
  | inl k ↦
      let now : slice_get (slice_set places n (Some s)) i ≡ Some (Some s) = subst (λ j. slice_get (slice_set places n (Some s)) j ≡ Some (Some s)) (sym k) (set-low places n (Some s) low) in
      let same : s ≡ r = cc (now, h) in
      ap (λ (z : Demand). z.number) (sym same) ∙ e ∙ sym k
  | inr k ↦ numbers i r (sym (set-other places n i (Some s) k) ∙ h)
]

pub none-left : (left : List Demand) → length left ≡ 0 → left ≡ []
none-left [] e = refl
none-left (x ∷ xs) e = absurd (omega arith)

-- strands go back one after another: these are left of the list, so many, and the places are now so
pub record IsPutting (places : List (Option Demand)) (list : List Demand) (now : List (Option Demand)) (left : List Demand) (many : ℕ) : Type 0 where
  pub same : put_back itself (seats now) (map numbered_strand left) ≡ put_back itself (seats places) (map numbered_strand list)
  pub low : HaveNumbers (length now) left
  pub long : length now ≡ length places
  pub numbered : AreNumbered now
  pub count : many ≡ length left

pub put-first : (places : List (Option Demand)) (list : List Demand) (now : List (Option Demand)) (old new : List Demand) (many : ℕ) (s : Demand) → IsPutting places list now old many → old ≡ s ∷ new → s.number < length now
put-first places list now old new many s putting e = let k : HaveNumbers (length now) (s ∷ new) = subst (HaveNumbers (length now)) e putting.low in k.0

pub put-one : (places : List (Option Demand)) (list : List Demand) (now : List (Option Demand)) (old new : List Demand) (many fewer : ℕ) (s r : Demand) → IsPutting places list now old many → old ≡ s ∷ new → fewer + 1 ≡ many → TakesStep itself s r
    → (n : ℕ) → n ≡ s.number → (after : List (Option Demand)) → after ≡ slice_set now n (Some r) → IsPutting places list after new fewer
put-one places list now old new many fewer s r putting e less step n is after set =
    let low : HaveNumbers (length now) (s ∷ new) = subst (HaveNumbers (length now)) e putting.low in
    let after_is : after ≡ slice_set now s.number (Some r) = set ∙ ap (λ k. slice_set now k (Some r)) is in
    let long : length after ≡ length now = ap length after_is ∙ length-set now s.number (Some r) in
    let seats_are : seats after ≡ slice_set (seats now) s.number (Some s.strand) = ap seats after_is ∙ map-set seat now s.number (Some r) ∙ ap (λ z. slice_set (seats now) s.number (Some z)) step.strand in
    record {
      same = ap (λ xs. put_back itself xs (map numbered_strand new)) seats_are ∙ ap (λ l. put_back itself (seats now) (map numbered_strand l)) (sym e) ∙ putting.same;
      low = subst (λ m. HaveNumbers m new) (sym long) low.1;
      long = long ∙ putting.long;
      numbered = subst AreNumbered (sym after_is) (set-numbers now putting.numbered s.number r step.number low.0);
      count = let k : many ≡ length (s ∷ new) = putting.count ∙ ap (λ (l : List Demand). length l) e in omega arith;
    }

pub put-last : (places : List (Option Demand)) (list : List Demand) (now : List (Option Demand)) (left : List Demand) (many : ℕ) → IsPutting places list now left many → many ≡ 0 → seats now ≡ put_back itself (seats places) (map numbered_strand list)
put-last places list now left many putting e = ap (λ l. put_back itself (seats now) (map numbered_strand l)) (sym (none-left left (sym putting.count ∙ e))) ∙ putting.same
