-- The pin after those that don't decide is looked at, so its point is a child.
use Rattle.std.proofs.Common.{◌≡◌, ℕ, zero, suc, ◌-◌, ◌<◌, ◌≤◌, Bool, true, false, cond, ◌||◌, nat_le, List, [], ◌∷◌, length, get_or, take, map, filter, Contains, refl, sym, subst, arith, le-leb}
use Rattle.std.specs.List.{list_any}
use Rattle.gate_values.specs.declared.Kind.{Kind}
use Rattle.gate_values.specs.Gates.{decides, up_to_first}
use Rattle.circuit_meaning.specs.declared.Pin.{Pin}
use Rattle.valid_intervals.specs.declared.Point.{Point}
use Rattle.circuit_meaning.specs.Circuit.{Circuit, Gate, driver}
use Rattle.circuit_meaning.specs.Forward.{seen_value, value}
use Rattle.circuit_meaning.specs.Need.{children, children_from}

-- membership by recursion on the list
data IsIn {A : Type 0} (x : A) : List A → Type 0 where
  Here : {xs : List A} → IsIn x (x ∷ xs)
  There : {y : A} {xs : List A} → IsIn x xs → IsIn x (y ∷ xs)

contains : {A : Type 0} (x : A) (xs : List A) → IsIn x xs → Contains xs x
contains x [] h = elim h [ ]
contains x (y ∷ xs) Here = (0, omega arith, refl)
contains x (y ∷ xs) (There h) = let k = contains x xs h in (suc k.0, omega (arith, k.1), k.2)

in_map : {A B : Type 0} (f : A → B) (x : A) (xs : List A) → IsIn x xs → IsIn (f x) (map f xs)
in_map f x [] h = elim h [ ]
in_map f x (y ∷ xs) Here = Here
in_map f x (y ∷ xs) (There h) = There (in_map f x xs h)

in_filter : {A : Type 0} (p : A → Bool) (x : A) (xs : List A) → p x ≡ true → IsIn x xs → IsIn x (filter p xs)
in_filter p x [] e h = elim h [ ]
in_filter p x (y ∷ xs) e Here = rw e Here
in_filter p x (y ∷ xs) e (There h) = elim (p y) as (λ b. IsIn x (cond b (y ∷ filter p xs) (filter p xs))) [ true ↦ There (in_filter p x xs e h) | false ↦ in_filter p x xs e h ]

in_cut : {A : Type 0} (test : A → Bool) (d : A) (xs : List A) (k : ℕ) → k < length xs → list_any test (take k xs) ≡ false → IsIn (get_or xs k d) (up_to_first test xs)
in_cut test d [] k h = absurd (omega arith)
in_cut test d (x ∷ xs) zero h = λ e. Here
in_cut test d (x ∷ xs) (suc k) h =
    elim (test x) as (λ b. (b || list_any test (take k xs)) ≡ false → IsIn (get_or xs k d) (x ∷ cond b [] (up_to_first test xs))) [
      | true ↦ λ e. cc
      | false ↦ λ e. There (in_cut test d xs k (omega arith) e)
    ]

pub asked-child : (c : Circuit) (s t : ℕ) (kind : Kind) (pins : List Pin) → driver c s ≡ Gate kind pins → (k : ℕ) (d : Pin) → k < length pins
    → list_any (λ p. decides kind (seen_value (value c) t p)) (take k pins) ≡ false → (get_or pins k d).delay ≤ t
    → Contains (children c s t) (record { signal = (get_or pins k d).signal; time = t - (get_or pins k d).delay })
unfolding children
asked-child c s t kind pins e k d h none late =
    let p = get_or pins k d in
    let point : Pin → Point = λ p. record { signal = p.signal; time = t - p.delay } in
    subst (λ x. Contains (children_from c t x) (point p)) (sym e)
    (contains (point p) _ (in_map point p _ (in_filter (λ p. nat_le p.delay t) p _ (le-leb p.delay t late) (in_cut (λ p. decides kind (seen_value (value c) t p)) d pins k h none))))
