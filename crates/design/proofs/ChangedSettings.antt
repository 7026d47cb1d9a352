-- The settings that change a value, among settings in the order of time.
use Rattle.std.proofs.Common.{◌≡◌, ◌≢◌, ◌<◌, Bool, true, false, cond, List, [], ◌∷◌, refl, sym, ap, ◌∙◌}
use Rattle.std.specs.Prelude.{All}
use Rattle.std.specs.List.{AllByRecursion, dedup, dedup_from, remove}
use Rattle.std.proofs.lemmas.List.Elements.{recursion_from_All, All-from_recursion}
use Rattle.gate_values.specs.declared.Value.{Value}
use Rattle.gate_values.specs.declared.Value.TheVariants.{X}
use Rattle.gate_values.specs.Gates.{same_value}
use Rattle.gate_values.proofs.Callers.{same_is, other_is}
use Rattle.circuit_meaning.specs.declared.Setting.{Setting}
use Rattle.design.specs.inner.KeptDesigns.{InTimeOrder}
use Rattle.design.specs.inner.Changes.{is_at_one_value, begins_with_x}
use Rattle.design.specs.Join.{in_time_order, schedule_of, changes_from, changes_of}
use Rattle.design.proofs.SortedSettings.{Climbs, climbs, order-from, in_order-rises, scheduled-all}

-- the first setting, and those that change its value
deduped-changes : (k : Setting) (xs : List Setting) → dedup_from is_at_one_value k xs ≡ k ∷ changes_from k.value xs
deduped-changes k [] = refl
deduped-changes k (x ∷ xs) = go (is_at_one_value x k) (deduped-changes k xs) (deduped-changes x xs)
  where
    go : (b : Bool) → dedup_from is_at_one_value k xs ≡ k ∷ changes_from k.value xs → dedup_from is_at_one_value x xs ≡ x ∷ changes_from x.value xs
        → cond b (dedup_from is_at_one_value k xs) (k ∷ dedup_from is_at_one_value x xs) ≡ k ∷ cond b (changes_from k.value xs) (x ∷ changes_from x.value xs)
    go true same next = same
    go false same next = ap (λ (r : List Setting). k ∷ r) next

-- without a first setting to x they are the changes of x
pub changes-without : (xs ys : List Setting) → ys ≡ dedup is_at_one_value xs → begins_with_x ys ≡ true → remove ys 0 ≡ changes_from X xs
changes-without [] ys e h = absurd (let k = ap begins_with_x (sym e) ∙ h in cc k)
changes-without (x ∷ xs) ys e h =
    let is = e ∙ deduped-changes x xs in
    let first : same_value x.value X ≡ true = ap begins_with_x (sym is) ∙ h in
    ap (λ (r : List Setting). remove r 0) is ∙ ap (λ v. changes_from v xs) (same_is x.value X first)
    ∙ sym (ap (λ b. cond b (changes_from X xs) (x ∷ changes_from x.value xs)) first)

-- without a first setting to x nothing goes
pub changes-with : (xs ys : List Setting) → ys ≡ dedup is_at_one_value xs → begins_with_x ys ≡ false → ys ≡ changes_from X xs
changes-with [] ys e h = e
changes-with (x ∷ xs) ys e h =
    let is = e ∙ deduped-changes x xs in
    let first : same_value x.value X ≡ false = ap begins_with_x (sym is) ∙ h in
    is ∙ sym (ap (λ b. cond b (changes_from X xs) (x ∷ changes_from x.value xs)) first)

pub changes-all : (P : Setting → Type 0) (v : Value) (xs : List Setting) → AllByRecursion P xs → AllByRecursion P (changes_from v xs)
changes-all P v [] h = tt
changes-all P v (x ∷ xs) h = elim (same_value x.value v) as (λ b. AllByRecursion P (cond b (changes_from v xs) (x ∷ changes_from x.value xs))) [
  | true ↦ changes-all P v xs h.1
  | false ↦ (h.0, changes-all P x.value xs h.1)
]

pub changes-climb : (v : Value) (xs : List Setting) → Climbs xs → Climbs (changes_from v xs)
changes-climb v [] up = tt
changes-climb v (x ∷ xs) up = elim (same_value x.value v) as (λ b. Climbs (cond b (changes_from v xs) (x ∷ changes_from x.value xs))) [
  | true ↦ changes-climb v xs up.1
  | false ↦ (changes-all (λ y. x.time < y.time) x.value xs up.0, changes-climb x.value xs up.1)
]

-- each setting gives another value than the one before it, and the first another than this
abbrev pub Alternates : Value → List Setting → Type 0
Alternates v [] = Unit {0}
Alternates v (x ∷ xs) = (x.value ≢ v) × Alternates x.value xs

pub changes-alternate : (v : Value) (xs : List Setting) → Alternates v (changes_from v xs)
changes-alternate v [] = tt
changes-alternate v (x ∷ xs) = go (same_value x.value v) refl (changes-alternate v xs) (changes-alternate x.value xs)
  where
    go : (b : Bool) → same_value x.value v ≡ b → Alternates v (changes_from v xs) → Alternates x.value (changes_from x.value xs) → Alternates v (cond b (changes_from v xs) (x ∷ changes_from x.value xs))
    go true e same next = same
    go false e same next = (other_is x.value v e, next)

pub schedule-climbs : (xs : List Setting) → Climbs (schedule_of xs)
schedule-climbs xs = climbs (in_time_order xs) (in_order-rises xs)

pub changed-order : (xs : List Setting) → InTimeOrder (changes_of xs)
changed-order xs = order-from (changes_of xs) (changes-climb X (schedule_of xs) (schedule-climbs xs))

pub changed-all : (P : Setting → Type 0) (xs : List Setting) → AllByRecursion P xs → All P (changes_of xs)
changed-all P xs h = All-from_recursion P (changes_of xs) (changes-all P X (schedule_of xs) (recursion_from_All P (schedule_of xs) (scheduled-all P xs h)))
