-- Without the settings that repeat a value an input has the same value at every time, and its cells are its runs.
use Rattle.std.proofs.Common.{◌≡◌, ◌≢◌, ℕ, ◌+◌, ◌<◌, ◌≤◌, Bool, true, false, cond, lt-ltb, le-ltb, le-leb, List, [], ◌∷◌, Option, Some, None, refl, sym, ap, ◌∙◌, arith, ◌⊎◌, inl, inr}
use Rattle.std.specs.Prelude.{min, IfSome}
use Rattle.std.specs.List.{AllByRecursion}
use Rattle.std.proofs.lemmas.Bool.{cases_lt, lt-leb}
use Rattle.gate_values.specs.declared.Value.{Value}
use Rattle.gate_values.specs.declared.Value.TheVariants.{X}
use Rattle.gate_values.specs.Gates.{same_value}
use Rattle.circuit_meaning.specs.declared.Setting.{Setting}
use Rattle.circuit_meaning.specs.Forward.{later, last_setting, input_value}
use Rattle.circuit_meaning.specs.Cells.{next_setting, input_start}
use Rattle.circuit_meaning.proofs.Callers.{next-here, next-passed, last-steady}
use Rattle.design.specs.Join.{schedule_of, changes_from, changes_of}
use Rattle.design.specs.Laws.{RepeatsAreFree, set_value}
use Rattle.design.proofs.SortedSettings.{Climbs}
use Rattle.design.proofs.SettingOrder.{order-is-free}
use Rattle.gate_values.proofs.Callers.{same_is}
use Rattle.design.proofs.ChangedSettings.{Alternates, changes-all, changes-climb, changes-alternate, schedule-climbs}

-- what the last setting gives, or else the value before all settings
abbrev given : Value → Option Setting → Value
given v None = v
given v (Some s) = s.value

given-x : (o : Option Setting) → given X o ≡ input_value o
given-x None = refl
given-x (Some s) = refl

abbrev value_after : Value → List Setting → ℕ → Value
value_after v xs t = given v (last_setting xs t)

abbrev Above : ℕ → List Setting → Type 0
Above m xs = AllByRecursion (λ y. m < y.time) xs

none-yet : (m t : ℕ) (xs : List Setting) → t ≤ m → Above m xs → last_setting xs t ≡ None
unfolding last_setting
none-yet m t [] l h = refl
none-yet m t (x ∷ xs) l h = let k = h.0 in rw (lt-leb x.time t (omega (arith, k, l))) (none-yet m t xs l h.1)

later-is : (P : Setting → Type 0) (x : Setting) (o : Option Setting) → P x → IfSome o P → IfSome (later x o) P
later-is P x None p h = p
later-is P x (Some b) p h = elim (cases_lt x.time b.time) [
  | inl l ↦ rw (lt-ltb x.time b.time l) h
  | inr l ↦ rw (le-ltb x.time b.time l) p
]

last-is : (P : Setting → Type 0) (xs : List Setting) (t : ℕ) → AllByRecursion P xs → IfSome (last_setting xs t) P
unfolding last_setting
last-is P [] t h = tt
last-is P (x ∷ xs) t h = elim (cases_lt t x.time) [
  | inl l ↦ rw (lt-leb x.time t l) (last-is P xs t h.1)
  | inr l ↦ rw (le-leb x.time t l) (later-is P x (last_setting xs t) h.0 (last-is P xs t h.1))
]

-- with one setting more at the front, before all others
module _ (x : Setting) (xs : List Setting) (above : Above x.time xs) (t : ℕ) where
  last-early : t < x.time → last_setting (x ∷ xs) t ≡ None
  unfolding last_setting
  last-early l = rw (lt-leb x.time t l) (none-yet x.time t xs (omega (arith, l)) above)

  last-late : x.time ≤ t → last_setting (x ∷ xs) t ≡ later x (last_setting xs t)
  unfolding last_setting
  last-late l = rw (le-leb x.time t l) refl

  given-early : (v : Value) → t < x.time → value_after v (x ∷ xs) t ≡ v
  given-early v l = ap (given v) (last-early l)

  given-late : (v : Value) → x.time ≤ t → value_after v (x ∷ xs) t ≡ value_after x.value xs t
  given-late v l = ap (given v) (last-late l) ∙ go (last_setting xs t) (last-is (λ y. x.time < y.time) xs t above)
    where
      go : (o : Option Setting) → IfSome o (λ y. x.time < y.time) → given v (later x o) ≡ given x.value o
      go None h = refl
      go (Some b) h = rw (lt-ltb x.time b.time h) refl

-- the values stay
kept-value : (v : Value) (xs : List Setting) (t : ℕ) → Climbs xs → value_after v (changes_from v xs) t ≡ value_after v xs t
kept-value v [] t up = refl
kept-value v (x ∷ xs) t up = go (same_value x.value v) refl (kept-value v xs t up.1) (kept-value x.value xs t up.1) (cases_lt t x.time)
  where
    go : (b : Bool) → same_value x.value v ≡ b → value_after v (changes_from v xs) t ≡ value_after v xs t → value_after x.value (changes_from x.value xs) t ≡ value_after x.value xs t
        → (t < x.time) ⊎ (x.time ≤ t) → value_after v (cond b (changes_from v xs) (x ∷ changes_from x.value xs)) t ≡ value_after v (x ∷ xs) t
    go true e same next (inl l) = same ∙ ap (given v) (none-yet x.time t xs (omega (arith, l)) up.0) ∙ sym (given-early x xs up.0 t v l)
    go true e same next (inr l) = same ∙ ap (λ w. value_after w xs t) (sym (same_is x.value v e)) ∙ sym (given-late x xs up.0 t v l)
    go false e same next (inl l) = given-early x (changes_from x.value xs) (changes-all (λ y. x.time < y.time) x.value xs up.0) t v l ∙ sym (given-early x xs up.0 t v l)
    go false e same next (inr l) = given-late x (changes_from x.value xs) (changes-all (λ y. x.time < y.time) x.value xs up.0) t v l ∙ next ∙ sym (given-late x xs up.0 t v l)

-- just before the last setting the value is another
before-start : (v : Value) (xs : List Setting) (t u : ℕ) → Climbs xs → Alternates v xs → u + 1 ≡ input_start (last_setting xs t) → value_after v xs u ≢ value_after v xs t
before-start v [] t u up alt e = unfold last_setting in absurd (omega (arith, e))
before-start v (x ∷ xs) t u up alt e = go (before-start x.value xs t u up.1 alt.1) (cases_lt t x.time)
  where
    settled : (u + 1 ≡ input_start (last_setting xs t) → value_after x.value xs u ≢ value_after x.value xs t) → x.time ≤ t → (o : Option Setting) → last_setting xs t ≡ o → IfSome o (λ y. x.time < y.time) → value_after v (x ∷ xs) u ≢ value_after v (x ∷ xs) t
    settled again l None is h = λ q.
        let start : u + 1 ≡ x.time = e ∙ ap input_start (last-late x xs up.0 t l ∙ ap (later x) is) in
        let low = given-early x xs up.0 u v (omega (arith, start)) in
        let high = given-late x xs up.0 t v l ∙ ap (given x.value) is in
        alt.0 (sym high ∙ sym q ∙ low)
    settled again l (Some b) is h = λ q.
        let last : last_setting (x ∷ xs) t ≡ Some b = last-late x xs up.0 t l ∙ ap (later x) is ∙ rw (lt-ltb x.time b.time h) refl in
        let start : u + 1 ≡ b.time = e ∙ ap input_start last in
        again (start ∙ sym (ap input_start is))
        (sym (given-late x xs up.0 u v (omega (arith, start, h))) ∙ q ∙ given-late x xs up.0 t v l)

    go : (u + 1 ≡ input_start (last_setting xs t) → value_after x.value xs u ≢ value_after x.value xs t) → (t < x.time) ⊎ (x.time ≤ t) → value_after v (x ∷ xs) u ≢ value_after v (x ∷ xs) t
    go again (inl l) = absurd (let k : u + 1 ≡ 0 = e ∙ ap input_start (last-early x xs up.0 t l) in omega (arith, k))
    go again (inr l) = settled again l (last_setting xs t) refl (last-is (λ y. x.time < y.time) xs t up.0)

-- the next setting is not before the limit, or after m
next-low : (m t limit : ℕ) (xs : List Setting) → Above m xs → min (m + 1) limit ≤ next_setting xs t limit
unfolding next_setting
next-low m t limit [] h = omega arith
next-low m t limit (x ∷ xs) h = elim (cases_lt t x.time) [
  | inl l ↦ rw (lt-ltb t x.time l) (let k = next-low m t limit xs h.1 in let q = h.0 in omega (arith, k, q))
  | inr l ↦ rw (le-ltb t x.time l) (next-low m t limit xs h.1)
]

next-later : (t limit : ℕ) (xs : List Setting) → min (t + 1) limit ≤ next_setting xs t limit
unfolding next_setting
next-later t limit [] = omega arith
next-later t limit (x ∷ xs) = elim (cases_lt t x.time) [
  | inl l ↦ rw (lt-ltb t x.time l) (let k = next-later t limit xs in omega (arith, k, l))
  | inr l ↦ rw (le-ltb t x.time l) (next-later t limit xs)
]

-- from the next setting on the value is another
after-stop : (v : Value) (xs : List Setting) (t u limit : ℕ) → Climbs xs → Alternates v xs → u ≡ next_setting xs t limit → u < limit → value_after v xs u ≢ value_after v xs t
after-stop v [] t u limit up alt e l = unfold next_setting in absurd (omega (arith, e, l))
after-stop v (x ∷ xs) t u limit up alt e l = go (λ next. after-stop x.value xs t u limit up.1 alt.1 next l) (cases_lt t x.time)
  where
    go : (u ≡ next_setting xs t limit → value_after x.value xs u ≢ value_after x.value xs t) → (t < x.time) ⊎ (x.time ≤ t) → value_after v (x ∷ xs) u ≢ value_after v (x ∷ xs) t
    go again (inl k) = λ q.
        let next = e ∙ next-here x xs t limit k in
        let low = next-low x.time t limit xs up.0 in
        let is : u ≡ x.time = omega (arith, next, low, l) in
        let high = given-late x xs up.0 u v (omega (arith, is)) ∙ ap (given x.value) (none-yet x.time u xs (omega (arith, is)) up.0) in
        alt.0 (sym high ∙ q ∙ given-early x xs up.0 t v k)
    go again (inr k) = λ q.
        let next = e ∙ next-passed x xs t limit k in
        let low = next-later t limit xs in
        again next
        (sym (given-late x xs up.0 u v (omega (arith, next, low, l, k))) ∙ q ∙ given-late x xs up.0 t v k)

-- all settings, in the order of time or not, give the value that the changes give
pub same-value-at : (settings : List Setting) (t : ℕ) → set_value (changes_of settings) t ≡ set_value settings t
same-value-at settings t =
    sym (given-x (last_setting (changes_of settings) t)) ∙ kept-value X (schedule_of settings) t (schedule-climbs settings)
    ∙ given-x (last_setting (schedule_of settings) t) ∙ ap input_value (order-is-free settings t 0).last

module _ (settings : List Setting) (t limit : ℕ) where
  abbrev changes : List Setting
  changes = changes_of settings

  up : Climbs changes
  up = changes-climb X (schedule_of settings) (schedule-climbs settings)

  alternate : Alternates X changes
  alternate = changes-alternate X (schedule_of settings)

  at : (u : ℕ) → value_after X changes u ≡ set_value settings u
  at u = given-x (last_setting changes u) ∙ same-value-at settings u

  differ : (u : ℕ) → value_after X changes u ≢ value_after X changes t → set_value settings u ≢ set_value settings t
  differ u h = λ q. h (at u ∙ q ∙ sym (at t))

  pub repeats-are-free : RepeatsAreFree settings t limit
  repeats-are-free = record {
    value = same-value-at settings t;
    inside = λ u h. sym (same-value-at settings u) ∙ ap input_value (last-steady changes t u limit h.low h.high) ∙ same-value-at settings t;
    before = λ u e. differ u (before-start X changes t u up alternate e);
    after = λ u e l. differ u (after-stop X changes t u limit up alternate e l);
  }
