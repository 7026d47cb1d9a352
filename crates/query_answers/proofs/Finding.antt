-- The first time of a window at which a signal has a value.
use Rattle.std.proofs.Common.{◌≡◌, ℕ, zero, suc, ◌+◌, ◌-◌, ◌<◌, ◌≤◌, Bool, true, false, true≢false, find, Option, Some, None, refl, sym, ap, subst, ◌∙◌, arith, inl, inr}
use Rattle.std.specs.List.{range_with_len}
use Rattle.std.proofs.lemmas.Bool.{cases_lt}
use Rattle.gate_values.specs.declared.Value.{Value}
use Rattle.gate_values.specs.Gates.{same_value}
use Rattle.circuit_meaning.specs.Circuit.{Circuit}
use Rattle.circuit_meaning.specs.Forward.{value}
use Rattle.journal_meaning.specs.declared.batch.Query.{Query}
use Rattle.session_meaning.specs.FirstTimes.{first_time, stop_at, up_to_first}

-- in a row of times: none passes the test
find-none : (test : ℕ → Bool) (a n : ℕ) → ((u : ℕ) → a ≤ u → u < a + n → test u ≡ false) → find test (range_with_len a n) ≡ None
find-none test a zero h = refl
find-none test a (suc n) h =
    let here : test a ≡ false = h a (omega arith) (omega arith) in
    rw here (find-none test (a + 1) n (λ u low high. h u (omega arith) (omega arith)))

-- the one at t is the first that does
find-here : (test : ℕ → Bool) (a n t : ℕ) → ((u : ℕ) → a ≤ u → u < t → test u ≡ false) → a ≤ t → t < a + n → test t ≡ true → find test (range_with_len a n) ≡ Some t
find-here test a zero t h low high is = absurd (omega arith)
find-here test a (suc n) t h low high is = elim (cases_lt a t) [
  | inl l ↦
      let here : test a ≡ false = h a (omega arith) l in
      rw here (find-here test (a + 1) n t (λ u since before. h u (omega arith) before) (omega arith) (omega arith) is)
  | inr l ↦
      let same : a ≡ t = omega arith in
      let here : test a ≡ true = ap test same ∙ is in
      rw here (ap Some same)
]

-- the first one is at or behind t, where none before t does
find-since : (test : ℕ → Bool) (a n t x : ℕ) → find test (range_with_len a n) ≡ Some x → ((u : ℕ) → a ≤ u → u < t → test u ≡ false) → t ≤ x
find-since test a zero t x e h = absurd (cc e)
find-since test a (suc n) t x e h = by (λ e h. find-since test (a + 1) n t x e h) (test a) refl
  where
    by : (find test (range_with_len (a + 1) n) ≡ Some x → ((u : ℕ) → a + 1 ≤ u → u < t → test u ≡ false) → t ≤ x) → (b : Bool) → test a ≡ b → t ≤ x
    by on true is =
        let first : find test (range_with_len a (suc n)) ≡ Some a = rw is refl in
        let same : a ≡ x = cc (sym first ∙ e) in
        elim (cases_lt a t) [
          | inl l ↦ let no = h a (omega arith) l in absurd (true≢false (sym is ∙ no))
          | inr l ↦ omega arith
        ]
    by on false is =
        let rest : find test (range_with_len a (suc n)) ≡ find test (range_with_len (a + 1) n) = rw is refl in
        on (sym rest ∙ e) (λ u since before. h u (omega arith) before)

module _ (c : Circuit) (q : Query) (w : Value) where
  abbrev pub has : ℕ → Bool
  has t = same_value (value c q.signal t) w

  -- no time of the window before t has the value
  abbrev pub NoneBefore : ℕ → Type 0
  NoneBefore t = (u : ℕ) → q.from ≤ u → u < t → has u ≡ false

  pub first-here : (t : ℕ) → NoneBefore t → q.from ≤ t → t < q.to → has t ≡ true → first_time c q.signal w q.from q.to ≡ Some t
  first-here t none since before is = find-here has q.from (q.to - q.from) t none since (omega arith) is

  pub first-none : (t : ℕ) → NoneBefore t → q.to ≤ t → first_time c q.signal w q.from q.to ≡ None
  first-none t none high = find-none has q.from (q.to - q.from) (λ u since before. none u since (omega arith))

  -- then what is asked for goes on behind t
  pub goes-on : (t : ℕ) → NoneBefore t → t < q.to → t < (up_to_first c q w).to
  goes-on t none before = by (first_time c q.signal w q.from q.to) refl
    where
      by : (o : Option ℕ) → first_time c q.signal w q.from q.to ≡ o → t < stop_at (first_time c q.signal w q.from q.to) q.to
      by None e = rw e before
      by (Some x) e = let k = find-since has q.from (q.to - q.from) t x e none in rw e (omega arith)

-- the first one is one of the row
find-before : (test : ℕ → Bool) (a n x : ℕ) → find test (range_with_len a n) ≡ Some x → x < a + n
find-before test a zero x e = absurd (cc e)
find-before test a (suc n) x e = by (λ e. find-before test (a + 1) n x e) (test a) refl
  where
    by : (find test (range_with_len (a + 1) n) ≡ Some x → x < (a + 1) + n) → (b : Bool) → test a ≡ b → x < a + suc n
    by on true is =
        let first : find test (range_with_len a (suc n)) ≡ Some a = rw is refl in
        let same : a ≡ x = cc (sym first ∙ e) in
        omega arith
    by on false is =
        let rest : find test (range_with_len a (suc n)) ≡ find test (range_with_len (a + 1) n) = rw is refl in
        let l = on (sym rest ∙ e) in
        omega arith

-- what is asked for ends within the window
pub ends-within : (c : Circuit) (q : Query) (w : Value) → (up_to_first c q w).to ≤ q.to
ends-within c q w = by (first_time c q.signal w q.from q.to) refl
  where
    by : (o : Option ℕ) → first_time c q.signal w q.from q.to ≡ o → stop_at (first_time c q.signal w q.from q.to) q.to ≤ q.to
    by None e = rw e (omega arith)
    by (Some x) e = rw e (inside (q.to - q.from) refl)
      where
        inside : (n : ℕ) → q.to - q.from ≡ n → x + 1 ≤ q.to
        inside zero l = absurd (cc (subst (λ n. find (λ t. same_value (value c q.signal t) w) (range_with_len q.from n) ≡ Some x) l e))
        inside (suc n) l = let k = find-before (λ t. same_value (value c q.signal t) w) q.from (q.to - q.from) x e in omega arith
