-- The changes of a function of time are those of a wire.
use Rattle.std.proofs.Common.{◌≡◌, ℕ, zero, suc, ◌+◌, ◌-◌, ◌<◌, ◌≤◌, Bool, true, false, cond, not, ◌||◌, eqb, List, ◌∷◌, refl, sym, ap, ◌∙◌, arith, lt-ltb}
use Rattle.std.proofs.lemmas.Bool.{ne_eqb, le-leb}
use Rattle.std.specs.Prelude.{map, filter}
use Rattle.std.specs.List.{range_with_len}
use Rattle.gate_values.specs.declared.Value.{Value}
use Rattle.gate_values.specs.Gates.{same_value}
use Rattle.circuit_meaning.specs.declared.Run.{Run}
use Rattle.circuit_meaning.specs.Circuit.{Circuit}
use Rattle.circuit_meaning.specs.Forward.{value, wave}
use Rattle.texts.specs.Text.{is_name}
use Rattle.window_walks.specs.Runs.{maximal_runs}
use Rattle.vcd_answers.specs.Wires.{Wire, last_time, changes_of, shown_value, wire_runs, wire_of_query, goes_on, are_changes, is_wire}
use Rattle.gate_values.proofs.Callers.{same-sym, same_is}
use Rattle.vcd_answers.proofs.Windows.{point, differs, wave_changes}

pub last_is : last_time ≡ 1000001
unfolding last_time
last_is = refl

module _ (f : ℕ → Value) where
  behind : (u a n : ℕ) → u < a → f u ≡ f (a - 1) → a + n ≤ 1000002 → goes_on (point f u) (map (point f) (filter (differs f 0) (range_with_len a n))) ≡ true
  behind u a zero less same within = le-leb u last_time (omega (arith, last_is))
  behind u a (suc n) less same within =
      let back : (a + 1) - 1 ≡ a = omega arith in
      let later = ne_eqb a 0 (λ e. omega arith) in
      let keep : same_value (f a) (f (a - 1)) ≡ true → goes_on (point f u) (map (point f) (filter (differs f 0) (range_with_len (a + 1) n))) ≡ true = λ h. behind u (a + 1) n (omega arith) (same ∙ sym (same_is (f a) (f (a - 1)) h) ∙ ap f (sym back)) (omega arith) in
      let new : goes_on (point f a) (map (point f) (filter (differs f 0) (range_with_len (a + 1) n))) ≡ true = behind a (a + 1) n (omega arith) (ap f (sym back)) (omega arith) in
      cases (same_value (f a) (f (a - 1))) refl later keep new
    where
      cases : (b : Bool) → same_value (f a) (f (a - 1)) ≡ b → eqb a 0 ≡ false
          → (same_value (f a) (f (a - 1)) ≡ true → goes_on (point f u) (map (point f) (filter (differs f 0) (range_with_len (a + 1) n))) ≡ true)
          → goes_on (point f a) (map (point f) (filter (differs f 0) (range_with_len (a + 1) n))) ≡ true
          → goes_on (point f u) (map (point f) (cond (eqb a 0 || not b) (a ∷ filter (differs f 0) (range_with_len (a + 1) n)) (filter (differs f 0) (range_with_len (a + 1) n)))) ≡ true
      cases true h later keep new = rw later (keep h)
      cases false h later keep new =
          let other : same_value (f u) (f a) ≡ false = ap (λ (v : Value). same_value v (f a)) same ∙ same-sym (f (a - 1)) (f a) ∙ h in
          rw (later, lt-ltb u a less, other, new) refl

  pub are_sound : (n : ℕ) → n ≤ 1000001 → are_changes (changes_of f n) ≡ true
  are_sound n within =
      let more : n + 1 ≡ suc n = omega arith in
      ap (λ (k : ℕ). are_changes (map (point f) (filter (differs f 0) (range_with_len 0 k)))) more ∙ behind 0 1 n (omega arith) refl (omega arith)

-- ---- the wire of a query

abbrev pub made : List ℕ → List Run → Wire
made name runs = record { name = name; changes = runs }

pub made_is : (name given : List ℕ) (c : Circuit) (s a b horizon : ℕ) (runs changes : List Run) → name ≡ given → b ≤ horizon + 1 → c.horizon ≡ horizon → runs ≡ wave c s a b → changes ≡ maximal_runs (wire_runs a b runs)
    → made name changes ≡ wire_of_query given c s a b
made_is name given c s a b horizon runs changes named within ends are is =
    let all : changes ≡ changes_of (shown_value (value c s) a b) (c.horizon + 1) = is ∙ wave_changes c s a b runs horizon within are ∙ ap (λ (n : ℕ). changes_of (shown_value (value c s) a b) (n + 1)) (sym ends) in
    ap (λ (l : List ℕ). made l changes) named ∙ ap (made given) all

pub made_sound : (name given : List ℕ) (c : Circuit) (s a b horizon : ℕ) (runs changes : List Run) → name ≡ given → b ≤ horizon + 1 → horizon ≤ 1000000 → runs ≡ wave c s a b → changes ≡ maximal_runs (wire_runs a b runs)
    → is_name given ≡ true → is_wire (made name changes) ≡ true
made_sound name given c s a b horizon runs changes named within small are is names =
    let all : changes ≡ changes_of (shown_value (value c s) a b) (horizon + 1) = is ∙ wave_changes c s a b runs horizon within are in
    let sound : are_changes changes ≡ true = ap are_changes all ∙ are_sound (shown_value (value c s) a b) (horizon + 1) (omega arith) in
    let known : is_name name ≡ true = ap is_name named ∙ names in
    rw (known, sound) refl
