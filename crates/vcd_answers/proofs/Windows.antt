-- The runs of a window with x on both sides are the changes of the function that the window shows.
use Rattle.std.proofs.Common.{◌≡◌, ℕ, zero, suc, ◌+◌, ◌-◌, ◌<◌, ◌≤◌, Bool, true, false, cond, not, ◌&&◌, ◌||◌, leb, eqb, List, [], ◌∷◌, ◌++◌, refl, sym, ap, ◌∙◌, append-nil, arith, lt-ltb, eq-eqb}
use Rattle.std.proofs.lemmas.Bool.{ne_eqb, le-leb, lt-leb, le-ltb, leb-true, leb-false}
use Rattle.std.specs.Prelude.{map, filter}
use Rattle.std.specs.List.{range_with_len}
use Rattle.gate_values.specs.declared.Value.{Value}
use Rattle.gate_values.specs.declared.Value.TheVariants.{Zero, One, X, Z}
use Rattle.gate_values.specs.Gates.{same_value}
use Rattle.gate_values.proofs.Callers.{same-sym, same_is}
use Rattle.circuit_meaning.specs.declared.Run.{Run}
use Rattle.circuit_meaning.specs.Circuit.{Circuit}
use Rattle.circuit_meaning.specs.Forward.{value, wave}
use Rattle.window_walks.specs.Runs.{changes_from, maximal_runs}
use Rattle.vcd_answers.specs.Wires.{changes_of, shown_value, wire_runs}

same_self : (v w : Value) → v ≡ w → same_value v w ≡ true
same_self Zero Zero e = refl
same_self One One e = refl
same_self X X e = refl
same_self Z Z e = refl
same_self v w e = absurd cc

abbrev pub point : (ℕ → Value) → ℕ → Run
point f t = record { time = t; value = f t }

-- the points from a time on, so many
abbrev pub points : (ℕ → Value) → ℕ → ℕ → List Run
points f a n = map (point f) (range_with_len a n)

-- a change at the time t, where the first time counts as one
abbrev pub differs : (ℕ → Value) → ℕ → ℕ → Bool
differs f first t = eqb t first || not (same_value (f t) (f (t - 1)))

-- ---- the changes of a function are the maximal runs of its points

change_step : (f : ℕ → Value) (v : Value) (a : ℕ) (rest : List Run) (times : List ℕ) (first : Bool) → first ≡ false → changes_from (f a) rest ≡ map (point f) times
    → cond (same_value v (f a)) (changes_from v rest) (point f a ∷ changes_from (f a) rest) ≡ map (point f) (cond (first || not (same_value (f a) v)) (a ∷ times) times)
change_step f v a rest times first later more = cases (same_value v (f a)) refl
  where
    cases : (b : Bool) → same_value v (f a) ≡ b → cond b (changes_from v rest) (point f a ∷ changes_from (f a) rest) ≡ map (point f) (cond (first || not (same_value (f a) v)) (a ∷ times) times)
    cases true h = rw (later, same-sym (f a) v, h) (ap (λ (w : Value). changes_from w rest) (same_is v (f a) h) ∙ more)
    cases false h = rw (later, same-sym (f a) v, h) (ap (λ (l : List Run). point f a ∷ l) more)

changes_behind : (f : ℕ → Value) (first a n : ℕ) → first < a → changes_from (f (a - 1)) (points f a n) ≡ map (point f) (filter (differs f first) (range_with_len a n))
changes_behind f first a zero l = refl
changes_behind f first a (suc n) l =
    let back : (a + 1) - 1 ≡ a = omega arith in
    let more = changes_behind f first (a + 1) n (omega arith) in
    change_step f (f (a - 1)) a (points f (a + 1) n) (filter (differs f first) (range_with_len (a + 1) n)) (eqb a first) (ne_eqb a first (λ e. omega arith)) (ap (λ (t : ℕ). changes_from (f t) (points f (a + 1) n)) (sym back) ∙ more)

pub changes_whole : (f : ℕ → Value) (a n : ℕ) → map (point f) (filter (differs f a) (range_with_len a (suc n))) ≡ maximal_runs (points f a (suc n))
changes_whole f a n =
    let first : eqb a a ≡ true = eq-eqb a a refl in
    let back : (a + 1) - 1 ≡ a = omega arith in
    rw first (ap (λ (l : List Run). point f a ∷ l) (sym (ap (λ (t : ℕ). changes_from (f t) (points f (a + 1) n)) (sym back) ∙ changes_behind f a (a + 1) n (omega arith))))

runs_whole : (f : ℕ → Value) (a n : ℕ) → map (point f) (filter (differs f a) (range_with_len a n)) ≡ maximal_runs (points f a n)
runs_whole f a zero = refl
runs_whole f a (suc n) = changes_whole f a n

pub wave_points : (c : Circuit) (s a b : ℕ) → wave c s a b ≡ maximal_runs (points (value c s) a (b - a))
unfolding wave
wave_points c s a b = runs_whole (value c s) a (b - a)

pub changes_points : (f : ℕ → Value) (n : ℕ) → changes_of f n ≡ maximal_runs (points f 0 (suc n))
changes_points f n =
    let more : n + 1 ≡ suc n = omega arith in
    ap (λ (k : ℕ). map (point f) (filter (differs f 0) (range_with_len 0 k))) more ∙ changes_whole f 0 n

-- ---- maximal runs in place of their points

join_changes : (v : Value) (ps qs : List Run) → changes_from v (changes_from v ps ++ qs) ≡ changes_from v (ps ++ qs)
join_changes v [] qs = refl
join_changes v (p ∷ ps) qs = cases (same_value v p.value) refl (join_changes v ps qs) (join_changes p.value ps qs)
  where
    cases : (b : Bool) → same_value v p.value ≡ b → changes_from v (changes_from v ps ++ qs) ≡ changes_from v (ps ++ qs) → changes_from p.value (changes_from p.value ps ++ qs) ≡ changes_from p.value (ps ++ qs)
        → changes_from v (cond b (changes_from v ps) (p ∷ changes_from p.value ps) ++ qs) ≡ cond b (changes_from v (ps ++ qs)) (p ∷ changes_from p.value (ps ++ qs))
    cases true h on new = on
    cases false h on new = rw h (ap (λ (l : List Run). p ∷ l) new)

join_all : (ps qs : List Run) → maximal_runs (maximal_runs ps ++ qs) ≡ maximal_runs (ps ++ qs)
join_all [] qs = refl
join_all (p ∷ ps) qs = ap (λ (l : List Run). p ∷ l) (join_changes p.value ps qs)

join_behind : (v : Value) (ps qs : List Run) → changes_from v (maximal_runs ps ++ qs) ≡ changes_from v (ps ++ qs)
join_behind v [] qs = refl
join_behind v (p ∷ ps) qs = cases (same_value v p.value) refl
  where
    cases : (b : Bool) → same_value v p.value ≡ b
        → cond b (changes_from v (changes_from p.value ps ++ qs)) (p ∷ changes_from p.value (changes_from p.value ps ++ qs)) ≡ cond b (changes_from v (ps ++ qs)) (p ∷ changes_from p.value (ps ++ qs))
    cases true h = ap (λ (w : Value). changes_from v (changes_from w ps ++ qs)) (sym (same_is v p.value h)) ∙ join_changes v ps qs
    cases false h = ap (λ (l : List Run). p ∷ l) (join_changes p.value ps qs)

-- ---- where the function keeps its value

-- the function has this value so many times from a on
abbrev Keeps : (ℕ → Value) → Value → ℕ → ℕ → Type 0
Keeps f v a n = (t : ℕ) → a ≤ t → t < a + n → f t ≡ v

keeps_more : (f : ℕ → Value) (v : Value) (a n : ℕ) → Keeps f v a (suc n) → Keeps f v (a + 1) n
keeps_more f v a n keeps t low high = keeps t (omega arith) (omega arith)

steady : (f : ℕ → Value) (v : Value) (a n : ℕ) (qs : List Run) → Keeps f v a n → changes_from v (points f a n ++ qs) ≡ changes_from v qs
steady f v a zero qs keeps = refl
steady f v a (suc n) qs keeps =
    let here : f a ≡ v = keeps a (omega arith) (omega arith) in
    rw (same_self v (f a) (sym here)) (steady f v (a + 1) n qs (keeps_more f v a n keeps))

steady_none : (f : ℕ → Value) (v : Value) (a n : ℕ) → Keeps f v a n → changes_from v (points f a n) ≡ []
steady_none f v a n keeps = ap (changes_from v) (sym (append-nil (points f a n))) ∙ steady f v a n [] keeps

abbrev last : ℕ → Value → List Run
last b w = record { time = b; value = w } ∷ []

-- such points behind others are as one
settles : (v : Value) (ps : List Run) (f : ℕ → Value) (w : Value) (b n : ℕ) → Keeps f w b (suc n) → changes_from v (ps ++ points f b (suc n)) ≡ changes_from v (ps ++ last b w)
settles v [] f w b n keeps =
    let here : f b ≡ w = keeps b (omega arith) (omega arith) in
    let none = steady_none f w (b + 1) n (keeps_more f w b n keeps) in
    ap (λ (u : Value). changes_from v (record { time = b; value = u } ∷ points f (b + 1) n)) here ∙ cases (same_value v w) refl none
  where
    cases : (s : Bool) → same_value v w ≡ s → changes_from w (points f (b + 1) n) ≡ [] → cond s (changes_from v (points f (b + 1) n)) (record { time = b; value = w } ∷ changes_from w (points f (b + 1) n)) ≡ cond s [] (last b w)
    cases true h none = ap (λ (u : Value). changes_from u (points f (b + 1) n)) (same_is v w h) ∙ none
    cases false h none = ap (λ (l : List Run). record { time = b; value = w } ∷ l) none
settles v (p ∷ ps) f w b n keeps = cases (same_value v p.value) (settles v ps f w b n keeps) (settles p.value ps f w b n keeps)
  where
    cases : (s : Bool) → changes_from v (ps ++ points f b (suc n)) ≡ changes_from v (ps ++ last b w) → changes_from p.value (ps ++ points f b (suc n)) ≡ changes_from p.value (ps ++ last b w)
        → cond s (changes_from v (ps ++ points f b (suc n))) (p ∷ changes_from p.value (ps ++ points f b (suc n))) ≡ cond s (changes_from v (ps ++ last b w)) (p ∷ changes_from p.value (ps ++ last b w))
    cases true on new = on
    cases false on new = ap (λ (l : List Run). p ∷ l) new

settles_all : (ps : List Run) (f : ℕ → Value) (w : Value) (b n : ℕ) → Keeps f w b (suc n) → maximal_runs (ps ++ points f b (suc n)) ≡ maximal_runs (ps ++ last b w)
settles_all [] f w b n keeps =
    let here : f b ≡ w = keeps b (omega arith) (omega arith) in
    ap (λ (u : Value). record { time = b; value = u } ∷ changes_from u (points f (b + 1) n)) here
    ∙ ap (λ (l : List Run). record { time = b; value = w } ∷ l) (steady_none f w (b + 1) n (keeps_more f w b n keeps))
settles_all (p ∷ ps) f w b n keeps = ap (λ (l : List Run). p ∷ l) (settles p.value ps f w b n keeps)

-- ---- stretches of points

points_split : (f : ℕ → Value) (a m n k b : ℕ) → k ≡ m + n → b ≡ a + m → points f a k ≡ points f a m ++ points f b n
points_split f a zero n k b ks bs =
    let k_is : k ≡ n = omega arith in
    let b_is : b ≡ a = omega arith in
    ap (λ (x : ℕ). points f a x) k_is ∙ ap (λ (x : ℕ). points f x n) (sym b_is)
points_split f a (suc m) n zero b ks bs = absurd (omega arith)
points_split f a (suc m) n (suc k) b ks bs = ap (λ (l : List Run). point f a ∷ l) (points_split f (a + 1) m n k b (omega arith) (omega arith))

points_same : (f g : ℕ → Value) (a n : ℕ) → ((t : ℕ) → a ≤ t → t < a + n → f t ≡ g t) → points f a n ≡ points g a n
points_same f g a zero same = refl
points_same f g a (suc n) same =
    ap (λ (v : Value). record { time = a; value = v } ∷ points f (a + 1) n) (same a (omega arith) (omega arith))
    ∙ ap (λ (l : List Run). point g a ∷ l) (points_same f g (a + 1) n (λ t low high. same t (omega arith) (omega arith)))

-- ---- the window

shown_inside : (f : ℕ → Value) (a b t : ℕ) → a ≤ t → t < b → shown_value f a b t ≡ f t
shown_inside f a b t low high = rw (le-leb a t low, lt-ltb t b high) refl

shown_before : (f : ℕ → Value) (a b t : ℕ) → t < a → shown_value f a b t ≡ X
shown_before f a b t low = rw (lt-leb a t low) refl

shown_behind : (f : ℕ → Value) (a b t : ℕ) → b ≤ t → shown_value f a b t ≡ X
shown_behind f a b t high = rw (le-ltb t b high) (cases (leb a t))
  where
    cases : (x : Bool) → cond (x && false) (f t) X ≡ X
    cases true = refl
    cases false = refl

abbrev window : (ℕ → Value) → ℕ → ℕ → List Run
window f a b = maximal_runs (points f a (b - a))

from_zero : (f : ℕ → Value) (b n : ℕ) → b ≤ n → maximal_runs (wire_runs 0 b (window f 0 b)) ≡ maximal_runs (points (shown_value f 0 b) 0 (suc n))
from_zero f b n within =
    let g = shown_value f 0 b in
    let all : b - 0 ≡ b = omega arith in
    let inside : points f 0 b ≡ points g 0 b = points_same f g 0 b (λ t low high. sym (shown_inside f 0 b t low (omega arith))) in
    let tail = settles_all (points g 0 b) g X b (n - b) (λ t low high. shown_behind f 0 b t low) in
    let parts = points_split g 0 b (suc (n - b)) (suc n) b (omega arith) (omega arith) in
    join_all (points f 0 (b - 0)) (last b X)
    ∙ ap (λ (l : List Run). maximal_runs (l ++ last b X)) (ap (points f 0) all ∙ inside)
    ∙ sym tail ∙ ap maximal_runs (sym parts)

from_later : (f : ℕ → Value) (a b n : ℕ) → suc a ≤ b → b ≤ n → maximal_runs (wire_runs (suc a) b (window f (suc a) b)) ≡ maximal_runs (points (shown_value f (suc a) b) 0 (suc n))
from_later f a b n order within =
    let g = shown_value f (suc a) b in
    let m = b - suc a in
    let rest = points g b (suc (n - b)) in
    let first : g 0 ≡ X = shown_before f (suc a) b 0 (omega arith) in
    let later : eqb (suc a) 0 ≡ false = ne_eqb (suc a) 0 (λ e. omega arith) in
    let inside : points f (suc a) m ≡ points g (suc a) m = points_same f g (suc a) m (λ t low high. sym (shown_inside f (suc a) b t low (omega arith))) in
    let tail : changes_from X (points g (suc a) m ++ rest) ≡ changes_from X (points g (suc a) m ++ last b X) = settles X (points g (suc a) m) g X b (n - b) (λ t low high. shown_behind f (suc a) b t low) in
    let front : changes_from X (points g 1 a ++ (points g (suc a) m ++ rest)) ≡ changes_from X (points g (suc a) m ++ rest) = steady g X 1 a (points g (suc a) m ++ rest) (λ t low high. shown_before f (suc a) b t (omega arith)) in
    let parts : points g 1 n ≡ points g 1 a ++ (points g (suc a) m ++ rest) =
    points_split g 1 a (n - a) n (suc a) (omega arith) (omega arith)
    ∙ ap (λ (l : List Run). points g 1 a ++ l) (points_split g (suc a) m (suc (n - b)) (n - a) b (omega arith) (omega arith)) in
    let mine : changes_from X (window f (suc a) b ++ last b X) ≡ changes_from X (points g 1 n) =
    join_behind X (points f (suc a) m) (last b X)
    ∙ ap (λ (l : List Run). changes_from X (l ++ last b X)) inside
    ∙ sym tail ∙ sym front ∙ ap (changes_from X) (sym parts) in
    rw later (ap (λ (l : List Run). record { time = 0; value = X } ∷ l) mine
    ∙ ap (λ (v : Value). record { time = 0; value = v } ∷ changes_from v (points g 1 n)) (sym first))

-- a window that ends where it begins or before shows nothing
shown_never : (f : ℕ → Value) (a b t : ℕ) → b ≤ a → shown_value f a b t ≡ X
shown_never f a b t empty = cases (leb a t) refl
  where
    cases : (x : Bool) → leb a t ≡ x → shown_value f a b t ≡ X
    cases true e = shown_behind f a b t (omega (arith, leb-true a t e))
    cases false e = rw e refl

from_none : (f : ℕ → Value) (a b n : ℕ) → b ≤ suc a → maximal_runs (wire_runs (suc a) b (window f (suc a) b)) ≡ maximal_runs (points (shown_value f (suc a) b) 0 (suc n))
from_none f a b n empty =
    let later : eqb (suc a) 0 ≡ false = ne_eqb (suc a) 0 (λ e. omega arith) in
    let none : b - suc a ≡ 0 = omega arith in
    rw (later, none) (sym (settles_all [] (shown_value f (suc a) b) X 0 n (λ t low high. shown_never f (suc a) b t empty)))

pub shown_changes : (f : ℕ → Value) (a b n : ℕ) → b ≤ n → maximal_runs (wire_runs a b (window f a b)) ≡ changes_of (shown_value f a b) n
shown_changes f zero b n within = from_zero f b n within ∙ sym (changes_points (shown_value f 0 b) n)
shown_changes f (suc a) b n within = cases (leb (suc a) b) refl ∙ sym (changes_points (shown_value f (suc a) b) n)
  where
    cases : (x : Bool) → leb (suc a) b ≡ x → maximal_runs (wire_runs (suc a) b (window f (suc a) b)) ≡ maximal_runs (points (shown_value f (suc a) b) 0 (suc n))
    cases true e = from_later f a b n (leb-true (suc a) b e) within
    cases false e = from_none f a b n (omega (arith, leb-false (suc a) b e))

-- the wire of a query
pub wave_changes : (c : Circuit) (s a b : ℕ) (runs : List Run) (horizon : ℕ) → b ≤ horizon + 1 → runs ≡ wave c s a b
    → maximal_runs (wire_runs a b runs) ≡ changes_of (shown_value (value c s) a b) (horizon + 1)
wave_changes c s a b runs horizon within are =
    ap (λ (l : List Run). maximal_runs (wire_runs a b l)) (are ∙ wave_points c s a b) ∙ shown_changes (value c s) a b (horizon + 1) within
