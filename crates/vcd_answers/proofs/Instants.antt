-- Changes of all wires in the order of time, and their lines.
use Rattle.std.proofs.Common.{◌≡◌, ℕ, zero, suc, ◌+◌, ◌<◌, Bool, true, false, cond, ◌||◌, eqb, List, [], ◌∷◌, ◌++◌, length, refl, sym, ap, subst, ◌∙◌, append_assoc, arith, eq-eqb, drop, drop-cons, get_or}
use Rattle.std.proofs.lemmas.Bool.{ne_eqb, eqb-true, leb-true, ltb-true, and_parts}
use Rattle.std.proofs.lemmas.Grind.{flat_map-append}
use Rattle.std.proofs.lemmas.List.{map-append}
use Rattle.std.proofs.lemmas.List.Elements.{filter-append}
use Rattle.std.proofs.lemmas.List.Sorted.{All-permutation}
use Rattle.std.specs.Prelude.{map, filter, flat_map, codes}
use Rattle.std.specs.List.{range_with_len, list_any, list_all, All}
use Rattle.std.specs.List.Sorted.{IsNonDecreasingBy, IsStableByKey, IsPermutation}
use Rattle.std.specs.Ordering.{nat_cmp}
use Rattle.std.proofs.lemmas.Fmt.{decimal_digit}
use Rattle.gate_values.specs.declared.Value.TheVariants.{X}
use Rattle.circuit_meaning.specs.declared.Run.{Run}
use Rattle.texts.specs.Text.{is_name}
use Rattle.vcd_answers.specs.declared.writing.Event.{Event}
use Rattle.vcd_answers.specs.Wires.{Wire, last_time, goes_on, are_changes, is_wire}
use Rattle.vcd_answers.specs.Dumps.{first_code, is_at, change_line, time_line, change_lines, changes_at, is_instant, instant_lines, body_lines, var_line, var_lines, with_line_feed, vcd_of}
use Rattle.vcd_answers.specs.inner.Events.{event, run_of, by_wire, events_at, by_time, event_text}
use Rattle.vcd_answers.proofs.Grouped.{flat_same, of, Rises, Below, rises-from, below-from, grouped, stays}

-- ---- the changes of a wire are in the order of time

abbrev pub time : Run → ℕ
time run = run.time

pub rising : (run : Run) (runs : List Run) → goes_on run runs ≡ true → Rises time run.time runs × Below time (last_time + 1) (run ∷ runs)
rising run [] h = (tt, (omega (arith, leb-true run.time last_time h), tt))
rising run (next ∷ runs) h =
    let parts = and_parts _ _ h in
    let more = rising next runs parts.1 in
    let less : run.time < next.time = ltb-true run.time next.time (and_parts _ _ parts.0).0 in
    ((omega (arith, less), more.0), (omega (arith, less, more.1.0), more.1))

pub changes_rise : (runs : List Run) → are_changes runs ≡ true → Rises time 0 runs × Below time (last_time + 1) runs
changes_rise [] h = absurd cc
changes_rise (run ∷ runs) h = let up = rising run runs (and_parts _ _ h).1 in ((omega arith, up.0), up.1)

-- the changes at each time, one time after another
pub changes_whole : (runs : List Run) → are_changes runs ≡ true → flat_map (λ t. filter (is_at t) runs) (range_with_len 0 (last_time + 1)) ≡ runs
changes_whole runs h = let up = changes_rise runs h in grouped time 0 (last_time + 1) runs up.0 (below_as runs up.1)
  where
    below_as : (l : List Run) → Below time (last_time + 1) l → Below time (0 + (last_time + 1)) l
    below_as [] b = tt
    below_as (x ∷ l) b = (omega (arith, b.0), below_as l b.1)

-- ---- the changes of all wires

abbrev when : Event → ℕ
when e = e.time

of_wire : (code t : ℕ) (runs : List Run) → of when (map (event code) runs) t ≡ map (event code) (filter (is_at t) runs)
of_wire code t [] = refl
of_wire code t (run ∷ runs) = cases (eqb run.time t) (of_wire code t runs)
  where
    cases : (b : Bool) → of when (map (event code) runs) t ≡ map (event code) (filter (is_at t) runs)
        → cond b (event code run ∷ of when (map (event code) runs) t) (of when (map (event code) runs) t) ≡ map (event code) (cond b (run ∷ filter (is_at t) runs) (filter (is_at t) runs))
    cases true more = ap (λ (l : List Event). event code run ∷ l) more
    cases false more = more

of_wires : (code t : ℕ) (wires : List Wire) → of when (by_wire code wires) t ≡ events_at code wires t
of_wires code t [] = refl
of_wires code t (wire ∷ wires) =
    filter-append (λ (e : Event). eqb e.time t) (map (event code) wire.changes) (by_wire (code + 1) wires)
    ∙ ap (λ (l : List Event). l ++ of when (by_wire (code + 1) wires) t) (of_wire code t wire.changes)
    ∙ ap (λ (l : List Event). map (event code) (filter (is_at t) wire.changes) ++ l) (of_wires (code + 1) t wires)

below_append : (b : ℕ) (xs ys : List Event) → Below when b xs → Below when b ys → Below when b (xs ++ ys)
below_append b [] ys one two = two
below_append b (x ∷ xs) ys one two = (one.0, below_append b xs ys one.1 two)

below_wire : (b code : ℕ) (runs : List Run) → Below time b runs → Below when b (map (event code) runs)
below_wire b code [] one = tt
below_wire b code (run ∷ runs) one = (one.0, below_wire b code runs one.1)

pub each_of : (wire : Wire) (wires : List Wire) → list_all is_wire (wire ∷ wires) ≡ true → (is_name wire.name ≡ true) × (are_changes wire.changes ≡ true) × (list_all is_wire wires ≡ true)
each_of wire wires h =
    let both = and_parts _ _ h in
    let own = and_parts _ _ both.0 in
    (own.0, own.1, both.1)

below_wires : (code : ℕ) (wires : List Wire) → list_all is_wire wires ≡ true → Below when (last_time + 1) (by_wire code wires)
below_wires code [] h = tt
below_wires code (wire ∷ wires) h =
    let parts = each_of wire wires h in
    below_append (last_time + 1) (map (event code) wire.changes) (by_wire (code + 1) wires) (below_wire (last_time + 1) code wire.changes (changes_rise wire.changes parts.1).1) (below_wires (code + 1) wires parts.2)

all_below : (b : ℕ) (xs : List Event) → Below when b xs → All (λ e. e.time < b) xs
all_below b [] h k d less = absurd (omega arith)
all_below b (x ∷ xs) h zero d less = h.0
all_below b (x ∷ xs) h (suc k) d less = all_below b xs h.1 k d (omega arith)

-- a stable sort by time
pub sorted_is : (wires : List Wire) (xs ys : List Event) → list_all is_wire wires ≡ true → xs ≡ by_wire first_code wires → IsPermutation xs ys → IsNonDecreasingBy when ys → IsStableByKey when nat_cmp xs ys → ys ≡ by_time wires
sorted_is wires xs ys each are moved up stable =
    let n = last_time + 1 in
    let below_xs : Below when n xs = subst (Below when n) (sym are) (below_wires first_code wires each) in
    let below_ys : Below when (0 + n) ys = below-from when (0 + n) ys (λ k d less. omega (arith, All-permutation (λ (e : Event). e.time < n) xs ys moved (all_below n xs below_xs) k d less)) in
    let whole : flat_map (of when ys) (range_with_len 0 n) ≡ ys = grouped when 0 n ys (rises-from when 0 ys up (λ d some. omega arith)) below_ys in
    let each_time : (t : ℕ) → of when ys t ≡ events_at first_code wires t = λ t. stays when (record { time = t; code = 0; value = X }) xs ys stable ∙ ap (λ (l : List Event). of when l t) are ∙ of_wires first_code t wires in
    sym whole ∙ flat_same (of when ys) (events_at first_code wires) (range_with_len 0 n) each_time

-- ---- the lines of an instant

abbrev pub line_of : Event → List ℕ
line_of e = change_line e.code (run_of e)

map_lines : (code : ℕ) (runs : List Run) → map line_of (map (event code) runs) ≡ map (change_line code) runs
map_lines code [] = refl
map_lines code (run ∷ runs) = ap (λ (l : List (List ℕ)). change_line code run ∷ l) (map_lines code runs)

pub lines_are : (t code : ℕ) (wires : List Wire) → map line_of (events_at code wires t) ≡ change_lines t code wires
lines_are t code [] = refl
lines_are t code (wire ∷ wires) =
    map-append line_of (map (event code) (filter (is_at t) wire.changes)) (events_at (code + 1) wires t)
    ∙ ap (λ (l : List (List ℕ)). l ++ map line_of (events_at (code + 1) wires t)) (map_lines code (filter (is_at t) wire.changes))
    ∙ ap (λ (l : List (List ℕ)). map (change_line code) (filter (is_at t) wire.changes) ++ l) (lines_are t (code + 1) wires)

abbrev pub AllAt : ℕ → List Event → Type 0
AllAt t [] = Unit {0}
AllAt t (e ∷ es) = (e.time ≡ t) × AllAt t es

all_at_append : (t : ℕ) (xs ys : List Event) → AllAt t xs → AllAt t ys → AllAt t (xs ++ ys)
all_at_append t [] ys one two = two
all_at_append t (x ∷ xs) ys one two = (one.0, all_at_append t xs ys one.1 two)

all_at_wire : (t code : ℕ) (runs : List Run) → AllAt t (map (event code) (filter (is_at t) runs))
all_at_wire t code [] = tt
all_at_wire t code (run ∷ runs) = cases (eqb run.time t) refl (all_at_wire t code runs)
  where
    cases : (b : Bool) → eqb run.time t ≡ b → AllAt t (map (event code) (filter (is_at t) runs)) → AllAt t (map (event code) (cond b (run ∷ filter (is_at t) runs) (filter (is_at t) runs)))
    cases true h more = (eqb-true run.time t h, more)
    cases false h more = more

pub all_at : (t code : ℕ) (wires : List Wire) → AllAt t (events_at code wires t)
all_at t code [] = tt
all_at t code (wire ∷ wires) = all_at_append t (map (event code) (filter (is_at t) wire.changes)) (events_at (code + 1) wires t) (all_at_wire t code wire.changes) (all_at t (code + 1) wires)

-- there are lines just where a wire changes
abbrev pub some : {A : Type 0} → List A → Bool
some [] = false
some (x ∷ xs) = true

some_append : (xs ys : List Event) → some (xs ++ ys) ≡ (some xs || some ys)
some_append [] ys = refl
some_append (x ∷ xs) ys = refl

some_wire : (t code : ℕ) (runs : List Run) → some (map (event code) (filter (is_at t) runs)) ≡ list_any (is_at t) runs
some_wire t code [] = refl
some_wire t code (run ∷ runs) = cases (eqb run.time t) (some_wire t code runs)
  where
    cases : (b : Bool) → some (map (event code) (filter (is_at t) runs)) ≡ list_any (is_at t) runs → some (map (event code) (cond b (run ∷ filter (is_at t) runs) (filter (is_at t) runs))) ≡ (b || list_any (is_at t) runs)
    cases true more = refl
    cases false more = more

pub some_at : (t code : ℕ) (wires : List Wire) → some (events_at code wires t) ≡ list_any (changes_at t) wires
some_at t code [] = refl
some_at t code (wire ∷ wires) =
    some_append (map (event code) (filter (is_at t) wire.changes)) (events_at (code + 1) wires t)
    ∙ ap (λ (b : Bool). b || some (events_at (code + 1) wires t)) (some_wire t code wire.changes)
    ∙ ap (λ (b : Bool). list_any (is_at t) wire.changes || b) (some_at t (code + 1) wires)

-- ---- the text of all instants

abbrev text : List (List ℕ) → List ℕ
text lines = flat_map with_line_feed lines

same_time : (t : ℕ) (es rest : List Event) → AllAt t es → event_text t (es ++ rest) ≡ text (map line_of es) ++ event_text t rest
same_time t [] rest all = refl
same_time t (e ∷ es) rest all =
    rw (eq-eqb e.time t all.0) (ap (λ (u : ℕ). with_line_feed (line_of e) ++ event_text u (es ++ rest)) all.0
    ∙ ap (λ (l : List ℕ). with_line_feed (line_of e) ++ l) (same_time t es rest all.1)
    ∙ sym (append_assoc (with_line_feed (line_of e)) (text (map line_of es)) (event_text t rest)))

new_time : (last t : ℕ) (es rest : List Event) → last < t → AllAt t es → some es ≡ true → event_text last (es ++ rest) ≡ with_line_feed (time_line t) ++ event_text t (es ++ rest)
new_time last t [] rest less all is = absurd cc
new_time last t (e ∷ es) rest less all is =
    let other : eqb e.time last ≡ false = ne_eqb e.time last (λ h. omega (arith, all.0)) in
    let own : eqb e.time t ≡ true = eq-eqb e.time t all.0 in
    rw (other, own) (append_assoc (with_line_feed (time_line e.time)) (with_line_feed (line_of e)) (event_text e.time (es ++ rest))
    ∙ ap (λ (u : ℕ). with_line_feed (time_line u) ++ (with_line_feed (line_of e) ++ event_text e.time (es ++ rest))) all.0)

abbrev instants : List Wire → ℕ → ℕ → List (List ℕ)
instants wires a n = flat_map (instant_lines wires) (filter (is_instant wires) (range_with_len a n))

abbrev events : List Wire → ℕ → ℕ → List Event
events wires a n = flat_map (events_at first_code wires) (range_with_len a n)

-- an instant and what follows
instant_text : (wires : List Wire) (a : ℕ) (rest : List (List ℕ)) → text (instant_lines wires a ++ rest) ≡ with_line_feed (time_line a) ++ (text (map line_of (events_at first_code wires a)) ++ text rest)
instant_text wires a rest =
    ap (λ (l : List ℕ). with_line_feed (time_line a) ++ l) (flat_map-append with_line_feed (change_lines a first_code wires) rest
    ∙ ap (λ (l : List (List ℕ)). text l ++ text rest) (sym (lines_are a first_code wires)))

pub empty_is : (es : List Event) → some es ≡ false → es ≡ []
empty_is [] h = refl
empty_is (e ∷ es) h = absurd cc

later_text : (wires : List Wire) (a n last : ℕ) → last < a → event_text last (events wires a n) ≡ text (instants wires a n)
later_text wires a zero last less = refl
later_text wires a (suc n) last less = cases (list_any (changes_at a) wires) refl (λ before h. later_text wires (a + 1) n before h)
  where
    cases : (b : Bool) → list_any (changes_at a) wires ≡ b → ((before : ℕ) → before < a + 1 → event_text before (events wires (a + 1) n) ≡ text (instants wires (a + 1) n))
        → event_text last (events_at first_code wires a ++ events wires (a + 1) n) ≡ text (flat_map (instant_lines wires) (cond (eqb a 0 || list_any (changes_at a) wires) (a ∷ filter (is_instant wires) (range_with_len (a + 1) n)) (filter (is_instant wires) (range_with_len (a + 1) n))))
    cases true h more =
        let are : some (events_at first_code wires a) ≡ true = some_at a first_code wires ∙ h in
        let later = ne_eqb a 0 (λ e. omega arith) in
        rw (later, h) (new_time last a (events_at first_code wires a) (events wires (a + 1) n) less (all_at a first_code wires) are
        ∙ ap (λ (l : List ℕ). with_line_feed (time_line a) ++ l) (same_time a (events_at first_code wires a) (events wires (a + 1) n) (all_at a first_code wires)
        ∙ ap (λ (l : List ℕ). text (map line_of (events_at first_code wires a)) ++ l) (more a (omega arith)))
        ∙ sym (instant_text wires a (instants wires (a + 1) n)))
    cases false h more =
        let later = ne_eqb a 0 (λ e. omega arith) in
        let no_one : events_at first_code wires a ≡ [] = empty_is (events_at first_code wires a) (some_at a first_code wires ∙ h) in
        rw (later, h, no_one) (more last (omega arith))

zero_text : (wires : List Wire) (n k : ℕ) → k ≡ suc n → with_line_feed (time_line 0) ++ event_text 0 (events wires 0 k) ≡ text (instants wires 0 k)
zero_text wires n k is =
    ap (λ (j : ℕ). with_line_feed (time_line 0) ++ event_text 0 (events wires 0 j)) is
    ∙ ap (λ (l : List ℕ). with_line_feed (time_line 0) ++ l) (same_time 0 (events_at first_code wires 0) (events wires 1 n) (all_at 0 first_code wires)
    ∙ ap (λ (l : List ℕ). text (map line_of (events_at first_code wires 0)) ++ l) (later_text wires 1 n 0 (omega arith)))
    ∙ sym (instant_text wires 0 (instants wires 1 n))
    ∙ sym (ap (λ (j : ℕ). text (instants wires 0 j)) is)

-- ---- the whole text

abbrev pub front : List ℕ
front = codes "$timescale 1 ns $end\n$scope module top $end\n"

abbrev pub middle : List ℕ
middle = codes "$upscope $end\n$enddefinitions $end\n#0\n"

pub whole_text : (wires : List Wire) → front ++ (text (var_lines first_code wires) ++ (middle ++ event_text 0 (by_time wires))) ≡ vcd_of wires
unfolding vcd_of
whole_text wires =
    let zero_line : with_line_feed (time_line 0) ≡ codes "#0\n" = ap (λ (l : List ℕ). 35 ∷ (l ++ 10 ∷ [])) (decimal_digit 0 (omega arith)) in
    let body : codes "#0\n" ++ event_text 0 (by_time wires) ≡ text (body_lines wires) = ap (λ (l : List ℕ). l ++ event_text 0 (by_time wires)) (sym zero_line) ∙ zero_text wires last_time (last_time + 1) (omega arith) in
    let tail : middle ++ event_text 0 (by_time wires) ≡ text (codes "$upscope $end" ∷ codes "$enddefinitions $end" ∷ body_lines wires) = ap (λ (l : List ℕ). codes "$upscope $end\n$enddefinitions $end\n" ++ l) body in
    ap (λ (l : List ℕ). front ++ l) (ap (λ (l : List ℕ). text (var_lines first_code wires) ++ l) tail
    ∙ sym (flat_map-append with_line_feed (var_lines first_code wires) (codes "$upscope $end" ∷ codes "$enddefinitions $end" ∷ body_lines wires)))

-- what the program has written
pub written_is : (wires ws : List Wire) (es : List Event) (written : List ℕ) → ws ≡ wires → es ≡ by_time ws → written ≡ ((front ++ flat_map with_line_feed (var_lines first_code ws)) ++ middle) ++ event_text 0 es → written ≡ vcd_of wires
written_is wires ws es written same are is =
    is ∙ ap (λ (l : List Event). ((front ++ text (var_lines first_code ws)) ++ middle) ++ event_text 0 l) are
    ∙ append_assoc (front ++ text (var_lines first_code ws)) middle (event_text 0 (by_time ws))
    ∙ append_assoc front (text (var_lines first_code ws)) (middle ++ event_text 0 (by_time ws))
    ∙ whole_text ws ∙ ap vcd_of same

-- one more line of a wire
pub vars_more : (text new : List ℕ) (code i : ℕ) (wires : List Wire) (wire : Wire) (name : List ℕ) (all : List ℕ) → i < length wires → wire ≡ get_or wires i wire → name ≡ wire.name → new ≡ text ++ with_line_feed (var_line code name)
    → text ++ flat_map with_line_feed (var_lines code (drop i wires)) ≡ all → new ++ flat_map with_line_feed (var_lines (code + 1) (drop (i + 1) wires)) ≡ all
vars_more text new code i wires wire name all less is named written so_far =
    let more : i + 1 ≡ suc i = omega arith in
    let line = var_line code wire.name in
    let rest = flat_map with_line_feed (var_lines (code + 1) (drop (suc i) wires)) in
    let front_is : drop i wires ≡ wire ∷ drop (suc i) wires = drop-cons wires i wire less ∙ ap (λ (w : Wire). w ∷ drop (suc i) wires) (sym is) in
    ap (λ (k : ℕ). new ++ flat_map with_line_feed (var_lines (code + 1) (drop k wires))) more
    ∙ ap (λ (l : List ℕ). l ++ rest) (written ∙ ap (λ (n : List ℕ). text ++ with_line_feed (var_line code n)) named)
    ∙ append_assoc text (with_line_feed line) rest
    ∙ ap (λ (l : List Wire). text ++ flat_map with_line_feed (var_lines code l)) (sym front_is) ∙ so_far
