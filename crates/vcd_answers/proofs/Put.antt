-- Changes that are put to the wires one after another.
use Rattle.std.proofs.Common.{◌≡◌, ℕ, zero, suc, ◌+◌, ◌-◌, ◌<◌, ◌≤◌, Bool, true, false, cond, eqb, List, [], ◌∷◌, ◌++◌, length, refl, sym, ap, subst, ◌∙◌, append_assoc, append-nil, arith, eq-eqb}
use Rattle.std.proofs.lemmas.Bool.{ne_eqb}
use Rattle.std.proofs.lemmas.List.{map-append}
use Rattle.std.proofs.lemmas.List.Elements.{filter-append}
use Rattle.std.specs.Prelude.{map, filter, flat_map}
use Rattle.std.specs.List.{range_with_len, list_all}
use Rattle.circuit_meaning.specs.declared.Run.{Run}
use Rattle.vcd_answers.specs.declared.writing.Event.{Event}
use Rattle.vcd_answers.specs.Wires.{Wire, last_time, is_wire}
use Rattle.vcd_answers.specs.Dumps.{first_code, is_at}
use Rattle.vcd_answers.specs.inner.Events.{event, run_of, events_at, by_time}
use Rattle.vcd_answers.specs.inner.Reading.{blank, put_at}
use Rattle.vcd_answers.proofs.Grouped.{flat_same}
use Rattle.vcd_answers.proofs.Instants.{each_of, changes_whole}

abbrev pub put_events : List Wire → List Event → List Wire
put_events wires [] = wires
put_events wires (e ∷ es) = put_events (put_at (e.code - 33) (run_of e) wires) es

pub put_append : (wires : List Wire) (xs ys : List Event) → put_events wires (xs ++ ys) ≡ put_events (put_events wires xs) ys
put_append wires [] ys = refl
put_append wires (x ∷ xs) ys = put_append (put_at (x.code - 33) (run_of x) wires) xs ys

pub length-put_at : (place : ℕ) (run : Run) (wires : List Wire) → length (put_at place run wires) ≡ length wires
length-put_at place run [] = refl
length-put_at zero run (wire ∷ wires) = refl
length-put_at (suc place) run (wire ∷ wires) = ap suc (length-put_at place run wires)

pub length-put_events : (wires : List Wire) (es : List Event) → length (put_events wires es) ≡ length wires
length-put_events wires [] = refl
length-put_events wires (e ∷ es) = length-put_events (put_at (e.code - 33) (run_of e) wires) es ∙ length-put_at (e.code - 33) (run_of e) wires

-- ---- the codes of changes

abbrev pub Codes : ℕ → ℕ → List Event → Type 0
Codes low high [] = Unit {0}
Codes low high (e ∷ es) = (low ≤ e.code) × (e.code < high) × Codes low high es

codes_append : (low high : ℕ) (xs ys : List Event) → Codes low high xs → Codes low high ys → Codes low high (xs ++ ys)
codes_append low high [] ys one two = two
codes_append low high (x ∷ xs) ys one two = (one.0, one.1, codes_append low high xs ys one.2 two)

pub codes_wide : (low high l h : ℕ) (es : List Event) → l ≤ low → high ≤ h → Codes low high es → Codes l h es
codes_wide low high l h [] a b are = tt
codes_wide low high l h (e ∷ es) a b are = (omega (arith, are.0), omega (arith, are.1), codes_wide low high l h es a b are.2)

codes_wire : (code t : ℕ) (runs : List Run) → Codes code (code + 1) (map (event code) (filter (is_at t) runs))
codes_wire code t [] = tt
codes_wire code t (run ∷ runs) = cases (eqb run.time t) (codes_wire code t runs)
  where
    cases : (b : Bool) → Codes code (code + 1) (map (event code) (filter (is_at t) runs)) → Codes code (code + 1) (map (event code) (cond b (run ∷ filter (is_at t) runs) (filter (is_at t) runs)))
    cases true more = (omega arith, omega arith, more)
    cases false more = more

pub codes_at : (code t : ℕ) (wires : List Wire) → Codes code (code + length wires) (events_at code wires t)
codes_at code t [] = tt
codes_at code t (wire ∷ wires) = codes_append code (code + suc (length wires)) (map (event code) (filter (is_at t) wire.changes)) (events_at (code + 1) wires t)
    (codes_wide code (code + 1) code (code + suc (length wires)) (map (event code) (filter (is_at t) wire.changes)) (omega arith) (omega arith) (codes_wire code t wire.changes))
    (codes_wide (code + 1) ((code + 1) + length wires) code (code + suc (length wires)) (events_at (code + 1) wires t) (omega arith) (omega arith) (codes_at (code + 1) t wires))

pub codes_all : (wires : List Wire) (ts : List ℕ) → Codes 33 (33 + length wires) (flat_map (events_at first_code wires) ts)
codes_all wires [] = tt
codes_all wires (t ∷ ts) = codes_append 33 (33 + length wires) (events_at first_code wires t) (flat_map (events_at first_code wires) ts) (codes_at 33 t wires) (codes_all wires ts)

-- ---- the runs of a code

abbrev own : ℕ → List Event → List Event
own code es = filter (λ e. eqb e.code code) es

abbrev runs_of : ℕ → List Event → List Run
runs_of code es = map run_of (own code es)

runs_append : (code : ℕ) (xs ys : List Event) → runs_of code (xs ++ ys) ≡ runs_of code xs ++ runs_of code ys
runs_append code xs ys = ap (map run_of) (filter-append (λ (e : Event). eqb e.code code) xs ys) ∙ map-append run_of (own code xs) (own code ys)

runs_flat : (code : ℕ) (f : ℕ → List Event) (ts : List ℕ) → runs_of code (flat_map f ts) ≡ flat_map (λ t. runs_of code (f t)) ts
runs_flat code f [] = refl
runs_flat code f (t ∷ ts) = runs_append code (f t) (flat_map f ts) ∙ ap (λ (l : List Run). runs_of code (f t) ++ l) (runs_flat code f ts)

runs_none : (low high code : ℕ) (es : List Event) → Codes low high es → ((k : ℕ) → low ≤ k → k < high → k ≡ code → ⊥) → runs_of code es ≡ []
runs_none low high code [] are apart = refl
runs_none low high code (e ∷ es) are apart = rw (ne_eqb e.code code (apart e.code are.0 are.1)) (runs_none low high code es are.2 apart)

runs_own : (code t : ℕ) (runs : List Run) → runs_of code (map (event code) (filter (is_at t) runs)) ≡ filter (is_at t) runs
runs_own code t runs = each (filter (is_at t) runs)
  where
    each : (l : List Run) → runs_of code (map (event code) l) ≡ l
    each [] = refl
    each (run ∷ l) = rw (eq-eqb code code refl) (ap (λ (m : List Run). run ∷ m) (each l))

-- ---- each wire gets the runs of its code

abbrev appended : ℕ → List Wire → List Event → List Wire
appended code [] es = []
appended code (wire ∷ wires) es = record wire { changes = wire.changes ++ runs_of code es } ∷ appended (code + 1) wires es

append_none : (code : ℕ) (wires : List Wire) → appended code wires [] ≡ wires
append_none code [] = refl
append_none code (wire ∷ wires) =
    ap (λ (l : List Run). record wire { changes = l } ∷ appended (code + 1) wires []) (append-nil wire.changes)
    ∙ ap (λ (l : List Wire). wire ∷ l) (append_none (code + 1) wires)

append_skip : (code : ℕ) (wires : List Wire) (e : Event) (es : List Event) → e.code < code → appended code wires es ≡ appended code wires (e ∷ es)
append_skip code [] e es less = refl
append_skip code (wire ∷ wires) e es less =
    rw (ne_eqb e.code code (λ h. omega arith)) (ap (λ (l : List Wire). record wire { changes = wire.changes ++ runs_of code es } ∷ l) (append_skip (code + 1) wires e es (omega arith)))

append_put : (code place : ℕ) (wires : List Wire) (e : Event) (es : List Event) → e.code ≡ code + place → place < length wires → appended code (put_at place (run_of e) wires) es ≡ appended code wires (e ∷ es)
append_put code place [] e es is less = absurd (omega arith)
append_put code zero (wire ∷ wires) e es is less =
    rw (eq-eqb e.code code (omega arith)) (ap (λ (l : List Run). record wire { changes = l } ∷ appended (code + 1) wires es) (append_assoc wire.changes (run_of e ∷ []) (runs_of code es))
    ∙ ap (λ (l : List Wire). record wire { changes = wire.changes ++ run_of e ∷ runs_of code es } ∷ l) (append_skip (code + 1) wires e es (omega arith)))
append_put code (suc place) (wire ∷ wires) e es is less =
    rw (ne_eqb e.code code (λ h. omega arith)) (ap (λ (l : List Wire). record wire { changes = wire.changes ++ runs_of code es } ∷ l) (append_put (code + 1) place wires e es (omega arith) (omega arith)))

put_is : (wires : List Wire) (es : List Event) → Codes 33 (33 + length wires) es → put_events wires es ≡ appended 33 wires es
put_is wires [] are = sym (append_none 33 wires)
put_is wires (e ∷ es) are =
    let place = e.code - 33 in
    let more = put_is (put_at place (run_of e) wires) es (codes_wide 33 (33 + length wires) 33 (33 + length (put_at place (run_of e) wires)) es (omega arith) (omega (arith, length-put_at place (run_of e) wires)) are.2) in
    more ∙ append_put 33 place wires e es (omega (arith, are.0)) (omega (arith, are.0, are.1))

-- ---- the changes of all wires, in the order of time

abbrev Match : ℕ → List Wire → List Event → Type 0
Match code [] es = Unit {0}
Match code (wire ∷ wires) es = (runs_of code es ≡ wire.changes) × Match (code + 1) wires es

match_same : (code : ℕ) (wires : List Wire) (xs ys : List Event) → xs ≡ ys → Match code wires xs → Match code wires ys
match_same code wires xs ys same are = subst (Match code wires) same are

abbrev pub blanks : List Wire → List Wire
blanks wires = map (λ wire. blank wire.name) wires

matched : (code : ℕ) (wires : List Wire) (es : List Event) → Match code wires es → appended code (blanks wires) es ≡ wires
matched code [] es are = refl
matched code (wire ∷ wires) es are =
    ap (λ (l : List Run). record { name = wire.name; changes = l } ∷ appended (code + 1) (blanks wires) es) are.0
    ∙ ap (λ (l : List Wire). wire ∷ l) (matched (code + 1) wires es are.1)

abbrev times : List ℕ
times = range_with_len 0 (last_time + 1)

at_once : (code t : ℕ) (before : List Event) (wire : Wire) (wires : List Wire) → Codes 0 code before
    → runs_of code (before ++ (map (event code) (filter (is_at t) wire.changes) ++ events_at (code + 1) wires t)) ≡ filter (is_at t) wire.changes
at_once code t before wire wires are =
    let mine = map (event code) (filter (is_at t) wire.changes) in
    let later = events_at (code + 1) wires t in
    runs_append code before (mine ++ later)
    ∙ ap (λ (l : List Run). l ++ runs_of code (mine ++ later)) (runs_none 0 code code before are (λ k low high same. omega arith))
    ∙ runs_append code mine later
    ∙ ap (λ (l : List Run). l ++ runs_of code later) (runs_own code t wire.changes)
    ∙ ap (λ (l : List Run). filter (is_at t) wire.changes ++ l) (runs_none (code + 1) ((code + 1) + length wires) code later (codes_at (code + 1) t wires) (λ k low high same. omega arith))
    ∙ append-nil (filter (is_at t) wire.changes)

all_match : (code : ℕ) (wires : List Wire) (before : ℕ → List Event) → list_all is_wire wires ≡ true → ((t : ℕ) → Codes 0 code (before t)) → Match code wires (flat_map (λ t. before t ++ events_at code wires t) times)
all_match code [] before each are = tt
all_match code (wire ∷ wires) before each are =
    let parts = each_of wire wires each in
    let mine : ℕ → List Event = λ t. map (event code) (filter (is_at t) wire.changes) in
    let whole : ℕ → List Event = λ t. before t ++ (mine t ++ events_at (code + 1) wires t) in
    let first : runs_of code (flat_map whole times) ≡ wire.changes =
    runs_flat code whole times
    ∙ flat_same (λ t. runs_of code (whole t)) (λ t. filter (is_at t) wire.changes) times (λ t. at_once code t (before t) wire wires (are t))
    ∙ changes_whole wire.changes parts.1 in
    let others : Match (code + 1) wires (flat_map (λ t. (before t ++ mine t) ++ events_at (code + 1) wires t) times) =
    all_match (code + 1) wires (λ t. before t ++ mine t) parts.2 (λ t. codes_append 0 (code + 1) (before t) (mine t)
    (codes_wide 0 code 0 (code + 1) (before t) (omega arith) (omega arith) (are t)) (codes_wide code (code + 1) 0 (code + 1) (mine t) (omega arith) (omega arith) (codes_wire code t wire.changes))) in (
      first,
      match_same (code + 1) wires (flat_map (λ t. (before t ++ mine t) ++ events_at (code + 1) wires t) times) (flat_map whole times)
          (flat_same (λ t. (before t ++ mine t) ++ events_at (code + 1) wires t) whole times (λ t. append_assoc (before t) (mine t) (events_at (code + 1) wires t))) others,
    )

pub length_blanks : (wires : List Wire) → length (blanks wires) ≡ length wires
length_blanks [] = refl
length_blanks (wire ∷ wires) = ap suc (length_blanks wires)

pub put_all : (wires : List Wire) → list_all is_wire wires ≡ true → put_events (blanks wires) (by_time wires) ≡ wires
put_all wires each =
    put_is (blanks wires) (by_time wires) (codes_wide 33 (33 + length wires) 33 (33 + length (blanks wires)) (by_time wires) (omega arith) (omega (arith, length_blanks wires)) (codes_all wires times))
    ∙ matched 33 wires (by_time wires) (all_match 33 wires (λ t. []) each (λ t. tt))
