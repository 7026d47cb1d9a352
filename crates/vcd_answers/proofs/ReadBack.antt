-- What is written is read again.
use Rattle.std.proofs.Common.{◌≡◌, ℕ, zero, suc, ◌+◌, ◌-◌, ◌≤◌, Bool, true, false, cond, eqb, ltb, List, [], ◌∷◌, ◌++◌, length, take, drop, Option, Some, None, refl, sym, ap, ◌∙◌, append_assoc, append-nil, length-append, arith, lt-ltb}
use Rattle.std.proofs.lemmas.Bool.{le-leb, or_parts}
use Rattle.std.proofs.Math.Seq.{take-append_seam}
use Rattle.std.specs.Prelude.{map, filter, flat_map, codes}
use Rattle.std.specs.List.{range_with_len, list_all, list_any}
use Rattle.gate_values.specs.declared.Value.{Value}
use Rattle.gate_values.specs.declared.Value.TheVariants.{Zero, One, X, Z}
use Rattle.gate_values.specs.Spelling.{byte_of_value}
use Rattle.circuit_meaning.specs.declared.Run.{Run}
use Rattle.texts.specs.Text.{lines}
use Rattle.vcd_answers.specs.declared.writing.Event.{Event}
use Rattle.vcd_answers.specs.declared.reading.Line.TheVariants.{Time, Change}
use Rattle.vcd_answers.specs.Wires.{Wire, last_time, is_wire, AreWires}
use Rattle.vcd_answers.specs.Dumps.{first_code, changes_at, is_instant, time_line, change_lines, instant_lines, body_lines, var_line, var_lines, vcd_lines, vcd_of}
use Rattle.vcd_answers.specs.inner.Events.{run_of, events_at}
use Rattle.vcd_answers.specs.inner.Reading.{line_at, blank, is_var, name_in, with_names, put_at, step, with_changes, read_of}
use Rattle.vcd_answers.proofs.Places.{lines_end}
use Rattle.vcd_answers.proofs.Sound.{last_is}
use Rattle.vcd_answers.proofs.Instants.{AllAt, all_at, line_of, lines_are, some_at, empty_is}
use Rattle.vcd_answers.proofs.Plain.{amount_is, lines_of_dump}
use Rattle.vcd_answers.proofs.Put.{put_events, put_append, length-put_at, length-put_events, Codes, codes_wide, codes_at, blanks, length_blanks, put_all}

-- ---- the names

var_length : (code : ℕ) (name : List ℕ) → length (var_line code name) ≡ 19 + length name
var_length code name = omega (arith, length-append name (codes " $end"))

var_is : (code : ℕ) (name : List ℕ) → is_var (var_line code name) ≡ true
var_is code name = rw (le-leb 19 (length (var_line code name)) (omega (arith, var_length code name))) refl

var_name : (code : ℕ) (name : List ℕ) → name_in (var_line code name) ≡ name
var_name code name =
    let len : length (var_line code name) - 19 ≡ length name = omega (arith, var_length code name) in
    ap (λ (n : ℕ). take n (name ++ codes " $end")) len ∙ take-append_seam name (codes " $end")

names_again : (before : List Wire) (code : ℕ) (wires : List Wire) (line : List ℕ) (rest : List (List ℕ)) → is_var line ≡ false → with_names before (var_lines code wires ++ line ∷ rest) ≡ (before ++ blanks wires, line ∷ rest)
names_again before code [] line rest other = rw other (ap (λ (l : List Wire). (l, line ∷ rest)) (sym (append-nil before)))
names_again before code (wire ∷ wires) line rest other =
    rw (var_is code wire.name) (ap (λ (name : List ℕ). with_names (before ++ blank name ∷ []) (var_lines (code + 1) wires ++ line ∷ rest)) (var_name code wire.name)
    ∙ names_again (before ++ blank wire.name ∷ []) (code + 1) wires line rest other
    ∙ ap (λ (l : List Wire). (l, line ∷ rest)) (append_assoc before (blank wire.name ∷ []) (blanks wires)))

-- ---- the changes

change_is : (v : Value) (code : ℕ) → 33 ≤ code → line_at (byte_of_value v ∷ code ∷ []) ≡ Some (Change (code - 33) v)
change_is Zero code from = rw (le-leb 33 code from) refl
change_is One code from = rw (le-leb 33 code from) refl
change_is X code from = rw (le-leb 33 code from) refl
change_is Z code from = rw (le-leb 33 code from) refl

time_is : (t : ℕ) → t ≤ 1000001 → line_at (time_line t) ≡ Some (Time t)
time_is t within = rw (amount_is t within) refl

abbrev go_on : List (List ℕ) → List Wire → ℕ → Option (List Wire)
go_on rest wires t = with_changes wires t rest

abbrev at_run : ℕ → Value → Run
at_run t v = record { time = t; value = v }

changes_again : (t : ℕ) (wires : List Wire) (es : List Event) (rest : List (List ℕ)) → AllAt t es → Codes 33 (33 + length wires) es → with_changes wires t (map line_of es ++ rest) ≡ with_changes (put_events wires es) t rest
changes_again t wires [] rest all are = refl
changes_again t wires (e ∷ es) rest all are =
    let place = e.code - 33 in
    let inside : ltb place (length wires) ≡ true = lt-ltb place (length wires) (omega (arith, are.0, are.1)) in
    let next = put_at place (run_of e) wires in
    let codes_next : Codes 33 (33 + length next) es = codes_wide 33 (33 + length wires) 33 (33 + length next) es (omega arith) (omega (arith, length-put_at place (run_of e) wires)) are.2 in
    ap (step (go_on (map line_of es ++ rest)) wires t) (change_is e.value e.code are.0)
    ∙ rw inside (ap (λ (u : ℕ). with_changes (put_at place (at_run u e.value) wires) t (map line_of es ++ rest)) (sym all.0)
    ∙ changes_again t next es rest all.1 codes_next)

abbrev instants : List Wire → ℕ → ℕ → List (List ℕ)
instants wires a n = flat_map (instant_lines wires) (filter (is_instant wires) (range_with_len a n))

abbrev events : List Wire → ℕ → ℕ → List Event
events wires a n = flat_map (events_at first_code wires) (range_with_len a n)

instants_again : (all : List Wire) (a n t : ℕ) (wires : List Wire) → a + n ≤ 1000002 → length wires ≡ length all → with_changes wires t (instants all a n) ≡ Some (put_events wires (events all a n))
instants_again all a zero t wires within same = refl
instants_again all a (suc n) t wires within same = cases (is_instant all a) refl (λ u ws len. instants_again all (a + 1) n u ws (omega arith) len)
  where
    cases : (b : Bool) → is_instant all a ≡ b → ((u : ℕ) (ws : List Wire) → length ws ≡ length all → with_changes ws u (instants all (a + 1) n) ≡ Some (put_events ws (events all (a + 1) n)))
        → with_changes wires t (flat_map (instant_lines all) (cond b (a ∷ filter (is_instant all) (range_with_len (a + 1) n)) (filter (is_instant all) (range_with_len (a + 1) n)))) ≡ Some (put_events wires (events_at first_code all a ++ events all (a + 1) n))
    cases true h more =
        let es = events_at first_code all a in
        let rest = instants all (a + 1) n in
        ap (step (go_on (change_lines a first_code all ++ rest)) wires t) (time_is a (omega arith))
        ∙ ap (λ (l : List (List ℕ)). with_changes wires a (l ++ rest)) (sym (lines_are a first_code all))
        ∙ changes_again a wires es rest (all_at a first_code all) (codes_wide 33 (33 + length all) 33 (33 + length wires) es (omega arith) (omega arith) (codes_at 33 a all))
        ∙ more a (put_events wires es) (length-put_events wires es ∙ same)
        ∙ ap Some (sym (put_append wires es (events all (a + 1) n)))
    cases false h more =
        let none : events_at first_code all a ≡ [] = empty_is (events_at first_code all a) (some_at a first_code all ∙ (or_parts (eqb a 0) (list_any (changes_at a) all) h).1) in
        more t wires same ∙ ap (λ (l : List Event). Some (put_events wires (l ++ events all (a + 1) n))) (sym none)

-- ---- the whole text

abbrev body_read : List Wire × List (List ℕ) → Option (List Wire)
body_read read = with_changes read.0 0 (drop 1 (drop 1 read.1))

read_lines : (wires : List Wire) → list_all is_wire wires ≡ true → read_of (vcd_lines wires) ≡ Some wires
unfolding read_of
read_lines wires each =
    ap body_read (names_again [] first_code wires (codes "$upscope $end") (codes "$enddefinitions $end" ∷ body_lines wires) refl)
    ∙ instants_again wires 0 (last_time + 1) 0 (blanks wires) (omega (arith, last_is)) (length_blanks wires)
    ∙ ap Some (put_all wires each)

pub reads_back : (wires : List Wire) → AreWires wires → read_of (lines (vcd_of wires)) ≡ Some wires
reads_back wires are = ap read_of (lines_of_dump wires are.each) ∙ read_lines wires are.each

pub one_dump : (a b : List Wire) → AreWires a → AreWires b → vcd_of a ≡ vcd_of b → a ≡ b
one_dump a b isa isb same = let both : Some a ≡ Some b = sym (reads_back a isa) ∙ ap (λ (text : List ℕ). read_of (lines text)) same ∙ reads_back b isb in cc

-- ---- the program's loops

pub names_end : (wires : List Wire) (text : List ℕ) → length text ≡ 0 → with_names wires (lines text) ≡ (wires, lines text)
names_end wires text none = rw (lines_end text none) refl

pub names_other : (wires : List Wire) (all : List (List ℕ)) (line : List ℕ) (rest : List (List ℕ)) → all ≡ line ∷ rest → is_var line ≡ false → with_names wires all ≡ (wires, all)
names_other wires all line rest is other = rw (is, other) refl

abbrev pub some_wires : List Wire → Option (List Wire)
some_wires wires = Some wires

pub changes_end : (wires : List Wire) (t : ℕ) (text : List ℕ) → length text ≡ 0 → with_changes wires t (lines text) ≡ some_wires wires
changes_end wires t text none = rw (lines_end text none) refl

-- ---- the program's answers

pub read_none : (text : List ℕ) (wires : List Wire) → None ≡ read_of (lines text) → AreWires wires → text ≡ vcd_of wires → ⊥
read_none text wires none are same = let both : None ≡ some_wires wires = none ∙ ap (λ (t : List ℕ). read_of (lines t)) same ∙ reads_back wires are in cc

pub read_some : (text : List ℕ) (found wires : List Wire) → some_wires found ≡ read_of (lines text) → AreWires wires → text ≡ vcd_of wires → found ≡ wires
read_some text found wires is are same = let both : some_wires found ≡ some_wires wires = is ∙ ap (λ (t : List ℕ). read_of (lines t)) same ∙ reads_back wires are in cc
