-- What the reader knows of each name after one more line.
use Rattle.std.proofs.Common.{◌≡◌, ℕ, ◌+◌, ◌-◌, ◌<◌, ◌≤◌, ◌||◌, Bool, true, false, List, [], ◌∷◌, ◌++◌, length, take, drop, get_or, set, replicate, Some, None, refl, sym, ap, subst, ◌∙◌, arith, ◌⊎◌, inl, inr, length-append}
use Rattle.std.specs.List.{flat_map, find}
use Rattle.std.specs.Str.{bytes_eq}
use Rattle.std.proofs.lemmas.Bool.{cases_lt, cases_eq, or_from}
use Rattle.std.proofs.lemmas.Grind.{flat_map-append}
use Rattle.std.proofs.lemmas.List.{append-nil, append_assoc, get_or_append_left, get_or-append_right, get_or-replicate, get_or_past, get_or-set_same, get_or-set_other, take-append-le, drop-append-le, length-drop, take_at, drop_at}
use Rattle.std.proofs.lemmas.List.Folds.{list_any-append, find-append}
use Rattle.std.proofs.Math.Bool.{or-false, or-true}
use Rattle.indexmap.specs.IndexSet.{insert_all}
use Rattle.gate_values.specs.declared.Kind.{Kind}
use Rattle.gate_values.specs.Spelling.{kind_of_word}
use Rattle.bench_reader.specs.declared.netlist.Definition.{Definition}
use Rattle.bench_reader.specs.declared.netlist.Definition.TheVariants.{Missing, Input, Gate}
use Rattle.bench_reader.specs.Lines.{Line}
use Rattle.bench_reader.specs.Lines as line
use Rattle.bench_reader.specs.Netlists.{names, names_in, pins_in, gates_in, defined_in, drives, is_among, place}
use Rattle.bench_reader.specs.inner.Reading.{Tells, FirstNamed, padded_rows, is_gate, is_defined, is_gate_at, is_defined_at}
use Rattle.bench_reader.proofs.Places.{Distinct, Extends, all_extends, present_place, present_lt, absent_place, found_at, other_at, names_distinct, grown, among_all, same_bytes}
use Rattle.bench_reader.proofs.Sound.{length-padded}

-- what is among the names of some lines by f, with one more line
pub among_more : (f : Line → List (List ℕ)) (before : List Line) (l : Line) (n : List ℕ) → is_among (flat_map f (before ++ l ∷ [])) n ≡ (is_among (flat_map f before) n || is_among (f l) n)
among_more f before l n = ap (λ (ns : List (List ℕ)). is_among ns n) (flat_map-append f before (l ∷ []) ∙ ap (λ (ns : List (List ℕ)). flat_map f before ++ ns) (append-nil (f l))) ∙ list_any-append (bytes_eq n) (flat_map f before) (f l)

stays : (f : Line → List (List ℕ)) (before : List Line) (l : Line) (n : List ℕ) (b : Bool) → is_among (flat_map f before) n ≡ b → is_among (f l) n ≡ false → is_among (flat_map f (before ++ l ∷ [])) n ≡ b
stays f before l n b h none = among_more f before l n ∙ ap (λ (w : Bool). w || is_among (f l) n) h ∙ ap (λ (w : Bool). b || w) none ∙ or-false b

becomes : (f : Line → List (List ℕ)) (before : List Line) (l : Line) (n : List ℕ) → is_among (f l) n ≡ true → is_among (flat_map f (before ++ l ∷ [])) n ≡ true
becomes f before l n h = among_more f before l n ∙ ap (λ (w : Bool). is_among (flat_map f before) n || w) h ∙ or-true (is_among (flat_map f before) n)

pub left_false : (a b : Bool) → (a || b) ≡ false → a ≡ false
left_false true b h = absurd cc
left_false false b h = refl

pub right_false : (a b : Bool) → (a || b) ≡ false → b ≡ false
right_false true b h = absurd cc
right_false false b h = h

-- a gate line defines what it drives
gates_defined : (l : Line) (n : List ℕ) → is_among (defined_in l) n ≡ false → is_among (gates_in l) n ≡ false
gates_defined line.Blank n h = refl
gates_defined line.Malformed n h = refl
gates_defined (line.Input name) n h = refl
gates_defined (line.Output name) n h = refl
gates_defined (line.Gate name word pins) n h = h

-- a line names what it defines
defined_named : (l : Line) (n : List ℕ) → is_among (names_in l) n ≡ false → is_among (defined_in l) n ≡ false
defined_named line.Blank n h = refl
defined_named line.Malformed n h = refl
defined_named (line.Input name) n h = h
defined_named (line.Output name) n h = refl
defined_named (line.Gate name word pins) n h = or_from (bytes_eq n name) false (left_false (bytes_eq n name) (is_among pins n) h) refl

pub unnamed : (all : List Line) (n : List ℕ) → is_among (flat_map names_in all) n ≡ false → is_among (flat_map defined_in all) n ≡ false
unnamed [] n h = refl
unnamed (l ∷ all) n h =
    let parts : (is_among (names_in l) n || is_among (flat_map names_in all) n) ≡ false = sym (list_any-append (bytes_eq n) (names_in l) (flat_map names_in all)) ∙ h in
    list_any-append (bytes_eq n) (defined_in l) (flat_map defined_in all)
    ∙ or_from (is_among (defined_in l) n) (is_among (flat_map defined_in all) n) (defined_named l n (left_false (is_among (names_in l) n) (is_among (flat_map names_in all) n) parts)) (unnamed all n (right_false (is_among (names_in l) n) (is_among (flat_map names_in all) n) parts))

pub no_gates : (all : List Line) (n : List ℕ) → is_among (flat_map defined_in all) n ≡ false → is_among (flat_map gates_in all) n ≡ false
no_gates [] n h = refl
no_gates (l ∷ all) n h =
    let parts : (is_among (defined_in l) n || is_among (flat_map defined_in all) n) ≡ false = sym (list_any-append (bytes_eq n) (defined_in l) (flat_map defined_in all)) ∙ h in
    list_any-append (bytes_eq n) (gates_in l) (flat_map gates_in all)
    ∙ or_from (is_among (gates_in l) n) (is_among (flat_map gates_in all) n) (gates_defined l n (left_false (is_among (defined_in l) n) (is_among (flat_map defined_in all) n) parts)) (no_gates all n (right_false (is_among (defined_in l) n) (is_among (flat_map defined_in all) n) parts))

-- where no gate line has the name, none drives it
pub undriven : (all : List Line) (n : List ℕ) → is_among (flat_map gates_in all) n ≡ false → find (drives n) all ≡ None
undriven [] n h = refl
undriven (l ∷ all) n h =
    let parts : (is_among (gates_in l) n || is_among (flat_map gates_in all) n) ≡ false = sym (list_any-append (bytes_eq n) (gates_in l) (flat_map gates_in all)) ∙ h in
    rw (left_false (is_among (gates_in l) n) (is_among (flat_map gates_in all) n) parts) (undriven all n (right_false (is_among (gates_in l) n) (is_among (flat_map gates_in all) n) parts))

-- a name that no line of some has is none of their names
pub new_name : (before : List Line) (n : List ℕ) → is_among (names before) n ≡ false → is_among (flat_map defined_in before) n ≡ false
new_name before n h = unnamed before n (sym (among_all [] (flat_map names_in before) n) ∙ h)

first_kept : (before : List Line) (l : Line) (i number : ℕ) → FirstNamed before i number → FirstNamed (before ++ l ∷ []) i number
first_kept before l i number h = record {
  done = h.done;
  here = h.here;
  later = h.later ++ l ∷ [];
  split = ap (λ (ls : List Line). ls ++ l ∷ []) h.split ∙ append_assoc h.done (h.here ∷ h.later) (l ∷ []);
  count = h.count;
  above = h.above;
  below = h.below;
}

pins_more : (before : List Line) (l : Line) → flat_map pins_in (before ++ l ∷ []) ≡ flat_map pins_in before ++ pins_in l
pins_more before l = flat_map-append pins_in before (l ∷ []) ∙ ap (λ (ns : List (List ℕ)). flat_map pins_in before ++ ns) (append-nil (pins_in l))

piece_kept : (xs ys : List (List ℕ)) (start count : ℕ) → start + count ≤ length xs → take count (drop start (xs ++ ys)) ≡ take count (drop start xs)
piece_kept xs ys start count h =
    let le : start ≤ length xs = omega arith in
    let room : count ≤ length (drop start xs) = omega (arith, length-drop start xs) in
    ap (take count) (drop-append-le start xs ys le) ∙ take-append-le count (drop start xs) ys room

-- a name that the line does not define
pub told_kept : (before : List Line) (l : Line) (i : ℕ) (d : Definition) (n : List ℕ) → is_among (defined_in l) n ≡ false → Tells before i d n → Tells (before ++ l ∷ []) i d n
told_kept before l i (Missing number) n none h = record { undefined = stays defined_in before l n false h.undefined none; first = first_kept before l i number h.first }
told_kept before l i Input n none h = record { defined = stays defined_in before l n true h.defined none; no_gate = stays gates_in before l n false h.no_gate (gates_defined l n none) }
told_kept before l i (Gate kind count start) n none h = record {
  defined = stays defined_in before l n true h.defined none;
  gate = stays gates_in before l n true h.gate (gates_defined l n none);
  said = h.said;
  word = h.word;
  pins = h.pins;
  found = find-append (drives n) before (l ∷ []) ∙ rw h.found refl;
  kind_is = h.kind_is;
  within = omega (arith, h.within, ap length (pins_more before l), length-append (flat_map pins_in before) (pins_in l));
  pins_are = ap (λ (ns : List (List ℕ)). take count (drop start ns)) (pins_more before l) ∙ piece_kept (flat_map pins_in before) (pins_in l) start count h.within ∙ h.pins_are;
}

-- the names and rows of the lines so far, and those with one more line that is read but defines nothing yet
pub record Grows (before : List Line) (l : Line) (ks new_ks : List (List ℕ)) (rows new_rows : List Definition) (number : ℕ) : Type 0 where
  pub names_are : ks ≡ names before
  pub told : (i : ℕ) → i < length ks → Tells before i (get_or rows i (Missing 0)) (get_or ks i [])
  pub rows_len : length rows ≡ length ks
  pub new_names : new_ks ≡ insert_all bytes_eq ks (names_in l)
  pub new_rows_are : new_rows ≡ padded_rows rows (length new_ks) number
  pub number_is : length before + 1 ≡ number

pub all_names : (before : List Line) (l : Line) (ks new_ks : List (List ℕ)) → ks ≡ names before → new_ks ≡ insert_all bytes_eq ks (names_in l) → new_ks ≡ names (before ++ l ∷ [])
all_names before l ks new_ks names-are new-are = new-are ∙ ap (λ (ns : List (List ℕ)). insert_all bytes_eq ns (names_in l)) names-are ∙ sym (grown before l)

pub distinct : (before : List Line) (ks : List (List ℕ)) → ks ≡ names before → Distinct ks
distinct before ks is = subst Distinct (sym is) (names_distinct before)

told_new : (before : List Line) (l : Line) (ks new_ks more : List (List ℕ)) (rows new_rows : List Definition) (number i : ℕ) → Grows before l ks new_ks rows new_rows number → new_ks ≡ ks ++ more → i < length new_ks → length ks ≤ i
    → is_among (defined_in l) (get_or new_ks i []) ≡ false → Tells (before ++ l ∷ []) i (Missing number) (get_or new_ks i [])
told_new before l ks new_ks more rows new_rows number i g split lt le none =
    let n = get_or new_ks i [] in
    let whole = all_names before l ks new_ks g.names_are g.new_names in
    let apart : Distinct new_ks = distinct (before ++ l ∷ []) new_ks whole in
    let absent : is_among ks n ≡ false = cases (is_among ks n) refl apart in
    record {
      undefined = stays defined_in before l n false (new_name before n (subst (λ (ns : List (List ℕ)). is_among ns n ≡ false) g.names_are absent)) none;
      first = record { done = before; here = l; later = []; split = refl; count = g.number_is; above = omega (arith, ap length g.names_are); below = omega (arith, ap length whole) };
    }
  where
    cases : (b : Bool) → is_among ks (get_or new_ks i []) ≡ b → Distinct new_ks → b ≡ false
    cases true h apart =
        let at : place new_ks (get_or new_ks i []) ≡ place ks (get_or new_ks i []) = ap (λ (ns : List (List ℕ)). place ns (get_or new_ks i [])) split ∙ present_place (get_or new_ks i []) ks more h in
        absurd (omega (arith, at, present_lt (get_or new_ks i []) ks h, apart i lt))
    cases false h apart = refl

-- after the line each name that it does not define is told
pub told_grown : (before : List Line) (l : Line) (ks new_ks : List (List ℕ)) (rows new_rows : List Definition) (number : ℕ) → Grows before l ks new_ks rows new_rows number → (i : ℕ) → i < length new_ks
    → is_among (defined_in l) (get_or new_ks i []) ≡ false → Tells (before ++ l ∷ []) i (get_or new_rows i (Missing 0)) (get_or new_ks i [])
told_grown before l ks new_ks rows new_rows number g i lt none = cases (cases_lt i (length ks))
  where
    extends : Extends ks (insert_all bytes_eq ks (names_in l))
    extends = all_extends ks (names_in l)

    split : new_ks ≡ ks ++ extends.more
    split = g.new_names ∙ extends.is

    more : List Definition
    more = replicate (length new_ks - length rows) (Missing number)

    cases : (i < length ks) ⊎ (length ks ≤ i) → Tells (before ++ l ∷ []) i (get_or new_rows i (Missing 0)) (get_or new_ks i [])
    cases (inl h) =
        let name : get_or new_ks i [] ≡ get_or ks i [] = ap (λ (ns : List (List ℕ)). get_or ns i []) split ∙ get_or_append_left ks extends.more [] i h in
        let row : get_or new_rows i (Missing 0) ≡ get_or rows i (Missing 0) = ap (λ (r : List Definition). get_or r i (Missing 0)) g.new_rows_are ∙ get_or_append_left rows more (Missing 0) i (omega (arith, g.rows_len)) in
        let kept = told_kept before l i (get_or rows i (Missing 0)) (get_or ks i []) (subst (λ (n : List ℕ). is_among (defined_in l) n ≡ false) name none) (g.told i h) in
        subst (λ (n : List ℕ). Tells (before ++ l ∷ []) i (get_or new_rows i (Missing 0)) n) (sym name) (subst (λ (d : Definition). Tells (before ++ l ∷ []) i d (get_or ks i [])) (sym row) kept)
    cases (inr h) =
        let row : get_or new_rows i (Missing 0) ≡ Missing number = ap (λ (r : List Definition). get_or r i (Missing 0)) g.new_rows_are ∙ get_or-append_right rows more (length rows) i (Missing 0) refl (omega (arith, g.rows_len)) ∙ get_or-replicate (length new_ks - length rows) (i - length rows) (Missing number) (Missing 0) (omega (arith, g.rows_len)) in
        subst (λ (d : Definition). Tells (before ++ l ∷ []) i d (get_or new_ks i [])) (sym row) (told_new before l ks new_ks extends.more rows new_rows number i g split lt h none)

-- and then the name that it defines
pub told_set : (before : List Line) (l : Line) (ks new_ks : List (List ℕ)) (rows new_rows : List Definition) (number id : ℕ) (d : Definition) (name : List ℕ) → Grows before l ks new_ks rows new_rows number
    → defined_in l ≡ name ∷ [] → is_among new_ks name ≡ true → id ≡ place new_ks name → Tells (before ++ l ∷ []) id d name
    → (i : ℕ) → i < length new_ks → Tells (before ++ l ∷ []) i (get_or (set new_rows id d) i (Missing 0)) (get_or new_ks i [])
told_set before l ks new_ks rows new_rows number id d name g defines there id-is h i lt = cases (cases_eq i id)
  where
    extends : Extends ks (insert_all bytes_eq ks (names_in l))
    extends = all_extends ks (names_in l)

    len : length new_rows ≡ length new_ks
    len = ap length g.new_rows_are ∙ length-padded rows (length new_ks) number (omega (arith, g.rows_len, ap length (g.new_names ∙ extends.is), length-append ks extends.more))

    cases : (i ≡ id) ⊎ (i ≡ id → ⊥) → Tells (before ++ l ∷ []) i (get_or (set new_rows id d) i (Missing 0)) (get_or new_ks i [])
    cases (inl same) =
        let row : get_or (set new_rows id d) i (Missing 0) ≡ d = ap (λ (k : ℕ). get_or (set new_rows id d) k (Missing 0)) same ∙ get_or-set_same new_rows id d (Missing 0) (omega (arith, len)) in
        let named : get_or new_ks i [] ≡ name = ap (λ (k : ℕ). get_or new_ks k []) (same ∙ id-is) ∙ found_at name new_ks there in
        subst (λ (n : List ℕ). Tells (before ++ l ∷ []) i (get_or (set new_rows id d) i (Missing 0)) n) (sym named)
        (subst (λ (x : Definition). Tells (before ++ l ∷ []) i x name) (sym row) (subst (λ (k : ℕ). Tells (before ++ l ∷ []) k d name) (sym same) h))
    cases (inr other) =
        let row : get_or (set new_rows id d) i (Missing 0) ≡ get_or new_rows i (Missing 0) = get_or-set_other new_rows id i d (Missing 0) other in
        let whole = all_names before l ks new_ks g.names_are g.new_names in
        let none : is_among (name ∷ []) (get_or new_ks i []) ≡ false = other_at new_ks name i (distinct (before ++ l ∷ []) new_ks whole) lt (λ e. other (e ∙ sym id-is)) in
        subst (λ (x : Definition). Tells (before ++ l ∷ []) i x (get_or new_ks i [])) (sym row)
        (told_grown before l ks new_ks rows new_rows number g i lt (subst (λ (ns : List (List ℕ)). is_among ns (get_or new_ks i []) ≡ false) (sym defines) none))

one_defines : (name : List ℕ) → is_among (name ∷ []) name ≡ true
one_defines name = rw (same_bytes name) refl

-- an INPUT line's own name
pub told_input : (before : List Line) (name : List ℕ) (i : ℕ) → is_among (flat_map gates_in before) name ≡ false → Tells (before ++ line.Input name ∷ []) i Input name
told_input before name i none = record { defined = becomes defined_in before (line.Input name) name (one_defines name); no_gate = stays gates_in before (line.Input name) name false none refl }

-- a gate line's own name
pub told_gate : (before : List Line) (name word : List ℕ) (pins : List (List ℕ)) (kind : Kind) (i start count : ℕ) → is_among (flat_map defined_in before) name ≡ false → kind_of_word word ≡ Some kind → start ≡ length (flat_map pins_in before) → count ≡ length pins
    → Tells (before ++ line.Gate name word pins ∷ []) i (Gate kind count start) name
told_gate before name word pins kind i start count none kind-is start-is count-is =
    let l = line.Gate name word pins in
    let P = flat_map pins_in before in
    record {
      defined = becomes defined_in before l name (one_defines name);
      gate = becomes gates_in before l name (one_defines name);
      said = name;
      word = word;
      pins = pins;
      found = find-append (drives name) before (l ∷ []) ∙ rw (undriven before name (no_gates before name none), same_bytes name) refl;
      kind_is = kind-is;
      within = omega (arith, ap length (pins_more before l), length-append P pins);
      pins_are = ap (λ (ns : List (List ℕ)). take count (drop start ns)) (pins_more before l) ∙ ap (take count) (drop_at P pins start (sym start-is)) ∙ all count-is;
    }
  where
    all : count ≡ length pins → take count pins ≡ pins
    all e = ap (take count) (sym (append-nil pins)) ∙ take_at pins [] count (sym e)

-- what the rows say of the name's definition so far
told_at : (before : List Line) (ks : List (List ℕ)) (rows : List Definition) (name : List ℕ) → ((i : ℕ) → i < length ks → Tells before i (get_or rows i (Missing 0)) (get_or ks i [])) → is_among ks name ≡ true → Tells before (place ks name) (get_or rows (place ks name) (Missing 0)) name
told_at before ks rows name told there = subst (λ (n : List ℕ). Tells before (place ks name) (get_or rows (place ks name) (Missing 0)) n) (found_at name ks there) (told (place ks name) (present_lt name ks there))

gate_told : (before : List Line) (i : ℕ) (d : Definition) (n : List ℕ) → Tells before i d n → is_gate d ≡ is_among (flat_map gates_in before) n
gate_told before i (Missing number) n h = sym (no_gates before n h.undefined)
gate_told before i Input n h = sym h.no_gate
gate_told before i (Gate kind count start) n h = sym h.gate

pub defined_told : (before : List Line) (i : ℕ) (d : Definition) (n : List ℕ) → Tells before i d n → is_defined d ≡ is_among (flat_map defined_in before) n
defined_told before i (Missing number) n h = sym h.undefined
defined_told before i Input n h = sym h.defined
defined_told before i (Gate kind count start) n h = sym h.defined

past : (ks : List (List ℕ)) (rows : List Definition) (name : List ℕ) → length rows ≡ length ks → is_among ks name ≡ false → get_or rows (place ks name) (Missing 0) ≡ Missing 0
past ks rows name len none = get_or_past rows (place ks name) (Missing 0) (omega (arith, len, absent_place name ks none))

pub gate_at : (before : List Line) (ks : List (List ℕ)) (rows : List Definition) (name : List ℕ) → ks ≡ names before → ((i : ℕ) → i < length ks → Tells before i (get_or rows i (Missing 0)) (get_or ks i [])) → length rows ≡ length ks → is_gate_at rows (place ks name) ≡ is_among (flat_map gates_in before) name
gate_at before ks rows name names-are told len = cases (is_among ks name) refl
  where
    cases : (b : Bool) → is_among ks name ≡ b → is_gate_at rows (place ks name) ≡ is_among (flat_map gates_in before) name
    cases true h = gate_told before (place ks name) (get_or rows (place ks name) (Missing 0)) name (told_at before ks rows name told h)
    cases false h = ap is_gate (past ks rows name len h) ∙ sym (no_gates before name (new_name before name (subst (λ (ns : List (List ℕ)). is_among ns name ≡ false) names-are h)))

pub defined_at : (before : List Line) (ks : List (List ℕ)) (rows : List Definition) (name : List ℕ) → ks ≡ names before → ((i : ℕ) → i < length ks → Tells before i (get_or rows i (Missing 0)) (get_or ks i [])) → length rows ≡ length ks → is_defined_at rows (place ks name) ≡ is_among (flat_map defined_in before) name
defined_at before ks rows name names-are told len = cases (is_among ks name) refl
  where
    cases : (b : Bool) → is_among ks name ≡ b → is_defined_at rows (place ks name) ≡ is_among (flat_map defined_in before) name
    cases true h = defined_told before (place ks name) (get_or rows (place ks name) (Missing 0)) name (told_at before ks rows name told h)
    cases false h = ap is_defined (past ks rows name len h) ∙ sym (new_name before name (subst (λ (ns : List (List ℕ)). is_among ns name ≡ false) names-are h))
