-- What the reader's lists say once all lines are read.
use Rattle.std.proofs.Common.{◌≡◌, ℕ, zero, suc, ◌+◌, ◌<◌, ◌≤◌, ◌&&◌, ◌||◌, Bool, true, false, nat_eq, List, [], ◌∷◌, ◌++◌, length, map, take, drop, get_or, Some, None, refl, sym, ap, subst, ◌∙◌, arith, append_assoc}
use Rattle.std.specs.List.{list_all, flat_map}
use Rattle.std.specs.Str.{bytes_eq}
use Rattle.std.proofs.lemmas.Grind.{flat_map-append}
use Rattle.std.proofs.lemmas.List.{append-nil, length-map, ext_get_or, take-map, drop-map, get_or_append_left}
use Rattle.std.proofs.lemmas.List.Folds.{list_any-append}
use Rattle.std.proofs.lemmas.List.Sums.{fold-append}
use Rattle.std.proofs.Math.Bool.{and-false, or-true}
use Rattle.indexmap.specs.IndexSet.{insert_key, insert_all}
use Rattle.gate_values.specs.Spelling.{kind_of_word}
use Rattle.bench_reader.specs.declared.netlist.Definition.{Definition}
use Rattle.bench_reader.specs.declared.netlist.Definition.TheVariants.{Missing, Input, Gate}
use Rattle.bench_reader.specs.declared.fault.BenchCause.TheVariants.{Undefined}
use Rattle.bench_reader.specs.Lines.{Line}
use Rattle.bench_reader.specs.Lines as line
use Rattle.bench_reader.specs.Netlists.{names, names_in, pins_in, outputs_in, defined_in, is_among, is_defined, place, number, NetlistDriver, Primary, Driven, driver_by, driver_of, driven_by, undefined_from}
use Rattle.bench_reader.specs.inner.KeptNetlists.{driver}
use Rattle.bench_reader.specs.inner.Reading.{Knows, Tells, first_missing}
use Rattle.bench_reader.specs.inner.Reading as reading
use Rattle.bench_reader.proofs.Places.{same_bytes, same_names, Extends, all_extends, present_place, present_lt, in_kept, found_at, is_among_at, among_all, names_distinct}
use Rattle.bench_reader.proofs.Rows.{undriven, no_gates, left_false, right_false, defined_told}

piece : (f : List ℕ → ℕ) (start count : ℕ) (xs : List (List ℕ)) → take count (drop start (map f xs)) ≡ map f (take count (drop start xs))
piece f start count xs = ap (take count) (drop-map f start xs) ∙ take-map f count (drop start xs)

-- what drives a signal, by its definition
driver_told : (all : List Line) (pins : List ℕ) (i : ℕ) (d : Definition) (n : List ℕ) → pins ≡ map (number all) (flat_map pins_in all) → Tells all i d n → driver pins d ≡ driver_of all n
driver_told all pins i (Missing number) n pins-are h = sym (rw (undriven all n (no_gates all n h.undefined)) refl)
driver_told all pins i Input n pins-are h = sym (rw (undriven all n h.no_gate) refl)
driver_told all pins i (Gate kind count start) n pins-are h =
    let said : driver_of all n ≡ driven_by (kind_of_word h.word) (map (number all) h.pins) = ap (driver_by (number all)) h.found in
    let kind-is : driven_by (kind_of_word h.word) (map (number all) h.pins) ≡ Driven kind (map (number all) h.pins) = rw h.kind_is refl in
    let ids : take count (drop start pins) ≡ map (number all) h.pins = ap (λ (ps : List ℕ). take count (drop start ps)) pins-are ∙ piece (number all) start count (flat_map pins_in all) ∙ ap (map (number all)) h.pins_are in
    ap (Driven kind) ids ∙ sym (said ∙ kind-is)

pub rows_said : (all : List Line) (ks : List (List ℕ)) (rows : List Definition) (pins outputs : List ℕ) → Knows all ks rows pins outputs → length rows ≡ length ks → map (driver pins) rows ≡ map (driver_of all) (names all)
rows_said all ks rows pins outputs k len =
    ext_get_or Primary (map (driver pins) rows) (map (driver_of all) (names all)) (length-map rows (driver pins) ∙ len ∙ ap length k.names_are ∙ sym (length-map (names all) (driver_of all))) each
  where
    numbers : pins ≡ map (number all) (flat_map pins_in all)
    numbers = k.pins_are.ids_are ∙ ap (λ (ns : List (List ℕ)). map (place ns) (flat_map pins_in all)) k.names_are

    at : {X : Type 0} (f : X → NetlistDriver) (xs : List X) (i : ℕ) (d : X) → i < length xs → get_or (map f xs) i Primary ≡ f (get_or xs i d)
    at f [] i d h = absurd (omega arith)
    at f (x ∷ xs) zero d h = refl
    at f (x ∷ xs) (suc i) d h = at f xs i d (omega arith)

    each : (i : ℕ) → i < length (map (driver pins) rows) → get_or (map (driver pins) rows) i Primary ≡ get_or (map (driver_of all) (names all)) i Primary
    each i h =
        let lt : i < length rows = omega (arith, length-map rows (driver pins)) in
        let told : Tells all i (get_or rows i (Missing 0)) (get_or (names all) i []) = subst (λ (ns : List (List ℕ)). Tells all i (get_or rows i (Missing 0)) (get_or ns i [])) k.names_are (k.told i (omega (arith, len))) in
        at (driver pins) rows i (Missing 0) lt ∙ driver_told all pins i (get_or rows i (Missing 0)) (get_or (names all) i []) numbers told ∙ sym (at (driver_of all) (names all) i [] (omega (arith, len, ap length k.names_are)))

-- the outputs
pub outputs_said : (all : List Line) (ks : List (List ℕ)) (rows : List Definition) (pins outputs : List ℕ) → Knows all ks rows pins outputs → outputs ≡ insert_all nat_eq [] (map (number all) (flat_map outputs_in all))
outputs_said all ks rows pins outputs k = k.outputs_are ∙ ap (insert_all nat_eq []) (k.ids_are.ids_are ∙ ap (λ (ns : List (List ℕ)). map (place ns) (flat_map outputs_in all)) k.names_are)

-- what the definitions up to a place say of undefined names
pub record FirstMissing (rows : List Definition) (number i : ℕ) : Type 0 where
  pub within : i < length rows
  pub here : get_or rows i (Missing 0) ≡ Missing number
  pub before : (j : ℕ) → j < i → reading.is_defined (get_or rows j (Missing 0)) ≡ true

pub missing_none : (rows : List Definition) → first_missing rows ≡ None → (j : ℕ) → j < length rows → reading.is_defined (get_or rows j (Missing 0)) ≡ true
missing_none [] h j lt = absurd (omega arith)
missing_none (Missing number ∷ rows) h j lt = absurd cc
missing_none (Input ∷ rows) h zero lt = refl
missing_none (Input ∷ rows) h (suc j) lt = missing_none rows h j (omega arith)
missing_none (Gate kind count start ∷ rows) h zero lt = refl
missing_none (Gate kind count start ∷ rows) h (suc j) lt = missing_none rows h j (omega arith)

-- one more row in front
later_missing : (d : Definition) (rows : List Definition) (number : ℕ) → reading.is_defined d ≡ true → (i : ℕ) × FirstMissing rows number i → (i : ℕ) × FirstMissing (d ∷ rows) number i
later_missing d rows number defined (i, f) = (suc i, record { within = omega (arith, f.within); here = f.here; before = front })
  where
    front : (j : ℕ) → j < suc i → reading.is_defined (get_or (d ∷ rows) j (Missing 0)) ≡ true
    front zero h = defined
    front (suc j) h = f.before j (omega arith)

pub missing_some : (rows : List Definition) (number : ℕ) → first_missing rows ≡ Some number → (i : ℕ) × FirstMissing rows number i
missing_some [] number h = absurd cc
missing_some (Missing n ∷ rows) number h = let same : n ≡ number = cc in (0, record { within = omega arith; here = ap Missing same; before = λ j lt. absurd (omega arith) })
missing_some (Input ∷ rows) number h = later_missing Input rows number refl (missing_some rows number h)
missing_some (Gate kind count start ∷ rows) number h = later_missing (Gate kind count start) rows number refl (missing_some rows number h)

-- a pin or output is named on its line
used_named : (l : Line) (n : List ℕ) → is_among (pins_in l ++ outputs_in l) n ≡ true → is_among (names_in l) n ≡ true
used_named line.Blank n h = absurd cc
used_named line.Malformed n h = absurd cc
used_named (line.Input name) n h = absurd cc
used_named (line.Output name) n h = h
used_named (line.Gate name word pins) n h = ap (λ (b : Bool). bytes_eq n name || b) (ap (λ (ns : List (List ℕ)). is_among ns n) (sym (append-nil pins)) ∙ h) ∙ or-true (bytes_eq n name)

-- a name that a line names and does not define is a pin or an output
named_used : (l : Line) (n : List ℕ) → is_among (names_in l) n ≡ true → is_among (defined_in l) n ≡ false → is_among (pins_in l ++ outputs_in l) n ≡ true
named_used line.Blank n h none = h
named_used line.Malformed n h none = h
named_used (line.Input name) n h none = absurd (let e = sym h ∙ none in cc)
named_used (line.Output name) n h none = h
named_used (line.Gate name word pins) n h none = ap (λ (ns : List (List ℕ)). is_among ns n) (append-nil pins) ∙ other (bytes_eq n name) (is_among pins n) none h
  where
    other : (a b : Bool) → (a || false) ≡ false → (a || b) ≡ true → b ≡ true
    other true b h e = absurd cc
    other false b h e = e

-- where each of some names passes, all do
each_passes : (p : List ℕ → Bool) (ns : List (List ℕ)) → ((n : List ℕ) → is_among ns n ≡ true → p n ≡ true) → list_all p ns ≡ true
each_passes p [] h = refl
each_passes p (n ∷ ns) h = rw (h n (first n ns)) (each_passes p ns (λ m e. h m (rest m n ns e)))
  where
    first : (n : List ℕ) (ns : List (List ℕ)) → is_among (n ∷ ns) n ≡ true
    first n ns = rw (same_bytes n) refl

    rest : (m n : List ℕ) (ns : List (List ℕ)) → is_among ns m ≡ true → is_among (n ∷ ns) m ≡ true
    rest m n ns e = rw e (or-true (bytes_eq m n))

-- where one does not, not all do
one_fails : (p : List ℕ → Bool) (ns : List (List ℕ)) (n : List ℕ) → is_among ns n ≡ true → p n ≡ false → list_all p ns ≡ false
one_fails p [] n h f = absurd cc
one_fails p (m ∷ ns) n h f = cases (λ e. one_fails p ns n e f) (bytes_eq n m) refl h
  where
    cases : (is_among ns n ≡ true → list_all p ns ≡ false) → (b : Bool) → bytes_eq n m ≡ b → (b || is_among ns n) ≡ true → (p m && list_all p ns) ≡ false
    cases again true e h = let same : p m ≡ false = ap p (sym (same_names n m e)) ∙ f in rw same refl
    cases again false e h = ap (λ (b : Bool). p m && b) (again h) ∙ and-false (p m)

-- the names of more lines begin with those of fewer
names_split : (done rest : List Line) → names (done ++ rest) ≡ insert_all bytes_eq (names done) (flat_map names_in rest)
names_split done rest = ap (insert_all bytes_eq []) (flat_map-append names_in done rest) ∙ fold-append (insert_key bytes_eq) [] (flat_map names_in done) (flat_map names_in rest)

in_back : (xs ys : List (List ℕ)) (n : List ℕ) → is_among ys n ≡ true → is_among (xs ++ ys) n ≡ true
in_back xs ys n h = list_any-append (bytes_eq n) xs ys ∙ rw h (or-true (is_among xs n))

-- lines whose names are all defined are passed over
passes : (all done later : List Line) (n : ℕ) → ((m : List ℕ) → is_among (flat_map names_in done) m ≡ true → is_defined all m ≡ true) → undefined_from all n (done ++ later) ≡ undefined_from all (n + length done) later
passes all [] later n h = ap (λ (k : ℕ). undefined_from all k later) (omega arith)
passes all (l ∷ done) later n h =
    let used : list_all (is_defined all) (pins_in l ++ outputs_in l) ≡ true = each_passes (is_defined all) (pins_in l ++ outputs_in l) (λ m e. h m (in_kept m (names_in l) (flat_map names_in done) (used_named l m e))) in
    let count : (n + 1) + length done ≡ n + length (l ∷ done) = omega arith in
    rw used (passes all done later (n + 1) (λ m e. h m (in_back (names_in l) (flat_map names_in done) m e)) ∙ ap (λ (k : ℕ). undefined_from all k later) count)

-- a name whose row is defined
named_defined : (all : List Line) (ks : List (List ℕ)) (rows : List Definition) (pins outputs : List ℕ) (m : List ℕ) → Knows all ks rows pins outputs → is_among ks m ≡ true → reading.is_defined (get_or rows (place ks m) (Missing 0)) ≡ true → is_defined all m ≡ true
named_defined all ks rows pins outputs m k there h =
    let told : Tells all (place ks m) (get_or rows (place ks m) (Missing 0)) m = subst (λ (n : List ℕ). Tells all (place ks m) (get_or rows (place ks m) (Missing 0)) n) (found_at m ks there) (k.told (place ks m) (present_lt m ks there)) in
    sym (defined_told all (place ks m) (get_or rows (place ks m) (Missing 0)) m told) ∙ h

-- where no definition is missing, no name is undefined
pub none_undefined : (all : List Line) (ks : List (List ℕ)) (rows : List Definition) (pins outputs : List ℕ) → Knows all ks rows pins outputs → length rows ≡ length ks → first_missing rows ≡ None → undefined_from all 1 all ≡ None
none_undefined all ks rows pins outputs k len none = ap (undefined_from all 1) (sym (append-nil all)) ∙ passes all all [] 1 each
  where
    each : (m : List ℕ) → is_among (flat_map names_in all) m ≡ true → is_defined all m ≡ true
    each m h =
        let there : is_among ks m ≡ true = ap (λ (ns : List (List ℕ)). is_among ns m) k.names_are ∙ among_all [] (flat_map names_in all) m ∙ h in
        named_defined all ks rows pins outputs m k there (missing_none rows none (place ks m) (omega (arith, len, present_lt m ks there)))

-- the part of a line among all
part_false : (f : Line → List (List ℕ)) (done later : List Line) (l : Line) (n : List ℕ) → is_among (flat_map f (done ++ l ∷ later)) n ≡ false → is_among (f l) n ≡ false
part_false f done later l n h =
    let split : (is_among (flat_map f done) n || is_among (f l ++ flat_map f later) n) ≡ false = sym (list_any-append (bytes_eq n) (flat_map f done) (f l ++ flat_map f later)) ∙ ap (λ (ns : List (List ℕ)). is_among ns n) (sym (flat_map-append f done (l ∷ later))) ∙ h in
    let rest : (is_among (f l) n || is_among (flat_map f later) n) ≡ false = sym (list_any-append (bytes_eq n) (f l) (flat_map f later)) ∙ right_false (is_among (flat_map f done) n) (is_among (f l ++ flat_map f later) n) split in
    left_false (is_among (f l) n) (is_among (flat_map f later) n) rest

-- the line that first names a signal names it, and no line before does
first_names : (done later : List Line) (here : Line) (ks : List (List ℕ)) (i : ℕ) → ks ≡ names (done ++ here ∷ later) → length (names done) ≤ i → i < length (names (done ++ here ∷ [])) → is_among (names_in here) (get_or ks i []) ≡ true
first_names done later here ks i whole above below =
    cases (is_among (names done) n) refl (sym (among_all (names done) (names_in here) n) ∙ ap (λ (ns : List (List ℕ)). is_among ns n) (sym with-here) ∙ there)
  where
    n : List ℕ
    n = get_or ks i []

    up_to : List (List ℕ)
    up_to = names (done ++ here ∷ [])

    with-here : up_to ≡ insert_all bytes_eq (names done) (names_in here)
    with-here = names_split done (here ∷ []) ∙ ap (insert_all bytes_eq (names done)) (append-nil (names_in here))

    rest : Extends up_to (insert_all bytes_eq up_to (flat_map names_in later))
    rest = all_extends up_to (flat_map names_in later)

    split : ks ≡ up_to ++ rest.more
    split = whole ∙ ap names (sym (append_assoc done (here ∷ []) later)) ∙ names_split (done ++ here ∷ []) later ∙ rest.is

    same : get_or up_to i [] ≡ n
    same = sym (ap (λ (ns : List (List ℕ)). get_or ns i []) split ∙ get_or_append_left up_to rest.more [] i below)

    there : is_among up_to n ≡ true
    there = ap (is_among up_to) (sym same) ∙ is_among_at up_to i below

    place-is : place up_to n ≡ i
    place-is = ap (place up_to) (sym same) ∙ names_distinct (done ++ here ∷ []) i below

    front : Extends (names done) (insert_all bytes_eq (names done) (names_in here))
    front = all_extends (names done) (names_in here)

    cases : (b : Bool) → is_among (names done) n ≡ b → (b || is_among (names_in here) n) ≡ true → is_among (names_in here) n ≡ true
    cases true h e =
        let early : place up_to n ≡ place (names done) n = ap (λ (ns : List (List ℕ)). place ns n) (with-here ∙ front.is) ∙ present_place n (names done) front.more h in
        absurd (omega (arith, early, place-is, present_lt n (names done) h, above))
    cases false h e = e

-- where definitions are missing, the first undefined name is on the line of the first of them
pub some_undefined : (all : List Line) (ks : List (List ℕ)) (rows : List Definition) (pins outputs : List ℕ) (number : ℕ) → Knows all ks rows pins outputs → length rows ≡ length ks → first_missing rows ≡ Some number → undefined_from all 1 all ≡ Some (record { cause = Undefined; line = number })
some_undefined all ks rows pins outputs number k len some = at (missing_some rows number some)
  where
    at : (i : ℕ) × FirstMissing rows number i → undefined_from all 1 all ≡ Some (record { cause = Undefined; line = number })
    at (i, f) =
        let n = get_or ks i [] in
        let lt : i < length ks = omega (arith, len, f.within) in
        let told : Tells all i (Missing number) n = subst (λ (d : Definition). Tells all i d n) f.here (k.told i lt) in
        let first = told.first in
        let undefined : is_defined all n ≡ false = told.undefined in
        let split : all ≡ first.done ++ first.here ∷ first.later = first.split in
        let named : is_among (names_in first.here) n ≡ true = first_names first.done first.later first.here ks i (k.names_are ∙ ap names split) first.above first.below in
        let plain : is_among (defined_in first.here) n ≡ false = part_false defined_in first.done first.later first.here n (ap (λ (ls : List Line). is_among (flat_map defined_in ls) n) (sym split) ∙ undefined) in
        let fails : list_all (is_defined all) (pins_in first.here ++ outputs_in first.here) ≡ false = one_fails (is_defined all) (pins_in first.here ++ outputs_in first.here) n (named_used first.here n named plain) undefined in
        let count : 1 + length first.done ≡ number = omega (arith, first.count) in
        ap (undefined_from all 1) split ∙ passes all first.done (first.here ∷ first.later) 1 (early first.done first.here first.later split first.above f.before) ∙ rw (fails, count) refl
      where
        early : (done : List Line) (here : Line) (later : List Line) → all ≡ done ++ here ∷ later → length (names done) ≤ i → ((j : ℕ) → j < i → reading.is_defined (get_or rows j (Missing 0)) ≡ true)
            → (m : List ℕ) → is_among (flat_map names_in done) m ≡ true → is_defined all m ≡ true
        early done here later split above defined m h =
            let in-done : is_among (names done) m ≡ true = among_all [] (flat_map names_in done) m ∙ h in
            let extends = all_extends (names done) (flat_map names_in (here ∷ later)) in
            let ks-are : ks ≡ names done ++ extends.more = k.names_are ∙ ap names split ∙ names_split done (here ∷ later) ∙ extends.is in
            let place-is : place ks m ≡ place (names done) m = ap (λ (ns : List (List ℕ)). place ns m) ks-are ∙ present_place m (names done) extends.more in-done in
            let there : is_among ks m ≡ true = ap (λ (ns : List (List ℕ)). is_among ns m) ks-are ∙ in_kept m (names done) extends.more in-done in
            named_defined all ks rows pins outputs m k there (defined (place ks m) (omega (arith, place-is, present_lt m (names done) in-done, above)))
