-- What the reader knows after one more line, and the causes of a line by what the reader tests.
use Rattle.std.proofs.Common.{◌≡◌, ℕ, IsTrue, ◌+◌, ◌||◌, Bool, true, false, cond, nat_eq, List, [], ◌∷◌, ◌++◌, length, map, get_or, set, Some, None, refl, sym, ap, subst, ◌∙◌, length-append}
use Rattle.std.specs.List.{list_any, list_all, flat_map}
use Rattle.std.specs.Str.{bytes_eq}
use Rattle.std.specs.Borrow.{Bor}
use Rattle.std.proofs.lemmas.Grind.{flat_map-append}
use Rattle.std.proofs.lemmas.List.{append-nil, length-map}
use Rattle.std.proofs.lemmas.List.Sums.{fold-append}
use Rattle.std.proofs.Math.Bool.{or-true}
use Rattle.indexmap.specs.IndexSet.{insert_key, insert_all}
use Rattle.gate_values.specs.declared.Kind.{Kind}
use Rattle.gate_values.specs.Gates.{allows}
use Rattle.gate_values.specs.Spelling.{kind_of_word}
use Rattle.bench_reader.specs.declared.netlist.Definition.{Definition}
use Rattle.bench_reader.specs.declared.netlist.Definition.TheVariants.{Missing, Input, Gate}
use Rattle.bench_reader.specs.declared.reader.Reader.{Reader}
use Rattle.bench_reader.specs.declared.fault.BenchCause.TheVariants.{UnknownKind, PinCount, NameLong, Twice, TooMany}
use Rattle.bench_reader.specs.Lines.{Line}
use Rattle.bench_reader.specs.Lines as line
use Rattle.bench_reader.specs.Netlists.{names, pins_in, outputs_in, gates_in, defined_in, is_among, is_long, place, exceeds, is_crowded, cause_of, cause_of_names}
use Rattle.bench_reader.specs.inner.Reading.{Knows, HasRead, Numbered, padded_rows, is_gate_at, is_defined_at}
use Rattle.bench_reader.proofs.Places.{same_bytes, is_among_new, all_extends, numbered_kept, numbered_all, numbered_more, number_step, among_all, present_place, place_new}
use Rattle.bench_reader.proofs.Rows.{Grows, all_names, gate_at, defined_at, told_kept, told_grown, told_set, told_input, told_gate}

same_named : (ks : List (List ℕ)) (ids : List ℕ) (xs ys : List (List ℕ)) → Numbered ks ids xs → ys ≡ xs → Numbered ks ids ys
same_named ks ids xs ys h e = subst (Numbered ks ids) (sym e) h

-- the names by f of some lines, with one more line
more : (f : Line → List (List ℕ)) (before : List Line) (l : Line) → flat_map f (before ++ l ∷ []) ≡ flat_map f before ++ f l
more f before l = flat_map-append f before (l ∷ []) ∙ ap (λ (ns : List (List ℕ)). flat_map f before ++ ns) (append-nil (f l))

none_more : (f : Line → List (List ℕ)) (before : List Line) (l : Line) → f l ≡ [] → flat_map f (before ++ l ∷ []) ≡ flat_map f before
none_more f before l none = more f before l ∙ ap (λ (ns : List (List ℕ)). flat_map f before ++ ns) none ∙ append-nil (flat_map f before)

-- a blank line
pub knows_blank : (before : List Line) (ks : List (List ℕ)) (rows : List Definition) (pins outputs : List ℕ) → Knows before ks rows pins outputs → Knows (before ++ line.Blank ∷ []) ks rows pins outputs
knows_blank before ks rows pins outputs k = record {
  names_are = all_names before line.Blank ks ks k.names_are refl;
  told = λ i h. told_kept before line.Blank i (get_or rows i (Missing 0)) (get_or ks i []) refl (k.told i h);
  pins_are = same_named ks pins _ _ k.pins_are (none_more pins_in before line.Blank refl);
  ids = k.ids;
  ids_are = same_named ks k.ids _ _ k.ids_are (none_more outputs_in before line.Blank refl);
  outputs_are = k.outputs_are;
}

pub blank_gives : (before : List Line) (r : Reader) (l : Line) → l ≡ line.Blank → HasRead before r → (cause_of before l ≡ None) × HasRead (before ++ l ∷ []) r
blank_gives before r l is read = subst (λ (x : Line). (cause_of before x ≡ None) × HasRead (before ++ x ∷ []) r) (sym is) (refl, knows_blank before r.names r.rows.items r.pins.items r.outputs read)

-- an INPUT line
pub knows_input : (before : List Line) (ks new_ks : List (List ℕ)) (rows new_rows : List Definition) (pins outputs : List ℕ) (name : List ℕ) (number id : ℕ) → Knows before ks rows pins outputs → length rows ≡ length ks
    → new_ks ≡ insert_key bytes_eq ks name → new_rows ≡ padded_rows rows (length new_ks) number → length before + 1 ≡ number → id ≡ place new_ks name → is_among (flat_map gates_in before) name ≡ false
    → Knows (before ++ line.Input name ∷ []) new_ks (set new_rows id Input) pins outputs
knows_input before ks new_ks rows new_rows pins outputs name number id k len names-are rows-are count id-is none =
    let l = line.Input name in
    let there : is_among new_ks name ≡ true = ap (λ (ns : List (List ℕ)). is_among ns name) names-are ∙ is_among_new name ks in
    let g : Grows before l ks new_ks rows new_rows number = record { names_are = k.names_are; told = k.told; rows_len = len; new_names = names-are; new_rows_are = rows-are; number_is = count } in
    record {
      names_are = all_names before l ks new_ks k.names_are names-are;
      told = told_set before l ks new_ks rows new_rows number id Input name g refl there id-is (told_input before name id none);
      pins_are = same_named new_ks pins _ _ (subst (λ (ns : List (List ℕ)). Numbered ns pins (flat_map pins_in before)) (sym names-are) (numbered_kept ks pins _ name k.pins_are)) (none_more pins_in before l refl);
      ids = k.ids;
      ids_are = same_named new_ks k.ids _ _ (subst (λ (ns : List (List ℕ)). Numbered ns k.ids (flat_map outputs_in before)) (sym names-are) (numbered_kept ks k.ids _ name k.ids_are)) (none_more outputs_in before l refl);
      outputs_are = k.outputs_are;
    }

-- an OUTPUT line
pub knows_output : (before : List Line) (ks new_ks : List (List ℕ)) (rows new_rows : List Definition) (pins outputs new_outputs : List ℕ) (name : List ℕ) (number id : ℕ) → Knows before ks rows pins outputs → length rows ≡ length ks
    → new_ks ≡ insert_key bytes_eq ks name → new_rows ≡ padded_rows rows (length new_ks) number → length before + 1 ≡ number → id ≡ place new_ks name → new_outputs ≡ insert_key nat_eq outputs id
    → Knows (before ++ line.Output name ∷ []) new_ks new_rows pins new_outputs
knows_output before ks new_ks rows new_rows pins outputs new_outputs name number id k len names-are rows-are count id-is outputs-are =
    let l = line.Output name in
    let g : Grows before l ks new_ks rows new_rows number = record { names_are = k.names_are; told = k.told; rows_len = len; new_names = names-are; new_rows_are = rows-are; number_is = count } in
    let after = insert_key bytes_eq ks name in
    let id-after : place after name ≡ id = ap (λ (ns : List (List ℕ)). place ns name) (sym names-are) ∙ sym id-is in
    let step : Numbered after (k.ids ++ id ∷ []) (flat_map outputs_in before ++ name ∷ []) = subst (λ (n : ℕ). Numbered after (k.ids ++ n ∷ []) (flat_map outputs_in before ++ name ∷ [])) id-after (number_step ks k.ids (flat_map outputs_in before) name k.ids_are) in
    record {
      names_are = all_names before l ks new_ks k.names_are names-are;
      told = λ i h. told_grown before l ks new_ks rows new_rows number g i h refl;
      pins_are = same_named new_ks pins _ _ (subst (λ (ns : List (List ℕ)). Numbered ns pins (flat_map pins_in before)) (sym names-are) (numbered_kept ks pins _ name k.pins_are)) (none_more pins_in before l refl);
      ids = k.ids ++ id ∷ [];
      ids_are = same_named new_ks (k.ids ++ id ∷ []) _ _ (subst (λ (ns : List (List ℕ)). Numbered ns (k.ids ++ id ∷ []) (flat_map outputs_in before ++ name ∷ [])) (sym names-are) step) (more outputs_in before l);
      outputs_are = outputs-are ∙ ap (λ (os : List ℕ). insert_key nat_eq os id) k.outputs_are ∙ sym (fold-append (insert_key nat_eq) [] k.ids (id ∷ []));
    }

all_among : (ks xs : List (List ℕ)) → list_all (is_among (insert_all bytes_eq ks xs)) xs ≡ true
all_among ks [] = refl
all_among ks (x ∷ xs) =
    let first : is_among (insert_all bytes_eq (insert_key bytes_eq ks x) xs) x ≡ true = among_all (insert_key bytes_eq ks x) xs x ∙ ap (λ (b : Bool). b || is_among xs x) (is_among_new x ks) in
    rw first (all_among (insert_key bytes_eq ks x) xs)

-- a gate line
pub knows_gate : (before : List Line) (ks new_ks : List (List ℕ)) (rows new_rows : List Definition) (pins new_pins outputs : List ℕ) (name word : List ℕ) (listed : List (List ℕ)) (kind : Kind) (number id start count : ℕ) → Knows before ks rows pins outputs → length rows ≡ length ks
    → new_ks ≡ insert_all bytes_eq ks (name ∷ listed) → new_rows ≡ padded_rows rows (length new_ks) number → length before + 1 ≡ number → id ≡ place new_ks name → new_pins ≡ pins ++ map (place new_ks) listed
    → is_among (flat_map defined_in before) name ≡ false → kind_of_word word ≡ Some kind → start ≡ length pins → count ≡ length listed
    → Knows (before ++ line.Gate name word listed ∷ []) new_ks (set new_rows id (Gate kind count start)) new_pins outputs
knows_gate before ks new_ks rows new_rows pins new_pins outputs name word listed kind number id start count k len names-are rows-are line-is id-is pins-are none kind-is start-is count-is =
    let l = line.Gate name word listed in
    let all = insert_all bytes_eq ks (name ∷ listed) in
    let there-all : is_among all name ≡ true = among_all ks (name ∷ listed) name ∙ after ks listed in
    let there : is_among new_ks name ≡ true = ap (λ (ns : List (List ℕ)). is_among ns name) names-are ∙ there-all in
    let g : Grows before l ks new_ks rows new_rows number = record { names_are = k.names_are; told = k.told; rows_len = len; new_names = names-are; new_rows_are = rows-are; number_is = line-is } in
    let start-at : start ≡ length (flat_map pins_in before) = start-is ∙ ap length k.pins_are.ids_are ∙ length-map (flat_map pins_in before) (place ks) in
    let old : Numbered all pins (flat_map pins_in before) = numbered_all ks pins (flat_map pins_in before) (name ∷ listed) k.pins_are in
    let new : Numbered all (map (place all) listed) listed = record { ids_are = refl; there = all_among (insert_key bytes_eq ks name) listed } in
    let both : Numbered all (pins ++ map (place all) listed) (flat_map pins_in before ++ listed) = numbered_more all pins (map (place all) listed) (flat_map pins_in before) listed old new in
    let moved : Numbered new_ks (pins ++ map (place new_ks) listed) (flat_map pins_in before ++ listed) = subst (λ (ns : List (List ℕ)). Numbered ns (pins ++ map (place ns) listed) (flat_map pins_in before ++ listed)) (sym names-are) both in
    record {
      names_are = all_names before l ks new_ks k.names_are names-are;
      told = told_set before l ks new_ks rows new_rows number id (Gate kind count start) name g refl there id-is (told_gate before name word listed kind id start count none kind-is start-at count-is);
      pins_are = subst (λ (ps : List ℕ). Numbered new_ks ps (flat_map pins_in (before ++ l ∷ []))) (sym pins-are) (same_named new_ks (pins ++ map (place new_ks) listed) _ _ moved (more pins_in before l));
      ids = k.ids;
      ids_are = same_named new_ks k.ids _ _ (subst (λ (ns : List (List ℕ)). Numbered ns k.ids (flat_map outputs_in before)) (sym names-are) (numbered_all ks k.ids (flat_map outputs_in before) (name ∷ listed) k.ids_are)) (none_more outputs_in before l refl);
      outputs_are = k.outputs_are;
    }
  where
    after : (ks listed : List (List ℕ)) → (is_among ks name || is_among (name ∷ listed) name) ≡ true
    after ks listed = rw (same_bytes name) (or-true (is_among ks name))

id_before : (ks new_ks : List (List ℕ)) (name : List ℕ) (id : ℕ) → new_ks ≡ insert_key bytes_eq ks name → id ≡ place new_ks name → place ks name ≡ id
id_before ks new_ks name id names-are id-is = sym (id-is ∙ ap (λ (ns : List (List ℕ)). place ns name) names-are ∙ place_new name ks)

-- what the reader finds of a name before the line
pub gate_known : (before : List Line) (ks new_ks : List (List ℕ)) (rows seen : List Definition) (pins outputs : List ℕ) (name : List ℕ) (id : ℕ) (b r : Bool) → Knows before ks rows pins outputs → length rows ≡ length ks
    → new_ks ≡ insert_key bytes_eq ks name → id ≡ place new_ks name → seen ≡ rows → r ≡ is_gate_at seen id → r ≡ b → is_among (flat_map gates_in before) name ≡ b
gate_known before ks new_ks rows seen pins outputs name id b r k len names-are id-is seen-is r-is h =
    sym (gate_at before ks rows name k.names_are k.told len) ∙ ap (is_gate_at rows) (id_before ks new_ks name id names-are id-is) ∙ ap (λ (ds : List Definition). is_gate_at ds id) (sym seen-is) ∙ sym r-is ∙ h

pub definition_known : (before : List Line) (ks new_ks : List (List ℕ)) (rows seen : List Definition) (pins outputs : List ℕ) (name : List ℕ) (id : ℕ) (b r : Bool) → Knows before ks rows pins outputs → length rows ≡ length ks
    → new_ks ≡ insert_key bytes_eq ks name → id ≡ place new_ks name → seen ≡ rows → r ≡ is_defined_at seen id → r ≡ b → is_among (flat_map defined_in before) name ≡ b
definition_known before ks new_ks rows seen pins outputs name id b r k len names-are id-is seen-is r-is h =
    sym (defined_at before ks rows name k.names_are k.told len) ∙ ap (is_defined_at rows) (id_before ks new_ks name id names-are id-is) ∙ ap (λ (ds : List Definition). is_defined_at ds id) (sym seen-is) ∙ sym r-is ∙ h

-- the names after a gate line's own name and then its pins
pub keys_of : (ks middle new_ks : List (List ℕ)) (name : List ℕ) (pins : List (List ℕ)) → middle ≡ insert_key bytes_eq ks name → new_ks ≡ insert_all bytes_eq middle pins → new_ks ≡ insert_all bytes_eq ks (name ∷ pins)
keys_of ks middle new_ks name pins first rest = rest ∙ ap (λ (ns : List (List ℕ)). insert_all bytes_eq ns pins) first

-- the name keeps its number while the pins are numbered
pub id_stays : (ks middle new_ks : List (List ℕ)) (name : List ℕ) (pins : List (List ℕ)) (id : ℕ) → middle ≡ insert_key bytes_eq ks name → new_ks ≡ insert_all bytes_eq middle pins → id ≡ place middle name → id ≡ place new_ks name
id_stays ks middle new_ks name pins id first rest id-is =
    let there : is_among middle name ≡ true = ap (λ (ns : List (List ℕ)). is_among ns name) first ∙ is_among_new name ks in
    let extends = all_extends middle pins in
    id-is ∙ sym (ap (λ (ns : List (List ℕ)). place ns name) (rest ∙ extends.is) ∙ present_place name middle extends.more there)

pub pins_some : (before : List Line) (name word : List ℕ) (listed ks new_ks : List (List ℕ)) (pins new_pins : List ℕ) → Numbered ks pins (flat_map pins_in before) → new_pins ≡ pins ++ map (place new_ks) listed → length new_pins ≡ length (flat_map pins_in (before ++ line.Gate name word listed ∷ []))
pins_some before name word listed ks new_ks pins new_pins h is =
    ap length is ∙ length-append pins (map (place new_ks) listed) ∙ ap (λ (n : ℕ). n + length (map (place new_ks) listed)) (ap length h.ids_are ∙ length-map (flat_map pins_in before) (place ks)) ∙ ap (λ (n : ℕ). length (flat_map pins_in before) + n) (length-map listed (place new_ks))
    ∙ sym (ap length (more pins_in before (line.Gate name word listed)) ∙ length-append (flat_map pins_in before) listed)

pub long-map : (ps : List (Bor (List ℕ))) → list_any (λ p. is_long p.now) ps ≡ list_any is_long (map (λ p. p.now) ps)
long-map [] = refl
long-map (p ∷ ps) = ap (λ (b : Bool). is_long p.now || b) (long-map ps)

-- whether there are too many, by what the reader counts
pub crowd : (lines : List Line) (keys : List (List ℕ)) (pins : ℕ) (b : Bool) → keys ≡ names lines → pins ≡ length (flat_map pins_in lines) → exceeds (length keys) pins ≡ b → is_crowded lines ≡ b
crowd lines keys pins b names-are pins-are h =
    let count : length (names lines) ≡ length keys = ap length (sym names-are) in
    ap (λ (k : ℕ). exceeds k (length (flat_map pins_in lines))) count ∙ ap (exceeds (length keys)) (sym pins-are) ∙ h

pub pins_none : (before : List Line) (l : Line) (ks : List (List ℕ)) (pins : List ℕ) → Numbered ks pins (flat_map pins_in before) → pins_in l ≡ [] → length pins ≡ length (flat_map pins_in (before ++ l ∷ []))
pins_none before l ks pins h none = ap length h.ids_are ∙ length-map (flat_map pins_in before) (place ks) ∙ sym (ap length (none_more pins_in before l none))

-- the causes of an INPUT line
pub input_twice : (before : List Line) (name : List ℕ) → is_long name ≡ false → is_among (flat_map gates_in before) name ≡ true → cause_of before (line.Input name) ≡ Some Twice
input_twice before name h t = rw (h, t) refl

pub input_crowds : (before : List Line) (name : List ℕ) (b : Bool) → is_long name ≡ false → is_among (flat_map gates_in before) name ≡ false → is_crowded (before ++ line.Input name ∷ []) ≡ b → cause_of before (line.Input name) ≡ cond b (Some TooMany) None
input_crowds before name b h t c = rw (h, t, c) refl

-- of an OUTPUT line
pub output_crowds : (before : List Line) (name : List ℕ) (b : Bool) → is_long name ≡ false → is_crowded (before ++ line.Output name ∷ []) ≡ b → cause_of before (line.Output name) ≡ cond b (Some TooMany) None
output_crowds before name b h c = rw (h, c) refl

-- of a gate line
pub gate_unknown : (before : List Line) (name word : List ℕ) (pins : List (List ℕ)) → kind_of_word word ≡ None → cause_of before (line.Gate name word pins) ≡ Some UnknownKind
gate_unknown before name word pins k = rw k refl

pub gate_miscounts : (before : List Line) (name word : List ℕ) (pins : List (List ℕ)) (kind : Kind) → kind_of_word word ≡ Some kind → allows kind (length pins) ≡ false → cause_of before (line.Gate name word pins) ≡ Some PinCount
gate_miscounts before name word pins kind k m = rw (k, m) refl

pub gate_cause : (before : List Line) (name word : List ℕ) (pins : List (List ℕ)) (kind : Kind) → kind_of_word word ≡ Some kind → IsTrue (allows kind (length pins)) → cause_of before (line.Gate name word pins) ≡ cause_of_names before (line.Gate name word pins) (is_among (flat_map defined_in before) name)
gate_cause before name word pins kind k m = rw (k, m) refl

pub gate_long : (before : List Line) (name word : List ℕ) (pins : List (List ℕ)) (twice : Bool) → (is_long name || list_any is_long pins) ≡ true → cause_of_names before (line.Gate name word pins) twice ≡ Some NameLong
gate_long before name word pins twice h = rw h refl

pub gate_twice : (before : List Line) (name word : List ℕ) (pins : List (List ℕ)) → (is_long name || list_any is_long pins) ≡ false → is_among (flat_map defined_in before) name ≡ true → cause_of_names before (line.Gate name word pins) (is_among (flat_map defined_in before) name) ≡ Some Twice
gate_twice before name word pins h t = rw (h, t) refl

pub gate_crowds : (before : List Line) (name word : List ℕ) (pins : List (List ℕ)) (b : Bool) → (is_long name || list_any is_long pins) ≡ false → is_among (flat_map defined_in before) name ≡ false → is_crowded (before ++ line.Gate name word pins ∷ []) ≡ b
    → cause_of_names before (line.Gate name word pins) (is_among (flat_map defined_in before) name) ≡ cond b (Some TooMany) None
gate_crowds before name word pins b h t c = rw (h, t, c) refl
