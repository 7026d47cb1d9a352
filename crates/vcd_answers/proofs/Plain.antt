-- The lines of a dump have no line feed, and its numbers are read again.
use Rattle.std.proofs.Common.{rules, ◌≡◌, ℕ, zero, suc, ◌+◌, ◌-◌, ◌*◌, ◌^◌, ◌<◌, ◌≤◌, Bool, true, false, cond, not, eqb, leb, List, [], ◌∷◌, ◌++◌, refl, ap, ◌∙◌, append_assoc, arith}
use Rattle.std.proofs.lemmas.Bool.{ne_eqb, le-leb, leb-true, and_parts, and_from}
use Rattle.std.proofs.lemmas.List.Folds.{list_all-append}
use Rattle.std.proofs.lemmas.Str.Parse.{IsNumeralModel, numerals_by_fold}
use Rattle.std.proofs.lemmas.Fmt.{digits_decimal, digits_value-decimal, decimal_nonempty}
use Rattle.std.specs.Prelude.{map, filter, flat_map, codes}
use Rattle.std.specs.List.{range_with_len, list_all, fold}
use Rattle.std.specs.Char.{is_ascii_digit}
use Rattle.std.specs.Fmt.{decimal}
use Rattle.std.specs.Str.{all_ascii_digits}
use Rattle.gate_values.specs.declared.Value.{Value}
use Rattle.gate_values.specs.declared.Value.TheVariants.{Zero, One, X, Z}
use Rattle.gate_values.specs.Spelling.{byte_of_value}
use Rattle.circuit_meaning.specs.declared.Run.{Run}
use Rattle.texts.specs.declared.Amount.TheVariants.{Within}
use Rattle.texts.specs.Text.{is_filled, is_name, is_name_byte, is_number, is_digit, decimal_value, amount, lines}
use Rattle.texts.proofs.Callers.{is_plain, line_front, no_line, with_digit, number_is}
use Rattle.vcd_answers.specs.Wires.{Wire, last_time, is_wire}
use Rattle.vcd_answers.specs.Dumps.{first_code, is_at, change_line, time_line, change_lines, is_instant, instant_lines, body_lines, var_line, var_lines, vcd_lines, with_line_feed, vcd_of}
use Rattle.vcd_answers.proofs.Sound.{last_is}
use Rattle.vcd_answers.proofs.Instants.{each_of}

-- ---- numbers

-- the value of digits after others of this value
abbrev value_after : ℕ → List ℕ → ℕ
value_after n [] = n
value_after n (c ∷ cs) = value_after (10 * n + (c - 48)) cs

own : IsNumeralModel (λ ds. all_ascii_digits ds ≡ true) (value_after 0)
own = numerals_by_fold _ (search rules) value_after (search rules)

value_fold : (n : ℕ) (cs : List ℕ) → fold with_digit n cs ≡ value_after n cs
value_fold n [] = refl
value_fold n (c ∷ cs) =
    let same : with_digit n c ≡ 10 * n + (c - 48) = omega arith in
    ap (λ (m : ℕ). fold with_digit m cs) same ∙ value_fold (10 * n + (c - 48)) cs

all_digits : (ds : List ℕ) → all_ascii_digits ds ≡ true → list_all is_digit ds ≡ true
all_digits [] h = refl
all_digits (d ∷ ds) h = let both = and_parts (is_ascii_digit d) (all_ascii_digits ds) h in rw (both.0, all_digits ds both.1) refl

pub amount_is : (t : ℕ) → t ≤ 1000001 → amount 1000001 (decimal t) ≡ Within t
amount_is t within =
    let wide : t < 2 ^ 64 = omega (arith, within) in
    let number : is_number (decimal t) ≡ true = number_is (decimal t) (decimal_nonempty t wide) (all_digits (decimal t) (digits_decimal own t wide)) in
    let worth : decimal_value (decimal t) ≡ t = value_fold 0 (decimal t) ∙ digits_value-decimal own t wide in
    rw (number, worth, le-leb t 1000001 within) refl

-- ---- no line feed

not_feed : (b : ℕ) → 11 ≤ b → not (eqb b 10) ≡ true
not_feed b h = ap not (ne_eqb b 10 (λ e. omega (arith, e, h)))

plain_digits : (ds : List ℕ) → all_ascii_digits ds ≡ true → is_plain ds ≡ true
plain_digits [] h = refl
plain_digits (d ∷ ds) h =
    let both = and_parts (is_ascii_digit d) (all_ascii_digits ds) h in
    rw (not_feed d (omega (arith, leb-true 48 d (and_parts (leb 48 d) (leb d 57) both.0).0)), plain_digits ds both.1) refl

plain_bytes : (name : List ℕ) → list_all is_name_byte name ≡ true → is_plain name ≡ true
plain_bytes [] h = refl
plain_bytes (b ∷ name) h =
    let both = and_parts (is_name_byte b) (list_all is_name_byte name) h in
    let visible = and_parts _ _ (and_parts _ _ (and_parts _ _ both.0).0).0 in
    rw (not_feed b (omega (arith, leb-true 33 b visible.0)), plain_bytes name both.1) refl

plain_name : (name : List ℕ) → is_name name ≡ true → is_plain name ≡ true
plain_name name h = plain_bytes name (and_parts (is_filled name) (list_all is_name_byte name) h).1

plain_var : (code : ℕ) (name : List ℕ) → 33 ≤ code → is_name name ≡ true → is_plain (var_line code name) ≡ true
plain_var code name from h =
    let named : is_plain (name ++ codes " $end") ≡ true = list_all-append (λ b. not (eqb b 10)) name (codes " $end") ∙ and_from _ _ (plain_name name h) refl in
    rw (not_feed code (omega arith), named) refl

plain_time : (t : ℕ) → t ≤ 1000001 → is_plain (time_line t) ≡ true
plain_time t within = plain_digits (decimal t) (digits_decimal own t (omega (arith, within)))

plain_value : (v : Value) → not (eqb (byte_of_value v) 10) ≡ true
plain_value Zero = refl
plain_value One = refl
plain_value X = refl
plain_value Z = refl

plain_change : (code : ℕ) (run : Run) → 33 ≤ code → is_plain (change_line code run) ≡ true
plain_change code run from = rw (plain_value run.value, not_feed code (omega arith)) refl

-- ---- all lines

abbrev plain_lines : List (List ℕ) → Bool
plain_lines ls = list_all is_plain ls

lines_append : (xs ys : List (List ℕ)) → plain_lines xs ≡ true → plain_lines ys ≡ true → plain_lines (xs ++ ys) ≡ true
lines_append xs ys h k = list_all-append is_plain xs ys ∙ and_from (plain_lines xs) (plain_lines ys) h k

plain_vars : (code : ℕ) (wires : List Wire) → 33 ≤ code → list_all is_wire wires ≡ true → plain_lines (var_lines code wires) ≡ true
plain_vars code [] from each = refl
plain_vars code (wire ∷ wires) from each =
    let parts = each_of wire wires each in
    and_from _ _ (plain_var code wire.name from parts.0) (plain_vars (code + 1) wires (omega arith) parts.2)

plain_runs : (code t : ℕ) (runs : List Run) → 33 ≤ code → plain_lines (map (change_line code) (filter (is_at t) runs)) ≡ true
plain_runs code t [] from = refl
plain_runs code t (run ∷ runs) from = cases (eqb run.time t) (plain_change code run from) (plain_runs code t runs from)
  where
    cases : (b : Bool) → is_plain (change_line code run) ≡ true → plain_lines (map (change_line code) (filter (is_at t) runs)) ≡ true → plain_lines (map (change_line code) (cond b (run ∷ filter (is_at t) runs) (filter (is_at t) runs))) ≡ true
    cases true one more = and_from _ _ one more
    cases false one more = more

plain_changes : (t code : ℕ) (wires : List Wire) → 33 ≤ code → plain_lines (change_lines t code wires) ≡ true
plain_changes t code [] from = refl
plain_changes t code (wire ∷ wires) from = lines_append (map (change_line code) (filter (is_at t) wire.changes)) (change_lines t (code + 1) wires) (plain_runs code t wire.changes from) (plain_changes t (code + 1) wires (omega arith))

plain_instants : (wires : List Wire) (a n : ℕ) → a + n ≤ 1000002 → plain_lines (flat_map (instant_lines wires) (filter (is_instant wires) (range_with_len a n))) ≡ true
plain_instants wires a zero within = refl
plain_instants wires a (suc n) within = cases (is_instant wires a) (plain_time a (omega arith)) (plain_instants wires (a + 1) n (omega arith))
  where
    cases : (b : Bool) → is_plain (time_line a) ≡ true → plain_lines (flat_map (instant_lines wires) (filter (is_instant wires) (range_with_len (a + 1) n))) ≡ true
        → plain_lines (flat_map (instant_lines wires) (cond b (a ∷ filter (is_instant wires) (range_with_len (a + 1) n)) (filter (is_instant wires) (range_with_len (a + 1) n)))) ≡ true
    cases true one more = and_from _ _ one (lines_append (change_lines a first_code wires) (flat_map (instant_lines wires) (filter (is_instant wires) (range_with_len (a + 1) n))) (plain_changes a first_code wires (omega arith)) more)
    cases false one more = more

plain_all : (wires : List Wire) → list_all is_wire wires ≡ true → plain_lines (vcd_lines wires) ≡ true
plain_all wires each =
    lines_append (var_lines first_code wires) (codes "$upscope $end" ∷ codes "$enddefinitions $end" ∷ body_lines wires) (plain_vars first_code wires (omega arith) each)
    (plain_instants wires 0 (last_time + 1) (omega (arith, last_is)))

lines_ended : (ls : List (List ℕ)) → plain_lines ls ≡ true → lines (flat_map with_line_feed ls) ≡ ls
lines_ended [] h = no_line
lines_ended (l ∷ ls) h =
    let both = and_parts _ _ h in
    ap lines (append_assoc l (10 ∷ []) (flat_map with_line_feed ls)) ∙ line_front l (flat_map with_line_feed ls) both.0 ∙ ap (λ (m : List (List ℕ)). l ∷ m) (lines_ended ls both.1)

pub lines_of_dump : (wires : List Wire) → list_all is_wire wires ≡ true → lines (vcd_of wires) ≡ vcd_lines wires
unfolding vcd_of
lines_of_dump wires each = lines_ended (vcd_lines wires) (plain_all wires each)
