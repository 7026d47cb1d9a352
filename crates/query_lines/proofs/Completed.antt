-- The units that a reader has given are those that the lines which have ended in the bytes complete: a reader that cuts the bytes
-- behind their last line feed has given these.
use Rattle.std.proofs.Common.{◌≡◌, ℕ, ◌+◌, ◌<◌, ◌≤◌, Bool, true, false, cond, ltb, List, [], ◌∷◌, ◌++◌, length, take, map, refl, sym, ap, ◌∙◌, append_assoc, arith}
use Rattle.std.specs.List.{slice_split, onto_first, enumerate_from}
use Rattle.std.proofs.lemmas.List.{length-append, length-map, length-take, map-append, take_all}
use Rattle.std.proofs.lemmas.List.Sums.{count_by-le-length}
use Rattle.std.proofs.lemmas.List.Splits.{length-slice_split, slice_split-cons_no}
use Rattle.std.proofs.lemmas.Bool.{ltb-true, ltb-false}
use Rattle.texts.specs.Text.{is_feed, lines, less_empty_last}
use Rattle.texts.proofs.Callers.{keeps_first, is_plain}
use Rattle.query_lines.specs.declared.line.Line.{Line}
use Rattle.query_lines.specs.declared.unit.Item.{Item}
use Rattle.query_lines.specs.declared.unit.Unit.{Unit as ScriptUnit}
use Rattle.query_lines.specs.Cutting.{IsUnderWay}
use Rattle.query_lines.specs.Lines.{line_of}
use Rattle.query_lines.specs.Units.{line_step, units_from, completed_from}
use Rattle.query_lines.specs.Reading.{script_units, less_last, ended_lines, completed_units}
use Rattle.query_lines.specs.Readers.{Reader, HasRead}
use Rattle.query_lines.proofs.Determined.{given-determined}

-- A text is cut behind its last line feed.

abbrev parts-of : List ℕ → List (List ℕ)
parts-of text = slice_split is_feed text

abbrev last-part : List (List ℕ) → List ℕ
last-part [] = []
last-part (part ∷ []) = part
last-part (part ∷ next ∷ parts) = last-part (next ∷ parts)

-- what stands behind the last line feed
abbrev behind : List ℕ → List ℕ
behind text = last-part (parts-of text)

some-part : (text : List ℕ) → 0 < length (parts-of text)
some-part text = omega (arith, length-slice_split is_feed text)

split-on : (text rest : List ℕ) → parts-of (text ++ rest) ≡ less_last (parts-of text) ++ parts-of (behind text ++ rest)
split-on [] rest = refl
split-on (b ∷ text) rest = cases (is_feed b) refl (parts-of text) (some-part text) (split-on text rest)
  where
    cases : (feed : Bool) → is_feed b ≡ feed → (parts : List (List ℕ)) → 0 < length parts → parts-of (text ++ rest) ≡ less_last parts ++ parts-of (last-part parts ++ rest)
        → cond feed ([] ∷ parts-of (text ++ rest)) (onto_first b (parts-of (text ++ rest)))
        ≡ less_last (cond feed ([] ∷ parts) (onto_first b parts)) ++ parts-of (last-part (cond feed ([] ∷ parts) (onto_first b parts)) ++ rest)
    cases feed is [] some e = absurd (omega (arith, some))
    cases true is (part ∷ parts) some e = ap (λ (l : List (List ℕ)). [] ∷ l) e
    cases false is (part ∷ []) some e = ap (onto_first b) e ∙ sym (slice_split-cons_no is_feed b (part ++ rest) is)
    cases false is (part ∷ next ∷ parts) some e = ap (onto_first b) e

behind-plain : (text : List ℕ) → is_plain (behind text) ≡ true
behind-plain [] = refl
behind-plain (b ∷ text) = cases (is_feed b) refl (parts-of text) (some-part text) (behind-plain text)
  where
    cases : (feed : Bool) → is_feed b ≡ feed → (parts : List (List ℕ)) → 0 < length parts → is_plain (last-part parts) ≡ true → is_plain (last-part (cond feed ([] ∷ parts) (onto_first b parts))) ≡ true
    cases feed is [] some plain = absurd (omega (arith, some))
    cases true is (part ∷ parts) some plain = plain
    cases false is (part ∷ []) some plain = rw (is, plain) refl
    cases false is (part ∷ next ∷ parts) some plain = plain

keeps-front : (front parts : List (List ℕ)) → 0 < length parts → less_empty_last (front ++ parts) ≡ front ++ less_empty_last parts
keeps-front [] parts some = refl
keeps-front (part ∷ front) parts some =
    keeps_first part (front ++ parts) (omega (arith, some, length-append front parts)) ∙ ap (λ (l : List (List ℕ)). part ∷ l) (keeps-front front parts some)

lines-on : (text rest : List ℕ) → lines (text ++ rest) ≡ ended_lines text ++ lines (behind text ++ rest)
unfolding lines ended_lines
lines-on text rest = ap less_empty_last (split-on text rest) ∙ keeps-front (less_last (parts-of text)) (parts-of (behind text ++ rest)) (some-part (behind text ++ rest))

less_last-shorter : (parts : List (List ℕ)) → 0 < length parts → length (less_last parts) + 1 ≡ length parts
less_last-shorter [] some = absurd (omega (arith, some))
less_last-shorter (part ∷ []) some = refl
less_last-shorter (part ∷ next ∷ parts) some = omega (arith, less_last-shorter (next ∷ parts) (omega arith))

ended-few : (text : List ℕ) → length (ended_lines text) ≤ length text
unfolding ended_lines
ended-few text = omega (arith, less_last-shorter (parts-of text) (some-part text), length-slice_split is_feed text, count_by-le-length is_feed text)

-- The units go on behind lines that have ended.

abbrev pending-after : ℕ → List Item → List (ℕ × Line) → List Item
pending-after horizon pending [] = pending
pending-after horizon pending (line ∷ lines) = pending-after horizon (line_step horizon pending line.0 line.1).pending lines

units-on : (horizon first next : ℕ) (pending : List Item) (ended more : List Line) → next ≡ first + length ended
    → units_from horizon pending (enumerate_from first (ended ++ more))
    ≡ completed_from horizon pending (enumerate_from first ended) ++ units_from horizon (pending-after horizon pending (enumerate_from first ended)) (enumerate_from next more)
units-on horizon first next pending [] more is = ap (λ (n : ℕ). units_from horizon pending (enumerate_from n more)) (omega (arith, is))
units-on horizon first next pending (line ∷ ended) more is =
    let done = line_step horizon pending first line in
    ap (λ (l : List ScriptUnit). done.units ++ l) (units-on horizon (first + 1) next done.pending ended more (omega (arith, is)))
    ∙ sym (append_assoc done.units (completed_from horizon done.pending (enumerate_from (first + 1) ended)) (units_from horizon (pending-after horizon done.pending (enumerate_from (first + 1) ended)) (enumerate_from next more)))

-- a reader that cuts the bytes so
abbrev reader-of : ℕ → List ℕ → Reader
reader-of horizon script = record {
  cutter = record { kept = take 4096 (behind script); is_long = ltb 4096 (length (behind script)); ended = [] };
  pending = record { horizon = horizon; items = pending-after horizon [] (enumerate_from 1 (map line_of (ended_lines script))) };
  lines = length (ended_lines script);
}

cut-under-way : (line : List ℕ) → IsUnderWay line (record { kept = take 4096 line; is_long = ltb 4096 (length line); ended = [] })
cut-under-way line = record {
  bound = omega (arith, length-take 4096 line);
  whole = λ short. take_all 4096 line (omega (arith, ltb-false 4096 (length line) short));
  long = λ long. let more = ltb-true 4096 (length line) long in (more, omega (arith, more, length-take 4096 line));
}

reads-ended : (horizon : ℕ) (script : List ℕ) → HasRead horizon script (completed_units horizon script) (reader-of horizon script)
unfolding script_units completed_units
reads-ended horizon script = record {
  line = behind script;
  under_way = behind-plain script;
  holds = cut-under-way (behind script);
  horizon_is = refl;
  lines_end = ended-few script;
  goes_on = λ rest.
      let ended = map line_of (ended_lines script) in
      let more = map line_of (lines (behind script ++ rest)) in
      ap (λ (l : List (List ℕ)). units_from horizon [] (enumerate_from 1 (map line_of l))) (lines-on script rest)
      ∙ ap (λ (l : List Line). units_from horizon [] (enumerate_from 1 l)) (map-append line_of (ended_lines script) (lines (behind script ++ rest)))
      ∙ units-on horizon 1 (length (ended_lines script) + 1) [] ended more (omega (arith, length-map (ended_lines script) line_of));
}

-- what a reader has given
pub given-completed : (horizon : ℕ) (script : List ℕ) (given : List ScriptUnit) (reader : Reader) → HasRead horizon script given reader → horizon ≤ 1000000 → given ≡ completed_units horizon script
given-completed horizon script given reader read bound =
    given-determined horizon script given (completed_units horizon script) reader (reader-of horizon script) read (reads-ended horizon script) bound
