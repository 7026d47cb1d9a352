-- The units of a script, and the numbers of their lines, are at most as many as its bytes.
use Rattle.std.proofs.Common.{ℕ, ◌+◌, ◌≤◌, List, [], ◌∷◌, length, map, All, sym, ap, subst, arith, length-append}
use Rattle.std.specs.Prelude.{⊤, flat_map}
use Rattle.std.specs.List.{enumerate_from, slice_split}
use Rattle.std.proofs.lemmas.List.Splits.{length-slice_split}
use Rattle.std.proofs.lemmas.List.Sums.{count_by-le-length}
use Rattle.std.proofs.lemmas.List.{length-map}
use Rattle.std.proofs.lemmas.List.Elements.{recursion_from_All}
use Rattle.texts.specs.Text.{is_feed, less_empty_last, lines}
use Rattle.journal_meaning.proofs.Callers.{Each, each-append, each-left, each-right}
use Rattle.query_lines.specs.declared.line.Line.{Line}
use Rattle.query_lines.specs.declared.line.Line.TheVariants.{Blank, Ask, Go, Bad, Trim, Stats, Question, Vcd}
use Rattle.query_lines.specs.declared.unit.Item.{Item}
use Rattle.query_lines.specs.declared.unit.Unit.{Unit as ScriptUnit}
use Rattle.query_lines.specs.declared.unit.Unit.TheVariants as units
use Rattle.query_lines.specs.Lines.{line_of}
use Rattle.query_lines.specs.Laws.{Request, Answer, Leave, Counts, Resolve, Dump, requests_in, requests_on, IsWithinLimits}
use Rattle.query_lines.specs.Reading.{numbered_lines, script_units}
use Rattle.query_lines.proofs.Callers.{told-units}

-- the line of a request has at most this number
abbrev IsRequestTo : ℕ → Request → Type 0
IsRequestTo n (Answer item) = item.line ≤ n
IsRequestTo n (Leave cells) = ⊤
IsRequestTo n Counts = ⊤
IsRequestTo n (Resolve question) = question.line ≤ n
IsRequestTo n (Dump file) = ⊤

-- the lines of a unit have at most this number
abbrev pub HasLinesTo : ℕ → ScriptUnit → Type 0
HasLinesTo n (units.Batch items) = Each (λ (item : Item). item.line ≤ n) items
HasLinesTo n (units.Trim cells) = ⊤
HasLinesTo n units.Stats = ⊤
HasLinesTo n (units.Question question) = question.line ≤ n
HasLinesTo n (units.Vcd file) = ⊤

-- ---- the requests of lines

abbrev told_on : List (ℕ × Line) → List Request
told_on numbered = flat_map (λ (line : ℕ × Line). requests_on line.0 line.1) numbered

line-to : (k n : ℕ) (line : Line) → k ≤ n → Each (IsRequestTo n) (requests_on k line) × (length (requests_on k line) ≤ 1)
line-to k n Blank h = (tt, omega arith)
line-to k n (Ask what) h = ((h, tt), omega arith)
line-to k n Go h = (tt, omega arith)
line-to k n Bad h = ((h, tt), omega arith)
line-to k n (Trim cells) h = ((tt, tt), omega arith)
line-to k n Stats h = ((tt, tt), omega arith)
line-to k n (Question window asks) h = ((h, tt), omega arith)
line-to k n (Vcd file) h = ((tt, tt), omega arith)

lines-to : (k n : ℕ) (xs : List Line) → k + length xs ≤ n + 1 → Each (IsRequestTo n) (told_on (enumerate_from k xs)) × (length (told_on (enumerate_from k xs)) ≤ length xs)
lines-to k n [] h = (tt, omega arith)
lines-to k n (x ∷ xs) h =
    let here = line-to k n x (omega (arith, h)) in
    let rest = lines-to (k + 1) n xs (omega (arith, h)) in (
      each-append (IsRequestTo n) (requests_on k x) (told_on (enumerate_from (k + 1) xs)) here.0 rest.0,
      omega (arith, here.1, rest.1, length-append (requests_on k x) (told_on (enumerate_from (k + 1) xs))),
    )

-- ---- the requests of units

items-to : (n : ℕ) (items : List Item) → Each (IsRequestTo n) (map Answer items) → Each (λ (item : Item). item.line ≤ n) items
items-to n [] h = tt
items-to n (item ∷ items) h = (h.0, items-to n items h.1)

unit-to : (n : ℕ) (unit : ScriptUnit) → Each (IsRequestTo n) (requests_in unit) → HasLinesTo n unit
unit-to n (units.Batch items) h = items-to n items h
unit-to n (units.Trim cells) h = tt
unit-to n units.Stats h = tt
unit-to n (units.Question question) h = h.0
unit-to n (units.Vcd file) h = tt

unit-some : (horizon : ℕ) (unit : ScriptUnit) → IsWithinLimits horizon unit → 1 ≤ length (requests_in unit)
unit-some horizon (units.Batch items) h = omega (arith, h.some, length-map items Answer)
unit-some horizon (units.Trim cells) h = omega arith
unit-some horizon units.Stats h = omega arith
unit-some horizon (units.Question question) h = omega arith
unit-some horizon (units.Vcd file) h = omega arith

units-to : (horizon n : ℕ) (xs : List ScriptUnit) → Each (IsWithinLimits horizon) xs → Each (IsRequestTo n) (flat_map requests_in xs) → Each (HasLinesTo n) xs × (length xs ≤ length (flat_map requests_in xs))
units-to horizon n [] within h = (tt, omega arith)
units-to horizon n (x ∷ xs) within h =
    let later = flat_map requests_in xs in
    let rest = units-to horizon n xs within.1 (each-right (IsRequestTo n) (requests_in x) later h) in (
      (unit-to n x (each-left (IsRequestTo n) (requests_in x) later h), rest.0),
      omega (arith, unit-some horizon x within.0, rest.1, length-append (requests_in x) later),
    )

-- ---- a script

fewer : (parts : List (List ℕ)) → length (less_empty_last parts) ≤ length parts
fewer [] = omega arith
fewer ([] ∷ []) = omega arith
fewer ((b ∷ part) ∷ []) = omega arith
fewer (part ∷ next ∷ parts) = let k = fewer (next ∷ parts) in omega (arith, k)

lines-few : (text : List ℕ) → length (lines text) ≤ length text + 1
unfolding lines
lines-few text = omega (arith, fewer (slice_split is_feed text), length-slice_split is_feed text, count_by-le-length is_feed text)

pub script-to : (horizon : ℕ) (script : List ℕ) → All (IsWithinLimits horizon) (script_units horizon script)
    → Each (HasLinesTo (length script + 1)) (script_units horizon script) × (length (script_units horizon script) ≤ length script + 1)
unfolding script_units
script-to horizon script within =
    let n = length script + 1 in
    let numbered = numbered_lines 1 script in
    let few : length (map line_of (lines script)) ≤ length script + 1 = omega (arith, lines-few script, length-map (lines script) line_of) in
    let told = lines-to 1 n (map line_of (lines script)) (omega (arith, few)) in
    let same = told-units horizon [] numbered in
    let xs = script_units horizon script in
    let to = units-to horizon n xs (recursion_from_All (IsWithinLimits horizon) xs within) (subst (Each (IsRequestTo n)) (sym same) told.0) in
    (to.0, omega (arith, to.1, told.1, few, ap length same))
