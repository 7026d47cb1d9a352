-- The bytes that a reader has taken determine the units that it has given: a line of more than 4,096 bytes that follows them shows
-- what is pending.
use Rattle.std.proofs.Common.{◌≡◌, ℕ, zero, suc, ◌+◌, ◌<◌, ◌≤◌, Bool, true, false, not, cond, ltb, ◌||◌, List, [], ◌∷◌, ◌++◌, length, replicate, map, refl, sym, ap, ◌∙◌, append-nil, arith}
use Rattle.std.specs.Prelude.{All}
use Rattle.std.specs.List.{enumerate_from}
use Rattle.std.proofs.lemmas.List.{length-append, length-replicate}
use Rattle.std.proofs.lemmas.List.Sums.{sum_by-append}
use Rattle.std.proofs.lemmas.List.Folds.{list_all-append}
use Rattle.std.proofs.lemmas.List.Elements.{All-head, All-same}
use Rattle.std.proofs.lemmas.Bool.{le-ltb, lt-leb}
use Rattle.texts.specs.Text.{is_feed, content, words}
use Rattle.texts.proofs.Callers.{is_plain, line_last}
use Rattle.query_lines.specs.declared.line.Line.{Line}
use Rattle.query_lines.specs.declared.line.Line.TheVariants.{Bad}
use Rattle.query_lines.specs.declared.line.What.TheVariants as whats
use Rattle.query_lines.specs.declared.unit.Item.{Item}
use Rattle.query_lines.specs.declared.unit.Unit.{Unit as ScriptUnit}
use Rattle.query_lines.specs.declared.unit.Unit.TheVariants as units
use Rattle.query_lines.specs.Lines.{by_words, line_of}
use Rattle.query_lines.specs.Units.{LineStep, budget_weight, length_weight, budgets, lengths, closed_unit, is_over, pending_up_to_64, line_step, units_from}
use Rattle.query_lines.specs.Reading.{numbered_lines, script_units}
use Rattle.query_lines.specs.Readers.{Reader, HasRead}
use Rattle.query_lines.specs.Laws.{IsWithin, IsWithinLimits}
use Rattle.query_lines.proofs.Limits.{units-within}
use Rattle.query_lines.proofs.OwnLines.{later-part}

-- A long line.

filler : ℕ → List ℕ
filler n = replicate n 120

filler-plain : (n : ℕ) → is_plain (filler n) ≡ true
unfolding filler
filler-plain zero = refl
filler-plain (suc n) = filler-plain n

filler-long : (n : ℕ) → length (filler n) ≡ n
unfolding filler
filler-long n = length-replicate n 120

plain-longer : (line more : List ℕ) → is_plain line ≡ true → is_plain more ≡ true → is_plain (line ++ more) ≡ true
plain-longer line more a b = list_all-append (λ x. not (is_feed x)) line more ∙ rw (a, b) refl

pub over-long : (bytes : List ℕ) → 4096 < length bytes → line_of bytes ≡ Bad
unfolding line_of
over-long bytes long = ap (λ (b : Bool). cond b (by_words (words (content bytes))) Bad) (lt-leb (length bytes) 4096 long)

bad-item : ℕ → Item
bad-item number = record { line = number; what = whats.Bad }

-- all units of a step, where the script ends after it
abbrev all-of : LineStep → List ScriptUnit
all-of done = done.units ++ closed_unit done.pending

-- what such a line makes of the pending items, where it is the last
long-gives : (horizon first : ℕ) (pending : List Item) (line more : List ℕ) → is_plain line ≡ true → is_plain more ≡ true → 4096 < length more
    → units_from horizon pending (numbered_lines first (line ++ more)) ≡ all-of (line_step horizon pending first Bad)
long-gives horizon first pending line more a b long =
    let longer : 4096 < length (line ++ more) = omega (arith, long, length-append line more) in
    ap (λ (l : List (List ℕ)). units_from horizon pending (enumerate_from first (map line_of l))) (line_last (line ++ more) (plain-longer line more a b) (omega (arith, longer)))
    ∙ ap (λ (l : Line). all-of (line_step horizon pending first l)) (over-long (line ++ more) longer)

-- A bad item counts nothing, so it never takes a batch over its limits.

closed-one : (items : List Item) (item : Item) → closed_unit (items ++ item ∷ []) ≡ units.Batch (items ++ item ∷ []) ∷ []
closed-one [] item = refl
closed-one (x ∷ items) item = refl

up_to_64-closed : (items : List Item) → all-of (pending_up_to_64 items) ≡ closed_unit items
up_to_64-closed items = cases (ltb (length items) 64)
  where
    cases : (b : Bool) → all-of (cond b (record { units = []; pending = items }) (record { units = closed_unit items; pending = [] })) ≡ closed_unit items
    cases true = refl
    cases false = append-nil (closed_unit items)

not-over : (horizon : ℕ) (first : Item) (items : List Item) (number : ℕ) → budgets (first ∷ items) ≤ 1000000 → lengths horizon (first ∷ items) ≤ 4000000 → is_over horizon (first ∷ items) (bad-item number) ≡ false
unfolding bad-item
not-over horizon first items number fits short =
    let b = sum_by-append (λ (item : Item). budget_weight item.what) (first ∷ items) (bad-item number ∷ []) in
    let l = sum_by-append (λ (item : Item). length_weight horizon item.what) (first ∷ items) (bad-item number ∷ []) in
    ap (λ v. v || ltb 4000000 (lengths horizon (first ∷ items ++ bad-item number ∷ []))) (le-ltb 1000000 _ (omega (arith, b, fits))) ∙ le-ltb 4000000 _ (omega (arith, l, short))

abbrev with_or_without : List Item → Item → Bool → LineStep
with_or_without pending item over = cond over (record { units = closed_unit pending; pending = item ∷ [] }) (pending_up_to_64 (pending ++ item ∷ []))

never-over : (horizon first : ℕ) (pending : List Item) → All (IsWithinLimits horizon) (all-of (line_step horizon pending first Bad))
    → is_over horizon pending (bad-item first) ≡ false
unfolding bad-item
never-over horizon first [] all = refl
never-over horizon first (x ∷ items) all = cases (is_over horizon (x ∷ items) (bad-item first)) refl all
  where
    cases : (b : Bool) → is_over horizon (x ∷ items) (bad-item first) ≡ b → All (IsWithinLimits horizon) (all-of (with_or_without (x ∷ items) (bad-item first) b)) → is_over horizon (x ∷ items) (bad-item first) ≡ false
    cases false e all = e
    cases true e all =
        let whole : IsWithin horizon (x ∷ items) = All-head (IsWithinLimits horizon) (units.Batch (x ∷ items)) (closed_unit (bad-item first ∷ [])) all in
        not-over horizon x items first whole.budgets_fit whole.lengths_fit

long-closes : (horizon first : ℕ) (pending : List Item) → is_over horizon pending (bad-item first) ≡ false
    → all-of (line_step horizon pending first Bad) ≡ units.Batch (pending ++ bad-item first ∷ []) ∷ []
unfolding bad-item
long-closes horizon first pending over =
    let item = bad-item first in
    ap (λ (b : Bool). all-of (with_or_without pending item b)) over ∙ up_to_64-closed (pending ++ item ∷ []) ∙ closed-one pending item

-- the units of the script and one long line more
one-more : (horizon : ℕ) (script : List ℕ) (given : List ScriptUnit) (reader : Reader) → HasRead horizon script given reader → horizon ≤ 1000000
    → script_units horizon (script ++ filler 4097) ≡ given ++ units.Batch (reader.pending.items ++ bad-item (reader.lines + 1) ∷ []) ∷ []
one-more horizon script given reader read bound =
    let more = filler 4097 in
    let first = reader.lines + 1 in
    let pending = reader.pending.items in
    let long : 4096 < length more = omega (arith, filler-long 4097) in
    let are = read.goes_on more ∙ ap (λ (l : List ScriptUnit). given ++ l) (long-gives horizon first pending read.line more read.under_way (filler-plain 4097) long) in
    let over = never-over horizon first pending (later-part (IsWithinLimits horizon) given _ (All-same (IsWithinLimits horizon) _ _ (sym are) (units-within horizon (script ++ more) bound))) in
    are ∙ ap (λ (l : List ScriptUnit). given ++ l) (long-closes horizon first pending over)

front-same : {A : Type 0} (xs ys : List A) (a b : A) → xs ++ a ∷ [] ≡ ys ++ b ∷ [] → xs ≡ ys
front-same [] [] a b e = refl
front-same [] (y ∷ ys) a b e = absurd (omega (arith, ap length e, length-append ys (b ∷ [])))
front-same (x ∷ xs) [] a b e = absurd (omega (arith, ap length e, length-append xs (a ∷ [])))
front-same (x ∷ xs) (y ∷ ys) a b e =
    let rest : xs ++ a ∷ [] ≡ ys ++ b ∷ [] = cc in
    let same : xs ≡ ys = front-same xs ys a b rest in
    cc

pub given-determined : (horizon : ℕ) (script : List ℕ) (given other : List ScriptUnit) (reader another : Reader) → HasRead horizon script given reader → HasRead horizon script other another → horizon ≤ 1000000 → given ≡ other
given-determined horizon script given other reader another read same bound =
    front-same given other _ _ (sym (one-more horizon script given reader read bound) ∙ one-more horizon script other another same bound)
