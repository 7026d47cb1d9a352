-- The units of a script are within their limits.
use Rattle.std.proofs.Common.{◌≡◌, ℕ, ◌+◌, ◌-◌, ◌<◌, ◌≤◌, Bool, true, false, cond, ltb, leb, ◌||◌, ◌&&◌, List, [], ◌∷◌, ◌++◌, length, map, refl, arith}
use Rattle.std.specs.Prelude.{All}
use Rattle.std.specs.List.{enumerate_from}
use Rattle.std.proofs.lemmas.List.{length-append}
use Rattle.std.proofs.lemmas.List.Elements.{All-nil, All-cons, All-append}
use Rattle.std.proofs.lemmas.Bool.{leb-true, ltb-true, ltb-false}
use Rattle.texts.specs.Text.{lines as lines_in}
use Rattle.query_lines.specs.declared.line.Line.{Line}
use Rattle.query_lines.specs.declared.line.Line.TheVariants.{Blank, Ask, Go, Bad, Stats}
use Rattle.query_lines.specs.declared.line.Line.TheVariants as lines
use Rattle.query_lines.specs.declared.line.What.{What}
use Rattle.query_lines.specs.declared.line.What.TheVariants as whats
use Rattle.query_lines.specs.declared.line.Window.{Window}
use Rattle.query_lines.specs.declared.unit.Item.{Item}
use Rattle.query_lines.specs.declared.unit.Unit.{Unit as ScriptUnit}
use Rattle.query_lines.specs.declared.unit.Unit.TheVariants as units
use Rattle.query_lines.specs.Lines.{line_of}
use Rattle.query_lines.specs.Units.{LineStep, budget_weight, window_length, length_weight, budgets, lengths, closed_unit, is_over, pending_up_to_64, with_item, line_step, units_from}
use Rattle.query_lines.specs.Reading.{script_units}
use Rattle.query_lines.specs.Laws.{IsWithinLimits}
use Rattle.query_lines.proofs.Forms.{IsReadItem, IsReadLine, line_of-read}

-- an item that was read has a modest budget
read-modest : (what : What) → IsReadItem what → budget_weight what ≤ 500000
read-modest (whats.Window window tell) read = read.modest
read-modest whats.Bad read = omega arith

-- pending items within the limits
record IsPending (horizon : ℕ) (items : List Item) : Type 0 where
  few : length items < 64
  budgets_fit : budgets items ≤ 1000000
  lengths_fit : lengths horizon items ≤ 4000000

record IsSound (horizon : ℕ) (done : LineStep) : Type 0 where
  given : All (IsWithinLimits horizon) done.units
  pending : IsPending horizon done.pending

no_items : (horizon : ℕ) → IsPending horizon []
no_items horizon = record { few = omega arith; budgets_fit = omega arith; lengths_fit = omega arith }

window_length-fits : (horizon : ℕ) (window : Window) → horizon ≤ 1000000 → window_length horizon window ≤ 1000001
window_length-fits horizon window bound = cases (ltb window.from window.to) (leb window.to (horizon + 1)) refl
  where
    cases : (a b : Bool) → leb window.to (horizon + 1) ≡ b → cond (a && b) (window.to - window.from) 0 ≤ 1000001
    cases false b h = omega arith
    cases true false h = omega arith
    cases true true h = let le = leb-true window.to (horizon + 1) h in omega (arith, le, bound)

length_weight-fits : (horizon : ℕ) (what : What) → horizon ≤ 1000000 → length_weight horizon what ≤ 1000001
length_weight-fits horizon (whats.Window window tell) bound = window_length-fits horizon window bound
length_weight-fits horizon whats.Bad bound = omega arith

one_item : (horizon : ℕ) (item : Item) → horizon ≤ 1000000 → budget_weight item.what ≤ 500000 → IsPending horizon (item ∷ [])
one_item horizon item bound modest = let fits = length_weight-fits horizon item.what bound in record { few = omega arith; budgets_fit = omega (arith, modest); lengths_fit = omega (arith, fits) }

closed-within : (horizon : ℕ) (items : List Item) → length items ≤ 64 → budgets items ≤ 1000000 → lengths horizon items ≤ 4000000 → All (IsWithinLimits horizon) (closed_unit items)
closed-within horizon [] most b l = All-nil (IsWithinLimits horizon)
closed-within horizon (item ∷ items) most b l =
    All-cons (IsWithinLimits horizon) (units.Batch (item ∷ items)) [] (record { some = omega arith; most = most; budgets_fit = b; lengths_fit = l }) (All-nil (IsWithinLimits horizon))

closed-sound : (horizon : ℕ) (items : List Item) → IsPending horizon items → All (IsWithinLimits horizon) (closed_unit items)
closed-sound horizon items p = closed-within horizon items (omega (arith, p.few)) p.budgets_fit p.lengths_fit

up_to_64-sound : (horizon : ℕ) (items : List Item) → length items ≤ 64 → budgets items ≤ 1000000 → lengths horizon items ≤ 4000000 → IsSound horizon (pending_up_to_64 items)
up_to_64-sound horizon items most b l = cases (ltb (length items) 64) refl
  where
    cases : (v : Bool) → ltb (length items) 64 ≡ v → IsSound horizon (cond v (record { units = []; pending = items }) (record { units = closed_unit items; pending = [] }))
    cases true h = record { given = All-nil (IsWithinLimits horizon); pending = record { few = ltb-true _ _ h; budgets_fit = b; lengths_fit = l } }
    cases false h = record { given = closed-within horizon items most b l; pending = no_items horizon }

not_over : (horizon : ℕ) (pending : List Item) (item : Item) → horizon ≤ 1000000 → budget_weight item.what ≤ 500000 → is_over horizon pending item ≡ false
    → (budgets (pending ++ item ∷ []) ≤ 1000000) × (lengths horizon (pending ++ item ∷ []) ≤ 4000000)
not_over horizon [] item bound modest h = let one = one_item horizon item bound modest in (one.budgets_fit, one.lengths_fit)
not_over horizon (first ∷ items) item bound modest h =
    cases (ltb 1000000 (budgets (first ∷ items ++ item ∷ []))) (ltb 4000000 (lengths horizon (first ∷ items ++ item ∷ []))) refl refl h
  where
    cases : (a b : Bool) → ltb 1000000 (budgets (first ∷ items ++ item ∷ [])) ≡ a → ltb 4000000 (lengths horizon (first ∷ items ++ item ∷ [])) ≡ b → (a || b) ≡ false
        → (budgets (first ∷ items ++ item ∷ []) ≤ 1000000) × (lengths horizon (first ∷ items ++ item ∷ []) ≤ 4000000)
    cases true b p q h = absurd cc
    cases false true p q h = absurd cc
    cases false false p q h = (ltb-false _ _ p, ltb-false _ _ q)

with_item-sound : (horizon : ℕ) (pending : List Item) (item : Item) → horizon ≤ 1000000 → budget_weight item.what ≤ 500000 → IsPending horizon pending → IsSound horizon (with_item horizon pending item)
with_item-sound horizon pending item bound modest p = cases (is_over horizon pending item) refl
  where
    cases : (b : Bool) → is_over horizon pending item ≡ b → IsSound horizon (cond b (record { units = closed_unit pending; pending = item ∷ [] }) (pending_up_to_64 (pending ++ item ∷ [])))
    cases true h = record { given = closed-sound horizon pending p; pending = one_item horizon item bound modest }
    cases false h =
        let fits = not_over horizon pending item bound modest h in
        up_to_64-sound horizon (pending ++ item ∷ []) (omega (arith, p.few, length-append pending (item ∷ []))) fits.0 fits.1

with_unit-sound : (horizon : ℕ) (pending : List Item) (unit : ScriptUnit) → IsPending horizon pending → IsWithinLimits horizon unit → IsSound horizon (record { units = closed_unit pending ++ unit ∷ []; pending = [] })
with_unit-sound horizon pending unit p fits = record {
  given = All-append (IsWithinLimits horizon) (closed_unit pending) (unit ∷ []) (closed-sound horizon pending p) (All-cons (IsWithinLimits horizon) unit [] fits (All-nil (IsWithinLimits horizon)));
  pending = no_items horizon;
}

step-sound : (horizon : ℕ) (pending : List Item) (number : ℕ) (line : Line) → horizon ≤ 1000000 → IsReadLine line → IsPending horizon pending → IsSound horizon (line_step horizon pending number line)
step-sound horizon pending number Blank bound read p = record { given = All-nil (IsWithinLimits horizon); pending = p }
step-sound horizon pending number (Ask what) bound read p = with_item-sound horizon pending (record { line = number; what = what }) bound (read-modest what read) p
step-sound horizon pending number Bad bound read p = with_item-sound horizon pending (record { line = number; what = whats.Bad }) bound (omega arith) p
step-sound horizon pending number Go bound read p = record { given = closed-sound horizon pending p; pending = no_items horizon }
step-sound horizon pending number (lines.Trim cells) bound read p = with_unit-sound horizon pending (units.Trim cells) p read
step-sound horizon pending number Stats bound read p = with_unit-sound horizon pending units.Stats p tt
step-sound horizon pending number (lines.Question window asks) bound read p =
    with_unit-sound horizon pending (units.Question (record { line = number; window = window; asks = asks })) p (read.window_is.modest, read.suits)
step-sound horizon pending number (lines.Vcd file) bound read p = with_unit-sound horizon pending (units.Vcd file) p tt

units_from-within : (horizon : ℕ) (pending : List Item) (first : ℕ) (texts : List (List ℕ)) → horizon ≤ 1000000 → IsPending horizon pending → All (IsWithinLimits horizon) (units_from horizon pending (enumerate_from first (map line_of texts)))
units_from-within horizon pending first [] bound p = closed-sound horizon pending p
units_from-within horizon pending first (text ∷ texts) bound p =
    let sound = step-sound horizon pending first (line_of text) bound (line_of-read text) p in
    All-append (IsWithinLimits horizon) (line_step horizon pending first (line_of text)).units _ sound.given (units_from-within horizon (line_step horizon pending first (line_of text)).pending (first + 1) texts bound sound.pending)

pub units-within : (horizon : ℕ) (script : List ℕ) → horizon ≤ 1000000 → All (IsWithinLimits horizon) (script_units horizon script)
unfolding script_units
units-within horizon script bound = units_from-within horizon [] 1 (lines_in script) bound (no_items horizon)
