-- The units of a script: batches of items, trims, requests for the counts, questions, and dumps.
use Rattle.std.specs.Prelude.{ℕ, ◌+◌, ◌-◌, Bool, false, ◌&&◌, ◌||◌, nat_lt, nat_le, List, [], ◌∷◌, ◌++◌, length, sum_by, Option, Some, None, if◌then◌else◌}
use Rattle.query_lines.specs.declared.line.Line.{Line}
use Rattle.query_lines.specs.declared.line.Line.TheVariants.{Blank, Ask, Go}
use Rattle.query_lines.specs.declared.line.Line.TheVariants as lines
use Rattle.query_lines.specs.declared.line.What.{What}
use Rattle.query_lines.specs.declared.line.What.TheVariants as whats
use Rattle.query_lines.specs.declared.line.Asks.{Asks}
use Rattle.query_lines.specs.declared.line.Window.{Window}
use Rattle.query_lines.specs.declared.unit.Item.{Item}
use Rattle.query_lines.specs.declared.unit.Unit.{Unit as ScriptUnit}
use Rattle.query_lines.specs.declared.unit.Unit.TheVariants.{Batch, Trim, Stats, Question, Vcd}

-- the window of an item; a bad line has none
abbrev pub asked_window : What → Option Window
asked_window (whats.Window window tell) = Some window
asked_window whats.Bad = None

-- what an item adds to the budgets of its batch
abbrev pub budget_weight : What → ℕ
budget_weight (whats.Window window tell) = window.budget
budget_weight whats.Bad = 0

-- the length of a window that is not empty and ends no later than the horizon; 0 for any other
abbrev pub window_length : ℕ → Window → ℕ
window_length horizon window =
    if nat_lt window.from window.to && nat_le window.to (horizon + 1) then window.to - window.from else 0

-- what an item adds to the window lengths of its batch
abbrev pub length_weight : ℕ → What → ℕ
length_weight horizon (whats.Window window tell) = window_length horizon window
length_weight horizon whats.Bad = 0

abbrev pub budgets : List Item → ℕ
budgets items = sum_by (λ item. budget_weight item.what) items

abbrev pub lengths : ℕ → List Item → ℕ
lengths horizon items = sum_by (λ item. length_weight horizon item.what) items

-- one more item would take a nonempty batch over one of its limits
abbrev pub is_over : ℕ → List Item → Item → Bool
is_over horizon [] item = false
is_over horizon (first ∷ items) item =
    nat_lt 1000000 (budgets (first ∷ items ++ item ∷ []))
    || nat_lt 4000000 (lengths horizon (first ∷ items ++ item ∷ []))

-- the pending items as a unit, if there are any
abbrev pub closed_unit : List Item → List ScriptUnit
closed_unit [] = []
closed_unit (item ∷ items) = Batch (item ∷ items) ∷ []

-- the result of a line: the units that it completes, and the pending items after it
pub record LineStep : Type 0 where
  pub units : List ScriptUnit
  pub pending : List Item

-- these items are pending, unless they are the 64 of a full batch
abbrev pub pending_up_to_64 : List Item → LineStep
pending_up_to_64 items =
    if nat_lt (length items) 64
    then record { units = []; pending = items }
    else record { units = closed_unit items; pending = [] }

-- one more item; if it would take the pending batch over a limit, that batch first becomes a unit
abbrev pub with_item : ℕ → List Item → Item → LineStep
with_item horizon pending item =
    if is_over horizon pending item
    then record { units = closed_unit pending; pending = item ∷ [] }
    else pending_up_to_64 (pending ++ item ∷ [])

-- the question of this line is a unit, after the pending items
abbrev pub with_question : List Item → ℕ → Window → Asks → LineStep
with_question pending number window asks = record {
  units = closed_unit pending ++ Question (record { line = number; window = window; asks = asks }) ∷ [];
  pending = [];
}

-- the line of this number, after these pending items
abbrev pub line_step : ℕ → List Item → ℕ → Line → LineStep
line_step horizon pending number Blank = record { units = []; pending = pending }
line_step horizon pending number (Ask what) = with_item horizon pending (record { line = number; what = what })
line_step horizon pending number lines.Bad = with_item horizon pending (record { line = number; what = whats.Bad })
line_step horizon pending number Go = record { units = closed_unit pending; pending = [] }
line_step horizon pending number (lines.Trim cells) =
    record { units = closed_unit pending ++ Trim cells ∷ []; pending = [] }
line_step horizon pending number lines.Stats = record { units = closed_unit pending ++ Stats ∷ []; pending = [] }
line_step horizon pending number (lines.Question window asks) = with_question pending number window asks
line_step horizon pending number (lines.Vcd file) =
    record { units = closed_unit pending ++ Vcd file ∷ []; pending = [] }

-- the state of a batcher: the horizon, and the pending items
pub record Pending : Type 0 where
  pub horizon : ℕ
  pub items : List Item

-- the units that a line completes
abbrev pub given_by : Pending → ℕ → Line → List ScriptUnit
given_by pending number line = (line_step pending.horizon pending.items number line).units

-- the pending items after a line
abbrev pub left_by : Pending → ℕ → Line → Pending
left_by pending number line = record pending { items = (line_step pending.horizon pending.items number line).pending }

-- the units of numbered lines, after these pending items; the end of the script closes the last batch
abbrev pub units_from : ℕ → List Item → List (ℕ × Line) → List ScriptUnit
units_from horizon pending [] = closed_unit pending
units_from horizon pending (line ∷ lines) =
    let done = line_step horizon pending line.0 line.1 in
    done.units ++ units_from horizon done.pending lines

-- the units that numbered lines complete, after these pending items; the script goes on after them
abbrev pub completed_from : ℕ → List Item → List (ℕ × Line) → List ScriptUnit
completed_from horizon pending [] = []
completed_from horizon pending (line ∷ lines) =
    let done = line_step horizon pending line.0 line.1 in
    done.units ++ completed_from horizon done.pending lines

abbrev pub units_of : ℕ → List (ℕ × Line) → List ScriptUnit
units_of horizon lines = units_from horizon [] lines
