-- Whatever a line names has a name by the rules, and so has whatever a unit names.
use Rattle.std.proofs.Common.{ℕ, ◌+◌, Bool, true, false, cond, ltb, List, [], ◌∷◌, ◌++◌, length, map}
use Rattle.std.specs.Prelude.{All}
use Rattle.std.specs.List.{enumerate_from}
use Rattle.std.proofs.lemmas.List.Elements.{All-nil, All-cons, All-append}
use Rattle.texts.specs.Text.{lines as lines_in}
use Rattle.query_lines.specs.declared.line.Line.{Line}
use Rattle.query_lines.specs.declared.line.Line.TheVariants.{Blank, Ask, Go, Bad, Stats}
use Rattle.query_lines.specs.declared.line.Line.TheVariants as lines
use Rattle.query_lines.specs.declared.line.What.{What}
use Rattle.query_lines.specs.declared.line.What.TheVariants as whats
use Rattle.query_lines.specs.declared.unit.Item.{Item}
use Rattle.query_lines.specs.declared.unit.Unit.{Unit as ScriptUnit}
use Rattle.query_lines.specs.declared.unit.Unit.TheVariants as units
use Rattle.query_lines.specs.Lines.{line_of}
use Rattle.query_lines.specs.Units.{LineStep, closed_unit, is_over, pending_up_to_64, with_item, line_step, units_from}
use Rattle.query_lines.specs.Reading.{script_units}
use Rattle.query_lines.specs.Fit.{AsksByName, HasNames}
use Rattle.query_lines.proofs.Forms.{IsReadItem, IsReadLine, line_of-read}

-- an item that was read asks by name
read-named : (what : What) → IsReadItem what → AsksByName what
read-named (whats.Window window tell) read = read.named
read-named whats.Bad read = tt

-- the items ask by name
abbrev AskByName : List Item → Type 0
AskByName items = All (λ item. AsksByName item.what) items

-- what a line does, as far as names go
record GivesNamed (done : LineStep) : Type 0 where
  given : All HasNames done.units
  pending : AskByName done.pending

none-named : AskByName []
none-named = All-nil (λ item. AsksByName item.what)

push-named : (items : List Item) (item : Item) → AsksByName item.what → AskByName items → AskByName (items ++ item ∷ [])
push-named items item named p = All-append (λ i. AsksByName i.what) items (item ∷ []) p (All-cons (λ i. AsksByName i.what) item [] named none-named)

closed-named : (items : List Item) → AskByName items → All HasNames (closed_unit items)
closed-named [] p = All-nil HasNames
closed-named (item ∷ items) p = All-cons HasNames (units.Batch (item ∷ items)) [] p (All-nil HasNames)

up_to_64-named : (items : List Item) → AskByName items → GivesNamed (pending_up_to_64 items)
up_to_64-named items p = cases (ltb (length items) 64)
  where
    cases : (b : Bool) → GivesNamed (cond b (record { units = []; pending = items }) (record { units = closed_unit items; pending = [] }))
    cases true = record { given = All-nil HasNames; pending = p }
    cases false = record { given = closed-named items p; pending = none-named }

with_item-named : (horizon : ℕ) (pending : List Item) (item : Item) → AsksByName item.what → AskByName pending → GivesNamed (with_item horizon pending item)
with_item-named horizon pending item named p = cases (is_over horizon pending item)
  where
    cases : (b : Bool) → GivesNamed (cond b (record { units = closed_unit pending; pending = item ∷ [] }) (pending_up_to_64 (pending ++ item ∷ [])))
    cases true = record { given = closed-named pending p; pending = push-named [] item named none-named }
    cases false = up_to_64-named (pending ++ item ∷ []) (push-named pending item named p)

with_unit-named : (pending : List Item) (unit : ScriptUnit) → HasNames unit → AskByName pending → GivesNamed (record { units = closed_unit pending ++ unit ∷ []; pending = [] })
with_unit-named pending unit named p = record {
  given = All-append HasNames (closed_unit pending) (unit ∷ []) (closed-named pending p) (All-cons HasNames unit [] named (All-nil HasNames));
  pending = none-named;
}

step-named : (horizon number : ℕ) (pending : List Item) (line : Line) → IsReadLine line → AskByName pending → GivesNamed (line_step horizon pending number line)
step-named horizon number pending Blank read p = record { given = All-nil HasNames; pending = p }
step-named horizon number pending (Ask what) read p = with_item-named horizon pending (record { line = number; what = what }) (read-named what read) p
step-named horizon number pending Bad read p = with_item-named horizon pending (record { line = number; what = whats.Bad }) tt p
step-named horizon number pending Go read p = record { given = closed-named pending p; pending = none-named }
step-named horizon number pending (lines.Trim cells) read p = with_unit-named pending (units.Trim cells) tt p
step-named horizon number pending Stats read p = with_unit-named pending units.Stats tt p
step-named horizon number pending (lines.Question window asks) read p =
    with_unit-named pending (units.Question (record { line = number; window = window; asks = asks })) (read.window_is.named, read.site) p
step-named horizon number pending (lines.Vcd file) read p = with_unit-named pending (units.Vcd file) read p

units_from-named : (horizon first : ℕ) (pending : List Item) (texts : List (List ℕ)) → AskByName pending → All HasNames (units_from horizon pending (enumerate_from first (map line_of texts)))
units_from-named horizon first pending [] p = closed-named pending p
units_from-named horizon first pending (text ∷ texts) p =
    let done = step-named horizon first pending (line_of text) (line_of-read text) p in
    All-append HasNames (line_step horizon pending first (line_of text)).units _ done.given (units_from-named horizon (first + 1) (line_step horizon pending first (line_of text)).pending texts done.pending)

-- whatever the units of a script name has a name
pub units-named : (horizon : ℕ) (script : List ℕ) → All HasNames (script_units horizon script)
unfolding script_units
units-named horizon script = units_from-named horizon 1 [] (lines_in script) none-named
