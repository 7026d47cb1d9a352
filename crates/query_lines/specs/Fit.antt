-- What the code that serves the units of a script may assume.
use Rattle.std.specs.Prelude.{◌≡◌, ◌≢◌, ⊤, ℕ, ◌≤◌, IsTrue, List, All, AllPairs}
use Rattle.texts.specs.Text.{is_name}
use Rattle.query_lines.specs.declared.line.What.{What}
use Rattle.query_lines.specs.declared.line.What.TheVariants as whats
use Rattle.query_lines.specs.declared.line.Asks.{Asks}
use Rattle.query_lines.specs.declared.line.Asks.TheVariants.{First, Why, Stuck}
use Rattle.query_lines.specs.declared.unit.Item.{Item}
use Rattle.query_lines.specs.declared.unit.Unit.{Unit as ScriptUnit}
use Rattle.query_lines.specs.declared.unit.Unit.TheVariants.{Batch, Trim, Stats, Question, Vcd}
use Rattle.query_lines.specs.Reading.{script_units, completed_units}
use Rattle.query_lines.specs.Readers.{Reader, HasRead}
use Rattle.query_lines.specs.Laws.{IsWithinLimits}

-- the items are on different lines
abbrev pub HaveOwnLines : List Item → Type 0
HaveOwnLines items = AllPairs (λ a b. a.line ≢ b.line) items

-- the items of a unit, if it has any, are on different lines
abbrev pub HasOwnLines : ScriptUnit → Type 0
HasOwnLines (Batch items) = HaveOwnLines items
HasOwnLines (Trim cells) = ⊤
HasOwnLines Stats = ⊤
HasOwnLines (Question question) = ⊤
HasOwnLines (Vcd file) = ⊤

-- The items of a unit are on different lines.
abbrev pub UnitsHaveOwnLines : Type 0
UnitsHaveOwnLines = (horizon : ℕ) (script : List ℕ) → All HasOwnLines (script_units horizon script)

-- the name in an item follows the rules
abbrev pub AsksByName : What → Type 0
AsksByName (whats.Window window tell) = IsTrue (is_name window.name)
AsksByName whats.Bad = ⊤

-- the name of a stuck signal follows the rules
abbrev pub NamesSite : Asks → Type 0
NamesSite (First value) = ⊤
NamesSite Why = ⊤
NamesSite (Stuck site value) = IsTrue (is_name site)

-- Every name in a unit follows the rules.
abbrev pub HasNames : ScriptUnit → Type 0
HasNames (Batch items) = All (λ item. AsksByName item.what) items
HasNames (Trim cells) = ⊤
HasNames Stats = ⊤
HasNames (Question question) = IsTrue (is_name question.window.name) × NamesSite question.asks
HasNames (Vcd file) = IsTrue (is_name file)

-- a unit within its limits, whose items are on different lines, and whose names follow the rules
pub record IsFit (horizon : ℕ) (unit : ScriptUnit) : Type 0 where
  pub within : IsWithinLimits horizon unit
  pub own : HasOwnLines unit
  pub named : HasNames unit

-- The units that a reader has given are fit to be served.
abbrev pub ReadUnitsAreFit : Type 0
ReadUnitsAreFit = (horizon : ℕ) (script : List ℕ) (given : List ScriptUnit) (reader : Reader)
    → HasRead horizon script given reader → horizon ≤ 1000000 → All (IsFit horizon) given

-- All units of a script are fit to be served.
abbrev pub ScriptUnitsAreFit : Type 0
ScriptUnitsAreFit = (horizon : ℕ) (script : List ℕ) → horizon ≤ 1000000 → All (IsFit horizon) (script_units horizon script)

-- The bytes that a reader has taken determine the units that it has given.
abbrev pub ReadUnitsAreDetermined : Type 0
ReadUnitsAreDetermined = (horizon : ℕ) (script : List ℕ) (given other : List ScriptUnit) (reader another : Reader)
    → HasRead horizon script given reader → HasRead horizon script other another → horizon ≤ 1000000 → given ≡ other

-- These are the units that the lines ended in the bytes complete.
abbrev pub ReadUnitsAreCompleted : Type 0
ReadUnitsAreCompleted = (horizon : ℕ) (script : List ℕ) (given : List ScriptUnit) (reader : Reader)
    → HasRead horizon script given reader → horizon ≤ 1000000 → given ≡ completed_units horizon script
