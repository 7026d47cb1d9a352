-- Laws of the units of every script.
use Rattle.std.specs.Prelude.{◌≡◌, ⊤, ℕ, ◌+◌, ◌<◌, ◌≤◌, List, [], ◌∷◌, length, map, flat_map, All}
use Rattle.query_lines.specs.declared.line.Line.{Line}
use Rattle.query_lines.specs.declared.line.Line.TheVariants.{Blank, Ask, Go, Bad}
use Rattle.query_lines.specs.declared.line.Line.TheVariants as lines
use Rattle.query_lines.specs.declared.line.What.TheVariants as whats
use Rattle.query_lines.specs.declared.line.Asks.{Asks}
use Rattle.query_lines.specs.declared.line.Asks.TheVariants.{Why}
use Rattle.query_lines.specs.declared.line.Window.{Window}
use Rattle.query_lines.specs.declared.unit.Item.{Item}
use Rattle.query_lines.specs.declared.unit.Question.{Question as ScriptQuestion}
use Rattle.query_lines.specs.declared.unit.Unit.{Unit as ScriptUnit}
use Rattle.query_lines.specs.declared.unit.Unit.TheVariants.{Batch, Trim, Stats, Question, Vcd}
use Rattle.query_lines.specs.Units.{budgets, lengths, units_of}
use Rattle.query_lines.specs.Reading.{script_units}

-- the requests of a script, one after another
pub data Request : Type 0 where
  Answer : Item → Request
  Leave : ℕ → Request
  Counts : Request
  Resolve : ScriptQuestion → Request
  Dump : List ℕ → Request

abbrev pub requests_in : ScriptUnit → List Request
requests_in (Batch items) = map Answer items
requests_in (Trim cells) = Leave cells ∷ []
requests_in Stats = Counts ∷ []
requests_in (Question question) = Resolve question ∷ []
requests_in (Vcd file) = Dump file ∷ []

abbrev pub requests_on : ℕ → Line → List Request
requests_on number Blank = []
requests_on number (Ask what) = Answer (record { line = number; what = what }) ∷ []
requests_on number Bad = Answer (record { line = number; what = whats.Bad }) ∷ []
requests_on number Go = []
requests_on number (lines.Trim cells) = Leave cells ∷ []
requests_on number lines.Stats = Counts ∷ []
requests_on number (lines.Question window asks) = Resolve (record { line = number; window = window; asks = asks }) ∷ []
requests_on number (lines.Vcd file) = Dump file ∷ []

-- The units are the lines' requests in order: each comes exactly once.
abbrev pub UnitsKeepRequests : Type 0
UnitsKeepRequests = (horizon : ℕ) (numbered : List (ℕ × Line))
    → flat_map requests_in (units_of horizon numbered) ≡ flat_map (λ line. requests_on line.0 line.1) numbered

-- a batch within its limits
pub record IsWithin (horizon : ℕ) (items : List Item) : Type 0 where
  pub some : 0 < length items
  pub most : length items ≤ 64
  pub budgets_fit : budgets items ≤ 1000000
  pub lengths_fit : lengths horizon items ≤ 4000000

-- what is asked suits the window: `why` asks for one time
abbrev pub SuitsWindow : Asks → Window → Type 0
SuitsWindow Why window = window.to ≡ window.from + 1
SuitsWindow asks window = ⊤

abbrev pub IsWithinLimits : ℕ → ScriptUnit → Type 0
IsWithinLimits horizon (Batch items) = IsWithin horizon items
IsWithinLimits horizon (Trim cells) = cells ≤ 65536
IsWithinLimits horizon Stats = ⊤
IsWithinLimits horizon (Question question) = (question.window.budget ≤ 500000) × SuitsWindow question.asks question.window
IsWithinLimits horizon (Vcd file) = ⊤

-- The units of a script are within their limits.
abbrev pub UnitsAreWithinLimits : Type 0
UnitsAreWithinLimits = (horizon : ℕ) (script : List ℕ) → horizon ≤ 1000000
    → All (IsWithinLimits horizon) (script_units horizon script)
