-- What becomes of the window that a line asks for: a query, or why there is none.
use Rattle.std.specs.Prelude.{ℕ, ◌+◌, nat_le, List, [], ◌∷◌, flat_map, Option, Some, None, option_map, if◌then◌else◌}
use Rattle.journal_meaning.specs.declared.batch.Query.{Query}
use Rattle.journal_meaning.specs.Batches.{Site}
use Rattle.query_lines.specs.declared.line.Asks.{Asks}
use Rattle.query_lines.specs.declared.line.Asks.TheVariants.{Stuck}
use Rattle.query_lines.specs.declared.line.Window.{Window}
use Rattle.query_lines.specs.declared.unit.Item.{Item}
use Rattle.query_lines.specs.declared.unit.Question.{Question}
use Rattle.query_lines.specs.Units.{asked_window}
use Rattle.design.specs.Joined.{Joined}
use Rattle.design.specs.Join.{number}
use Rattle.session_meaning.specs.declared.Verdict.{Verdict}
use Rattle.session_meaning.specs.declared.Verdict.TheVariants.{Ask, Unknown, Past}

-- the verdict on a window of the signal, if there is one: it is asked if it ends no later than the horizon, and past otherwise
abbrev pub window_verdict : ℕ → ℕ → Window → Option ℕ → Verdict
window_verdict horizon line window None = Unknown
window_verdict horizon line window (Some signal) =
    if nat_le window.to (horizon + 1)
    then Ask (record { number = line; signal = signal; from = window.from; to = window.to; budget = window.budget })
    else Past

-- the verdict on the window that the line of this number asks for
abbrev pub verdict : Joined → ℕ → Window → Verdict
verdict d line window = window_verdict d.circuit.horizon line window (number d.netlist window.name)

-- that on an item; a bad line asks for no window
abbrev pub verdict_of : Joined → Item → Option Verdict
verdict_of d item = option_map (verdict d item.line) (asked_window item.what)

-- that on a question
abbrev pub question_verdict : Joined → Question → Verdict
question_verdict d question = verdict d question.line question.window

-- the stuck signal that is asked for, if there is one of that name
abbrev pub site_of : Joined → Asks → Option Site
site_of d (Stuck site value) = option_map (λ signal. record { signal = signal; value = value }) (number d.netlist site)
site_of d asks = None

-- the query that is asked, if there is one
abbrev pub asked_queries : Verdict → List Query
asked_queries (Ask query) = query ∷ []
asked_queries Unknown = []
asked_queries Past = []

-- the same of an item
abbrev pub item_queries : Option Verdict → List Query
item_queries None = []
item_queries (Some verdict) = asked_queries verdict

-- the queries of a batch with these items
abbrev pub queries_of : Joined → List Item → List Query
queries_of d items = flat_map (λ item. item_queries (verdict_of d item)) items
