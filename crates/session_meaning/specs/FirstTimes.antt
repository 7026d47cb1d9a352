-- When a signal first has a value, and what asking for it needs.
use Rattle.std.specs.Prelude.{◌≡◌, ℕ, ◌+◌, List, find, Option, Some, None}
use Rattle.gate_values.specs.declared.Value.{Value}
use Rattle.gate_values.specs.Gates.{same_value}
use Rattle.circuit_meaning.specs.Circuit.{Circuit}
use Rattle.circuit_meaning.specs.Forward.{value, window}
use Rattle.journal_meaning.specs.declared.batch.Query.{Query}
use Rattle.journal_meaning.specs.declared.Entry.{Entry}
use Rattle.journal_meaning.specs.Answers.{IsClosed, IsSpent}
use Rattle.reply_lines.specs.declared.reply.Outcome.{Outcome}
use Rattle.session_meaning.specs.declared.Verdict.{Verdict}
use Rattle.session_meaning.specs.Replies.{IsOutcome}

-- the first time in [a, b) at which the signal s has the value w
abbrev pub first_time : Circuit → ℕ → Value → ℕ → ℕ → Option ℕ
first_time c s w a b = find (λ t. same_value (value c s t) w) (window a b)

-- the end of a window cut after this time; the given end if there is none
abbrev pub stop_at : Option ℕ → ℕ → ℕ
stop_at None b = b
stop_at (Some t) b = t + 1

-- A question for the first time in the window of a query asks only up to that time.
abbrev pub up_to_first : Circuit → Query → Value → Query
up_to_first c q w = record q { to = stop_at (first_time c q.signal w q.from q.to) q.to }

-- The answer, over the entries of its batch: the first time, or that there is none, and the query up to it is closed.
abbrev pub IsFirstTime : Circuit → List Entry → Value → Query → Option ℕ → Type 0
IsFirstTime c es w q found = (first_time c q.signal w q.from q.to ≡ found) × IsClosed c es (up_to_first c q w)

-- The outcome of a question for a first time, by the verdict on its window: its answer; or the entries hold the cause of its refusal.
abbrev pub IsFirstOutcome : Circuit → List Entry → Value → Verdict → Outcome (Option ℕ) → Type 0
IsFirstOutcome c es w verdict outcome = IsOutcome (IsFirstTime c es w) (λ q. IsSpent es (up_to_first c q w)) verdict outcome
