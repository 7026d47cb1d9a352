-- What explains why a signal has its value at a time, and which reply to the question is right.
use Rattle.std.specs.Prelude.{◌≡◌, ◌<◌, ◌⊎◌, List, length, All, AllPairs, Contains, Some, option_map}
use Rattle.gate_values.specs.declared.Value.{Value}
use Rattle.valid_intervals.specs.declared.SignalCell.{SignalCell}
use Rattle.circuit_meaning.specs.Circuit.{Circuit}
use Rattle.journal_meaning.specs.declared.batch.Query.{Query}
use Rattle.journal_meaning.specs.declared.Entry.{Entry}
use Rattle.journal_meaning.specs.declared.Entry.TheVariants.{Told, Claimed, Filled, Evicted, Dropped, Spent}
use Rattle.journal_meaning.specs.Answers.{IsClosed, IsSpent}
use Rattle.query_lines.specs.declared.line.Window.{Window}
use Rattle.why_proofs.specs.Spelling.{Proof}
use Rattle.why_proofs.specs.Justified.{answer, AreJustified, IsJustifiedProof}
use Rattle.design.specs.Joined.{Joined}
use Rattle.reply_lines.specs.declared.reply.Explanation.{Explanation}
use Rattle.reply_lines.specs.declared.reply.Outcome.{Outcome}
use Rattle.session_meaning.specs.declared.Verdict.{Verdict}
use Rattle.session_meaning.specs.Replies.{IsOutcome}

-- the entry tells or fills this cell of this signal
abbrev pub Tells : SignalCell → Entry → Type 0
Tells x (Told q p cell) = (p.signal ≡ x.signal) × (cell ≡ x.cell)
Tells x (Filled q p cell) = (p.signal ≡ x.signal) × (cell ≡ x.cell)
Tells x (Claimed q p) = ⊥
Tells x (Evicted signal start) = ⊥
Tells x (Dropped q p) = ⊥
Tells x (Spent q p claims) = ⊥

-- the order of cells: by first time, then by signal
abbrev pub IsBefore : SignalCell → SignalCell → Type 0
IsBefore x y = (x.cell.span.start < y.cell.span.start) ⊎ ((x.cell.span.start ≡ y.cell.span.start) × (x.signal < y.signal))

-- These cells explain why the signal of a query for one time has this value: each follows from those above it, the value follows from
-- all of them, and each was told or filled in the query's batch. The entries close the query.
pub record Explains (c : Circuit) (es : List Entry) (q : Query) (cells : List SignalCell) (v : Value) : Type 0 where
  pub justified : AreJustified c cells (length cells)
  pub follows : option_map (λ x. x.value) (answer c cells q.signal q.from) ≡ Some v
  pub ordered : AllPairs IsBefore cells
  pub told : All (λ x. (e : Entry) × Contains es e × Tells x e) cells
  pub closed : IsClosed c es q

-- The outcome of a query for one time, over the entries of its batch: an explanation; or the entries hold the cause of its refusal.
abbrev pub IsExplained : Circuit → List Entry → Verdict → Outcome Explanation → Type 0
IsExplained c es verdict outcome = IsOutcome (λ q found. Explains c es q found.cells found.value) (IsSpent es) verdict outcome

-- what an explanation claims of the signal in the question, at its time
abbrev pub proof_of : Window → Explanation → Proof
proof_of window found = record { name = window.name; time = window.from; value = found.value; cells = found.cells }

-- The answer is an explanation and a justified proof, so its checker need trust neither the session nor its memo.
pub record IsExplanation (d : Joined) (es : List Entry) (window : Window) (q : Query) (found : Explanation) : Type 0 where
  pub explains : Explains d.circuit es q found.cells found.value
  pub justified : IsJustifiedProof d (proof_of window found) q.signal

-- The outcome of a question for an explanation, by the verdict on its window.
abbrev pub IsWhyOutcome : Joined → List Entry → Window → Verdict → Outcome Explanation → Type 0
IsWhyOutcome d es window verdict outcome = IsOutcome (IsExplanation d es window) (IsSpent es) verdict outcome
