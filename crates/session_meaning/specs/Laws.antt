-- Laws of sessions.
use Rattle.std.specs.Prelude.{ℕ, ◌<◌, ◌≤◌, List, [], length, All}
use Rattle.texts.specs.Made.{Made}
use Rattle.circuit_meaning.specs.Circuit.{IsCircuit}
use Rattle.design.specs.Joined.{IsDesign}
use Rattle.journal_meaning.specs.Sections.{AreLegal}
use Rattle.query_lines.specs.Fit.{HaveOwnLines, IsFit}
use Rattle.query_lines.specs.declared.unit.Item.{Item}
use Rattle.query_lines.specs.declared.unit.Unit.{Unit as ScriptUnit}
use Rattle.session_meaning.specs.Session.{Setup, Course, Session, IsBatchServed, IsSessionOf}
use Rattle.session_meaning.specs.Ample.{IsAmpleBatch, IsAmpleSession}
use Rattle.session_meaning.specs.Shown.{ShowsOwnWaves}
use Rattle.session_meaning.specs.Again.{AreFrugal}
use Rattle.session_meaning.specs.Accepted.{AreAccepted}
use Rattle.session_meaning.specs.OneJournal.{HasMemo, HasOneJournal}
use Rattle.session_meaning.specs.Whole.{KeepsPromises, IsWhole}

-- each shard's lists are legal, each from the cells that the earlier lists leave, so the laws of journals hold of sessions
abbrev pub SessionsAreLegal : Type 0
SessionsAreLegal = (setup : Setup) (units : List ScriptUnit) (course : Course) → Session setup units course
    → (shard : ℕ) → shard < setup.shards → AreLegal shard [] course.sections

-- In a batch whose items have different lines, a query whose budget is at least its need has its wave.
abbrev pub EnoughBudgetIsServed : Type 0
EnoughBudgetIsServed = (setup : Setup) → IsCircuit setup.design.circuit → (now next : Course) (items : List Item)
    → HaveOwnLines items → (served : IsBatchServed setup now next items) → IsAmpleBatch setup items served.lists served.replies

-- The same holds in the session of every script.
abbrev pub EnoughBudgetsAreServed : Type 0
EnoughBudgetsAreServed = (setup : Setup) → IsCircuit setup.design.circuit → (script out journal : List ℕ) (dumps : List Made)
    → IsSessionOf setup script out journal dumps → IsAmpleSession setup script out journal dumps

-- In a session whose units are fit, each dump shows the waves of the last batch before its line, and reading it gives exactly
-- these.
abbrev pub DumpsShowOwnWaves : Type 0
DumpsShowOwnWaves = (setup : Setup) → setup.design.circuit.horizon ≤ 1000000
    → (units : List ScriptUnit) → All (IsFit setup.design.circuit.horizon) units
    → (course : Course) (session : Session setup units course)
    → ShowsOwnWaves setup units course session

-- In every session a point is evaluated again only after the eviction of its cell.
abbrev pub SessionsAreFrugal : Type 0
SessionsAreFrugal = (setup : Setup) → IsCircuit setup.design.circuit
    → (units : List ScriptUnit) (course : Course) → Session setup units course
    → AreFrugal setup.shards course.sections

-- In a session whose units are fit, each explanation is a proof that the checker accepts.
abbrev pub ExplanationsAreAccepted : Type 0
ExplanationsAreAccepted = (setup : Setup) → IsDesign setup.design
    → (units : List ScriptUnit) → All (IsFit setup.design.circuit.horizon) units
    → (course : Course) (session : Session setup units course)
    → AreAccepted setup units course session

-- Every session whose units are fit keeps its promises.
abbrev pub SessionsKeepPromises : Type 0
SessionsKeepPromises = (setup : Setup) → IsDesign setup.design
    → (units : List ScriptUnit) → All (IsFit setup.design.circuit.horizon) units
    → (course : Course) (session : Session setup units course)
    → KeepsPromises setup units course session

-- The journal of every session is the text of its sections alone. A script has at most 16 MiB.
abbrev pub SessionsHaveOneJournal : Type 0
SessionsHaveOneJournal = (setup : Setup) → IsDesign setup.design → HasMemo setup
    → (script out journal : List ℕ) (dumps : List Made) → length script ≤ 16777216
    → (is : IsSessionOf setup script out journal dumps) → HasOneJournal setup is.course

-- Every session of a script is whole.
abbrev pub SessionsAreWhole : Type 0
SessionsAreWhole = (setup : Setup) → IsDesign setup.design
    → (script out journal : List ℕ) (dumps : List Made)
    → IsSessionOf setup script out journal dumps → IsWhole setup script out journal dumps
