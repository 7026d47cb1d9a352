-- The session of a whole script.
use Rattle.std.specs.Prelude.{ℕ, ◌≤◌, List, length}
use Rattle.texts.specs.Made.{Made}
use Rattle.query_lines.specs.declared.unit.Unit.{Unit as ScriptUnit}
use Rattle.query_lines.specs.Reading.{script_units}
use Rattle.session_meaning.specs.Session.{Setup, Course, Session, IsSessionOf}
use Rattle.session_meaning.specs.Ample.{IsAmple}
use Rattle.session_meaning.specs.Shown.{ShowsOwnWaves}
use Rattle.session_meaning.specs.Again.{AreFrugal}
use Rattle.session_meaning.specs.Accepted.{AreAccepted}
use Rattle.session_meaning.specs.OneJournal.{HasMemo, HasOneJournal}

-- The promises of a session: a query whose budget is ample has its wave; each dump shows, and is
-- read as, the waves of the last batch before its line; a point is evaluated again only after the
-- eviction of its cell; each explanation is a proof that the checker accepts.
pub record KeepsPromises (setup : Setup) (all : List ScriptUnit) (course : Course)
    (session : Session setup all course) : Type 0 where
  pub ample : IsAmple setup all course session
  pub shown : ShowsOwnWaves setup all course session
  pub frugal : AreFrugal setup.shards course.sections
  pub accepted : AreAccepted setup all course session

-- The session of the whole script has these replies, this journal and these dumps, and keeps its
-- promises. Its journal is the text of its sections alone, where the script has at most 16 MiB.
pub record IsWhole (setup : Setup) (script out journal : List ℕ) (dumps : List Made) : Type 0 where
  pub session : IsSessionOf setup script out journal dumps
  pub keeps : KeepsPromises setup (script_units setup.design.circuit.horizon script)
      session.course session.served
  pub one : HasMemo setup → length script ≤ 16777216 → HasOneJournal setup session.course
