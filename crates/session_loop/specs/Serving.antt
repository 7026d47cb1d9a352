-- How far a session was served, and where in its script it stopped.
use Rattle.std.specs.Prelude.{◌≡◌, ◌≤◌, ◌⊎◌, ℕ, List, ◌++◌, length, Option, Some}
use Rattle.std.specs.Io.KnownBytes.{Consumes}
use Rattle.texts.specs.Made.{Made}
use Rattle.query_lines.specs.declared.unit.Unit.{Unit as ScriptUnit}
use Rattle.query_lines.specs.Reading.{script_units, completed_units}
use Rattle.session_meaning.specs.Session.{Setup}
use Rattle.session_meaning.specs.Broken.{IsServedUpTo, IsCutOff, IsBroken, IsBrokenInJournal, IsBrokenInDump}
use Rattle.unit_answers.specs.Stores.{setup_of}
use Rattle.session_loop.specs.declared.service.Service.{Service}
use Rattle.session_loop.specs.declared.stop.UnitStop.{UnitStop}
use Rattle.session_loop.specs.declared.stop.UnitStop.TheVariants.{RepliesUnwritten, JournalUnwritten, DumpUnmade, DumpUnwritten, DumpUnfinished, OutOfMemory}
use Rattle.session_loop.specs.declared.stop.ScriptStop.{ScriptStop}
use Rattle.session_loop.specs.declared.stop.ScriptStop.TheVariants.{Unread, TooLong, Unit}

-- what units are served with, whatever the names of files
abbrev pub memo_of : Service → Setup
memo_of service = setup_of service.design.now service.sizes

-- and with files of these names
abbrev pub session_of : Service → List (List ℕ) → Setup
session_of service names = record (memo_of service) { names = names }

-- The script.

-- every unit completed by the bytes read was served
pub record IsServedUntil (setup : Setup) (script : List ℕ) (left : Option (List ℕ)) (replies journal : List ℕ) (dumps : List Made) : Type 0 where
  pub taken : List ℕ
  pub took : Consumes (Some script) left taken
  pub served : IsServedUpTo setup taken replies journal dumps

-- Where in its script a session broke off, of which this is left to be read. Every unit that the ended lines in the bytes `before` complete
-- is whole. After them at most one byte was taken, or the script ended: that completes the unit that broke off. What was read beyond
-- `before` is at most one block of 4,096 bytes.
pub record BreaksIn (setup : Setup) (script : List ℕ) (left : Option (List ℕ)) (says : List ScriptUnit → List ScriptUnit → Type 0) : Type 0 where
  pub before : List ℕ
  pub last : List ℕ
  pub ahead : List ℕ
  pub read : Consumes (Some script) left (before ++ (last ++ ahead))
  pub one : length last ≤ 1
  pub block : length (last ++ ahead) ≤ 4096
  pub done : List ScriptUnit
  pub later : List ScriptUnit
  pub completed : (done ++ later ≡ completed_units setup.design.circuit.horizon (before ++ last))
      ⊎ ((script ≡ before) × (done ++ later ≡ script_units setup.design.circuit.horizon script))
  pub whole : (more : List ScriptUnit) × (done ≡ completed_units setup.design.circuit.horizon before ++ more)
  pub broken : says done later

-- The session of a script broke off in one of its units, or between two of them.
abbrev pub IsBrokenIn : Setup → List ℕ → Option (List ℕ) → List ℕ → List ℕ → List Made → Type 0
IsBrokenIn setup script left replies journal dumps = BreaksIn setup script left (λ done later. IsBroken setup done later replies journal dumps)

-- It broke off in the sections of a unit.
abbrev pub IsJournalBroken : Setup → List ℕ → Option (List ℕ) → List ℕ → List ℕ → List Made → Type 0
IsJournalBroken setup script left replies journal dumps = BreaksIn setup script left (λ done later. IsBrokenInJournal setup done later replies journal dumps)

-- It broke off in a dump.
abbrev pub IsDumpBroken : Setup → List ℕ → Option (List ℕ) → List ℕ → List ℕ → List Made → Type 0
IsDumpBroken setup script left replies journal dumps = BreaksIn setup script left (λ done later. IsBrokenInDump setup done later replies journal dumps)

-- where a stop of a unit breaks off: in a dump before its reply, in the sections of a unit, or in any unit
abbrev pub BreaksAt : Setup → List ℕ → List ℕ → List Made → UnitStop → List ScriptUnit → List ScriptUnit → Type 0
BreaksAt setup replies journal dumps RepliesUnwritten done later = IsBroken setup done later replies journal dumps
BreaksAt setup replies journal dumps JournalUnwritten done later = IsBrokenInJournal setup done later replies journal dumps
BreaksAt setup replies journal dumps DumpUnmade done later = IsBrokenInDump setup done later replies journal dumps
BreaksAt setup replies journal dumps DumpUnwritten done later = IsBrokenInDump setup done later replies journal dumps
BreaksAt setup replies journal dumps DumpUnfinished done later = IsBrokenInDump setup done later replies journal dumps
BreaksAt setup replies journal dumps OutOfMemory done later = IsBroken setup done later replies journal dumps

-- what was written of the session of a script that stopped
abbrev pub IsStopped : Setup → List ℕ → Option (List ℕ) → ScriptStop → List ℕ → List ℕ → List Made → Type 0
IsStopped setup script left Unread replies journal dumps = IsServedUntil setup script left replies journal dumps
IsStopped setup script left TooLong replies journal dumps = IsCutOff setup script replies journal dumps
IsStopped setup script left (Unit stop) replies journal dumps = BreaksIn setup script left (BreaksAt setup replies journal dumps stop)
