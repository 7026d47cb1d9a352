-- What units come to, for the proofs and the private functions of this crate.
use Rattle.std.specs.Prelude.{◌≡◌, ℕ, ◌+◌, List, [], ◌∷◌, ◌++◌, length, Result, Ok, Err}
use Rattle.texts.specs.Made.{Made}
use Rattle.journal_meaning.specs.declared.Entry.{Entry}
use Rattle.journal_text.specs.Spelling.{section_lines}
use Rattle.journal_text.specs.declared.sections.SectionKind.TheVariants.{Held}
use Rattle.query_lines.specs.declared.unit.Unit.{Unit as ScriptUnit}
use Rattle.session_meaning.specs.Session.{Setup, Course, Session}
use Rattle.session_meaning.specs.Broken.{journal_of}
use Rattle.session_loop.specs.declared.desk.Desk.{Desk}
use Rattle.session_loop.specs.declared.service.Service.{Service}
use Rattle.session_loop.specs.declared.stop.UnitStop.{UnitStop}
use Rattle.session_loop.specs.Outside.{Seen, OfFiles, Dumped, UnitsStop}
use Rattle.session_loop.specs.Serving.{BreaksAt, memo_of, session_of}
use Rattle.session_loop.specs.inner.Desks.{IsReady, Keeps}
use Rattle.session_loop.specs.inner.Growing.{GoesOn, FilesGoOn}

-- From what the session had come to, it was served to the end of these units.
pub record ServedTo (setup : Setup) (units : List ScriptUnit) (now : Course) (desk : Desk) (before after : Seen) : Type 0 where
  pub next : Course
  pub session : Session setup units next
  pub keeps : Keeps setup desk next
  pub replied : GoesOn before.written after.written now.out next.out
  pub recorded : FilesGoOn before.made after.made (journal_of setup now) now.dumps (journal_of setup next) next.dumps

-- Of `more` units, which come behind others, some first ones are done; this holds of all that are done and of the later ones.
pub record Within (units more : List ScriptUnit) (says : List ScriptUnit → List ScriptUnit → Type 0) : Type 0 where
  pub done : List ScriptUnit
  pub later : List ScriptUnit
  pub split : more ≡ done ++ later
  pub broken : says (units ++ done) later

-- From what the session had come to with these units, it broke off within `more` units.
pub record StoppedIn (setup : Setup) (units more : List ScriptUnit) (now : Course) (before after : Seen) (stop : UnitStop) : Type 0 where
  pub replies : List ℕ
  pub journal : List ℕ
  pub dumps : List Made
  pub broken : Within units more (BreaksAt setup replies journal dumps stop)
  pub replied : GoesOn before.written after.written now.out replies
  pub recorded : FilesGoOn before.made after.made (journal_of setup now) now.dumps journal dumps
  pub count : after.outputs.files.created ≡ length dumps + 1

-- Whatever was served before, these units were served after it.
abbrev pub Serves : Setup → Desk → Desk → List ScriptUnit → Seen → Seen → Type 0
Serves setup desk later more before after = (units : List ScriptUnit) (now : Course)
    → Session setup units now → Keeps setup desk now → ServedTo setup (units ++ more) now later before after

-- Whatever was served before, the session broke off within these units after it.
abbrev pub Stops : Setup → Desk → List ScriptUnit → Seen → Seen → UnitStop → Type 0
Stops setup desk more before after stop = (units : List ScriptUnit) (now : Course)
    → Session setup units now → Keeps setup desk now → StoppedIn setup units more now before after stop

-- Whatever was served before, the units `first` were served after it, and then the session broke off within `more`.
abbrev pub StopsAfter : Setup → Desk → List ScriptUnit → List ScriptUnit → Seen → Seen → UnitStop → Type 0
StopsAfter setup desk first more before after stop = (units : List ScriptUnit) (now : Course)
    → Session setup units now → Keeps setup desk now → StoppedIn setup (units ++ first) more now before after stop

-- Units were served: the next ones can be, and of the files only dumps are new. This, and all below, holds whatever the names of files.
pub record UnitsServed (service : Service) (desk later : Desk) (units : List ScriptUnit) (before after : Seen) : Type 0 where
  pub ready : IsReady (memo_of service) later after.outputs.files
  pub served : (names : List (List ℕ)) → Serves (session_of service names) desk later units before after
  pub state : OfFiles Dumped before.outputs after.outputs

-- The session broke off within units.
pub record UnitsStopped (service : Service) (desk : Desk) (units : List ScriptUnit) (before after : Seen) (stop : UnitStop) : Type 0 where
  pub stopped : (names : List (List ℕ)) → Stops (session_of service names) desk units before after stop
  pub state : UnitsStop before.outputs after.outputs stop

-- what units come to, by the outcome
abbrev pub ServesUnits : Service → Desk → List ScriptUnit → Result Desk UnitStop → Seen → Seen → Type 0
ServesUnits service desk units (Ok later) before after = UnitsServed service desk later units before after
ServesUnits service desk units (Err stop) before after = UnitsStopped service desk units before after stop

-- and where the desk is changed in place, to the later one
abbrev pub ServesInPlace : {A : Type 0} → Service → Desk → Desk → List ScriptUnit → Result A UnitStop → Seen → Seen → Type 0
ServesInPlace service desk later units (Ok done) before after = UnitsServed service desk later units before after
ServesInPlace service desk later units (Err stop) before after = UnitsStopped service desk units before after stop

-- the text of the section of a memo of its own, under this number, if a question had one
abbrev pub held_text : ℕ → List (List Entry) → List ℕ
held_text number [] = []
held_text number (es ∷ lists) = section_lines (record { kind = Held; number = number; shards = es ∷ lists })
