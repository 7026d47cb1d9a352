-- What the dumps of a session show: each the waves of the last batch before its line.
use Rattle.std.specs.Prelude.{◌≡◌, ◌≢◌, ℕ, ◌⊎◌, List, [], ◌∷◌, ◌++◌, Option, Some, None}
use Rattle.texts.specs.Made.{Made}
use Rattle.query_lines.specs.declared.unit.Unit.{Unit as ScriptUnit}
use Rattle.query_lines.specs.declared.unit.Unit.TheVariants as units
use Rattle.vcd_answers.specs.Wires.{Wire, AreWires}
use Rattle.vcd_answers.specs.Dumps.{vcd_of}
use Rattle.session_meaning.specs.Dumps.{wires_of}
use Rattle.session_meaning.specs.Session.{Setup, Course, IsServed, Session, Opened, Served}

-- the waves to be shown after a unit, given those before it: a batch replaces them by the waves of
-- its replies, and any other unit leaves them
abbrev pub waves_left : (setup : Setup) (now next : Course) (unit : ScriptUnit)
    → IsServed setup now unit next → Option (List Wire) → Option (List Wire)
waves_left setup now next (units.Batch items) served left =
    Some (wires_of setup.design items served.replies)
waves_left setup now next (units.Trim most) served left = left
waves_left setup now next units.Stats served left = left
waves_left setup now next (units.Question question) served left = left
waves_left setup now next (units.Vcd file) served left = left

-- the waves of the last batch of a session, if there was one
abbrev pub last_waves : (setup : Setup) (all : List ScriptUnit) (course : Course)
    → Session setup all course → Option (List Wire)
last_waves setup all course Opened = None
last_waves setup all course
    (Served {units = before} {now = now} {next = next} unit session served) =
    waves_left setup now next unit served (last_waves setup before now session)

-- What the reader of dumps may return for a text, by its contract: the wires whose dump the text
-- is, or none if there are none.
abbrev pub IsReading : List ℕ → Option (List Wire) → Type 0
IsReading text (Some wires) = AreWires wires × (text ≡ vcd_of wires)
IsReading text None = (wires : List Wire) → AreWires wires → text ≢ vcd_of wires

-- The bytes are the dump of these wires: a dump can hold them, and whatever the reader may return
-- for the bytes is exactly these wires.
pub record IsDumpOf (wires : List Wire) (bytes : List ℕ) : Type 0 where
  pub wires_are : AreWires wires
  pub bytes_are : bytes ≡ vcd_of wires
  pub read_back : (answer : Option (List Wire)) → IsReading bytes answer → answer ≡ Some wires

-- one more dump, under this name, which shows the waves
pub record IsShown (waves : Option (List Wire)) (file : List ℕ)
    (dumps more : List Made) : Type 0 where
  pub wires : List Wire
  pub waves_are : waves ≡ Some wires
  pub bytes : List ℕ
  pub dump : IsDumpOf wires bytes
  pub more_are : more ≡ dumps ++ record { name = file; bytes = bytes } ∷ []

-- What a unit does to the dumps, if these are the waves of the last batch: a request for a dump
-- adds none, or one that shows them, and no other unit adds any.
abbrev pub OnlyShows : Option (List Wire) → ScriptUnit → (dumps more : List Made) → Type 0
OnlyShows waves (units.Vcd file) dumps more = (more ≡ dumps) ⊎ IsShown waves file dumps more
OnlyShows waves unit dumps more = more ≡ dumps

-- the same for every unit of a session
abbrev pub ShowsOwnWaves : (setup : Setup) (all : List ScriptUnit) (course : Course)
    → Session setup all course → Type 0
ShowsOwnWaves setup all course Opened = course.dumps ≡ []
ShowsOwnWaves setup all course
    (Served {units = before} {now = now} {next = next} unit session served) =
    ShowsOwnWaves setup before now session
    × OnlyShows (last_waves setup before now session) unit now.dumps next.dumps
