-- A session that stopped before its script's end: some units are whole, and of the next one a beginning was written.
use Rattle.std.specs.Prelude.{◌≡◌, ⊤, ℕ, ◌+◌, ◌<◌, ◌⊎◌, List, [], ◌∷◌, ◌++◌, length, take}
use Rattle.texts.specs.Made.{Made}
use Rattle.query_lines.specs.declared.unit.Unit.{Unit as ScriptUnit}
use Rattle.query_lines.specs.declared.unit.Unit.TheVariants.{Vcd}
use Rattle.query_lines.specs.Reading.{completed_units}
use Rattle.journal_text.specs.Spelling.{head_line}
use Rattle.session_meaning.specs.Session.{Setup, Course, IsServed, Session, IsSession}
use Rattle.session_meaning.specs.Written.{journal_text}

-- the text begins with this part
abbrev pub IsPrefix : List ℕ → List ℕ → Type 0
IsPrefix part whole = (rest : List ℕ) × (whole ≡ part ++ rest)

abbrev pub journal_of : Setup → Course → List ℕ
journal_of setup now = journal_text setup.shards setup.capacity now.sections

-- these are the first of the files, the last of them possibly incomplete
abbrev pub AreBegun : List Made → List Made → Type 0
AreBegun [] files = ⊤
AreBegun (part ∷ parts) [] = ⊥
AreBegun (part ∷ []) (file ∷ files) = (part.name ≡ file.name) × IsPrefix part.bytes file.bytes
AreBegun (part ∷ next ∷ parts) (file ∷ files) = (part ≡ file) × AreBegun (next ∷ parts) files

-- The unit was served and leads from now to the next course. Of what it then writes only a part stands: a prefix of its replies, a prefix
-- of its sections, and a beginning of its dump. A section begins only after all replies of the unit, and a reply only after the whole dump.
-- The lists are legal and the replies are right, even those not written.
pub record IsBegun (setup : Setup) (now : Course) (unit : ScriptUnit) (out journal : List ℕ) (dumps : List Made) : Type 0 where
  pub next : Course
  pub served : IsServed setup now unit next
  pub replied : IsPrefix out next.out
  pub recorded : IsPrefix journal (journal_of setup next)
  pub dumped : AreBegun dumps next.dumps
  pub replies_first : (out ≡ next.out) ⊎ (journal ≡ journal_of setup now)
  pub dumps_first : (out ≡ now.out) ⊎ (dumps ≡ next.dumps)
  pub cut : length out + length journal < length next.out + length (journal_of setup next)

-- nothing more was written
pub record IsUntouched (setup : Setup) (now : Course) (out journal : List ℕ) (dumps : List Made) : Type 0 where
  pub out_is : out ≡ now.out
  pub journal_is : journal ≡ journal_of setup now
  pub dumps_are : dumps ≡ now.dumps

-- a beginning of the first of these units was written, or nothing
abbrev pub IsFirstBegun : Setup → Course → List ScriptUnit → List ℕ → List ℕ → List Made → Type 0
IsFirstBegun setup now [] out journal dumps = IsUntouched setup now out journal dumps
IsFirstBegun setup now (unit ∷ later) out journal dumps = IsUntouched setup now out journal dumps ⊎ IsBegun setup now unit out journal dumps

-- The units `done` are whole, and of the first one behind them at most a beginning was written.
pub record IsBroken (setup : Setup) (done later : List ScriptUnit) (out journal : List ℕ) (dumps : List Made) : Type 0 where
  pub now : Course
  pub served : Session setup done now
  pub replied : IsPrefix now.out out
  pub recorded : IsPrefix (journal_of setup now) journal
  pub dumped : (more : List Made) × (dumps ≡ now.dumps ++ more)
  pub begun : IsFirstBegun setup now later out journal dumps

-- The units `done` are whole, and all replies to the first one behind them stand. Of its sections at most a beginning was written.
pub record IsBrokenInJournal (setup : Setup) (done later : List ScriptUnit) (out journal : List ℕ) (dumps : List Made) : Type 0 where
  pub unit : ScriptUnit
  pub rest : List ScriptUnit
  pub later_is : later ≡ unit ∷ rest
  pub now : Course
  pub served : Session setup done now
  pub next : Course
  pub answered : IsServed setup now unit next
  pub out_is : out ≡ next.out
  pub dumps_are : dumps ≡ next.dumps
  pub recorded : IsPrefix (journal_of setup now) journal
  pub begun : IsPrefix journal (journal_of setup next)

-- The units `done` are whole, and the first one behind them asks for a dump, of which at most a beginning was written. Its reply was not
-- written.
pub record IsBrokenInDump (setup : Setup) (done later : List ScriptUnit) (out journal : List ℕ) (dumps : List Made) : Type 0 where
  pub file : List ℕ
  pub rest : List ScriptUnit
  pub later_is : later ≡ Vcd file ∷ rest
  pub now : Course
  pub served : Session setup done now
  pub out_is : out ≡ now.out
  pub journal_is : journal ≡ journal_of setup now
  pub dumped : (more : List Made) × (dumps ≡ now.dumps ++ more)
  pub begun : IsBegun setup now (Vcd file) out journal dumps

-- Before the head of the journal is whole: nothing was replied, and no dump was made.
pub record IsHeadBegun (setup : Setup) (out journal : List ℕ) (dumps : List Made) : Type 0 where
  pub out_is : out ≡ []
  pub head : IsPrefix journal (head_line setup.shards setup.capacity)
  pub dumps_are : dumps ≡ []

-- Every unit that the ended lines in these bytes complete was served, without the end of the script.
abbrev pub IsServedUpTo : Setup → List ℕ → List ℕ → List ℕ → List Made → Type 0
IsServedUpTo setup bytes out journal dumps = IsSession setup (completed_units setup.design.circuit.horizon bytes) out journal dumps

-- A script of more than 16,777,216 bytes: every unit that its first 16,777,216 bytes complete was served.
pub record IsCutOff (setup : Setup) (script out journal : List ℕ) (dumps : List Made) : Type 0 where
  pub long : 16777216 < length script
  pub served : IsServedUpTo setup (take 16777216 script) out journal dumps
