-- What a script comes to, for the proofs and the private functions of this crate.
use Rattle.std.specs.Prelude.{◌≡◌, ℕ, ◌+◌, ◌<◌, ◌≤◌, ◌⊎◌, List, [], ◌++◌, length, Contains, Option, Some, Result, Ok, Err}
use Rattle.std.specs.Io.KnownBytes.{Consumes, IsAtEnd}
use Rattle.texts.specs.Made.{Made}
use Rattle.backsim_io.specs.State.{FilesState}
use Rattle.cell_store.specs.Recency.{Contents}
use Rattle.query_lines.specs.declared.unit.Unit.{Unit as ScriptUnit}
use Rattle.query_lines.specs.Reading.{script_units}
use Rattle.query_lines.specs.Readers.{Reader, HasRead}
use Rattle.session_meaning.specs.Session.{Setup, IsSessionOf, first_course}
use Rattle.session_meaning.specs.Broken.{IsPrefix, journal_of}
use Rattle.unit_answers.specs.Stores.{AreStores, cells_of}
use Rattle.session_loop.specs.declared.desk.Desk.{Desk}
use Rattle.session_loop.specs.declared.script.Script.{Script}
use Rattle.session_loop.specs.declared.service.Service.{Service}
use Rattle.session_loop.specs.declared.stop.UnitStop.{UnitStop}
use Rattle.session_loop.specs.declared.stop.ScriptStop.{ScriptStop}
use Rattle.session_loop.specs.Outside.{Seen, UnitsStop}
use Rattle.session_loop.specs.Serving.{IsStopped, memo_of, session_of}
use Rattle.session_loop.specs.inner.Growing.{GoesOn, FilesGoOn}
use Rattle.session_loop.specs.inner.Serving.{StopsAfter, UnitsServed, UnitsStopped}

-- the reader has taken so many bytes of a script, for a simulation up to this horizon
abbrev pub HasTaken : ℕ → ℕ → Reader → Type 0
HasTaken horizon taken reader = (script : List ℕ) × (given : List ScriptUnit)
    × HasRead horizon script given reader × (length script ≡ taken)

-- a script under way can take so many bytes more
pub record CanTake (service : Service) (script : Script) (more : ℕ) : Type 0 where
  pub limit : script.taken + more ≤ 16777216
  pub horizon : service.design.now.circuit.horizon ≤ 1000000
  pub read : HasTaken service.design.now.circuit.horizon script.taken script.reader

-- whatever was read before, the reader takes these bytes after it, and gives these units
abbrev pub Reads : Reader → Reader → List ℕ → List ScriptUnit → Type 0
Reads old new bytes units = (horizon : ℕ) (script : List ℕ) (given : List ScriptUnit)
    → HasRead horizon script given old → HasRead horizon (script ++ bytes) (given ++ units) new

-- whatever was read before, the script ends, and the reader gives these units
abbrev pub Ends : Reader → List ScriptUnit → Type 0
Ends reader units = (horizon : ℕ) (script : List ℕ) (given : List ScriptUnit)
    → HasRead horizon script given reader → script_units horizon script ≡ given ++ units

-- The script takes these bytes, and the units that its reader gives are served.
pub record BytesServed (service : Service) (old new : Script) (bytes : List ℕ) (desk later : Desk) (before after : Seen) : Type 0 where
  pub taken : new.taken ≡ old.taken + length bytes
  pub units : List ScriptUnit
  pub reads : Reads old.reader new.reader bytes units
  pub served : UnitsServed service desk later units before after

-- The script takes some of these bytes, and the units that its reader gives are served. It takes one more at most, and the session breaks
-- off in the units that this gives.
pub record BytesStopped (service : Service) (reader : Reader) (bytes : List ℕ) (desk : Desk) (before after : Seen) (stop : UnitStop) : Type 0 where
  pub front : List ℕ
  pub last : List ℕ
  pub one : length last ≤ 1
  pub front_is : IsPrefix (front ++ last) bytes
  pub middle : Reader
  pub later : Reader
  pub first : List ScriptUnit
  pub units : List ScriptUnit
  pub gave : Reads reader middle front first
  pub reads : Reads middle later last units
  pub stopped : (names : List (List ℕ)) → StopsAfter (session_of service names) desk first units before after stop
  pub state : UnitsStop before.outputs after.outputs stop

-- what the bytes come to, by the outcome
abbrev pub ServesBytes : Service → Script → Script → List ℕ → Desk → Result Desk UnitStop → Seen → Seen → Type 0
ServesBytes service old new bytes desk (Ok later) before after = BytesServed service old new bytes desk later before after
ServesBytes service old new bytes desk (Err stop) before after = BytesStopped service old.reader bytes desk before after stop

-- the script ends, and the units that are left are served
pub record EndServed (service : Service) (reader : Reader) (desk later : Desk) (before after : Seen) : Type 0 where
  pub units : List ScriptUnit
  pub whole : Ends reader units
  pub served : UnitsServed service desk later units before after

-- the script ends, and the session breaks off in the units that are left, or before they were given
pub record EndStopped (service : Service) (reader : Reader) (desk : Desk) (before after : Seen) (stop : UnitStop) : Type 0 where
  pub units : List ScriptUnit
  pub whole : Ends reader units ⊎ (units ≡ [])
  pub stopped : UnitsStopped service desk units before after stop

-- what the end comes to, by the outcome
abbrev pub ServesEnd : Service → Reader → Desk → Result Desk UnitStop → Seen → Seen → Type 0
ServesEnd service reader desk (Ok later) before after = EndServed service reader desk later before after
ServesEnd service reader desk (Err stop) before after = EndStopped service reader desk before after stop

-- As many bytes left the source as the script has taken; its reader gave units, and these were served.
pub record HasServed (service : Service) (first left : Option (List ℕ)) (script : Script) (desk later : Desk) (before after : Seen) : Type 0 where
  pub bytes : List ℕ
  pub long : length bytes ≡ script.taken
  pub took : Consumes first left bytes
  pub units : List ScriptUnit
  pub read : HasRead service.design.now.circuit.horizon bytes units script.reader
  pub served : UnitsServed service desk later units before after

-- such replies, such a journal and such dumps were written, after the head
pub record Wrote (setup : Setup) (such : List ℕ → List ℕ → List Made → Type 0) (before after : Seen) : Type 0 where
  pub replies : List ℕ
  pub journal : List ℕ
  pub dumps : List Made
  pub are : such replies journal dumps
  pub replied : GoesOn before.written after.written [] replies
  pub recorded : FilesGoOn before.made after.made (journal_of setup first_course) [] journal dumps
  pub count : after.outputs.files.created ≡ length dumps + 1

-- A script can be served: the stores are empty, and the journal, which isn't finished, is the one file that was created.
pub record IsFresh (service : Service) (given : List Contents) (files : FilesState) : Type 0 where
  pub stores : AreStores (memo_of service) given
  pub empty : (shard : ℕ) → shard < service.sizes.shards → cells_of given shard ≡ []
  pub count : files.created ≡ 1
  pub unfinished : Contains files.unfinished 0

-- a known script was served to its end
pub record ScriptServed (setup : Setup) (script : List ℕ) (left : Option (List ℕ)) (before after : Seen) : Type 0 where
  pub short : length script ≤ 16777216
  pub read : IsAtEnd left
  pub wrote : Wrote setup (IsSessionOf setup script) before after

-- what a script comes to whose bytes are known, by the outcome
abbrev pub ServesScript : {A : Type 0} → Setup → Option (List ℕ) → Option (List ℕ) → Result A ScriptStop → Seen → Seen → Type 0
ServesScript setup first left (Ok done) before after = (script : List ℕ) → first ≡ Some script → ScriptServed setup script left before after
ServesScript setup first left (Err stop) before after = (script : List ℕ) → first ≡ Some script → Wrote setup (IsStopped setup script left stop) before after
