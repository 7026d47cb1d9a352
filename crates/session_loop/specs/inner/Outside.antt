-- What the private functions of this crate change of the outside, by their outcomes, beside `Outside`.
use Rattle.std.specs.Prelude.{◌≡◌, ℕ, ◌+◌, Result, Ok, Err}
use Rattle.backsim_io.specs.State.{FilesState, FileFault, Rises}
use Rattle.session_loop.specs.declared.stop.RepliesStop.{RepliesStop}
use Rattle.session_loop.specs.declared.stop.RepliesStop.TheVariants as replies
use Rattle.session_loop.specs.declared.stop.DumpStop.{DumpStop}
use Rattle.session_loop.specs.declared.stop.DumpStop.TheVariants as dump
use Rattle.session_loop.specs.declared.stop.ScriptStop.{ScriptStop}
use Rattle.session_loop.specs.Outside.{Outside, LeavesUnwritten, LeavesUnfinished, Served, ScriptStops}

-- the writing of replies
abbrev pub RepliesStops : ℕ → ℕ → RepliesStop → Type 0
RepliesStops old new replies.Unwritten = Rises old new
RepliesStops old new replies.OutOfMemory = new ≡ old

-- the making of a dump's file
abbrev pub DumpStops : FilesState → FilesState → DumpStop → Type 0
DumpStops old new dump.Unmade = FileFault old new
DumpStops old new dump.Unwritten = LeavesUnwritten old new
DumpStops old new dump.Unfinished = LeavesUnfinished old new

abbrev pub DumpChanges : {A : Type 0} → FilesState → FilesState → Result A DumpStop → Type 0
DumpChanges old new (Ok done) = new ≡ record old { created = old.created + 1 }
DumpChanges old new (Err stop) = DumpStops old new stop

-- a script
abbrev pub ScriptChanges : {A : Type 0} → Outside → Outside → Result A ScriptStop → Type 0
ScriptChanges old new (Ok done) = Served old new
ScriptChanges old new (Err stop) = ScriptStops old new stop
