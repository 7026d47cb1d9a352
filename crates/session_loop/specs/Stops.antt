-- What a stop is to the caller that hands it on.
use Rattle.session_loop.specs.declared.stop.RepliesStop.{RepliesStop}
use Rattle.session_loop.specs.declared.stop.RepliesStop.TheVariants as replies
use Rattle.session_loop.specs.declared.stop.JournalStop.{JournalStop}
use Rattle.session_loop.specs.declared.stop.JournalStop.TheVariants as journal
use Rattle.session_loop.specs.declared.stop.DumpStop.{DumpStop}
use Rattle.session_loop.specs.declared.stop.DumpStop.TheVariants as dump
use Rattle.session_loop.specs.declared.stop.UnitStop.{UnitStop}
use Rattle.session_loop.specs.declared.stop.UnitStop.TheVariants.{RepliesUnwritten, JournalUnwritten, DumpUnmade, DumpUnwritten, DumpUnfinished, OutOfMemory}
use Rattle.session_loop.specs.declared.halt.JournalHalt.{JournalHalt}
use Rattle.session_loop.specs.declared.halt.JournalHalt.TheVariants.{Unmade, Stopped}
use Rattle.session_loop.specs.declared.halt.Halt.{Halt}
use Rattle.session_loop.specs.declared.halt.Halt.TheVariants.{JournalUnmade, Unbegun}

-- to a unit

abbrev pub of_replies : RepliesStop → UnitStop
of_replies replies.Unwritten = RepliesUnwritten
of_replies replies.OutOfMemory = OutOfMemory

abbrev pub of_journal : JournalStop → UnitStop
of_journal journal.Unwritten = JournalUnwritten
of_journal journal.OutOfMemory = OutOfMemory

abbrev pub of_dump : DumpStop → UnitStop
of_dump dump.Unmade = DumpUnmade
of_dump dump.Unwritten = DumpUnwritten
of_dump dump.Unfinished = DumpUnfinished

-- to a session, of which the journal is begun

abbrev pub of_begin : JournalHalt → Halt
of_begin Unmade = JournalUnmade
of_begin (Stopped stop) = Unbegun stop
