-- The exit statuses of the process, and the statuses of stops that no line tells of.
use Rattle.std.specs.Prelude.{ℕ}
use Rattle.session_loop.specs.declared.stop.JournalStop.{JournalStop}
use Rattle.session_loop.specs.declared.stop.JournalStop.TheVariants as journal
use Rattle.session_loop.specs.declared.stop.UnitStop.{UnitStop}
use Rattle.session_loop.specs.declared.stop.UnitStop.TheVariants as unit
use Rattle.session_loop.specs.declared.halt.JournalHalt.{JournalHalt}
use Rattle.session_loop.specs.declared.halt.JournalHalt.TheVariants.{Unmade, Stopped}
use Rattle.backsim.specs.declared.status.Output.TheVariants as outputs
use Rattle.backsim.specs.declared.status.NamedFile.TheVariants as named
use Rattle.backsim.specs.declared.status.Status.{Status}
use Rattle.backsim.specs.declared.status.Status.TheVariants.{Ended, Words, Refused, ReadFault, WriteFault, FileFault, OutOfMemory}

abbrev pub number_of : Status → ℕ
number_of Ended = 0
number_of Words = 1
number_of Refused = 2
number_of (ReadFault input) = 3
number_of (WriteFault output) = 4
number_of (FileFault file) = 5
number_of OutOfMemory = 6

abbrev pub of_journal : JournalStop → Status
of_journal journal.Unwritten = WriteFault outputs.Journal
of_journal journal.OutOfMemory = OutOfMemory

abbrev pub of_unit : UnitStop → Status
of_unit unit.RepliesUnwritten = WriteFault outputs.Replies
of_unit unit.JournalUnwritten = WriteFault outputs.Journal
of_unit unit.DumpUnmade = FileFault named.Vcd
of_unit unit.DumpUnwritten = WriteFault outputs.Vcd
of_unit unit.DumpUnfinished = FileFault named.Vcd
of_unit unit.OutOfMemory = OutOfMemory

-- of a session without a script
abbrev pub of_work : JournalHalt → Status
of_work Unmade = FileFault named.Journal
of_work (Stopped stop) = of_journal stop
