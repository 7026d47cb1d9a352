-- What the matches and the result say.
use Rattle.command_words.specs.Words.{Form, Session, Workload}
use Rattle.command_words.specs.declared.Words.{Words}
use Rattle.command_words.specs.declared.Words.TheVariants as words

-- the form of a result
abbrev pub form_in : Words → Form
form_in (words.Session netlist timing stimulus journal workers shards cells) = Session netlist.now timing.now stimulus.now journal.now workers shards cells
form_in (words.Workload number journal workers) = Workload number journal.now workers
