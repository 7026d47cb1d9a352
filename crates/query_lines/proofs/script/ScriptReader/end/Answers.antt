use Rattle.query_lines.proofs.Feeding.{all_given, last_fit}
use Rattle.query_lines.proofs.script.ScriptReader.end.Goals as goal

pub returns-clause-whole : goal.returns-clause-whole
returns-clause-whole c horizon script given read = all_given _ given c.in_ok-units.units _ c.close.result (c.in_ok-units.ensures horizon script given read) c.close.ensures

pub returns-clause-within : goal.returns-clause-within
returns-clause-within c horizon script given read bound = last_fit horizon script given c.close.result bound (returns-clause-whole c horizon script given read)
