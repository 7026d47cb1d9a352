use Rattle.std.proofs.Common.{ap}
use Rattle.timing_file.specs.inner.Views.{stated_seen}
use Rattle.timing_file.proofs.Steps.{statement_steps}
use Rattle.timing_file.proofs.reader.take_statement.Goals as goal

pub returns-in-Some : goal.returns-in-Some
returns-in-Some c before line read count is = statement_steps before line _ _ _ _ _ (ap stated_seen c.in-Some.is) (c.take_in_range.ensures before line read count) is
