use Rattle.std.proofs.Common.{ap, ◌∙◌}
use Rattle.timing_file.specs.inner.Views.{line_seen}
use Rattle.timing_file.proofs.Steps.{blank_gives, plain_steps, versioned_steps}
use Rattle.timing_file.proofs.reader.take_form.Goals as goal

pub returns-in-Blank : goal.returns-in-Blank
returns-in-Blank c before read line-is = blank_gives before _ _ (ap line_seen c.in-Blank.is) read

pub returns-in-Plain : goal.returns-in-Plain
returns-in-Plain c before read count = plain_steps before _ _ _ _ _ (ap line_seen c.in-Plain.is) (λ l is. c.take_statement.ensures before l read count is)

pub returns-then-reader : goal.returns-then-reader
returns-then-reader c before read count = versioned_steps before _ _ _ _ _ (read.version ∙ c.if-reader.true) (ap line_seen c.in-Versioned.is) (λ l is. c.take_statement-then-reader.ensures before l read count is)
