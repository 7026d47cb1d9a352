use Rattle.std.proofs.Common.{ap}
use Rattle.stimulus_file.specs.inner.Reading.{line_seen}
use Rattle.stimulus_file.proofs.Steps.{blank_gives}
use Rattle.stimulus_file.proofs.reader.take_form.Goals as goal

pub returns-in-Blank : goal.returns-in-Blank
returns-in-Blank c before read line-is = blank_gives before _ _ (ap line_seen c.in-Blank.is) read
