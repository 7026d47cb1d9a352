use Rattle.timing_file.proofs.Steps.{version_step}
use Rattle.timing_file.proofs.reader.take_version.Goals as goal

pub returns : goal.returns
returns c before read count = version_step before c.args.reader.now read c.if-not-reader.false
