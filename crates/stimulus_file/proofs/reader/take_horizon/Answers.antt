use Rattle.std.proofs.Common.{sym, ◌∙◌}
use Rattle.stimulus_file.proofs.Steps.{horizon_step}
use Rattle.stimulus_file.proofs.reader.take_horizon.Goals as goal

pub returns : goal.returns
returns c before read line-is = horizon_step before c.args.reader.now c.args.horizon read (sym c.is_some.ensures ∙ c.if-is_some.false)
