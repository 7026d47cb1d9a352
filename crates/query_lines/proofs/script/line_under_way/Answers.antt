use Rattle.std.proofs.Common.{refl, sym}
use Rattle.query_lines.proofs.Determined.{over-long}
use Rattle.query_lines.proofs.script.line_under_way.Goals as goal

pub returns-in-None : goal.returns-in-None
returns-in-None c bytes holds = sym (over-long bytes (holds.long (c.in-None.ensures.long.0 refl)).0)
