use Rattle.std.proofs.Common.{refl}
use Rattle.query_lines.proofs.Feeding.{opened}
use Rattle.query_lines.proofs.script.ScriptReader.new.Goals as goal

pub returns : goal.returns
returns c = opened c.args.horizon _ c.new.ensures c.new-2.ensures refl
