use Rattle.std.proofs.Common.{refl, arith}
use Rattle.texts.specs.declared.byte.TheConstants.{NAME_BYTES}
use Rattle.texts.specs.Text.{is_name_byte}
use Rattle.texts.proofs.Finds.{agree_below, by_table}
use Rattle.texts.proofs.byte.is_name_byte.Goals as goal

pub returns : goal.returns
unfolding agree_below
returns c = by_table NAME_BYTES is_name_byte c.args.byte (omega arith) refl
