use Rattle.vcd_answers.proofs.ReadBack.{one_dump}
use Rattle.vcd_answers.proofs.laws.one_dump.Goals as goal

pub returns : goal.returns
returns c = one_dump
