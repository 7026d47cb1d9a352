use Rattle.std.proofs.Common.{◌%◌, true, replicate, arith}
use Rattle.plan_core.proofs.Marks.{marked-all, within-marked}
use Rattle.plan_core.proofs.asked.wanted.Wanted.all.Goals as goal

pub returns : goal.returns
returns c = λ p low. within-marked (record { marks = replicate 1024 true; from = 0; to = 4294967296 }) p (omega arith) low (marked-all 1024 (p.signal % 1024) (omega arith))
