use Rattle.std.proofs.Common.{ap, length, arith}
use Rattle.bench_reader.proofs.names.Names.with_room.Goals as goal

pub invariant_of-result : goal.invariant_of-result
invariant_of-result c = record { chains = c.in_ok-of_names.ensures.chained; distinct = λ i lt. absurd (omega (arith, ap length c.new-texts.ensures)) }
