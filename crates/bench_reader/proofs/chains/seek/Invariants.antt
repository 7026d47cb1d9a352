use Rattle.bench_reader.proofs.Chained.{IsFollowed}
use Rattle.bench_reader.proofs.chains.seek.Given as goal

abbrev pub invariant-loop-last : goal.invariant-loop-last
invariant-loop-last l = IsFollowed l.names l.earlier l.name l.last

abbrev pub decreases-loop-last : goal.decreases-loop-last
decreases-loop-last l = l.last
