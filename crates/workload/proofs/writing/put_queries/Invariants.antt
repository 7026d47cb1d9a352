-- The lines so far are written, each by its draws.
use Rattle.std.proofs.Common.{◌≡◌, ◌+◌, ◌*◌, ◌++◌}
use Rattle.workload.specs.Texts.{lines_of, query_line}
use Rattle.workload.proofs.writing.put_queries.Given as goal

abbrev pub invariant-loop-number : goal.invariant-loop-number
invariant-loop-number l = record {
  text : l.text.items ≡ l.initial.text.items ++ lines_of (query_line l.initial.draws.seed) l.number;
  seed : l.draws.seed ≡ l.initial.draws.seed;
  made : l.draws.made ≡ 360016 + 2 * l.number;
}
