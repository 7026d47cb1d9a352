use Rattle.std.proofs.Common.{◌≡◌, drop}
use Rattle.bench_reader.specs.inner.Reading.{first_missing}
use Rattle.bench_reader.proofs.reader.missing_line.Given as goal

abbrev pub invariant-loop-row : goal.invariant-loop-row
invariant-loop-row l = first_missing (drop l.row-index l.rows) ≡ first_missing l.rows
