use Rattle.std.proofs.Common.{◌≡◌, ◌≤◌, ◌+◌, ◌-◌, ◌*◌, ℕ, length}
use Rattle.journal_meaning.specs.Pieces.{cuts, next_cut, spans_of}
use Rattle.query_answers.proofs.windows.strands.count_pieces.Given as goal

abbrev pub invariant-cuts : goal.invariant-cuts
invariant-cuts l = record {
  some : 1 ≤ l.count;
  bound : l.count * 65536 ≤ l.t + 65536;
  left : (n : ℕ) × (l.q.to ≤ next_cut l.t + n * 65536) × (l.count + length (cuts n l.t l.q.to) ≡ length (spans_of l.q) + 1);
}

abbrev pub decreases-cuts : goal.decreases-cuts
decreases-cuts l = l.q.to - l.t
