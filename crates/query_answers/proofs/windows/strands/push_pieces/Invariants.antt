use Rattle.std.proofs.Common.{◌≡◌, ◌≤◌, ◌+◌, ◌-◌, ◌*◌, ◌++◌, ℕ, map}
use Rattle.std.specs.List.{AllByRecursion}
use Rattle.journal_meaning.specs.Pieces.{IsStart, cuts, next_cut, starts_of, pieces}
use Rattle.plan_machine.specs.Strands.{started_strand}
use Rattle.plan_core.specs.Parts.{strands_in}
use Rattle.query_answers.specs.windows.Strands.{IsInOrder}
use Rattle.query_answers.proofs.windows.strands.push_pieces.Given as goal

abbrev pub invariant-cuts : goal.invariant-cuts
invariant-cuts g l = record {
  order : IsInOrder l.strands.items;
  left : (n : ℕ) × (l.q.to ≤ next_cut l.t + n * 65536) × AllByRecursion (IsStart g.B.BatchName.batch) (starts_of l.q l.budget l.each (cuts n l.t l.q.to))
      × (strands_in l.strands.items ++ map (started_strand g.B.BatchName.batch.circuit) (starts_of l.q l.budget l.each (cuts n l.t l.q.to)) ≡ strands_in l.initial.strands.items ++ map (started_strand g.B.BatchName.batch.circuit) (pieces l.q));
}

abbrev pub decreases-cuts : goal.decreases-cuts
decreases-cuts g l = l.q.to - l.t
