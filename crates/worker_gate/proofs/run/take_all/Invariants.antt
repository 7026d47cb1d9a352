use Rattle.std.proofs.Common.{◌≡◌, ℕ, Some, slice_get, sum_by, vec_len}
use Rattle.plan_core.specs.InTurn.{booked_by}
use Rattle.worker_gate.proofs.run.take_all.Given as goal

abbrev pub invariant-loop-i : goal.invariant-loop-i
invariant-loop-i g l = record {
  count : vec_len l.shards ≡ l.i;
  amount : l.total ≡ sum_by booked_by l.shards.items;
  numbers : (k : ℕ) (s : _) → slice_get l.shards.items k ≡ Some s → s.number ≡ k;
}
