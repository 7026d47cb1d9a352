use Rattle.std.proofs.Common.{◌≡◌, None, vec_len, All}
use Rattle.worker_gate.specs.Ends.{empty_in}
use Rattle.worker_gate.proofs.run.empty_board.Given as goal

abbrev pub invariant-loop-i : goal.invariant-loop-i
invariant-loop-i g l = record {
  places : vec_len l.places ≡ l._i;
  empty : empty_in l.places.items ≡ l._i;
  none : All (λ p. p ≡ None) l.places.items;
}
