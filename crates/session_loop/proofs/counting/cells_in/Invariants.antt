use Rattle.std.proofs.Common.{◌≡◌, length, take, sum_by}
use Rattle.session_loop.proofs.counting.cells_in.Given as goal

abbrev pub invariant-loop-store : goal.invariant-loop-store
invariant-loop-store l = l.cells ≡ sum_by (λ store. length store.cells) (take l.store-index l.stores)
