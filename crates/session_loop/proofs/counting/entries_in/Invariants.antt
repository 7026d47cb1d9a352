use Rattle.std.proofs.Common.{◌≡◌, length, take, sum_by}
use Rattle.session_loop.proofs.counting.entries_in.Given as goal

abbrev pub invariant-loop-list : goal.invariant-loop-list
invariant-loop-list l = l.entries ≡ sum_by (length) (take l.list-index l.lists)
