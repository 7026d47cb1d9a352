use Rattle.std.proofs.Common.{◌≡◌, take, sum_by}
use Rattle.journal_meaning.specs.Counts.{count}
use Rattle.session_meaning.specs.Session.{is_fill, is_eviction}
use Rattle.session_loop.proofs.counting.tally_all.Given as goal

abbrev pub invariant-loop-list : goal.invariant-loop-list
invariant-loop-list l = (l.fills ≡ sum_by (count is_fill) (take l.list-index l.lists)) × (l.evictions ≡ sum_by (count is_eviction) (take l.list-index l.lists))
