use Rattle.std.proofs.Common.{◌≡◌, take}
use Rattle.backsim.specs.Work.{one_count}
use Rattle.backsim.proofs.work.one_count.Given as goal

abbrev pub invariant-loop-reply : goal.invariant-loop-reply
invariant-loop-reply l = l.ones ≡ one_count (take l.reply-index l.replies)
