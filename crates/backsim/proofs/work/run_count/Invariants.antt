use Rattle.std.proofs.Common.{◌≡◌, take}
use Rattle.backsim.specs.Work.{run_count}
use Rattle.backsim.proofs.work.run_count.Given as goal

abbrev pub invariant-loop-reply : goal.invariant-loop-reply
invariant-loop-reply l = l.runs ≡ run_count (take l.reply-index l.replies)
