use Rattle.std.proofs.Common.{◌≡◌, ◌++◌, take}
use Rattle.std.specs.List.{flat_map}
use Rattle.reply_lines.specs.Replies.{run_line}
use Rattle.reply_lines.proofs.text.put_runs.Given as goal

abbrev pub invariant-loop-run : goal.invariant-loop-run
invariant-loop-run l = l.text.items ≡ l.fn.text.items ++ flat_map run_line (take l.run-index l.runs)
