use Rattle.std.proofs.Common.{◌≡◌, map, take}
use Rattle.session_meaning.specs.Verdicts.{verdict_of}
use Rattle.query_answers.proofs.windows.verdicts.verdicts_of.Given as goal

abbrev pub invariant-loop-item : goal.invariant-loop-item
invariant-loop-item l = l.verdicts.items ≡ map (verdict_of l.design) (take l.item-index l.items)
