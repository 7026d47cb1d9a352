use Rattle.std.proofs.Common.{◌++◌, List, take}
use Rattle.journal_meaning.specs.declared.Entry.{Entry}
use Rattle.plan_core.specs.asked.FillCounts.{HasCounted}
use Rattle.plan_core.proofs.asked.fill_counts.FillCounts.note_all.Given as goal

abbrev pub invariant-loop-entry : goal.invariant-loop-entry
invariant-loop-entry l = (es : List Entry) → HasCounted es l.initial.self → HasCounted (es ++ take l.entry-index l.entries) l.self
