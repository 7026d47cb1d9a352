use Rattle.unit_answers.proofs.Trimming.{AreTrimmed}
use Rattle.unit_answers.proofs.trim.trim_stores.Given as goal

abbrev pub invariant-loop-store : goal.invariant-loop-store
invariant-loop-store l = AreTrimmed l.most l.store-index l.initial.store-items l.store-items l.lists.items
