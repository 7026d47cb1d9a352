use Rattle.std.proofs.Common.{◌≡◌, [], take, map}
use Rattle.unit_answers.proofs.run.no_entries.Given as goal

abbrev pub invariant-loop-store : goal.invariant-loop-store
invariant-loop-store l = l.lists.items ≡ map (λ _. []) (take l._store-index l.stores)
