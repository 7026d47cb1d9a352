use Rattle.std.proofs.Common.{◌≡◌, map}
use Rattle.design.specs.Join.{changes_of}
use Rattle.design.proofs.settings.in_order.Given as goal

abbrev pub invariant-loop-list : goal.invariant-loop-list
invariant-loop-list l = map (λ list. list.items) l.lists.items ≡ map (λ list. changes_of list.items) l.yielded
