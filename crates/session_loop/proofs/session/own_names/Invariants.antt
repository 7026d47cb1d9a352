-- The names of the inputs so far were copied.
use Rattle.std.proofs.Common.{◌≡◌, map, take}
use Rattle.session_loop.proofs.session.own_names.Given as goal

abbrev pub invariant-loop-name : goal.invariant-loop-name
invariant-loop-name l = l.names.items ≡ map (λ name. name.now) (take l.name-index l.inputs)
