use Rattle.std.proofs.Common.{sym, subst}
use Rattle.circuit_meaning.specs.Circuit.{Circuit}
use Rattle.design.specs.PinWalks.{IsPinWalk, LooksOn}
use Rattle.query_answers.proofs.asking.Asking.see.Goals as goal

pub see-requires-clause-walk : goal.see-requires-clause-walk
see-requires-clause-walk g c = subst (λ (z : Circuit). IsPinWalk z c.args.walk.now) (sym c.design.ensures.circuit) c.requires.walk

pub returns : goal.returns
returns g c = subst (λ (z : Circuit). LooksOn z c.args.walk.now c.see.new.self) c.design.ensures.circuit c.see.ensures
