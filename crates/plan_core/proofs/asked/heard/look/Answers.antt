use Rattle.std.proofs.Common.{rules}
use Rattle.plan_core.proofs.asked.heard.look.Goals as goal

pub see-requires-clause-walk : goal.see-requires-clause-walk
see-requires-clause-walk g c = rw c.design.ensures.circuit c.requires.walk

pub see-requires-clause-heard : goal.see-requires-clause-heard
see-requires-clause-heard g c = rw c.design.ensures.circuit (search rules)

pub returns-in_default-clause-walk : goal.returns-in_default-clause-walk
returns-in_default-clause-walk g c = rw (← c.design.ensures.circuit) (search rules)

pub said_cell-requires-clause-point : goal.said_cell-requires-clause-point
said_cell-requires-clause-point g c = c.in-Some.ensures.point g.B.BatchName.batch.circuit c.requires.walk

pub see-requires-2-clause-walk : goal.see-requires-2-clause-walk
see-requires-2-clause-walk g c = rw c.design-2.ensures.circuit c.requires.walk

pub see-requires-2-clause-heard : goal.see-requires-2-clause-heard
see-requires-2-clause-heard g c = rw c.design-2.ensures.circuit (search rules)

pub returns-clause-walk : goal.returns-clause-walk
returns-clause-walk g c = rw (← c.design-2.ensures.circuit) (search rules)
