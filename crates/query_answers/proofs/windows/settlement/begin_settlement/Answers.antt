use Rattle.query_answers.proofs.windows.settlement.begin_settlement.Goals as goal

pub returns-in-Some-clause-fills : goal.returns-in-Some-clause-fills
returns-in-Some-clause-fills g c = c.requires.said _ c.in-Some.is
