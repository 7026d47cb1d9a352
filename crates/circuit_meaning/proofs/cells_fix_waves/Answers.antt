use Rattle.circuit_meaning.proofs.Walk.{wave-grows, cells-fix}
use Rattle.circuit_meaning.proofs.cells_fix_waves.Goals as goal

pub returns-clause-grows : goal.returns-clause-grows
returns-clause-grows g = wave-grows

pub returns-clause-whole : goal.returns-clause-whole
returns-clause-whole g = λ c ok s a b cells within h. cells-fix c ok s a b cells within h
