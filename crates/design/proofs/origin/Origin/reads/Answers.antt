use Rattle.std.proofs.Common.{ap, sym, ◌∙◌}
use Rattle.circuit_meaning.specs.Circuit.{read_by}
use Rattle.design.proofs.Answered.{reads-within}
use Rattle.design.proofs.origin.Origin.reads.Goals as goal

pub returns-clause-reads : goal.returns-clause-reads
returns-clause-reads c = c.reads_of.ensures ∙ sym (ap read_by c.view.ensures.driver)

pub returns-clause-signals : goal.returns-clause-signals
returns-clause-signals c = reads-within _ _ c.reads_of.result.now c.view.result c.view.ensures c.reads_of.ensures
