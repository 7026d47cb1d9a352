use Rattle.journal_text.proofs.WholeSections.{one_section}
use Rattle.journal_text.proofs.laws.one_section.Goals as goal

pub returns : goal.returns
returns c = one_section
