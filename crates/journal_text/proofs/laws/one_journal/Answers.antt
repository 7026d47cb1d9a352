use Rattle.journal_text.proofs.WholeSections.{one_journal}
use Rattle.journal_text.proofs.laws.one_journal.Goals as goal

pub returns : goal.returns
returns c = one_journal
