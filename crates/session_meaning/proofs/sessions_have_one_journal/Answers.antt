use Rattle.session_meaning.proofs.OneJournal.{one-journal}
use Rattle.session_meaning.proofs.sessions_have_one_journal.Goals as goal

pub returns : goal.returns
returns c = one-journal c.script_units_are_fit.ensures
