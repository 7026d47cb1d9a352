use Rattle.journal_meaning.proofs.Pieces.{pieces-lawful, pieces-joined, pieces-share}
use Rattle.journal_meaning.proofs.batch.pieces_make_windows.Goals as goal

pub returns-clause-starts : goal.returns-clause-starts
returns-clause-starts g = pieces-lawful

pub returns-clause-follow : goal.returns-clause-follow
returns-clause-follow g = pieces-joined

pub returns-clause-share : goal.returns-clause-share
returns-clause-share g = pieces-share
