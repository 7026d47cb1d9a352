use Rattle.std.proofs.Common.{ap, not, ◌∙◌}
use Rattle.timing_file.proofs.Alike.{is_seen, grown}
use Rattle.timing_file.proofs.reader.is_first.Goals as goal

pub returns-clause-first : goal.returns-clause-first
returns-clause-first c = c.in_ok-insert.ensures.added ∙ ap not (is_seen c.args.subject c.args.seen.now)

pub returns-clause-added : goal.returns-clause-added
returns-clause-added c = grown c.args.subject c.args.seen.now c.insert.new.self c.in_ok-insert.field-0 c.in_ok-insert.ensures.updates.0
