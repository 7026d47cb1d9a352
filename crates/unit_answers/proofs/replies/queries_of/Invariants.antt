use Rattle.std.proofs.Common.{◌≡◌, take, flat_map}
use Rattle.session_meaning.specs.Verdicts.{item_queries}
use Rattle.unit_answers.proofs.replies.queries_of.Given as goal

abbrev pub invariant-loop-verdict : goal.invariant-loop-verdict
invariant-loop-verdict l = l.queries.items ≡ flat_map item_queries (take l.verdict-index l.verdicts)
