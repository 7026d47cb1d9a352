use Rattle.std.proofs.Common.{◌≡◌, ◌++◌, drop, length, flat_map}
use Rattle.std.specs.Vec.Iter.{into_iter_items, into_iter_len}
use Rattle.session_meaning.specs.Verdicts.{item_queries}
use Rattle.unit_answers.specs.inner.Placed.{placed_replies}
use Rattle.unit_answers.proofs.replies.place_replies.Given as goal

abbrev pub invariant-loop-verdict : goal.invariant-loop-verdict
invariant-loop-verdict l = record {
  items : l.replies.items ++ placed_replies (drop l.verdict-index l.verdicts) (into_iter_items l.outcomes) ≡ placed_replies l.verdicts (into_iter_items l.initial.outcomes);
  enough : into_iter_len l.outcomes ≡ length (flat_map item_queries (drop l.verdict-index l.verdicts));
}
