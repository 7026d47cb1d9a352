use Rattle.std.specs.BTreeMap.{get}
use Rattle.query_answers.specs.explanations.inner.Waiting.{place_cmp}
use Rattle.query_answers.proofs.Places.{takes}
use Rattle.query_answers.proofs.explanations.waiting.Waiting.take_last.Goals as goal

pub returns-clause-some : goal.returns-clause-some
returns-clause-some c =
    takes (get place_cmp c.args.self.now.cells) (get place_cmp c.pop_last.new.self) c.in_ok-asked.field-0-0 c.in_ok-asked.asked c.in_ok-asked.ensures.value c.in_ok-asked.ensures.greatest c.in_ok-asked.ensures.updates.0
