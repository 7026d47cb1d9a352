use Rattle.std.proofs.Common.{sym, ap, ◌∙◌}
use Rattle.texts.specs.Text.{words}
use Rattle.texts.proofs.Cuts.{starts_filled, skipped, words_none}
use Rattle.texts.proofs.word.next_word.Goals as goal

pub first_word-requires-clause-filled : goal.first_word-requires-clause-filled
first_word-requires-clause-filled c = rw c.split_at.ensures.back (starts_filled _ _ (sym c.in-Some.ensures))

pub returns-in-Some : goal.returns-in-Some
returns-in-Some c = skipped _ _ (sym c.in-Some.ensures) ∙ ap words (sym c.split_at.ensures.back) ∙ c.first_word.ensures

pub returns-in-None : goal.returns-in-None
returns-in-None c = words_none _ (sym c.in-None.ensures)
