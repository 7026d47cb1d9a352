use Rattle.std.proofs.Common.{sym}
use Rattle.texts.proofs.Cuts.{word_at, word_whole}
use Rattle.texts.proofs.word.first_word.Goals as goal

pub returns-in-Some : goal.returns-in-Some
returns-in-Some c = rw (c.split_at.ensures.front, c.split_at-in-Some.ensures.back) (word_at _ _ c.requires.some c.requires.filled (sym c.in-Some.ensures))

pub returns-in-None : goal.returns-in-None
returns-in-None c = word_whole _ c.requires.some (sym c.in-None.ensures)
