use Rattle.std.proofs.Common.{sym}
use Rattle.texts.proofs.Cuts.{starts_filled}
use Rattle.texts.proofs.Tokens.{skipped, all_skipped}
use Rattle.texts.proofs.token.after_blanks.Goals as goal

pub returns-in-None-clause-tokens : goal.returns-in-None-clause-tokens
returns-in-None-clause-tokens c = all_skipped _ (sym c.in-None.ensures)

pub returns-in-Some-clause-tokens : goal.returns-in-Some-clause-tokens
returns-in-Some-clause-tokens c = rw c.split_at.ensures.back (skipped _ _ (sym c.in-Some.ensures))

pub returns-in-Some-clause-filled : goal.returns-in-Some-clause-filled
returns-in-Some-clause-filled c = λ some. rw c.split_at.ensures.back (starts_filled _ _ (sym c.in-Some.ensures))
