use Rattle.std.proofs.Common.{sym}
use Rattle.texts.specs.Text.{is_feed}
use Rattle.texts.proofs.Cuts.{found_none, line_at, line_whole}
use Rattle.texts.proofs.line.next_line.Goals as goal

pub returns-in-Some-clause-cut : goal.returns-in-Some-clause-cut
returns-in-Some-clause-cut c = rw (c.split_at.ensures.front, c.split_at-in-Some.ensures.back) (line_at _ _ (sym c.in-Some.ensures))

pub returns-in-None-clause-cut : goal.returns-in-None-clause-cut
returns-in-None-clause-cut c = line_whole _ c.requires (found_none is_feed _ (sym c.in-None.ensures))
