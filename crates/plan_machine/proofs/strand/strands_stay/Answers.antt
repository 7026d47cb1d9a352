use Rattle.std.proofs.Common.{true}
use Rattle.plan_machine.proofs.Stacks.{heard-keeps, claimed-keeps, flags-keep, dropped-keeps, finished-keeps, drop-top, fill-top}
use Rattle.plan_machine.proofs.strand.strands_stay.Goals as goal

pub returns : goal.returns
returns c = λ b s is. record {
  heard = heard-keeps b s is;
  claimed = claimed-keeps b s is;
  given_up = flags-keep b s is true s.waits;
  dropped = λ p h. dropped-keeps b s is p (drop-top s p h);
  finished = λ p h. finished-keeps b s is p (fill-top s p h);
}
