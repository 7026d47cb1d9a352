use Rattle.std.proofs.Common.{sym, subst}
use Rattle.std.specs.Arc.{arc_value}
use Rattle.design.specs.Joined.{Joined}
use Rattle.design.specs.inner.HeldSignals.{AreOpenReaders}
use Rattle.design.specs.inner.Walk.{AreReaders}
use Rattle.design.proofs.Holding.{readers-are}
use Rattle.design.proofs.design.Design.readers.Goals as goal

pub returns : goal.returns
returns c =
    let all = arc_value c.in_ok-shared_readers.field-0 in
    subst (AreOpenReaders c.args.self.now.circuit all) (sym c.deref-2.ensures.value)
    (readers-are _ _ _ c.self.invariant c.args.self.now c.self.view_is all (subst (λ (j : Joined). AreReaders j.circuit all) c.deref.ensures c.in_ok-shared_readers.ensures))
