use Rattle.std.proofs.Common.{◌+◌, sym, subst}
use Rattle.plan_core.specs.declared.asked.places.Noted.{Noted}
use Rattle.plan_core.specs.asked.inner.Places.{points_of, HasNoted}
use Rattle.plan_core.proofs.Chains.{noted-pushed}
use Rattle.plan_core.proofs.asked.places.Places.note.Goals as goal

pub returns-clause-noted : goal.returns-clause-noted
returns-clause-noted c =
    let journal = c.args.journal.now in
    let x : Noted = record { place = c.in-Ok.place; before = 0 } in
    subst (λ noted. HasNoted journal c.args.wanted.now (c.args.place + 1) (points_of journal noted)) (sym c.in_ok-push.ensures.items)
    (noted-pushed journal c.args.wanted.now c.args.place c.args.self.now.noted.items x c.in-Ok.ensures.1 c.requires.few c.requires.noted)
