use Rattle.std.proofs.Common.{◌≡◌, true, rules, arith, ◌∙◌, Some}
use Rattle.std.proofs.Math.ListN.{length-set}
use Rattle.worker_gate.proofs.Places.{ended_put, ended_here, empty_put}
use Rattle.worker_gate.proofs.board.Board.try_put.Goals as goal

pub invariant_of-self-clause-ended : goal.invariant_of-self-clause-ended
invariant_of-self-clause-ended g c =
    let b = c.args.self.now in
    let s = c.args.strand in
    let yes : c.fits.result ≡ true = search rules in
    let fits = c.fits.ensures in
    rw c.number-n.ensures (ended_put b.places.items b.tasks.items s b.ended (ended_here s b.tasks.items c.requires (fits.task yes) (fits.spent yes)))

pub invariant_of-self-clause-as_many_places : goal.invariant_of-self-clause-as_many_places
invariant_of-self-clause-as_many_places g c =
    let b = c.args.self.now in length-set b.places.items c.number-n.result (Some c.args.strand) ∙ b.as_many_places

pub overflow_sub-self : goal.overflow_sub-self
overflow_sub-self g c =
    let b = c.args.self.now in
    let yes : c.fits.result ≡ true = search rules in
    omega (arith, b.empties, empty_put b.places.items c.args.strand.number c.args.strand (c.fits.ensures.place yes))

pub invariant_of-self-clause-empties : goal.invariant_of-self-clause-empties
invariant_of-self-clause-empties g c =
    let b = c.args.self.now in
    let yes : c.fits.result ≡ true = search rules in
    let less = empty_put b.places.items c.args.strand.number c.args.strand (c.fits.ensures.place yes) in
    rw c.number-n.ensures (omega (arith, b.empties, less))
