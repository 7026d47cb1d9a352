use Rattle.std.proofs.Common.{◌≡◌, ◌∙◌, ℕ, List, subst, sym, ap, sum, map, slice_set, arith}
use Rattle.worker_gate.specs.Ends.{booked_at}
use Rattle.worker_gate.proofs.InTurn.{rest-added}
use Rattle.worker_gate.proofs.counts.add_rest.Goals as goal

pub returns-clause-total : goal.returns-clause-total
returns-clause-total g c = λ e.
    let places = c.args.places.now in
    let n = c.in-Some-first_empty.n in
    let rest = c.in-Some-checked_sub.rest in
    let k = rest-added places n rest c.in-Some-first_empty.ensures in
    let all : sum (map booked_at places) ≡ c.in-Some.counted = ap sum (sym c.requires) ∙ ap sum (sym c.as_slice.ensures.value) ∙ sym c.in-Some.ensures in
    subst (λ (l : List ℕ). sum (slice_set l n rest) ≡ c.args.total) (sym c.requires) (omega (arith, k, all, c.in-Some-checked_sub.ensures))
