use Rattle.std.proofs.Common.{append_assoc, refl}
use Rattle.vcd_answers.proofs.writing.push_var.Goals as goal

pub returns : goal.returns
returns c =
    rw (c.in_ok-extend_from_slice-3.ensures.items, c.in_ok-extend_from_slice-2.ensures.items, c.in_ok-push-2.ensures.items, c.in_ok-push.ensures.items, c.in_ok-extend_from_slice.ensures.items)
    (simp append_assoc refl)
