use Rattle.std.proofs.Common.{refl, subst, ◌∙◌}
use Rattle.session_loop.specs.inner.Pieces.{Replies}
use Rattle.session_loop.proofs.Growing.{handed-replies, part-none}
use Rattle.session_loop.proofs.dump.refuse_dump.Goals as goal

pub returns-in_err-text : goal.returns-in_err-text
returns-in_err-text g c = handed-replies c.from_residual.result c.from_residual.ensures.1 (record { begun = part-none (g.S.Sink.written c.args.out.now) _; state = refl })

pub returns : goal.returns
returns g c =
    let N = g.S.Sink.faults in
    let W = g.S.Sink.written in
    subst (λ l. Replies l c.write_reply.result (N c.args.out.now) (W c.args.out.now) (N c.write_reply.new.out) (W c.write_reply.new.out)) (c.deref.ensures.value ∙ c.in_ok-text.ensures) c.write_reply.ensures
