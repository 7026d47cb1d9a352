use Rattle.std.proofs.Common.{refl, subst, ap, length, sum_by, ◌∙◌}
use Rattle.reply_lines.specs.Replies.{stats_line}
use Rattle.session_loop.specs.inner.Pieces.{Replies}
use Rattle.session_loop.proofs.Growing.{handed-replies, part-none}
use Rattle.session_loop.proofs.unit.tell_stats.Goals as goal

-- nothing was written
pub returns-in_default : goal.returns-in_default
returns-in_default g c = record { begun = part-none (g.S.Sink.written c.args.out.now) _; state = refl }

pub returns-in_err-text : goal.returns-in_err-text
returns-in_err-text g c = handed-replies c.from_residual.result c.from_residual.ensures.1 (record { begun = part-none (g.S.Sink.written c.args.out.now) _; state = refl })

-- what was written
pub returns : goal.returns
returns g c =
    let counts = c.args.desk.now.counts in
    let N = g.S.Sink.faults in
    let W = g.S.Sink.written in
    subst (λ l. Replies l c.write_reply.result (N c.args.out.now) (W c.args.out.now) (N c.write_reply.new.out) (W c.write_reply.new.out))
    (c.deref-2.ensures.value ∙ c.in_ok-text.ensures ∙ ap (stats_line counts.batches counts.fills counts.evictions) (c.in-Some.ensures ∙ ap (sum_by (λ store. length store.cells)) c.deref.ensures.value)) c.write_reply.ensures
