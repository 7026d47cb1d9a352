use Rattle.std.proofs.Common.{◌≡◌, ◌+◌, ◌<◌, ◌++◌, [], ap, sym, subst, ◌∙◌, take, drop, length, append-nil, arith}
use Rattle.std.proofs.lemmas.Grind.{common_steps}
use Rattle.std.proofs.lemmas.List.{take_all}
use Rattle.backsim_io.specs.Counts.{Grows}
use Rattle.reply_lines.specs.Replies.{text_of}
use Rattle.session_meaning.specs.Replies.{replies_text}
use Rattle.session_loop.specs.inner.Growing.{GrowsPart, KeepsBack}
use Rattle.session_loop.specs.inner.Outside.{RepliesStops}
use Rattle.session_loop.specs.inner.Pieces.{Replies}
use Rattle.session_loop.proofs.Growing.{handed-replies, grows-more, part-after, part-longer, keeps-more, keeps-part, replies-last}
use Rattle.session_loop.proofs.Pieces.{replies-next, replies-after}
use Rattle.session_loop.proofs.section.write_replies.Goals as goal

pub bounds-replies-i : goal.bounds-replies-i
bounds-replies-i g c = omega (arith, c.loop-i-test.true, c.requires.count)

pub returns-in_err-push_reply : goal.returns-in_err-push_reply
returns-in_err-push_reply g c =
    let W = g.S.Sink.written in
    let u = W c.args.out.now in
    let v = W c.loop-i.out in
    let w = W c.push_reply.new.out in
    let items = c.args.items.now in
    let replies = c.args.replies.now in
    let i = c.loop-i.i in
    let item = c.index-items-i.result in
    let reply = c.index-replies-i.result in
    let inside : i < length replies = omega (arith, c.loop-i-test.true, c.requires.count) in
    handed-replies c.from_residual.result c.from_residual.ensures.1 (record {
      begun = keeps-part (Grows u v) [] (replies_text (take i items) (take i replies)) c.loop-i.text.items (text_of item reply) c.loop-i.invariant.keeps_back
          (GrowsPart v w) (GrowsPart u w) (part-after u v w) (part-longer u w)
          (replies_text (drop (i + 1) items) (drop (i + 1) replies)) (replies_text items replies) (replies-after items replies i item reply c.loop-i-test.true inside c.index-items-i.is c.index-replies-i.is) c.in_err-push_reply.ensures.begun;
      state = subst (λ n. RepliesStops n (g.S.Sink.faults c.push_reply.new.out) c.in_err-push_reply.field-0.0) c.loop-i.invariant.calm c.in_err-push_reply.ensures.state;
    })

pub loop-i-preserved : goal.loop-i-preserved
loop-i-preserved g c =
    let W = g.S.Sink.written in
    let u = W c.args.out.now in
    let v = W c.loop-i.out in
    let w = W c.push_reply.new.out in
    let items = c.args.items.now in
    let replies = c.args.replies.now in
    let i = c.loop-i.i in
    let item = c.index-items-i.result in
    let reply = c.index-replies-i.result in
    let inside : i < length replies = omega (arith, c.loop-i-test.true, c.requires.count) in
    record {
      keeps_back = subst (λ l. KeepsBack (Grows u w) [] l c.push_reply.new.text.items) (sym (replies-next items replies i item reply c.loop-i-test.true inside c.index-items-i.is c.index-replies-i.is))
          (keeps-more (Grows u v) [] (replies_text (take i items) (take i replies)) c.loop-i.text.items (text_of item reply) c.loop-i.invariant.keeps_back
          (Grows v w) (Grows u w) (grows-more u v w) c.push_reply.new.text.items c.in_ok-push_reply.ensures.keeps_back);
      calm = c.in_ok-push_reply.ensures.state ∙ c.loop-i.invariant.calm;
    }

pub returns : goal.returns
returns g c =
    let W = g.S.Sink.written in
    let N = g.S.Sink.faults in
    let u = W c.args.out.now in
    let v = W c.loop-i.out in
    let w = W c.write_reply.new.out in
    let i = c.loop-i.i in
    let items = c.args.items.now in
    let replies = c.args.replies.now in
    let left = c.loop-i.text.items in
    let text : c.as_slice.result.now ≡ left ++ [] = grind (arith, common_steps) in
    let first = replies_text (take i items) (take i replies) in
    let all : first ++ [] ≡ replies_text items replies =
    append-nil first
    ∙ ap (λ l. replies_text l (take i replies)) (take_all i items (omega (arith, c.loop-i-test.false)))
    ∙ ap (replies_text items) (take_all i replies (omega (arith, c.loop-i-test.false, c.requires.count))) in
    subst (λ l. Replies l c.write_reply.result (N c.args.out.now) u (N c.write_reply.new.out) w) all
    (replies-last [] first left [] u v w c.loop-i.invariant.keeps_back (N c.args.out.now) (N c.loop-i.out) (N c.write_reply.new.out) c.loop-i.invariant.calm c.write_reply.result
    (subst (λ l. Replies l c.write_reply.result (N c.loop-i.out) v (N c.write_reply.new.out) w) text c.write_reply.ensures))
