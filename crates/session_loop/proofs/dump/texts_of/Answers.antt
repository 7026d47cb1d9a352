use Rattle.std.proofs.Common.{length, ap, ap₂, ◌∙◌}
use Rattle.reply_lines.specs.declared.reply.VcdReply.TheVariants as replies
use Rattle.reply_lines.specs.Replies.{vcd_line}
use Rattle.vcd_answers.specs.Dumps.{vcd_of}
use Rattle.session_meaning.specs.Dumps.{wires_of}
use Rattle.session_loop.proofs.dump.texts_of.Goals as goal

pub returns-clause-file : goal.returns-clause-file
returns-clause-file c =
    let design = c.args.service.now.design.now in
    c.in_ok-dump.ensures.text ∙ ap₂ (λ items replies. vcd_of (wires_of design items replies)) c.as_slice.ensures c.deref.ensures.value

pub returns-clause-reply : goal.returns-clause-reply
returns-clause-reply c =
    let design = c.args.service.now.design.now in
    c.in_ok-reply.ensures ∙ ap (λ n. vcd_line c.args.file.now (replies.Made n)) (c.in_ok-dump.ensures.wires ∙ ap₂ (λ items replies. length (wires_of design items replies)) c.as_slice.ensures c.deref.ensures.value)
