use Rattle.std.proofs.Common.{◌+◌, ◌++◌, refl, subst, ◌∙◌}
use Rattle.journal_text.specs.Spelling.{section_lines}
use Rattle.journal_text.specs.declared.sections.SectionKind.TheVariants.{Batch}
use Rattle.reply_lines.specs.Replies.{question_lines}
use Rattle.session_loop.specs.Outside.{Seen, seen}
use Rattle.session_loop.specs.inner.Desks.{IsCounted}
use Rattle.session_loop.specs.inner.Serving.{held_text}
use Rattle.session_loop.specs.inner.Telling.{Tells}
use Rattle.session_loop.proofs.Questions.{unanswered}
use Rattle.session_loop.proofs.question.tell_answer.Goals as goal

-- nothing was told
pub returns-in_default : goal.returns-in_default
returns-in_default g c =
    let done = c.args.done.now in
    unanswered c.args.counts (question_lines c.args.question.now done.reply) done.lists.items done.own_lists.items
    (seen (g.F.Files.state c.args.files.now) (g.F.Files.made c.args.files.now) (g.S.Sink.faults c.args.out.now) (g.S.Sink.written c.args.out.now)) _ refl

pub returns-in_err-text : goal.returns-in_err-text
returns-in_err-text g c =
    let done = c.args.done.now in
    unanswered c.args.counts (question_lines c.args.question.now done.reply) done.lists.items done.own_lists.items
    (seen (g.F.Files.state c.args.files.now) (g.F.Files.made c.args.files.now) (g.S.Sink.faults c.args.out.now) (g.S.Sink.written c.args.out.now))
    c.from_residual.result c.from_residual.ensures.1

-- what was told
pub returns : goal.returns
returns g c =
    let done = c.args.done.now in
    let counts = c.in-Some.counts in
    let lines = section_lines (record { kind = Batch; number = counts.sections; shards = done.lists.items }) ++ held_text (counts.sections + 1) done.own_lists.items in
    let before : Seen = seen (g.F.Files.state c.args.files.now) (g.F.Files.made c.args.files.now) (g.S.Sink.faults c.args.out.now) (g.S.Sink.written c.args.out.now) in
    let after : Seen = seen (g.F.Files.state c.tell_question.new.files) (g.F.Files.made c.tell_question.new.files) (g.S.Sink.faults c.tell_question.new.out) (g.S.Sink.written c.tell_question.new.out) in
    record {
      counts = counts;
      counted = subst (λ l. IsCounted c.args.counts Batch l counts) c.deref.ensures.value c.in-Some.ensures;
      held_counted = c.tell_question.ensures.counted;
      told = subst (λ t. Tells t lines c.tell_question.result before after) (c.deref-2.ensures.value ∙ c.in_ok-text.ensures) c.tell_question.ensures.told;
    }
