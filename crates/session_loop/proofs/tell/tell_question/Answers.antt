use Rattle.std.proofs.Common.{◌+◌, ◌++◌, Contains, refl, sym, subst, ◌∙◌}
use Rattle.backsim_io.specs.FilesInMemory.{FileGrows}
use Rattle.backsim_io.specs.State.{FilesState}
use Rattle.journal_text.specs.Spelling.{section_lines}
use Rattle.journal_text.specs.declared.sections.SectionKind.TheVariants.{Batch}
use Rattle.session_meaning.proofs.Callers.{prefix-more}
use Rattle.session_loop.specs.Outside.{Seen, seen}
use Rattle.session_loop.specs.inner.Desks.{IsHeldCounted}
use Rattle.session_loop.specs.inner.Growing.{FileGrowsPart}
use Rattle.session_loop.specs.inner.Serving.{held_text}
use Rattle.session_loop.proofs.Growing.{file-more, file-part-after, file-part-longer}
use Rattle.session_loop.proofs.Served.{all-written, text-begun, lines-begun, handed-part}
use Rattle.session_loop.proofs.tell.tell_question.Goals as goal

-- the reply was begun
pub returns-in_err-write_reply-clause-told : goal.returns-in_err-write_reply-clause-told
returns-in_err-write_reply-clause-told g c =
    let W = g.S.Sink.written in
    let before : Seen = seen (g.F.Files.state c.args.files.now) (g.F.Files.made c.args.files.now) (g.S.Sink.faults c.args.out.now) (W c.args.out.now) in
    let done = c.args.done.now in
    let number = c.args.counts.sections in
    let first = section_lines (record { kind = Batch; number = number; shards = done.lists.items }) in
    handed-part c.from_residual.result c.from_residual.ensures.1
    (text-begun before c.args.text.now (first ++ held_text (number + 1) done.own_lists.items) _ _ c.in_err-write_reply.field-0.0 c.in_err-write_reply.ensures.state c.in_err-write_reply.ensures.begun)

-- the section was begun
pub returns-in_err-write_section-clause-told : goal.returns-in_err-write_section-clause-told
returns-in_err-write_section-clause-told g c =
    let W = g.S.Sink.written in
    let before : Seen = seen (g.F.Files.state c.args.files.now) (g.F.Files.made c.args.files.now) (g.S.Sink.faults c.args.out.now) (W c.args.out.now) in
    let M = g.F.Files.made in
    let done = c.args.done.now in
    let number = c.args.counts.sections in
    let first = section_lines (record { kind = Batch; number = number; shards = done.lists.items }) in
    let held = held_text (number + 1) done.own_lists.items in
    handed-part c.from_residual-in_err-write_section.result c.from_residual-in_err-write_section.ensures.1
    (lines-begun before c.args.text.now (first ++ held) _ _ _ _ _ c.in_err-write_section.field-0.0 c.in_ok-write_reply.ensures.state refl c.in_err-write_section.ensures.state
    c.in_ok-write_reply.ensures.written
    (file-part-longer (M c.args.files.now) (M c.write_section.new.files) 0 first _ (prefix-more first held)
    (subst (λ l. FileGrowsPart (M c.args.files.now) (M c.write_section.new.files) 0 (section_lines (record { kind = Batch; number = number; shards = l }))) c.deref.ensures.value c.in_err-write_section.ensures.begun)))

pub write_held-requires-clause-unfinished : goal.write_held-requires-clause-unfinished
write_held-requires-clause-unfinished g c = λ κs w. subst (λ (f : FilesState). Contains f.unfinished 0) (sym c.in_ok-write_section.ensures.state) c.requires.unfinished

-- the section of the memo of its own was begun
pub returns-in_err-counts-clause-told : goal.returns-in_err-counts-clause-told
returns-in_err-counts-clause-told g c =
    let W = g.S.Sink.written in
    let before : Seen = seen (g.F.Files.state c.args.files.now) (g.F.Files.made c.args.files.now) (g.S.Sink.faults c.args.out.now) (W c.args.out.now) in
    let M = g.F.Files.made in
    let done = c.args.done.now in
    let number = c.args.counts.sections in
    let first = section_lines (record { kind = Batch; number = number; shards = done.lists.items }) in
    let held = held_text (number + 1) done.own_lists.items in
    handed-part c.from_residual-in_err-counts.result c.from_residual-in_err-counts.ensures.1
    (lines-begun before c.args.text.now (first ++ held) _ _ _ _ _ c.in_err-counts.field-0.0 c.in_ok-write_reply.ensures.state c.in_ok-write_section.ensures.state c.in_err-counts.ensures.written.state
    c.in_ok-write_reply.ensures.written
    (file-part-after (M c.args.files.now) (M c.write_section.new.files) (M c.write_held.new.files) 0 first held
    (subst (λ l. FileGrows (M c.args.files.now) (M c.write_section.new.files) 0 (section_lines (record { kind = Batch; number = number; shards = l }))) c.deref.ensures.value c.in_ok-write_section.ensures.written)
    (subst (λ l. FileGrowsPart (M c.write_section.new.files) (M c.write_held.new.files) 0 (held_text (number + 1) l)) c.deref-2.ensures.value c.in_err-counts.ensures.written.begun)))

pub returns-clause-counted : goal.returns-clause-counted
returns-clause-counted g c = subst (λ l. IsHeldCounted c.args.counts l c.in_ok-counts.counts) c.deref-2.ensures.value c.in_ok-counts.ensures.counted

-- all was written
pub returns-clause-told : goal.returns-clause-told
returns-clause-told g c =
    let W = g.S.Sink.written in
    let before : Seen = seen (g.F.Files.state c.args.files.now) (g.F.Files.made c.args.files.now) (g.S.Sink.faults c.args.out.now) (W c.args.out.now) in
    let M = g.F.Files.made in
    let done = c.args.done.now in
    let number = c.args.counts.sections in
    let first = section_lines (record { kind = Batch; number = number; shards = done.lists.items }) in
    let held = held_text (number + 1) done.own_lists.items in
    all-written before c.args.text.now (first ++ held) _ _ _ _ (c.in_ok-counts.ensures.written.state ∙ c.in_ok-write_section.ensures.state) c.in_ok-write_reply.ensures.state
    c.in_ok-write_reply.ensures.written
    (file-more (M c.args.files.now) (M c.write_section.new.files) (M c.write_held.new.files) 0 first held
    (subst (λ l. FileGrows (M c.args.files.now) (M c.write_section.new.files) 0 (section_lines (record { kind = Batch; number = number; shards = l }))) c.deref.ensures.value c.in_ok-write_section.ensures.written)
    (subst (λ l. FileGrows (M c.write_section.new.files) (M c.write_held.new.files) 0 (held_text (number + 1) l)) c.deref-2.ensures.value c.in_ok-counts.ensures.written.written))
