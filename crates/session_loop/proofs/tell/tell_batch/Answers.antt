use Rattle.std.proofs.Common.{refl, ap, subst}
use Rattle.backsim_io.specs.Counts.{Grows}
use Rattle.backsim_io.specs.FilesInMemory.{FileGrows}
use Rattle.journal_text.specs.Spelling.{section_lines}
use Rattle.journal_text.specs.declared.sections.SectionKind.TheVariants.{Batch}
use Rattle.session_meaning.specs.Replies.{replies_text}
use Rattle.session_loop.specs.Outside.{Seen, seen}
use Rattle.session_loop.specs.inner.Desks.{IsCounted}
use Rattle.session_loop.specs.inner.Growing.{GrowsPart, FileGrowsPart}
use Rattle.session_loop.proofs.Served.{all-written, text-begun, lines-begun, batch-untold, batch-part}
use Rattle.session_loop.proofs.tell.tell_batch.Goals as goal

-- nothing was told
pub returns-in_default : goal.returns-in_default
returns-in_default g c =
    let done = c.args.done.now in
    batch-untold c.args.counts (replies_text c.args.items.now done.replies.items) done.lists.items
    (seen (g.F.Files.state c.args.files.now) (g.F.Files.made c.args.files.now) (g.S.Sink.faults c.args.out.now) (g.S.Sink.written c.args.out.now))

-- the replies were begun
pub returns-in_err-write_replies : goal.returns-in_err-write_replies
returns-in_err-write_replies g c =
    let W = g.S.Sink.written in
    let before : Seen = seen (g.F.Files.state c.args.files.now) (g.F.Files.made c.args.files.now) (g.S.Sink.faults c.args.out.now) (W c.args.out.now) in
    let after : Seen = seen (g.F.Files.state c.args.files.now) (g.F.Files.made c.args.files.now) (g.S.Sink.faults c.write_replies.new.out) (W c.write_replies.new.out) in
    let counts = c.in-Some.counts in
    let done = c.args.done.now in
    let text = replies_text c.args.items.now done.replies.items in
    let lists = done.lists.items in
    batch-part c.args.counts counts text lists before after c.from_residual.result c.from_residual.ensures.1 (subst (λ l. IsCounted c.args.counts Batch l counts) c.deref.ensures.value c.in-Some.ensures)
    (text-begun before text (section_lines (record { kind = Batch; number = counts.sections; shards = lists })) _ _ c.in_err-write_replies.field-0.0 c.in_err-write_replies.ensures.state
    (subst (GrowsPart (W c.args.out.now) (W c.write_replies.new.out)) (ap (replies_text c.args.items.now) c.deref-2.ensures.value) c.in_err-write_replies.ensures.begun))

-- the section was begun
pub returns-in_err-write_section : goal.returns-in_err-write_section
returns-in_err-write_section g c =
    let W = g.S.Sink.written in
    let M = g.F.Files.made in
    let before : Seen = seen (g.F.Files.state c.args.files.now) (M c.args.files.now) (g.S.Sink.faults c.args.out.now) (W c.args.out.now) in
    let after : Seen = seen (g.F.Files.state c.write_section.new.files) (M c.write_section.new.files) (g.S.Sink.faults c.write_replies.new.out) (W c.write_replies.new.out) in
    let counts = c.in-Some.counts in
    let done = c.args.done.now in
    let text = replies_text c.args.items.now done.replies.items in
    let lists = done.lists.items in
    batch-part c.args.counts counts text lists before after c.from_residual-in_err-write_section.result c.from_residual-in_err-write_section.ensures.1
    (subst (λ l. IsCounted c.args.counts Batch l counts) c.deref.ensures.value c.in-Some.ensures)
    (lines-begun before text (section_lines (record { kind = Batch; number = counts.sections; shards = lists })) _ _ _ _ _ c.in_err-write_section.field-0.0
    c.in_ok-write_replies.ensures.state refl c.in_err-write_section.ensures.state
    (subst (Grows (W c.args.out.now) (W c.write_replies.new.out)) (ap (replies_text c.args.items.now) c.deref-2.ensures.value) c.in_ok-write_replies.ensures.written)
    (subst (λ l. FileGrowsPart (M c.args.files.now) (M c.write_section.new.files) 0 (section_lines (record { kind = Batch; number = counts.sections; shards = l }))) c.deref-3.ensures.value c.in_err-write_section.ensures.begun))

-- all was written
pub returns : goal.returns
returns g c =
    let W = g.S.Sink.written in
    let M = g.F.Files.made in
    let before : Seen = seen (g.F.Files.state c.args.files.now) (M c.args.files.now) (g.S.Sink.faults c.args.out.now) (W c.args.out.now) in
    let counts = c.in-Some.counts in
    let done = c.args.done.now in
    let lists = done.lists.items in
    record {
      counts = counts;
      counted = subst (λ l. IsCounted c.args.counts Batch l counts) c.deref.ensures.value c.in-Some.ensures;
      same = refl;
      told = all-written before (replies_text c.args.items.now done.replies.items) (section_lines (record { kind = Batch; number = counts.sections; shards = lists })) _ _ _ _
          c.in_ok-write_section.ensures.state c.in_ok-write_replies.ensures.state
          (subst (Grows (W c.args.out.now) (W c.write_replies.new.out)) (ap (replies_text c.args.items.now) c.deref-2.ensures.value) c.in_ok-write_replies.ensures.written)
          (subst (λ l. FileGrows (M c.args.files.now) (M c.write_section.new.files) 0 (section_lines (record { kind = Batch; number = counts.sections; shards = l }))) c.deref-3.ensures.value c.in_ok-write_section.ensures.written);
    }
