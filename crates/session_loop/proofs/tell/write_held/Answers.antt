use Rattle.std.proofs.Common.{rules, ◌<◌, ◌+◌, length, refl, sym, subst, ap, ◌∙◌}
use Rattle.std.proofs.lemmas.Bool.{eqb-true}
use Rattle.backsim_io.specs.FilesInMemory.{FileGrows}
use Rattle.journal_text.specs.Spelling.{section_lines}
use Rattle.journal_text.specs.declared.sections.SectionKind.TheVariants.{Held}
use Rattle.session_loop.specs.inner.Growing.{FileGrowsPart}
use Rattle.session_loop.proofs.Growing.{handed-part, file-part-none}
use Rattle.session_loop.proofs.Questions.{held-unwritten, held-text}
use Rattle.session_loop.proofs.tell.write_held.Goals as goal

-- there is no memo of its own
pub returns-then-is_empty-clause-written : goal.returns-then-is_empty-clause-written
returns-then-is_empty-clause-written g c = record {
  written = held-unwritten (g.F.Files.made c.args.files.now) (c.args.counts.sections + 1) c.args.lists.now (eqb-true _ _ (sym c.is_empty.ensures ∙ c.if-is_empty.true));
  state = refl;
}

-- there are too many sections to count
pub returns-in_default-clause-written : goal.returns-in_default-clause-written
returns-in_default-clause-written g c = record { begun = file-part-none (g.F.Files.made c.args.files.now) 0 _; state = refl }

-- the section was begun
pub returns-in_err-write_section-clause-written : goal.returns-in_err-write_section-clause-written
returns-in_err-write_section-clause-written g c =
    let M = g.F.Files.made in
    let some : 0 < length c.args.lists.now = search rules in
    handed-part c.from_residual.result c.from_residual.ensures.1 (record {
      begun = subst (FileGrowsPart (M c.args.files.now) (M c.write_section.new.files) 0)
          (ap (λ n. section_lines (record { kind = Held; number = n; shards = c.args.lists.now })) c.in-Some.ensures.sections ∙ sym (held-text (c.args.counts.sections + 1) c.args.lists.now some))
          c.in_err-write_section.ensures.begun;
      state = c.in_err-write_section.ensures.state;
    })

pub returns-clause-written : goal.returns-clause-written
returns-clause-written g c =
    let M = g.F.Files.made in
    let some : 0 < length c.args.lists.now = search rules in
    record {
      written = subst (FileGrows (M c.args.files.now) (M c.write_section.new.files) 0)
          (ap (λ n. section_lines (record { kind = Held; number = n; shards = c.args.lists.now })) c.in-Some.ensures.sections ∙ sym (held-text (c.args.counts.sections + 1) c.args.lists.now some))
          c.in_ok-write_section.ensures.written;
      state = c.in_ok-write_section.ensures.state;
    }
