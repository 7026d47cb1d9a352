use Rattle.std.proofs.Common.{ℕ, ◌+◌, refl, arith, ap, sym, append-nil, subst, ◌∙◌, take, drop}
use Rattle.std.proofs.lemmas.List.{take_all}
use Rattle.std.specs.Prelude.{[], flat_map}
use Rattle.backsim_io.specs.FilesInMemory.{FileGrows}
use Rattle.journal_text.specs.Spelling.{entry_line}
use Rattle.session_loop.specs.Outside.{JournalStops}
use Rattle.session_loop.specs.inner.Growing.{FileGrowsPart, KeepsBack}
use Rattle.session_loop.proofs.Growing.{handed-behind, file-none, file-more, file-part-none, file-part-after, file-part-longer, keeps-none, keeps-pushed, keeps-more, keeps-part}
use Rattle.session_loop.proofs.Pieces.{lines-next, lines-after}
use Rattle.session_loop.proofs.section.write_entries.Goals as goal

pub loop-entry-init : goal.loop-entry-init
loop-entry-init g c =
    let M = g.F.Files.made in
    record {
      keeps_back = keeps-none (FileGrows (M c.args.files.now) (M c.args.files.now) 0) (file-none (M c.args.files.now) 0) c.args.text.now.items;
      same = refl;
    }

pub loop-entry-preserved : goal.loop-entry-preserved
loop-entry-preserved g c =
    let M = g.F.Files.made in
    let u = M c.args.files.now in
    let v = M c.loop-entry.files in
    let w = M c.write_full.new.files in
    let slot : ℕ = 0 in
    let es = c.args.entries.now in
    let i = c.loop-entry.entry-index in
    let e = c.entry-item.result in
    let held = c.loop-entry.invariant in
    let done = c.in_ok-write_full.ensures in
    record {
      keeps_back = subst (λ l. KeepsBack (FileGrows u w slot) c.args.text.now.items l c.write_full.new.text.items) (sym (lines-next es i e c.loop-entry-test.true c.entry-item.is))
          (keeps-more (FileGrows u v slot) c.args.text.now.items (flat_map entry_line (take i es)) c.loop-entry.text.items (entry_line e) held.keeps_back
          (FileGrows v w slot) (FileGrows u w slot) (file-more u v w slot) c.write_full.new.text.items
          (keeps-pushed (FileGrows v w slot) c.loop-entry.text.items (entry_line e) c.write_full.new.text.items
          (subst (λ t. KeepsBack (FileGrows v w slot) t [] c.write_full.new.text.items) c.in_ok-push_entry.ensures done.keeps_back)));
      same = done.state ∙ held.same;
    }

pub returns-in_err-push_entry : goal.returns-in_err-push_entry
returns-in_err-push_entry g c =
    let M = g.F.Files.made in
    let u = M c.args.files.now in
    let v = M c.loop-entry.files in
    let slot : ℕ = 0 in
    let es = c.args.entries.now in
    let i = c.loop-entry.entry-index in
    let e = c.entry-item.result in
    handed-behind _ _ _ c.from_residual.result c.from_residual.ensures.1 (record {
      begun = keeps-part (FileGrows u v slot) c.args.text.now.items (flat_map entry_line (take i es)) c.loop-entry.text.items (entry_line e) c.loop-entry.invariant.keeps_back
          (FileGrowsPart v v slot) (FileGrowsPart u v slot) (file-part-after u v v slot) (file-part-longer u v slot)
          (flat_map entry_line (drop (i + 1) es)) (flat_map entry_line es) (lines-after es i e c.loop-entry-test.true c.entry-item.is) (file-part-none v slot _);
      state = c.loop-entry.invariant.same;
    })

pub returns-in_err-write_full : goal.returns-in_err-write_full
returns-in_err-write_full g c =
    let M = g.F.Files.made in
    let u = M c.args.files.now in
    let v = M c.loop-entry.files in
    let w = M c.write_full.new.files in
    let slot : ℕ = 0 in
    let es = c.args.entries.now in
    let i = c.loop-entry.entry-index in
    let e = c.entry-item.result in
    handed-behind _ _ _ c.from_residual-in_err-write_full.result c.from_residual-in_err-write_full.ensures.1 (record {
      begun = keeps-part (FileGrows u v slot) c.args.text.now.items (flat_map entry_line (take i es)) c.loop-entry.text.items (entry_line e) c.loop-entry.invariant.keeps_back
          (FileGrowsPart v w slot) (FileGrowsPart u w slot) (file-part-after u v w slot) (file-part-longer u w slot)
          (flat_map entry_line (drop (i + 1) es)) (flat_map entry_line es) (lines-after es i e c.loop-entry-test.true c.entry-item.is)
          (subst (FileGrowsPart v w slot) (append-nil c.push_entry.new.text.items ∙ c.in_ok-push_entry.ensures) c.in_err-write_full.ensures.begun);
      state = subst (λ f. JournalStops f (g.F.Files.state c.write_full.new.files) c.in_err-write_full.field-0.0) c.loop-entry.invariant.same c.in_err-write_full.ensures.state;
    })

-- all lines were written or are kept back
pub returns : goal.returns
returns g c =
    let M = g.F.Files.made in
    record {
      keeps_back = subst (λ l. KeepsBack (FileGrows (M c.args.files.now) (M c.loop-entry.files) 0) c.args.text.now.items l c.loop-entry.text.items)
          (ap (flat_map entry_line) (take_all c.loop-entry.entry-index c.args.entries.now (omega (arith, c.loop-entry-test.false)))) c.loop-entry.invariant.keeps_back;
      state = c.loop-entry.invariant.same;
    }
