use Rattle.std.proofs.Common.{◌++◌, refl, subst}
use Rattle.std.specs.Prelude.{flat_map}
use Rattle.backsim_io.specs.FilesInMemory.{FileGrows}
use Rattle.journal_text.specs.Spelling.{entry_line}
use Rattle.session_loop.specs.inner.Growing.{FileGrowsPart}
use Rattle.session_loop.proofs.Growing.{handed-behind, file-part-longer, records-after}
use Rattle.session_loop.proofs.section.write_lines.Goals as goal

pub returns-in_err-write_piece : goal.returns-in_err-write_piece
returns-in_err-write_piece g c =
    let M = g.F.Files.made in
    let u = M c.args.files.now in
    let v = M c.write_piece.new.files in
    let before = c.args.text.now.items in
    let lines = flat_map entry_line c.args.entries.now in
    handed-behind _ _ _ c.from_residual.result c.from_residual.ensures.1 (record {
      begun = file-part-longer u v 0 before (before ++ lines) (lines, refl) (subst (FileGrowsPart u v 0) c.as_slice.ensures.value c.in_err-write_piece.ensures.begun);
      state = c.in_err-write_piece.ensures.state;
    })

pub returns : goal.returns
returns g c =
    let M = g.F.Files.made in
    let F = g.F.Files.state in
    let u = M c.args.files.now in
    let v = M c.write_piece.new.files in
    let w = M c.write_blocks.new.files in
    records-after u v w c.args.text.now.items (flat_map entry_line c.args.entries.now) _ (F c.args.files.now) (F c.write_piece.new.files) (F c.write_blocks.new.files) c.in_ok-write_piece.ensures.state
    (subst (FileGrows u v 0) c.as_slice.ensures.value c.in_ok-write_piece.ensures.written) c.clear.ensures.items c.write_blocks.result c.write_blocks.ensures
