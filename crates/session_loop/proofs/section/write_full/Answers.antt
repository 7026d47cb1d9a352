use Rattle.std.proofs.Common.{refl, rules, sym, subst, append-nil, ◌∙◌}
use Rattle.std.proofs.lemmas.Grind.{common_steps}
use Rattle.backsim_io.specs.FilesInMemory.{FileGrows}
use Rattle.session_loop.specs.inner.Growing.{FileGrowsPart}
use Rattle.session_loop.proofs.Growing.{handed-behind, file-none, keeps-none}
use Rattle.session_loop.proofs.section.write_full.Goals as goal

pub returns-then-len-lt-PIECE : goal.returns-then-len-lt-PIECE
returns-then-len-lt-PIECE g c =
    let M = g.F.Files.made in
    record { keeps_back = keeps-none (FileGrows (M c.args.files.now) (M c.args.files.now) 0) (file-none (M c.args.files.now) 0) c.args.text.now.items; state = refl }

pub returns-in_err-write_piece : goal.returns-in_err-write_piece
returns-in_err-write_piece g c = handed-behind _ _ _ c.from_residual.result c.from_residual.ensures.1 (record { begun = subst (FileGrowsPart (g.F.Files.made c.args.files.now) (g.F.Files.made c.write_piece.new.files) 0) (c.as_slice.ensures.value ∙ sym (append-nil c.args.text.now.items)) c.in_err-write_piece.ensures.begun; state = c.in_err-write_piece.ensures.state })

pub returns : goal.returns
returns g c = record { keeps_back = search (rules, common_steps); state = c.in_ok-write_piece.ensures.state }
