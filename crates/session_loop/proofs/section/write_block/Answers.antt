use Rattle.std.proofs.Common.{refl, ap, subst, ◌∙◌}
use Rattle.std.specs.Prelude.{flat_map}
use Rattle.session_loop.specs.inner.Pieces.{Records}
use Rattle.session_loop.proofs.Growing.{handed-part, file-part-none}
use Rattle.session_loop.proofs.section.write_block.Goals as goal

pub returns-in_err-texts : goal.returns-in_err-texts
returns-in_err-texts g c = handed-part c.from_residual.result c.from_residual.ensures.1 (record { begun = file-part-none (g.F.Files.made c.args.files.now) 0 _; state = refl })

pub returns : goal.returns
returns g c =
    let M = g.F.Files.made in
    let F = g.F.Files.state in
    subst (λ l. Records l c.write_texts.result (F c.args.files.now) (M c.args.files.now) (F c.write_texts.new.files) (M c.write_texts.new.files))
    (ap (flat_map (λ text. text.items)) c.as_slice.ensures.value ∙ c.in_ok-texts.ensures) c.write_texts.ensures
