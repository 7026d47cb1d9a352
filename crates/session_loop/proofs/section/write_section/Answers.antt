use Rattle.std.proofs.Common.{ℕ, ◌≡◌, ◌++◌, [], refl, sym, subst, append-nil, arith}
use Rattle.std.proofs.lemmas.Grind.{common_steps}
use Rattle.std.specs.Prelude.{codes}
use Rattle.backsim_io.specs.FilesInMemory.{FileGrows}
use Rattle.journal_text.specs.Spelling.{shard_lines}
use Rattle.session_loop.specs.inner.Growing.{FileGrowsPart, KeepsBack}
use Rattle.session_loop.specs.inner.Pieces.{Records}
use Rattle.session_loop.proofs.Growing.{handed-part, file-part-none, file-part-after, file-part-longer, keeps-part, records-last}
use Rattle.session_loop.proofs.Pieces.{section_head, section-parts, shards-of-section}
use Rattle.session_loop.proofs.section.write_section.Goals as goal

pub returns-in_err-text : goal.returns-in_err-text
returns-in_err-text g c = handed-part c.from_residual.result c.from_residual.ensures.1 (record { begun = file-part-none (g.F.Files.made c.args.files.now) 0 _; state = refl })

pub returns-in_err-write_shards : goal.returns-in_err-write_shards
returns-in_err-write_shards g c =
    let M = g.F.Files.made in
    handed-part c.from_residual-in_err-write_shards.result c.from_residual-in_err-write_shards.ensures.1 (record {
      begun = file-part-longer (M c.args.files.now) (M c.write_shards.new.files) 0 (section_head c.args.kind c.args.number ++ shard_lines 0 c.args.lists.now) _ (shards-of-section c.args.kind c.args.number c.args.lists.now)
          (subst (λ head. FileGrowsPart (M c.args.files.now) (M c.write_shards.new.files) 0 (head ++ shard_lines 0 c.args.lists.now)) c.in_ok-text.ensures c.in_err-write_shards.ensures.begun);
      state = c.in_err-write_shards.ensures.state;
    })

pub returns-in_err-extend_from_slice : goal.returns-in_err-extend_from_slice
returns-in_err-extend_from_slice g c =
    let M = g.F.Files.made in
    let u = M c.args.files.now in
    let v = M c.write_shards.new.files in
    let slot : ℕ = 0 in
    let lines = shard_lines 0 c.args.lists.now in
    let left = c.write_shards.new.text.items in
    handed-part c.from_residual-in_err-extend_from_slice.result c.from_residual-in_err-extend_from_slice.ensures.1 (record {
      begun = subst (FileGrowsPart u v slot) (sym (section-parts c.args.kind c.args.number c.args.lists.now))
          (keeps-part (FileGrows u v slot) (section_head c.args.kind c.args.number) lines left (codes "end\n")
          (subst (λ head. KeepsBack (FileGrows u v slot) head lines left) c.in_ok-text.ensures c.in_ok-write_shards.ensures.keeps_back)
          (FileGrowsPart v v slot) (FileGrowsPart u v slot) (file-part-after u v v slot) (file-part-longer u v slot)
          [] (lines ++ codes "end\n") (sym (append-nil (lines ++ codes "end\n"))) (file-part-none v slot _));
      state = c.in_ok-write_shards.ensures.state;
    })

pub returns : goal.returns
returns g c =
    let M = g.F.Files.made in
    let F = g.F.Files.state in
    let u = M c.args.files.now in
    let v = M c.write_shards.new.files in
    let w = M c.write_piece.new.files in
    let lines = shard_lines 0 c.args.lists.now in
    let left = c.write_shards.new.text.items in
    let text : c.as_slice.result.now ≡ left ++ codes "end\n" = grind (arith, common_steps) in
    subst (λ l. Records l c.write_piece.result (F c.args.files.now) u (F c.write_piece.new.files) w) (sym (section-parts c.args.kind c.args.number c.args.lists.now))
    (records-last (section_head c.args.kind c.args.number) lines left (codes "end\n") u v w
    (subst (λ head. KeepsBack (FileGrows u v 0) head lines left) c.in_ok-text.ensures c.in_ok-write_shards.ensures.keeps_back)
    (F c.args.files.now) (F c.write_shards.new.files) (F c.write_piece.new.files) c.in_ok-write_shards.ensures.state c.write_piece.result
    (subst (λ l. Records l c.write_piece.result (F c.write_shards.new.files) v (F c.write_piece.new.files) w) text c.write_piece.ensures))
