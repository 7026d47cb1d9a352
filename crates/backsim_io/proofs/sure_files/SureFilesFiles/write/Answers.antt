use Rattle.std.proofs.Common.{rules, ◌≡◌, ◌<◌, ◌∙◌, ap, length, take, map, arith, List, ℕ}
use Rattle.std.proofs.lemmas.List.{take_all}
use Rattle.backsim_io.specs.FilesInMemory.{files_with}
use Rattle.backsim_io.specs.inner.SureFiles.{front_of}
use Rattle.backsim_io.proofs.KeptFiles.{kept-grown}
use Rattle.backsim_io.proofs.sure_files.SureFilesFiles.write.Goals as goal

pub returns-clause-made : goal.returns-clause-made
returns-clause-made c = λ before told.
    let within : c.args.slot < length c.args.self.now.created.items = search rules in
    let fits : c.index_mut.result.now.bytes.room ≡ c.args.self.now.room = search rules in
    let taken : take (length c.args.piece.now) c.args.piece.now ≡ c.args.piece.now = take_all _ c.args.piece.now (omega arith) in
    ap (λ (l : List ℕ). map (front_of c.args.self.now.room) (files_with before c.args.slot l)) taken ∙ kept-grown c.args.self.now.room before c.args.self.now.created.items c.args.slot c.index_mut.result.now c.keep.new.self c.args.piece.now within c.index_mut.ensures.value fits c.keep.ensures told
