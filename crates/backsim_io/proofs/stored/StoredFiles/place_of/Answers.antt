use Rattle.std.proofs.Common.{rules, ◌≡◌, arith, true}
use Rattle.std.specs.Str.{bytes_eq}
use Rattle.std.proofs.lemmas.Grind.{common_steps}
use Rattle.backsim_io.proofs.Under.{under_from, bytes_at_place}
use Rattle.backsim_io.proofs.stored.StoredFiles.place_of.Goals as goal

-- the file at this place has the name, and none before it
pub returns-then-eq-clause-bytes : goal.returns-then-eq-clause-bytes
returns-then-eq-clause-bytes c =
    let same : bytes_eq c.file-item.result.0 c.args.name.now ≡ true = search rules in
    let first = under_from c.args.self.now.files.items c.args.name.now c.loop-place.place c.file-item.result (search rules) in
    let here = bytes_at_place c.args.self.now.files.items c.loop-place.place c.file-item.result (search rules) in
    grind (arith, common_steps, same, first, here, c.file-item.is, c.loop-place.invariant)
