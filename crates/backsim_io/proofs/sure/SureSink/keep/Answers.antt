use Rattle.std.proofs.Common.{rules, ◌≡◌, length, ◌-◌, min, arith}
use Rattle.std.proofs.lemmas.Grind.{common_steps}
use Rattle.backsim_io.proofs.Room.{room_keeps}
use Rattle.backsim_io.proofs.sure.SureSink.keep.Goals as goal

pub returns : goal.returns
returns c =
    let taken : c.min-n.result ≡ min (c.self.inside.room - length c.self.inside.bytes.items) (length c.args.piece.now) = search rules in
    let kept = room_keeps c.self.inside.room _ c.self.inside.bytes.items c.args.piece.now (search rules) taken in
    grind (arith, common_steps, kept)
