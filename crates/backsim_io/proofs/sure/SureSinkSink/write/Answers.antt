use Rattle.std.proofs.Common.{arith}
use Rattle.std.proofs.lemmas.Grind.{common_steps}
use Rattle.backsim_io.proofs.Room.{kept_after}
use Rattle.backsim_io.proofs.sure.SureSinkSink.write.Goals as goal

-- what is kept grows by what the room lets in
pub returns-clause-bytes : goal.returns-clause-bytes
returns-clause-bytes c = λ before told.
    let kept = kept_after c.args.self.now.room before c.args.self.now.bytes c.args.piece.now told in
    grind (arith, common_steps, kept)
