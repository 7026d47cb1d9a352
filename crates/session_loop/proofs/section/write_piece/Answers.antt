use Rattle.session_loop.proofs.Growing.{file-part-of}
use Rattle.session_loop.proofs.section.write_piece.Goals as goal

pub returns-in-Ok : goal.returns-in-Ok
returns-in-Ok g c = record { written = c.in-Ok.ensures.ok; state = c.in-Ok.ensures.takes }

pub returns-in-Err : goal.returns-in-Err
returns-in-Err g c = record {
  begun = file-part-of (g.F.Files.made c.args.files.now) (g.F.Files.made c.write_file.new.files) 0 c.args.text.now c.in-Err.ensures.prefix;
  state = c.in-Err.ensures.failed;
}
