use Rattle.session_loop.proofs.Growing.{part-of}
use Rattle.session_loop.proofs.section.write_reply.Goals as goal

pub returns-in-Ok : goal.returns-in-Ok
returns-in-Ok g c = record { written = c.in-Ok.ensures.ok; state = c.in-Ok.ensures.calm }

pub returns-in-Err : goal.returns-in-Err
returns-in-Err g c = record {
  begun = part-of (g.S.Sink.written c.args.out.now) (g.S.Sink.written c.write_all.new.sink) c.args.text.now c.in-Err.ensures.prefix;
  state = c.in-Err.ensures.failed;
}
