use Rattle.std.proofs.Common.{sym}
use Rattle.session_loop.specs.Halting.{IsWork}
use Rattle.backsim.specs.Work.{setup_of_work}
use Rattle.backsim.proofs.Worked.{recorded-same, work-ends, work-halted}
use Rattle.backsim.proofs.work.serve_workload.Goals as goal
use Rattle.backsim.proofs.work.serve_workload.Goals.{in-Ok-answer_work, in-Err}

-- the batch was answered, or the session of the batch halted
pub returns-clause-serves : goal.returns-clause-serves
returns-clause-serves g c script =
    let F = g.F.Files.state in
    let M = g.F.Files.made in
    let N = g.S.Sink.faults in
    let W = g.S.Sink.written in
    let number = c.args.asked.now.number in
    let name = c.args.asked.now.journal.now in
    elim c.match-answer_work.branch [
      | in-Ok-answer_work w ↦
          let end = w.end_work-status in
          let replies = w.in-Ok-answer_work.replies.items in
          rw (w.files-is, w.out-is, w.status-is)
          (work-ends number c.in-Ok.work name replies c.in-Ok.ensures.work script (N c.args.out.now) (N end.new.out) (W c.args.out.now) (W end.new.out)
          (M c.args.files.now) (M end.new.files)
          (recorded-same (IsWork (setup_of_work c.in-Ok.work) c.in-Ok.work.items replies) name (M c.args.files.now) (M c.answer_work.new.files) (M end.new.files)
          w.in-Ok-answer_work.ensures.worked end.ensures.made)
          (F c.args.files.now) (F c.answer_work.new.files) c.requires.started w.in-Ok-answer_work.ensures.state
          (F end.new.files) end.result c.requires.created (g.met.F.Files.places c.args.files.now)
          (rw (sym w.deref.ensures.value) end.ensures.ends))
      | in-Err w ↦
          rw (w.files-is, w.out-is, w.status-is, w.from-status.ensures)
          (work-halted number c.in-Ok.work name c.in-Ok.ensures.work script (N c.args.out.now) (W c.args.out.now) (M c.args.files.now) (M c.answer_work.new.files)
          (F c.args.files.now) (F c.answer_work.new.files) w.in-Err.halt c.requires.started w.in-Err.ensures.state w.in-Err.ensures.halted)
    ]
