use Rattle.std.proofs.Common.{List, ℕ, subst}
use Rattle.backsim_check.specs.Checks.{IsTold}
use Rattle.backsim_check.specs.Seen.{output_of}
use Rattle.backsim_check.proofs.Judged.{verdict-told, nothing-told}
use Rattle.backsim_check.proofs.checking.check_files.Goals as goal

pub returns-in-Ok : goal.returns-in-Ok
returns-in-Ok g c =
    let W = g.S.Sink.written in
    let n = g.S.Sink.faults in
    verdict-told c.verdicts_are_fixed.ensures _ _ _ c.in-Ok.verdict c.tell.result c.in-Ok.ensures.judges c.in-Ok.ensures.made
    (subst (λ (l : List ℕ). IsTold c.in-Ok.verdict.status l (output_of (W c.args.out.now) (n c.args.out.now)) (output_of (W c.tell.new.out) (n c.tell.new.out)) c.tell.result) c.deref.ensures.value c.tell.ensures)

pub returns-in-Err : goal.returns-in-Err
returns-in-Err g c = nothing-told _ _ (g.F.Files.state c.judge.new.files) (g.F.Files.made c.judge.new.files) c.in-Err.status c.in-Err.ensures.judges c.in-Err.ensures.made
