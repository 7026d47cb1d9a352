-- What was read so far was taken and served, and no fault was met.
use Rattle.std.proofs.Common.{◌≡◌, ◌≤◌, ◌-◌, length}
use Rattle.session_loop.specs.Outside.{seen}
use Rattle.session_loop.specs.inner.Scripts.{HasServed}
use Rattle.session_loop.proofs.script.serve_script.Given as goal

abbrev pub invariant-loop-n : goal.invariant-loop-n
invariant-loop-n g l = record {
  block : length l.block ≡ 4096;
  most : l.script.taken ≤ 16777216;
  calm : (g.Q.Source.state l.queries).faults ≡ (g.Q.Source.state l.initial.queries).faults;
  served : HasServed l.service (g.Q.Source.state l.initial.queries).left (g.Q.Source.state l.queries).left l.script l.initial.desk l.desk
      (seen (g.F.Files.state l.initial.files) (g.F.Files.made l.initial.files) (g.S.Sink.faults l.initial.out) (g.S.Sink.written l.initial.out))
      (seen (g.F.Files.state l.files) (g.F.Files.made l.files) (g.S.Sink.faults l.out) (g.S.Sink.written l.out));
}

abbrev pub decreases-loop-n : goal.decreases-loop-n
decreases-loop-n g l = 16777216 - l.script.taken
