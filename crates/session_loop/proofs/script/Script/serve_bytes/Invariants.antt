-- The bytes so far were taken and served.
use Rattle.std.proofs.Common.{◌≡◌, ◌+◌, take}
use Rattle.session_loop.specs.Outside.{seen}
use Rattle.session_loop.specs.inner.Scripts.{HasTaken, BytesServed}
use Rattle.session_loop.proofs.script.Script.serve_bytes.Given as goal

abbrev pub invariant-loop-byte : goal.invariant-loop-byte
invariant-loop-byte g l = record {
  read : HasTaken l.service.design.now.circuit.horizon l.self.taken l.self.reader;
  taken : l.self.taken ≡ l.initial.self.taken + l.byte-index;
  served : BytesServed l.service l.initial.self l.self (take l.byte-index l.bytes) l.initial.desk l.desk
      (seen (g.F.Files.state l.initial.files) (g.F.Files.made l.initial.files) (g.S.Sink.faults l.initial.out) (g.S.Sink.written l.initial.out))
      (seen (g.F.Files.state l.files) (g.F.Files.made l.files) (g.S.Sink.faults l.out) (g.S.Sink.written l.out));
}
