use Rattle.std.proofs.Common.{◌+◌, refl, ◌∷◌, [], arith}
use Rattle.session_loop.specs.Outside.{Seen, seen}
use Rattle.session_loop.proofs.Taken.{handed-bytes, taken-more, taken-fit, takes-none, takes-next, takes-all, takes-rest, takes-stop}
use Rattle.session_loop.proofs.script.Script.serve_bytes.Goals as goal

pub loop-byte-init : goal.loop-byte-init
loop-byte-init g c = record {
  read = c.requires.script.read;
  taken = omega arith;
  served = takes-none c.args.service.now c.args.self.now c.args.desk
      (seen (g.F.Files.state c.args.files.now) (g.F.Files.made c.args.files.now) (g.S.Sink.faults c.args.out.now) (g.S.Sink.written c.args.out.now)) c.requires.ready;
}

-- the reader took the next byte, and its units were served
pub loop-byte-preserved : goal.loop-byte-preserved
loop-byte-preserved g c =
    let held = c.loop-byte.invariant in
    let before : Seen = seen (g.F.Files.state c.args.files.now) (g.F.Files.made c.args.files.now) (g.S.Sink.faults c.args.out.now) (g.S.Sink.written c.args.out.now) in
    let mid : Seen = seen (g.F.Files.state c.loop-byte.files) (g.F.Files.made c.loop-byte.files) (g.S.Sink.faults c.loop-byte.out) (g.S.Sink.written c.loop-byte.out) in
    let after : Seen = seen (g.F.Files.state c.serve_units.new.files) (g.F.Files.made c.serve_units.new.files) (g.S.Sink.faults c.serve_units.new.out) (g.S.Sink.written c.serve_units.new.out) in
    record {
      read = taken-more c.args.service.now.design.now.circuit.horizon c.loop-byte.self.reader c.take.new.self c.loop-byte.self.taken (_ ∷ []) c.in_ok-units.units c.in_ok-units.ensures.read held.read;
      taken = omega (arith, held.taken);
      served = takes-next c.args.service.now c.args.self.now c.loop-byte.self c.args.bytes.now c.loop-byte.byte-index c.args.desk c.loop-byte.desk before mid held.served
          (record { reader = c.take.new.self; taken = c.loop-byte.self.taken + 1 }) c.in_ok-units.units c.in_ok-desk.desk after c.loop-byte-test.true refl c.in_ok-units.ensures.read c.in_ok-desk.ensures;
    }

-- all bytes were taken
pub returns : goal.returns
returns g c = takes-all c.args.service.now c.args.self.now c.loop-byte.self c.args.bytes.now c.loop-byte.byte-index c.args.desk c.loop-byte.desk _ _ c.loop-byte.invariant.served (omega (arith, c.loop-byte-test.false))

-- the reader gave no units
pub returns-in_err-units : goal.returns-in_err-units
returns-in_err-units g c =
    let before : Seen = seen (g.F.Files.state c.args.files.now) (g.F.Files.made c.args.files.now) (g.S.Sink.faults c.args.out.now) (g.S.Sink.written c.args.out.now) in
    let mid : Seen = seen (g.F.Files.state c.loop-byte.files) (g.F.Files.made c.loop-byte.files) (g.S.Sink.faults c.loop-byte.out) (g.S.Sink.written c.loop-byte.out) in
    handed-bytes c.args.self.now _ c.from_residual.result c.from_residual.ensures.1
    (takes-rest c.args.service.now c.args.self.now c.loop-byte.self c.args.bytes.now c.loop-byte.byte-index c.args.desk c.loop-byte.desk before mid c.loop-byte.invariant.served)

-- the session broke off in them
pub returns-in_err-desk : goal.returns-in_err-desk
returns-in_err-desk g c =
    let before : Seen = seen (g.F.Files.state c.args.files.now) (g.F.Files.made c.args.files.now) (g.S.Sink.faults c.args.out.now) (g.S.Sink.written c.args.out.now) in
    let mid : Seen = seen (g.F.Files.state c.loop-byte.files) (g.F.Files.made c.loop-byte.files) (g.S.Sink.faults c.loop-byte.out) (g.S.Sink.written c.loop-byte.out) in
    let after : Seen = seen (g.F.Files.state c.serve_units.new.files) (g.F.Files.made c.serve_units.new.files) (g.S.Sink.faults c.serve_units.new.out) (g.S.Sink.written c.serve_units.new.out) in
    handed-bytes c.args.self.now _ c.from_residual-in_err-desk.result c.from_residual-in_err-desk.ensures.1
    (takes-stop c.args.service.now c.args.self.now c.loop-byte.self c.args.bytes.now c.loop-byte.byte-index c.args.desk c.loop-byte.desk before mid c.loop-byte.invariant.served
    c.take.new.self c.in_ok-units.units after c.in_err-desk.field-0.0 c.loop-byte-test.true c.in_ok-units.ensures.read c.in_err-desk.ensures)

pub serve_units-requires-clause-fit : goal.serve_units-requires-clause-fit
serve_units-requires-clause-fit g c = λ κs w.
    taken-fit c.args.service.now.design.now.circuit.horizon c.loop-byte.self.reader c.take.new.self c.loop-byte.self.taken _ c.in_ok-units.units c.requires.script.horizon c.in_ok-units.ensures.read c.loop-byte.invariant.read

pub serve_units-requires-clause-ready : goal.serve_units-requires-clause-ready
serve_units-requires-clause-ready g c = λ κs w. c.loop-byte.invariant.served.served.ready
