use Rattle.session_loop.specs.Outside.{Seen, seen}
use Rattle.session_loop.specs.inner.Scripts.{ServesEnd}
use Rattle.session_loop.proofs.Changes.{handed-on}
use Rattle.session_loop.proofs.Taken.{left-fit, ends-so, ends-none}
use Rattle.session_loop.specs.declared.stop.UnitStop.TheVariants.{OutOfMemory}
use Rattle.session_loop.proofs.script.Script.serve_end.Goals as goal

-- the reader gave no units
pub returns-in_err-units : goal.returns-in_err-units
returns-in_err-units g c =
    let before : Seen = seen (g.F.Files.state c.args.files.now) (g.F.Files.made c.args.files.now) (g.S.Sink.faults c.args.out.now) (g.S.Sink.written c.args.out.now) in
    handed-on (λ result. ServesEnd c.args.service.now c.args.self.reader c.args.desk result before before) OutOfMemory c.from_residual.result c.from_residual.ensures.1
    (ends-none c.args.service.now c.args.self.reader c.args.desk before c.requires.ready)

pub serve_units-requires-clause-fit : goal.serve_units-requires-clause-fit
serve_units-requires-clause-fit g c = λ κs w.
    left-fit c.args.service.now.design.now.circuit.horizon c.args.self.reader c.args.self.taken c.in_ok-units.units c.requires.script.horizon c.in_ok-units.ensures.whole c.requires.script.read

pub returns : goal.returns
returns g c = ends-so c.args.service.now c.args.self.reader c.in_ok-units.units c.args.desk _ _ c.serve_units.result c.in_ok-units.ensures.whole c.serve_units.ensures
