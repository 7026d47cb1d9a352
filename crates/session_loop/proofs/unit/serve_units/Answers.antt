use Rattle.std.proofs.Common.{◌∙◌, ap, length}
use Rattle.query_lines.specs.Fit.{IsFit}
use Rattle.session_loop.specs.Outside.{seen}
use Rattle.session_loop.proofs.Served.{handed-stop}
use Rattle.session_loop.proofs.Units.{some-first, some-unit, some-more, some-stop, some-all}
use Rattle.session_loop.proofs.unit.serve_units.Goals as goal

pub loop-unit-init : goal.loop-unit-init
loop-unit-init g c =
    let k = c.into_iter-unit-iterator.ensures.into_iter_gives in
    record {
      next = tt;
      finite = tt;
      served = some-first c.args.service.now c.args.units _ _ c.args.desk
          (seen (g.F.Files.state c.args.files.now) (g.F.Files.made c.args.files.now) (g.S.Sink.faults c.args.out.now) (g.S.Sink.written c.args.out.now))
          (k.0 ∙ c.into_vec-unit-items.ensures) (k.1 ∙ c.into_vec-unit-items.result.ok.0 ∙ ap length c.into_vec-unit-items.ensures) c.requires.ready;
    }

-- the next unit was served
pub loop-unit-preserved : goal.loop-unit-preserved
loop-unit-preserved g c = record {
  next = tt;
  finite = tt;
  served = some-more c.loop-unit.invariant.served c.in_ok-desk.desk c.in-Some.unit _ _ _ c.in-Some.ensures.steps.0 c.in-Some.ensures.steps.1 c.in_ok-desk.ensures;
}

-- the session broke off in the next unit
pub returns-in_err-desk : goal.returns-in_err-desk
returns-in_err-desk g c =
    handed-stop c.from_residual.result c.from_residual.ensures.1
    (some-stop c.loop-unit.invariant.served c.in-Some.unit _ _ c.in_err-desk.field-0.0 c.in-Some.ensures.steps.0 c.in_err-desk.ensures)

pub serve_unit-requires-clause-fit : goal.serve_unit-requires-clause-fit
serve_unit-requires-clause-fit g c = λ κs w. some-unit c.loop-unit.invariant.served (IsFit c.args.service.now.design.now.circuit.horizon) c.in-Some.unit _ c.in-Some.ensures.steps.0 c.requires.fit

pub serve_unit-requires-clause-ready : goal.serve_unit-requires-clause-ready
serve_unit-requires-clause-ready g c = λ κs w. c.loop-unit.invariant.served.served.ready

-- none is left
pub returns : goal.returns
returns g c = some-all c.loop-unit.invariant.served c.in-None.ensures.steps.0
