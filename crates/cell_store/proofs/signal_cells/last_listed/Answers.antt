use Rattle.std.proofs.Common.{◌-◌, arith}
use Rattle.cell_store.proofs.Starts.{last_begun, none_begun}
use Rattle.cell_store.proofs.signal_cells.last_listed.Goals as goal

pub returns-then-begun-eq0-clause-none : goal.returns-then-begun-eq0-clause-none
returns-then-begun-eq0-clause-none c = none_begun c.args.few.now c.requires c.args.time c.begun_by-begun.result c.begun_by-begun.ensures c.if-begun-eq0.true

pub returns-clause-last : goal.returns-clause-last
returns-clause-last c =
    let some = c.if-begun-eq0.false in
    last_begun c.args.few.now c.requires c.args.time c.begun_by-begun.result (c.begun_by-begun.result - 1) _ c.begun_by-begun.ensures (omega (arith, some))
