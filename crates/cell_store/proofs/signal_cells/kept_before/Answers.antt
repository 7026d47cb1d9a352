use Rattle.std.proofs.Common.{◌-◌, sym, ap, ◌∙◌, arith}
use Rattle.std.proofs.lemmas.Bool.{ne_eqb}
use Rattle.cell_store.specs.inner.SignalCells.{kept_at}
use Rattle.cell_store.proofs.Starts.{kept_there, none_begun, not_there}
use Rattle.cell_store.proofs.signal_cells.kept_before.Goals as goal

pub returns-then-begun-eq0 : goal.returns-then-begun-eq0
returns-then-begun-eq0 c = sym (none_begun c.args.few.now c.requires.order c.args.start c.args.begun c.requires.begun c.if-begun-eq0.true c.args.start (omega arith))

pub returns-then-last-start : goal.returns-then-last-start
returns-then-last-start c =
    let some = c.if-begun-eq0.false in
    let within = c.requires.begun.within in
    sym (kept_there c.args.few.now c.requires.order (c.args.begun - 1) _ (omega (arith, some, within))) ∙ ap (kept_at c.args.few.now) c.if-last-start.true

pub returns-else-last-start : goal.returns-else-last-start
returns-else-last-start c =
    let some = c.if-begun-eq0.false in
    sym (not_there c.args.few.now c.requires.order c.args.start c.args.begun (c.args.begun - 1) _ c.requires.begun (omega (arith, some)) (ne_eqb _ _ c.if-last-start.false))
