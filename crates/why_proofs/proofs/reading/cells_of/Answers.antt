use Rattle.std.proofs.Common.{rules, ◌≡◌, ◌++◌, ◌∷◌, [], List, length, ◌∙◌, ap, Some}
use Rattle.valid_intervals.specs.declared.SignalCell.{SignalCell}
use Rattle.why_proofs.specs.inner.Reading.{cell_at, cells_at}
use Rattle.texts.proofs.Callers.{shorter, put_all, put_next}
use Rattle.why_proofs.proofs.Lines.{spelling}
use Rattle.why_proofs.proofs.reading.cells_of.Goals as goal

pub loop-cell-smaller : goal.loop-cell-smaller
loop-cell-smaller c =
    let found : cell_at c.loop-cell.rest.now ≡ Some (c.in-Some.cell, c.in-Some.more.now) = search rules in
    shorter spelling c.loop-cell.rest.now c.in-Some.cell c.in-Some.more.now found

pub loop-cell-preserved : goal.loop-cell-preserved
loop-cell-preserved c =
    let found : cell_at c.loop-cell.rest.now ≡ Some (c.in-Some.cell, c.in-Some.more.now) = search rules in
    let pushed : c.push.new.self.items ≡ c.loop-cell.cells.items ++ c.in-Some.cell ∷ [] = search rules in
    let more = cells_at (length c.in-Some.more.now) c.in-Some.more.now in
    ap (λ (l : List SignalCell). put_all l more) pushed ∙ put_next spelling c.loop-cell.cells.items c.loop-cell.rest.now c.in-Some.cell c.in-Some.more.now found ∙ c.loop-cell.invariant
