use Rattle.std.specs.BTreeMap.{get}
use Rattle.valid_intervals.specs.Cells.{point_cmp}
use Rattle.why_proofs.proofs.KnownLemmas.{true-more, index-more}
use Rattle.why_proofs.proofs.known.KnownCells.insert.Goals as goal

pub returns-clause-cells : goal.returns-clause-cells
returns-clause-cells c = λ d cells is. true-more d (get point_cmp c.args.self.now.cells) (get point_cmp c.insert.new.self) cells c.args.p c.args.cell is c.in_ok-insert.ensures.updates.0

pub returns-clause-lines : goal.returns-clause-lines
returns-clause-lines c = λ d lines x cells is i same place.
    index-more d (get point_cmp c.args.self.now.cells) (get point_cmp c.insert.new.self) cells c.args.p c.args.cell is c.in_ok-insert.ensures.updates.0 lines i x same place
