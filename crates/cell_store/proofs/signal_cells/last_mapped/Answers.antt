use Rattle.std.proofs.Common.{ℕ}
use Rattle.std.proofs.lemmas.Map.Keys.{le_from_not_gt, ge_from_not_lt}
use Rattle.cell_store.specs.declared.index.Place.{Place}
use Rattle.cell_store.proofs.Starts.{to_le}
use Rattle.cell_store.proofs.signal_cells.last_mapped.Goals as goal

pub returns-clause-last : goal.returns-clause-last
returns-clause-last c =
    let t : ℕ = c.in_ok-start.start.now in
    let p : Place = c.in_ok-start.place.now in
    let there = (c.range.ensures.in_range tt).3 (t, p) c.next_back.new.self c.in_ok-start.ensures.steps in
    record {
      at = there.1;
      early = le_from_not_gt t c.args.time there.0.1;
      last = λ u early some. ge_from_not_lt t u ((c.range.ensures.in_range tt).4 (t, p) c.next_back.new.self c.in_ok-start.ensures.steps u (tt, to_le u c.args.time early) some);
    }
