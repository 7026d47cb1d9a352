use Rattle.std.proofs.Common.{◌≡◌, subst, sym}
use Rattle.query_lines.specs.Fit.{HaveOwnLines}
use Rattle.backsim.proofs.Worked.{work-fit}
use Rattle.backsim.proofs.work.answer_work.Goals as goal

-- the items are a batch of a script
pub serve_work-requires-clause-within : goal.serve_work-requires-clause-within
serve_work-requires-clause-within g c κs w =
    let same : c.as_slice-items.result.now ≡ c.args.work.now.items = cc in
    rw (c.requires.horizon, same) (work-fit c.args.asked.now.number c.args.work.now c.script_units_are_fit.ensures c.requires.work).within

pub serve_work-requires-clause-lines : goal.serve_work-requires-clause-lines
serve_work-requires-clause-lines g c κs w =
    subst HaveOwnLines (sym c.as_slice-items.ensures) (work-fit c.args.asked.now.number c.args.work.now c.script_units_are_fit.ensures c.requires.work).own
