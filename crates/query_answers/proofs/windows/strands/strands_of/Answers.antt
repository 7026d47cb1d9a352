use Rattle.std.proofs.Common.{map, flat_map, ap, ◌∙◌, arith}
use Rattle.std.proofs.lemmas.List.{take_all}
use Rattle.plan_machine.specs.Strands.{started_strand}
use Rattle.journal_meaning.specs.Pieces.{pieces}
use Rattle.plan_core.specs.Parts.{strands_in}
use Rattle.query_answers.proofs.Pieces.{strands-next}
use Rattle.query_answers.proofs.windows.strands.strands_of.Goals as goal

pub loop-q-preserved : goal.loop-q-preserved
loop-q-preserved g c =
    let k = c.in_ok-push_pieces.ensures in
    record {
      order = k.order;
      strands = strands-next (started_strand g.B.BatchName.batch.circuit) c.args.queries.now c.loop-q.q-index _ (strands_in c.loop-q.strands.items) (strands_in c.push_pieces.new.strands.items) c.loop-q-test.true c.loop-q.invariant.strands k.strands;
    }

pub returns-clause-strands : goal.returns-clause-strands
returns-clause-strands g c = c.loop-q.invariant.strands ∙ ap (λ l. map (started_strand g.B.BatchName.batch.circuit) (flat_map pieces l)) (take_all c.loop-q.q-index c.args.queries.now (let t = c.loop-q-test.false in omega arith))
