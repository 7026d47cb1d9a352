use Rattle.std.proofs.Common.{◌≡◌, map, flat_map, take}
use Rattle.plan_machine.specs.Strands.{started_strand}
use Rattle.journal_meaning.specs.Pieces.{pieces}
use Rattle.plan_core.specs.Parts.{strands_in}
use Rattle.query_answers.specs.windows.Strands.{IsInOrder}
use Rattle.query_answers.proofs.windows.strands.strands_of.Given as goal

abbrev pub invariant-loop-q : goal.invariant-loop-q
invariant-loop-q g l = record {
  order : IsInOrder l.strands.items;
  strands : strands_in l.strands.items ≡ map (started_strand g.B.BatchName.batch.circuit) (flat_map pieces (take l.q-index l.queries));
}
