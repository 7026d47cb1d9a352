use Rattle.std.proofs.Common.{◌+◌, ◌/◌, ◌++◌, List, map, sym, ap, subst, ◌∙◌, arith}
use Rattle.std.specs.List.{AllByRecursion}
use Rattle.std.proofs.lemmas.Result.{on_ok_weaker}
use Rattle.journal_meaning.specs.Pieces.{Start, IsStart, pieces}
use Rattle.plan_machine.specs.Strands.{started_strand}
use Rattle.journal_meaning.proofs.Callers.{pieces-lawful}
use Rattle.plan_core.specs.Parts.{strands_in}
use Rattle.query_answers.specs.windows.inner.Starts.{piece_start}
use Rattle.query_answers.proofs.Pieces.{pieces-by, last-start, last-left, next-start, next-left}
use Rattle.query_answers.proofs.windows.strands.push_pieces.Goals as goal

pub cuts-init : goal.cuts-init
cuts-init g c =
    let b = g.B.BatchName.batch in
    let q = c.args.q in
    let e = pieces-by q c.count_pieces-count.result c.count_pieces-count.ensures.count in
    record {
      order = c.requires.order;
      left = (
        q.to / 65536 + 1,
        omega arith,
        subst (AllByRecursion (IsStart b)) (sym e) (pieces-lawful b c.requires.site q c.requires.known),
        ap (λ (l : List Start). strands_in c.args.strands.now.items ++ map (started_strand b.circuit) l) e,
      );
    }

pub push_piece-requires-clause-start : goal.push_piece-requires-clause-start
push_piece-requires-clause-start g c =
    let i = c.cuts.invariant.left in
    let e = c.next_cut.ensures in
    let t = c.cuts-test.true in
    next-start g.B.BatchName.batch c.args.q c.cuts.budget (c.args.q.budget / c.count_pieces-count.result) i.0 c.cuts.t (omega arith) i.1 c.next_cut-next.result c.next_cut-next.ensures i.2

pub cuts-preserved : goal.cuts-preserved
cuts-preserved g c =
    let b = g.B.BatchName.batch in
    let q = c.args.q in
    let i = c.cuts.invariant.left in
    let e = c.next_cut.ensures in
    let t = c.cuts-test.true in
    record {
      order = c.in_ok-push_piece.ensures.order;
      left = next-left b q c.cuts.budget (q.budget / c.count_pieces-count.result) i.0 c.cuts.t (omega arith) i.1 c.next_cut-next.result c.next_cut-next.ensures
          (started_strand b.circuit) (strands_in c.cuts.strands.items) (strands_in c.push_piece.new.strands.items) (strands_in c.args.strands.now.items ++ map (started_strand b.circuit) (pieces q)) i.2 i.3 c.in_ok-push_piece.ensures.strands;
    }

pub push_piece-requires-2-clause-start : goal.push_piece-requires-2-clause-start
push_piece-requires-2-clause-start g c =
    let i = c.cuts.invariant.left in
    let e = c.next_cut.ensures in
    let t = c.cuts-test.false in
    last-start g.B.BatchName.batch c.args.q c.cuts.budget (c.args.q.budget / c.count_pieces-count.result) i.0 c.cuts.t (omega arith) i.2

pub returns-clause-strands : goal.returns-clause-strands
returns-clause-strands g c =
    let b = g.B.BatchName.batch in
    let q = c.args.q in
    let i = c.cuts.invariant.left in
    let e = c.next_cut.ensures in
    let t = c.cuts-test.false in
    let f = started_strand b.circuit in
    let old = strands_in c.cuts.strands.items in
    let new = strands_in c.push_piece-2.new.strands.items in
    let all = strands_in c.args.strands.now.items ++ map f (pieces q) in
    let one = piece_start q c.cuts.t q.to c.cuts.budget in
    let l = last-left b q c.cuts.budget (q.budget / c.count_pieces-count.result) i.0 c.cuts.t f old all (omega arith) i.3 in
    on_ok_weaker c.push_piece-2.result (λ h. h ∙ l) c.push_piece-2.ensures.strands
