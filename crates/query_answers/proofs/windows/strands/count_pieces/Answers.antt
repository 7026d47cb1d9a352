use Rattle.std.proofs.Common.{◌≡◌, ◌+◌, ◌/◌, length, refl, ap, arith}
use Rattle.journal_meaning.specs.Pieces.{cuts, spans_of}
use Rattle.query_answers.proofs.Pieces.{cuts-last, count-next}
use Rattle.query_answers.proofs.windows.strands.count_pieces.Goals as goal

pub cuts-init : goal.cuts-init
cuts-init c =
    let q = c.args.q in
    let n = q.to / 65536 + 1 in
    let e : length (spans_of q) ≡ length (cuts n q.from q.to) = refl in
    record { some = omega arith; bound = omega arith; left = (n, omega arith, omega arith) }

pub cuts-preserved : goal.cuts-preserved
cuts-preserved c =
    let q = c.args.q in
    let i = c.cuts.invariant in
    let e = c.next_cut.ensures in
    let f = c.next_cut-next.ensures in
    let t = c.cuts-test.true in
    let s = i.some in
    let b = i.bound in
    record {
      some = omega arith;
      bound = omega arith;
      left = count-next i.left.0 c.cuts.t q.to c.next_cut-next.result c.cuts.count (length (spans_of q) + 1) (omega arith) i.left.1 f i.left.2;
    }

pub returns-clause-count : goal.returns-clause-count
returns-clause-count c =
    let q = c.args.q in
    let i = c.cuts.invariant in
    let e = c.next_cut.ensures in
    let t = c.cuts-test.false in
    let l = ap length (cuts-last i.left.0 c.cuts.t q.to (omega arith)) in
    let k = i.left.2 in
    omega arith
