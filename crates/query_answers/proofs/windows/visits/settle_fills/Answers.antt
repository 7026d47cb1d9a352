use Rattle.std.proofs.Common.{◌≡◌, true, false, get_or, Contains, sym, subst, arith, inl, inr}
use Rattle.std.proofs.lemmas.Bool.{cases_lt}
use Rattle.std.proofs.lemmas.List.{get_or_default}
use Rattle.std.proofs.lemmas.List.Elements.{All-weaker}
use Rattle.circuit_meaning.specs.Need.{children}
use Rattle.journal_meaning.specs.Answers.{IsCovered}
use Rattle.plan_machine.specs.Standings.{IsVisited}
use Rattle.plan_core.specs.asked.Memos.{entries_of}
use Rattle.query_answers.specs.asking.inner.AskedMemos.{GoesOnAsking}
use Rattle.query_answers.proofs.AskedOn.{asking-stays, asking-then, asking-covers}
use Rattle.query_answers.proofs.windows.visits.settle_fills.Goals as goal

pub loop-p-init : goal.loop-p-init
loop-p-init g c = record {
  visited = λ k d low. absurd (omega arith);
  asks = asking-stays g.B.BatchName.batch g.B.BatchName.opening c.args.asking.now;
}

pub settle_children-requires-clause-known : goal.settle_children-requires-clause-known
settle_children-requires-clause-known g c = subst (Contains g.B.BatchName.batch.queries) (sym c.loop-p.invariant.asks.query) c.requires.known

pub returns-then-branch-clause-asks : goal.returns-then-branch-clause-asks
returns-then-branch-clause-asks g c =
    let b = g.B.BatchName.batch in
    let new = c.settle_children.new.asking in
    asking-then b g.B.BatchName.opening c.args.asking.now c.loop-p.asking new true c.loop-p.invariant.asks
    (subst (GoesOnAsking b g.B.BatchName.opening c.loop-p.asking new) c.if-branch.true c.in_ok-settle_children.ensures.asks)

pub loop-p-preserved : goal.loop-p-preserved
loop-p-preserved g c =
    let b = g.B.BatchName.batch in
    let mid = c.loop-p.asking in
    let new = c.settle_children.new.asking in
    let more = subst (GoesOnAsking b g.B.BatchName.opening mid new) c.if-branch.false c.in_ok-settle_children.ensures.asks in
    record {
      visited = λ k d low. elim (cases_lt k c.loop-p.p-index) [
        | inl l ↦
            let p = get_or c.args.fills.now k d in
            All-weaker (IsCovered b.circuit (entries_of mid.memo)) (IsCovered b.circuit (entries_of new.memo)) (asking-covers b g.B.BatchName.opening mid new false more) (children b.circuit p.signal p.time) (c.loop-p.invariant.visited k d l)
        | inr l ↦
            let e : k ≡ c.loop-p.p-index = omega arith in
            subst (λ j. IsVisited b.circuit (entries_of new.memo) (get_or c.args.fills.now j d)) (sym e)
            (subst (IsVisited b.circuit (entries_of new.memo)) (get_or_default c.args.fills.now c.loop-p.p-index _ d c.loop-p-test.true) (c.in_ok-settle_children.ensures.visited c.if-branch.false))
      ];
      asks = asking-then b g.B.BatchName.opening c.args.asking.now mid new false c.loop-p.invariant.asks more;
    }

pub returns-clause-visited : goal.returns-clause-visited
returns-clause-visited g c = λ e k d low. c.loop-p.invariant.visited k d (let t = c.loop-p-test.false in omega arith)
