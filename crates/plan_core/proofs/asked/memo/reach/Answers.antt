use Rattle.std.proofs.Common.{true, false, OnSome, inl, sym, subst}
use Rattle.circuit_meaning.specs.Circuit.{Circuit}
use Rattle.circuit_meaning.specs.Need.{IsEvaluable}
use Rattle.journal_meaning.specs.Index.{cells_said, IsFound}
use Rattle.plan_core.specs.Parts.{shards_in}
use Rattle.plan_core.specs.asked.Memos.{at_time, asked_at, entries_of}
use Rattle.plan_core.specs.asked.Asked.{HasAsked}
use Rattle.plan_core.proofs.RunsAlone.{covered-found, found-covered, missing-none, none-of}
use Rattle.plan_core.proofs.AskedCells.{known-asked, root-covered}
use Rattle.plan_core.proofs.asked.memo.reach.Goals as goal

pub returns-in-Some-clause-asked : goal.returns-in-Some-clause-asked
returns-in-Some-clause-asked g c =
    let b = g.B.BatchName.batch in
    known-asked b g.B.BatchName.opening c.args.memo.now c.args.query c.args.time c.args.charge.now c.requires.asking
    (inl (subst (λ (d : Circuit). IsEvaluable d c.args.query.signal c.args.time → ⊥) c.design.ensures.circuit c.in-Some.ensures.some))

pub returns-in-Some-2-clause-asked : goal.returns-in-Some-2-clause-asked
returns-in-Some-2-clause-asked g c =
    let b = g.B.BatchName.batch in
    let ms = c.args.memo.now in
    let a = asked_at c.args.query c.args.time c.args.charge.now in
    let h : HasAsked b g.B.BatchName.opening a (shards_in ms) (shards_in ms) false = known-asked b g.B.BatchName.opening ms c.args.query c.args.time c.args.charge.now c.requires.asking (covered-found b (entries_of ms) (at_time c.args.query c.args.time) (subst (λ o. OnSome o (IsFound (cells_said (entries_of ms)) (at_time c.args.query c.args.time))) c.in-Some-2.is c.in_ok-cell.ensures.some)) in
    subst (λ l. HasAsked b g.B.BatchName.opening a (shards_in ms) (shards_in l) false) (sym c.find.ensures.same) h

pub returns-then-branch-clause-asked : goal.returns-then-branch-clause-asked
returns-then-branch-clause-asked g c =
    let b = g.B.BatchName.batch in
    let a = asked_at c.args.query c.args.time c.args.charge.now in
    subst (λ l. HasAsked b g.B.BatchName.opening a (shards_in l) (shards_in c.ask.new.memo) true) c.find.ensures.same
    (subst (HasAsked b g.B.BatchName.opening a (shards_in c.find.new.self) (shards_in c.ask.new.memo)) c.if-branch.true c.in_ok-ask.ensures.asked)

pub returns-clause-asked : goal.returns-clause-asked
returns-clause-asked g c =
    let b = g.B.BatchName.batch in
    let opening = g.B.BatchName.opening in
    let old = c.args.memo.now in
    let new = c.ask.new.memo in
    let x = at_time c.args.query c.args.time in
    let a = asked_at c.args.query c.args.time c.args.charge.now in
    let h : HasAsked b opening a (shards_in old) (shards_in new) false =
    subst (λ l. HasAsked b opening a (shards_in l) (shards_in new) false) c.find.ensures.same
    (subst (HasAsked b opening a (shards_in c.find.new.self) (shards_in new)) c.if-branch.false c.in_ok-ask.ensures.asked) in
    let evaluable : IsEvaluable b.circuit x.signal x.time = subst (λ (d : Circuit). IsEvaluable d x.signal x.time) c.design.ensures.circuit (none-of c.base.result (IsEvaluable c.design.result.now.circuit c.args.query.signal c.args.time) c.base.ensures.none c.in_default.is) in
    let found : IsFound (cells_said (entries_of new)) x = found-covered b (entries_of new) x evaluable (root-covered b opening c.args.query c.args.time c.args.charge.now (shards_in old) (shards_in new) h) in
    missing-none c.find-2.result (IsFound (cells_said (entries_of new)) x) c.find-2.ensures.none found (HasAsked b opening a (shards_in old) (shards_in c.find-2.new.self))
    (subst (λ l. HasAsked b opening a (shards_in old) (shards_in l) false) (sym c.find-2.ensures.same) h)
