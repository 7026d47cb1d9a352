use Rattle.std.proofs.Common.{◌≡◌, ℕ, eqb-true, ◌<◌, true, false, None, get_or, length, Contains, OnSome, sym, ap, subst, ◌∙◌, arith, inl, inr}
use Rattle.std.proofs.lemmas.Bool.{cases_lt}
use Rattle.valid_intervals.specs.declared.Point.{Point}
use Rattle.journal_meaning.specs.declared.batch.Query.{Query}
use Rattle.journal_meaning.specs.Batches.{IsNeededBy}
use Rattle.design.specs.PinWalks.{LooksOn, looked_at, next_point}
use Rattle.plan_core.specs.asked.Memos.{entries_of, is_missing}
use Rattle.plan_core.specs.asked.Sources.{IsSourceCovered}
use Rattle.plan_core.proofs.Callers.{some-of, pins-visited}
use Rattle.query_answers.specs.declared.asking.Looked.{Looked}
use Rattle.query_answers.specs.asking.inner.AskedMemos.{GoesOnAsking}
use Rattle.query_answers.proofs.AskedOn.{asking-stays, asking-then, asking-covers}
use Rattle.query_answers.proofs.Pins.{needed-has, needed-point, source-kept}
use Rattle.query_answers.proofs.windows.visits.settle_children.Goals as goal

pub pins_of-walk-requires-clause-point : goal.pins_of-walk-requires-clause-point
pins_of-walk-requires-clause-point g c = needed-point g.B.BatchName.batch c.facts.ensures.lawful c.args.asking.now.query c.requires.known c.args.p c.requires.needed c.requires.site

pub pins_of-walk-requires-clause-evaluable : goal.pins_of-walk-requires-clause-evaluable
pins_of-walk-requires-clause-evaluable g c = needed-has g.B.BatchName.batch c.facts.ensures.lawful c.args.asking.now.query c.requires.known c.args.p c.requires.needed c.requires.site

pub pins-init : goal.pins-init
pins-init g c = record {
  walk = c.pins_of-walk.ensures.walk;
  point = c.pins_of-walk.ensures.point;
  covered = λ i low. let z = c.pins_of-walk.ensures.looked in absurd (omega arith);
  asks = asking-stays g.B.BatchName.batch g.B.BatchName.opening c.args.asking.now;
}

pub look-requires-clause-known : goal.look-requires-clause-known
look-requires-clause-known g c = subst (Contains g.B.BatchName.batch.queries) (sym c.pins.invariant.asks.query) c.requires.known

pub look-requires-clause-needed : goal.look-requires-clause-needed
look-requires-clause-needed g c =
    let b = g.B.BatchName.batch in
    subst (λ (q : Query). IsNeededBy b q c.pins.walk.point) (sym c.pins.invariant.asks.query) (subst (IsNeededBy b c.args.asking.now.query) (sym c.pins.invariant.point) c.requires.needed)

pub returns-in-None-clause-asks : goal.returns-in-None-clause-asks
returns-in-None-clause-asks g c =
    let b = g.B.BatchName.batch in
    let new = c.look.new.self in
    asking-then b g.B.BatchName.opening c.args.asking.now c.pins.asking new true c.pins.invariant.asks
    (subst (λ o. GoesOnAsking b g.B.BatchName.opening c.pins.asking new (is_missing o)) c.in-None.is c.in_ok-look.ensures.asks)

pub pins-preserved : goal.pins-preserved
pins-preserved g c =
    let b = g.B.BatchName.batch in
    let mid = c.pins.asking in
    let new = c.look.new.self in
    let on = some-of (λ (l : Looked). LooksOn b.circuit c.pins.walk l.walk) c.in_ok-look.field-0 c.in-Some.looked c.in_ok-look.ensures.walk c.in-Some.is in
    let more = subst (λ o. GoesOnAsking b g.B.BatchName.opening mid new (is_missing o)) c.in-Some.is c.in_ok-look.ensures.asks in
    let sources = looked_at b.circuit c.args.p in
    record {
      walk = on.walk;
      point = on.point ∙ c.pins.invariant.point;
      covered = λ i low.
          let e = on.looked in
          elim (cases_lt i c.pins.walk.looked) [
            | inl l ↦ source-kept b.circuit (entries_of mid.memo) (entries_of new.memo) (asking-covers b g.B.BatchName.opening mid new false more) (get_or sources i None) (c.pins.invariant.covered i l)
            | inr l ↦
                let here = subst (λ o. OnSome o (IsSourceCovered b.circuit (entries_of new.memo) (next_point b.circuit c.pins.walk))) c.in-Some.is c.in_ok-look.ensures.covered in
                let same : i ≡ c.pins.walk.looked = omega arith in
                subst (λ j. IsSourceCovered b.circuit (entries_of new.memo) (get_or sources j None)) (sym same)
                (subst (λ (p : Point). IsSourceCovered b.circuit (entries_of new.memo) (get_or (looked_at b.circuit p) c.pins.walk.looked None)) c.pins.invariant.point here)
          ];
      asks = asking-then b g.B.BatchName.opening c.args.asking.now mid new false c.pins.invariant.asks more;
    }

pub returns-clause-visited : goal.returns-clause-visited
returns-clause-visited g c = λ e.
    let b = g.B.BatchName.batch in
    let p = c.args.p in
    let es = entries_of c.pins.asking.memo in
    let d = b.circuit in
    let all = c.pins.invariant.covered in
    let done : c.pins.walk.looked ≡ length (looked_at d c.pins.walk.point) = eqb-true c.pins.walk.looked (length (looked_at d c.pins.walk.point)) (sym (c.is_done.ensures d c.pins.invariant.walk) ∙ c.pins-test.false) in
    let here : length (looked_at d c.pins.walk.point) ≡ length (looked_at d p) = ap (λ (x : Point). length (looked_at d x)) c.pins.invariant.point in
    let each : (i : ℕ) → i < length (looked_at d p) → IsSourceCovered d es (get_or (looked_at d p) i None) = λ i l. all i (omega arith) in
    pins-visited d es p each
