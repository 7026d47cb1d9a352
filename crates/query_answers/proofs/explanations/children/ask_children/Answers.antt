use Rattle.std.proofs.Common.{◌≡◌, ◌∷◌, [], true, false, Option, None, Contains, take, sym, subst, ◌∙◌}
use Rattle.std.specs.BTreeMap.{get}
use Rattle.valid_intervals.specs.declared.Point.{Point}
use Rattle.journal_meaning.specs.declared.batch.Query.{Query}
use Rattle.journal_meaning.specs.Batches.{IsNeededBy}
use Rattle.design.specs.PinWalks.{LooksOn, looked_at, next_point}
use Rattle.plan_core.specs.asked.Memos.{entries_of, is_missing}
use Rattle.plan_core.proofs.Callers.{some-of}
use Rattle.query_answers.specs.declared.asking.Looked.{Looked}
use Rattle.query_answers.specs.asking.inner.AskedMemos.{GoesOnAsking, heard_at}
use Rattle.query_answers.specs.explanations.inner.Waiting.{place_cmp}
use Rattle.query_answers.specs.explanations.inner.Gathered.{Notes}
use Rattle.query_answers.proofs.AskedOn.{asking-stays, asking-then, asking-grows}
use Rattle.query_answers.proofs.Pins.{heard-some, heard-none}
use Rattle.query_answers.proofs.Noting.{notes-none, notes-known, notes-pin}
use Rattle.query_answers.proofs.explanations.children.ask_children.Goals as goal

pub pins-init : goal.pins-init
pins-init g c =
    let b = g.B.BatchName.batch in
    let es = entries_of c.args.asking.now.memo in
    let places = get place_cmp c.args.waiting.now.cells in
    record {
      walk = c.pins_of-walk.ensures.walk;
      point = c.pins_of-walk.ensures.point;
      notes = subst (λ n. Notes b.circuit es places places (take n (looked_at b.circuit c.args.p))) (sym c.pins_of-walk.ensures.looked) (notes-none b.circuit es places);
      asks = asking-stays b g.B.BatchName.opening c.args.asking.now;
    }

pub look-requires-clause-known : goal.look-requires-clause-known
look-requires-clause-known g c = subst (Contains g.B.BatchName.batch.queries) (sym c.pins.invariant.asks.query) c.requires.known

pub look-requires-clause-needed : goal.look-requires-clause-needed
look-requires-clause-needed g c =
    let b = g.B.BatchName.batch in
    subst (λ (q : Query). IsNeededBy b q c.pins.walk.point) (sym c.pins.invariant.asks.query) (subst (IsNeededBy b c.args.asking.now.query) (sym c.pins.invariant.point) c.requires.needed)

pub returns-in_default-clause-asks : goal.returns-in_default-clause-asks
returns-in_default-clause-asks g c =
    let b = g.B.BatchName.batch in
    let mid = c.pins.asking in
    let new = c.look.new.self in
    asking-then b g.B.BatchName.opening c.args.asking.now mid new true c.pins.invariant.asks
    (subst (λ o. GoesOnAsking b g.B.BatchName.opening mid new (is_missing o)) c.in_default.is c.in_ok-next.ensures.asks)

pub pins-preserved-in_ok-note : goal.pins-preserved-in_ok-note
pins-preserved-in_ok-note g c =
    let b = g.B.BatchName.batch in
    let d = b.circuit in
    let opening = g.B.BatchName.opening in
    let mid = c.pins.asking in
    let new = c.look.new.self in
    let walk = c.pins.walk in
    let looked = c.in-Some.field-0 in
    let before = get place_cmp c.pins.waiting.cells in
    let after = get place_cmp c.note.new.waiting.cells in
    let fs = entries_of new.memo in
    let on = some-of (λ (x : Looked). LooksOn d walk x.walk) c.in_ok-next.field-0 looked c.in_ok-next.ensures.walk c.in-Some.is in
    let heard = some-of (λ (x : Looked). x.heard ≡ heard_at d (next_point d walk)) c.in_ok-next.field-0 looked c.in_ok-next.ensures.heard c.in-Some.is in
    let source = (heard-some d (next_point d walk) c.in-Some-heard.source c.in-Some-heard.cell (sym heard ∙ c.in-Some-heard.is)).0 in
    let asks = subst (λ o. GoesOnAsking b opening mid new (is_missing o)) c.in-Some.is c.in_ok-next.ensures.asks in
    record {
      walk = on.walk;
      point = on.point ∙ c.pins.invariant.point;
      notes = notes-pin d (entries_of mid.memo) fs (asking-grows b opening mid new false asks) c.args.p walk looked.walk c.pins.invariant.point on (get place_cmp c.args.waiting.now.cells) before after c.pins.invariant.notes
          (subst (λ (o : Option Point). Notes d fs before after (o ∷ [])) (sym source) c.in_ok-note.ensures);
      asks = asking-then b opening c.args.asking.now mid new false c.pins.invariant.asks asks;
    }

pub pins-preserved : goal.pins-preserved
pins-preserved g c =
    let b = g.B.BatchName.batch in
    let d = b.circuit in
    let opening = g.B.BatchName.opening in
    let mid = c.pins.asking in
    let new = c.look.new.self in
    let walk = c.pins.walk in
    let looked = c.in-Some.field-0 in
    let before = get place_cmp c.pins.waiting.cells in
    let fs = entries_of new.memo in
    let on = some-of (λ (x : Looked). LooksOn d walk x.walk) c.in_ok-next.field-0 looked c.in_ok-next.ensures.walk c.in-Some.is in
    let heard = some-of (λ (x : Looked). x.heard ≡ heard_at d (next_point d walk)) c.in_ok-next.field-0 looked c.in_ok-next.ensures.heard c.in-Some.is in
    let source = heard-none d (next_point d walk) (sym heard ∙ c.in_default-heard.is) in
    let asks = subst (λ o. GoesOnAsking b opening mid new (is_missing o)) c.in-Some.is c.in_ok-next.ensures.asks in
    record {
      walk = on.walk;
      point = on.point ∙ c.pins.invariant.point;
      notes = notes-pin d (entries_of mid.memo) fs (asking-grows b opening mid new false asks) c.args.p walk looked.walk c.pins.invariant.point on (get place_cmp c.args.waiting.now.cells) before before c.pins.invariant.notes
          (subst (λ (o : Option Point). Notes d fs before before (o ∷ [])) (sym source) (notes-known d fs before None tt));
      asks = asking-then b opening c.args.asking.now mid new false c.pins.invariant.asks asks;
    }
