use Rattle.std.proofs.Common.{◌≡◌, ◌+◌, ◌<◌, ◌≤◌, OnSome, refl, sym, ap, subst, ◌∙◌, arith}
use Rattle.valid_intervals.specs.declared.Cell.{Cell}
use Rattle.circuit_meaning.specs.Cells.{cell_at, span}
use Rattle.circuit_meaning.specs.Forward.{wave}
use Rattle.circuit_meaning.specs.Need.{IsRoot}
use Rattle.circuit_meaning.proofs.Callers.{held-fits}
use Rattle.journal_meaning.specs.Batches.{Batch, window_of}
use Rattle.session_meaning.specs.StuckSignals.{stuck_circuit, IsCoveredBy}
use Rattle.plan_machine.specs.Settle.{charge_of, root_start}
use Rattle.plan_machine.proofs.Callers.{right-of}
use Rattle.plan_core.specs.Parts.{shards_in}
use Rattle.plan_core.specs.asked.Memos.{at_time, entries_of, is_missing}
use Rattle.plan_core.proofs.Callers.{some-of}
use Rattle.query_answers.specs.stuck.Asks.{HearsRoot, Nothing, Root}
use Rattle.design.specs.Joined.{Joined}
use Rattle.query_answers.specs.stuck.inner.Both.{IsAsked, Rests, site_in}
use Rattle.query_answers.proofs.Held.{window-within}
use Rattle.query_answers.proofs.Resting.{rests-fed}
use Rattle.query_answers.proofs.Steps.{extends-kept}
use Rattle.query_answers.proofs.StuckWalks.{AreRight, own-right, begins-walking, ends-later, goes-on, ends-closed}
use Rattle.query_answers.proofs.stuck.wave.walk.Goals as goal

pub cells-init : goal.cells-init
cells-init g c =
    let b = g.B.BatchName.batch in
    let lawful = c.requires.asked.lawful in
    let question = c.args.question in
    record {
      query = refl;
      rests = c.requires.rests;
      walking = begins-walking b.circuit lawful.circuit question (window-within b lawful question.query c.requires.asked.queries) (entries_of c.args.memos.now.session.memo) c.args.memos.now.own.shard.journal c.new-walk.result
          c.new-walk.ensures.start c.new-walk.ensures.stop c.new-walk.ensures.time (c.new-walk.ensures.walked (stuck_circuit b.circuit (site_in question)) question.query.signal);
      asks = Nothing;
      design = refl;
    }

-- the design is the same
pub hear_root-requires-clause-asked : goal.hear_root-requires-clause-asked
hear_root-requires-clause-asked g c =
    subst (λ (d : Joined). IsAsked g.B.BatchName.batch g.H.BatchName.batch c.args.question d.circuit c.args.held.design.now.circuit) (sym c.cells.invariant.design) c.requires.asked

pub cells-smaller : goal.cells-smaller
cells-smaller g c =
    let b = g.B.BatchName.batch in
    let lawful = c.requires.asked.lawful in
    let question = c.args.question in
    let q = question.query in
    let d = stuck_circuit b.circuit (site_in question) in
    let t = c.in-Some.time in
    let right : c.in-Some-2.cell ≡ cell_at d (at_time q t) = some-of (λ (x : Cell). x ≡ cell_at d (at_time q t)) c.in_ok-cell.field-0 c.in-Some-2.cell c.in_ok-cell.ensures.cell c.in-Some-2.is in
    let here : t ≡ c.cells.walk.time = c.in-Some.ensures.some.0 in
    let before : t < q.to = subst (λ n. t < n) c.cells.invariant.walking.stop c.in-Some.ensures.some.1 in
    let later : t < (span d q.signal t).stop = ends-later b.circuit lawful.circuit question (window-within b lawful q c.requires.asked.queries) t before in
    let end : c.push.new.self.time ≡ (span d q.signal t).stop = c.in_ok-push.ensures.time ∙ ap (λ (x : Cell). x.span.stop) right in
    omega (arith, here, before, later, end)

pub cells-preserved : goal.cells-preserved
cells-preserved g c =
    let b = g.B.BatchName.batch in
    let lawful = c.requires.asked.lawful in
    let question = c.args.question in
    let q = question.query in
    let site = site_in question in
    let d = stuck_circuit b.circuit site in
    let es = entries_of c.hear_root.new.memos.session.memo in
    let own = c.hear_root.new.memos.own.shard.journal in
    let was = c.cells.memos.own.shard.journal in
    let t = c.cells.walk.time in
    let here : c.in-Some.time ≡ t = c.in-Some.ensures.some.0 in
    let told : c.in-Some-2.cell ≡ cell_at d (at_time q c.in-Some.time) = some-of (λ (x : Cell). x ≡ cell_at d (at_time q c.in-Some.time)) c.in_ok-cell.field-0 c.in-Some-2.cell c.in_ok-cell.ensures.cell c.in-Some-2.is in
    let right : c.in-Some-2.cell ≡ cell_at d (at_time q t) = subst (λ u. c.in-Some-2.cell ≡ cell_at d (at_time q u)) here told in
    let covered : IsCoveredBy b.circuit site es own (at_time q t) =
    subst (λ u. IsCoveredBy b.circuit site es own (at_time q u)) here (subst (λ o. OnSome o (IsCoveredBy b.circuit site es own (at_time q c.in-Some.time))) c.in-Some-2.is c.in_ok-cell.ensures.covered) in
    let before : t < q.to = subst (λ n. t < n) c.cells.invariant.walking.stop (subst (λ u. u < c.cells.walk.stop) here c.in-Some.ensures.some.1) in
    let own_right : AreRight d own = subst (λ (x : Batch). AreRight x.circuit own) c.requires.asked.own_is (own-right g.H.BatchName.batch g.H.BatchName.opening c.hear_root.new.memos.own c.facts.ensures) in
    let rests = subst (λ o. OnSome o (Rests b g.B.BatchName.opening question c.hear_root.new.memos.session.memo c.hear_root.new.memos.own c.hear_root.new.memos.filled)) c.in-Some-2.is c.in_ok-cell.ensures.rests in
    record {
      query = c.hear_root.ensures.query ∙ c.cells.invariant.query;
      rests = rests;
      walking = goes-on b.circuit lawful.circuit question (window-within b lawful q c.requires.asked.queries) (entries_of c.cells.memos.session.memo) es c.cells.memos.own.shard.journal own c.in_ok-cell.ensures.kept_session (extends-kept c.cells.memos.own.shard.journal own c.in_ok-cell.ensures.extends)
          (right-of b lawful g.B.BatchName.opening (shards_in c.hear_root.new.memos.session.memo) rests.stands.fresh) own_right c.cells.walk c.push.new.self c.cells.invariant.walking before covered
          c.in_ok-push.ensures.start c.in_ok-push.ensures.stop (c.in_ok-push.ensures.time ∙ ap (λ (x : Cell). x.span.stop) right) (c.in_ok-push.ensures.walked d q.signal c.cells.invariant.walking.walked right);
      asks = Root c.cells.invariant.asks c.in-Some.time (subst (IsRoot d (window_of q)) (sym here) (c.cells.invariant.walking.root before))
          (subst (λ o. HearsRoot b g.B.BatchName.opening site (root_start q c.in-Some.time (charge_of was q)) (shards_in c.cells.memos.session.memo) was (shards_in c.hear_root.new.memos.session.memo) own (is_missing o)) c.in-Some-2.is c.in_ok-cell.ensures.asks);
      design = c.hear_root.ensures.design ∙ c.cells.invariant.design;
    }

pub returns-clause-outcome : goal.returns-clause-outcome
returns-clause-outcome g c =
    let b = g.B.BatchName.batch in
    let lawful = c.requires.asked.lawful in
    let question = c.args.question in
    let q = question.query in
    let walking = c.cells.invariant.walking in
    let walk = c.cells.walk in
    let within = window-within b lawful q c.requires.asked.queries in
    let d = stuck_circuit b.circuit (site_in question) in
    let end : q.to ≤ walk.time = subst (λ n. n ≤ walk.time) walking.stop c.in_default.ensures.none in
    let stop : walk.stop ≤ b.circuit.horizon + 1 = subst (λ n. n ≤ b.circuit.horizon + 1) (sym walking.stop) within in
    let runs : c.into_runs.result ≡ wave d q.signal walk.start walk.stop =
    c.into_runs.ensures.wave d q.signal (held-fits b.circuit question.site question.value lawful.circuit) walking.walked c.in_default.ensures.none stop in (
      runs ∙ ap (λ n. wave d q.signal n walk.stop) walking.start ∙ ap (wave d q.signal q.from) walking.stop,
      ends-closed b.circuit lawful.circuit question within (entries_of c.cells.memos.session.memo) c.cells.memos.own.shard.journal walk walking end (rests-fed b g.B.BatchName.opening question c.cells.memos.session.memo c.cells.memos.own c.cells.memos.filled c.cells.invariant.rests),
    )

pub returns-in_default-2-clause-asks : goal.returns-in_default-2-clause-asks
returns-in_default-2-clause-asks g c =
    let b = g.B.BatchName.batch in
    let question = c.args.question in
    let q = question.query in
    let site = site_in question in
    let d = stuck_circuit b.circuit site in
    let was = c.cells.memos.own.shard.journal in
    let t = c.in-Some.time in
    let here : t ≡ c.cells.walk.time = c.in-Some.ensures.some.0 in
    let before : c.cells.walk.time < q.to = subst (λ n. c.cells.walk.time < n) c.cells.invariant.walking.stop (subst (λ u. u < c.cells.walk.stop) here c.in-Some.ensures.some.1) in
    Root c.cells.invariant.asks t (subst (IsRoot d (window_of q)) (sym here) (c.cells.invariant.walking.root before))
    (subst (λ o. HearsRoot b g.B.BatchName.opening site (root_start q t (charge_of was q)) (shards_in c.cells.memos.session.memo) was (shards_in c.hear_root.new.memos.session.memo) c.hear_root.new.memos.own.shard.journal (is_missing o)) c.in_default-2.is c.in_ok-cell.ensures.asks)
