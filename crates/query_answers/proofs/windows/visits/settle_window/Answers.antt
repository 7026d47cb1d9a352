use Rattle.std.proofs.Common.{◌≡◌, ◌<◌, true, false, Contains, refl, sym, ap, subst, ◌∙◌, arith}
use Rattle.valid_intervals.specs.declared.Cell.{Cell}
use Rattle.circuit_meaning.specs.Cells.{span, cell_at}
use Rattle.circuit_meaning.specs.Cells as cells
use Rattle.circuit_meaning.specs.Need.{IsRoot, First, Next}
use Rattle.circuit_meaning.proofs.Callers.{cell-covers}
use Rattle.journal_meaning.specs.declared.batch.Query.{Query}
use Rattle.journal_meaning.specs.Batches.{window_of}
use Rattle.plan_machine.proofs.Callers.{within-of, window-step}
use Rattle.plan_machine.specs.Standings.{IsStanding, Reaches, IsCoveredTo}
use Rattle.plan_core.specs.Parts.{shards_in}
use Rattle.plan_core.specs.asked.Asked.{AsksOn}
use Rattle.plan_core.specs.asked.Memos.{is_missing, at_time}
use Rattle.plan_core.specs.asked.Standings.{live, standing}
use Rattle.plan_core.proofs.Callers.{some-of}
use Rattle.query_answers.specs.asking.inner.AskedMemos.{GoesOnAsking}
use Rattle.query_answers.proofs.AskedOn.{asking-stays, asking-then, asks-advance, root-starts, root-goes-on, root-reached}
use Rattle.query_answers.proofs.windows.visits.settle_window.Goals as goal

pub roots-init : goal.roots-init
roots-init g c =
    let b = g.B.BatchName.batch in
    let q = c.query-q.result in
    let made = c.new-walk.ensures in
    record {
      start = made.start;
      stop = made.stop;
      walked = made.walked b.circuit q.signal;
      root = λ h. subst (IsRoot b.circuit (window_of q)) (sym made.time) (First (let t = made.time in omega arith));
      covered = λ start first s e t low high. let m = made.time in absurd (omega arith);
      asks = asking-stays b g.B.BatchName.opening c.args.asking.now;
    }

pub cell-requires-clause-start : goal.cell-requires-clause-start
cell-requires-clause-start g c =
    let b = g.B.BatchName.batch in
    let opening = g.B.BatchName.opening in
    let q = c.query-q.result in
    let t = c.in-Some.time in
    let i = c.roots.invariant in
    let next = c.in-Some.ensures.some in
    let stop = i.stop in
    let low : t < q.to = omega (arith, next.1, stop) in
    let root : IsRoot b.circuit (window_of q) t = subst (IsRoot b.circuit (window_of q)) (sym next.0) (i.root (omega (arith, low, next.0))) in
    let known : Contains b.queries q = subst (Contains b.queries) (sym c.query-q.ensures) c.requires.known in
    let mid = c.roots.asking in
    let same : mid.query ≡ q = i.asks.query ∙ sym c.query-q.ensures in
    root-starts b c.facts.ensures.lawful opening c.requires.site q known mid same t root

pub returns-in_default-2-clause-asks : goal.returns-in_default-2-clause-asks
returns-in_default-2-clause-asks g c =
    let b = g.B.BatchName.batch in
    let opening = g.B.BatchName.opening in
    let q = c.query-q.result in
    let t = c.in-Some.time in
    let i = c.roots.invariant in
    let next = c.in-Some.ensures.some in
    let stop = i.stop in
    let low : t < q.to = omega (arith, next.1, stop) in
    let root : IsRoot b.circuit (window_of q) t = subst (IsRoot b.circuit (window_of q)) (sym next.0) (i.root (omega (arith, low, next.0))) in
    let known : Contains b.queries q = subst (Contains b.queries) (sym c.query-q.ensures) c.requires.known in
    let mid = c.roots.asking in
    let same : mid.query ≡ q = i.asks.query ∙ sym c.query-q.ensures in
    let new = c.cell.new.self in
    asking-then b opening c.args.asking.now mid new true i.asks
    (subst (λ o. GoesOnAsking b opening mid new (is_missing o)) c.in_default-2.is
    (root-goes-on b c.facts.ensures.lawful opening c.requires.site q known mid same t root new (is_missing c.in_ok-cell.field-0) c.in_ok-cell.ensures.asked c.cell.ensures.query))

pub roots-smaller : goal.roots-smaller
roots-smaller g c =
    let b = g.B.BatchName.batch in
    let q = c.query-q.result in
    let t = c.in-Some.time in
    let next = c.in-Some.ensures.some in
    let stop = c.roots.invariant.stop in
    let w = within-of b c.facts.ensures.lawful q (subst (Contains b.queries) (sym c.query-q.ensures) c.requires.known) in
    let right : c.in-Some-2.cell ≡ cell_at b.circuit (at_time q t) = some-of (λ (x : Cell). x ≡ cell_at b.circuit (at_time q t)) c.in_ok-cell.field-0 c.in-Some-2.cell c.in_ok-cell.ensures.cell c.in-Some-2.is in
    let later : t < (span b.circuit q.signal t).stop = (cell-covers b.circuit c.facts.ensures.lawful.circuit t q.signal (omega (arith, next.0, next.1, stop, w))).inside.high in
    let end : c.push.new.self.time ≡ (span b.circuit q.signal t).stop = c.in_ok-push.ensures.time ∙ ap (λ (x : Cell). x.span.stop) right in
    omega (arith, next.0, next.1, stop, later, end)

pub roots-preserved : goal.roots-preserved
roots-preserved g c =
    let b = g.B.BatchName.batch in
    let opening = g.B.BatchName.opening in
    let q = c.query-q.result in
    let t = c.in-Some.time in
    let i = c.roots.invariant in
    let next = c.in-Some.ensures.some in
    let stop = i.stop in
    let low : t < q.to = omega (arith, next.1, stop) in
    let root : IsRoot b.circuit (window_of q) t = subst (IsRoot b.circuit (window_of q)) (sym next.0) (i.root (omega (arith, low, next.0))) in
    let known : Contains b.queries q = subst (Contains b.queries) (sym c.query-q.ensures) c.requires.known in
    let mid = c.roots.asking in
    let same : mid.query ≡ q = i.asks.query ∙ sym c.query-q.ensures in
    let old = c.args.asking.now in
    let new = c.cell.new.self in
    let lawful = c.facts.ensures.lawful in
    let pushed = c.in_ok-push.ensures in
    let right : c.in-Some-2.cell ≡ cell_at b.circuit (at_time q t) = some-of (λ (x : Cell). x ≡ cell_at b.circuit (at_time q t)) c.in_ok-cell.field-0 c.in-Some-2.cell c.in_ok-cell.ensures.cell c.in-Some-2.is in
    let end : c.push.new.self.time ≡ (span b.circuit q.signal t).stop = pushed.time ∙ ap (λ (x : Cell). x.span.stop) right in
    record {
      start = pushed.start ∙ i.start;
      stop = pushed.stop ∙ i.stop;
      walked = pushed.walked b.circuit q.signal i.walked (subst (λ u. c.in-Some-2.cell ≡ cells.cell_at b.circuit (cells.point_at q.signal u)) next.0 right);
      root = λ h. subst (IsRoot b.circuit (window_of q)) (sym end) (Next root (omega (arith, h, end)));
      covered = λ start first s.
          let was = subst (λ (k : Query). AsksOn b opening k (shards_in old.memo) false (shards_in mid.memo) false) (sym c.query-q.ensures) i.asks.asks in
          let a = asks-advance b lawful opening q start first (shards_in old.memo) false (shards_in mid.memo) false refl was s in
          let one = subst (λ o. Reaches b opening q start first (live mid.memo) (at_time q t) (standing new.memo (is_missing o))) c.in-Some-2.is
          (root-reached b lawful opening c.requires.site q known mid same t root new (is_missing c.in_ok-cell.field-0) c.in_ok-cell.ensures.asked start first a.stands) in
          let before : IsCoveredTo b.circuit q (live mid.memo) t = subst (IsCoveredTo b.circuit q (live mid.memo)) (sym next.0) (i.covered start first s) in
          let w = window-step b lawful opening q known start first (live mid.memo) (standing new.memo false) t low root before one in
          subst (IsCoveredTo b.circuit q (standing new.memo false)) (sym end) w.covered;
      asks = asking-then b opening old mid new false i.asks
          (subst (λ o. GoesOnAsking b opening mid new (is_missing o)) c.in-Some-2.is
          (root-goes-on b lawful opening c.requires.site q known mid same t root new (is_missing c.in_ok-cell.field-0) c.in_ok-cell.ensures.asked c.cell.ensures.query));
    }

pub returns-clause-covered : goal.returns-clause-covered
returns-clause-covered g c = λ start first.
    let b = g.B.BatchName.batch in
    let q = c.query-q.result in
    let stop = c.roots.invariant.stop in
    let n = c.in_default.ensures.none in
    let old = live c.args.asking.now.memo in
    let now = live c.roots.asking.memo in
    let all : IsStanding b g.B.BatchName.opening q start first old → IsCoveredTo b.circuit q now q.to = λ s e t low high. c.roots.invariant.covered start first s e t low (omega (arith, stop, n, high)) in
    subst (λ (k : Query). IsStanding b g.B.BatchName.opening k start first old → IsCoveredTo b.circuit k now k.to) c.query-q.ensures all
