use Rattle.std.proofs.Common.{◌≡◌, ◌<◌, true, false, sym, ap, subst, ◌∙◌, arith}
use Rattle.gate_values.specs.Gates.{same_value}
use Rattle.valid_intervals.specs.declared.Cell.{Cell}
use Rattle.circuit_meaning.specs.Cells.{span, cell_at, point_at}
use Rattle.circuit_meaning.proofs.Callers.{cell-covers}
use Rattle.session_meaning.specs.FirstTimes.{up_to_first}
use Rattle.plan_machine.specs.Settle.{charge_of, child_start}
use Rattle.plan_core.specs.Parts.{shards_in}
use Rattle.plan_core.specs.asked.Memos.{entries_of, is_missing}
use Rattle.plan_core.specs.asked.Asked.{HasAsked, AsksOn, Nothing}
use Rattle.plan_core.proofs.Callers.{some-of}
use Rattle.query_answers.specs.asking.inner.AskedMemos.{AskedMemo}
use Rattle.query_answers.proofs.AskedOn.{asked-by, starts-by}
use Rattle.query_answers.proofs.Finding.{goes-on, has}
use Rattle.query_answers.proofs.Walks.{IsWalking, begins, in-circuit, in-time, root-start, asks-more, journals-of-reach, goes-by, ends-here, ends-refused, ends-never}
use Rattle.query_answers.proofs.first_times.firsts.walk.Goals as goal

pub turn_to-requires : goal.turn_to-requires
turn_to-requires g c = rw c.requires.unused (omega arith)

pub cells-init : goal.cells-init
cells-init g c =
    let b = g.B.BatchName.batch in
    let ms = c.args.asking.now.memo in
    let until = up_to_first b.circuit c.args.query c.args.value in
    record {
      query = ap (λ (a : AskedMemo). a.query) c.turn_to.ensures.turned;
      walking = subst (λ (a : AskedMemo). IsWalking b g.B.BatchName.opening c.args.query c.args.value ms a.memo c.args.query.from) (sym c.turn_to.ensures.turned)
          (begins g.B.BatchName.batch c.facts.ensures.lawful g.B.BatchName.opening c.args.query c.args.value c.requires.queries ms c.in_ok-turn_to.ensures.free c.requires.unused);
      asks = subst (λ (a : AskedMemo). AsksOn b g.B.BatchName.opening until (shards_in ms) false (shards_in a.memo) false) (sym c.turn_to.ensures.turned) Nothing;
    }

pub cell-requires-clause-point : goal.cell-requires-clause-point
cell-requires-clause-point g c = record {
  signal = in-circuit g.B.BatchName.batch c.facts.ensures.lawful g.B.BatchName.opening c.args.query c.args.value c.requires.queries;
  time = in-time g.B.BatchName.batch c.facts.ensures.lawful g.B.BatchName.opening c.args.query c.args.value c.requires.queries c.cells.time c.cells.invariant.walking.none c.cells-test.true;
}

pub cell-requires-clause-start : goal.cell-requires-clause-start
cell-requires-clause-start g c = λ e.
    let b = g.B.BatchName.batch in
    let q = c.args.query in
    let k = c.cells.invariant.walking in
    let root = k.root (goes-on b.circuit q c.args.value c.cells.time k.none c.cells-test.true) in
    starts-by b g.B.BatchName.opening c.cells.asking (point_at q.signal c.cells.time) q c.cells.invariant.query
    (root-start g.B.BatchName.batch c.facts.ensures.lawful g.B.BatchName.opening c.args.query c.args.value c.requires.queries c.requires.site c.cells.time (entries_of c.cells.asking.memo) root e)

pub returns-in_default-clause-journals : goal.returns-in_default-clause-journals
returns-in_default-clause-journals g c =
    let q = c.args.query in
    let mid = c.cells.asking in
    let new = c.cell.new.self in
    let h = asked-by g.B.BatchName.batch g.B.BatchName.opening mid (shards_in new.memo) (is_missing c.in_ok-cell.field-0) (point_at q.signal c.cells.time) q c.cells.invariant.query c.in_ok-cell.ensures.asked in
    journals-of-reach g.B.BatchName.batch c.facts.ensures.lawful g.B.BatchName.opening c.args.query c.args.value c.requires.queries c.args.asking.now.memo mid.memo new.memo c.cells.time c.cells.invariant.walking c.cells-test.true (is_missing c.in_ok-cell.field-0) h

pub returns-then-is_same-clause-journals : goal.returns-then-is_same-clause-journals
returns-then-is_same-clause-journals g c =
    let q = c.args.query in
    let mid = c.cells.asking in
    let new = c.cell.new.self in
    let h = asked-by g.B.BatchName.batch g.B.BatchName.opening mid (shards_in new.memo) (is_missing c.in_ok-cell.field-0) (point_at q.signal c.cells.time) q c.cells.invariant.query c.in_ok-cell.ensures.asked in
    journals-of-reach g.B.BatchName.batch c.facts.ensures.lawful g.B.BatchName.opening c.args.query c.args.value c.requires.queries c.args.asking.now.memo mid.memo new.memo c.cells.time c.cells.invariant.walking c.cells-test.true (is_missing c.in_ok-cell.field-0) h

pub returns-then-is_same-clause-outcome : goal.returns-then-is_same-clause-outcome
returns-then-is_same-clause-outcome g c =
    let b = g.B.BatchName.batch in
    let t = c.cells.time in
    let q = c.args.query in
    let w = c.args.value in
    let k = c.cells.invariant.walking in
    let first = c.args.asking.now.memo in
    let mid = c.cells.asking in
    let new = c.cell.new.self in
    let h = subst (λ o. HasAsked b g.B.BatchName.opening (child_start q (point_at q.signal t) (charge_of (entries_of mid.memo) q)) (shards_in mid.memo) (shards_in new.memo) (is_missing o)) c.in-Some.is
    (asked-by b g.B.BatchName.opening mid (shards_in new.memo) (is_missing c.in_ok-cell.field-0) (point_at q.signal t) q c.cells.invariant.query c.in_ok-cell.ensures.asked) in
    let right : c.in-Some.cell ≡ cell_at b.circuit (point_at q.signal t) = some-of (λ (x : Cell). x ≡ cell_at b.circuit (point_at q.signal t)) c.in_ok-cell.field-0 c.in-Some.cell c.in_ok-cell.ensures.cell c.in-Some.is in
    let is : has b.circuit q w t ≡ true = ap (λ (x : Cell). same_value x.value w) (sym right) ∙ sym c.is_same.ensures ∙ c.if-is_same.true in
    ends-here g.B.BatchName.batch c.facts.ensures.lawful g.B.BatchName.opening c.args.query c.args.value c.requires.queries first mid.memo new.memo t k c.cells-test.true h is

pub returns-in_default-clause-outcome : goal.returns-in_default-clause-outcome
returns-in_default-clause-outcome g c =
    let b = g.B.BatchName.batch in
    let t = c.cells.time in
    let q = c.args.query in
    let w = c.args.value in
    let k = c.cells.invariant.walking in
    let first = c.args.asking.now.memo in
    let mid = c.cells.asking in
    let new = c.cell.new.self in
    let h = subst (λ o. HasAsked b g.B.BatchName.opening (child_start q (point_at q.signal t) (charge_of (entries_of mid.memo) q)) (shards_in mid.memo) (shards_in new.memo) (is_missing o)) c.in_default.is
    (asked-by b g.B.BatchName.opening mid (shards_in new.memo) (is_missing c.in_ok-cell.field-0) (point_at q.signal t) q c.cells.invariant.query c.in_ok-cell.ensures.asked) in
    ends-refused g.B.BatchName.batch c.facts.ensures.lawful g.B.BatchName.opening c.args.query c.args.value c.requires.queries first mid.memo new.memo t k c.cells-test.true h

pub returns-in_default-clause-asks : goal.returns-in_default-clause-asks
returns-in_default-clause-asks g c =
    let b = g.B.BatchName.batch in
    let t = c.cells.time in
    let q = c.args.query in
    let w = c.args.value in
    let k = c.cells.invariant.walking in
    let first = c.args.asking.now.memo in
    let mid = c.cells.asking in
    let new = c.cell.new.self in
    let h = subst (λ o. HasAsked b g.B.BatchName.opening (child_start q (point_at q.signal t) (charge_of (entries_of mid.memo) q)) (shards_in mid.memo) (shards_in new.memo) (is_missing o)) c.in_default.is
    (asked-by b g.B.BatchName.opening mid (shards_in new.memo) (is_missing c.in_ok-cell.field-0) (point_at q.signal t) q c.cells.invariant.query c.in_ok-cell.ensures.asked) in
    asks-more g.B.BatchName.batch c.facts.ensures.lawful g.B.BatchName.opening c.args.query c.args.value c.requires.queries c.requires.site first mid.memo new.memo t true (k.root (goes-on b.circuit q w t k.none c.cells-test.true)) c.cells.invariant.asks h

pub returns-then-is_same-clause-asks : goal.returns-then-is_same-clause-asks
returns-then-is_same-clause-asks g c =
    let b = g.B.BatchName.batch in
    let t = c.cells.time in
    let q = c.args.query in
    let w = c.args.value in
    let k = c.cells.invariant.walking in
    let first = c.args.asking.now.memo in
    let mid = c.cells.asking in
    let new = c.cell.new.self in
    let h = subst (λ o. HasAsked b g.B.BatchName.opening (child_start q (point_at q.signal t) (charge_of (entries_of mid.memo) q)) (shards_in mid.memo) (shards_in new.memo) (is_missing o)) c.in-Some.is
    (asked-by b g.B.BatchName.opening mid (shards_in new.memo) (is_missing c.in_ok-cell.field-0) (point_at q.signal t) q c.cells.invariant.query c.in_ok-cell.ensures.asked) in
    asks-more g.B.BatchName.batch c.facts.ensures.lawful g.B.BatchName.opening c.args.query c.args.value c.requires.queries c.requires.site first mid.memo new.memo t false (k.root (goes-on b.circuit q w t k.none c.cells-test.true)) c.cells.invariant.asks h

pub cells-smaller : goal.cells-smaller
cells-smaller g c =
    let b = g.B.BatchName.batch in
    let t = c.cells.time in
    let q = c.args.query in
    let right : c.in-Some.cell ≡ cell_at b.circuit (point_at q.signal t) = some-of (λ (x : Cell). x ≡ cell_at b.circuit (point_at q.signal t)) c.in_ok-cell.field-0 c.in-Some.cell c.in_ok-cell.ensures.cell c.in-Some.is in
    let low = in-time g.B.BatchName.batch c.facts.ensures.lawful g.B.BatchName.opening c.args.query c.args.value c.requires.queries t c.cells.invariant.walking.none c.cells-test.true in
    let later : t < (span b.circuit q.signal t).stop = (cell-covers b.circuit c.facts.ensures.lawful.circuit t q.signal low).inside.high in
    let end : c.end-time.result ≡ (span b.circuit q.signal t).stop = c.end-time.ensures.end ∙ ap (λ (x : Cell). x.span.stop) right in
    let before = c.cells-test.true in
    omega (arith, later, end, before)

pub cells-preserved : goal.cells-preserved
cells-preserved g c =
    let b = g.B.BatchName.batch in
    let t = c.cells.time in
    let q = c.args.query in
    let w = c.args.value in
    let k = c.cells.invariant.walking in
    let first = c.args.asking.now.memo in
    let mid = c.cells.asking in
    let new = c.cell.new.self in
    let h = subst (λ o. HasAsked b g.B.BatchName.opening (child_start q (point_at q.signal t) (charge_of (entries_of mid.memo) q)) (shards_in mid.memo) (shards_in new.memo) (is_missing o)) c.in-Some.is
    (asked-by b g.B.BatchName.opening mid (shards_in new.memo) (is_missing c.in_ok-cell.field-0) (point_at q.signal t) q c.cells.invariant.query c.in_ok-cell.ensures.asked) in
    let right : c.in-Some.cell ≡ cell_at b.circuit (point_at q.signal t) = some-of (λ (x : Cell). x ≡ cell_at b.circuit (point_at q.signal t)) c.in_ok-cell.field-0 c.in-Some.cell c.in_ok-cell.ensures.cell c.in-Some.is in
    let end : c.end-time.result ≡ (span b.circuit q.signal t).stop = c.end-time.ensures.end ∙ ap (λ (x : Cell). x.span.stop) right in
    let other : has b.circuit q w t ≡ false = ap (λ (x : Cell). same_value x.value w) (sym right) ∙ sym c.is_same.ensures ∙ c.if-is_same.false in
    record {
      query = c.cell.ensures.query ∙ c.cells.invariant.query;
      walking = subst (IsWalking b g.B.BatchName.opening q w first new.memo) (sym end) (goes-by g.B.BatchName.batch c.facts.ensures.lawful g.B.BatchName.opening c.args.query c.args.value c.requires.queries first mid.memo new.memo t k c.cells-test.true h other);
      asks = asks-more g.B.BatchName.batch c.facts.ensures.lawful g.B.BatchName.opening c.args.query c.args.value c.requires.queries c.requires.site first mid.memo new.memo t false (k.root (goes-on b.circuit q w t k.none c.cells-test.true)) c.cells.invariant.asks h;
    }

pub returns-clause-outcome : goal.returns-clause-outcome
returns-clause-outcome g c = ends-never g.B.BatchName.batch c.facts.ensures.lawful g.B.BatchName.opening c.args.query c.args.value c.requires.queries c.args.asking.now.memo c.cells.asking.memo c.cells.time c.cells.invariant.walking (let n = c.cells-test.false in omega arith)
