use Rattle.std.proofs.Common.{false, true, refl, ap, sym, subst}
use Rattle.plan_machine.specs.Standings.{IsStanding, IsCoveredTo, SettlesQuery}
use Rattle.plan_core.specs.Parts.{shards_in}
use Rattle.plan_core.specs.asked.Asked.{AsksOn, Nothing}
use Rattle.plan_core.specs.asked.Memos.{is_missing}
use Rattle.plan_core.specs.asked.Standings.{live, standing}
use Rattle.query_answers.specs.asking.inner.AskedMemos.{AskedMemo}
use Rattle.query_answers.proofs.AskedOn.{turned-asking, asks-advance}
use Rattle.query_answers.proofs.Phases.{walks-refused, walk-begins, walks}
use Rattle.query_answers.proofs.windows.answers.answer_one.Goals as goal

pub returns-then-fed-clause-settles : goal.returns-then-fed-clause-settles
returns-then-fed-clause-settles g c = λ start k.
    let b = g.B.BatchName.batch in
    let opening = g.B.BatchName.opening in
    let q = c.args.q in
    let ms = c.args.asking.now.memo in
    subst (λ (a : AskedMemo). SettlesQuery b opening q start (shards_in ms) (standing a.memo true)) (sym c.turn_to.ensures.turned)
    (walks-refused b c.facts.ensures.lawful opening q c.requires.known start ms c.args.fed c.in_ok-turn_to.ensures.free.fresh c.if-fed.true k)

pub returns-then-fed-clause-asks : goal.returns-then-fed-clause-asks
returns-then-fed-clause-asks g c =
    let ss = shards_in c.args.asking.now.memo in
    subst (λ (a : AskedMemo). AsksOn g.B.BatchName.batch g.B.BatchName.opening c.args.q ss c.args.fed.refused (shards_in a.memo) true) (sym c.turn_to.ensures.turned)
    (subst (λ was. AsksOn g.B.BatchName.batch g.B.BatchName.opening c.args.q ss was ss true) (sym c.if-fed.true) Nothing)

pub returns-in-Some-clause-settles : goal.returns-in-Some-clause-settles
returns-in-Some-clause-settles g c = λ start k.
    let b = g.B.BatchName.batch in
    let opening = g.B.BatchName.opening in
    let q = c.args.q in
    let ms = c.args.asking.now.memo in
    let turned = c.turn_to.new.self in
    let new = c.settle_window.new.asking in
    let lawful = c.facts.ensures.lawful in
    let fresh = c.in_ok-turn_to.ensures.free.fresh in
    let on = turned-asking b opening turned ms q c.turn_to.ensures.turned new (is_missing c.in_ok-runs.field-0) false (ap is_missing c.in-Some.is) c.in_ok-runs.ensures.asks in
    let s = walk-begins b lawful opening q c.requires.known start ms c.args.fed fresh c.if-fed.false k in
    let covered : IsStanding b opening q start (shards_in ms) (live ms) → IsCoveredTo b.circuit q (standing new.memo false) q.to =
    subst (λ (a : AskedMemo). IsStanding b opening a.query start (shards_in ms) (live a.memo) → IsCoveredTo b.circuit a.query (standing new.memo false) a.query.to) c.turn_to.ensures.turned
    (λ s. subst (λ r. IsCoveredTo b.circuit turned.query (standing new.memo r) turned.query.to) (ap is_missing c.in-Some.is) (c.in_ok-runs.ensures.covered start (shards_in ms) s)) in
    walks b lawful opening q c.requires.known start ms c.args.fed fresh c.if-fed.false k new.memo false
    (asks-advance b lawful opening q start (shards_in ms) (shards_in ms) false (shards_in new.memo) false refl on.asks s) (covered s)

pub returns-in-Some-clause-asks : goal.returns-in-Some-clause-asks
returns-in-Some-clause-asks g c =
    let b = g.B.BatchName.batch in
    let opening = g.B.BatchName.opening in
    let new = c.settle_window.new.asking in
    let ms = c.args.asking.now.memo in
    let on = turned-asking b opening c.turn_to.new.self ms c.args.q c.turn_to.ensures.turned new (is_missing c.in_ok-runs.field-0) false (ap is_missing c.in-Some.is) c.in_ok-runs.ensures.asks in
    subst (λ was. AsksOn b opening c.args.q (shards_in ms) was (shards_in new.memo) false) (sym c.if-fed.false) on.asks

pub returns-in-None-clause-settles : goal.returns-in-None-clause-settles
returns-in-None-clause-settles g c = λ start k.
    let b = g.B.BatchName.batch in
    let opening = g.B.BatchName.opening in
    let q = c.args.q in
    let ms = c.args.asking.now.memo in
    let turned = c.turn_to.new.self in
    let new = c.settle_window.new.asking in
    let lawful = c.facts.ensures.lawful in
    let fresh = c.in_ok-turn_to.ensures.free.fresh in
    let on = turned-asking b opening turned ms q c.turn_to.ensures.turned new (is_missing c.in_ok-runs.field-0) true (ap is_missing c.in-None.is) c.in_ok-runs.ensures.asks in
    let s = walk-begins b lawful opening q c.requires.known start ms c.args.fed fresh c.if-fed.false k in
    let covered : IsStanding b opening q start (shards_in ms) (live ms) → IsCoveredTo b.circuit q (standing new.memo true) q.to =
    subst (λ (a : AskedMemo). IsStanding b opening a.query start (shards_in ms) (live a.memo) → IsCoveredTo b.circuit a.query (standing new.memo true) a.query.to) c.turn_to.ensures.turned
    (λ s. subst (λ r. IsCoveredTo b.circuit turned.query (standing new.memo r) turned.query.to) (ap is_missing c.in-None.is) (c.in_ok-runs.ensures.covered start (shards_in ms) s)) in
    walks b lawful opening q c.requires.known start ms c.args.fed fresh c.if-fed.false k new.memo true
    (asks-advance b lawful opening q start (shards_in ms) (shards_in ms) false (shards_in new.memo) true refl on.asks s) (covered s)

pub returns-in-None-clause-asks : goal.returns-in-None-clause-asks
returns-in-None-clause-asks g c =
    let b = g.B.BatchName.batch in
    let opening = g.B.BatchName.opening in
    let new = c.settle_window.new.asking in
    let ms = c.args.asking.now.memo in
    let on = turned-asking b opening c.turn_to.new.self ms c.args.q c.turn_to.ensures.turned new (is_missing c.in_ok-runs.field-0) true (ap is_missing c.in-None.is) c.in_ok-runs.ensures.asks in
    subst (λ was. AsksOn b opening c.args.q (shards_in ms) was (shards_in new.memo) true) (sym c.if-fed.false) on.asks
