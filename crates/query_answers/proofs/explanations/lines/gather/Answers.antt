use Rattle.std.proofs.Common.{◌≡◌, ◌<◌, ◌≤◌, ◌∷◌, true, false, List, [], Contains, length, reverse, sym, ap, subst}
use Rattle.std.specs.BTreeMap.{get}
use Rattle.valid_intervals.specs.declared.Point.{Point}
use Rattle.valid_intervals.specs.declared.SignalCell.{SignalCell}
use Rattle.circuit_meaning.specs.Circuit.{Circuit}
use Rattle.plan_machine.proofs.Callers.{contains-none}
use Rattle.journal_meaning.specs.declared.batch.Query.{Query}
use Rattle.journal_meaning.specs.Batches.{IsNeededBy}
use Rattle.design.specs.PinWalks.{IsPoint, looked_at}
use Rattle.plan_core.specs.asked.Memos.{entries_of}
use Rattle.query_answers.specs.asking.inner.AskedMemos.{GoesOnAsking}
use Rattle.query_answers.specs.explanations.inner.Waiting.{place_cmp, line_of, point_of}
use Rattle.query_answers.specs.explanations.inner.Gathered.{Notes, AreGathered, AreSourcesKept, AreExplained, rank}
use Rattle.query_answers.proofs.AskedOn.{asking-stays, asking-then, asking-grows}
use Rattle.query_answers.proofs.Gathering.{taken-first, wanted-point, steps, takes-less}
use Rattle.query_answers.proofs.Following.{explained}
use Rattle.query_answers.proofs.explanations.lines.gather.Goals as goal

pub cells-init : goal.cells-init
cells-init g c =
    let b = g.B.BatchName.batch in
    let q = c.args.asking.now.query in
    let none : c.new-lines.result.items ≡ [] = c.new-lines.ensures.items in
    record {
      gathered = subst (λ (l : List SignalCell). AreGathered b q (entries_of c.args.asking.now.memo) (reverse l) (get place_cmp c.args.waiting.cells)) (sym none) c.requires.gathered;
      sources = λ x h. absurd (contains-none x (reverse c.new-lines.result.items) (ap reverse none) h);
      asks = asking-stays b g.B.BatchName.opening c.args.asking.now;
    }

pub ask_children-requires-clause-point : goal.ask_children-requires-clause-point
ask_children-requires-clause-point g c =
    let b = g.B.BatchName.batch in
    let t = c.in-Some.ensures.some in
    subst (IsPoint b.circuit) (sym c.point-point.ensures) (wanted-point b c.facts.ensures.lawful c.args.asking.now.query c.requires.known (entries_of c.cells.asking.memo) c.in-Some.asked (c.cells.invariant.gathered.waiting t.place c.in-Some.asked t.was))

pub ask_children-requires-clause-known : goal.ask_children-requires-clause-known
ask_children-requires-clause-known g c = subst (Contains g.B.BatchName.batch.queries) (sym c.cells.invariant.asks.query) c.requires.known

pub ask_children-requires-clause-needed : goal.ask_children-requires-clause-needed
ask_children-requires-clause-needed g c =
    let b = g.B.BatchName.batch in
    let t = c.in-Some.ensures.some in
    subst (λ (q : Query). IsNeededBy b q c.point-point.result) (sym c.cells.invariant.asks.query)
    (subst (IsNeededBy b c.args.asking.now.query) (sym c.point-point.ensures) (c.cells.invariant.gathered.waiting t.place c.in-Some.asked t.was).needed)

pub cells-smaller : goal.cells-smaller
cells-smaller g c =
    let b = g.B.BatchName.batch in
    let xs = c.cells.lines.items in
    let line : SignalCell = line_of c.in-Some.asked in
    let more : reverse c.push.new.self.items ≡ line ∷ reverse xs = taken-first xs c.push.new.self.items c.line.result line c.in_ok-push.ensures.items c.line.ensures in
    let limit : length b.circuit.drivers ≤ 1048576 = subst (λ (d : Circuit). length d.drivers ≤ 1048576) c.design-design.ensures c.facts-2.ensures.limits.signals in
    subst (λ (l : List SignalCell). rank b.circuit.horizon l < rank b.circuit.horizon (reverse xs)) (sym more)
    (takes-less b c.facts.ensures.lawful c.args.asking.now.query c.requires.known (entries_of c.cells.asking.memo) (reverse xs) (get place_cmp c.cells.waiting.cells) (get place_cmp c.take_last.new.self.cells) c.in-Some.asked c.cells.invariant.gathered c.in-Some.ensures.some limit)

pub cells-preserved : goal.cells-preserved
cells-preserved g c =
    let b = g.B.BatchName.batch in
    let q = c.args.asking.now.query in
    let xs = c.cells.lines.items in
    let asked = c.in-Some.asked in
    let line : SignalCell = line_of asked in
    let mid = c.cells.asking in
    let new = c.ask_children.new.asking in
    let now = get place_cmp c.take_last.new.self.cells in
    let after = get place_cmp c.ask_children.new.waiting.cells in
    let more : reverse c.push.new.self.items ≡ line ∷ reverse xs = taken-first xs c.push.new.self.items c.line.result line c.in_ok-push.ensures.items c.line.ensures in
    let notes : Notes b.circuit (entries_of new.memo) now after (looked_at b.circuit (point_of asked)) =
    subst (λ (p : Point). Notes b.circuit (entries_of new.memo) now after (looked_at b.circuit p)) c.point-point.ensures (c.in_ok-ask_children.ensures.notes c.if-branch.false) in
    let on = subst (GoesOnAsking b g.B.BatchName.opening mid new) c.if-branch.false c.in_ok-ask_children.ensures.asks in
    let step = steps b c.facts.ensures.lawful q c.requires.known (entries_of mid.memo) (entries_of new.memo) (asking-grows b g.B.BatchName.opening mid new false on) (reverse xs) (get place_cmp c.cells.waiting.cells) now after asked c.cells.invariant.gathered c.cells.invariant.sources c.in-Some.ensures.some notes in
    record {
      gathered = subst (λ (l : List SignalCell). AreGathered b q (entries_of new.memo) l after) (sym more) step.gathered;
      sources = subst (λ (l : List SignalCell). (x : SignalCell) → Contains l x → AreSourcesKept b.circuit l after x) (sym more) step.sources;
      asks = asking-then b g.B.BatchName.opening c.args.asking.now mid new false c.cells.invariant.asks on;
    }

pub returns-clause-lines : goal.returns-clause-lines
returns-clause-lines g c =
    let b = g.B.BatchName.batch in
    let q = c.args.asking.now.query in
    let es = entries_of c.cells.asking.memo in
    let k = c.cells.invariant in
    subst (AreExplained b.circuit es q) (sym {A = List SignalCell} c.reverse.ensures.items)
    (explained b c.facts.ensures.lawful q c.requires.known es (reverse c.cells.lines.items) (get place_cmp c.cells.waiting.cells) k.gathered c.in_default.ensures.none k.sources)

pub returns-then-branch-clause-asks : goal.returns-then-branch-clause-asks
returns-then-branch-clause-asks g c =
    let b = g.B.BatchName.batch in
    let mid = c.cells.asking in
    let new = c.ask_children.new.asking in
    asking-then b g.B.BatchName.opening c.args.asking.now mid new true c.cells.invariant.asks (subst (GoesOnAsking b g.B.BatchName.opening mid new) c.if-branch.true c.in_ok-ask_children.ensures.asks)
