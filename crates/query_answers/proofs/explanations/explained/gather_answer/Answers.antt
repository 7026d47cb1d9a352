use Rattle.std.proofs.Common.{◌≡◌, true, false, List, [], Contains, refl, ap, sym, subst, arith}
use Rattle.std.specs.BTreeMap.{get}
use Rattle.std.specs.Global.{Vec}
use Rattle.valid_intervals.specs.declared.Cell.{Cell}
use Rattle.valid_intervals.specs.declared.SignalCell.{SignalCell}
use Rattle.circuit_meaning.specs.Cells.{cell_at, point_at}
use Rattle.journal_meaning.specs.declared.batch.Query.{Query}
use Rattle.session_meaning.specs.Explanations.{Explains}
use Rattle.plan_core.specs.asked.Memos.{entries_of, is_missing}
use Rattle.plan_core.proofs.Callers.{some-of}
use Rattle.query_answers.specs.asking.inner.AskedMemos.{GoesOnAsking}
use Rattle.query_answers.specs.explanations.inner.Waiting.{place_cmp}
use Rattle.query_answers.specs.explanations.inner.Gathered.{AreGathered, AreExplained}
use Rattle.query_answers.proofs.Answering.{known, root-point, root-needed, asked-starts, asked-on, asked-covered, answers-proof, answers-budget, journals-grown}
use Rattle.query_answers.proofs.AskedOn.{asking-then, asking-covers}
use Rattle.query_answers.proofs.Gathering.{begins}
use Rattle.query_answers.proofs.explanations.explained.gather_answer.Goals as goal

pub turn_to-requires : goal.turn_to-requires
turn_to-requires g c = rw c.requires.unused (omega arith)

pub cell-requires-clause-point : goal.cell-requires-clause-point
cell-requires-clause-point g c = root-point g.B.BatchName.batch c.facts.ensures.lawful g.B.BatchName.opening c.args.query c.requires.queries c.requires.window

pub cell-requires-clause-start : goal.cell-requires-clause-start
cell-requires-clause-start g c = asked-starts g.B.BatchName.batch c.facts.ensures.lawful g.B.BatchName.opening c.args.query c.requires.queries c.requires.window c.requires.site c.turn_to.new.self c.args.asking.now.memo c.turn_to.ensures.turned

pub note-requires-clause-point : goal.note-requires-clause-point
note-requires-clause-point g c = root-point g.B.BatchName.batch c.facts.ensures.lawful g.B.BatchName.opening c.args.query c.requires.queries c.requires.window

pub note-requires-clause-cell : goal.note-requires-clause-cell
note-requires-clause-cell g c =
    let b = g.B.BatchName.batch in
    let root = point_at c.args.query.signal c.args.query.from in
    some-of (λ (x : Cell). x ≡ cell_at b.circuit root) c.in_ok-cell.field-0 c.in-Some.cell c.in_ok-cell.ensures.cell c.in-Some.is

pub note-requires-clause-covered : goal.note-requires-clause-covered
note-requires-clause-covered g c =
    asked-covered g.B.BatchName.batch c.facts.ensures.lawful g.B.BatchName.opening c.args.query c.requires.queries c.requires.window c.requires.site c.turn_to.new.self c.args.asking.now.memo c.turn_to.ensures.turned c.cell.new.self (is_missing c.in_ok-cell.field-0) c.in_ok-cell.ensures.asked false (ap is_missing c.in-Some.is) refl

pub returns-in_default : goal.returns-in_default
returns-in_default g c =
    let b = g.B.BatchName.batch in
    let opening = g.B.BatchName.opening in
    let q = c.args.query in
    let ms = c.args.asking.now.memo in
    let heard = c.cell.new.self in
    let on = asked-on b c.facts.ensures.lawful opening q c.requires.queries c.requires.window c.requires.site c.turn_to.new.self ms c.turn_to.ensures.turned heard (is_missing c.in_ok-cell.field-0) c.in_ok-cell.ensures.asked true (ap is_missing c.in_default.is) c.cell.ensures.query in
    record {
      journals = journals-grown b c.facts.ensures.lawful opening q c.requires.queries c.requires.window ms c.in_ok-turn_to.ensures.free c.requires.unused heard.memo true on.asks;
      outcome = answers-budget b c.facts.ensures.lawful opening q c.requires.queries c.requires.window ms c.in_ok-turn_to.ensures.free c.requires.unused heard.memo true on.asks refl;
      asks = on.asks;
    }

pub gather-requires-clause-known : goal.gather-requires-clause-known
gather-requires-clause-known g c =
    let b = g.B.BatchName.batch in
    let opening = g.B.BatchName.opening in
    let q = c.args.query in
    let ms = c.args.asking.now.memo in
    let heard = c.cell.new.self in
    let on = asked-on b c.facts.ensures.lawful opening q c.requires.queries c.requires.window c.requires.site c.turn_to.new.self ms c.turn_to.ensures.turned heard (is_missing c.in_ok-cell.field-0) c.in_ok-cell.ensures.asked false (ap is_missing c.in-Some.is) c.cell.ensures.query in
    subst (Contains b.queries) (sym on.query) (known b c.facts.ensures.lawful opening q c.requires.queries c.requires.window)

pub gather-requires-clause-gathered : goal.gather-requires-clause-gathered
gather-requires-clause-gathered g c =
    let b = g.B.BatchName.batch in
    let opening = g.B.BatchName.opening in
    let q = c.args.query in
    let ms = c.args.asking.now.memo in
    let heard = c.cell.new.self in
    let on = asked-on b c.facts.ensures.lawful opening q c.requires.queries c.requires.window c.requires.site c.turn_to.new.self ms c.turn_to.ensures.turned heard (is_missing c.in_ok-cell.field-0) c.in_ok-cell.ensures.asked false (ap is_missing c.in-Some.is) c.cell.ensures.query in
    let now = entries_of heard.memo in
    let before = get place_cmp c.new-waiting.result.cells in
    let after = get place_cmp c.note.new.waiting.cells in
    subst (λ (k : Query). AreGathered b k now [] after) (sym on.query)
    (begins b c.facts.ensures.lawful q (known b c.facts.ensures.lawful opening q c.requires.queries c.requires.window) now before after c.new-waiting.ensures (root-needed b c.facts.ensures.lawful opening q c.requires.queries c.requires.window c.requires.site) c.in_ok-note.ensures)

pub returns-in-None : goal.returns-in-None
returns-in-None g c =
    let b = g.B.BatchName.batch in
    let opening = g.B.BatchName.opening in
    let q = c.args.query in
    let ms = c.args.asking.now.memo in
    let heard = c.cell.new.self in
    let on = asked-on b c.facts.ensures.lawful opening q c.requires.queries c.requires.window c.requires.site c.turn_to.new.self ms c.turn_to.ensures.turned heard (is_missing c.in_ok-cell.field-0) c.in_ok-cell.ensures.asked false (ap is_missing c.in-Some.is) c.cell.ensures.query in
    let new = c.gather.new.asking in
    let all = asking-then b opening (record { memo = ms; query = q }) heard new true on (subst (λ o. GoesOnAsking b opening heard new (is_missing o)) c.in-None.is c.in_ok-gather.ensures.asks) in
    record {
      journals = journals-grown b c.facts.ensures.lawful opening q c.requires.queries c.requires.window ms c.in_ok-turn_to.ensures.free c.requires.unused new.memo true all.asks;
      outcome = answers-budget b c.facts.ensures.lawful opening q c.requires.queries c.requires.window ms c.in_ok-turn_to.ensures.free c.requires.unused new.memo true all.asks refl;
      asks = all.asks;
    }

pub returns-in-Some-2 : goal.returns-in-Some-2
returns-in-Some-2 g c =
    let b = g.B.BatchName.batch in
    let opening = g.B.BatchName.opening in
    let q = c.args.query in
    let ms = c.args.asking.now.memo in
    let heard = c.cell.new.self in
    let on = asked-on b c.facts.ensures.lawful opening q c.requires.queries c.requires.window c.requires.site c.turn_to.new.self ms c.turn_to.ensures.turned heard (is_missing c.in_ok-cell.field-0) c.in_ok-cell.ensures.asked false (ap is_missing c.in-Some.is) c.cell.ensures.query in
    let new = c.gather.new.asking in
    let more = subst (λ o. GoesOnAsking b opening heard new (is_missing o)) c.in-Some-2.is c.in_ok-gather.ensures.asks in
    let all = asking-then b opening (record { memo = ms; query = q }) heard new false on more in
    let cell = c.in-Some.cell in
    let lines = c.in-Some-2.lines in
    let root = point_at q.signal q.from in
    let right = some-of (λ (x : Cell). x ≡ cell_at b.circuit root) c.in_ok-cell.field-0 cell c.in_ok-cell.ensures.cell c.in-Some.is in
    let covered = asking-covers b opening heard new false more root
    (asked-covered b c.facts.ensures.lawful opening q c.requires.queries c.requires.window c.requires.site c.turn_to.new.self ms c.turn_to.ensures.turned heard (is_missing c.in_ok-cell.field-0) c.in_ok-cell.ensures.asked false (ap is_missing c.in-Some.is) refl) in
    let e = some-of (λ (xs : Vec SignalCell). AreExplained b.circuit (entries_of new.memo) heard.query xs.items) c.in_ok-gather.field-0 lines c.in_ok-gather.ensures.lines c.in-Some-2.is in
    record {
      journals = journals-grown b c.facts.ensures.lawful opening q c.requires.queries c.requires.window ms c.in_ok-turn_to.ensures.free c.requires.unused new.memo false all.asks;
      outcome = subst (λ (cells : List SignalCell). Explains b.circuit (entries_of new.memo) q cells cell.value) (sym c.from_vec.ensures)
          (answers-proof b c.facts.ensures.lawful opening q c.requires.queries c.requires.window ms c.in_ok-turn_to.ensures.free c.requires.unused new.memo false all.asks refl cell lines.items right covered
          (subst (λ (k : Query). AreExplained b.circuit (entries_of new.memo) k lines.items) on.query e));
      asks = all.asks;
    }
