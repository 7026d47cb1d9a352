use Rattle.std.proofs.Common.{◌≡◌, None, Some, sym, ap, subst, ◌∙◌, arith, get_or}
use Rattle.valid_intervals.specs.declared.Cell.{Cell}
use Rattle.circuit_meaning.specs.Cells.{cell_at}
use Rattle.plan_machine.proofs.Callers.{child-needed}
use Rattle.plan_machine.specs.Settle.{charge_of, sub_query}
use Rattle.design.specs.PinWalks.{looked_at}
use Rattle.plan_core.specs.Parts.{shards_in}
use Rattle.plan_core.specs.asked.Asked.{HasAsked}
use Rattle.plan_core.specs.asked.Memos.{entries_of, is_missing}
use Rattle.plan_core.specs.asked.Sources.{IsSourceCovered}
use Rattle.plan_core.proofs.Callers.{root-covered, some-of}
use Rattle.query_answers.specs.asking.inner.AskedMemos.{GoesOnAsking, heard_at, start_for}
use Rattle.query_answers.proofs.AskedOn.{asking-point, asking-stays}
use Rattle.query_answers.proofs.Pins.{source-start, source-child}
use Rattle.query_answers.proofs.asking.Asking.look.Goals as goal

pub cell-requires-clause-point : goal.cell-requires-clause-point
cell-requires-clause-point g c = c.in-Some.ensures.point g.B.BatchName.batch.circuit c.requires.walk

pub cell-requires-clause-start : goal.cell-requires-clause-start
cell-requires-clause-start g c = λ e.
    let b = g.B.BatchName.batch in
    let a = c.args.self.now in
    let p = c.args.walk.now.point in
    let n = c.args.walk.now.looked in
    let x = c.in-Some.p in
    let here : get_or (looked_at b.circuit p) n None ≡ Some x = sym (c.next_source.ensures.source b.circuit c.requires.walk) ∙ c.in-Some.is in
    source-start b c.facts.ensures.lawful a.query c.requires.known p c.requires.needed x n here (charge_of (entries_of a.memo) a.query) (omega arith) e

pub returns-in_default-clause-heard : goal.returns-in_default-clause-heard
returns-in_default-clause-heard g c =
    let d = g.B.BatchName.batch.circuit in
    ap (heard_at d) (sym c.in_default.is ∙ c.next_source.ensures.source d c.requires.walk)

pub returns-in_default-clause-asks : goal.returns-in_default-clause-asks
returns-in_default-clause-asks g c = asking-stays g.B.BatchName.batch g.B.BatchName.opening c.args.self.now

pub returns-in_default-2-clause-asks : goal.returns-in_default-2-clause-asks
returns-in_default-2-clause-asks g c =
    let b = g.B.BatchName.batch in
    let a = c.args.self.now in
    let p = c.args.walk.now.point in
    let n = c.args.walk.now.looked in
    let x = c.in-Some.p in
    let here : get_or (looked_at b.circuit p) n None ≡ Some x = sym (c.next_source.ensures.source b.circuit c.requires.walk) ∙ c.in-Some.is in
    subst (λ o. GoesOnAsking b g.B.BatchName.opening a c.cell.new.self (is_missing o)) c.in_default-2.is
    (asking-point b g.B.BatchName.opening a c.cell.new.self (is_missing c.in_ok-cell.field-0) x c.cell.ensures.query (child-needed b c.facts.ensures.lawful a.query p x c.requires.needed (source-child b.circuit p x n here)) c.in_ok-cell.ensures.asked)

pub returns-clause-asks : goal.returns-clause-asks
returns-clause-asks g c =
    let b = g.B.BatchName.batch in
    let a = c.args.self.now in
    let p = c.args.walk.now.point in
    let n = c.args.walk.now.looked in
    let x = c.in-Some.p in
    let here : get_or (looked_at b.circuit p) n None ≡ Some x = sym (c.next_source.ensures.source b.circuit c.requires.walk) ∙ c.in-Some.is in
    subst (λ o. GoesOnAsking b g.B.BatchName.opening a c.cell.new.self (is_missing o)) c.in-Some-2.is
    (asking-point b g.B.BatchName.opening a c.cell.new.self (is_missing c.in_ok-cell.field-0) x c.cell.ensures.query (child-needed b c.facts.ensures.lawful a.query p x c.requires.needed (source-child b.circuit p x n here)) c.in_ok-cell.ensures.asked)

pub returns-clause-covered : goal.returns-clause-covered
returns-clause-covered g c =
    let b = g.B.BatchName.batch in
    let a = c.args.self.now in
    let new = c.cell.new.self in
    let x = c.in-Some.p in
    let h = subst (λ o. HasAsked b g.B.BatchName.opening (start_for a x) (shards_in a.memo) (shards_in new.memo) (is_missing o)) c.in-Some-2.is c.in_ok-cell.ensures.asked in
    subst (IsSourceCovered b.circuit (entries_of new.memo)) (sym (sym (c.next_source.ensures.source b.circuit c.requires.walk) ∙ c.in-Some.is))
    (root-covered b g.B.BatchName.opening (sub_query a.query x) x.time (charge_of (entries_of a.memo) a.query) (shards_in a.memo) (shards_in new.memo) h)

pub returns-clause-heard : goal.returns-clause-heard
returns-clause-heard g c =
    let d = g.B.BatchName.batch.circuit in
    let x = c.in-Some.p in
    let right = some-of (λ (cell : Cell). cell ≡ cell_at d x) c.in_ok-cell.field-0 c.in-Some-2.cell c.in_ok-cell.ensures.cell c.in-Some-2.is in
    ap (λ (cell : Cell). Some (x, cell)) right ∙ ap (heard_at d) (sym c.in-Some.is ∙ c.next_source.ensures.source d c.requires.walk)
