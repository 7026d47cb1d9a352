use Rattle.std.proofs.Common.{subst}
use Rattle.std.proofs.lemmas.Result.{on_ok_weaker}
use Rattle.std.specs.BTreeMap.{get}
use Rattle.circuit_meaning.specs.Circuit.{Circuit}
use Rattle.circuit_meaning.specs.Need.{IsEvaluable}
use Rattle.plan_core.specs.asked.Memos.{entries_of}
use Rattle.plan_core.proofs.Callers.{none-of}
use Rattle.query_answers.specs.declared.explanations.waiting.Asked.{Asked}
use Rattle.query_answers.specs.explanations.inner.Waiting.{place_cmp}
use Rattle.query_answers.proofs.Noting.{notes-told}
use Rattle.query_answers.proofs.Telling.{covered-told}
use Rattle.query_answers.proofs.explanations.children.note.Goals as goal

pub returns-in-None : goal.returns-in-None
returns-in-None g c =
    let b = g.B.BatchName.batch in
    let p = c.args.p in
    let es = entries_of c.args.asking.now.memo in
    let a : Asked = record { signal = p.signal; time = p.time; cell = c.args.cell } in
    let evaluable = subst (λ (d : Circuit). IsEvaluable d p.signal p.time) c.design.ensures (none-of c.base.result (IsEvaluable c.design.result.now.circuit p.signal p.time) c.base.ensures.none c.in-None.is) in
    let told = covered-told b.circuit c.facts.ensures.lawful.circuit a c.requires.cell es c.facts.ensures.entries evaluable c.requires.covered in
    on_ok_weaker c.add.result (notes-told b.circuit es (get place_cmp c.args.waiting.now.cells) (get place_cmp c.add.new.self.cells) a told) c.add.ensures
