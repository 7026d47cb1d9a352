use Rattle.std.proofs.Common.{All, subst}
use Rattle.journal_meaning.specs.Listed.{IsRightEntry}
use Rattle.plan_core.specs.asked.Memos.{entries_of}
use Rattle.query_answers.specs.asking.inner.AskedMemos.{AskedMemo}
use Rattle.query_answers.proofs.AskedOn.{entries-right}
use Rattle.query_answers.proofs.asking.Asking.facts.Goals as goal

pub returns-clause-entries : goal.returns-clause-entries
returns-clause-entries g c =
    let b = g.B.BatchName.batch in
    subst (λ (a : AskedMemo). All (IsRightEntry b.circuit) (entries_of a.memo)) c.self.view_is (entries-right b g.B.BatchName.opening c.self.invariant.lawful c.self.inside.memo c.self.invariant.free)
