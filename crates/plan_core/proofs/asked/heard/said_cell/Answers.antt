use Rattle.std.proofs.lemmas.Option.{IfSome_then}
use Rattle.journal_meaning.specs.Answers.{IsCovered}
use Rattle.plan_core.specs.asked.Memos.{entries_of}
use Rattle.plan_core.specs.asked.inner.Exact.{IsSaidFor}
use Rattle.plan_core.proofs.RunsAlone.{covered-found}
use Rattle.plan_core.proofs.Exact.{exact-right, exact-found, on-some}
use Rattle.plan_core.proofs.Known.{known-right}
use Rattle.plan_core.proofs.asked.heard.said_cell.Goals as goal

pub returns-in-None-clause-cell : goal.returns-in-None-clause-cell
returns-in-None-clause-cell g c =
    let b = g.B.BatchName.batch in
    let ms = c.args.shards.now in
    IfSome_then c.said_for.result c.said_for.ensures (λ cell h. exact-right b c.requires.lawful ms (known-right b c.requires.lawful g.B.BatchName.opening ms c.requires.known) c.args.x cell h)

pub returns-in-None-clause-covered : goal.returns-in-None-clause-covered
returns-in-None-clause-covered g c =
    let b = g.B.BatchName.batch in
    let ms = c.args.shards.now in
    on-some c.said_for.result (IsSaidFor (entries_of ms) c.args.x) (IsCovered b.circuit (entries_of ms) c.args.x)
    (λ cell h. covered-found b (entries_of ms) c.args.x (exact-found b c.requires.lawful ms (known-right b c.requires.lawful g.B.BatchName.opening ms c.requires.known) c.args.x cell h)) c.said_for.ensures
