use Rattle.std.proofs.Common.{Contains, subst, sym}
use Rattle.journal_meaning.specs.declared.Entry.{Entry}
use Rattle.plan_core.specs.asked.Heard.{IsHeard}
use Rattle.plan_core.specs.asked.Memos.{entries_of}
use Rattle.plan_core.proofs.Known.{filled-evaluable, filled-point}
use Rattle.plan_core.proofs.asked.heard.is_heard.Goals as goal

pub are_children_said-requires-clause-point : goal.are_children_said-requires-clause-point
are_children_said-requires-clause-point g c =
    let ms = c.args.shards.now in
    filled-point g.B.BatchName.batch c.requires.lawful g.B.BatchName.opening ms c.requires.known c.in-Some.field-0-0 c.in-Some.p c.in-Some.field-0-2
    (subst (λ (e : Entry). Contains (entries_of ms) e) c.in-Some.ensures.some c.requires.entry)

pub are_children_said-requires-clause-evaluable : goal.are_children_said-requires-clause-evaluable
are_children_said-requires-clause-evaluable g c =
    let ms = c.args.shards.now in
    filled-evaluable g.B.BatchName.batch c.requires.lawful g.B.BatchName.opening ms c.requires.known c.in-Some.field-0-0 c.in-Some.p c.in-Some.field-0-2
    (subst (λ (e : Entry). Contains (entries_of ms) e) c.in-Some.ensures.some c.requires.entry)

pub returns-in-Some : goal.returns-in-Some
returns-in-Some g c = λ t.
    subst (IsHeard g.B.BatchName.batch.circuit (entries_of c.args.shards.now)) (sym c.in-Some.ensures.some) (c.are_children_said.ensures t)

pub returns-in-None : goal.returns-in-None
returns-in-None g c = λ t. rw c.in-None.ensures.none tt
