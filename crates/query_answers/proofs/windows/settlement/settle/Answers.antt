use Rattle.std.proofs.Common.{[], List, length, sym, ap, subst, ◌∙◌}
use Rattle.journal_meaning.specs.declared.batch.Query.{Query}
use Rattle.plan_machine.specs.Settle.{AreFreed}
use Rattle.memo_shards.specs.KeptShards.{KeptShard}
use Rattle.plan_core.specs.InTurn.{AllChildrenCovered}
use Rattle.plan_core.specs.Parts.{shards_in}
use Rattle.query_answers.specs.declared.windows.answers.Fed.{Fed}
use Rattle.plan_core.specs.asked.FillCounts.{HaveCounted}
use Rattle.plan_core.specs.asked.Memos.{AreFreeShards, entries_of}
use Rattle.plan_core.proofs.Callers.{some-of, freed-counted}
use Rattle.query_answers.specs.windows.inner.Phases.{IsWalking, refused_in}
use Rattle.query_answers.specs.windows.Phases.{refused_of}
use Rattle.query_answers.specs.windows.Settlement.{AskInTurn, none_refused, HasSettled}
use Rattle.query_answers.proofs.Heard.{freed-heard}
use Rattle.query_answers.proofs.Phases.{fed-walks, all-fed-count}
use Rattle.query_answers.proofs.Finished.{has-settled}
use Rattle.query_answers.proofs.windows.settlement.settle.Goals as goal

pub feed_all-requires-clause-heard : goal.feed_all-requires-clause-heard
feed_all-requires-clause-heard g c = λ heard.
    let b = g.B.BatchName.batch in
    let begun = c.in_ok-memo.ensures in
    subst (λ (ms : List KeptShard). AllChildrenCovered b.circuit (entries_of ms)) (sym c.new-asking.ensures)
    (freed-heard b c.requires.lawful g.B.BatchName.opening c.args.shards.items c.in_ok-memo.field-0.memo begun.shards begun.freed (c.requires.heard heard))

pub feed_all-requires-clause-fills : goal.feed_all-requires-clause-fills
feed_all-requires-clause-fills g c = λ fills is.
    let begun = c.in_ok-memo.ensures in
    let handed = c.args.shards.items in
    let known : HaveCounted (entries_of handed) fills.items = some-of (λ f. HaveCounted (entries_of handed) f.items) c.in_ok-memo.field-0.fills fills begun.fills is in
    subst (λ (ms : List KeptShard). HaveCounted (entries_of ms) fills.items) (sym c.new-asking.ensures)
    (freed-counted g.B.BatchName.batch c.requires.lawful g.B.BatchName.opening handed c.in_ok-memo.field-0.memo begun.shards begun.freed fills.items known)

pub answer_all-requires-clause-count : goal.answer_all-requires-clause-count
answer_all-requires-clause-count g c =
    let b = g.B.BatchName.batch in
    let begun = entries_of c.new-asking.result.memo in
    let now = entries_of c.feed_all.new.asking.memo in
    ap length c.deref.ensures.value ∙ all-fed-count b.circuit begun now b.queries c.in_ok-fed.fed.items c.in_ok-fed.ensures.fed.all ∙ sym (ap length c.requires.queries)

pub answer_all-requires-clause-fed : goal.answer_all-requires-clause-fed
answer_all-requires-clause-fed g c =
    let b = g.B.BatchName.batch in
    let begun = c.new-asking.result.memo in
    let now = shards_in c.feed_all.new.asking.memo in
    let w = fed-walks b (entries_of begun) (shards_in begun) now c.in_ok-fed.fed.items c.in_ok-fed.ensures.fed in (
      entries_of begun,
      (
        shards_in begun,
        subst (λ (fs : List Fed). IsWalking b (entries_of begun) (shards_in begun) now [] [] c.args.queries.now fs) (sym c.deref.ensures.value)
            (subst (λ (qs : List Query). IsWalking b (entries_of begun) (shards_in begun) now [] [] qs c.in_ok-fed.fed.items) (sym c.requires.queries) w),
      ),
    )

pub returns : goal.returns
returns g c =
    let b = g.B.BatchName.batch in
    let begun = c.new-asking.result.memo in
    let freed = subst (λ (ms : List KeptShard). AreFreed (shards_in c.args.shards.items) (shards_in ms)) (sym c.new-asking.ensures) c.in_ok-memo.ensures.freed in
    let now = shards_in c.feed_all.new.asking.memo in
    let new = c.answer_all.new.asking.memo in
    let free = subst (AreFreeShards b g.B.BatchName.opening) c.in_ok-into_shards.ensures.shards c.in_ok-into_shards.ensures.free in
    let w = fed-walks b (entries_of begun) (shards_in begun) now c.in_ok-fed.fed.items c.in_ok-fed.ensures.fed in
    let v : IsWalking b (entries_of begun) (shards_in begun) now [] [] c.args.queries.now c.deref.result.now = subst (λ (fs : List Fed). IsWalking b (entries_of begun) (shards_in begun) now [] [] c.args.queries.now fs) (sym c.deref.ensures.value)
    (subst (λ (qs : List Query). IsWalking b (entries_of begun) (shards_in begun) now [] [] qs c.in_ok-fed.fed.items) (sym c.requires.queries) w) in
    subst (λ (ms : List KeptShard). HasSettled b g.B.BatchName.opening c.args.shards.items ms c.in_ok-outcomes.outcomes.items) (sym c.in_ok-into_shards.ensures.shards)
    (has-settled b c.requires.lawful g.B.BatchName.opening c.args.shards.items begun c.in_ok-memo.ensures.shards freed new c.in_ok-outcomes.outcomes.items free (c.in_ok-outcomes.ensures.settled (entries_of begun) (shards_in begun) v) (record {
      freed = shards_in begun;
      frees = freed;
      visited = now;
      refused_then = refused_in c.in_ok-fed.fed.items;
      visits = subst (λ (qs : List Query). AskInTurn b g.B.BatchName.opening qs (shards_in begun) (none_refused qs) now (refused_in c.in_ok-fed.fed.items)) c.requires.queries c.in_ok-fed.ensures.asks;
      walks = subst (λ (qs : List Query). AskInTurn b g.B.BatchName.opening qs now (refused_in c.in_ok-fed.fed.items) (shards_in new) (refused_of c.in_ok-outcomes.outcomes.items)) c.requires.queries
          (subst (λ (fs : List Fed). AskInTurn b g.B.BatchName.opening c.args.queries.now now (refused_in fs) (shards_in new) (refused_of c.in_ok-outcomes.outcomes.items)) c.deref.ensures.value c.in_ok-outcomes.ensures.asks);
    }))
