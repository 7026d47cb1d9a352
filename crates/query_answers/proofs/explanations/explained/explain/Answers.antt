use Rattle.std.proofs.Common.{◌++◌, List, sym, subst, ap, ◌∙◌}
use Rattle.journal_meaning.specs.declared.Entry.{Entry}
use Rattle.journal_meaning.specs.Grown.{AreAdded}
use Rattle.journal_meaning.proofs.Callers.{added-more}
use Rattle.plan_machine.specs.Settle.{AreFreed, journals_of}
use Rattle.plan_machine.proofs.Callers.{all-freed}
use Rattle.memo_shards.specs.KeptShards.{KeptShard}
use Rattle.plan_core.specs.Parts.{shards_in}
use Rattle.plan_core.specs.asked.Asked.{AsksFreed}
use Rattle.plan_core.specs.asked.Memos.{entries_of}
use Rattle.plan_core.proofs.Callers.{unused-freed}
use Rattle.reply_lines.specs.Replies.{is_budget}
use Rattle.query_answers.proofs.explanations.explained.explain.Goals as goal

pub gather_answer-requires-clause-unused : goal.gather_answer-requires-clause-unused
gather_answer-requires-clause-unused g c = ap entries_of c.new-asking.ensures ∙ unused-freed g.B.BatchName.batch g.B.BatchName.opening c.args.shards.items c.in_ok-memo.memo c.in_ok-memo.ensures.shards c.in_ok-memo.ensures.freed c.requires.unused

pub returns-clause-journals : goal.returns-clause-journals
returns-clause-journals g c =
    let b = g.B.BatchName.batch in
    let old = c.args.shards.items in
    let begun = c.new-asking.result.memo in
    let freed = subst (λ (ms : List KeptShard). AreFreed (shards_in old) (shards_in ms)) (sym c.new-asking.ensures) c.in_ok-memo.ensures.freed in
    let new = c.gather_answer.new.asking.memo in
    let r = all-freed b c.requires.lawful g.B.BatchName.opening (shards_in old) (shards_in begun) c.in_ok-memo.ensures.shards freed in
    let w = c.in_ok-outcome.ensures.journals in
    subst (λ (ms : List KeptShard). (added : List Entry) × AreAdded (journals_of (shards_in old)) added (journals_of (shards_in ms))) (sym c.in_ok-into_shards.ensures.shards)
    (r.added ++ w.0, added-more (journals_of (shards_in old)) r.added (journals_of (shards_in begun)) w.0 (journals_of (shards_in new)) r.journals w.1)

pub returns-clause-asks : goal.returns-clause-asks
returns-clause-asks g c =
    subst (λ (ms : List KeptShard). AsksFreed g.B.BatchName.batch g.B.BatchName.opening c.args.query (shards_in c.args.shards.items) (shards_in ms) (is_budget c.in_ok-outcome.outcome)) (sym c.in_ok-into_shards.ensures.shards)
    (record {
      freed = shards_in c.new-asking.result.memo;
      frees = subst (λ (ms : List KeptShard). AreFreed (shards_in c.args.shards.items) (shards_in ms)) (sym c.new-asking.ensures) c.in_ok-memo.ensures.freed;
      asks = c.in_ok-outcome.ensures.asks;
    })
