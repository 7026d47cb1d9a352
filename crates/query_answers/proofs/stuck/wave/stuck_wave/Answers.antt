use Rattle.std.proofs.Common.{List, sym, ap, subst, ◌∙◌}
use Rattle.std.proofs.lemmas.Result.{IfOk-weaker}
use Rattle.plan_machine.specs.Settle.{AreFreed}
use Rattle.memo_shards.specs.KeptShards.{KeptShard}
use Rattle.plan_core.specs.Parts.{shards_in}
use Rattle.plan_core.specs.asked.Memos.{entries_of}
use Rattle.plan_core.proofs.Callers.{unused-freed}
use Rattle.query_answers.proofs.stuck.wave.stuck_wave.Goals as goal

pub answer-requires-clause-unused : goal.answer-requires-clause-unused
answer-requires-clause-unused g c =
    ap entries_of c.new-session.ensures
    ∙ unused-freed g.B.BatchName.batch g.B.BatchName.opening c.args.shards.items c.in_ok-memo.memo c.in_ok-memo.ensures.shards c.in_ok-memo.ensures.freed c.requires.unused

pub returns-clause-asks : goal.returns-clause-asks
returns-clause-asks g c =
    let frees = subst (λ (ms : List KeptShard). AreFreed (shards_in c.args.shards.items) (shards_in ms)) (sym c.new-session.ensures) c.in_ok-memo.ensures.freed in
    IfOk-weaker c.answer.result _ _ (λ done asks. record { freed = shards_in c.new-session.result.memo; frees = frees; asks = asks }) c.answer.ensures.asks
