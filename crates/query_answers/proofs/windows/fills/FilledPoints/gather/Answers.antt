use Rattle.std.proofs.Common.{◌++◌, List, take, sym, ap, ap₂, ◌∙◌, arith}
use Rattle.std.proofs.lemmas.List.{take_all}
use Rattle.valid_intervals.specs.declared.Point.{Point}
use Rattle.journal_meaning.specs.declared.Entry.{Entry}
use Rattle.plan_machine.specs.Settling.{fills_of}
use Rattle.memo_shards.specs.KeptShards.{KeptShard}
use Rattle.plan_core.specs.asked.Memos.{entries_of}
use Rattle.plan_core.proofs.Callers.{entries-item}
use Rattle.query_answers.proofs.Filled.{fills-append}
use Rattle.query_answers.proofs.windows.fills.FilledPoints.gather.Goals as goal

pub loop-shard-preserved : goal.loop-shard-preserved
loop-shard-preserved g c = λ n.
    let ms = c.args.shards.now in
    let i = c.loop-shard.shard-index in
    let m = c.shard-item.result in
    c.in_ok-note_all.ensures n
    ∙ ap₂ (λ (l : List Point) (es : List Entry). l ++ fills_of es n) (c.loop-shard.invariant n) c.journal.ensures
    ∙ sym (fills-append (entries_of (take i ms)) m.shard.journal n)
    ∙ ap (λ (es : List Entry). fills_of es n) (sym (entries-item ms i m c.loop-shard-test.true c.shard-item.is))

pub returns : goal.returns
returns g c = λ n. c.loop-shard.invariant n ∙ ap (λ (ms : List KeptShard). fills_of (entries_of ms) n) (take_all c.loop-shard.shard-index c.args.shards.now (let t = c.loop-shard-test.false in omega arith))
