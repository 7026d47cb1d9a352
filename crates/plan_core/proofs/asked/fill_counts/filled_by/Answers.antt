use Rattle.std.proofs.Common.{◌≡◌, ◌+◌, min, take, List, sym, ap, ap₂, ◌∙◌, arith}
use Rattle.std.proofs.lemmas.List.{take_all}
use Rattle.design.proofs.Callers.{taken-at}
use Rattle.plan_core.specs.declared.asked.fill_counts.FillCounts.{FillCounts}
use Rattle.plan_core.specs.asked.FillCounts.{fills_in, fills_in_all}
use Rattle.plan_core.proofs.Counted.{all-more}
use Rattle.plan_core.proofs.asked.fill_counts.filled_by.Goals as goal

pub loop-part-preserved : goal.loop-part-preserved
loop-part-preserved c =
    let parts = c.args.parts.now in
    let i = c.loop-part.part-index in
    let x = c.part-item.result in
    let n = c.args.number in
    let more : fills_in_all (take (i + 1) parts) n ≡ min (fills_in_all (take i parts) n + fills_in x n) 4294967295 =
    ap (λ (l : List FillCounts). fills_in_all l n) (sym (taken-at parts i x c.loop-part-test.true c.part-item.is)) ∙ all-more (take i parts) x n in
    c.saturating_add-count.ensures ∙ ap₂ (λ a b. min (a + b) 4294967295) c.loop-part.invariant c.of.ensures ∙ sym more

pub returns : goal.returns
returns c =
    c.loop-part.invariant ∙ ap (λ (l : List FillCounts). fills_in_all l c.args.number) (take_all c.loop-part.part-index c.args.parts.now (let t = c.loop-part-test.false in omega arith))
