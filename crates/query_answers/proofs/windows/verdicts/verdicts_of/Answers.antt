use Rattle.std.proofs.Common.{◌++◌, ◌∷◌, [], List, Option, map, ap, ap₂, sym, ◌∙◌, arith}
use Rattle.std.proofs.lemmas.List.{take_all}
use Rattle.session_meaning.specs.declared.Verdict.{Verdict}
use Rattle.session_meaning.specs.Verdicts.{verdict_of}
use Rattle.plan_core.proofs.Callers.{map-item}
use Rattle.query_answers.proofs.windows.verdicts.verdicts_of.Goals as goal

pub loop-item-preserved : goal.loop-item-preserved
loop-item-preserved c =
    c.in_ok-push.ensures.items ∙ ap₂ (λ (l : List (Option Verdict)) (v : Option Verdict). l ++ v ∷ []) c.loop-item.invariant c.item_verdict.ensures
    ∙ sym (map-item (verdict_of c.args.design.now) c.args.items.now c.loop-item.item-index c.item-item.result c.loop-item-test.true c.item-item.is)

pub returns : goal.returns
returns c = c.loop-item.invariant ∙ ap (map (verdict_of c.args.design.now)) (take_all c.loop-item.item-index c.args.items.now (let t = c.loop-item-test.false in omega arith))
