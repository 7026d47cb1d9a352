use Rattle.std.proofs.Common.{◌≡◌, ◌++◌, ◌∷◌, [], List, sym, ap, subst, ◌∙◌}
use Rattle.plan_core.specs.declared.asked.fill_counts.FillCounts.{FillCounts}
use Rattle.plan_core.specs.asked.FillCounts.{HaveCounted}
use Rattle.plan_core.specs.asked.Memos.{entries_of}
use Rattle.plan_core.proofs.Counted.{one-counted}
use Rattle.plan_core.proofs.asked.fill_counts.count_fills.Goals as goal

pub returns : goal.returns
returns g c =
    let es = entries_of c.args.shards.now in
    let part = c.in_ok-gather.field-0 in
    let same : c.push.new.self.items ≡ part ∷ [] = c.in_ok-push.ensures.items ∙ ap (λ (l : List FillCounts). l ++ part ∷ []) c.new-parts.ensures.items in
    subst (λ (parts : List FillCounts). HaveCounted es parts) (sym same) (one-counted es part c.in_ok-gather.ensures)
