use Rattle.std.proofs.Common.{◌∙◌, ap, rules}
use Rattle.std.specs.List.{dedup}
use Rattle.std.proofs.lemmas.Fn.{dedup_same}
use Rattle.std.proofs.lemmas.List.Sorted.{IsNonDecreasingBy-from_sort_by_key, answers_always}
use Rattle.design.specs.Join.{is_at_one_time}
use Rattle.design.proofs.SortedSettings.{time_of, sorted-is}
use Rattle.design.proofs.settings.scheduled.Goals as goal

pub returns : goal.returns
returns c =
    dedup_same _ is_at_one_time _ (λ x y b f u v k. search rules) _ _ c.dedup_by_key.ensures.filtered
    ∙ ap (dedup is_at_one_time) (sorted-is _ _ (IsNonDecreasingBy-from_sort_by_key time_of _ c.in_ok-sort_by_key.ensures.sorted (λ a r q k. search rules))
    (c.sort_by_key.ensures.stable time_of (answers_always _ _ _ (λ f a r q k. search rules))))
