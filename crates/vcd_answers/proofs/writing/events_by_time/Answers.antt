use Rattle.std.proofs.Common.{rules, ◌≡◌}
use Rattle.std.proofs.lemmas.Fn.{always_returns_same}
use Rattle.std.proofs.lemmas.List.Sorted.{IsNonDecreasingBy-from_sort_by_key}
use Rattle.vcd_answers.specs.declared.writing.Event.{Event}
use Rattle.vcd_answers.proofs.Instants.{sorted_is}
use Rattle.vcd_answers.proofs.writing.events_by_time.Goals as goal

pub returns : goal.returns
returns c = sorted_is c.args.wires.now c.in_ok-events.events.items c.sort_by_key.new.self.items (search rules) c.in_ok-events.ensures c.sort_by_key.ensures.permutation
    (IsNonDecreasingBy-from_sort_by_key (λ (e : Event). e.time) _ c.in_ok-sort_by_key.ensures.sorted (λ a r q k. search rules))
    (c.sort_by_key.ensures.stable (λ (e : Event). e.time) (always_returns_same _ (λ a r. r ≡ a.0.now.time) _ (λ a r q k. search rules)))
