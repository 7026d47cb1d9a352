use Rattle.std.proofs.Common.{◌≡◌, inr, ℕ, Option, Some, None, IsSome, refl, sym, ap, subst, ◌∙◌}
use Rattle.std.specs.BTreeMap.{get}
use Rattle.cell_store.specs.declared.Key.{Key}
use Rattle.cell_store.specs.declared.index.Place.{Place}
use Rattle.cell_store.specs.inner.Index.{key_cmp}
use Rattle.cell_store.specs.inner.Lists.{key_at}
use Rattle.cell_store.proofs.Results.{if_none}
use Rattle.cell_store.proofs.Found.{lower, same_signal}
use Rattle.cell_store.proofs.Keys.{key_le-numbers, numbers-key_le, key_not_lt-numbers}
use Rattle.cell_store.proofs.maps.last_common.Goals as goal

pub returns-in_err-key-clause-none : goal.returns-in_err-key-clause-none
returns-in_err-key-clause-none c =
    let at : Key = key_at c.args.p.signal c.args.p.time in
    if_none c.from_residual.result (λ q of early. (c.range.ensures.in_range tt).5 c.in_err-key.ensures.steps.0 q (tt, numbers-key_le q at (inr (of, early))))

pub returns-then-key-p-clause-last : goal.returns-then-key-p-clause-last
returns-then-key-p-clause-last c =
    let at : Key = key_at c.args.p.signal c.args.p.time in
    let k : Key = c.in_ok-key.key.now in
    let p : Place = c.in_ok-key.place.now in
    let there = (c.range.ensures.in_range tt).3 (k, p) c.next_back.new.self c.in_ok-key.ensures.steps in
    record {
      at = ap (λ (s : ℕ). get key_cmp c.args.common.now (key_at s k.start)) (sym c.if-key-p.true) ∙ there.1;
      early = lower k at c.if-key-p.true (key_le-numbers k at there.0.1);
      last = λ q of early some.
          lower q k (of ∙ sym c.if-key-p.true) (key_not_lt-numbers k q ((c.range.ensures.in_range tt).4 (k, p) c.next_back.new.self c.in_ok-key.ensures.steps q (tt, numbers-key_le q at (inr (of, early))) some));
    }

pub returns-else-key-p-clause-none : goal.returns-else-key-p-clause-none
returns-else-key-p-clause-none c =
    λ q of early.
    let at : Key = key_at c.args.p.signal c.args.p.time in
    let k : Key = c.in_ok-key.key.now in
    let p : Place = c.in_ok-key.place.now in
    let there = (c.range.ensures.in_range tt).3 (k, p) c.next_back.new.self c.in_ok-key.ensures.steps in
    (elim (get key_cmp c.args.common.now q) as (λ o. get key_cmp c.args.common.now q ≡ o → o ≡ None) [
      | None ↦ λ e. refl
      | Some r ↦ λ e.
          let after = key_not_lt-numbers k q ((c.range.ensures.in_range tt).4 (k, p) c.next_back.new.self c.in_ok-key.ensures.steps q (tt, numbers-key_le q at (inr (of, early))) (subst (λ (o : Option Place). IsSome o) (sym e) refl)) in
          absurd (c.if-key-p.false (same_signal q k c.args.p.signal c.args.p.time of after (key_le-numbers k at there.0.1)))
    ]) refl
