use Rattle.std.proofs.Common.{◌≡◌, length, sym, ap, ◌∙◌, subst, refl, List, map, ◌<◌}
use Rattle.std.specs.Vec.Iter.{into_iter_items}
use Rattle.memo_shards.specs.Seen.{numbered_strand}
use Rattle.plan_core.specs.inner.Places.{seats, HaveNumbers}
use Rattle.plan_core.proofs.Lists.{put-first, put-one, put-last}
use Rattle.plan_core.proofs.places.put_back.Goals as goal
use Rattle.demand_points.specs.Demands.{Demand}
use Rattle.plan_machine.specs.Plans.{itself}
use Rattle.plan_machine.specs.Parts.{put_back as put_all}

pub put_at-requires : goal.put_at-requires
put_at-requires g c =
    let k = put-first _ _ c.loop-strand.places.items _ _ _ c.in-Some.strand c.loop-strand.invariant.2 c.in-Some.ensures.steps.0 in
    subst (λ n. n < length c.loop-strand.places.items) (sym c.number-number.ensures) k

pub loop-strand-init : goal.loop-strand-init
loop-strand-init g c =
    let k = c.into_iter-strand-iterator.ensures.into_iter_gives in
    let l = c.args.woken.ok in
    let all : into_iter_items c.into_iter-strand-iterator.result ≡ c.args.woken.items = c.into_iter-strand-iterator.ensures.into_iter_gives.0 in (
      tt,
      tt,
      record {
        same = refl;
        low = subst (HaveNumbers (length c.args.places.now.items)) (sym all) c.requires.numbers;
        long = refl;
        numbered = c.requires.numbered;
        count = k.1 ∙ l.0 ∙ ap (λ (xs : List Demand). length xs) (sym all);
      },
    )

pub loop-strand-preserved : goal.loop-strand-preserved
loop-strand-preserved g c =
    (tt, tt, put-one _ _ c.loop-strand.places.items _ _ _ _ c.in-Some.strand c.new.result c.loop-strand.invariant.2 c.in-Some.ensures.steps.0 c.in-Some.ensures.steps.1 c.new.ensures c.number-number.result c.number-number.ensures c.put_at.new.places.items c.put_at.ensures)

pub returns-clause-seats : goal.returns-clause-seats
returns-clause-seats g c =
    let all : into_iter_items c.into_iter-strand-iterator.result ≡ c.args.woken.items = c.into_iter-strand-iterator.ensures.into_iter_gives.0 in
    put-last _ _ c.loop-strand.places.items _ _ c.loop-strand.invariant.2 c.in-None.ensures.steps.0 ∙ ap (λ (l : List Demand). put_all itself (seats c.args.places.now.items) (map numbered_strand l)) all

pub returns-clause-length : goal.returns-clause-length
returns-clause-length g c = c.loop-strand.invariant.2.long

pub returns-clause-numbered : goal.returns-clause-numbered
returns-clause-numbered g c = c.loop-strand.invariant.2.numbered
