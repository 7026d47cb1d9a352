use Rattle.std.proofs.Common.{All, subst}
use Rattle.memo_shards.specs.KeptShards.{IsKnownShard}
use Rattle.plan_core.proofs.Beginning.{each-known, begins, plan-begins, begins-alone}
use Rattle.plan_core.proofs.plan.Plan.new.Goals as goal

pub invariant_of-result : goal.invariant_of-result
invariant_of-result g c =
    let b = g.B.BatchName.batch in
    let o = g.B.BatchName.opening in
    let known = each-known b o c.args.shards.items (subst (All (IsKnownShard b o)) c.deref.ensures.value c.know_all.ensures) in
    begins b c.requires.lawful o c.args.strands.items c.requires.strands c.args.shards.items c.requires.shards known c.in_ok-places.places.items c.in_ok-places.ensures

pub returns : goal.returns
returns g c =
    let b = g.B.BatchName.batch in
    let o = g.B.BatchName.opening in
    let known = each-known b o c.args.shards.items (subst (All (IsKnownShard b o)) c.deref.ensures.value c.know_all.ensures) in
    let places = c.in_ok-places.places.items in
    record {
      ok = plan-begins b c.requires.lawful o c.args.strands.items c.requires.strands c.args.shards.items c.requires.shards known places c.in_ok-places.ensures;
      alone = begins-alone b c.requires.lawful o c.args.strands.items c.requires.strands c.args.shards.items c.requires.shards known places c.in_ok-places.ensures;
    }
