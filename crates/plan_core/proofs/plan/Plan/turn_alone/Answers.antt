use Rattle.std.proofs.Common.{◌≡◌, ◌<◌, ◌∙◌, sym, ap, subst, arith, true≢false}
use Rattle.plan_machine.specs.Plans.{Plan}
use Rattle.plan_machine.specs.Turns.{turn}
use Rattle.plan_machine.specs.Bounds.{all_left}
use Rattle.plan_core.specs.inner.Refusals.{IsRefusedAt}
use Rattle.plan_core.proofs.Refusing.{was-refused}
use Rattle.plan_core.proofs.Rounds.{round-count, round-less, round-on, round-ends, round-refused, left-same, refused-tells, refused-records}
use Rattle.plan_core.proofs.plan.Plan.turn_alone.Goals as goal

pub unreachable-requires : goal.unreachable-requires
unreachable-requires g c =
    let w = was-refused g.B.BatchName.batch c.args.self.now c.args.number (sym c.in_ok-turn.ensures.comes ∙ c.in-Spent.is) in
    let e = c.in_default-asked.ensures w.point w.asked in
    cc e

pub refuse-requires : goal.refuse-requires
refuse-requires g c =
    let w = was-refused g.B.BatchName.batch c.args.self.now c.args.number (sym c.in_ok-turn.ensures.comes ∙ c.in-Spent.is) in
    let e = c.in-Some.ensures w.point w.asked in
    let same : w.point ≡ c.in-Some.p = cc e in
    subst (λ (z : Plan). IsRefusedAt z c.args.number c.in-Some.p) (sym c.in_ok-turn.ensures.ok) (subst (λ x. IsRefusedAt (turn g.B.BatchName.batch c.args.self.now c.args.number) c.args.number x) same w.after)

pub returns-in-NotReady-clause-ended : goal.returns-in-NotReady-clause-ended
returns-in-NotReady-clause-ended g c = λ a old r more.
    let b = g.B.BatchName.batch in
    round-ends b c.args.self.now c.turn.new.self c.args.number c.in_ok-turn.field-0 c.in_ok-turn.ensures.comes c.in_ok-turn.ensures.ok c.requires.lawful g.B.BatchName.opening a old _ r c.in-NotReady.is

pub returns-in_ok-refuse-in-Spent-clause-less : goal.returns-in_ok-refuse-in-Spent-clause-less
returns-in_ok-refuse-in-Spent-clause-less g c = λ more.
    let b = g.B.BatchName.batch in
    let is = c.in-Spent.is in
    let l : all_left b c.turn.new.self < all_left b c.args.self.now = round-less b c.args.self.now c.turn.new.self c.args.number c.in_ok-turn.field-0 c.in_ok-turn.ensures.comes c.in_ok-turn.ensures.ok (λ e. cc (is, e)) in
    let e : all_left b c.refuse.new.self ≡ all_left b c.turn.new.self = left-same b c.turn.new.self c.refuse.new.self (ap (λ (z : Plan). z.strands) c.in_ok-refuse-in-Spent.ensures.ok.1.1) in
    omega (arith, l, e)

pub returns-in_ok-refuse-in-Spent-clause-runs : goal.returns-in_ok-refuse-in-Spent-clause-runs
returns-in_ok-refuse-in-Spent-clause-runs g c = λ a old r.
    let b = g.B.BatchName.batch in
    let w = was-refused b c.args.self.now c.args.number (sym c.in_ok-turn.ensures.comes ∙ c.in-Spent.is) in
    let e = c.in-Some.ensures w.point w.asked in
    let same : w.point ≡ c.in-Some.p = cc e in
    let at = subst (λ (z : Plan). IsRefusedAt z c.args.number c.in-Some.p) (sym c.in_ok-turn.ensures.ok) (subst (λ x. IsRefusedAt (turn b c.args.self.now c.args.number) c.args.number x) same w.after) in
    round-refused b c.args.self.now c.turn.new.self c.args.number c.in_ok-turn.field-0 c.in_ok-turn.ensures.comes c.in_ok-turn.ensures.ok c.requires.lawful g.B.BatchName.opening a old _ r c.in-Spent.is c.refuse.new.self c.in-Some.p
    (refused-tells c.turn.new.self c.args.number c.in-Some.p at)
    (refused-records c.turn.new.self c.args.number c.in-Some.p at c.refuse.new.self c.in_ok-refuse-in-Spent.ensures.ok.0 c.in_ok-refuse-in-Spent.ensures.ok.1.0 c.in_ok-refuse-in-Spent.ensures.ok.1.1)

pub returns-in_default : goal.returns-in_default
returns-in_default g c =
    let b = g.B.BatchName.batch in
    record {
      count = round-count b c.args.self.now c.turn.new.self c.args.number c.in_ok-turn.field-0 c.in_ok-turn.ensures.comes c.in_ok-turn.ensures.ok;
      less = λ more. round-less b c.args.self.now c.turn.new.self c.args.number c.in_ok-turn.field-0 c.in_ok-turn.ensures.comes c.in_ok-turn.ensures.ok c.in_default.not-NotReady;
      runs = λ a old r. round-on b c.args.self.now c.turn.new.self c.args.number c.in_ok-turn.field-0 c.in_ok-turn.ensures.comes c.in_ok-turn.ensures.ok c.requires.lawful g.B.BatchName.opening a old _ r c.in_default.not-Spent;
      ended = λ a old r e. absurd (true≢false e);
      stops = λ a old r. tt;
    }
