use Rattle.std.proofs.Common.{◌≡◌, [], ◌∷◌, ◌++◌, List, is_some, Option, sym, ap, subst, ◌∙◌}
use Rattle.valid_intervals.specs.declared.Point.{Point}
use Rattle.plan_machine.specs.Strands as strands
use Rattle.plan_machine.specs.Plans.{Plan, new_plan}
use Rattle.plan_machine.specs.Alone.{RanAlone}
use Rattle.plan_machine.specs.Laws.{BeginsAlone}
use Rattle.plan_machine.specs.Standings.{AskedAlone}
use Rattle.plan_machine.proofs.Callers.{begins, asked}
use Rattle.demand_points.specs.Demands.{Demand}
use Rattle.plan_core.specs.Parts.{AreFreshStrands, shards_in, strands_in}
use Rattle.plan_core.specs.Refusals.{point_of}
use Rattle.plan_core.specs.asked.Memos as memos
use Rattle.plan_core.proofs.RunsAlone.{free-shards, new-strand, numbered}
use Rattle.plan_core.proofs.AskedCells.{ran-alone}
use Rattle.plan_core.proofs.asked.memo.run_one.Goals as goal
use Rattle.plan_core.proofs.asked.memo.run_one.Goals.{in-Spent, in_default}

pub new-requires-clause-shards : goal.new-requires-clause-shards
new-requires-clause-shards g c = free-shards g.B.BatchName.batch g.B.BatchName.opening c.args.shards.items c.requires.numbers c.requires.fresh

pub new-requires-clause-strands : goal.new-requires-clause-strands
new-requires-clause-strands g c =
    let b = g.B.BatchName.batch in
    let a = memos.asked_at c.args.query c.args.time c.args.charge in
    let strand = c.start-strand.result in
    let items : c.push.new.self.items ≡ strand ∷ [] = c.in_ok-push.ensures.items ∙ ap (λ (l : List Demand). l ++ strand ∷ []) c.new-strands.ensures.items in
    subst (AreFreshStrands b) (sym items) (new-strand b a c.requires.start strand c.start-strand.ensures.number c.start-strand.ensures.strand)

pub returns-clause-numbers : goal.returns-clause-numbers
returns-clause-numbers g c = numbered c.into_shards.result.items c.into_shards.ensures.order

pub returns-clause-asked : goal.returns-clause-asked
returns-clause-asked g c =
    let b = g.B.BatchName.batch in
    let opening = g.B.BatchName.opening in
    let a = memos.asked_at c.args.query c.args.time c.args.charge in
    let old = shards_in c.args.shards.items in
    let made : Plan = new_plan b (a ∷ []) old in
    let strand = c.start-strand.result in
    let items : c.push.new.self.items ≡ strand ∷ [] = c.in_ok-push.ensures.items ∙ ap (λ (l : List Demand). l ++ strand ∷ []) c.new-strands.ensures.items in
    let alone : strands_in c.push.new.self.items ≡ strands.started_strand b.circuit a ∷ [] = ap strands_in items ∙ ap (λ s. s ∷ []) c.start-strand.ensures.strand in
    let is : c.in_ok-plan.plan ≡ made = c.in_ok-plan.ensures.ok ∙ ap (λ ss. record { strands = ss; shards = old }) alone in
    let o : Option Point = point_of c.in_ok-alone.alone in
    let ran = c.in_ok-alone.ensures.ran a (subst (BeginsAlone b opening 0 a) (sym is) (begins b c.requires.lawful opening old c.requires.fresh a c.requires.start)) in
    let from : RanAlone b opening 0 a made c.run_alone.new.self o = subst (λ p. RanAlone b opening 0 a p c.run_alone.new.self o) is ran in
    let known : AskedAlone b opening a old c.run_alone.new.self.shards o = asked b c.requires.lawful opening old a c.run_alone.new.self o from in
    let spent : c.match-matches.matches ≡ is_some o = elim c.match-matches.branch [
      | in-Spent w ↦ w.matches-is ∙ sym (ap (λ z. is_some (point_of z)) w.in-Spent.is)
      | in_default w ↦ w.matches-is ∙ sym (ap (λ z. is_some (point_of z)) w.in_default.is)
    ] in
    ran-alone b opening a old (shards_in c.into_shards.result.items) o c.match-matches.matches spent (subst (λ hs. AskedAlone b opening a old hs o) (sym c.into_shards.ensures.shards) known)
