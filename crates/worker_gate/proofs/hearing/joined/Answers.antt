use Rattle.std.proofs.Common.{◌≡◌, ◌++◌, ◌∷◌, [], List, sym, subst, ◌∙◌, rules, map-id}
use Rattle.std.proofs.lemmas.Iterator.Consumers.{YieldsList-end}
use Rattle.std.proofs.lemmas.Iterator.Adapters.{YieldsList-from_vec}
use Rattle.plan_core.specs.declared.asked.fill_counts.FillCounts.{FillCounts}
use Rattle.worker_gate.specs.Said.{AreJoined}
use Rattle.worker_gate.proofs.Joined.{none-joined, more-joined}
use Rattle.worker_gate.proofs.hearing.joined.Goals as goal

pub loop-part-init : goal.loop-part-init
loop-part-init c = subst (λ (fills : List FillCounts). AreJoined [] fills) (sym c.new-said.ensures.fills) none-joined

pub loop-part-preserved : goal.loop-part-preserved
loop-part-preserved c =
    let said = c.in_ok-part.field-0 in
    let fills = c.loop-part.said.fills.items in
    let more = more-joined c.loop-part.yielded fills said c.loop-part.invariant in
    subst (λ (l : List FillCounts). AreJoined (c.loop-part.yielded ++ c.in-Some.part ∷ []) l) (sym c.in_ok-append.ensures.fills)
    (subst (λ p. AreJoined (c.loop-part.yielded ++ p ∷ []) (fills ++ said.fills.items)) (sym c.in_ok-part.was) more)

pub returns : goal.returns
returns c =
    let end = YieldsList-end (YieldsList-from_vec {s = c.into_iter-part-iterator.result} c.args.parts.items (search rules) (search rules))
    c.loop-part.yielded c.loop-part.part-iterator c.loop-part.yielded_by c.next.result c.next.new.self c.in-None.is c.next.ensures.steps in
    let same : c.loop-part.yielded ≡ c.args.parts.items = sym (map-id c.loop-part.yielded) ∙ end.0 in
    subst (λ parts. AreJoined parts c.loop-part.said.fills.items) same c.loop-part.invariant
