use Rattle.std.proofs.Common.{ap, ◌∙◌}
use Rattle.std.proofs.lemmas.Bool.{false≢true}
use Rattle.demand_points.specs.inner.Stacks.{with_top}
use Rattle.demand_points.proofs.Tops.{top-written, no-top}
use Rattle.demand_points.proofs.stack.Stack.set_top.Goals as goal
use Rattle.demand_points.proofs.stack.Stack.set_top.Goals.{in-Some, in_default}

pub returns : goal.returns
returns c =
    let v = c.self.inside.items in
    let top = ap (with_top c.args.walk) c.self.view_is in
    elim c.match-last_mut.branch [
      | in-Some w ↦ rw w.self-inside-is (top-written v.items v.len c.args.walk v.ok.0 ∙ top)
      | in_default w ↦ rw w.self-inside-is (no-top v.items v.len c.args.walk v.ok.0 (λ h. false≢true (w.in_default.ensures.variant.1 h)) ∙ top)
    ]
