use Rattle.std.proofs.Common.{◌<◌, refl, ap, sym, subst, ◌∙◌}
use Rattle.std.proofs.lemmas.Bool.{false≢true}
use Rattle.design.specs.PinWalks.{LooksOn}
use Rattle.demand_points.specs.inner.Stacks.{IsTop, ChangesTop, with_top}
use Rattle.demand_points.proofs.Tops.{top-written, top-read, top-changed, none-there, none-changed}
use Rattle.demand_points.proofs.stack.Stack.see.Goals as goal
use Rattle.demand_points.proofs.stack.Stack.see.Goals.{in-Some, in_default}

pub returns : goal.returns
returns c =
    let changes = ChangesTop (LooksOn c.args.design.now.circuit) c.args.self.now in
    let v = c.self.inside.items in
    elim c.match-last_mut.branch [
      | in-Some w ↦
          let f = w.in-Some.top.now in
          let g = w.see.new.self in
          let some : 0 < v.len = w.in-Some.ensures.variant.0 refl in
          let top : IsTop c.args.self.now f = subst (λ st. IsTop st f) c.self.view_is (top-read v.items v.len f v.ok.0 some w.in-Some.ensures.value) in
          rw w.self-inside-is (subst changes (sym (top-written v.items v.len g v.ok.0 ∙ ap (with_top g) c.self.view_is)) (top-changed (LooksOn c.args.design.now.circuit) c.args.self.now f g top w.see.ensures))
      | in_default w ↦
          let none = none-there v.items v.len v.ok.0 (λ h. false≢true (w.in_default.ensures.variant.1 h)) in
          rw w.self-inside-is (subst changes (sym c.self.view_is) (none-changed (LooksOn c.args.design.now.circuit) c.args.self.now (sym c.self.view_is ∙ none)))
    ]
