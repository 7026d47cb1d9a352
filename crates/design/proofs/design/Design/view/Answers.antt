use Rattle.std.proofs.Common.{ap, sym, subst, ◌∙◌, ◌<◌, length}
use Rattle.design.specs.Joined.{Joined}
use Rattle.design.specs.inner.HeldSignals.{value_of}
use Rattle.design.specs.inner.KeptDesigns.{IsViewOf}
use Rattle.design.proofs.Holding.{below, held-view, open-view, is-design}
use Rattle.design.proofs.design.Design.view.Goals as goal

pub view-requires : goal.view-requires
view-requires c = subst (λ (k : Joined). c.args.signal < length k.circuit.drivers) (sym c.deref-in-None.ensures) (below _ _ _ c.self.invariant c.args.self.now c.self.view_is c.args.signal c.requires)

pub returns-in-None : goal.returns-in-None
returns-in-None c =
    let open' = ap (λ xs. value_of xs c.args.signal) (sym c.deref.ensures.value) ∙ sym c.value_of.ensures ∙ c.in-None.is in
    record {
      view = open-view _ _ _ c.self.invariant c.args.self.now c.self.view_is c.args.signal c.requires c.view.result open'
          (subst (λ (k : Joined). IsViewOf k.circuit c.args.signal c.view.result) c.deref-in-None.ensures c.view.ensures);
      design = is-design _ _ _ c.self.invariant c.args.self.now c.self.view_is;
    }

pub returns-in-Some : goal.returns-in-Some
returns-in-Some c =
    let held = ap (λ xs. value_of xs c.args.signal) (sym c.deref.ensures.value) ∙ sym c.value_of.ensures ∙ c.in-Some.is in
    record {
      view = held-view _ _ _ c.self.invariant c.args.self.now c.self.view_is c.args.signal c.requires c.in-Some.value c.held_settings.result held c.held_settings.ensures;
      design = is-design _ _ _ c.self.invariant c.args.self.now c.self.view_is;
    }
