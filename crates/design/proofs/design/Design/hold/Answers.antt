use Rattle.std.proofs.Common.{arith, ℕ, ap, ap₂, sym, subst, ◌∙◌, List, ◌∷◌, Option, option_map}
use Rattle.std.proofs.lemmas.Grind.{common_steps}
use Rattle.std.specs.Arc.{arc_value}
use Rattle.design.specs.declared.held.HeldSignal.{HeldSignal}
use Rattle.design.specs.Joined.{Joined}
use Rattle.design.specs.inner.HeldSignals.{held_circuit, IsHeldDesign}
use Rattle.design.proofs.Holding.{held-more, circuit-more, netlist-is}
use Rattle.design.proofs.design.Design.hold.Goals as goal

pub invariant_of-result : goal.invariant_of-result
invariant_of-result c =
    let list = c.in_ok-with_first.ensures ∙ ap (λ (xs : List HeldSignal). record { site = c.args.site; value = c.args.value } ∷ xs) c.deref.ensures.value in
    let more = held-more _ _ _ c.self.invariant c.args.self.now c.self.view_is c.args.site c.args.value c.requires in
    subst (λ (j : Joined). IsHeldDesign j (option_map arc_value c.in_ok-clone.field-0) c.in_ok-with_first.field-0.items) (sym c.in_ok-try_clone.ensures)
    (subst (λ (made : Option (List (List ℕ))). IsHeldDesign (arc_value c.self.inside.origin) made c.in_ok-with_first.field-0.items) (grind (arith, common_steps))
    (subst (IsHeldDesign (arc_value c.self.inside.origin) (option_map arc_value c.self.inside.readers)) (sym list) more))

pub returns : goal.returns
returns c =
    let list = c.in_ok-with_first.ensures ∙ ap (λ (xs : List HeldSignal). record { site = c.args.site; value = c.args.value } ∷ xs) c.deref.ensures.value in
    record {
      circuit = ap₂ (λ (j : Joined) (xs : List HeldSignal). held_circuit j.circuit xs) c.in_ok-try_clone.ensures list ∙ circuit-more _ _ _ c.self.invariant c.args.self.now c.self.view_is c.args.site c.args.value c.requires;
      netlist = ap (λ (j : Joined). j.netlist) c.in_ok-try_clone.ensures ∙ netlist-is _ _ _ c.self.invariant c.args.self.now c.self.view_is;
    }
