use Rattle.std.proofs.Common.{sym, ap, ◌∙◌}
use Rattle.gate_values.specs.Gates.{gate_value}
use Rattle.gate_values.proofs.Decided.{gate_value-decided}
use Rattle.gate_values.proofs.Look.end.Goals as goal

pub returns-clause-decided : goal.returns-clause-decided
returns-clause-decided c = λ h rest.
    gate_value-decided c.args.self.now.kind c.args.self.now.values rest h ∙ ap (λ s. gate_value s.kind s.values) (sym c.self.view_is) ∙ sym c.eval_all.ensures
