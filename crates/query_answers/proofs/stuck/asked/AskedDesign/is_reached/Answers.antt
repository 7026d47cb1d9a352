use Rattle.std.proofs.Common.{◌<◌, length, sym, ap, subst, ◌∙◌}
use Rattle.design.specs.Joined.{Joined}
use Rattle.query_answers.proofs.Sites.{flag-tells}
use Rattle.query_answers.proofs.stuck.asked.AskedDesign.is_reached.Goals as goal

pub returns-clause-reached : goal.returns-clause-reached
returns-clause-reached c =
    let same = c.in_ok-linked.ensures ∙ c.self.view_is in
    flag-tells _ _ c.in_ok-reached.reached c.args.site c.args.signal c.get-reads.result (ap (λ (d : Joined). d.circuit) same) c.get-reads.ensures
    (c.in_ok-reached.ensures.flags c.args.signal (subst (λ (d : Joined). c.args.signal < length d.circuit.drivers) (sym same) c.requires.signal))
