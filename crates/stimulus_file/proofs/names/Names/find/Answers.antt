use Rattle.std.proofs.Common.{ℕ, sym, ap, subst, ◌∙◌}
use Rattle.stimulus_file.specs.declared.names.Names.{Names}
use Rattle.stimulus_file.specs.inner.KeptSettings.{ArePlaces}
use Rattle.stimulus_file.proofs.Naming.{is_later, with_time}
use Rattle.stimulus_file.proofs.Finding.{finds_again}
use Rattle.stimulus_file.proofs.names.Names.find.Goals as goal

pub returns-in_default : goal.returns-in_default
returns-in_default c = λ sets has. c.add.ensures sets has (c.in_default.ensures has.places)

pub returns : goal.returns
returns c = λ sets has.
    let place : ℕ = c.in-Some.place in
    let followed = c.follow.ensures in
    let kept = c.is_later-is_later.ensures in
    finds_again c.args.self.now c.is_later-is_later.new.self sets c.args.name c.args.time has place c.is_later-is_later.result
    (ap (λ (n : Names). n.texts.items) kept.same ∙ ap (λ (n : Names). n.texts.items) followed)
    (subst ArePlaces (sym kept.same) (subst ArePlaces (sym followed) has.places))
    (c.in-Some.ensures has.places)
    (kept.later ∙ ap (λ (n : Names). is_later n.latest.items place c.args.time) followed)
    (kept.latest ∙ ap (λ (n : Names). with_time n.latest.items place c.args.time c.is_later-is_later.result) followed)
