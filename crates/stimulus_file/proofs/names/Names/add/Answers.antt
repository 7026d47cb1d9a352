use Rattle.std.proofs.Common.{ℕ, Bool, cond, List, [], ◌∷◌, ◌++◌, Some, ap, ◌∙◌}
use Rattle.std.specs.BTreeMap.{get}
use Rattle.std.proofs.lemmas.Map.Text.{is_eq-slice_cmp}
use Rattle.stimulus_file.specs.declared.names.Names.{Names}
use Rattle.stimulus_file.specs.inner.KeptSettings.{name_cmp}
use Rattle.stimulus_file.proofs.Finding.{finds_new}
use Rattle.stimulus_file.proofs.names.Names.add.Goals as goal

pub returns : goal.returns
returns c = λ sets has never.
    let old = c.args.self.now in
    let followed = c.follow.ensures in
    finds_new old c.follow.new.self sets c.args.name c.args.time has c.in-Ok.place (c.in-Ok.ensures.1 ∙ c.len.ensures ∙ old.texts.ok.0)
    (ap (λ (n : Names). n.texts.items) followed ∙ c.in_ok-push.ensures.items ∙ ap (λ (n : List ℕ). old.texts.items ++ n ∷ []) c.in_ok-from_bytes.ensures)
    (ap (λ (n : Names). n.latest.items) followed ∙ c.in_ok-push-2.ensures.items) never
    (λ p. ap (λ (n : Names). get name_cmp n.places p) followed ∙ c.in_ok-insert.ensures.updates.0 p
    ∙ ap (λ (b : Bool). cond b (Some c.in-Ok.place) (get name_cmp old.places p)) (is_eq-slice_cmp c.args.name.now p.now))
