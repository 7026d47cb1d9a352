use Rattle.std.proofs.Common.{◌∙◌, sym, ap, rules}
use Rattle.std.proofs.lemmas.Fn.{dedup_same}
use Rattle.design.specs.inner.Changes.{is_at_one_value, begins_with_x}
use Rattle.design.proofs.ChangedSettings.{changes-without, changes-with}
use Rattle.design.proofs.settings.changes.Goals as goal

pub returns-then-begins_with_x : goal.returns-then-begins_with_x
returns-then-begins_with_x c =
    let deduped = dedup_same _ is_at_one_value _ (λ x y b f u v k. search rules) c.args.settings.items c.dedup_by_key.new.self.items c.dedup_by_key.ensures.filtered in
    c.remove.ensures.items ∙ changes-without c.args.settings.items c.dedup_by_key.new.self.items deduped (ap begins_with_x (sym c.deref.ensures.value) ∙ sym c.begins_with_x.ensures ∙ c.if-begins_with_x.true)

pub returns-else-begins_with_x : goal.returns-else-begins_with_x
returns-else-begins_with_x c =
    let deduped = dedup_same _ is_at_one_value _ (λ x y b f u v k. search rules) c.args.settings.items c.dedup_by_key.new.self.items c.dedup_by_key.ensures.filtered in
    changes-with c.args.settings.items c.dedup_by_key.new.self.items deduped (ap begins_with_x (sym c.deref.ensures.value) ∙ sym c.begins_with_x.ensures ∙ c.if-begins_with_x.false)
