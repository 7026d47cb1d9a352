use Rattle.std.proofs.Common.{subst, ◌∙◌, sym, ℕ, Option}
use Rattle.cell_store.specs.inner.Heads.{head_at, HasHead}
use Rattle.cell_store.proofs.Pages.{has_place}
use Rattle.cell_store.proofs.heads.Heads.replace.Goals as goal

pub write_head-requires : goal.write_head-requires
write_head-requires c =
    has_place c.args.self.now.pages.items c.in-Some.local (subst (λ (o : Option ℕ). HasHead (head_at c.args.self.now.pages.items o)) (sym c.local_number.ensures ∙ c.in-Some.is) c.requires)
