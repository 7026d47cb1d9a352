use Rattle.std.proofs.Common.{◌≡◌, ℕ, List, None, ap, sym, subst, ◌∙◌, rules}
use Rattle.cell_store.specs.declared.index.Place.{Place}
use Rattle.cell_store.specs.inner.SignalCells.{kept_at, AreInOrder, HaveBegun}
use Rattle.cell_store.proofs.Starts.{inserted, order_inserted}
use Rattle.cell_store.proofs.signal_cells.insert_listed.Goals as goal

pub returns-clause-new : goal.returns-clause-new
returns-clause-new c =
    let none : kept_at c.args.few.now.items c.args.start ≡ None = search rules in
    λ t. ap (λ (es : List (ℕ × Place)). kept_at es t) c.in_ok-insert.ensures.items ∙ inserted c.args.few.now.items c.begun_by-begun.result c.args.start c.args.place none t

pub returns-clause-order : goal.returns-clause-order
returns-clause-order c =
    let none : kept_at c.args.few.now.items c.args.start ≡ None = search rules in
    let have = subst (λ (es : List (ℕ × Place)). HaveBegun es c.args.start c.begun_by-begun.result) c.deref.ensures.value c.begun_by-begun.ensures in
    subst (λ (es : List (ℕ × Place)). AreInOrder es) (sym c.in_ok-insert.ensures.items) (order_inserted c.args.few.now.items c.begun_by-begun.result c.args.start c.args.place c.requires none have)
