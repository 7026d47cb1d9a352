use Rattle.std.proofs.Common.{List, sym, ap, ap₂, subst, ◌∙◌}
use Rattle.cell_store.specs.declared.index.Node.{Node}
use Rattle.cell_store.specs.inner.Heads.{head_for}
use Rattle.cell_store.specs.inner.Lists.{listed, or_else}
use Rattle.cell_store.specs.inner.Maps.{IsWhole}
use Rattle.cell_store.proofs.Owned.{by_common, empty_whole}
use Rattle.cell_store.proofs.index.CellIndex.new.Goals as goal

pub invariant_of-result : goal.invariant_of-result
invariant_of-result c =
    subst (λ (l : List Node). IsWhole l (head_for c.new.result) c.new-3.result) (sym c.new-2.ensures.items) (empty_whole (head_for c.new.result) c.new-3.result c.new.ensures.many c.new.ensures.own c.new-3.ensures.common)

pub returns : goal.returns
returns c =
    λ k.
    ap₂ or_else (ap (λ (l : List Node). listed l k) c.new-2.ensures.items)
    (by_common (head_for c.new.result k.signal) c.new-3.result k (c.new.ensures.own k.signal) ∙ c.new-3.ensures.common k)
