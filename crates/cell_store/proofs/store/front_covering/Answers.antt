use Rattle.std.proofs.Common.{refl, sym, subst, ◌∙◌}
use Rattle.cell_store.specs.inner.Index.{IsFront}
use Rattle.cell_store.proofs.store.front_covering.Goals as goal

pub returns-then-covers : goal.returns-then-covers
returns-then-covers c = λ entries front. record {
  slot = c.in_ok-x.field-0-0;
  x = c.in_ok-x.x;
  front = subst (λ o. IsFront o entries) c.in_ok-x.was front;
  covering = sym c.covers.ensures ∙ c.if-covers.true;
  is = refl;
}
