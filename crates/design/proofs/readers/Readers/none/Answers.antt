use Rattle.design.proofs.Links.{none-linked}
use Rattle.design.proofs.readers.Readers.none.Goals as goal

pub returns : goal.returns
returns c = none-linked _ _ c.args.signals c.in_ok-with_capacity.ensures.items (c.in_ok-vec.ensures.items_if_clones_equal (λ y e. e))
