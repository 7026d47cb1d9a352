use Rattle.std.proofs.Common.{ℕ, Option, IfSome, subst}
use Rattle.cell_store.specs.inner.Heads.{head_for}
use Rattle.cell_store.specs.inner.Maps.{IsAdded}
use Rattle.cell_store.proofs.Emptied.{HasMoved, has_moved}
use Rattle.cell_store.proofs.index.move_list.Goals.{After-replace}
use Rattle.cell_store.proofs.index.move_list.Goals as goal

now_moved : (c : After-replace) → HasMoved c.args.nodes.now.items c.free_list.new.nodes.items (head_for c.args.heads.now) (head_for c.replace.new.self) c.args.maps.now c.add.new.self c.args.signal
now_moved c =
    has_moved c.args.nodes.now.items (head_for c.args.heads.now) c.args.maps.now c.requires.whole c.args.signal c.requires.alone c.in_ok-cells.cells c.in_ok-cells.ensures c.add.new.self c.in-Some.first
    (subst (λ (o : Option ℕ). IfSome o (IsAdded c.args.maps.now c.add.new.self c.args.signal c.in_ok-cells.cells)) c.in-Some.is c.in_ok-first.ensures.added) c.free_list.new.nodes.items c.free_list.ensures (head_for c.replace.new.self)
    c.replace.ensures

pub returns-clause-whole : goal.returns-clause-whole
returns-clause-whole c = (now_moved (goal.at.returns-clause-whole c).After-replace).whole

pub returns-clause-same : goal.returns-clause-same
returns-clause-same c = (now_moved (goal.at.returns-clause-same c).After-replace).same

pub returns-clause-unlisted : goal.returns-clause-unlisted
returns-clause-unlisted c = (now_moved (goal.at.returns-clause-unlisted c).After-replace).unlisted
