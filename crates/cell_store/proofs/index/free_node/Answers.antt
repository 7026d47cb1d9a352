use Rattle.std.proofs.Common.{List, sym, subst, arith}
use Rattle.cell_store.specs.declared.index.Node.{Node}
use Rattle.cell_store.specs.inner.Lists.{AreSteady, IsFree}
use Rattle.cell_store.proofs.Nodes.{pushed_steady, pushed_free}
use Rattle.cell_store.proofs.index.free_node.Goals as goal

pub returns-clause-steady : goal.returns-clause-steady
returns-clause-steady c =
    subst (λ (l : List Node). AreSteady c.args.nodes.now.items l) (sym c.in_ok-push.ensures.items)
    (pushed_steady c.args.nodes.now.items c.free_at.result c.len-i.result (omega (arith, c.len-i.ensures)) c.free_at.ensures.free c.free_at.ensures.next)

pub returns-clause-free : goal.returns-clause-free
returns-clause-free c =
    subst (λ (l : List Node). IsFree l c.len-i.result) (sym c.in_ok-push.ensures.items)
    (pushed_free c.args.nodes.now.items c.free_at.result c.len-i.result (omega (arith, c.len-i.ensures)) c.free_at.ensures.free)
