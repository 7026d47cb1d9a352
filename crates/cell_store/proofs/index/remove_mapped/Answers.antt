use Rattle.std.proofs.Common.{subst, arith}
use Rattle.cell_store.specs.declared.heads.Head.{Head}
use Rattle.cell_store.specs.inner.Heads.{head_for}
use Rattle.cell_store.specs.inner.Lists.{HeadSet}
use Rattle.cell_store.proofs.Owned.{unmapped_stays, unmapped_gone}
use Rattle.cell_store.proofs.index.remove_mapped.Goals as goal

pub release_empty-requires : goal.release_empty-requires
release_empty-requires c = λ own. let low = c.requires.there own in omega (arith, low, c.remove.ensures.long)

pub returns-then-release_empty : goal.returns-then-release_empty
returns-then-release_empty c =
    unmapped_gone (head_for c.args.heads.now) (head_for c.replace.new.self) c.args.maps.now c.remove.new.self c.release_empty.new.self c.args.key.now c.args.head c.requires.head c.remove.ensures
    (c.release_empty.ensures.own c.if-release_empty.true) (c.release_empty.ensures.released c.if-release_empty.true) (c.release_empty.ensures.empty c.if-release_empty.true)
    (λ s. subst (λ (h : Head). HeadSet (head_for c.args.heads.now) (head_for c.replace.new.self) c.args.key.now.signal h) c.no_head.ensures c.replace.ensures s)

pub returns-else-release_empty : goal.returns-else-release_empty
returns-else-release_empty c =
    unmapped_stays (head_for c.args.heads.now) c.args.maps.now c.remove.new.self c.release_empty.new.self c.args.key.now c.args.head c.requires.head c.remove.ensures (c.release_empty.ensures.stays c.if-release_empty.false)
