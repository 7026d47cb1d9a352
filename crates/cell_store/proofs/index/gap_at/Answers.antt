use Rattle.std.proofs.Common.{ℕ, Option, Some, sym, subst}
use Rattle.std.proofs.lemmas.Option.{slice_get-get_or}
use Rattle.cell_store.proofs.Nodes.{IsSearching, within, search_goes_on, search_shorter}
use Rattle.cell_store.proofs.index.gap_at.Goals as goal

pub loop-gap-smaller : goal.loop-gap-smaller
loop-gap-smaller c =
    search_shorter c.args.nodes.now c.args.first c.args.at.signal c.args.at.start c.requires c.loop-gap.gap c.loop-gap.invariant c.in-Some.i c.in-Some.is _
    (slice_get-get_or c.args.nodes.now c.in-Some.i _ (within c.args.nodes.now c.args.first c.args.at.signal c.args.at.start c.requires c.loop-gap.gap c.loop-gap.invariant c.in-Some.i c.in-Some.is)) c.link_of.result c.link_of.ensures

pub loop-gap-preserved : goal.loop-gap-preserved
loop-gap-preserved c =
    subst (λ (o : Option ℕ). IsSearching c.args.nodes.now c.args.first c.args.at.signal c.args.at.start (record { before = Some c.in-Some.i; after = o })) (sym c.link_of.ensures)
    (search_goes_on c.args.nodes.now c.args.first c.args.at.signal c.args.at.start c.requires c.loop-gap.gap c.loop-gap.invariant c.in-Some.i c.in-Some.is _
    (slice_get-get_or c.args.nodes.now c.in-Some.i _ (within c.args.nodes.now c.args.first c.args.at.signal c.args.at.start c.requires c.loop-gap.gap c.loop-gap.invariant c.in-Some.i c.in-Some.is)) c.if-node-at.false)
