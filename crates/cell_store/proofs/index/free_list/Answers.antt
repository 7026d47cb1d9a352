use Rattle.std.proofs.Common.{◌≡◌, ℕ, Bool, cond, nat_eq, length, Option, Some, refl, sym, ap, subst, ◌∙◌}
use Rattle.std.specs.List.{slice_get}
use Rattle.std.proofs.lemmas.Option.{slice_get_read}
use Rattle.cell_store.specs.declared.Key.{Key}
use Rattle.cell_store.specs.declared.index.Place.{Place}
use Rattle.cell_store.specs.inner.Heads.{head_for}
use Rattle.cell_store.specs.inner.Lists.{link_in, link_at, held_at, bound}
use Rattle.cell_store.proofs.Emptied.{IsEmptying, empties_more, way_on, still_within, link_read}
use Rattle.cell_store.proofs.index.free_list.Goals as goal

pub loop-at-smaller : goal.loop-at-smaller
loop-at-smaller c =
    let low = still_within c.args.nodes.now.items (head_for c.args.heads.now) c.requires c.args.signal c.loop-at.at c.in-Some.i c.in-Some.is c.loop-at.nodes.items c.loop-at.invariant in
    let at : slice_get c.loop-at.nodes.items c.in-Some.i ≡ Some c.index.result.now = slice_get_read c.loop-at.nodes.items (length c.loop-at.nodes.items) c.in-Some.i c.index.result.now refl low c.index.ensures in
    let next : c.link_of-at.result ≡ link_at c.args.nodes.now.items c.in-Some.i =
    c.link_of-at.ensures ∙ sym (ap (bound (link_in c.in-Some.i)) at) ∙ link_read c.args.nodes.now.items (head_for c.args.heads.now) c.requires c.args.signal c.loop-at.at c.in-Some.i c.in-Some.is c.loop-at.nodes.items c.loop-at.invariant in
    way_on c.args.nodes.now.items (head_for c.args.heads.now) c.requires c.args.signal c.loop-at.at c.in-Some.i c.in-Some.is c.loop-at.invariant.on c.link_of-at.result next

pub loop-at-preserved : goal.loop-at-preserved
loop-at-preserved c =
    let low = still_within c.args.nodes.now.items (head_for c.args.heads.now) c.requires c.args.signal c.loop-at.at c.in-Some.i c.in-Some.is c.loop-at.nodes.items c.loop-at.invariant in
    let at : slice_get c.loop-at.nodes.items c.in-Some.i ≡ Some c.index.result.now = slice_get_read c.loop-at.nodes.items (length c.loop-at.nodes.items) c.in-Some.i c.index.result.now refl low c.index.ensures in
    let next : c.link_of-at.result ≡ link_at c.args.nodes.now.items c.in-Some.i =
    c.link_of-at.ensures ∙ sym (ap (bound (link_in c.in-Some.i)) at) ∙ link_read c.args.nodes.now.items (head_for c.args.heads.now) c.requires c.args.signal c.loop-at.at c.in-Some.i c.in-Some.is c.loop-at.nodes.items c.loop-at.invariant in
    subst (λ (o : Option ℕ). IsEmptying c.args.nodes.now.items c.args.signal o c.write_node.new.nodes.items) (sym next)
    (empties_more c.args.nodes.now.items (head_for c.args.heads.now) c.requires c.args.signal c.loop-at.at c.in-Some.i c.in-Some.is c.loop-at.nodes.items c.loop-at.invariant c.write_node.new.nodes.items c.write_node.ensures.within
    (λ j. c.write_node.ensures.held j ∙ ap (λ (o : Option (Key × Place)). cond (nat_eq c.in-Some.i j) o (held_at c.loop-at.nodes.items j)) c.free_at.ensures.free)
    (λ j d. c.write_node.ensures.link j ∙ ap (λ (b : Bool). cond b (link_in c.in-Some.i c.free_at.result) (link_at c.loop-at.nodes.items j)) d))
