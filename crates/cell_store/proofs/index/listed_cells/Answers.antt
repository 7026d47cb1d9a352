use Rattle.std.proofs.Common.{◌≡◌, ℕ, cond, nat_eq, List, length, Option, Some, None, IfNone, option_map, refl, sym, ap, subst, ◌∙◌, arith}
use Rattle.std.proofs.lemmas.Option.{slice_get_read}
use Rattle.cell_store.specs.declared.index.Node.{Node}
use Rattle.cell_store.specs.declared.index.Place.{Place}
use Rattle.cell_store.specs.inner.Heads.{head_for}
use Rattle.cell_store.specs.inner.Lists.{first_in, link_in, bound}
use Rattle.cell_store.specs.inner.SignalCells.{kept_at}
use Rattle.cell_store.proofs.Emptied.{IsCopied, copies_none, copies_new, copies_more, way_on, on_within}
use Rattle.cell_store.proofs.index.listed_cells.Goals as goal

pub loop-at-init : goal.loop-at-init
loop-at-init c =
    subst (λ (o : Option ℕ). IsCopied c.args.nodes.now.items c.args.signal o (kept_at c.new-cells.result)) (sym (c.first_of-at.ensures ∙ ap first_in c.at.ensures))
    (copies_none c.args.nodes.now.items (head_for c.args.heads.now) c.requires c.args.signal (kept_at c.new-cells.result) (λ t. ap (λ (es : List (ℕ × Place)). kept_at es t) c.new-cells.ensures))

pub index-requires : goal.index-requires
index-requires c =
    let low = on_within c.args.nodes.now.items (head_for c.args.heads.now) c.requires c.args.signal c.loop-at.at c.in-Some.i c.in-Some.is c.loop-at.invariant.on in
    omega (arith, low, c.args.nodes.now.ok.0)

pub loop-at-smaller : goal.loop-at-smaller
loop-at-smaller c =
    let at = slice_get_read c.args.nodes.now.items (length c.args.nodes.now.items) c.in-Some.i c.index.result.now refl
    (on_within c.args.nodes.now.items (head_for c.args.heads.now) c.requires c.args.signal c.loop-at.at c.in-Some.i c.in-Some.is c.loop-at.invariant.on) c.index.ensures in
    way_on c.args.nodes.now.items (head_for c.args.heads.now) c.requires c.args.signal c.loop-at.at c.in-Some.i c.in-Some.is c.loop-at.invariant.on c.link_of-at.result (c.link_of-at.ensures ∙ sym (ap (bound (link_in c.in-Some.i)) at))

pub loop-at-preserved : goal.loop-at-preserved
loop-at-preserved c =
    let n : Node = c.index.result.now in
    let at = slice_get_read c.args.nodes.now.items (length c.args.nodes.now.items) c.in-Some.i c.index.result.now refl
    (on_within c.args.nodes.now.items (head_for c.args.heads.now) c.requires c.args.signal c.loop-at.at c.in-Some.i c.in-Some.is c.loop-at.invariant.on) c.index.ensures in
    let absent : c.in_ok-insert_if_absent.field-0 ≡ None =
    c.in_ok-insert_if_absent.ensures.had
    ∙ ap (option_map (λ (p : Place). p.slot)) (copies_new c.args.nodes.now.items (head_for c.args.heads.now) c.requires c.args.signal c.loop-at.at c.in-Some.i c.in-Some.is n at (kept_at c.loop-at.cells) c.loop-at.invariant) in
    let came = subst (λ (o : Option ℕ). IfNone o ((t : ℕ) → kept_at c.insert_if_absent.new.self t ≡ cond (nat_eq n.start t) (Some c.place_in.result) (kept_at c.loop-at.cells t))) absent c.in_ok-insert_if_absent.ensures.new in
    subst (λ (o : Option ℕ). IsCopied c.args.nodes.now.items c.args.signal o (kept_at c.insert_if_absent.new.self)) (ap (bound (link_in c.in-Some.i)) at ∙ sym c.link_of-at.ensures)
    (copies_more c.args.nodes.now.items (head_for c.args.heads.now) c.requires c.args.signal c.loop-at.at c.in-Some.i c.in-Some.is n at (kept_at c.loop-at.cells) (kept_at c.insert_if_absent.new.self) c.loop-at.invariant
    (λ t. came t ∙ ap (λ (p : Place). cond (nat_eq n.start t) (Some p) (kept_at c.loop-at.cells t)) c.place_in.ensures))
