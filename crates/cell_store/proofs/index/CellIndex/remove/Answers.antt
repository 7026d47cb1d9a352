use Rattle.std.proofs.Common.{◌≡◌, ◌<◌, ℕ, false, inl, cond, List, length, Option, Some, None, IsSome, get_or, refl, sym, ap, ap₂, subst, ◌∙◌, arith}
use Rattle.std.specs.List.{slice_get}
use Rattle.std.specs.Ordering.{is_eq}
use Rattle.std.proofs.lemmas.Option.{slice_get_read}
use Rattle.cell_store.specs.declared.Key.{Key}
use Rattle.cell_store.specs.declared.heads.Head.{Head}
use Rattle.cell_store.specs.declared.index.Place.{Place}
use Rattle.cell_store.specs.declared.index.Node.{Node}
use Rattle.cell_store.specs.inner.Heads.{is_own, head_for}
use Rattle.cell_store.specs.inner.Index.{key_cmp}
use Rattle.cell_store.specs.inner.Lists.{held_at, link_at, firsts, first_in, bound, link_in, listed, or_else, starts_at, shorter_first, IsGap, IsTakenOut}
use Rattle.cell_store.specs.inner.Maps.{mapped_in, Places, place_of}
use Rattle.cell_store.proofs.Nodes.{held_within}
use Rattle.cell_store.proofs.Keys.{equal_keys}
use Rattle.cell_store.proofs.Listed.{else_changed}
use Rattle.cell_store.proofs.Owned.{there, listed_not_own, set_whole, set_mapped}
use Rattle.cell_store.proofs.Indexed.{gap_here, node_starting, none_starting, no_way_back, has_list, left_index, left_places}
use Rattle.cell_store.proofs.index.CellIndex.remove.Goals.{After-node_starting, After-replace}
use Rattle.cell_store.proofs.index.CellIndex.remove.Goals as goal

spot : (c : After-node_starting) → IsGap (held_at c.self.inside.nodes.items) (link_at c.self.inside.nodes.items) (firsts (head_for c.self.inside.heads) c.args.key.now.signal) c.args.key.now.signal c.args.key.now.start c.gap_at-gap.result
spot c =
    gap_here c.self.inside.nodes.items c.deref.result.now c.first_of.result (head_for c.self.inside.heads) c.at-head.result c.args.key.now.signal c.args.key.now.start c.gap_at-gap.result c.deref.ensures.value c.first_of.ensures
    c.at-head.ensures c.gap_at-gap.ensures

found : (c : After-node_starting) → c.node_starting.result ≡ cond (starts_at (bound (slice_get c.self.inside.nodes.items) c.gap_at-gap.result.after) c.args.key.now.start) c.gap_at-gap.result.after None
found c = c.node_starting.ensures ∙ ap (λ (l : List Node). cond (starts_at (bound (slice_get l) c.gap_at-gap.result.after) c.args.key.now.start) c.gap_at-gap.result.after None) c.deref-2.ensures.value

-- ---- no list has it
unlisted : (c : After-node_starting) → c.node_starting.result ≡ None → listed c.self.inside.nodes.items c.args.key.now ≡ None
unlisted c none =
    none_starting c.self.inside.nodes.items (head_for c.self.inside.heads) (mapped_in (head_for c.self.inside.heads) c.self.inside.maps) c.self.invariant.index c.args.key.now.signal c.args.key.now.start c.gap_at-gap.result (spot c) (sym none ∙ found c)

pub remove_mapped-requires-clause-there : goal.remove_mapped-requires-clause-there
remove_mapped-requires-clause-there c = there c.self.inside.nodes.items (head_for c.self.inside.heads) c.self.inside.maps c.self.invariant c.args.key.now.signal c.at-head.result c.at-head.ensures

pub invariant_of-self : goal.invariant_of-self
invariant_of-self c = c.remove_mapped.ensures.whole c.self.inside.nodes.items c.self.invariant (unlisted (goal.at.invariant_of-self c).After-node_starting c.in_default.is)

pub returns-in_default : goal.returns-in_default
returns-in_default c =
    λ q.
    let none = unlisted (goal.at.returns-in_default c).After-node_starting c.in_default.is in
    ap (or_else (listed c.self.inside.nodes.items q)) (c.remove_mapped.ensures.places c.self.inside.nodes.items c.self.invariant none q)
    ∙ else_changed (is_eq (key_cmp c.args.key.now q)) None (listed c.self.inside.nodes.items q) (mapped_in (head_for c.self.inside.heads) c.self.inside.maps q) (λ t. ap (listed c.self.inside.nodes.items) (sym (equal_keys c.args.key.now q t)) ∙ none)
    ∙ ap (λ (s : Places). cond (is_eq (key_cmp c.args.key.now q)) None (place_of s q)) c.self.view_is

-- ---- a list has it
was : (c : After-node_starting) (i : ℕ) → c.node_starting.result ≡ Some i → (p : Place) × (held_at c.self.inside.nodes.items i ≡ Some (c.args.key.now, p)) × (c.gap_at-gap.result.after ≡ Some i)
was c i is =
    node_starting c.self.inside.nodes.items (head_for c.self.inside.heads) (mapped_in (head_for c.self.inside.heads) c.self.inside.maps) c.self.invariant.index c.args.key.now.signal c.args.key.now.start c.gap_at-gap.result (spot c) i (sym is ∙ found c)

within : (c : After-node_starting) (i : ℕ) → c.node_starting.result ≡ Some i → i < length c.self.inside.nodes.items
within c i is = held_within c.self.inside.nodes.items i (subst (λ (o : Option (Key × Place)). IsSome o) (sym (was c i is).1) refl)

link_known : (nodes : List Node) (i : ℕ) (n : Node) (next : Option ℕ) → i < length nodes → n ≡ get_or nodes i n → next ≡ link_in i n → next ≡ link_at nodes i
link_known nodes i n next low is link = link ∙ sym (ap (bound (link_in i)) (slice_get_read nodes (length nodes) i n refl low is))

pub index-requires : goal.index-requires
index-requires c =
    let low = within (goal.at.index-requires c).After-node_starting c.in-Some.i c.in-Some.is in
    omega (arith, low, c.deref-2.ensures.len, ap (λ (l : List Node). length l) c.deref-2.ensures.value)

pub take_out-requires-clause-within : goal.take_out-requires-clause-within
take_out-requires-clause-within c = within (goal.at.take_out-requires-clause-within c).After-node_starting c.in-Some.i c.in-Some.is

pub take_out-requires-clause-next : goal.take_out-requires-clause-next
take_out-requires-clause-next c =
    let w : After-node_starting = (goal.at.take_out-requires-clause-next c).After-node_starting in
    let h = was w c.in-Some.i c.in-Some.is in
    no_way_back c.self.inside.nodes.items (head_for c.self.inside.heads) (mapped_in (head_for c.self.inside.heads) c.self.inside.maps) c.self.invariant.index c.in-Some.i c.args.key.now h.0 h.1 c.gap_at-gap.result (spot w) c.link_of-next.result
    (link_known c.self.inside.nodes.items c.in-Some.i c.index.result.now c.link_of-next.result (within w c.in-Some.i c.in-Some.is) c.index.ensures c.link_of-next.ensures)

many : (c : After-node_starting) (i : ℕ) → c.node_starting.result ≡ Some i → 0 < (head_for c.self.inside.heads c.args.key.now.signal).many
many c i is = let h = was c i is in has_list c.self.inside.nodes.items (head_for c.self.inside.heads) (mapped_in (head_for c.self.inside.heads) c.self.inside.maps) c.self.invariant.index i c.args.key.now h.0 h.1

pub shorter-requires : goal.shorter-requires
shorter-requires c = subst (λ (h : Head). 0 < h.many) (sym c.at-head.ensures) (many (goal.at.shorter-requires c).After-node_starting c.in-Some.i c.in-Some.is)

pub replace-requires : goal.replace-requires
replace-requires c = inl (many (goal.at.replace-requires c).After-node_starting c.in-Some.i c.in-Some.is)

was_not : (c : After-node_starting) (i : ℕ) → c.node_starting.result ≡ Some i → is_own (head_for c.self.inside.heads c.args.key.now.signal).more ≡ false
was_not c i is = listed_not_own c.self.inside.nodes.items (head_for c.self.inside.heads) c.self.inside.maps c.self.invariant c.args.key.now.signal (many c i is)

same_more : (c : After-replace) → c.shorter.result.more ≡ (head_for c.self.inside.heads c.args.key.now.signal).more
same_more c = c.shorter.ensures.more ∙ ap (λ (x : Head). x.more) c.at-head.ensures

record IsOut (c : After-replace) : Type 0 where
  out : IsTakenOut c.self.inside.nodes.items c.take_out.new.nodes.items c.in-Some.i c.gap_at-gap.result.before (link_at c.self.inside.nodes.items c.in-Some.i)
  first : first_in c.shorter.result ≡ shorter_first (head_for c.self.inside.heads c.args.key.now.signal) c.gap_at-gap.result.before (link_at c.self.inside.nodes.items c.in-Some.i)

is_out : (c : After-replace) → c.in-Some.i < length c.self.inside.nodes.items → IsOut c
is_out c low =
    let link = link_known c.self.inside.nodes.items c.in-Some.i c.index.result.now c.link_of-next.result low c.index.ensures c.link_of-next.ensures in
    record {
      out = subst (λ (o : Option ℕ). IsTakenOut c.self.inside.nodes.items c.take_out.new.nodes.items c.in-Some.i c.gap_at-gap.result.before o) link c.take_out.ensures;
      first = c.shorter.ensures.first ∙ ap₂ (λ (h : Head) (o : Option ℕ). shorter_first h c.gap_at-gap.result.before o) c.at-head.ensures link;
    }

pub invariant_of-self-2 : goal.invariant_of-self-2
invariant_of-self-2 c =
    let w = goal.at.invariant_of-self-2 c in
    let h = was w.After-node_starting c.in-Some.i c.in-Some.is in
    let o : IsOut c = is_out c (within w.After-node_starting c.in-Some.i c.in-Some.is) in
    let own = was_not w.After-node_starting c.in-Some.i c.in-Some.is in
    set_whole (head_for c.self.inside.heads) (head_for c.replace.new.self) c.args.key.now.signal c.shorter.result c.replace.ensures c.self.inside.nodes.items c.take_out.new.nodes.items c.self.inside.maps c.self.invariant
    (left_index c.self.inside.nodes.items (head_for c.self.inside.heads) (mapped_in (head_for c.self.inside.heads) c.self.inside.maps) c.self.invariant.index c.take_out.new.nodes.items (head_for c.replace.new.self) c.in-Some.i c.args.key.now h.0
    c.gap_at-gap.result c.shorter.result (spot w.After-node_starting) h.1 h.2 o.out c.replace.ensures o.first (same_more c))
    (ap is_own (same_more c) ∙ own) own (λ common. same_more c ∙ common)

pub returns : goal.returns
returns c =
    λ q.
    let w = goal.at.returns c in
    let h = was w.After-node_starting c.in-Some.i c.in-Some.is in
    let o : IsOut c = is_out c (within w.After-node_starting c.in-Some.i c.in-Some.is) in
    let own = was_not w.After-node_starting c.in-Some.i c.in-Some.is in
    ap (or_else (listed c.take_out.new.nodes.items q))
    (set_mapped (head_for c.self.inside.heads) (head_for c.replace.new.self) c.args.key.now.signal c.shorter.result c.replace.ensures c.self.inside.maps (ap is_own (same_more c) ∙ own) own q)
    ∙ left_places c.self.inside.nodes.items (head_for c.self.inside.heads) (mapped_in (head_for c.self.inside.heads) c.self.inside.maps) c.self.invariant.index c.take_out.new.nodes.items (head_for c.replace.new.self) c.in-Some.i c.args.key.now h.0
    c.gap_at-gap.result c.shorter.result (spot w.After-node_starting) h.1 h.2 o.out c.replace.ensures o.first (same_more c) q
    ∙ ap (λ (s : Places). cond (is_eq (key_cmp c.args.key.now q)) None (place_of s q)) c.self.view_is
