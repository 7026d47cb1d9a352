use Rattle.std.proofs.Common.{◌≡◌, ℕ, List, Option, IfSome, IfNone, option_map, sym, ap, subst, ◌∙◌}
use Rattle.std.specs.List.{slice_get}
use Rattle.cell_store.specs.declared.heads.Head.{Head}
use Rattle.cell_store.specs.declared.index.Place.{Place}
use Rattle.cell_store.specs.declared.index.Node.{Node}
use Rattle.cell_store.specs.inner.Heads.{has_map, head_for}
use Rattle.cell_store.specs.inner.Lists.{held_at, link_at, firsts, bound, listed, start_and_place, Within, IsGap, IsLastAt, IsNoneAt}
use Rattle.cell_store.specs.inner.Maps.{mapped_by, mapped_in, Places, place_of}
use Rattle.cell_store.proofs.Nodes.{searchable, gap_within}
use Rattle.cell_store.proofs.Indexed.{gap_here, last_of_list, none_of_list, none_mapped, later_last, later_none}
use Rattle.cell_store.proofs.Owned.{last_by, none_by, map_of, there}
use Rattle.cell_store.proofs.index.CellIndex.last_at.Goals.{After-later}
use Rattle.cell_store.proofs.index.CellIndex.last_at.Goals as goal

pub last_at-requires : goal.last_at-requires
last_at-requires c = there c.self.inside.nodes.items (head_for c.self.inside.heads) c.self.inside.maps c.self.invariant c.args.p.signal c.at-head.result c.at-head.ensures

spot : (c : After-later) → IsGap (held_at c.self.inside.nodes.items) (link_at c.self.inside.nodes.items) (firsts (head_for c.self.inside.heads) c.args.p.signal) c.args.p.signal c.args.p.time c.gap_at-gap.result
spot c =
    gap_here c.self.inside.nodes.items c.deref.result.now c.first_of.result (head_for c.self.inside.heads) c.at-head.result c.args.p.signal c.args.p.time c.gap_at-gap.result c.deref.ensures.value c.first_of.ensures c.at-head.ensures
    c.gap_at-gap.ensures

pub gap_at-gap-requires : goal.gap_at-gap-requires
gap_at-gap-requires c =
    searchable c.self.inside.nodes.items c.deref.result.now (head_for c.self.inside.heads) (mapped_in (head_for c.self.inside.heads) c.self.inside.maps) c.first_of.result c.at-head.result c.args.p.signal c.self.invariant.index
    c.deref.ensures.value c.first_of.ensures c.at-head.ensures

pub listed_at-listed-requires : goal.listed_at-listed-requires
listed_at-listed-requires c =
    subst (λ (l : List Node). IfSome c.gap_at-gap.result.after (Within l)) (c.deref.ensures.value ∙ sym c.deref-2.ensures.value)
    (gap_within c.deref.result.now c.first_of.result c.args.p.signal c.args.p.time c.gap_at-gap.result c.gap_at-gap.ensures)

in_list : (c : After-later) → c.listed_at-listed.result ≡ option_map start_and_place (bound (slice_get c.self.inside.nodes.items) c.gap_at-gap.result.after)
in_list c = c.listed_at-listed.ensures ∙ ap (λ (l : List Node). option_map start_and_place (bound (slice_get l) c.gap_at-gap.result.after)) c.deref-2.ensures.value

none_first : (c : After-later) → IfNone c.listed_at-listed.result (IsNoneAt (listed c.self.inside.nodes.items) c.args.p)
none_first c =
    none_of_list c.self.inside.nodes.items (head_for c.self.inside.heads) (mapped_in (head_for c.self.inside.heads) c.self.inside.maps) c.self.invariant.index c.args.p.signal c.args.p.time c.gap_at-gap.result (spot c) c.listed_at-listed.result
    (in_list c)

last_second : (c : After-later) → IfSome c.last_at.result (λ last. IsLastAt (mapped_in (head_for c.self.inside.heads) c.self.inside.maps) c.args.p last.0 last.1)
last_second c =
    last_by (mapped_by c.at-head.result c.self.inside.maps) (mapped_in (head_for c.self.inside.heads) c.self.inside.maps) c.args.p
    (map_of (head_for c.self.inside.heads) c.self.inside.maps c.at-head.result c.args.p.signal c.at-head.ensures) c.last_at.result c.last_at.ensures.last

none_second : (c : After-later) → IfNone c.last_at.result (IsNoneAt (mapped_in (head_for c.self.inside.heads) c.self.inside.maps) c.args.p)
none_second c =
    none_mapped (head_for c.self.inside.heads) (mapped_in (head_for c.self.inside.heads) c.self.inside.maps) c.args.p c.self.invariant.index.told c.last_at.result (has_map c.at-head.result.more)
    (ap (λ (h : Head). has_map h.more) c.at-head.ensures)
    (none_by (mapped_by c.at-head.result c.self.inside.maps) (mapped_in (head_for c.self.inside.heads) c.self.inside.maps) c.args.p
    (map_of (head_for c.self.inside.heads) c.self.inside.maps c.at-head.result c.args.p.signal c.at-head.ensures) c.last_at.result (has_map c.at-head.result.more) c.last_at.ensures.none)

pub returns-clause-last : goal.returns-clause-last
returns-clause-last c =
    subst (λ (s : Places). IfSome c.later.result (λ last. IsLastAt (place_of s) c.args.p last.0 last.1)) c.self.view_is
    (subst (λ (o : Option (ℕ × Place)). IfSome o (λ last. IsLastAt (place_of (record { nodes = c.self.inside.nodes.items; heads = c.self.inside.heads; maps = c.self.inside.maps })) c.args.p last.0 last.1)) (sym c.later.ensures)
    (later_last (listed c.self.inside.nodes.items) (mapped_in (head_for c.self.inside.heads) c.self.inside.maps) c.args.p c.listed_at-listed.result c.last_at.result
    (last_of_list c.self.inside.nodes.items (head_for c.self.inside.heads) (mapped_in (head_for c.self.inside.heads) c.self.inside.maps) c.self.invariant.index c.args.p.signal c.args.p.time c.gap_at-gap.result (spot c) c.listed_at-listed.result
    (in_list c))
    (none_first c) (last_second c) (none_second c)))

pub returns-clause-none : goal.returns-clause-none
returns-clause-none c =
    subst (λ (s : Places). IfNone c.later.result (IsNoneAt (place_of s) c.args.p)) c.self.view_is
    (subst (λ (o : Option (ℕ × Place)). IfNone o (IsNoneAt (place_of (record { nodes = c.self.inside.nodes.items; heads = c.self.inside.heads; maps = c.self.inside.maps })) c.args.p)) (sym c.later.ensures)
    (later_none (listed c.self.inside.nodes.items) (mapped_in (head_for c.self.inside.heads) c.self.inside.maps) c.args.p c.listed_at-listed.result c.last_at.result (none_first c) (none_second c)))
