use Rattle.std.proofs.Common.{◌≡◌, Bool, true, false, cond, List, Option, Some, None, option_map, sym, ap, subst, ◌∙◌}
use Rattle.std.specs.List.{slice_get}
use Rattle.std.specs.Ordering.{is_eq}
use Rattle.std.proofs.lemmas.Result.{on_err_weaker, IfOk-weaker}
use Rattle.cell_store.specs.declared.Key.{Key}
use Rattle.cell_store.specs.declared.heads.Head.{Head}
use Rattle.cell_store.specs.declared.index.Place.{Place}
use Rattle.cell_store.specs.declared.index.Node.{Node}
use Rattle.cell_store.specs.inner.Heads.{has_map, is_own, head_for}
use Rattle.cell_store.specs.inner.Index.{key_cmp}
use Rattle.cell_store.specs.inner.Lists.{held_at, link_at, firsts, bound, listed, or_else, place_starting, IsGap, IsListed, IsListedOr, AreAllSteady}
use Rattle.cell_store.specs.inner.Maps.{mapped_in, Places, place_of}
use Rattle.cell_store.proofs.Results.{on_err, none_had, some_had}
use Rattle.cell_store.proofs.Listed.{listed_same}
use Rattle.cell_store.proofs.Indexed.{gap_here, listed_starting, listed_index, listed_places}
use Rattle.cell_store.proofs.Owned.{there, own_has, own_unlisted, nothing_mapped, not_own, set_whole, set_mapped, steady_whole, steady_all, insert_whole, insert_had, insert_new, insert_same}
use Rattle.cell_store.proofs.index.CellIndex.insert_if_absent.Goals.{Then-is_own, After-insert, After-place_starting, Then-branch, After-use_map, After-insert-2}
use Rattle.cell_store.proofs.index.CellIndex.insert_if_absent.Goals as goal

-- ---- the signal has a map of its own
pub insert-requires : goal.insert-requires
insert-requires c = there c.self.inside.nodes.items (head_for c.self.inside.heads) c.self.inside.maps c.self.invariant c.args.key.signal c.at-head.result c.at-head.ensures

not_in_list : (c : Then-is_own) → listed c.self.inside.nodes.items c.args.key ≡ None
not_in_list c = own_unlisted c.self.inside.nodes.items (head_for c.self.inside.heads) c.self.inside.maps c.self.invariant c.args.key c.at-head.result c.at-head.ensures (sym c.is_own.ensures ∙ c.if-is_own.true)

in_map : (c : Then-is_own) → has_map c.at-head.result.more ≡ true
in_map c = own_has c.at-head.result.more (sym c.is_own.ensures ∙ c.if-is_own.true)

pub invariant_of-self : goal.invariant_of-self
invariant_of-self c =
    let w = (goal.at.invariant_of-self c).Then-is_own in
    insert_whole c.self.inside.nodes.items (head_for c.self.inside.heads) c.self.inside.maps c.insert.new.self c.self.invariant c.args.key c.args.place c.at-head.result c.at-head.ensures (not_in_list w) (in_map w) c.insert.result c.insert.ensures.new
    c.insert.ensures.stays c.insert.ensures.err

pub returns-then-is_own-clause-had : goal.returns-then-is_own-clause-had
returns-then-is_own-clause-had c =
    let w = (goal.at.returns-then-is_own-clause-had c).Then-is_own in
    IfOk-weaker c.insert.result _ _ (λ had e. e ∙ ap (λ (s : Places). option_map (λ (p : Place). p.slot) (place_of s c.args.key)) c.self.view_is)
    (insert_had c.self.inside.nodes.items (head_for c.self.inside.heads) c.self.inside.maps c.insert.new.self c.self.invariant c.args.key c.args.place c.at-head.result c.at-head.ensures (not_in_list w) (in_map w) c.insert.result c.insert.ensures.had)

pub returns-then-is_own-clause-new : goal.returns-then-is_own-clause-new
returns-then-is_own-clause-new c =
    let w = (goal.at.returns-then-is_own-clause-new c).Then-is_own in
    none_had c.insert.result (λ sets q. sets q ∙ ap (λ (s : Places). cond (is_eq (key_cmp c.args.key q)) (Some c.args.place) (place_of s q)) c.self.view_is)
    (insert_new c.self.inside.nodes.items (head_for c.self.inside.heads) c.self.inside.maps c.insert.new.self c.self.invariant c.args.key c.args.place c.at-head.result c.at-head.ensures (not_in_list w) (in_map w) c.insert.result c.insert.ensures.new)

pub returns-then-is_own-clause-stays : goal.returns-then-is_own-clause-stays
returns-then-is_own-clause-stays c =
    let w = (goal.at.returns-then-is_own-clause-stays c).Then-is_own in
    some_had c.insert.result
    (λ st q.
    insert_same c.self.inside.nodes.items (head_for c.self.inside.heads) c.self.inside.maps c.insert.new.self c.self.invariant c.args.key c.args.place c.at-head.result c.at-head.ensures (not_in_list w) (in_map w) c.insert.result st q
    ∙ ap (λ (s : Places). place_of s q) c.self.view_is)
    c.insert.ensures.stays

pub returns-then-is_own-clause-err : goal.returns-then-is_own-clause-err
returns-then-is_own-clause-err c =
    let w = (goal.at.returns-then-is_own-clause-err c).Then-is_own in
    on_err_weaker c.insert.result
    (λ st q.
    insert_same c.self.inside.nodes.items (head_for c.self.inside.heads) c.self.inside.maps c.insert.new.self c.self.invariant c.args.key c.args.place c.at-head.result c.at-head.ensures (not_in_list w) (in_map w) c.insert.result st q
    ∙ ap (λ (s : Places). place_of s q) c.self.view_is)
    c.insert.ensures.err

-- ---- a search in its list
spot : (c : After-place_starting) → IsGap (held_at c.self.inside.nodes.items) (link_at c.self.inside.nodes.items) (firsts (head_for c.self.inside.heads) c.args.key.signal) c.args.key.signal c.args.key.start c.gap_at-gap.result
spot c =
    gap_here c.self.inside.nodes.items c.deref.result.now c.first_of.result (head_for c.self.inside.heads) c.at-head.result c.args.key.signal c.args.key.start c.gap_at-gap.result c.deref.ensures.value c.first_of.ensures c.at-head.ensures
    c.gap_at-gap.ensures

listed_is : (c : After-place_starting) → listed c.self.inside.nodes.items c.args.key ≡ c.place_starting.result
listed_is c =
    sym
    (c.place_starting.ensures ∙ ap (λ (l : List Node). place_starting (bound (slice_get l) c.gap_at-gap.result.after) c.args.key.start) c.deref-2.ensures.value
    ∙ listed_starting c.self.inside.nodes.items (head_for c.self.inside.heads) (mapped_in (head_for c.self.inside.heads) c.self.inside.maps) c.self.invariant.index c.args.key.signal c.args.key.start c.gap_at-gap.result (spot c))

-- what the index had
pub returns-in-Some-clause-had : goal.returns-in-Some-clause-had
returns-in-Some-clause-had c =
    sym
    (ap (λ (s : Places). option_map (λ (p : Place). p.slot) (place_of s c.args.key)) (sym c.self.view_is)
    ∙ ap (λ (o : Option Place). option_map (λ (p : Place). p.slot) (or_else o (mapped_in (head_for c.self.inside.heads) c.self.inside.maps c.args.key)))
    (listed_is (goal.at.returns-in-Some-clause-had c).After-place_starting ∙ c.in-Some.is))

unlisted : (c : After-place_starting) → c.place_starting.result ≡ None → listed c.self.inside.nodes.items c.args.key ≡ None
unlisted c none = listed_is c ∙ none

-- ---- nothing changed
pub invariant_of-self-in_err-add_listed : goal.invariant_of-self-in_err-add_listed
invariant_of-self-in_err-add_listed c =
    steady_whole c.self.inside.nodes.items c.add_listed.new.nodes.items (head_for c.self.inside.heads) (head_for c.add_listed.new.heads) c.self.inside.maps c.self.invariant c.in_err-add_listed.ensures.err

pub returns-in_err-add_listed-clause-err : goal.returns-in_err-add_listed-clause-err
returns-in_err-add_listed-clause-err c =
    on_err c.from_residual.result
    (λ q.
    steady_all c.self.inside.nodes.items c.add_listed.new.nodes.items (head_for c.self.inside.heads) (head_for c.add_listed.new.heads) c.self.inside.maps c.self.invariant c.in_err-add_listed.ensures.err q
    ∙ ap (λ (s : Places). place_of s q) c.self.view_is)

-- ---- the cell came into a list
came : (c : Then-branch) → IsListed c.self.inside.nodes.items c.add_listed.new.nodes.items (head_for c.self.inside.heads) (head_for c.add_listed.new.heads) c.args.key c.args.place c.gap_at-gap.result
came c =
    subst (λ (b : Bool). IsListedOr b c.self.inside.nodes.items c.add_listed.new.nodes.items (head_for c.self.inside.heads) (head_for c.add_listed.new.heads) c.args.key c.args.place c.gap_at-gap.result) c.if-branch.true
    c.in_ok-add_listed.ensures.listed

-- no map has a cell of its signal
unmapped : (c : Then-branch) → mapped_in (head_for c.self.inside.heads) c.self.inside.maps c.args.key ≡ None
unmapped c = nothing_mapped c.self.inside.nodes.items (head_for c.self.inside.heads) c.self.inside.maps c.self.invariant c.args.key (c.in_ok-add_listed.ensures.alone c.if-branch.true)

was_not : (c : Then-branch) → is_own (head_for c.self.inside.heads c.args.key.signal).more ≡ false
was_not c = not_own (head_for c.self.inside.heads c.args.key.signal).more (c.in_ok-add_listed.ensures.alone c.if-branch.true)

is_not : (c : Then-branch) → is_own (came c).head.more ≡ false
is_not c = ap is_own (came c).more ∙ was_not c

pub invariant_of-self-then-branch : goal.invariant_of-self-then-branch
invariant_of-self-then-branch c =
    let w = goal.at.invariant_of-self-then-branch c in
    let l = came w.Then-branch in
    set_whole (head_for c.self.inside.heads) (head_for c.add_listed.new.heads) c.args.key.signal l.head l.set c.self.inside.nodes.items c.add_listed.new.nodes.items c.self.inside.maps c.self.invariant
    (listed_index c.self.inside.nodes.items (head_for c.self.inside.heads) (mapped_in (head_for c.self.inside.heads) c.self.inside.maps) c.self.invariant.index c.add_listed.new.nodes.items (head_for c.add_listed.new.heads) c.args.key c.args.place
    c.gap_at-gap.result (spot w.After-place_starting) (unlisted w.After-place_starting c.in_default.is) (unmapped w.Then-branch) l)
    (is_not w.Then-branch) (was_not w.Then-branch) (λ common. l.more ∙ common)

pub returns-then-branch-clause-had : goal.returns-then-branch-clause-had
returns-then-branch-clause-had c =
    let w = goal.at.returns-then-branch-clause-had c in
    sym
    (ap (λ (s : Places). option_map (λ (p : Place). p.slot) (place_of s c.args.key)) (sym c.self.view_is)
    ∙ ap (λ (o : Option Place). option_map (λ (p : Place). p.slot) (or_else o (mapped_in (head_for c.self.inside.heads) c.self.inside.maps c.args.key))) (unlisted w.After-place_starting c.in_default.is)
    ∙ ap (option_map (λ (p : Place). p.slot)) (unmapped w.Then-branch))

pub returns-then-branch-clause-new : goal.returns-then-branch-clause-new
returns-then-branch-clause-new c =
    λ q.
    let w = goal.at.returns-then-branch-clause-new c in
    let l = came w.Then-branch in
    ap (or_else (listed c.add_listed.new.nodes.items q))
    (set_mapped (head_for c.self.inside.heads) (head_for c.add_listed.new.heads) c.args.key.signal l.head l.set c.self.inside.maps (is_not w.Then-branch) (was_not w.Then-branch) q)
    ∙ listed_places c.self.inside.nodes.items (head_for c.self.inside.heads) (mapped_in (head_for c.self.inside.heads) c.self.inside.maps) c.self.invariant.index c.add_listed.new.nodes.items (head_for c.add_listed.new.heads) c.args.key c.args.place
    c.gap_at-gap.result (spot w.After-place_starting) (unlisted w.After-place_starting c.in_default.is) (unmapped w.Then-branch) l q
    ∙ ap (λ (s : Places). cond (is_eq (key_cmp c.args.key q)) (Some c.args.place) (place_of s q)) c.self.view_is

-- ---- it goes into a map
steady_in : (c : After-use_map) → AreAllSteady c.self.inside.nodes.items c.add_listed.new.nodes.items (head_for c.self.inside.heads) (head_for c.add_listed.new.heads)
steady_in c =
    subst (λ (b : Bool). IsListedOr b c.self.inside.nodes.items c.add_listed.new.nodes.items (head_for c.self.inside.heads) (head_for c.add_listed.new.heads) c.args.key c.args.place c.gap_at-gap.result) c.if-branch.false
    c.in_ok-add_listed.ensures.listed

pub use_map-requires : goal.use_map-requires
use_map-requires c = record {
  whole = steady_whole c.self.inside.nodes.items c.add_listed.new.nodes.items (head_for c.self.inside.heads) (head_for c.add_listed.new.heads) c.self.inside.maps c.self.invariant
      (subst (λ (b : Bool). IsListedOr b c.self.inside.nodes.items c.add_listed.new.nodes.items (head_for c.self.inside.heads) (head_for c.add_listed.new.heads) c.args.key c.args.place c.gap_at-gap.result) c.if-branch.false
      c.in_ok-add_listed.ensures.listed);
}

others_stay : (c : After-use_map) → (q : Key) → or_else (listed c.use_map.new.nodes.items q) (mapped_in (head_for c.use_map.new.heads) c.use_map.new.maps q) ≡ place_of c.args.self.now q
others_stay c q =
    c.use_map.ensures.same q
    ∙ steady_all c.self.inside.nodes.items c.add_listed.new.nodes.items (head_for c.self.inside.heads) (head_for c.add_listed.new.heads) c.self.inside.maps c.self.invariant (steady_in c) q
    ∙ ap (λ (s : Places). place_of s q) c.self.view_is

pub returns-in_err-use_map-clause-err : goal.returns-in_err-use_map-clause-err
returns-in_err-use_map-clause-err c = on_err c.from_residual-in_err-use_map.result (others_stay (goal.at.returns-in_err-use_map-clause-err c).After-use_map)

unlisted_in : (c : After-use_map) → listed c.self.inside.nodes.items c.args.key ≡ None → listed c.use_map.new.nodes.items c.args.key ≡ None
unlisted_in c none =
    let s = steady_in c in
    c.use_map.ensures.unlisted c.args.key
    (listed_same c.self.inside.nodes.items c.add_listed.new.nodes.items c.self.invariant.index.lists.once
    (steady_whole c.self.inside.nodes.items c.add_listed.new.nodes.items (head_for c.self.inside.heads) (head_for c.add_listed.new.heads) c.self.inside.maps c.self.invariant s).index.lists.once s.lists.held c.args.key
    ∙ none)

pub insert-requires-2 : goal.insert-requires-2
insert-requires-2 c = there c.use_map.new.nodes.items (head_for c.use_map.new.heads) c.use_map.new.maps c.use_map.ensures.whole c.args.key.signal c.at.result c.at.ensures

has_in : (c : After-insert-2) → has_map c.at.result.more ≡ true
has_in c = ap (λ (h : Head). has_map h.more) c.at.ensures ∙ c.in_ok-use_map.ensures.told

pub invariant_of-self-2 : goal.invariant_of-self-2
invariant_of-self-2 c =
    let w = goal.at.invariant_of-self-2 c in
    insert_whole c.use_map.new.nodes.items (head_for c.use_map.new.heads) c.use_map.new.maps c.insert-2.new.self c.use_map.ensures.whole c.args.key c.args.place c.at.result c.at.ensures
    (unlisted_in w.After-use_map (unlisted w.After-place_starting c.in_default.is)) (has_in w.After-insert-2) c.insert-2.result c.insert-2.ensures.new c.insert-2.ensures.stays c.insert-2.ensures.err

pub returns-clause-had : goal.returns-clause-had
returns-clause-had c =
    let w = goal.at.returns-clause-had c in
    IfOk-weaker c.insert-2.result _ _ (λ had e. e ∙ ap (option_map (λ (p : Place). p.slot)) (others_stay w.After-use_map c.args.key))
    (insert_had c.use_map.new.nodes.items (head_for c.use_map.new.heads) c.use_map.new.maps c.insert-2.new.self c.use_map.ensures.whole c.args.key c.args.place c.at.result c.at.ensures
    (unlisted_in w.After-use_map (unlisted w.After-place_starting c.in_default.is)) (has_in w.After-insert-2) c.insert-2.result c.insert-2.ensures.had)

pub returns-clause-new : goal.returns-clause-new
returns-clause-new c =
    let w = goal.at.returns-clause-new c in
    none_had c.insert-2.result (λ sets q. sets q ∙ ap (cond (is_eq (key_cmp c.args.key q)) (Some c.args.place)) (others_stay w.After-use_map q))
    (insert_new c.use_map.new.nodes.items (head_for c.use_map.new.heads) c.use_map.new.maps c.insert-2.new.self c.use_map.ensures.whole c.args.key c.args.place c.at.result c.at.ensures
    (unlisted_in w.After-use_map (unlisted w.After-place_starting c.in_default.is)) (has_in w.After-insert-2) c.insert-2.result c.insert-2.ensures.new)

pub returns-clause-stays : goal.returns-clause-stays
returns-clause-stays c =
    let w = goal.at.returns-clause-stays c in
    some_had c.insert-2.result
    (λ st q.
    insert_same c.use_map.new.nodes.items (head_for c.use_map.new.heads) c.use_map.new.maps c.insert-2.new.self c.use_map.ensures.whole c.args.key c.args.place c.at.result c.at.ensures
    (unlisted_in w.After-use_map (unlisted w.After-place_starting c.in_default.is)) (has_in w.After-insert-2) c.insert-2.result st q
    ∙ others_stay w.After-use_map q)
    c.insert-2.ensures.stays

pub returns-clause-err : goal.returns-clause-err
returns-clause-err c =
    let w = goal.at.returns-clause-err c in
    on_err_weaker c.insert-2.result
    (λ st q.
    insert_same c.use_map.new.nodes.items (head_for c.use_map.new.heads) c.use_map.new.maps c.insert-2.new.self c.use_map.ensures.whole c.args.key c.args.place c.at.result c.at.ensures
    (unlisted_in w.After-use_map (unlisted w.After-place_starting c.in_default.is)) (has_in w.After-insert-2) c.insert-2.result st q
    ∙ others_stay w.After-use_map q)
    c.insert-2.ensures.err
