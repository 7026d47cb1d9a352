-- What an index keeps, and what its calls say of it.
use Rattle.std.proofs.Common.{◌≡◌, ◌⊎◌, inl, inr, ⊎_elim, ℕ, ◌<◌, ◌≤◌, Bool, true, false, ◌&&◌, cond, nat_eq, nat_lt, List, Option, Some, None, IsSome, IfSome, IfNone, option_map, refl, sym, ap, subst, ◌∙◌, true≢false, eq-eqb, eqb-true, arith}
use Rattle.std.proofs.lemmas.Bool.{ltb-true, ltb-false, eqb-false}
use Rattle.std.specs.List.{slice_get}
use Rattle.std.specs.Ordering.{is_eq}
use Rattle.std.proofs.lemmas.Option.{same_Some}
use Rattle.valid_intervals.specs.declared.Point.{Point}
use Rattle.cell_store.specs.declared.Key.{Key}
use Rattle.cell_store.specs.declared.heads.Head.{Head}
use Rattle.cell_store.specs.declared.index.Place.{Place}
use Rattle.cell_store.specs.declared.index.Node.{Node}
use Rattle.cell_store.specs.declared.index.Gap.{Gap}
use Rattle.cell_store.specs.inner.Heads.{has_map}
use Rattle.cell_store.specs.inner.Index.{key_cmp}
use Rattle.cell_store.specs.inner.Lists.{key_at, place_in, held_in, bound, held_at, link_at, first_in, listed, or_else, firsts, IsIndex, AreLists, IsOn, Below, IsReached, IsAfter, IsBefore, IsGap, IsLastAt, IsNoneAt, IsTakenOut, IsListed, HeadSet, AreAllSteady, longer_first, shorter_first, place_starting, starts_at, start_and_place, later_of}
use Rattle.cell_store.proofs.Found.{none_some}
use Rattle.cell_store.proofs.Keys.{equal_keys}
use Rattle.cell_store.proofs.Links.{Same, Cell, Held, some_cell, cell_same, key_is, same_or_not, was_held, left}
use Rattle.cell_store.proofs.Lists.{last_before, same_links, added_in_front, added_behind, removed_in_front, removed_behind}
use Rattle.cell_store.proofs.Listed.{Once, found_at, found_from, listed_is, listed_same, listed_more, listed_less, else_more, else_less, else_changed}

-- ---- a node that has a cell
pub record IsNode (nodes : List Node) (i : ℕ) (k : Key) (p : Place) : Type 0 where
  pub node : Node
  pub at : slice_get nodes i ≡ Some node
  pub key : key_at node.signal node.start ≡ k
  pub place : place_in node ≡ p

pub node_of : (nodes : List Node) (i : ℕ) (k : Key) (p : Place) → held_at nodes i ≡ Some (k, p) → IsNode nodes i k p
node_of nodes i k p h =
    (elim (slice_get nodes i) as (λ o. slice_get nodes i ≡ o → bound held_in o ≡ Some (k, p) → IsNode nodes i k p) [
      | None ↦ λ e d. none_some (k, p) d
      | Some n ↦ λ e d.
          (elim (n.live) as (λ b. cond b (some_cell (key_at n.signal n.start) (place_in n)) None ≡ some_cell k p → IsNode nodes i k p) [
            | true ↦ λ g. let same = cell_same (key_at n.signal n.start) k (place_in n) p g in record { node = n; at = e; key = same.0; place = same.1 }
            | false ↦ λ g. none_some (k, p) g
          ]) d
    ]) refl h

module _ (nodes : List Node) (heads : ℕ → Head) (mapped : Key → Option Place) (index : IsIndex nodes heads mapped) where
  once : Once (held_at nodes)
  once = index.lists.once

  -- ---- what a search in a list finds
  module _ (signal start : ℕ) (gap : Gap) (place : IsGap (held_at nodes) (link_at nodes) (firsts heads signal) signal start gap) where
    last_in : (j : ℕ) (c : Key) (q : Place) → held_at nodes j ≡ Some (c, q) → c.signal ≡ signal → c.start ≤ start → IsReached (held_at nodes) gap.after c.start
    last_in = last_before (held_at nodes) (link_at nodes) (firsts heads) index.lists signal start gap.before gap.after place.behind.front place.behind.before

    after_at : (a : ℕ) → gap.after ≡ Some a → IsAfter (held_at nodes) signal start a
    after_at a to = subst (λ (o : Option ℕ). IfSome o (IsAfter (held_at nodes) signal start)) to place.after

    -- the key of the cell that it finds
    key_after : (a : ℕ) → (to : gap.after ≡ Some a) → (n : Node) → slice_get nodes a ≡ Some n → held_at nodes a ≡ Some (key_at signal n.start, place_in n)
    key_after a to n at =
        let f : IsAfter (held_at nodes) signal start a = after_at a to in
        let m : IsNode nodes a f.key f.place = node_of nodes a f.key f.place f.at in
        let same : m.node ≡ n = same_Some m.node n (sym m.at ∙ at) in
        let key : f.key ≡ key_at signal n.start = sym m.key ∙ key_is (key_at m.node.signal m.node.start) (key_at signal n.start) (ap (λ (k : Key). k.signal) m.key ∙ f.of) (ap (λ (o : Node). o.start) same) in
        f.at ∙ ap (λ (k : Key). Some (k, f.place)) key ∙ ap (λ (q : Place). Some (key_at signal n.start, q)) (sym m.place ∙ ap place_in same)

    early_after : (a : ℕ) → (to : gap.after ≡ Some a) → (n : Node) → slice_get nodes a ≡ Some n → n.start ≤ start
    early_after a to n at =
        let f : IsAfter (held_at nodes) signal start a = after_at a to in
        let same = cell_same f.key (key_at signal n.start) f.place (place_in n) (sym f.at ∙ key_after a to n at) in
        subst (λ (k : Key). k.start ≤ start) same.0 f.early

    node_after : (a : ℕ) → gap.after ≡ Some a → (n : Node) × (slice_get nodes a ≡ Some n)
    node_after a to = let f : IsAfter (held_at nodes) signal start a = after_at a to in let m : IsNode nodes a f.key f.place = node_of nodes a f.key f.place f.at in (m.node, m.at)

    none_listed : gap.after ≡ None → (k : Key) → k.signal ≡ signal → k.start ≤ start → listed nodes k ≡ None
    none_listed none k of early =
        listed_is nodes k None once (λ p e. none_some p e)
        (λ i p at. let r : IsReached (held_at nodes) gap.after k.start = last_in i k p at of early in none_some r.to (sym none ∙ r.is))

    -- no cell of the signal begins between the one that it finds and the time
    latest : (a : ℕ) → gap.after ≡ Some a → (n : Node) → slice_get nodes a ≡ Some n → (k : Key) → k.signal ≡ signal → k.start ≤ start → IsSome (listed nodes k) → k.start ≤ n.start
    latest a to n at k of early some =
        (elim (listed nodes k) as (λ o. listed nodes k ≡ o → IsSome o → k.start ≤ n.start) [
          | None ↦ λ e s. absurd (true≢false (sym s))
          | Some p ↦ λ e s.
              let f = found_from nodes k p e in
              let r : IsReached (held_at nodes) gap.after k.start = last_in f.0 k p f.1 of early in
              let there : r.to ≡ a = same_Some r.to a (sym r.is ∙ to) in
              let same = cell_same r.key (key_at signal n.start) r.place (place_in n) (sym r.at ∙ ap (held_at nodes) there ∙ key_after a to n at) in
              subst (λ (j : Key). k.start ≤ j.start) same.0 r.late
        ]) refl some

    pub last_of_list : (o : Option (ℕ × Place)) → o ≡ option_map start_and_place (bound (slice_get nodes) gap.after)
        → IfSome o (λ last. IsLastAt (listed nodes) (record { signal = signal; time = start }) last.0 last.1)
    last_of_list o is =
        (elim gap.after as (λ v. gap.after ≡ v → o ≡ option_map start_and_place (bound (slice_get nodes) v) → IfSome o (λ last. IsLastAt (listed nodes) (record { signal = signal; time = start }) last.0 last.1)) [
          | None ↦ λ e d. subst (λ (w : Option (ℕ × Place)). IfSome w (λ last. IsLastAt (listed nodes) (record { signal = signal; time = start }) last.0 last.1)) (sym d) tt
          | Some a ↦ λ e d.
              let m = node_after a e in
              subst (λ (w : Option (ℕ × Place)). IfSome w (λ last. IsLastAt (listed nodes) (record { signal = signal; time = start }) last.0 last.1)) (sym (d ∙ ap (option_map start_and_place) m.1))
              (record {
                at = found_at nodes a (key_at signal m.0.start) (place_in m.0) once (key_after a e m.0 m.1);
                early = early_after a e m.0 m.1;
                last = λ k of early some. latest a e m.0 m.1 k of early some;
              })
        ]) refl is

    pub none_of_list : (o : Option (ℕ × Place)) → o ≡ option_map start_and_place (bound (slice_get nodes) gap.after) → IfNone o (IsNoneAt (listed nodes) (record { signal = signal; time = start }))
    none_of_list o is =
        (elim gap.after as (λ v. gap.after ≡ v → o ≡ option_map start_and_place (bound (slice_get nodes) v) → IfNone o (IsNoneAt (listed nodes) (record { signal = signal; time = start }))) [
          | None ↦ λ e d. subst (λ (w : Option (ℕ × Place)). IfNone w (IsNoneAt (listed nodes) (record { signal = signal; time = start }))) (sym d) (λ k of early. none_listed e k of early)
          | Some a ↦ λ e d. let m = node_after a e in subst (λ (w : Option (ℕ × Place)). IfNone w (IsNoneAt (listed nodes) (record { signal = signal; time = start }))) (sym (d ∙ ap (option_map start_and_place) m.1)) tt
        ]) refl is

    -- the place of the key that begins at the time
    pub listed_starting : place_starting (bound (slice_get nodes) gap.after) start ≡ listed nodes (key_at signal start)
    listed_starting =
        (elim gap.after as (λ v. gap.after ≡ v → place_starting (bound (slice_get nodes) v) start ≡ listed nodes (key_at signal start)) [
          | None ↦ λ e. sym (none_listed e (key_at signal start) refl (omega arith))
          | Some a ↦ λ e.
              let m = node_after a e in
              ap (λ (w : Option Node). place_starting w start) m.1
              ∙ ⊎_elim
              (λ (same : m.0.start ≡ start).
              ap (λ (b : Bool). cond b (Some (place_in m.0)) None) (eq-eqb m.0.start start same)
              ∙ sym (found_at nodes a (key_at signal start) (place_in m.0) once (key_after a e m.0 m.1 ∙ ap (λ (t : ℕ). Some (key_at signal t, place_in m.0)) same)))
              (λ (not_so : nat_eq m.0.start start ≡ false).
              ap (λ (b : Bool). cond b (Some (place_in m.0)) None) not_so
              ∙ sym
              (listed_is nodes (key_at signal start) None once (λ p d. none_some p d)
              (λ i p at.
              let r : start ≤ m.0.start = latest a e m.0 m.1 (key_at signal start) refl (omega arith) (subst (λ (w : Option Place). IsSome w) (sym (found_at nodes i (key_at signal start) p once at)) refl) in
              absurd (eqb-false m.0.start start not_so (omega (arith, r, early_after a e m.0 m.1))))))
              (same_or_not m.0.start start)
        ]) refl

    -- the node that begins at the time has its key
    pub node_starting : (i : ℕ) → Some i ≡ cond (starts_at (bound (slice_get nodes) gap.after) start) gap.after None → (p : Place) × (held_at nodes i ≡ Some (key_at signal start, p)) × (gap.after ≡ Some i)
    node_starting i is =
        (elim gap.after as (λ v. gap.after ≡ v → Some i ≡ cond (starts_at (bound (slice_get nodes) v) start) v None → (p : Place) × (held_at nodes i ≡ Some (key_at signal start, p)) × (gap.after ≡ Some i)) [
          | None ↦ λ e d. none_some i (sym d)
          | Some a ↦ λ e d.
              let m = node_after a e in
              (elim (nat_eq m.0.start start) as (λ b. nat_eq m.0.start start ≡ b → Some i ≡ cond b (Some a) None → (p : Place) × (held_at nodes i ≡ Some (key_at signal start, p)) × (gap.after ≡ Some i)) [
                | true ↦ λ t g.
                    let one : a ≡ i = same_Some a i (sym g) in (
                      place_in m.0,
                      ap (held_at nodes) (sym one) ∙ key_after a e m.0 m.1 ∙ ap (λ (n : ℕ). Some (key_at signal n, place_in m.0)) (eqb-true m.0.start start t),
                      e ∙ ap (λ (n : ℕ). Some n) one,
                    )
                | false ↦ λ t g. none_some i (sym g)
              ]) refl (d ∙ ap (λ (w : Option Node). cond (starts_at w start) (Some a) None) m.1)
        ]) refl is

    pub none_starting : None ≡ cond (starts_at (bound (slice_get nodes) gap.after) start) gap.after None → listed nodes (key_at signal start) ≡ None
    none_starting is =
        sym listed_starting
        ∙ (elim gap.after as (λ v. gap.after ≡ v → None ≡ cond (starts_at (bound (slice_get nodes) v) start) v None → place_starting (bound (slice_get nodes) v) start ≡ None) [
          | None ↦ λ e d. refl
          | Some a ↦ λ e d.
              let m = node_after a e in
              ap (λ (w : Option Node). place_starting w start) m.1
              ∙ (elim (nat_eq m.0.start start) as (λ b. None ≡ cond b (Some a) None → cond b (Some (place_in m.0)) None ≡ None) [
                | true ↦ λ g. none_some a g
                | false ↦ λ g. refl
              ]) (d ∙ ap (λ (w : Option Node). cond (starts_at w start) (Some a) None) m.1)
        ]) refl is

  -- ---- all stays
  pub steady_index : (new : List Node) (heads' : ℕ → Head) → AreAllSteady nodes new heads heads' → IsIndex new heads' mapped
  steady_index new heads' s = record {
    lists = same_links (held_at nodes) (held_at new) (link_at nodes) (link_at new) (firsts heads) (firsts heads') s.lists.held s.lists.link (λ n. ap first_in (s.all n)) index.lists;
    apart = λ i k p at. index.apart i k p (sym (s.lists.held i) ∙ at);
    told = λ k some. ap (λ (h : Head). has_map h.more) (s.all k.signal) ∙ index.told k some;
  }

  pub steady_places : (new : List Node) (heads' : ℕ → Head) → AreAllSteady nodes new heads heads' → (q : Key) → or_else (listed new q) (mapped q) ≡ or_else (listed nodes q) (mapped q)
  steady_places new heads' s q = ap (λ (o : Option Place). or_else o (mapped q)) (listed_same nodes new once (steady_index new heads' s).lists.once s.lists.held q)

  -- ---- a cell comes into a list
  module _ (new : List Node) (heads' : ℕ → Head) (key : Key) (place : Place) (gap : Gap)
      (spot : IsGap (held_at nodes) (link_at nodes) (firsts heads key.signal) key.signal key.start gap) (unlisted : listed nodes key ≡ None) (unmapped : mapped key ≡ None)
      (l : IsListed nodes new heads heads' key place gap) where
    absent : (j : ℕ) (q : Place) → held_at nodes j ≡ Some (key, q) → ⊥
    absent j q at = none_some q (sym unlisted ∙ found_at nodes j key q once at)

    new_others : (j : ℕ) → nat_eq l.i j ≡ false → held_at new j ≡ held_at nodes j
    new_others j h = l.put.held j ∙ ap (λ (b : Bool). cond b (Some (key, place)) (held_at nodes j)) h

    new_here : held_at new l.i ≡ Some (key, place)
    new_here = l.put.held l.i ∙ ap (λ (b : Bool). cond b (Some (key, place)) (held_at nodes l.i)) (eq-eqb l.i l.i refl)

    its_head : heads' key.signal ≡ l.head
    its_head = l.set key.signal ∙ ap (λ (b : Bool). cond b l.head (heads key.signal)) (eq-eqb key.signal key.signal refl)

    other_head : (s : ℕ) → nat_eq key.signal s ≡ false → heads' s ≡ heads s
    other_head s h = l.set s ∙ ap (λ (b : Bool). cond b l.head (heads s)) h

    apart_head : (s : ℕ) → (key.signal ≡ s → ⊥) → firsts heads' s ≡ firsts heads s
    apart_head s not_so = ⊎_elim (λ (e : key.signal ≡ s). absurd (not_so e)) (λ (h : nat_eq key.signal s ≡ false). ap first_in (other_head s h)) (same_or_not key.signal s)

    new_lists : AreLists (held_at new) (link_at new) (firsts heads')
    new_lists =
        (elim gap.before as (λ o. gap.before ≡ o → first_in l.head ≡ longer_first (heads key.signal) o l.i → AreLists (held_at new) (link_at new) (firsts heads')) [
          | None ↦ λ e f.
              added_in_front (held_at nodes) (held_at new) (link_at nodes) (link_at new) (firsts heads) (firsts heads') index.lists l.i key place gap l.free absent spot l.put.held l.put.link e (ap first_in its_head ∙ f) apart_head
          | Some b ↦ λ e f.
              added_behind (held_at nodes) (held_at new) (link_at nodes) (link_at new) (firsts heads) (firsts heads') index.lists l.i key place gap l.free absent spot l.put.held l.put.link b e
              (λ s. ⊎_elim (λ (same : key.signal ≡ s). subst (λ (t : ℕ). firsts heads' t ≡ firsts heads t) same (ap first_in its_head ∙ f)) (λ (h : nat_eq key.signal s ≡ false). ap first_in (other_head s h)) (same_or_not key.signal s))
        ]) refl l.first

    pub listed_index : IsIndex new heads' mapped
    listed_index = record {
      lists = new_lists;
      apart = λ i k p at. ⊎_elim
          (λ (e : (l.i ≡ i) × Same (k, p) (key, place)). ap mapped (ap (λ (c : Cell). c.0) e.1) ∙ unmapped)
          (λ (e : held_at nodes i ≡ Some (k, p)). index.apart i k p e)
          (was_held (held_at nodes) (held_at new) l.i key place l.free new_here new_others i (k, p) at);
      told = λ k some. ⊎_elim
          (λ (e : key.signal ≡ k.signal). subst (λ (s : ℕ). has_map (heads' s).more ≡ true) e (ap (λ (h : Head). has_map h.more) its_head ∙ ap has_map l.more ∙ ap (λ (s : ℕ). has_map (heads s).more) e ∙ index.told k some))
          (λ (h : nat_eq key.signal k.signal ≡ false). ap (λ (x : Head). has_map x.more) (other_head k.signal h) ∙ index.told k some)
          (same_or_not key.signal k.signal);
    }

    pub listed_places : (q : Key) → or_else (listed new q) (mapped q) ≡ cond (is_eq (key_cmp key q)) (Some place) (or_else (listed nodes q) (mapped q))
    listed_places q =
        ap (λ (o : Option Place). or_else o (mapped q)) (listed_more nodes new once new_lists.once l.i key place l.free new_here new_others q)
        ∙ else_more (is_eq (key_cmp key q)) place (listed nodes q) (mapped q)

  -- ---- a cell leaves a list
  module _ (new : List Node) (heads' : ℕ → Head) (i : ℕ) (key : Key) (place : Place) (gap : Gap) (head : Head)
      (spot : IsGap (held_at nodes) (link_at nodes) (firsts heads key.signal) key.signal key.start gap) (was : held_at nodes i ≡ Some (key, place)) (after : gap.after ≡ Some i)
      (out : IsTakenOut nodes new i gap.before (link_at nodes i)) (set : HeadSet heads heads' key.signal head)
      (first : first_in head ≡ shorter_first (heads key.signal) gap.before (link_at nodes i)) (more : head.more ≡ (heads key.signal).more) where
    left_others : (j : ℕ) → nat_eq i j ≡ false → held_at new j ≡ held_at nodes j
    left_others j h = out.held j ∙ ap (λ (b : Bool). cond b None (held_at nodes j)) h

    gone : held_at new i ≡ None
    gone = out.held i ∙ ap (λ (b : Bool). cond b None (held_at nodes i)) (eq-eqb i i refl)

    head_now : heads' key.signal ≡ head
    head_now = set key.signal ∙ ap (λ (b : Bool). cond b head (heads key.signal)) (eq-eqb key.signal key.signal refl)

    head_else : (s : ℕ) → nat_eq key.signal s ≡ false → heads' s ≡ heads s
    head_else s h = set s ∙ ap (λ (b : Bool). cond b head (heads s)) h

    left_lists : AreLists (held_at new) (link_at new) (firsts heads')
    left_lists =
        let front : IfNone gap.before (firsts heads key.signal ≡ Some i) = if_front gap.before spot.behind.front in
        let behind : IfSome gap.before (IsBefore (held_at nodes) (link_at nodes) key.signal key.start (Some i)) =
        subst (λ (o : Option ℕ). IfSome gap.before (IsBefore (held_at nodes) (link_at nodes) key.signal key.start o)) after spot.behind.before in
        (elim gap.before as (λ o. gap.before ≡ o → first_in head ≡ shorter_first (heads key.signal) o (link_at nodes i) → AreLists (held_at new) (link_at new) (firsts heads')) [
          | None ↦ λ e f.
              removed_in_front (held_at nodes) (held_at new) (link_at nodes) (link_at new) (firsts heads) (firsts heads') index.lists i key place gap.before was front behind out.held out.link e (ap first_in head_now ∙ f)
              (λ s not_so. ⊎_elim (λ (same : key.signal ≡ s). absurd (not_so same)) (λ (h : nat_eq key.signal s ≡ false). ap first_in (head_else s h)) (same_or_not key.signal s))
          | Some b ↦ λ e f.
              removed_behind (held_at nodes) (held_at new) (link_at nodes) (link_at new) (firsts heads) (firsts heads') index.lists i key place gap.before was front behind out.held out.link b e
              (λ s. ⊎_elim (λ (same : key.signal ≡ s). subst (λ (t : ℕ). firsts heads' t ≡ firsts heads t) same (ap first_in head_now ∙ f)) (λ (h : nat_eq key.signal s ≡ false). ap first_in (head_else s h)) (same_or_not key.signal s))
        ]) refl first
      where
        if_front : (o : Option ℕ) → IfNone o (gap.after ≡ firsts heads key.signal) → IfNone o (firsts heads key.signal ≡ Some i)
        if_front None e = sym e ∙ after
        if_front (Some b) e = tt

    pub left_index : IsIndex new heads' mapped
    left_index = record {
      lists = left_lists;
      apart = λ j k p at. index.apart j k p (left (held_at nodes) (held_at new) i key place was gone left_others once j (k, p) at).1;
      told = λ k some. ⊎_elim
          (λ (e : key.signal ≡ k.signal). subst (λ (s : ℕ). has_map (heads' s).more ≡ true) e (ap (λ (h : Head). has_map h.more) head_now ∙ ap has_map more ∙ ap (λ (s : ℕ). has_map (heads s).more) e ∙ index.told k some))
          (λ (h : nat_eq key.signal k.signal ≡ false). ap (λ (x : Head). has_map x.more) (head_else k.signal h) ∙ index.told k some)
          (same_or_not key.signal k.signal);
    }

    pub left_listed : (q : Key) → listed new q ≡ cond (is_eq (key_cmp key q)) None (listed nodes q)
    left_listed = listed_less nodes new once left_lists.once i key place was gone left_others

    pub left_places : (q : Key) → or_else (listed new q) (mapped q) ≡ cond (is_eq (key_cmp key q)) None (or_else (listed nodes q) (mapped q))
    left_places q =
        ap (λ (o : Option Place). or_else o (mapped q)) (left_listed q)
        ∙ else_less (is_eq (key_cmp key q)) (listed nodes q) (mapped q) (λ t. ap mapped (sym (equal_keys key q t)) ∙ index.apart i key place was)

  -- ---- the map changes at a key that no list has
  module _ (heads' : ℕ → Head) (mapped' : Key → Option Place) (key : Key) (o : Option Place) (unlisted : listed nodes key ≡ None)
      (changed : (q : Key) → mapped' q ≡ cond (is_eq (key_cmp key q)) o (mapped q))
      (same : (s : ℕ) → first_in (heads' s) ≡ first_in (heads s)) (told : (k : Key) → IsSome (mapped k) → has_map (heads' k.signal).more ≡ true) (itself : IsSome o → has_map (heads' key.signal).more ≡ true) where
    pub mapped_index : IsIndex nodes heads' mapped'
    mapped_index = record {
      lists = same_links (held_at nodes) (held_at nodes) (link_at nodes) (link_at nodes) (firsts heads) (firsts heads') (λ j. refl) (λ j. refl) same index.lists;
      apart = λ i k p at.
          changed k
          ∙ (elim (is_eq (key_cmp key k)) as (λ b. is_eq (key_cmp key k) ≡ b → cond b o (mapped k) ≡ None) [
            | true ↦ λ t. none_some p (sym unlisted ∙ ap (listed nodes) (equal_keys key k t) ∙ found_at nodes i k p once at)
            | false ↦ λ t. index.apart i k p at
          ]) refl;
      told = λ k some.
          (elim (is_eq (key_cmp key k)) as (λ b. is_eq (key_cmp key k) ≡ b → IsSome (cond b o (mapped k)) → has_map (heads' k.signal).more ≡ true) [
            | true ↦ λ t s. subst (λ (j : Key). has_map (heads' j.signal).more ≡ true) (equal_keys key k t) (itself s)
            | false ↦ λ t s. told k s
          ]) refl (subst (λ (w : Option Place). IsSome w) (changed k) some);
    }

    pub mapped_places : (q : Key) → or_else (listed nodes q) (mapped' q) ≡ cond (is_eq (key_cmp key q)) o (or_else (listed nodes q) (mapped q))
    mapped_places q =
        ap (λ (w : Option Place). or_else (listed nodes q) w) (changed q)
        ∙ else_changed (is_eq (key_cmp key q)) o (listed nodes q) (mapped q) (λ t. ap (listed nodes) (sym (equal_keys key q t)) ∙ unlisted)

-- ---- a search found its place in the lists of an index
pub gap_here : (nodes items : List Node) (first : Option ℕ) (heads : ℕ → Head) (head : Head) (signal start : ℕ) (gap : Gap) → items ≡ nodes → first ≡ first_in head → head ≡ heads signal
    → IsGap (held_at items) (link_at items) first signal start gap → IsGap (held_at nodes) (link_at nodes) (firsts heads signal) signal start gap
gap_here nodes items first heads head signal start gap list is at g =
    subst (λ (o : Option ℕ). IsGap (held_at nodes) (link_at nodes) o signal start gap) (is ∙ ap first_in at) (subst (λ (l : List Node). IsGap (held_at l) (link_at l) first signal start gap) list g)

-- ---- a head says that the map may have more
pub record IsMore (heads new : ℕ → Head) (signal : ℕ) : Type 0 where
  pub same : (s : ℕ) → first_in (new s) ≡ first_in (heads s)
  pub still : (s : ℕ) → has_map (heads s).more ≡ true → has_map (new s).more ≡ true
  pub itself : has_map (new signal).more ≡ true

pub more_set : (heads new : ℕ → Head) (signal : ℕ) (b : Bool) (h : Head) → first_in h ≡ first_in (heads signal) → has_map h.more ≡ true
    → ((s : ℕ) → new s ≡ cond (b && nat_eq signal s) h (heads s)) → (b ≡ false → has_map (heads signal).more ≡ true) → IsMore heads new signal
more_set heads new signal false h first more set told = record {
  same = λ s. ap first_in (set s);
  still = λ s m. ap (λ (x : Head). has_map x.more) (set s) ∙ m;
  itself = ap (λ (x : Head). has_map x.more) (set signal) ∙ told refl;
}
more_set heads new signal true h first more set told = record {
  same = λ s. ⊎_elim
      (λ (e : signal ≡ s). ap first_in (at s (eq-eqb signal s e)) ∙ first ∙ ap (λ (n : ℕ). first_in (heads n)) e)
      (λ (d : nat_eq signal s ≡ false). ap first_in (past s d))
      (same_or_not signal s);
  still = λ s m. ⊎_elim
      (λ (e : signal ≡ s). ap (λ (x : Head). has_map x.more) (at s (eq-eqb signal s e)) ∙ more)
      (λ (d : nat_eq signal s ≡ false). ap (λ (x : Head). has_map x.more) (past s d) ∙ m)
      (same_or_not signal s);
  itself = ap (λ (x : Head). has_map x.more) (at signal (eq-eqb signal signal refl)) ∙ more;
}
  where
    at : (s : ℕ) → nat_eq signal s ≡ true → new s ≡ h
    at s t = set s ∙ ap (λ (c : Bool). cond c h (heads s)) t

    past : (s : ℕ) → nat_eq signal s ≡ false → new s ≡ heads s
    past s t = set s ∙ ap (λ (c : Bool). cond c h (heads s)) t

pub told_index : (nodes : List Node) (heads new : ℕ → Head) (mapped mapped' : Key → Option Place) (signal : ℕ) → IsIndex nodes heads mapped → IsMore heads new signal → ((q : Key) → mapped' q ≡ mapped q) → IsIndex nodes new mapped'
told_index nodes heads new mapped mapped' signal index m same = record {
  lists = same_links (held_at nodes) (held_at nodes) (link_at nodes) (link_at nodes) (firsts heads) (firsts new) (λ j. refl) (λ j. refl) m.same index.lists;
  apart = λ i k p at. same k ∙ index.apart i k p at;
  told = λ k some. m.still k.signal (index.told k (subst (λ (o : Option Place). IsSome o) (same k) some));
}

-- a signal that has a cell in a list has a head that says so
pub counted : (held : Held) (head : Head) (start : ℕ) → IsReached held (first_in head) start → 0 < head.many
counted held head start r =
    ⊎_elim
    (λ (e : head.many ≡ 0). none_some r.to (sym (ap (λ (b : Bool). cond b None (Some head.first)) (eq-eqb head.many 0 e)) ∙ r.is))
    (λ (d : nat_eq head.many 0 ≡ false). let n = eqb-false head.many 0 d in omega (arith, n))
    (same_or_not head.many 0)

-- what the map says of a signal that may have something there, it says of any
pub none_mapped : {X : Type 0} (heads : ℕ → Head) (mapped : Key → Option Place) (p : Point) → ((k : Key) → IsSome (mapped k) → has_map (heads k.signal).more ≡ true) → (o : Option X) → (b : Bool) → b ≡ has_map (heads p.signal).more
    → IfNone o (b ≡ true → IsNoneAt mapped p) → IfNone o (IsNoneAt mapped p)
none_mapped heads mapped p told (Some x) b is h = tt
none_mapped heads mapped p told None true is h = h refl
none_mapped heads mapped p told None false is h =
    λ k of early.
    (elim (mapped k) as (λ o. mapped k ≡ o → o ≡ None) [
      | None ↦ λ e. refl
      | Some q ↦ λ e. absurd (true≢false (sym (told k (subst (λ (o : Option Place). IsSome o) (sym e) refl)) ∙ ap (λ (s : ℕ). has_map (heads s).more) of ∙ sym is))
    ]) refl

-- the link behind a cell does not lead to a node whose cell begins later
pub no_way_back : (nodes : List Node) (heads : ℕ → Head) (mapped : Key → Option Place) (index : IsIndex nodes heads mapped) (i : ℕ) (k : Key) (p : Place) → held_at nodes i ≡ Some (k, p)
    → (gap : Gap) → IsGap (held_at nodes) (link_at nodes) (firsts heads k.signal) k.signal k.start gap → (next : Option ℕ) → next ≡ link_at nodes i → IfSome gap.before (λ b. next ≡ Some b → ⊥)
no_way_back nodes heads mapped index i k p at gap spot next is = by gap.before spot.behind.before
  where
    by : (o : Option ℕ) → IfSome o (IsBefore (held_at nodes) (link_at nodes) k.signal k.start gap.after) → IfSome o (λ b. next ≡ Some b → ⊥)
    by None h = tt
    by (Some b) h = λ e.
        let o : IsOn (held_at nodes) k.signal (Below k.start) b = (index.lists.links i k p at).on b (sym is ∙ e) in
        let same = cell_same o.key h.key o.place h.place (sym o.at ∙ h.at) in
        let low : h.key.start < k.start = subst (λ (d : Key). d.start < k.start) same.0 o.low in
        omega (arith, low, h.late)

-- the head of a signal that has a cell in a list has a number of nodes
pub has_list : (nodes : List Node) (heads : ℕ → Head) (mapped : Key → Option Place) (index : IsIndex nodes heads mapped) (i : ℕ) (k : Key) (p : Place) → held_at nodes i ≡ Some (k, p) → 0 < (heads k.signal).many
has_list nodes heads mapped index i k p at = counted (held_at nodes) (heads k.signal) k.start ((index.lists.heads k.signal).last i k p at refl (omega arith))

-- ---- the later of two
module _ (F G : Key → Option Place) (p : Point) where
  both_none : (k : Key) → F k ≡ None → G k ≡ None → or_else (F k) (G k) ≡ None
  both_none k f g = ap (λ (o : Option Place). or_else o (G k)) f ∙ g

  which : (k : Key) → IsSome (or_else (F k) (G k)) → IsSome (F k) ⊎ IsSome (G k)
  which k some = (elim (F k) as (λ o. IsSome (or_else o (G k)) → IsSome o ⊎ IsSome (G k)) [ None ↦ λ s. inr s | Some q ↦ λ s. inl refl ]) some

  -- no cell of the one at a later start than its last
  none_later : (start : ℕ) (q : Place) (t : ℕ) → IsLastAt F p start q → start < t → t ≤ p.time → F (key_at p.signal t) ≡ None
  none_later start q t a later early =
      (elim (F (key_at p.signal t)) as (λ o. F (key_at p.signal t) ≡ o → o ≡ None) [
        | None ↦ λ e. refl
        | Some r ↦ λ e. let m : t ≤ start = a.last (key_at p.signal t) refl early (subst (λ (o : Option Place). IsSome o) (sym e) refl) in absurd (omega (arith, m, later))
      ]) refl

  from_first : (a : ℕ × Place) → IsLastAt F p a.0 a.1 → ((k : Key) → k.signal ≡ p.signal → k.start ≤ p.time → IsSome (G k) → k.start ≤ a.0) → IsLastAt (λ k. or_else (F k) (G k)) p a.0 a.1
  from_first a l others = record {
    at = ap (λ (o : Option Place). or_else o (G (key_at p.signal a.0))) l.at;
    early = l.early;
    last = λ k of early some. ⊎_elim (λ (s : IsSome (F k)). l.last k of early s) (λ (s : IsSome (G k)). others k of early s) (which k some);
  }

  from_second : (b : ℕ × Place) → IsLastAt G p b.0 b.1 → F (key_at p.signal b.0) ≡ None → ((k : Key) → k.signal ≡ p.signal → k.start ≤ p.time → IsSome (F k) → k.start ≤ b.0) → IsLastAt (λ k. or_else (F k) (G k)) p b.0 b.1
  from_second b l none others = record {
    at = ap (λ (o : Option Place). or_else o (G (key_at p.signal b.0))) none ∙ l.at;
    early = l.early;
    last = λ k of early some. ⊎_elim (λ (s : IsSome (F k)). others k of early s) (λ (s : IsSome (G k)). l.last k of early s) (which k some);
  }

  not_there : (H : Key → Option Place) → IsNoneAt H p → (X : Type 0) → (k : Key) → k.signal ≡ p.signal → k.start ≤ p.time → IsSome (H k) → X
  not_there H none X k of early some = absurd (true≢false (sym (subst (λ (o : Option Place). IsSome o) (none k of early) some)))

  pub later_last : (a b : Option (ℕ × Place)) → IfSome a (λ l. IsLastAt F p l.0 l.1) → IfNone a (IsNoneAt F p) → IfSome b (λ l. IsLastAt G p l.0 l.1) → IfNone b (IsNoneAt G p)
      → IfSome (later_of a b) (λ l. IsLastAt (λ k. or_else (F k) (G k)) p l.0 l.1)
  later_last None None fa na fb nb = tt
  later_last None (Some b) fa na fb nb = from_second b fb (na (key_at p.signal b.0) refl fb.early) (λ k of early some. not_there F na (k.start ≤ b.0) k of early some)
  later_last (Some a) None fa na fb nb = from_first a fa (λ k of early some. not_there G nb (k.start ≤ a.0) k of early some)
  later_last (Some a) (Some b) fa na fb nb =
      (elim (nat_lt a.0 b.0) as (λ c. nat_lt a.0 b.0 ≡ c → IfSome (cond c (Some b) (Some a)) (λ l. IsLastAt (λ k. or_else (F k) (G k)) p l.0 l.1)) [
        | true ↦ λ t.
            let less : a.0 < b.0 = ltb-true a.0 b.0 t in
            from_second b fb (none_later a.0 a.1 b.0 fa less fb.early) (λ k of early some. let m : k.start ≤ a.0 = fa.last k of early some in omega (arith, m, less))
        | false ↦ λ t.
            let most : b.0 ≤ a.0 = ltb-false a.0 b.0 t in
            from_first a fa (λ k of early some. let m : k.start ≤ b.0 = fb.last k of early some in omega (arith, m, most))
      ]) refl

  pub later_none : (a b : Option (ℕ × Place)) → IfNone a (IsNoneAt F p) → IfNone b (IsNoneAt G p) → IfNone (later_of a b) (IsNoneAt (λ k. or_else (F k) (G k)) p)
  later_none None None na nb = λ k of early. both_none k (na k of early) (nb k of early)
  later_none None (Some b) na nb = tt
  later_none (Some a) None na nb = tt
  later_none (Some a) (Some b) na nb = elim (nat_lt a.0 b.0) as (λ c. IfNone (cond c (Some b) (Some a)) (IsNoneAt (λ k. or_else (F k) (G k)) p)) [ true ↦ tt | false ↦ tt ]
