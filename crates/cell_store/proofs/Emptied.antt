-- The list of a signal goes into a map: what has been copied of it, what has been freed, and what the index keeps.
use Rattle.std.proofs.Common.{◌≡◌, ◌⊎◌, inl, inr, ⊎_elim, ℕ, suc, ◌<◌, ◌≤◌, Bool, true, false, ◌&&◌, not, cond, nat_eq, nat_lt, List, length, Option, Some, None, IsSome, IfSome, refl, sym, ap, ap₂, subst, ◌∙◌, true≢false, eq-eqb, arith}
use Rattle.std.proofs.lemmas.Bool.{ltb-true, ltb-false, lt-ltb, le-ltb, ne_eqb, eqb-false}
use Rattle.std.specs.List.{slice_get}
use Rattle.std.proofs.lemmas.Option.{same_Some}
use Rattle.cell_store.specs.declared.Key.{Key}
use Rattle.cell_store.specs.declared.heads.Head.{Head}
use Rattle.cell_store.specs.declared.heads.More.TheVariants.{Nothing, Own, Common}
use Rattle.cell_store.specs.declared.index.Node.{Node}
use Rattle.cell_store.specs.declared.index.Place.{Place}
use Rattle.cell_store.specs.declared.maps.Maps.{Maps}
use Rattle.cell_store.specs.inner.Heads.{is_own, has_map}
use Rattle.cell_store.specs.inner.Lists.{key_at, place_in, held_at, link_at, first_in, listed, or_else, firsts, HeadSet, AreLists, IsLink, IsOn, IsReached, Any, Below, without_late, IsEmptied, way_from, start_after}
use Rattle.cell_store.specs.inner.SignalCells.{kept_at}
use Rattle.cell_store.specs.inner.Maps.{owner_at, cells_at, common_at, mapped_by, mapped_in, IsAdded, IsWhole}
use Rattle.cell_store.proofs.Found.{none_some}
use Rattle.cell_store.proofs.Links.{Cell, cell_same, key_is, same_or_not}
use Rattle.cell_store.proofs.Listed.{found_at, found_from, listed_is}
use Rattle.cell_store.proofs.Nodes.{held_within}
use Rattle.cell_store.proofs.Indexed.{IsNode, node_of}
use Rattle.cell_store.proofs.Owned.{not_own, nothing_common, by_common, set_here, set_else}

-- the cells that are on the way behind a node are not yet in the map, and all others of the signal are
pub record IsCopied (nodes : List Node) (signal : ℕ) (at : Option ℕ) (cells : ℕ → Option Place) : Type 0 where
  pub on : IfSome at (IsOn (held_at nodes) signal Any)
  pub copied : (t : ℕ) → cells t ≡ cond (nat_lt t (way_from nodes at)) None (listed nodes (key_at signal t))

-- they are not yet gone, and all others of the signal are
pub record IsEmptying (nodes : List Node) (signal : ℕ) (at : Option ℕ) (now : List Node) : Type 0 where
  pub on : IfSome at (IsOn (held_at nodes) signal Any)
  pub long : length now ≡ length nodes
  pub held : (j : ℕ) → held_at now j ≡ without_late signal (way_from nodes at) (held_at nodes j)
  pub link : (j : ℕ) → IsSome (held_at now j) → link_at now j ≡ link_at nodes j

module _ (nodes : List Node) (heads : ℕ → Head) (lists : AreLists (held_at nodes) (link_at nodes) (firsts heads)) (signal : ℕ) where
  abbrev here : ℕ → Type 0
  here i = IsOn (held_at nodes) signal Any i

  -- how far a search behind a node can still go
  way_is : (i : ℕ) (k : Key) (p : Place) → held_at nodes i ≡ Some (k, p) → way_from nodes (Some i) ≡ suc k.start
  way_is i k p at =
      let m : IsNode nodes i k p = node_of nodes i k p at in
      ap start_after m.at ∙ ap suc (ap (λ (d : Key). d.start) m.key)

  -- cells of the signal to which a link leads are on the way behind it
  on_way : (Low : ℕ → Type 0) (link : Option ℕ) → IsLink (held_at nodes) signal Low link → (j : ℕ) (c : Key) (q : Place) → held_at nodes j ≡ Some (c, q) → c.signal ≡ signal → Low c.start → c.start < way_from nodes link
  on_way Low link l j c q at of low =
      let r : IsReached (held_at nodes) link c.start = l.last j c q at of low in
      let way : way_from nodes link ≡ suc r.key.start = ap (way_from nodes) r.is ∙ way_is r.to r.key r.place r.at in
      let late : c.start ≤ r.key.start = r.late in
      omega (arith, way, late)

  on_any : (Low : ℕ → Type 0) (link : Option ℕ) → IsLink (held_at nodes) signal Low link → IfSome link here
  on_any Low None l = tt
  on_any Low (Some i) l = let r : IsOn (held_at nodes) signal Low i = l.on i refl in record { key = r.key; place = r.place; at = r.at; of = r.of; low = omega arith }

  first_link : IsLink (held_at nodes) signal Any (firsts heads signal)
  first_link = lists.heads signal

  next_link : (i : ℕ) → (o : here i) → IsLink (held_at nodes) signal (Below o.key.start) (link_at nodes i)
  next_link i o = subst (λ (t : ℕ). IsLink (held_at nodes) t (Below o.key.start) (link_at nodes i)) o.of (lists.links i o.key o.place o.at)

  way_below : (n : ℕ) (link : Option ℕ) → IsLink (held_at nodes) signal (Below n) link → way_from nodes link ≤ n
  way_below n None l = omega arith
  way_below n (Some i) l =
      let r : IsOn (held_at nodes) signal (Below n) i = l.on i refl in
      let way : way_from nodes (Some i) ≡ suc r.key.start = way_is i r.key r.place r.at in
      let low : r.key.start < n = r.low in
      omega (arith, way, low)

  pub way_less : (i : ℕ) → here i → way_from nodes (link_at nodes i) < way_from nodes (Some i)
  way_less i o =
      let way : way_from nodes (Some i) ≡ suc o.key.start = way_is i o.key o.place o.at in
      let next : way_from nodes (link_at nodes i) ≤ o.key.start = way_below o.key.start (link_at nodes i) (next_link i o) in
      omega (arith, way, next)

  pub way_on : (at : Option ℕ) (i : ℕ) → at ≡ Some i → IfSome at here → (next : Option ℕ) → next ≡ link_at nodes i → way_from nodes next < way_from nodes at
  way_on at i to on next is =
      let less : way_from nodes (link_at nodes i) < way_from nodes (Some i) = way_less i (subst (λ (x : Option ℕ). IfSome x here) to on) in
      let a : way_from nodes next ≡ way_from nodes (link_at nodes i) = ap (way_from nodes) is in
      let b : way_from nodes at ≡ way_from nodes (Some i) = ap (way_from nodes) to in
      omega (arith, less, a, b)

  pub on_within : (at : Option ℕ) (i : ℕ) → at ≡ Some i → IfSome at here → i < length nodes
  on_within at i to on = let o : here i = subst (λ (x : Option ℕ). IfSome x here) to on in held_within nodes i (subst (λ (c : Option Cell). IsSome c) (sym o.at) refl)

  -- ---- copying
  none_past : (Low : ℕ → Type 0) (link : Option ℕ) → IsLink (held_at nodes) signal Low link → (t : ℕ) → Low t → way_from nodes link ≤ t → listed nodes (key_at signal t) ≡ None
  none_past Low link l t low past =
      listed_is nodes (key_at signal t) None lists.once (λ p e. none_some p e)
      (λ i p at. let way : t < way_from nodes link = on_way Low link l i (key_at signal t) p at refl low in absurd (omega (arith, way, past)))

  pub copies_none : (cells : ℕ → Option Place) → ((t : ℕ) → cells t ≡ None) → IsCopied nodes signal (firsts heads signal) cells
  copies_none cells none = record {
    on = on_any Any (firsts heads signal) first_link;
    copied = λ t. none t
        ∙ (elim (nat_lt t (way_from nodes (firsts heads signal))) as (λ b. nat_lt t (way_from nodes (firsts heads signal)) ≡ b → None ≡ cond b None (listed nodes (key_at signal t))) [
          | true ↦ λ e. refl
          | false ↦ λ e. sym (none_past Any (firsts heads signal) first_link t (omega arith) (ltb-false t (way_from nodes (firsts heads signal)) e))
        ]) refl;
  }

  module _ (at : Option ℕ) (i : ℕ) (to : at ≡ Some i) (n : Node) (is : slice_get nodes i ≡ Some n) where
    here_is : (o : here i) → o.key ≡ key_at signal n.start
    here_is o =
        let m : IsNode nodes i o.key o.place = node_of nodes i o.key o.place o.at in
        key_is o.key (key_at signal n.start) o.of (ap (λ (d : Key). d.start) (sym m.key) ∙ ap (λ (d : Node). d.start) (same_Some m.node n (sym m.at ∙ is)))

    here_place : (o : here i) → o.place ≡ place_in n
    here_place o = let m : IsNode nodes i o.key o.place = node_of nodes i o.key o.place o.at in sym m.place ∙ ap place_in (same_Some m.node n (sym m.at ∙ is))

    here_held : (o : here i) → held_at nodes i ≡ Some (key_at signal n.start, place_in n)
    here_held o = o.at ∙ ap₂ (λ (k : Key) (p : Place). Some (k, p)) (here_is o) (here_place o)

    -- this cell is not yet in the map
    pub copies_new : (cells : ℕ → Option Place) → IsCopied nodes signal at cells → cells n.start ≡ None
    copies_new cells c =
        let way : way_from nodes at ≡ suc n.start = ap (way_from nodes) to ∙ ap start_after is in
        c.copied n.start ∙ ap (λ (b : Bool). cond b None (listed nodes (key_at signal n.start))) (lt-ltb n.start (way_from nodes at) (omega (arith, way)))

    pub copies_more : (cells more : ℕ → Option Place) → IsCopied nodes signal at cells → ((t : ℕ) → more t ≡ cond (nat_eq n.start t) (Some (place_in n)) (cells t)) → IsCopied nodes signal (link_at nodes i) more
    copies_more cells more c came =
        let o : here i = subst (λ (x : Option ℕ). IfSome x here) to c.on in
        let start : o.key.start ≡ n.start = ap (λ (d : Key). d.start) (here_is o) in
        let link : IsLink (held_at nodes) signal (Below n.start) (link_at nodes i) = subst (λ (t : ℕ). IsLink (held_at nodes) signal (Below t) (link_at nodes i)) start (next_link i o) in
        let way : way_from nodes at ≡ suc n.start = ap (way_from nodes) to ∙ way_is i o.key o.place o.at ∙ ap suc start in
        let low : way_from nodes (link_at nodes i) ≤ n.start = way_below n.start (link_at nodes i) link in
        record {
          on = on_any (Below n.start) (link_at nodes i) link;
          copied = λ t. came t ∙ by link way low o t (cells t) (c.copied t);
        }
      where
        by : IsLink (held_at nodes) signal (Below n.start) (link_at nodes i) → way_from nodes at ≡ suc n.start → way_from nodes (link_at nodes i) ≤ n.start → here i → (t : ℕ) (had : Option Place)
            → had ≡ cond (nat_lt t (way_from nodes at)) None (listed nodes (key_at signal t))
            → cond (nat_eq n.start t) (Some (place_in n)) had ≡ cond (nat_lt t (way_from nodes (link_at nodes i))) None (listed nodes (key_at signal t))
        by link way low o t had is_had =
            ⊎_elim
            (λ (e : n.start ≡ t).
            ap (λ (b : Bool). cond b (Some (place_in n)) had) (eq-eqb n.start t e)
            ∙ sym (found_at nodes i (key_at signal t) (place_in n) lists.once (here_held o ∙ ap (λ (s : ℕ). Some (key_at signal s, place_in n)) e))
            ∙ sym (ap (λ (b : Bool). cond b None (listed nodes (key_at signal t))) (le-ltb t (way_from nodes (link_at nodes i)) (omega (arith, low, e)))))
            (λ (d : nat_eq n.start t ≡ false).
            let unequal = eqb-false n.start t d in
            ap (λ (b : Bool). cond b (Some (place_in n)) had) d ∙ is_had
            ∙ (elim (nat_lt t n.start) as (λ b. nat_lt t n.start ≡ b → cond (nat_lt t (way_from nodes at)) None (listed nodes (key_at signal t)) ≡ cond (nat_lt t (way_from nodes (link_at nodes i))) None (listed nodes (key_at signal t))) [
              | true ↦ λ e.
                  let less : t < n.start = ltb-true t n.start e in
                  ap (λ (b : Bool). cond b None (listed nodes (key_at signal t))) (lt-ltb t (way_from nodes at) (omega (arith, less, way)))
                  ∙ (elim (nat_lt t (way_from nodes (link_at nodes i))) as (λ b. nat_lt t (way_from nodes (link_at nodes i)) ≡ b → None ≡ cond b None (listed nodes (key_at signal t))) [
                    | true ↦ λ f. refl
                    | false ↦ λ f. sym (none_past (Below n.start) (link_at nodes i) link t less (ltb-false t (way_from nodes (link_at nodes i)) f))
                  ]) refl
              | false ↦ λ e.
                  let most : n.start ≤ t = ltb-false t n.start e in
                  let past : suc n.start ≤ t = strict n.start t most unequal in
                  ap (λ (b : Bool). cond b None (listed nodes (key_at signal t))) (le-ltb t (way_from nodes at) (omega (arith, past, way)))
                  ∙ sym (ap (λ (b : Bool). cond b None (listed nodes (key_at signal t))) (le-ltb t (way_from nodes (link_at nodes i)) (omega (arith, past, low))))
            ]) refl)
            (same_or_not n.start t)
          where
            strict : (a b : ℕ) → a ≤ b → (a ≡ b → ⊥) → suc a ≤ b
            strict a b h u = omega (arith, h, u)

  pub copied_all : (at : Option ℕ) (cells : ℕ → Option Place) → IsCopied nodes signal at cells → at ≡ None → (t : ℕ) → cells t ≡ listed nodes (key_at signal t)
  copied_all at cells c none t =
      c.copied t ∙ ap (λ (b : Bool). cond b None (listed nodes (key_at signal t))) (le-ltb t (way_from nodes at) (let way : way_from nodes at ≡ 0 = ap (way_from nodes) none in omega (arith, way)))

  -- ---- freeing
  stays_early : (c : Cell) (w : ℕ) → c.0.start < w → without_late signal w (Some c) ≡ Some c
  stays_early c w h =
      (elim (nat_eq c.0.signal signal) as (λ b. cond (b && not (nat_lt c.0.start w)) None (Some c) ≡ Some c) [
        | true ↦ ap (λ (b : Bool). cond (not b) None (Some c)) (lt-ltb c.0.start w h)
        | false ↦ refl
      ])

  stays_other : (c : Cell) (w : ℕ) → nat_eq c.0.signal signal ≡ false → without_late signal w (Some c) ≡ Some c
  stays_other c w h = ap (λ (b : Bool). cond (b && not (nat_lt c.0.start w)) None (Some c)) h

  goes_late : (c : Cell) (w : ℕ) → c.0.signal ≡ signal → w ≤ c.0.start → without_late signal w (Some c) ≡ None
  goes_late c w of late = ap₂ (λ (a b : Bool). cond (a && not b) None (Some c)) (eq-eqb c.0.signal signal of) (le-ltb c.0.start w late)

  pub empties_none : IsEmptying nodes signal (firsts heads signal) nodes
  empties_none = record {
    on = on_any Any (firsts heads signal) first_link;
    long = refl;
    held = λ j.
        (elim (held_at nodes j) as (λ o. held_at nodes j ≡ o → o ≡ without_late signal (way_from nodes (firsts heads signal)) o) [
          | None ↦ λ e. refl
          | Some c ↦ λ e. ⊎_elim
              (λ (of : c.0.signal ≡ signal). sym (stays_early c (way_from nodes (firsts heads signal)) (on_way Any (firsts heads signal) first_link j c.0 c.1 e of (omega arith))))
              (λ (d : nat_eq c.0.signal signal ≡ false). sym (stays_other c (way_from nodes (firsts heads signal)) d))
              (same_or_not c.0.signal signal)
        ]) refl;
    link = λ j some. refl;
  }

  module _ (at : Option ℕ) (i : ℕ) (to : at ≡ Some i) (now : List Node) (m : IsEmptying nodes signal at now) where
    pub at_node : here i
    at_node = subst (λ (x : Option ℕ). IfSome x here) to m.on

    way_now : way_from nodes at ≡ suc at_node.key.start
    way_now = ap (way_from nodes) to ∙ way_is i at_node.key at_node.place at_node.at

    still_there : held_at now i ≡ Some (at_node.key, at_node.place)
    still_there = m.held i ∙ ap (without_late signal (way_from nodes at)) at_node.at ∙ stays_early (at_node.key, at_node.place) (way_from nodes at) (let way = way_now in omega (arith, way))

    pub still_within : i < length now
    still_within = held_within now i (subst (λ (o : Option Cell). IsSome o) (sym still_there) refl)

    pub link_read : link_at now i ≡ link_at nodes i
    link_read = m.link i (subst (λ (o : Option Cell). IsSome o) (sym still_there) refl)

    pub empties_more : (new : List Node) → length new ≡ length now → ((j : ℕ) → held_at new j ≡ cond (nat_eq i j) None (held_at now j)) → ((j : ℕ) → nat_eq i j ≡ false → link_at new j ≡ link_at now j)
        → IsEmptying nodes signal (link_at nodes i) new
    empties_more new long held link = record {
      on = on_any (Below at_node.key.start) (link_at nodes i) (next_link i at_node);
      long = long ∙ m.long;
      held = λ j. held j
          ∙ (elim (held_at nodes j) as (λ o. held_at nodes j ≡ o → held_at now j ≡ without_late signal (way_from nodes at) o → cond (nat_eq i j) None (held_at now j) ≡ without_late signal (way_from nodes (link_at nodes i)) o) [
            | None ↦ λ e h. ap (λ (o : Option Cell). cond (nat_eq i j) None o) h ∙ nothing (nat_eq i j)
            | Some c ↦ λ e h. by j c e h (same_or_not c.0.signal signal)
          ]) refl (m.held j);
      link = λ j some. ⊎_elim
          (λ (e : i ≡ j). absurd (true≢false (sym (subst (λ (o : Option Cell). IsSome o) (held j ∙ ap (λ (b : Bool). cond b None (held_at now j)) (eq-eqb i j e)) some))))
          (λ (d : nat_eq i j ≡ false).
          link j d ∙ m.link j (subst (λ (o : Option Cell). IsSome o) (held j ∙ ap (λ (b : Bool). cond b None (held_at now j)) d) some))
          (same_or_not i j);
    }
      where
        nothing : (b : Bool) → cond {A = Option Cell} b None None ≡ None
        nothing true = refl
        nothing false = refl

        w : ℕ
        w = way_from nodes (link_at nodes i)

        apart : (j : ℕ) (c : Cell) → held_at nodes j ≡ Some c → (c.0 ≡ at_node.key → ⊥) → nat_eq i j ≡ false
        apart j c e other = ne_eqb i j (λ same. other (cell_same c.0 at_node.key c.1 at_node.place (sym e ∙ ap (held_at nodes) (sym same) ∙ at_node.at)).0)

        cells_stay : (j : ℕ) (c : Cell) → nat_eq i j ≡ false → held_at now j ≡ Some c → cond (nat_eq i j) None (held_at now j) ≡ Some c
        cells_stay j c d h = ap (λ (b : Bool). cond b None (held_at now j)) d ∙ h

        below : way_from nodes (link_at nodes i) ≤ at_node.key.start
        below = way_below at_node.key.start (link_at nodes i) (next_link i at_node)

        by : (j : ℕ) (c : Cell) → held_at nodes j ≡ Some c → held_at now j ≡ without_late signal (way_from nodes at) (Some c) → (c.0.signal ≡ signal) ⊎ (nat_eq c.0.signal signal ≡ false)
            → cond (nat_eq i j) None (held_at now j) ≡ without_late signal (way_from nodes (link_at nodes i)) (Some c)
        by j c e h (inr d) =
            cells_stay j c (apart j c e (λ s. eqb-false c.0.signal signal d (ap (λ (k : Key). k.signal) s ∙ at_node.of))) (h ∙ stays_other c (way_from nodes at) d)
            ∙ sym (stays_other c (way_from nodes (link_at nodes i)) d)
        by j c e h (inl of) =
            (elim (nat_lt c.0.start at_node.key.start) as (λ b. nat_lt c.0.start at_node.key.start ≡ b → cond (nat_eq i j) None (held_at now j) ≡ without_late signal (way_from nodes (link_at nodes i)) (Some c)) [
              | true ↦ λ t.
                  let less : c.0.start < at_node.key.start = ltb-true c.0.start at_node.key.start t in
                  let way = way_now in
                  cells_stay j c (apart j c e (λ s. let same : c.0.start ≡ at_node.key.start = ap (λ (k : Key). k.start) s in omega (arith, less, same))) (h ∙ stays_early c (way_from nodes at) (omega (arith, less, way)))
                  ∙ sym (stays_early c (way_from nodes (link_at nodes i)) (on_way (Below at_node.key.start) (link_at nodes i) (next_link i at_node) j c.0 c.1 e of less))
              | false ↦ λ t.
                  let most : at_node.key.start ≤ c.0.start = ltb-false c.0.start at_node.key.start t in
                  let low = below in
                  late j c e h of most
                  ∙ sym (goes_late c (way_from nodes (link_at nodes i)) of (omega (arith, most, low)))
            ]) refl
          where
            late : (j : ℕ) (c : Cell) → held_at nodes j ≡ Some c → held_at now j ≡ without_late signal (way_from nodes at) (Some c) → c.0.signal ≡ signal → at_node.key.start ≤ c.0.start → cond (nat_eq i j) None (held_at now j) ≡ None
            late j c e h of most =
                ⊎_elim
                (λ (s : c.0.start ≡ at_node.key.start).
                let same : c.0 ≡ at_node.key = key_is c.0 at_node.key (of ∙ sym at_node.of) s in
                ap (λ (b : Bool). cond b None (held_at now j)) (eq-eqb i j (lists.once i j at_node.key at_node.place c.1 at_node.at (e ∙ ap (λ (k : Key). Some (k, c.1)) same))))
                (λ (d : nat_eq c.0.start at_node.key.start ≡ false).
                let way = way_now in
                let unequal = eqb-false c.0.start at_node.key.start d in
                ap (λ (o : Option Cell). cond (nat_eq i j) None o) (h ∙ goes_late c (way_from nodes at) of (omega (arith, most, way, unequal))) ∙ nothing (nat_eq i j))
                (same_or_not c.0.start at_node.key.start)

  pub emptied_all : (at : Option ℕ) (now : List Node) → IsEmptying nodes signal at now → at ≡ None → IsEmptied nodes now signal
  emptied_all at now m none = record { held = λ j. m.held j ∙ ap (λ (w : ℕ). without_late signal w (held_at nodes j)) (ap (way_from nodes) none); link = m.link }

-- ---- the list is in the map
pub record HasMoved (nodes new : List Node) (heads heads' : ℕ → Head) (maps maps' : Maps) (signal : ℕ) : Type 0 where
  pub whole : IsWhole new heads' maps'
  pub told : has_map (heads' signal).more ≡ true
  pub same : (q : Key) → or_else (listed new q) (mapped_in heads' maps' q) ≡ or_else (listed nodes q) (mapped_in heads maps q)
  pub unlisted : (q : Key) → listed nodes q ≡ None → listed new q ≡ None

module _ (nodes : List Node) (heads : ℕ → Head) (maps : Maps) (w : IsWhole nodes heads maps) (signal : ℕ) (alone : (heads signal).more ≡ Nothing) (cells : List (ℕ × Place))
    (copied : (t : ℕ) → kept_at cells t ≡ listed nodes (key_at signal t)) (maps' : Maps) (n : ℕ) (added : IsAdded maps maps' signal cells n) (new : List Node) (emptied : IsEmptied nodes new signal) (heads' : ℕ → Head)
    (set : HeadSet heads heads' signal (record { first = n; many = 0; more = Own })) where
  abbrev head : Head
  head = record { first = n; many = 0; more = Own }

  stays : (j : ℕ) (k : Key) (p : Place) → held_at new j ≡ Some (k, p) → (nat_eq k.signal signal ≡ false) × (held_at nodes j ≡ Some (k, p))
  stays j k p at =
      (elim (held_at nodes j) as (λ o. held_at nodes j ≡ o → without_late signal 0 o ≡ some_one k p → (nat_eq k.signal signal ≡ false) × (o ≡ some_one k p)) [
        | None ↦ λ e d. none_some (k, p) d
        | Some c ↦ λ e d.
            (elim (nat_eq c.0.signal signal) as (λ b. nat_eq c.0.signal signal ≡ b → cond (b && not (nat_lt c.0.start 0)) None (Some c) ≡ some_one k p → (nat_eq k.signal signal ≡ false) × (Some c ≡ some_one k p)) [
              | true ↦ λ t f. none_some (k, p) (sym (ap (λ (b : Bool). cond (not b) None (Some c)) (le-ltb c.0.start 0 (omega arith))) ∙ f)
              | false ↦ λ t f. (sym (ap (λ (d : Key). nat_eq d.signal signal) (cell_same c.0 k c.1 p f).0) ∙ t, f)
            ]) refl d
      ]) refl (sym (emptied.held j) ∙ at)
    where
      some_one : Key → Place → Option Cell
      some_one k p = Some (k, p)

  keeps : (j : ℕ) (k : Key) (p : Place) → held_at nodes j ≡ Some (k, p) → nat_eq k.signal signal ≡ false → held_at new j ≡ Some (k, p)
  keeps j k p at d = emptied.held j ∙ ap (without_late signal 0) at ∙ ap (λ (b : Bool). cond (b && not (nat_lt k.start 0)) None (Some (k, p))) d

  swapped : (a b : ℕ) → nat_eq a b ≡ false → nat_eq b a ≡ false
  swapped a b d = ne_eqb b a (λ e. eqb-false a b d (sym e))

  link_stays : (s : ℕ) (Low : ℕ → Type 0) (link : Option ℕ) → nat_eq s signal ≡ false → IsLink (held_at nodes) s Low link → IsLink (held_at new) s Low link
  link_stays s Low link d l = record {
    on = λ i to. let o : IsOn (held_at nodes) s Low i = l.on i to in record { key = o.key; place = o.place; at = keeps i o.key o.place o.at (ap (λ (t : ℕ). nat_eq t signal) o.of ∙ d); of = o.of; low = o.low };
    last = λ i k p at of low.
        let r : IsReached (held_at nodes) link k.start = l.last i k p (stays i k p at).1 of low in
        let o : IsOn (held_at nodes) s Low r.to = l.on r.to r.is in
        let same = cell_same o.key r.key o.place r.place (sym o.at ∙ r.at) in
        record { to = r.to; key = r.key; place = r.place; is = r.is; at = keeps r.to r.key r.place r.at (ap (λ (c : Key). nat_eq c.signal signal) (sym same.0) ∙ ap (λ (t : ℕ). nat_eq t signal) o.of ∙ d); late = r.late };
  }

  no_link : IsLink (held_at new) signal Any None
  no_link = record {
    on = λ i to. none_some i to;
    last = λ i k p at of low. absurd (eqb-false k.signal signal (stays i k p at).0 of);
  }

  lists_new : AreLists (held_at new) (link_at new) (firsts heads')
  lists_new = record {
    once = λ i j k p q a b. w.index.lists.once i j k p q (stays i k p a).1 (stays j k q b).1;
    heads = λ s. ⊎_elim
        (λ (e : signal ≡ s). subst (λ (t : ℕ). IsLink (held_at new) t Any (firsts heads' t)) e (subst (λ (o : Option ℕ). IsLink (held_at new) signal Any o) (sym (ap first_in (set_here heads heads' signal head set signal refl))) no_link))
        (λ (d : nat_eq signal s ≡ false).
        subst (λ (o : Option ℕ). IsLink (held_at new) s Any o) (sym (ap first_in (set_else heads heads' signal head set s d))) (link_stays s Any (firsts heads s) (swapped signal s d) (w.index.lists.heads s)))
        (same_or_not signal s);
    links = λ i k p at.
        let was = stays i k p at in
        subst (λ (o : Option ℕ). IsLink (held_at new) k.signal (Below k.start) o) (sym (emptied.link i (subst (λ (o : Option Cell). IsSome o) (sym at) refl)))
        (link_stays k.signal (Below k.start) (link_at nodes i) was.0 (w.index.lists.links i k p was.1));
  }

  other_map : (s : ℕ) → is_own (heads s).more ≡ true → nat_eq n (heads s).first ≡ false
  other_map s own = ne_eqb n (heads s).first (λ e. none_some s (sym added.free ∙ ap (owner_at maps) e ∙ w.owned s own))

  mapped_else : (q : Key) → nat_eq signal q.signal ≡ false → mapped_in heads' maps' q ≡ mapped_in heads maps q
  mapped_else q d =
      ap (λ (h : Head). mapped_by h maps' q) (set_else heads heads' signal head set q.signal d)
      ∙ (elim (is_own (heads q.signal).more) as (λ b. is_own (heads q.signal).more ≡ b → cond b (cells_at maps' (heads q.signal).first q.start) (common_at maps' q) ≡ cond b (cells_at maps (heads q.signal).first q.start) (common_at maps q)) [
        | true ↦ λ own. added.cells (heads q.signal).first q.start ∙ ap (λ (b : Bool). cond b (kept_at cells q.start) (cells_at maps (heads q.signal).first q.start)) (other_map q.signal own)
        | false ↦ λ own. added.common q
      ]) refl

  mapped_here : (q : Key) → signal ≡ q.signal → mapped_in heads' maps' q ≡ listed nodes q
  mapped_here q e =
      ap (λ (h : Head). mapped_by h maps' q) (set_here heads heads' signal head set q.signal e) ∙ added.cells n q.start
      ∙ ap (λ (b : Bool). cond b (kept_at cells q.start) (cells_at maps n q.start)) (eq-eqb n n refl)
      ∙ copied q.start ∙ ap (listed nodes) (key_is (key_at signal q.start) q e refl)

  none_before : (q : Key) → signal ≡ q.signal → mapped_in heads maps q ≡ None
  none_before q e =
      ap (λ (s : ℕ). mapped_by (heads s) maps q) (sym e) ∙ by_common (heads signal) maps q (not_own (heads signal).more alone)
      ∙ (elim (common_at maps q) as (λ o. common_at maps q ≡ o → o ≡ None) [
        | None ↦ λ d. refl
        | Some p ↦ λ d. nothing_common (heads signal).more alone (ap (λ (s : ℕ). (heads s).more) e ∙ w.told q (subst (λ (o : Option Place). IsSome o) (sym d) refl))
      ]) refl

  listed_here : (q : Key) → signal ≡ q.signal → listed new q ≡ None
  listed_here q e = listed_is new q None lists_new.once (λ p d. none_some p d) (λ i p at. absurd (eqb-false q.signal signal (stays i q p at).0 (sym e)))

  listed_else : (q : Key) → nat_eq signal q.signal ≡ false → listed new q ≡ listed nodes q
  listed_else q d =
      listed_is new q (listed nodes q) lists_new.once (λ p f. let r = found_from nodes q p f in (r.0, keeps r.0 q p r.1 (swapped signal q.signal d)))
      (λ i p at. found_at nodes i q p w.index.lists.once (stays i q p at).1)

  or_nothing : (o : Option Place) → or_else o None ≡ o
  or_nothing None = refl
  or_nothing (Some p) = refl

  told_here : has_map (heads' signal).more ≡ true
  told_here = ap (λ (h : Head). has_map h.more) (set_here heads heads' signal head set signal refl)

  pub has_moved : HasMoved nodes new heads heads' maps maps' signal
  has_moved = record {
    whole = record {
      index = record {
        lists = lists_new;
        apart = λ i k p at. let was = stays i k p at in mapped_else k (swapped k.signal signal was.0) ∙ w.index.apart i k p was.1;
        told = λ k some. ⊎_elim
            (λ (e : signal ≡ k.signal). ap (λ (h : Head). has_map h.more) (set_here heads heads' signal head set k.signal e))
            (λ (d : nat_eq signal k.signal ≡ false).
            ap (λ (h : Head). has_map h.more) (set_else heads heads' signal head set k.signal d) ∙ w.index.told k (subst (λ (o : Option Place). IsSome o) (mapped_else k d) some))
            (same_or_not signal k.signal);
      };
      owned = λ s own. ⊎_elim
          (λ (e : signal ≡ s).
          ap (λ (h : Head). owner_at maps' h.first) (set_here heads heads' signal head set s e) ∙ added.owners n ∙ ap (λ (b : Bool). cond b (Some signal) (owner_at maps n)) (eq-eqb n n refl) ∙ ap (λ (t : ℕ). Some t) e)
          (λ (d : nat_eq signal s ≡ false).
          let own' : is_own (heads s).more ≡ true = sym (ap (λ (h : Head). is_own h.more) (set_else heads heads' signal head set s d)) ∙ own in
          ap (λ (h : Head). owner_at maps' h.first) (set_else heads heads' signal head set s d) ∙ added.owners (heads s).first ∙ ap (λ (b : Bool). cond b (Some signal) (owner_at maps (heads s).first)) (other_map s own') ∙ w.owned s own')
          (same_or_not signal s);
      unlisted = λ s own. ⊎_elim
          (λ (e : signal ≡ s). ap (λ (h : Head). h.many) (set_here heads heads' signal head set s e))
          (λ (d : nat_eq signal s ≡ false).
          ap (λ (h : Head). h.many) (set_else heads heads' signal head set s d) ∙ w.unlisted s (sym (ap (λ (h : Head). is_own h.more) (set_else heads heads' signal head set s d)) ∙ own))
          (same_or_not signal s);
      told = λ k some.
          let was : (heads k.signal).more ≡ Common = w.told k (subst (λ (o : Option Place). IsSome o) (added.common k) some) in
          ⊎_elim
          (λ (e : signal ≡ k.signal). nothing_common (heads signal).more alone (ap (λ (s : ℕ). (heads s).more) e ∙ was))
          (λ (d : nat_eq signal k.signal ≡ false). ap (λ (h : Head). h.more) (set_else heads heads' signal head set k.signal d) ∙ was)
          (same_or_not signal k.signal);
    };
    told = told_here;
    same = λ q. ⊎_elim
        (λ (e : signal ≡ q.signal).
        ap₂ or_else (listed_here q e) (mapped_here q e) ∙ sym (ap (or_else (listed nodes q)) (none_before q e) ∙ or_nothing (listed nodes q)))
        (λ (d : nat_eq signal q.signal ≡ false). ap₂ or_else (listed_else q d) (mapped_else q d))
        (same_or_not signal q.signal);
    unlisted = λ q none. ⊎_elim (λ (e : signal ≡ q.signal). listed_here q e) (λ (d : nat_eq signal q.signal ≡ false). listed_else q d ∙ none) (same_or_not signal q.signal);
  }
