-- What a cell more and a cell less keep of all lists.
use Rattle.std.proofs.Common.{◌≡◌, ◌⊎◌, inl, inr, ⊎_elim, ℕ, ◌<◌, ◌≤◌, Bool, true, false, cond, nat_eq, Option, Some, None, IfSome, IfNone, refl, sym, ap, subst, ◌∙◌, eq-eqb, arith}
use Rattle.std.proofs.lemmas.Bool.{eqb-false}
use Rattle.cell_store.specs.declared.Key.{Key}
use Rattle.cell_store.specs.declared.index.Place.{Place}
use Rattle.cell_store.specs.declared.index.Gap.{Gap}
use Rattle.cell_store.specs.inner.Lists.{IsReached, IsOn, IsLink, Any, Below, AreLists, IsBefore, IsAfter, IsGap, is_it}
use Rattle.cell_store.proofs.Links.{Same, Cell, Held, any_down, below_down, cell_same, key_is, same_or_not, three_ways, reached_at, on_at, not_free, was_held, link_stays, link_to_new, link_of_new, left, link_keeps, link_past}

abbrev Links : Type 0
Links = ℕ → Option ℕ

-- the cell that a search for a time finds is the last that begins no later
module _ (held : Held) (link first : Links) (lists : AreLists held link first) (signal start : ℕ) where
  pub last_before : (before after : Option ℕ) → IfNone before (after ≡ first signal) → IfSome before (IsBefore held link signal start after)
      → (j : ℕ) (c : Key) (q : Place) → held j ≡ Some (c, q) → c.signal ≡ signal → c.start ≤ start → IsReached held after c.start
  last_before None after front before j c q at of early = subst (λ (o : Option ℕ). IsReached held o c.start) (sym front) ((lists.heads signal).last j c q at of (omega arith))
  last_before (Some b) after front before j c q at of early =
      subst (λ (o : Option ℕ). IsReached held o c.start) before.next
      ((lists.links b before.key before.place before.at).last j c q at (of ∙ sym before.of) (omega (arith, early, before.late)))

-- the same lists, told otherwise
pub same_links : (held new : Held) (link link' first first' : Links) → ((j : ℕ) → new j ≡ held j) → ((j : ℕ) → link' j ≡ link j) → ((s : ℕ) → first' s ≡ first s) → AreLists held link first → AreLists new link' first'
same_links held new link link' first first' h l f lists = record {
  once = λ i j k p q a b. lists.once i j k p q (sym (h i) ∙ a) (sym (h j) ∙ b);
  heads = λ s. subst (λ (o : Option ℕ). IsLink new s Any o) (sym (f s)) (move s Any (first s) (lists.heads s));
  links = λ i k p a. subst (λ (o : Option ℕ). IsLink new k.signal (Below k.start) o) (sym (l i)) (move k.signal (Below k.start) (link i) (lists.links i k p (sym (h i) ∙ a)));
}
  where
    move : (s : ℕ) (Low : ℕ → Type 0) (o : Option ℕ) → IsLink held s Low o → IsLink new s Low o
    move s Low o m = record {
      on = λ j to. let r : IsOn held s Low j = m.on j to in record { key = r.key; place = r.place; at = h j ∙ r.at; of = r.of; low = r.low };
      last = λ j c q at of low.
          let r : IsReached held o c.start = m.last j c q (sym (h j) ∙ at) of low in
          record { to = r.to; key = r.key; place = r.place; is = r.is; at = h r.to ∙ r.at; late = r.late };
    }

-- ---- a cell more
module _ (held new : Held) (link link' first first' : Links) (lists : AreLists held link first) (i : ℕ) (k : Key) (p : Place) (gap : Gap)
    (free : held i ≡ None) (absent : (j : ℕ) (q : Place) → held j ≡ Some (k, q) → ⊥)
    (place : IsGap held link (first k.signal) k.signal k.start gap)
    (is : (j : ℕ) → new j ≡ cond (nat_eq i j) (Some (k, p)) (held j))
    (links : (j : ℕ) → link' j ≡ cond (nat_eq i j) gap.after (cond (is_it gap.before j) (Some i) (link j))) where
  here : new i ≡ Some (k, p)
  here = is i ∙ ap (λ (b : Bool). cond b (Some (k, p)) (held i)) (eq-eqb i i refl)

  others : (j : ℕ) → nat_eq i j ≡ false → new j ≡ held j
  others j h = is j ∙ ap (λ (b : Bool). cond b (Some (k, p)) (held j)) h

  of_new : link' i ≡ gap.after
  of_new = links i ∙ ap (λ (b : Bool). cond b gap.after (cond (is_it gap.before i) (Some i) (link i))) (eq-eqb i i refl)

  of_other : (j : ℕ) → nat_eq i j ≡ false → is_it gap.before j ≡ false → link' j ≡ link j
  of_other j h b = links j ∙ ap (λ (c : Bool). cond c gap.after (cond (is_it gap.before j) (Some i) (link j))) h ∙ ap (λ (c : Bool). cond c (Some i) (link j)) b

  of_before : (j : ℕ) → nat_eq i j ≡ false → is_it gap.before j ≡ true → link' j ≡ Some i
  of_before j h b = links j ∙ ap (λ (c : Bool). cond c gap.after (cond (is_it gap.before j) (Some i) (link j))) h ∙ ap (λ (c : Bool). cond c (Some i) (link j)) b

  -- the cell behind the gap begins earlier
  earlier : (j : ℕ) (c : Key) (q : Place) → gap.after ≡ Some j → held j ≡ Some (c, q) → c.start < k.start
  earlier j c q to at =
      let a : IsAfter held k.signal k.start j = subst (λ (o : Option ℕ). IfSome o (IsAfter held k.signal k.start)) to place.after in
      let same = cell_same a.key c a.place q (sym a.at ∙ at) in
      let low : c.start ≤ k.start = subst (λ (d : Key). d.start ≤ k.start) same.0 a.early in
      let of : c.signal ≡ k.signal = subst (λ (d : Key). d.signal ≡ k.signal) same.0 a.of in
      let unequal : c.start ≡ k.start → ⊥ = λ e. absent j q (at ∙ ap (λ (d : Key). Some (d, q)) (key_is c k of e)) in
      omega (arith, low, unequal)

  one_each : (a b : ℕ) (c : Key) (q r : Place) → new a ≡ Some (c, q) → new b ≡ Some (c, r) → a ≡ b
  one_each a b c q r x y =
      ⊎_elim
      (λ (e : (i ≡ a) × Same (c, q) (k, p)).
      let key : c ≡ k = ap (λ (d : Cell). d.0) e.1 in
      ⊎_elim
      (λ (f : (i ≡ b) × Same (c, r) (k, p)). sym e.0 ∙ f.0)
      (λ (f : held b ≡ Some (c, r)). absurd (absent b r (f ∙ ap (λ (d : Key). Some (d, r)) key)))
      (was_held held new i k p free here others b (c, r) y))
      (λ (e : held a ≡ Some (c, q)).
      ⊎_elim
      (λ (f : (i ≡ b) × Same (c, r) (k, p)). absurd (absent a q (e ∙ ap (λ (d : Key). Some (d, q)) (ap (λ (d : Cell). d.0) f.1))))
      (λ (f : held b ≡ Some (c, r)). lists.once a b c q r e f)
      (was_held held new i k p free here others b (c, r) y))
      (was_held held new i k p free here others a (c, q) x)

  -- the head of another signal
  other_head : (s : ℕ) → (k.signal ≡ s → ⊥) → IsLink new s Any (first s)
  other_head s not_so = link_stays held new i k p free here others s Any (first s) (lists.heads s) (λ of low. absurd (not_so of))

  module _ (none : gap.before ≡ None) (front : first' k.signal ≡ Some i) (heads : (s : ℕ) → (k.signal ≡ s → ⊥) → first' s ≡ first s) where
    at_front : gap.after ≡ first k.signal
    at_front = subst (λ (o : Option ℕ). IfNone o (gap.after ≡ first k.signal)) none place.behind.front

    front_link : IsLink held k.signal Any gap.after
    front_link = subst (λ (o : Option ℕ). IsLink held k.signal Any o) (sym at_front) (lists.heads k.signal)

    no_before : (j : ℕ) → is_it gap.before j ≡ false
    no_before j = ap (λ (o : Option ℕ). is_it o j) none

    pub added_in_front : AreLists new link' first'
    added_in_front = record {
      once = one_each;
      heads = λ s. ⊎_elim
          (λ (e : k.signal ≡ s). subst (λ (t : ℕ). IsLink new t Any (first' t)) e
          (subst (λ (o : Option ℕ). IsLink new k.signal Any o) (sym front) (link_to_new held new i k p free here others k.signal Any any_down gap.after front_link refl (omega arith) earlier)))
          (λ (h : nat_eq k.signal s ≡ false). let not_so = eqb-false k.signal s h in subst (λ (o : Option ℕ). IsLink new s Any o) (sym (heads s not_so)) (other_head s not_so))
          (same_or_not k.signal s);
      links = λ j c q at. ⊎_elim
          (λ (e : (i ≡ j) × Same (c, q) (k, p)).
          let key : c ≡ k = ap (λ (d : Cell). d.0) e.1 in
          subst (λ (d : Key). IsLink new d.signal (Below d.start) (link' j)) (sym key)
          (subst (λ (o : Option ℕ). IsLink new k.signal (Below k.start) o) (sym (sym (ap link' e.0) ∙ of_new))
          (link_of_new held new i k p free here others k.signal Any any_down gap.after front_link refl (omega arith) earlier)))
          (λ (e : held j ≡ Some (c, q)).
          subst (λ (o : Option ℕ). IsLink new c.signal (Below c.start) o) (sym (of_other j (not_free held new i k p free here others j (c, q) e) (no_before j)))
          (link_stays held new i k p free here others c.signal (Below c.start) (link j) (lists.links j c q e)
          (λ of low.
          let r : IsReached held gap.after c.start = front_link.last j c q e (sym of) (omega arith) in
          let l : r.key.start < k.start = earlier r.to r.key r.place r.is r.at in
          absurd (omega (arith, r.late, l, low)))))
          (was_held held new i k p free here others j (c, q) at);
    }

  module _ (b : ℕ) (some : gap.before ≡ Some b) (heads : (s : ℕ) → first' s ≡ first s) where
    bef : IsBefore held link k.signal k.start gap.after b
    bef = subst (λ (o : Option ℕ). IfSome o (IsBefore held link k.signal k.start gap.after)) some place.behind.before

    before_link : IsLink held k.signal (Below bef.key.start) gap.after
    before_link = subst (λ (o : Option ℕ). IsLink held k.signal (Below bef.key.start) o) bef.next
        (subst (λ (s : ℕ). IsLink held s (Below bef.key.start) (link b)) bef.of (lists.links b bef.key bef.place bef.at))

    -- a link of the signal under whose bound the node before the gap is reaches that
    reaches : (Low : ℕ → Type 0) (o : Option ℕ) → IsLink held k.signal Low o → Low bef.key.start → IsReached held o k.start
    reaches Low o l low =
        let r : IsReached held o bef.key.start = l.last b bef.key bef.place bef.at bef.of low in
        record { to = r.to; key = r.key; place = r.place; is = r.is; at = r.at; late = omega (arith, r.late, bef.late) }

    pub added_behind : AreLists new link' first'
    added_behind = record {
      once = one_each;
      heads = λ s. subst (λ (o : Option ℕ). IsLink new s Any o) (sym (heads s))
          (link_stays held new i k p free here others s Any (first s) (lists.heads s)
          (λ of low. reaches Any (first s) (subst (λ (t : ℕ). IsLink held t Any (first s)) (sym of) (lists.heads s)) (omega arith)));
      links = λ j c q at. ⊎_elim
          (λ (e : (i ≡ j) × Same (c, q) (k, p)).
          let key : c ≡ k = ap (λ (d : Cell). d.0) e.1 in
          subst (λ (d : Key). IsLink new d.signal (Below d.start) (link' j)) (sym key)
          (subst (λ (o : Option ℕ). IsLink new k.signal (Below k.start) o) (sym (sym (ap link' e.0) ∙ of_new))
          (link_of_new held new i k p free here others k.signal (Below bef.key.start) (below_down bef.key.start) gap.after before_link refl (omega (arith, bef.late)) earlier)))
          (λ (e : held j ≡ Some (c, q)). old j c q e (not_free held new i k p free here others j (c, q) e))
          (was_held held new i k p free here others j (c, q) at);
    }
      where
        it : (j : ℕ) → is_it gap.before j ≡ nat_eq b j
        it j = ap (λ (o : Option ℕ). is_it o j) some

        old : (j : ℕ) (c : Key) (q : Place) → held j ≡ Some (c, q) → nat_eq i j ≡ false → IsLink new c.signal (Below c.start) (link' j)
        old j c q e not_so =
            ⊎_elim
            (λ (same : b ≡ j).
            let one = cell_same bef.key c bef.place q (sym bef.at ∙ ap held same ∙ e) in
            subst (λ (o : Option ℕ). IsLink new c.signal (Below c.start) o) (sym (of_before j not_so (it j ∙ eq-eqb b j same)))
            (subst (λ (d : Key). IsLink new d.signal (Below d.start) (Some i)) one.0
            (subst (λ (s : ℕ). IsLink new s (Below bef.key.start) (Some i)) (sym bef.of)
            (link_to_new held new i k p free here others k.signal (Below bef.key.start) (below_down bef.key.start) gap.after before_link refl (omega (arith, bef.late)) earlier))))
            (λ (differs : nat_eq b j ≡ false).
            subst (λ (o : Option ℕ). IsLink new c.signal (Below c.start) o) (sym (of_other j not_so (it j ∙ differs)))
            (link_stays held new i k p free here others c.signal (Below c.start) (link j) (lists.links j c q e)
            (λ of low. by_start j c q e differs of low (three_ways bef.key.start c.start))))
            (same_or_not b j)
          where
            by_start : (j : ℕ) (c : Key) (q : Place) → held j ≡ Some (c, q) → nat_eq b j ≡ false → k.signal ≡ c.signal → k.start < c.start → (bef.key.start < c.start) ⊎ ((bef.key.start ≡ c.start) ⊎ (c.start < bef.key.start)) → IsReached held (link j) k.start
            by_start j c q e differs of low (inl lower) = reaches (Below c.start) (link j) (subst (λ (s : ℕ). IsLink held s (Below c.start) (link j)) (sym of) (lists.links j c q e)) lower
            by_start j c q e differs of low (inr (inl same)) =
                let key : bef.key ≡ c = key_is bef.key c (bef.of ∙ of) same in
                absurd (eqb-false b j differs (lists.once b j c bef.place q (bef.at ∙ ap (λ (d : Key). Some (d, bef.place)) key) e))
            by_start j c q e differs of low (inr (inr higher)) =
                let r : IsReached held gap.after c.start = before_link.last j c q e (sym of) higher in
                absurd (omega (arith, r.late, earlier r.to r.key r.place r.is r.at, low))

-- ---- a cell less
module _ (held new : Held) (link link' first first' : Links) (lists : AreLists held link first) (i : ℕ) (k : Key) (p : Place) (before : Option ℕ)
    (was : held i ≡ Some (k, p))
    (front : IfNone before (first k.signal ≡ Some i)) (behind : IfSome before (IsBefore held link k.signal k.start (Some i)))
    (is : (j : ℕ) → new j ≡ cond (nat_eq i j) None (held j))
    (links : (j : ℕ) → nat_eq i j ≡ false → link' j ≡ cond (is_it before j) (link i) (link j)) where
  gone : new i ≡ None
  gone = is i ∙ ap (λ (b : Bool). cond b None (held i)) (eq-eqb i i refl)

  rest : (j : ℕ) → nat_eq i j ≡ false → new j ≡ held j
  rest j h = is j ∙ ap (λ (b : Bool). cond b None (held j)) h

  keeps : (signal : ℕ) (Low : ℕ → Type 0) (o : Option ℕ) → IsLink held signal Low o → (o ≡ Some i → ⊥) → IsLink new signal Low o
  keeps = link_keeps held new i k p was gone rest lists.once

  past : (signal : ℕ) (Low : ℕ → Type 0) (down : (a b : ℕ) → a ≤ b → Low b → Low a) (o : Option ℕ) → o ≡ Some i → IsLink held signal Low o → IsLink new signal Low (link i)
  past signal Low down o to l = link_past held new i k p was gone rest lists.once signal Low down o (link i) to l (lists.links i k p was)

  fewer_each : (a b : ℕ) (c : Key) (q r : Place) → new a ≡ Some (c, q) → new b ≡ Some (c, r) → a ≡ b
  fewer_each a b c q r x y = lists.once a b c q r (left held new i k p was gone rest lists.once a (c, q) x).1 (left held new i k p was gone rest lists.once b (c, r) y).1

  -- a head that leads to the node is that of its signal
  head_of_it : (s : ℕ) → first s ≡ Some i → k.signal ≡ s
  head_of_it s to = (on_at held s Any (first s) (lists.heads s) i k p to was).0

  module _ (none : before ≡ None) (head : first' k.signal ≡ link i) (heads : (s : ℕ) → (k.signal ≡ s → ⊥) → first' s ≡ first s) where
    first_is : first k.signal ≡ Some i
    first_is = subst (λ (o : Option ℕ). IfNone o (first k.signal ≡ Some i)) none front

    pub removed_in_front : AreLists new link' first'
    removed_in_front = record {
      once = fewer_each;
      heads = λ s. ⊎_elim
          (λ (e : k.signal ≡ s). subst (λ (t : ℕ). IsLink new t Any (first' t)) e
          (subst (λ (o : Option ℕ). IsLink new k.signal Any o) (sym head) (past k.signal Any any_down (first k.signal) first_is (lists.heads k.signal))))
          (λ (h : nat_eq k.signal s ≡ false). let not_so = eqb-false k.signal s h in subst (λ (o : Option ℕ). IsLink new s Any o) (sym (heads s not_so)) (keeps s Any (first s) (lists.heads s) (λ to. not_so (head_of_it s to))))
          (same_or_not k.signal s);
      links = λ j c q at.
          let l = left held new i k p was gone rest lists.once j (c, q) at in
          subst (λ (o : Option ℕ). IsLink new c.signal (Below c.start) o) (sym (links j l.0 ∙ ap (λ (o : Option ℕ). cond (is_it o j) (link i) (link j)) none))
          (keeps c.signal (Below c.start) (link j) (lists.links j c q l.1)
          (λ to.
          let o = on_at held c.signal (Below c.start) (link j) (lists.links j c q l.1) i k p to was in
          let m : c.start ≤ k.start = reached_at held k.signal Any (first k.signal) (lists.heads k.signal) i k p first_is was j c q l.1 (sym o.0) (omega arith) in
          omega (arith, m, o.1)));
    }

  module _ (b : ℕ) (some : before ≡ Some b) (heads : (s : ℕ) → first' s ≡ first s) where
    prior : IsBefore held link k.signal k.start (Some i) b
    prior = subst (λ (o : Option ℕ). IfSome o (IsBefore held link k.signal k.start (Some i))) some behind

    -- a link of the signal under whose bound the node before is does not skip that
    no_skip : (Low : ℕ → Type 0) (o : Option ℕ) → IsLink held k.signal Low o → Low prior.key.start → o ≡ Some i → ⊥
    no_skip Low o l low to =
        let m : prior.key.start ≤ k.start = reached_at held k.signal Low o l i k p to was b prior.key prior.place prior.at prior.of low in
        omega (arith, m, prior.late)

    pub removed_behind : AreLists new link' first'
    removed_behind = record {
      once = fewer_each;
      heads = λ s. subst (λ (o : Option ℕ). IsLink new s Any o) (sym (heads s))
          (keeps s Any (first s) (lists.heads s)
          (λ to. no_skip Any (first s) (subst (λ (t : ℕ). IsLink held t Any (first s)) (sym (head_of_it s to)) (lists.heads s)) (omega arith) to));
      links = λ j c q at. let l = left held new i k p was gone rest lists.once j (c, q) at in old j c q l.1 l.0;
    }
      where
        it : (j : ℕ) → is_it before j ≡ nat_eq b j
        it j = ap (λ (o : Option ℕ). is_it o j) some

        old : (j : ℕ) (c : Key) (q : Place) → held j ≡ Some (c, q) → nat_eq i j ≡ false → IsLink new c.signal (Below c.start) (link' j)
        old j c q e not_so =
            ⊎_elim
            (λ (same : b ≡ j).
            subst (λ (o : Option ℕ). IsLink new c.signal (Below c.start) o) (sym (links j not_so ∙ ap (λ (x : Bool). cond x (link i) (link j)) (it j ∙ eq-eqb b j same)))
            (past c.signal (Below c.start) (below_down c.start) (link j) (sym (ap link same) ∙ prior.next) (lists.links j c q e)))
            (λ (differs : nat_eq b j ≡ false).
            subst (λ (o : Option ℕ). IsLink new c.signal (Below c.start) o) (sym (links j not_so ∙ ap (λ (x : Bool). cond x (link i) (link j)) (it j ∙ differs)))
            (keeps c.signal (Below c.start) (link j) (lists.links j c q e) (λ to. only j c q e differs to)))
            (same_or_not b j)
          where
            only : (j : ℕ) (c : Key) (q : Place) → held j ≡ Some (c, q) → nat_eq b j ≡ false → link j ≡ Some i → ⊥
            only j c q e differs to =
                let o = on_at held c.signal (Below c.start) (link j) (lists.links j c q e) i k p to was in
                by_start o.0 o.1 (three_ways prior.key.start c.start)
              where
                by_start : k.signal ≡ c.signal → k.start < c.start → (prior.key.start < c.start) ⊎ ((prior.key.start ≡ c.start) ⊎ (c.start < prior.key.start)) → ⊥
                by_start of low (inl lower) = no_skip (Below c.start) (link j) (subst (λ (s : ℕ). IsLink held s (Below c.start) (link j)) (sym of) (lists.links j c q e)) lower to
                by_start of low (inr (inl same)) =
                    eqb-false b j differs (lists.once b j c prior.place q (prior.at ∙ ap (λ (d : Key). Some (d, prior.place)) (key_is prior.key c (prior.of ∙ of) same)) e)
                by_start of low (inr (inr higher)) =
                    let m : c.start ≤ k.start =
                    reached_at held k.signal (Below prior.key.start) (link b) (subst (λ (s : ℕ). IsLink held s (Below prior.key.start) (link b)) prior.of (lists.links b prior.key prior.place prior.at)) i k p prior.next was j c q e (sym of) higher in
                    omega (arith, m, low)
