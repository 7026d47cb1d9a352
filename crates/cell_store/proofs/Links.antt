-- Lists of nodes: what a new link, a cell more and a cell less keep. `held` says which cell a node has, `link` which node is behind it.
use Rattle.std.proofs.Common.{◌≡◌, ◌⊎◌, inl, inr, ⊎_elim, ℕ, ◌<◌, ◌≤◌, true, false, nat_eq, Option, Some, None, refl, sym, ap, subst, ◌∙◌, arith}
use Rattle.std.proofs.lemmas.Bool.{eqb-false, cases_lt}
use Rattle.std.proofs.Math.Nat.{eq-or-lt_of_le}
use Rattle.std.proofs.Math.Numerals.{lt_of_le_of_ne}
use Rattle.std.proofs.lemmas.Bool.Decides.{eqb_tells}
use Rattle.std.proofs.lemmas.Option.{same_Some}
use Rattle.cell_store.specs.declared.Key.{Key}
use Rattle.cell_store.specs.declared.index.Place.{Place}
use Rattle.cell_store.specs.inner.Lists.{IsReached, IsOn, IsLink, Any, Below}
use Rattle.cell_store.proofs.Found.{none_some}

abbrev pub Cell : Type 0
Cell = Key × Place

abbrev pub Same : Cell → Cell → Type 0
Same a b = a ≡ b

abbrev pub Held : Type 0
Held = ℕ → Option Cell

abbrev pub Downward : (ℕ → Type 0) → Type 0
Downward Low = (a b : ℕ) → a ≤ b → Low b → Low a

pub any_down : Downward Any
any_down a b h low = omega arith

pub below_down : (n : ℕ) → Downward (Below n)
below_down n a b h low = omega arith

abbrev pub some_cell : Key → Place → Option Cell
some_cell k p = Some (k, p)

pub cell_same : (k j : Key) (p q : Place) → some_cell k p ≡ some_cell j q → (k ≡ j) × (p ≡ q)
cell_same k j p q h =
    let a : Cell = (k, p) in
    let b : Cell = (j, q) in
    let same : a ≡ b = same_Some a b h in
    (ap (λ (c : Cell). c.0) same, ap (λ (c : Cell). c.1) same)

abbrev key_with : ℕ → ℕ → Key
key_with signal start = record { signal = signal; start = start }

pub key_is : (k j : Key) → k.signal ≡ j.signal → k.start ≡ j.start → k ≡ j
key_is k j s t = ap (λ n. key_with n k.start) s ∙ ap (λ n. key_with j.signal n) t

-- two numbers are one, or not
pub same_or_not : (i j : ℕ) → (i ≡ j) ⊎ (nat_eq i j ≡ false)
same_or_not i j =
    ⊎_elim (λ (a : (nat_eq i j ≡ true) × (i ≡ j)). inl a.1) (λ (a : (nat_eq i j ≡ false) × (i ≡ j → ⊥)). inr a.0) (eqb_tells i j)

pub three_ways : (x y : ℕ) → (x < y) ⊎ ((x ≡ y) ⊎ (y < x))
three_ways x y =
    ⊎_elim (λ (l : x < y). inl l) (λ (m : y ≤ x). ⊎_elim (λ (e : y ≡ x). inr (inl (sym e))) (λ (l : y < x). inr (inr l)) (eq-or-lt_of_le m)) (cases_lt x y)

-- what holds of a node also holds of one that has the same cell
pub moved_held : (held : Held) (i j : ℕ) (o : Option Cell) → i ≡ j → held j ≡ o → held i ≡ o
moved_held held i j o is h = ap held is ∙ h

module _ (held : Held) (signal : ℕ) (Low : ℕ → Type 0) (link : Option ℕ) (l : IsLink held signal Low link) where
  -- a link that leads to a node whose cell is known
  pub reached_at : (j : ℕ) (k : Key) (p : Place) → link ≡ Some j → held j ≡ Some (k, p) → (i : ℕ) (c : Key) (q : Place) → held i ≡ Some (c, q) → c.signal ≡ signal → Low c.start → c.start ≤ k.start
  reached_at j k p to at i c q there of low =
      let r : IsReached held link c.start = l.last i c q there of low in
      let node : r.to ≡ j = same_Some r.to j (sym r.is ∙ to) in
      let same = cell_same r.key k r.place p (sym r.at ∙ ap held node ∙ at) in
      subst (λ (d : Key). c.start ≤ d.start) same.0 r.late

  pub on_at : (j : ℕ) (k : Key) (p : Place) → link ≡ Some j → held j ≡ Some (k, p) → (k.signal ≡ signal) × Low k.start
  on_at j k p to at =
      let o : IsOn held signal Low j = l.on j to in
      let same = cell_same o.key k o.place p (sym o.at ∙ at) in
      (subst (λ (d : Key). d.signal ≡ signal) same.0 o.of, subst (λ (d : Key). Low d.start) same.0 o.low)

-- ---- a cell more
module _ (held new : Held) (i : ℕ) (k : Key) (p : Place) (free : held i ≡ None) (is : new i ≡ Some (k, p)) (others : (j : ℕ) → nat_eq i j ≡ false → new j ≡ held j) where
  pub not_free : (j : ℕ) (c : Cell) → held j ≡ Some c → nat_eq i j ≡ false
  not_free j c at = ⊎_elim (λ (e : i ≡ j). none_some c (sym free ∙ ap held e ∙ at)) (λ e. e) (same_or_not i j)

  pub still_held : (j : ℕ) (c : Cell) → held j ≡ Some c → new j ≡ Some c
  still_held j c at = others j (not_free j c at) ∙ at

  -- where a cell of the new lists was
  pub was_held : (j : ℕ) (c : Cell) → new j ≡ Some c → ((i ≡ j) × Same c (k, p)) ⊎ (held j ≡ Some c)
  was_held j c at =
      ⊎_elim
      (λ (e : i ≡ j). inl (e, same_Some c (k, p) (sym at ∙ ap new (sym e) ∙ is)))
      (λ e. inr (sym (others j e) ∙ at))
      (same_or_not i j)

  reached_still : (link : Option ℕ) (start : ℕ) → IsReached held link start → IsReached new link start
  reached_still link start r = record { to = r.to; key = r.key; place = r.place; is = r.is; at = still_held r.to (r.key, r.place) r.at; late = r.late }

  on_still : (signal : ℕ) (Low : ℕ → Type 0) (j : ℕ) → IsOn held signal Low j → IsOn new signal Low j
  on_still signal Low j o = record { key = o.key; place = o.place; at = still_held j (o.key, o.place) o.at; of = o.of; low = o.low }

  -- a link that the new cell does not stand behind, or that leads to one that begins no earlier
  pub link_stays : (signal : ℕ) (Low : ℕ → Type 0) (link : Option ℕ) → IsLink held signal Low link → (k.signal ≡ signal → Low k.start → IsReached held link k.start) → IsLink new signal Low link
  link_stays signal Low link l covered = record {
    on = λ j to. on_still signal Low j (l.on j to);
    last = λ j c q at of low.
        ⊎_elim
        (λ (e : (i ≡ j) × Same (c, q) (k, p)).
        let same : c ≡ k = ap (λ (d : Cell). d.0) e.1 in
        subst (λ (d : Key). IsReached new link d.start) (sym same)
        (reached_still link k.start (covered (subst (λ (d : Key). d.signal ≡ signal) same of) (subst (λ (d : Key). Low d.start) same low))))
        (λ (e : held j ≡ Some (c, q)). reached_still link c.start (l.last j c q e of low))
        (was_held j (c, q) at);
  }

  module _ (signal : ℕ) (Low : ℕ → Type 0) (down : Downward Low) (after : Option ℕ) (l : IsLink held signal Low after) (of : k.signal ≡ signal) (low : Low k.start)
      (earlier : (j : ℕ) (c : Key) (q : Place) → after ≡ Some j → held j ≡ Some (c, q) → c.start < k.start) where
    -- what the old link reached begins before the new cell
    before_new : (j : ℕ) (c : Key) (q : Place) → held j ≡ Some (c, q) → c.signal ≡ signal → Low c.start → c.start < k.start
    before_new j c q at same under =
        let r : IsReached held after c.start = l.last j c q at same under in
        omega (arith, r.late, earlier r.to r.key r.place r.is r.at)

    -- the link to the new cell
    pub link_to_new : IsLink new signal Low (Some i)
    link_to_new = record {
      on = λ j to. subst (IsOn new signal Low) (same_Some i j to) (record { key = k; place = p; at = is; of = of; low = low });
      last = λ j c q at same under.
          ⊎_elim
          (λ (e : (i ≡ j) × Same (c, q) (k, p)).
          let one : c ≡ k = ap (λ (d : Cell). d.0) e.1 in
          record { to = i; key = k; place = p; is = refl; at = is; late = omega (arith, ap (λ (d : Key). d.start) one) })
          (λ (e : held j ≡ Some (c, q)). record { to = i; key = k; place = p; is = refl; at = is; late = omega (arith, before_new j c q e same under) })
          (was_held j (c, q) at);
    }

    -- and the link behind it
    pub link_of_new : IsLink new k.signal (Below k.start) after
    link_of_new = record {
      on = λ j to.
          let o : IsOn held signal Low j = l.on j to in
          record { key = o.key; place = o.place; at = still_held j (o.key, o.place) o.at; of = o.of ∙ sym of; low = earlier j o.key o.place to o.at };
      last = λ j c q at same under.
          ⊎_elim
          (λ (e : (i ≡ j) × Same (c, q) (k, p)). absurd (omega (arith, ap (λ (d : Cell). d.0.start) e.1, under)))
          (λ (e : held j ≡ Some (c, q)). reached_still after c.start (l.last j c q e (same ∙ of) (down c.start k.start (omega (arith, under)) low)))
          (was_held j (c, q) at);
    }

-- ---- a cell less
module _ (held new : Held) (i : ℕ) (k : Key) (p : Place) (was : held i ≡ Some (k, p)) (gone : new i ≡ None) (others : (j : ℕ) → nat_eq i j ≡ false → new j ≡ held j)
    (once : (a b : ℕ) (c : Key) (q r : Place) → held a ≡ Some (c, q) → held b ≡ Some (c, r) → a ≡ b) where
  pub left : (j : ℕ) (c : Cell) → new j ≡ Some c → (nat_eq i j ≡ false) × (held j ≡ Some c)
  left j c at = ⊎_elim (λ (e : i ≡ j). none_some c (sym gone ∙ ap new e ∙ at)) (λ e. (e, sym (others j e) ∙ at)) (same_or_not i j)

  differ : (j : ℕ) → (j ≡ i → ⊥) → nat_eq i j ≡ false
  differ j not_so = ⊎_elim (λ (e : i ≡ j). absurd (not_so (sym e))) (λ e. e) (same_or_not i j)

  -- a link to another node
  pub link_keeps : (signal : ℕ) (Low : ℕ → Type 0) (link : Option ℕ) → IsLink held signal Low link → (link ≡ Some i → ⊥) → IsLink new signal Low link
  link_keeps signal Low link l other = record {
    on = λ j to.
        let o : IsOn held signal Low j = l.on j to in
        record { key = o.key; place = o.place; at = others j (differ j (λ e. other (to ∙ ap (λ (n : ℕ). Some n) e))) ∙ o.at; of = o.of; low = o.low };
    last = λ j c q at same under.
        let r : IsReached held link c.start = l.last j c q (left j (c, q) at).1 same under in
        record { to = r.to; key = r.key; place = r.place; is = r.is; at = others r.to (differ r.to (λ e. other (r.is ∙ ap (λ (n : ℕ). Some n) e))) ∙ r.at; late = r.late };
  }

  -- the link that led to the node now leads to the one behind it
  pub link_past : (signal : ℕ) (Low : ℕ → Type 0) → Downward Low → (link next : Option ℕ) → link ≡ Some i → IsLink held signal Low link → IsLink held k.signal (Below k.start) next → IsLink new signal Low next
  link_past signal Low down link next to l n =
      let of = on_at held signal Low link l i k p to was in
      record {
        on = λ j at.
            let o : IsOn held k.signal (Below k.start) j = n.on j at in
            record {
              key = o.key;
              place = o.place;
              at = others j (differ j (λ e. let same = cell_same o.key k o.place p (sym o.at ∙ ap held e ∙ was) in omega (arith, o.low, ap (λ (d : Key). d.start) same.0))) ∙ o.at;
              of = o.of ∙ of.0;
              low = down o.key.start k.start (omega (arith, o.low)) of.1;
            };
        last = λ j c q at same under.
            let there = left j (c, q) at in
            let most : c.start ≤ k.start = reached_at held signal Low link l i k p to was j c q there.1 same under in
            let unequal : c.start ≡ k.start → ⊥ = λ e. unlike i j there.0 (once i j c p q (was ∙ ap (λ (d : Key). Some (d, p)) (sym (key_is c k (same ∙ sym of.0) e))) there.1) in
            let r : IsReached held next c.start = n.last j c q there.1 (same ∙ sym of.0) (lt_of_le_of_ne most unequal) in
            record {
              to = r.to;
              key = r.key;
              place = r.place;
              is = r.is;
              at = others r.to
                  (differ r.to
                  (λ e.
                  let o : IsOn held k.signal (Below k.start) r.to = n.on r.to r.is in
                  let one = cell_same o.key k o.place p (sym o.at ∙ ap held e ∙ was) in
                  omega (arith, o.low, ap (λ (d : Key). d.start) one.0)))
                  ∙ r.at;
              late = r.late;
            };
      }
    where
      unlike : (a b : ℕ) → nat_eq a b ≡ false → a ≡ b → ⊥
      unlike a b h e = eqb-false a b h e
