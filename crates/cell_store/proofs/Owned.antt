-- The maps of an index: what heads that change, and places that come and go, keep.
use Rattle.std.proofs.Common.{◌≡◌, ◌⊎◌, inl, inr, ⊎_elim, ℕ, ◌<◌, Bool, true, false, ◌&&◌, not, cond, nat_eq, List, [], length, Option, Some, None, IsSome, IfSome, IfNone, Result, IfOk, OnErr, option_map, refl, sym, ap, ap₂, subst, ◌∙◌, true≢false, eq-eqb, eqb-true, arith}
use Rattle.std.proofs.lemmas.Option.{slice_get_within, same_Some}
use Rattle.std.proofs.lemmas.Bool.Decides.{nat_tests}
use Rattle.std.specs.BTreeMap.{BTreeMap, get}
use Rattle.std.specs.List.{slice_get}
use Rattle.std.specs.Ordering.{is_eq}
use Rattle.std.proofs.lemmas.Bool.{eqb-false, cases_Bool}
use Rattle.std.proofs.Math.Bool.{and-false}
use Rattle.std.proofs.lemmas.Result.{IfOk-weaker}
use Rattle.valid_intervals.specs.declared.Point.{Point}
use Rattle.cell_store.specs.declared.Key.{Key}
use Rattle.cell_store.specs.declared.heads.Head.{Head}
use Rattle.cell_store.specs.declared.heads.More.{More}
use Rattle.cell_store.specs.declared.heads.More.TheVariants.{Nothing, Own, Common}
use Rattle.cell_store.specs.declared.index.Node.{Node}
use Rattle.cell_store.specs.declared.index.Place.{Place}
use Rattle.cell_store.specs.declared.maps.OwnMap.{OwnMap}
use Rattle.cell_store.specs.declared.maps.Maps.{Maps}
use Rattle.cell_store.specs.inner.Heads.{is_own, has_map, no_head}
use Rattle.cell_store.specs.inner.Index.{key_cmp}
use Rattle.cell_store.specs.inner.Lists.{key_at, IsLastAt, IsNoneAt, first_in, listed, or_else, firsts, held_at, link_at, HeadSet, IsIndex, AreAllSteady}
use Rattle.cell_store.specs.inner.SignalCells.{kept_at}
use Rattle.cell_store.specs.inner.Maps.{owner_in, cells_in, owner_at, cells_at, IsAdded, common_at, mapped_by, mapped_in, AreSteadyMaps, SetsMapped, IsReleased, IsThere, IsWhole, IsUnmapped}
use Rattle.cell_store.proofs.Found.{none_some}
use Rattle.cell_store.proofs.Keys.{equal_keys}
use Rattle.cell_store.proofs.Links.{same_or_not}
use Rattle.cell_store.proofs.Lists.{same_links}
use Rattle.cell_store.proofs.Listed.{listed_is, listed_same, else_changed}
use Rattle.cell_store.proofs.Results.{none_had, in_each}
use Rattle.cell_store.proofs.Indexed.{has_list, more_set, told_index, mapped_index, steady_index}

-- ---- what the place of a head says
pub not_own : (m : More) → m ≡ Nothing → is_own m ≡ false
not_own m e = ap is_own e

common_if : (m : More) → has_map m ≡ true → is_own m ≡ false → m ≡ Common
common_if Nothing h o = absurd (true≢false (sym h))
common_if Own h o = absurd (true≢false o)
common_if Common h o = refl

not_common : (m : More) → m ≡ Common → is_own m ≡ false
not_common m e = ap is_own e

pub no_map : (m : More) → has_map m ≡ false → m ≡ Nothing
no_map Nothing h = refl
no_map Own h = absurd (true≢false h)
no_map Common h = absurd (true≢false h)

pub nothing_common : {P : Type 0} (m : More) → m ≡ Nothing → m ≡ Common → P
nothing_common m e f = absurd (true≢false (sym (ap has_map f) ∙ ap has_map e))

pub same_mapped : (nodes : List Node) (heads : ℕ → Head) (mapped mapped' : Key → Option Place) → IsIndex nodes heads mapped → ((q : Key) → mapped' q ≡ mapped q) → IsIndex nodes heads mapped'
same_mapped nodes heads mapped mapped' index same = record {
  lists = index.lists;
  apart = λ i k p at. same k ∙ index.apart i k p at;
  told = λ k some. index.told k (subst (λ (o : Option Place). IsSome o) (same k) some);
}

pub by_common : (head : Head) (maps : Maps) (q : Key) → is_own head.more ≡ false → mapped_by head maps q ≡ common_at maps q
by_common head maps q h = ap (λ (b : Bool). cond b (cells_at maps head.first q.start) (common_at maps q)) h

pub by_own : (head : Head) (maps : Maps) (q : Key) → is_own head.more ≡ true → mapped_by head maps q ≡ cells_at maps head.first q.start
by_own head maps q h = ap (λ (b : Bool). cond b (cells_at maps head.first q.start) (common_at maps q)) h

module _ (heads heads' : ℕ → Head) (signal : ℕ) (head : Head) (set : HeadSet heads heads' signal head) where
  pub set_here : (s : ℕ) → signal ≡ s → heads' s ≡ head
  set_here s e = set s ∙ ap (λ (b : Bool). cond b head (heads s)) (eq-eqb signal s e)

  pub set_else : (s : ℕ) → nat_eq signal s ≡ false → heads' s ≡ heads s
  set_else s d = set s ∙ ap (λ (b : Bool). cond b head (heads s)) d

  -- a head that has no map of its own, before and after
  pub set_mapped : (maps : Maps) → is_own head.more ≡ false → is_own (heads signal).more ≡ false → (q : Key) → mapped_in heads' maps q ≡ mapped_in heads maps q
  set_mapped maps new was q =
      ⊎_elim
      (λ (e : signal ≡ q.signal).
      ap (λ (h : Head). mapped_by h maps q) (set_here q.signal e) ∙ by_common head maps q new
      ∙ sym (ap (λ (s : ℕ). mapped_by (heads s) maps q) (sym e) ∙ by_common (heads signal) maps q was))
      (λ (d : nat_eq signal q.signal ≡ false). ap (λ (h : Head). mapped_by h maps q) (set_else q.signal d))
      (same_or_not signal q.signal)

  pub set_whole : (nodes new : List Node) (maps : Maps) → IsWhole nodes heads maps → IsIndex new heads' (mapped_in heads maps) → is_own head.more ≡ false → is_own (heads signal).more ≡ false
      → ((heads signal).more ≡ Common → head.more ≡ Common) → IsWhole new heads' maps
  set_whole nodes new maps w index own was common = record {
    index = same_mapped new heads' (mapped_in heads maps) (mapped_in heads' maps) index (set_mapped maps own was);
    owned = λ s o. ⊎_elim
        (λ (e : signal ≡ s). absurd (true≢false (sym o ∙ ap (λ (h : Head). is_own h.more) (set_here s e) ∙ own)))
        (λ (d : nat_eq signal s ≡ false).
        ap (λ (h : Head). owner_at maps h.first) (set_else s d) ∙ w.owned s (sym (ap (λ (h : Head). is_own h.more) (set_else s d)) ∙ o))
        (same_or_not signal s);
    unlisted = λ s o. ⊎_elim
        (λ (e : signal ≡ s). absurd (true≢false (sym o ∙ ap (λ (h : Head). is_own h.more) (set_here s e) ∙ own)))
        (λ (d : nat_eq signal s ≡ false). ap (λ (h : Head). h.many) (set_else s d) ∙ w.unlisted s (sym (ap (λ (h : Head). is_own h.more) (set_else s d)) ∙ o))
        (same_or_not signal s);
    told = λ k some. ⊎_elim
        (λ (e : signal ≡ k.signal). ap (λ (h : Head). h.more) (set_here k.signal e) ∙ common (ap (λ (s : ℕ). (heads s).more) e ∙ w.told k some))
        (λ (d : nat_eq signal k.signal ≡ false). ap (λ (h : Head). h.more) (set_else k.signal d) ∙ w.told k some)
        (same_or_not signal k.signal);
  }

-- ---- all stays
pub steady_mapped : (heads heads' : ℕ → Head) (maps : Maps) → ((s : ℕ) → heads' s ≡ heads s) → (q : Key) → mapped_in heads' maps q ≡ mapped_in heads maps q
steady_mapped heads heads' maps all q = ap (λ (h : Head). mapped_by h maps q) (all q.signal)

pub steady_whole : (nodes new : List Node) (heads heads' : ℕ → Head) (maps : Maps) → IsWhole nodes heads maps → AreAllSteady nodes new heads heads' → IsWhole new heads' maps
steady_whole nodes new heads heads' maps w s = record {
  index = same_mapped new heads' (mapped_in heads maps) (mapped_in heads' maps) (steady_index nodes heads (mapped_in heads maps) w.index new heads' s) (steady_mapped heads heads' maps s.all);
  owned = λ n o. ap (λ (h : Head). owner_at maps h.first) (s.all n) ∙ w.owned n (sym (ap (λ (h : Head). is_own h.more) (s.all n)) ∙ o);
  unlisted = λ n o. ap (λ (h : Head). h.many) (s.all n) ∙ w.unlisted n (sym (ap (λ (h : Head). is_own h.more) (s.all n)) ∙ o);
  told = λ k some. ap (λ (h : Head). h.more) (s.all k.signal) ∙ w.told k some;
}

module _ (nodes : List Node) (heads : ℕ → Head) (maps new : Maps) (w : IsWhole nodes heads maps) (s : AreSteadyMaps maps new) where
  pub maps_mapped : (q : Key) → mapped_in heads new q ≡ mapped_in heads maps q
  maps_mapped q = ap₂ (λ (a b : Option Place). cond (is_own (heads q.signal).more) a b) (s.cells (heads q.signal).first q.start) (s.common q)

  pub maps_whole : IsWhole nodes heads new
  maps_whole = record {
    index = same_mapped nodes heads (mapped_in heads maps) (mapped_in heads new) w.index maps_mapped;
    owned = λ n o. s.owners (heads n).first ∙ w.owned n o;
    unlisted = λ n o. w.unlisted n o;
    told = λ k some. w.told k (subst (λ (o : Option Place). IsSome o) (s.common k) some);
  }

-- ---- the map of a head is there
owner_there : (maps : Maps) (n s : ℕ) → owner_at maps n ≡ Some s → n < length maps.own.items
owner_there maps n s e =
    (elim (slice_get maps.own.items n) as (λ o. slice_get maps.own.items n ≡ o → owner_in o ≡ Some s → n < length maps.own.items) [
      | None ↦ λ f d. none_some s d
      | Some m ↦ λ f d. slice_get_within maps.own.items n m f
    ]) refl e

pub there : (nodes : List Node) (heads : ℕ → Head) (maps : Maps) → IsWhole nodes heads maps → (s : ℕ) (head : Head) → head ≡ heads s → IsThere head maps
there nodes heads maps w s head is own =
    owner_there maps head.first s (ap (λ (h : Head). owner_at maps h.first) is ∙ w.owned s (sym (ap (λ (h : Head). is_own h.more) is) ∙ own))

-- ---- a place comes into the map of a head, or leaves it
equal_when : (k q : Key) → k.signal ≡ q.signal → is_eq (key_cmp k q) ≡ nat_eq k.start q.start
equal_when k q e = grind (arith, nat_tests)

unequal_when : (k q : Key) → nat_eq k.signal q.signal ≡ false → is_eq (key_cmp k q) ≡ false
unequal_when k q e = grind (arith, nat_tests)

both_false : (a b : Bool) → (a ≡ true → b ≡ true → ⊥) → (c : Bool) → a && (b && c) ≡ false
both_false true true h c = absurd (h refl refl)
both_false true false h c = refl
both_false false b h c = refl

module _ (nodes : List Node) (heads : ℕ → Head) (maps new : Maps) (w : IsWhole nodes heads maps) (key : Key) (o : Option Place) (head : Head) (is : head ≡ heads key.signal) (sets : SetsMapped head maps new key o) where
  -- two signals have different maps
  two_maps : (q : Key) → nat_eq key.signal q.signal ≡ false → is_own (heads q.signal).more ≡ true → is_own head.more ≡ true → nat_eq head.first (heads q.signal).first ≡ true → ⊥
  two_maps q d own here same =
      let one : owner_at maps head.first ≡ Some key.signal = ap (λ (h : Head). owner_at maps h.first) is ∙ w.owned key.signal (sym (ap (λ (h : Head). is_own h.more) is) ∙ here) in
      let other : owner_at maps head.first ≡ Some q.signal = ap (owner_at maps) (eqb-true head.first (heads q.signal).first same) ∙ w.owned q.signal own in
      eqb-false key.signal q.signal d (same_Some key.signal q.signal (sym one ∙ other))

  in_own : (q : Key) → is_own (heads q.signal).more ≡ true → (is_own head.more && (nat_eq head.first (heads q.signal).first && nat_eq key.start q.start)) ≡ is_eq (key_cmp key q)
  in_own q own =
      ⊎_elim
      (λ (e : key.signal ≡ q.signal).
      let same : head ≡ heads q.signal = is ∙ ap heads e in
      ap (λ (b : Bool). b && (nat_eq head.first (heads q.signal).first && nat_eq key.start q.start)) (ap (λ (h : Head). is_own h.more) same ∙ own)
      ∙ ap (λ (b : Bool). b && nat_eq key.start q.start) (eq-eqb head.first (heads q.signal).first (ap (λ (h : Head). h.first) same))
      ∙ sym (equal_when key q e))
      (λ (d : nat_eq key.signal q.signal ≡ false). both_false (is_own head.more) (nat_eq head.first (heads q.signal).first) (two_maps q d own) (nat_eq key.start q.start) ∙ sym (unequal_when key q d))
      (same_or_not key.signal q.signal)

  in_common : (q : Key) → is_own (heads q.signal).more ≡ false → (not (is_own head.more) && is_eq (key_cmp key q)) ≡ is_eq (key_cmp key q)
  in_common q own =
      ⊎_elim
      (λ (e : key.signal ≡ q.signal). ap (λ (b : Bool). not b && is_eq (key_cmp key q)) (ap (λ (h : Head). is_own h.more) (is ∙ ap heads e) ∙ own))
      (λ (d : nat_eq key.signal q.signal ≡ false). ap (λ (b : Bool). not (is_own head.more) && b) (unequal_when key q d) ∙ and-false (not (is_own head.more)) ∙ sym (unequal_when key q d))
      (same_or_not key.signal q.signal)

  pub sets_mapped : (q : Key) → mapped_in heads new q ≡ cond (is_eq (key_cmp key q)) o (mapped_in heads maps q)
  sets_mapped q =
      ⊎_elim
      (λ (own : is_own (heads q.signal).more ≡ true).
      by_own (heads q.signal) new q own ∙ sets.cells (heads q.signal).first q.start
      ∙ ap₂ (λ (b : Bool) (p : Option Place). cond b o p) (in_own q own) (sym (by_own (heads q.signal) maps q own)))
      (λ (own : is_own (heads q.signal).more ≡ false).
      by_common (heads q.signal) new q own ∙ sets.common q
      ∙ ap₂ (λ (b : Bool) (p : Option Place). cond b o p) (in_common q own) (sym (by_common (heads q.signal) maps q own)))
      (cases_Bool (is_own (heads q.signal).more))

  pub sets_whole : listed nodes key ≡ None → (IsSome o → has_map head.more ≡ true) → IsWhole nodes heads new
  sets_whole unlisted has = record {
    index = mapped_index nodes heads (mapped_in heads maps) w.index heads (mapped_in heads new) key o unlisted sets_mapped (λ s. refl) (λ k some. w.index.told k some)
        (λ some. sym (ap (λ (h : Head). has_map h.more) is) ∙ has some);
    owned = λ n own. sets.owners (heads n).first ∙ w.owned n own;
    unlisted = λ n own. w.unlisted n own;
    told = λ k some. by k some (cases_Bool (not (is_own head.more) && is_eq (key_cmp key k)));
  }
    where
      here : (a b : Bool) → (not a && b) ≡ true → (a ≡ false) × (b ≡ true)
      here true b h = absurd (true≢false (sym h))
      here false b h = (refl, h)

      by : (k : Key) → IsSome (common_at new k) → ((not (is_own head.more) && is_eq (key_cmp key k)) ≡ true) ⊎ ((not (is_own head.more) && is_eq (key_cmp key k)) ≡ false) → (heads k.signal).more ≡ Common
      by k some (inl t) =
          let h = here (is_own head.more) (is_eq (key_cmp key k)) t in
          let has_o : IsSome o = subst (λ (p : Option Place). IsSome p) (sets.common k ∙ ap (λ (b : Bool). cond b o (common_at maps k)) t) some in
          ap (λ (d : Key). (heads d.signal).more) (sym (equal_keys key k h.1)) ∙ ap (λ (x : Head). x.more) (sym is) ∙ common_if head.more (has has_o) h.0
      by k some (inr t) = w.told k (subst (λ (p : Option Place). IsSome p) (sets.common k ∙ ap (λ (b : Bool). cond b o (common_at maps k)) t) some)

-- ---- an empty map is given up
module _ (nodes : List Node) (heads heads' : ℕ → Head) (maps new : Maps) (w : IsWhole nodes heads maps) (signal : ℕ) (own : is_own (heads signal).more ≡ true) (r : IsReleased maps new (heads signal).first)
    (empty : (t : ℕ) → cells_at maps (heads signal).first t ≡ None) (set : HeadSet heads heads' signal no_head) where
  pub none_common : (q : Key) → signal ≡ q.signal → common_at maps q ≡ None
  none_common q e =
      (elim (common_at maps q) as (λ o. common_at maps q ≡ o → o ≡ None) [
        | None ↦ λ d. refl
        | Some p ↦ λ d.
            absurd (true≢false (sym own ∙ ap (λ (s : ℕ). is_own (heads s).more) e ∙ not_common (heads q.signal).more (w.told q (subst (λ (o : Option Place). IsSome o) (sym d) refl))))
      ]) refl

  pub released_mapped : (q : Key) → mapped_in heads' new q ≡ mapped_in heads maps q
  released_mapped q =
      ⊎_elim
      (λ (e : signal ≡ q.signal).
      ap (λ (h : Head). mapped_by h new q) (set_here heads heads' signal no_head set q.signal e) ∙ r.common q ∙ none_common q e
      ∙ sym (ap (λ (s : ℕ). mapped_by (heads s) maps q) (sym e) ∙ by_own (heads signal) maps q own ∙ empty q.start))
      (λ (d : nat_eq signal q.signal ≡ false).
      ap (λ (h : Head). mapped_by h new q) (set_else heads heads' signal no_head set q.signal d)
      ∙ ap₂ (λ (a b : Option Place). cond (is_own (heads q.signal).more) a b) (r.cells (heads q.signal).first q.start) (r.common q))
      (same_or_not signal q.signal)

  first_same : (s : ℕ) → first_in (heads' s) ≡ first_in (heads s)
  first_same s =
      ⊎_elim
      (λ (e : signal ≡ s).
      ap first_in (set_here heads heads' signal no_head set s e)
      ∙ sym (ap (λ (b : Bool). cond b None (Some (heads s).first)) (eq-eqb (heads s).many 0 (w.unlisted s (ap (λ (n : ℕ). is_own (heads n).more) (sym e) ∙ own)))))
      (λ (d : nat_eq signal s ≡ false). ap first_in (set_else heads heads' signal no_head set s d))
      (same_or_not signal s)

  pub released_whole : IsWhole nodes heads' new
  released_whole = record {
    index = record {
      lists = same_links (held_at nodes) (held_at nodes) (link_at nodes) (link_at nodes) (firsts heads) (firsts heads') (λ j. refl) (λ j. refl) first_same w.index.lists;
      apart = λ i k p at. released_mapped k ∙ w.index.apart i k p at;
      told = λ k some. ⊎_elim
          (λ (e : signal ≡ k.signal).
          absurd (true≢false (sym (subst (λ (o : Option Place). IsSome o) (ap (λ (h : Head). mapped_by h new k) (set_here heads heads' signal no_head set k.signal e) ∙ r.common k ∙ none_common k e) some))))
          (λ (d : nat_eq signal k.signal ≡ false).
          ap (λ (h : Head). has_map h.more) (set_else heads heads' signal no_head set k.signal d) ∙ w.index.told k (subst (λ (o : Option Place). IsSome o) (released_mapped k) some))
          (same_or_not signal k.signal);
    };
    owned = λ s o. ⊎_elim
        (λ (e : signal ≡ s). absurd (true≢false (sym o ∙ ap (λ (h : Head). is_own h.more) (set_here heads heads' signal no_head set s e))))
        (λ (d : nat_eq signal s ≡ false).
        let o' : is_own (heads s).more ≡ true = sym (ap (λ (h : Head). is_own h.more) (set_else heads heads' signal no_head set s d)) ∙ o in
        let other : nat_eq (heads signal).first (heads s).first ≡ false = ⊎_elim
        (λ (f : (heads signal).first ≡ (heads s).first). absurd (eqb-false signal s d (same_Some signal s (sym (w.owned signal own) ∙ ap (owner_at maps) f ∙ w.owned s o'))))
        (λ f. f)
        (same_or_not (heads signal).first (heads s).first) in
        ap (λ (h : Head). owner_at new h.first) (set_else heads heads' signal no_head set s d) ∙ r.owners (heads s).first ∙ ap (λ (b : Bool). cond b None (owner_at maps (heads s).first)) other
        ∙ w.owned s o')
        (same_or_not signal s);
    unlisted = λ s o. ⊎_elim
        (λ (e : signal ≡ s). absurd (true≢false (sym o ∙ ap (λ (h : Head). is_own h.more) (set_here heads heads' signal no_head set s e))))
        (λ (d : nat_eq signal s ≡ false).
        ap (λ (h : Head). h.many) (set_else heads heads' signal no_head set s d) ∙ w.unlisted s (sym (ap (λ (h : Head). is_own h.more) (set_else heads heads' signal no_head set s d)) ∙ o))
        (same_or_not signal s);
    told = λ k some. ⊎_elim
        (λ (e : signal ≡ k.signal). absurd (true≢false (sym (subst (λ (o : Option Place). IsSome o) (r.common k ∙ none_common k e) some))))
        (λ (d : nat_eq signal k.signal ≡ false).
        ap (λ (h : Head). h.more) (set_else heads heads' signal no_head set k.signal d) ∙ w.told k (subst (λ (o : Option Place). IsSome o) (r.common k) some))
        (same_or_not signal k.signal);
  }

-- ---- a place is taken away, and the map perhaps given up
pub unmapped_stays : (heads : ℕ → Head) (maps mid new : Maps) (key : Key) (head : Head) → head ≡ heads key.signal → SetsMapped head maps mid key None → AreSteadyMaps mid new → IsUnmapped heads heads maps new key
unmapped_stays heads maps mid new key head is sets steady = record {
  whole = λ nodes w unlisted. maps_whole nodes heads mid new (mid_whole nodes w unlisted) steady;
  places = λ nodes w unlisted q. maps_mapped nodes heads mid new (mid_whole nodes w unlisted) steady q ∙ sets_mapped nodes heads maps mid w key None head is sets q;
}
  where
    mid_whole : (nodes : List Node) → IsWhole nodes heads maps → listed nodes key ≡ None → IsWhole nodes heads mid
    mid_whole nodes w unlisted = sets_whole nodes heads maps mid w key None head is sets unlisted (λ some. absurd (true≢false (sym some)))

pub unmapped_gone : (heads heads' : ℕ → Head) (maps mid new : Maps) (key : Key) (head : Head) → head ≡ heads key.signal → SetsMapped head maps mid key None → is_own head.more ≡ true → IsReleased mid new head.first
    → ((t : ℕ) → cells_at mid head.first t ≡ None) → HeadSet heads heads' key.signal no_head → IsUnmapped heads heads' maps new key
unmapped_gone heads heads' maps mid new key head is sets own released empty set = record {
  whole = λ nodes w unlisted. released_whole nodes heads heads' mid new (mid_whole nodes w unlisted) key.signal own' released' empty' set;
  places = λ nodes w unlisted q. released_mapped nodes heads heads' mid new (mid_whole nodes w unlisted) key.signal own' released' empty' set q ∙ sets_mapped nodes heads maps mid w key None head is sets q;
}
  where
    mid_whole : (nodes : List Node) → IsWhole nodes heads maps → listed nodes key ≡ None → IsWhole nodes heads mid
    mid_whole nodes w unlisted = sets_whole nodes heads maps mid w key None head is sets unlisted (λ some. absurd (true≢false (sym some)))

    own' : is_own (heads key.signal).more ≡ true
    own' = subst (λ (h : Head). is_own h.more ≡ true) is own

    released' : IsReleased mid new (heads key.signal).first
    released' = subst (λ (h : Head). IsReleased mid new h.first) is released

    empty' : (t : ℕ) → cells_at mid (heads key.signal).first t ≡ None
    empty' = subst (λ (h : Head). (t : ℕ) → cells_at mid h.first t ≡ None) is empty

-- ---- a head says that its signal uses the common map
pub record IsCommon (nodes : List Node) (heads new : ℕ → Head) (maps : Maps) (signal : ℕ) : Type 0 where
  pub whole : IsWhole nodes new maps
  pub told : has_map (new signal).more ≡ true
  pub same : (q : Key) → mapped_in new maps q ≡ mapped_in heads maps q

pub common_set : (nodes : List Node) (heads new : ℕ → Head) (maps : Maps) → IsWhole nodes heads maps → (signal : ℕ) (b : Bool) (h : Head) → h.more ≡ Common → first_in h ≡ first_in (heads signal) → (heads signal).more ≡ Nothing
    → ((s : ℕ) → new s ≡ cond (b && nat_eq signal s) h (heads s)) → (b ≡ false → (heads signal).more ≡ Common) → IsCommon nodes heads new maps signal
common_set nodes heads new maps w signal false h more first alone set told = nothing_common (heads signal).more alone (told refl)
common_set nodes heads new maps w signal true h more first alone set told = record {
  whole = set_whole heads new signal h set nodes nodes maps w
      (told_index nodes heads new (mapped_in heads maps) (mapped_in heads maps) signal w.index (more_set heads new signal true h first (ap has_map more) set (λ e. absurd (true≢false e))) (λ q. refl)) (ap is_own more)
      (ap is_own alone) (λ c. more);
  told = ap (λ (x : Head). has_map x.more) (set_here heads new signal h set signal refl) ∙ ap has_map more;
  same = set_mapped heads new signal h set maps (ap is_own more) (ap is_own alone);
}

-- ---- what is said of the map of a head, said of all keys
module _ (F G : Key → Option Place) (p : Point) (same : (k : Key) → k.signal ≡ p.signal → G k ≡ F k) where
  pub last_by : (o : Option (ℕ × Place)) → IfSome o (λ l. IsLastAt F p l.0 l.1) → IfSome o (λ l. IsLastAt G p l.0 l.1)
  last_by None h = tt
  last_by (Some l) h = record {
    at = same (key_at p.signal l.0) refl ∙ h.at;
    early = h.early;
    last = λ k of early some. h.last k of early (subst (λ (o : Option Place). IsSome o) (same k of) some);
  }

  pub none_by : {X : Type 0} (o : Option X) (b : Bool) → IfNone o (b ≡ true → IsNoneAt F p) → IfNone o (b ≡ true → IsNoneAt G p)
  none_by None b h = λ t k of early. same k of ∙ h t k of early
  none_by (Some x) b h = tt

pub map_of : (heads : ℕ → Head) (maps : Maps) (head : Head) (s : ℕ) → head ≡ heads s → (k : Key) → k.signal ≡ s → mapped_in heads maps k ≡ mapped_by head maps k
map_of heads maps head s is k of = ap (λ (n : ℕ). mapped_by (heads n) maps k) of ∙ ap (λ (h : Head). mapped_by h maps k) (sym is)

-- ---- what lists and maps exclude
pub own_has : (m : More) → is_own m ≡ true → has_map m ≡ true
own_has Nothing h = absurd (true≢false (sym h))
own_has Own h = refl
own_has Common h = refl

pub listed_not_own : (nodes : List Node) (heads : ℕ → Head) (maps : Maps) → IsWhole nodes heads maps → (s : ℕ) → 0 < (heads s).many → is_own (heads s).more ≡ false
listed_not_own nodes heads maps w s some =
    ⊎_elim
    (λ (own : is_own (heads s).more ≡ true). let none : (heads s).many ≡ 0 = w.unlisted s own in absurd (omega (arith, none, some)))
    (λ e. e)
    (cases_Bool (is_own (heads s).more))

pub own_unlisted : (nodes : List Node) (heads : ℕ → Head) (maps : Maps) → IsWhole nodes heads maps → (key : Key) (head : Head) → head ≡ heads key.signal → is_own head.more ≡ true → listed nodes key ≡ None
own_unlisted nodes heads maps w key head is own =
    listed_is nodes key None w.index.lists.once (λ p e. none_some p e)
    (λ i p at.
    let some : 0 < (heads key.signal).many = has_list nodes heads (mapped_in heads maps) w.index i key p at in
    let none : (heads key.signal).many ≡ 0 = w.unlisted key.signal (sym (ap (λ (h : Head). is_own h.more) is) ∙ own) in
    absurd (omega (arith, some, none)))

pub nothing_mapped : (nodes : List Node) (heads : ℕ → Head) (maps : Maps) → IsWhole nodes heads maps → (key : Key) → (heads key.signal).more ≡ Nothing → mapped_in heads maps key ≡ None
nothing_mapped nodes heads maps w key alone =
    (elim (mapped_in heads maps key) as (λ o. mapped_in heads maps key ≡ o → o ≡ None) [
      | None ↦ λ e. refl
      | Some p ↦ λ e. absurd (true≢false (sym (w.index.told key (subst (λ (o : Option Place). IsSome o) (sym e) refl)) ∙ ap has_map alone))
    ]) refl

-- ---- a key is put into the map of its head
module _ (nodes : List Node) (heads : ℕ → Head) (maps new : Maps) (w : IsWhole nodes heads maps) (key : Key) (place : Place) (head : Head) (is : head ≡ heads key.signal) (unlisted : listed nodes key ≡ None) (has : has_map head.more ≡ true)
    {E : Type 0} (r : Result (Option ℕ) E) where
  abbrev NewThen : Type 0
  NewThen = IfOk r (λ had. IfNone had (SetsMapped head maps new key (Some place)))

  abbrev StaysThen : Type 0
  StaysThen = IfOk r (λ had. IfSome had (λ _. AreSteadyMaps maps new))

  pub insert_whole : NewThen → StaysThen → OnErr r (AreSteadyMaps maps new) → IsWhole nodes heads new
  insert_whole n s e =
      in_each r n s e (λ sets. sets_whole nodes heads maps new w key (Some place) head is sets unlisted (λ some. has)) (λ st. maps_whole nodes heads maps new w st) (λ st. maps_whole nodes heads maps new w st)

  pub insert_had : IfOk r (λ had. had ≡ option_map (λ (p : Place). p.slot) (mapped_by head maps key)) → IfOk r (λ had. had ≡ option_map (λ (p : Place). p.slot) (or_else (listed nodes key) (mapped_in heads maps key)))
  insert_had h =
      IfOk-weaker r _ _
      (λ had e. e ∙ ap (λ (x : Head). option_map (λ (p : Place). p.slot) (mapped_by x maps key)) is ∙ ap (λ (o : Option Place). option_map (λ (p : Place). p.slot) (or_else o (mapped_in heads maps key))) (sym unlisted))
      h

  pub insert_new : NewThen → IfOk r (λ had. IfNone had ((q : Key) → or_else (listed nodes q) (mapped_in heads new q) ≡ cond (is_eq (key_cmp key q)) (Some place) (or_else (listed nodes q) (mapped_in heads maps q))))
  insert_new n =
      none_had r
      (λ sets q.
      ap (or_else (listed nodes q)) (sets_mapped nodes heads maps new w key (Some place) head is sets q)
      ∙ else_changed (is_eq (key_cmp key q)) (Some place) (listed nodes q) (mapped_in heads maps q) (λ t. ap (listed nodes) (sym (equal_keys key q t)) ∙ unlisted))
      n

  pub insert_same : AreSteadyMaps maps new → (q : Key) → or_else (listed nodes q) (mapped_in heads new q) ≡ or_else (listed nodes q) (mapped_in heads maps q)
  insert_same st q = ap (or_else (listed nodes q)) (maps_mapped nodes heads maps new w st q)

-- all lists and heads stay
pub steady_all : (nodes new : List Node) (heads heads' : ℕ → Head) (maps : Maps) → IsWhole nodes heads maps → AreAllSteady nodes new heads heads' → (q : Key) → or_else (listed new q) (mapped_in heads' maps q) ≡ or_else (listed nodes q) (mapped_in heads maps q)
steady_all nodes new heads heads' maps w s q =
    ap₂ or_else (listed_same nodes new w.index.lists.once (steady_whole nodes new heads heads' maps w s).index.lists.once s.lists.held q) (steady_mapped heads heads' maps s.all q)

-- ---- nothing is stored
pub empty_whole : (heads : ℕ → Head) (maps : Maps) → ((s : ℕ) → (heads s).many ≡ 0) → ((s : ℕ) → is_own (heads s).more ≡ false) → ((k : Key) → common_at maps k ≡ None) → IsWhole [] heads maps
empty_whole heads maps many own none = record {
  index = record {
    lists = record {
      once = λ i j k p q a b. none_some (k, p) a;
      heads = λ s. record { on = λ i to. none_some i (sym (first s) ∙ to); last = λ i k p at of low. none_some (k, p) at };
      links = λ i k p at. none_some (k, p) at;
    };
    apart = λ i k p at. none_some (k, p) at;
    told = λ k some. absurd (true≢false (sym (subst (λ (o : Option Place). IsSome o) (by_common (heads k.signal) maps k (own k.signal) ∙ none k) some)));
  };
  owned = λ s o. absurd (true≢false (sym o ∙ own s));
  unlisted = λ s o. many s;
  told = λ k some. absurd (true≢false (sym (subst (λ (o : Option Place). IsSome o) (none k) some)));
}
  where
    first : (s : ℕ) → first_in (heads s) ≡ None
    first s = ap (λ (b : Bool). cond b None (Some (heads s).first)) (eq-eqb (heads s).many 0 (many s))

-- ---- a signal gets a map that none had
pub now_added : (maps new : Maps) (signal n : ℕ) (m : OwnMap) → m.owner ≡ Some signal → ((j : ℕ) → slice_get new.own.items j ≡ cond (nat_eq n j) (Some m) (slice_get maps.own.items j)) → owner_at maps n ≡ None → new.common ≡ maps.common
    → IsAdded maps new signal m.cells n
now_added maps new signal n m owner set free common = record {
  free = free;
  owners = λ j. ap owner_in (set j)
      ∙ (elim (nat_eq n j) as (λ b. owner_in (cond b (Some m) (slice_get maps.own.items j)) ≡ cond b (Some signal) (owner_at maps j)) [
        | true ↦ owner
        | false ↦ refl
      ]);
  cells = λ j t. ap (λ (o : Option OwnMap). cells_in o t) (set j)
      ∙ (elim (nat_eq n j) as (λ b. cells_in (cond b (Some m) (slice_get maps.own.items j)) t ≡ cond b (kept_at m.cells t) (cells_at maps j t)) [
        | true ↦ refl
        | false ↦ refl
      ]);
  common = λ q. ap (λ (c : BTreeMap Key Place). get key_cmp c q) common;
}
