-- What a write of a node changes, and how far a search in a list goes.
use Rattle.std.proofs.Common.{◌≡◌, ⊎_elim, ℕ, zero, suc, ◌<◌, ◌≤◌, Bool, true, false, cond, nat_eq, List, [], ◌∷◌, ◌++◌, length, Option, Some, None, IsSome, IfSome, unwrap_or, refl, sym, ap, subst, ◌∙◌, true≢false, eq-eqb, arith}
use Rattle.std.proofs.lemmas.List.{length-append}
use Rattle.std.proofs.lemmas.Option.{slice_get_within, slice_get_past, same_Some}
use Rattle.std.specs.List.{slice_get, slice_set}
use Rattle.std.proofs.Math.Dec.{eqb-suc-suc, eqb-suc-zero, eqb-zero-suc}
use Rattle.cell_store.specs.declared.Key.{Key}
use Rattle.cell_store.specs.declared.heads.Head.{Head}
use Rattle.cell_store.specs.declared.index.Place.{Place}
use Rattle.cell_store.specs.declared.index.Node.{Node}
use Rattle.cell_store.specs.declared.index.Gap.{Gap}
use Rattle.cell_store.specs.inner.Lists.{IsIndex, Within, first_in, held_in, link_in, bound, held_at, link_at, IsOn, IsLink, Any, Below, IsSearchable, IsAfter, IsBehind, IsGap, IsHeld, IsFree, IsPutIn, IsTakenOut, AreSteady, is_it, way_from, start_after}
use Rattle.cell_store.proofs.Links.{Cell, same_or_not}
use Rattle.cell_store.proofs.Indexed.{IsNode, node_of}

pub get_set : {X : Type 0} (xs : List X) (i : ℕ) (v : X) (j : ℕ) → i < length xs → slice_get (slice_set xs i v) j ≡ cond (nat_eq i j) (Some v) (slice_get xs j)
get_set [] i v j h = absurd (omega arith)
get_set (x ∷ xs) zero v zero h = refl
get_set (x ∷ xs) zero v (suc j) h = sym (ap (λ (b : Bool). cond b (Some v) (slice_get xs j)) (eqb-zero-suc j))
get_set (x ∷ xs) (suc i) v zero h = sym (ap (λ (b : Bool). cond b (Some v) (Some x)) (eqb-suc-zero i))
get_set (x ∷ xs) (suc i) v (suc j) h = get_set xs i v j (omega (arith, h)) ∙ sym (ap (λ (b : Bool). cond b (Some v) (slice_get xs j)) (eqb-suc-suc i j))

bound_cond : {X Y : Type 0} (f : X → Option Y) (b : Bool) (x : X) (o : Option X) → bound f (cond b (Some x) o) ≡ cond b (f x) (bound f o)
bound_cond f true x o = refl
bound_cond f false x o = refl

pub written_held : (nodes : List Node) (i : ℕ) (n : Node) → i < length nodes → (j : ℕ) → held_at (slice_set nodes i n) j ≡ cond (nat_eq i j) (held_in n) (held_at nodes j)
written_held nodes i n within j = ap (bound held_in) (get_set nodes i n j within) ∙ bound_cond held_in (nat_eq i j) n (slice_get nodes j)

pub written_link : (nodes : List Node) (i : ℕ) (n : Node) → i < length nodes → (j : ℕ) → link_at (slice_set nodes i n) j ≡ cond (nat_eq i j) (link_in i n) (link_at nodes j)
written_link nodes i n within j =
    ap (bound (link_in j)) (get_set nodes i n j within) ∙ bound_cond (link_in j) (nat_eq i j) n (slice_get nodes j)
    ∙ ⊎_elim
    (λ (e : i ≡ j). ap (λ (k : ℕ). cond (nat_eq i j) (link_in k n) (link_at nodes j)) (sym e))
    (λ (h : nat_eq i j ≡ false). ap (λ (b : Bool). cond b (link_in j n) (link_at nodes j)) h ∙ sym (ap (λ (b : Bool). cond b (link_in i n) (link_at nodes j)) h))
    (same_or_not i j)

-- what is written over with the same stays
pub over_same : {X : Type 0} (f : ℕ → X) (i j : ℕ) → cond (nat_eq i j) (f i) (f j) ≡ f j
over_same f i j =
    ⊎_elim (λ (e : i ≡ j). ap (λ (b : Bool). cond b (f i) (f j)) (eq-eqb i j e) ∙ ap f e) (λ (h : nat_eq i j ≡ false). ap (λ (b : Bool). cond b (f i) (f j)) h) (same_or_not i j)

-- the link to a node, or to itself where there is none
pub link_to : (i : ℕ) (o : Option ℕ) → (o ≡ Some i → ⊥) → cond (nat_eq (unwrap_or o i) i) None (Some (unwrap_or o i)) ≡ o
link_to i None other = ap (λ (b : Bool). cond b None (Some i)) (eq-eqb i i refl)
link_to i (Some j) other =
    ⊎_elim (λ (e : j ≡ i). absurd (other (ap (λ (n : ℕ). Some n) e))) (λ (h : nat_eq j i ≡ false). ap (λ (b : Bool). cond b None (Some j)) h) (same_or_not j i)

pub held_within : (nodes : List Node) (i : ℕ) → IsHeld nodes i → i < length nodes
held_within nodes i h =
    (elim (slice_get nodes i) as (λ o. slice_get nodes i ≡ o → IsSome (bound held_in o) → i < length nodes) [
      | None ↦ λ e d. absurd (true≢false (sym d))
      | Some n ↦ λ e d. slice_get_within nodes i n e
    ]) refl h

pub not_held : (nodes : List Node) (i j : ℕ) → held_at nodes i ≡ None → IsHeld nodes j → j ≡ i → ⊥
not_held nodes i j free h e = true≢false (sym (subst (λ (o : Option Cell). IsSome o) (ap (held_at nodes) e ∙ free) h))

-- ---- a node comes into a list
module _ (nodes new : List Node) (i : ℕ) (key : Key) (place : Place) (gap : Gap) (free : IsFree nodes i) (held : (j : ℕ) → held_at new j ≡ cond (nat_eq i j) (Some (key, place)) (held_at nodes j)) (link : (j : ℕ) → link_at new j ≡ cond (nat_eq i j) gap.after (link_at nodes j)) where
  pub put_in_front : gap.before ≡ None → IsPutIn nodes new i key place gap
  put_in_front none = record { held = held; link = λ j. link j ∙ ap (λ (o : Option ℕ). cond (nat_eq i j) gap.after (cond (is_it o j) (Some i) (link_at nodes j))) (sym none) }

  pub put_behind : (p : ℕ) → gap.before ≡ Some p → (p ≡ i → ⊥) → (last : List Node) → ((j : ℕ) → held_at last j ≡ held_at new j)
      → ((j : ℕ) → link_at last j ≡ cond (nat_eq p j) (cond (nat_eq i p) None (Some i)) (link_at new j)) → IsPutIn nodes last i key place gap
  put_behind p some apart last same changed = record {
    held = λ j. same j ∙ held j;
    link = λ j. changed j
        ∙ ap (λ (b : Bool). cond (nat_eq p j) (cond b None (Some i)) (link_at new j)) (sym_false i p (λ e. apart (sym e)))
        ∙ ap (λ (o : Option ℕ). cond (nat_eq p j) (Some i) o) (link j)
        ∙ swap j
        ∙ ap (λ (o : Option ℕ). cond (nat_eq i j) gap.after (cond (is_it o j) (Some i) (link_at nodes j))) (sym some);
  }
    where
      sym_false : (a b : ℕ) → (a ≡ b → ⊥) → nat_eq a b ≡ false
      sym_false a b h = ⊎_elim (λ (e : a ≡ b). absurd (h e)) (λ e. e) (same_or_not a b)

      swap : (j : ℕ) → cond (nat_eq p j) (Some i) (cond (nat_eq i j) gap.after (link_at nodes j)) ≡ cond (nat_eq i j) gap.after (cond (nat_eq p j) (Some i) (link_at nodes j))
      swap j =
          ⊎_elim
          (λ (e : i ≡ j).
          let not_p : nat_eq p j ≡ false = subst (λ (n : ℕ). nat_eq p n ≡ false) e (sym_false p i apart) in
          ap (λ (b : Bool). cond b (Some i) (cond (nat_eq i j) gap.after (link_at nodes j))) not_p
          ∙ sym (ap (λ (b : Bool). cond (nat_eq i j) gap.after (cond b (Some i) (link_at nodes j))) not_p))
          (λ (h : nat_eq i j ≡ false).
          ap (λ (b : Bool). cond (nat_eq p j) (Some i) (cond b gap.after (link_at nodes j))) h ∙ sym (ap (λ (b : Bool). cond b gap.after (cond (nat_eq p j) (Some i) (link_at nodes j))) h))
          (same_or_not i j)

-- ---- a node leaves its list
module _ (nodes new : List Node) (i : ℕ) (before next : Option ℕ) (held : (j : ℕ) → held_at new j ≡ cond (nat_eq i j) None (held_at nodes j)) (link : (j : ℕ) → nat_eq i j ≡ false → link_at new j ≡ link_at nodes j) where
  pub out_in_front : before ≡ None → IsTakenOut nodes new i before next
  out_in_front none = record { held = held; link = λ j h. link j h ∙ ap (λ (o : Option ℕ). cond (is_it o j) next (link_at nodes j)) (sym none) }

  pub out_behind : (p : ℕ) → before ≡ Some p → (last : List Node) → ((j : ℕ) → held_at last j ≡ held_at new j) → ((j : ℕ) → link_at last j ≡ cond (nat_eq p j) next (link_at new j)) → IsTakenOut nodes last i before next
  out_behind p some last same changed = record {
    held = λ j. same j ∙ held j;
    link = λ j h. changed j ∙ ap (λ (o : Option ℕ). cond (nat_eq p j) next o) (link j h) ∙ ap (λ (o : Option ℕ). cond (is_it o j) next (link_at nodes j)) (sym some);
  }

-- ---- a free node behind the others
pub get_push : {X : Type 0} (xs : List X) (x : X) (j : ℕ) → slice_get (xs ++ x ∷ []) j ≡ cond (nat_eq (length xs) j) (Some x) (slice_get xs j)
get_push [] x zero = refl
get_push [] x (suc j) = sym (ap (λ (b : Bool). cond b (Some x) None) (eqb-zero-suc j))
get_push (y ∷ xs) x zero = sym (ap (λ (b : Bool). cond b (Some x) (Some y)) (eqb-suc-zero (length xs)))
get_push (y ∷ xs) x (suc j) = get_push xs x j ∙ sym (ap (λ (b : Bool). cond b (Some x) (slice_get xs j)) (eqb-suc-suc (length xs) j))

past_none : {X Y : Type 0} (f : X → Option Y) (xs : List X) (j : ℕ) → length xs ≡ j → bound f (slice_get xs j) ≡ None
past_none f xs j e = ap (bound f) (slice_get_past xs j (omega (arith, e)))

pub pushed_held : (nodes : List Node) (n : Node) → held_in n ≡ None → (j : ℕ) → held_at (nodes ++ n ∷ []) j ≡ held_at nodes j
pushed_held nodes n none j =
    ap (bound held_in) (get_push nodes n j) ∙ bound_cond held_in (nat_eq (length nodes) j) n (slice_get nodes j)
    ∙ ⊎_elim
    (λ (e : length nodes ≡ j). ap (λ (b : Bool). cond b (held_in n) (held_at nodes j)) (eq-eqb (length nodes) j e) ∙ none ∙ sym (past_none held_in nodes j e))
    (λ (h : nat_eq (length nodes) j ≡ false). ap (λ (b : Bool). cond b (held_in n) (held_at nodes j)) h)
    (same_or_not (length nodes) j)

pub pushed_link : (nodes : List Node) (n : Node) → link_in (length nodes) n ≡ None → (j : ℕ) → link_at (nodes ++ n ∷ []) j ≡ link_at nodes j
pushed_link nodes n none j =
    ap (bound (link_in j)) (get_push nodes n j) ∙ bound_cond (link_in j) (nat_eq (length nodes) j) n (slice_get nodes j)
    ∙ ⊎_elim
    (λ (e : length nodes ≡ j).
    ap (λ (b : Bool). cond b (link_in j n) (link_at nodes j)) (eq-eqb (length nodes) j e) ∙ ap (λ (k : ℕ). link_in k n) (sym e) ∙ none ∙ sym (past_none (link_in j) nodes j e))
    (λ (h : nat_eq (length nodes) j ≡ false). ap (λ (b : Bool). cond b (link_in j n) (link_at nodes j)) h)
    (same_or_not (length nodes) j)

-- ---- a search
pub record IsSearching (nodes : List Node) (first : Option ℕ) (signal start : ℕ) (gap : Gap) : Type 0 where
  pub behind : IsBehind (held_at nodes) (link_at nodes) first signal start gap
  pub on : IfSome gap.after (IsOn (held_at nodes) signal Any)

module _ (nodes : List Node) (first : Option ℕ) (signal start : ℕ) (s : IsSearchable nodes first signal) where
  on_link : (Low : ℕ → Type 0) (o : Option ℕ) → IsLink (held_at nodes) signal Low o → IfSome o (IsOn (held_at nodes) signal Any)
  on_link Low None l = tt
  on_link Low (Some i) l = let r : IsOn (held_at nodes) signal Low i = l.on i refl in record { key = r.key; place = r.place; at = r.at; of = r.of; low = omega arith }

  pub search_begins : IsSearching nodes first signal start (record { before = None; after = first })
  search_begins = record { behind = record { front = refl; before = tt }; on = on_link Any first s.head }

  module _ (gap : Gap) (l : IsSearching nodes first signal start gap) (i : ℕ) (to : gap.after ≡ Some i) where
    here : IsOn (held_at nodes) signal Any i
    here = subst (λ (o : Option ℕ). IfSome o (IsOn (held_at nodes) signal Any)) to l.on

    its_node : IsNode nodes i here.key here.place
    its_node = node_of nodes i here.key here.place here.at

    pub within : i < length nodes
    within = slice_get_within nodes i its_node.node its_node.at

    module _ (n : Node) (at : slice_get nodes i ≡ Some n) where
      start_is : here.key.start ≡ n.start
      start_is = ap (λ (k : Key). k.start) (sym its_node.key) ∙ ap (λ (m : Node). m.start) (same_Some its_node.node n (sym its_node.at ∙ at))

      pub search_ends : n.start ≤ start → IsGap (held_at nodes) (link_at nodes) first signal start gap
      search_ends early = record {
        behind = l.behind;
        after = subst (λ (o : Option ℕ). IfSome o (IsAfter (held_at nodes) signal start)) (sym to) (record { key = here.key; place = here.place; at = here.at; of = here.of; early = omega (arith, early, start_is) });
      }

      link_is : link_at nodes i ≡ link_in i n
      link_is = ap (bound (link_in i)) at

      behind_it : IsLink (held_at nodes) signal (Below n.start) (link_in i n)
      behind_it = subst (λ (o : Option ℕ). IsLink (held_at nodes) signal (Below n.start) o) link_is
          (subst (λ (t : ℕ). IsLink (held_at nodes) signal (Below t) (link_at nodes i)) start_is
          (subst (λ (t : ℕ). IsLink (held_at nodes) t (Below here.key.start) (link_at nodes i)) here.of (s.links i here.key here.place here.at)))

      pub search_goes_on : start < n.start → IsSearching nodes first signal start (record { before = Some i; after = link_in i n })
      search_goes_on late = record {
        behind = record { front = tt; before = record { key = here.key; place = here.place; at = here.at; of = here.of; late = omega (arith, late, start_is); next = link_is } };
        on = on_link (Below n.start) (link_in i n) behind_it;
      }

      pub search_shorter : (o : Option ℕ) → o ≡ link_in i n → way_from nodes o < way_from nodes gap.after
      search_shorter o is =
          let now : way_from nodes gap.after ≡ suc n.start = ap (λ (x : Option ℕ). way_from nodes x) to ∙ ap start_after at in
          (elim o as (λ (v : Option ℕ). v ≡ link_in i n → way_from nodes v < way_from nodes gap.after) [
            | None ↦ λ e. omega (arith, now)
            | Some j ↦ λ e.
                let r : IsOn (held_at nodes) signal (Below n.start) j = behind_it.on j (sym e) in
                let m : IsNode nodes j r.key r.place = node_of nodes j r.key r.place r.at in
                let way : way_from nodes (Some j) ≡ suc m.node.start = ap start_after m.at in
                let low : m.node.start < n.start = subst (λ (k : Key). k.start < n.start) (sym m.key) r.low in
                omega (arith, now, way, low)
          ]) is

  pub search_at_end : (gap : Gap) → IsSearching nodes first signal start gap → gap.after ≡ None → IsGap (held_at nodes) (link_at nodes) first signal start gap
  search_at_end gap l none = record { behind = l.behind; after = subst (λ (o : Option ℕ). IfSome o (IsAfter (held_at nodes) signal start)) (sym none) tt }

pub pushed_steady : (nodes : List Node) (n : Node) (i : ℕ) → i ≡ length nodes → held_in n ≡ None → n.next ≡ i → AreSteady nodes (nodes ++ n ∷ [])
pushed_steady nodes n i is none next = record {
  held = pushed_held nodes n none;
  link = pushed_link nodes n (ap (λ (b : Bool). cond b None (Some n.next)) (eq-eqb n.next (length nodes) (next ∙ is)));
}

pub pushed_free : (nodes : List Node) (n : Node) (i : ℕ) → i ≡ length nodes → held_in n ≡ None → IsFree (nodes ++ n ∷ []) i
pushed_free nodes n i is none = record {
  within = omega (arith, is, length-append nodes (n ∷ []));
  free = pushed_held nodes n none i ∙ past_none held_in nodes i (sym is);
}

-- ---- an index can be searched
pub searchable : (nodes items : List Node) (heads : ℕ → Head) (mapped : Key → Option Place) (first : Option ℕ) (head : Head) (signal : ℕ) → IsIndex nodes heads mapped → items ≡ nodes → first ≡ first_in head → head ≡ heads signal → IsSearchable items first signal
searchable nodes items heads mapped first head signal index list is at =
    subst (λ (l : List Node). IsSearchable l first signal) (sym list)
    (subst (λ (o : Option ℕ). IsSearchable nodes o signal) (sym (is ∙ ap first_in at)) (record { head = index.lists.heads signal; links = index.lists.links }))

-- what a search finds is there
pub gap_within : (nodes : List Node) (first : Option ℕ) (signal start : ℕ) (gap : Gap) → IsGap (held_at nodes) (link_at nodes) first signal start gap → IfSome gap.after (Within nodes)
gap_within nodes first signal start gap g = by gap.after g.after
  where
    by : (o : Option ℕ) → IfSome o (IsAfter (held_at nodes) signal start) → IfSome o (Within nodes)
    by None h = tt
    by (Some i) h = held_within nodes i (subst (λ (c : Option Cell). IsSome c) (sym h.at) refl)
