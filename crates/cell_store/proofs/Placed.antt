-- What each change of the cells and the index keeps: the index has the place of each cell.
use Rattle.std.proofs.Common.{◌≡◌, ℕ, IsSome, Bool, true, false, cond, List, [], ◌∷◌, ◌++◌, All, Option, Some, None, option_map, find, refl, sym, ap, ap₂, subst, ◌∙◌}
use Rattle.std.proofs.lemmas.List.Elements.{All-head, All-tail, All-cons, All-nil}
use Rattle.std.specs.Ordering.{is_eq}
use Rattle.std.proofs.lemmas.Option.{same_Some}
use Rattle.valid_intervals.specs.Spans.{IsSpan}
use Rattle.valid_intervals.specs.declared.Cell.{Cell}
use Rattle.valid_intervals.specs.declared.SignalCell.{SignalCell}
use Rattle.cell_store.specs.declared.Key.{Key}
use Rattle.cell_store.specs.declared.index.Place.{Place}
use Rattle.cell_store.specs.Recency.{key_of, IsApart, AreApart}
use Rattle.cell_store.specs.inner.Index.{key_cmp, has_key, place_at, slot_and_cell, end_in, cells_of, IsStoreIndex, IsPlaced}
use Rattle.cell_store.proofs.Keys.{keys_differ, key_eq-is, has_key-itself}
use Rattle.cell_store.proofs.Found.{none_some, found_all}
use Rattle.cell_store.proofs.StoreIndex.{same_index, added, dropped, All-front, All-back}
use Rattle.cell_store.proofs.Entries.{CacheEntry, find-cells_of, cells_of-append}

abbrev pub IsAt : (Key → Option Place) → CacheEntry → Type 0
IsAt place_of e = place_of (key_of e.1) ≡ Some (place_at e)

pub same_placed : (f g : Key → Option Place) (es : List CacheEntry) → ((q : Key) → f q ≡ g q) → IsPlaced g es → IsPlaced f es
same_placed f g es same placed = record {
  indexed = same_index (end_in f) (end_in g) (cells_of es) (λ q. ap (option_map (λ (p : Place). p.end)) (same q)) placed.indexed;
  placed = all es placed.placed;
}
  where
    all : (ds : List CacheEntry) → All (IsAt g) ds → All (IsAt f) ds
    all [] h = All-nil (IsAt f)
    all (d ∷ ds) h = All-cons (IsAt f) d ds (same (key_of d.1) ∙ All-head (IsAt g) d ds h) (all ds (All-tail (IsAt g) d ds h))

-- a change at the key of x alone keeps the places of the cells that are apart from x
others_placed : (f g : Key → Option Place) (x : SignalCell) (o : Option Place) → ((q : Key) → g q ≡ cond (is_eq (key_cmp (key_of x) q)) o (f q)) → IsSpan x.cell.span
    → (es : List CacheEntry) → All (λ y. IsSpan y.cell.span) (cells_of es) → All (IsApart x) (cells_of es) → All (IsAt f) es → All (IsAt g) es
others_placed f g x o changed span [] spans apart placed = All-nil (IsAt g)
others_placed f g x o changed span (e ∷ es) spans apart placed =
    let here : IsApart x e.1 = All-head (IsApart x) e.1 (cells_of es) apart in
    let other : has_key (key_of e.1) x ≡ false = keys_differ e.1 x (All-head (λ y. IsSpan y.cell.span) e.1 (cells_of es) spans) span (λ p a b. here p b a) in
    All-cons (IsAt g) e es (changed (key_of e.1) ∙ ap (λ b. cond b o (f (key_of e.1))) (key_eq-is (key_of e.1) x ∙ other) ∙ All-head (IsAt f) e es placed)
    (others_placed f g x o changed span es (All-tail (λ y. IsSpan y.cell.span) e.1 (cells_of es) spans) (All-tail (IsApart x) e.1 (cells_of es) apart) (All-tail (IsAt f) e es placed))

end_of_cond : (b : Bool) (o p : Option Place) → option_map (λ (q : Place). q.end) (cond b o p) ≡ cond b (option_map (λ (q : Place). q.end) o) (option_map (λ (q : Place). q.end) p)
end_of_cond true o p = refl
end_of_cond false o p = refl

itself_at : (x : SignalCell) (o p : Option Place) → cond (is_eq (key_cmp (key_of x) (key_of x))) o p ≡ o
itself_at x o p = ap (λ b. cond b o p) (key_eq-is (key_of x) x ∙ has_key-itself x)

-- a new cell
pub added_place : (f g : Key → Option Place) (es : List CacheEntry) (slot : ℕ) (x : SignalCell) → IsPlaced f es → IsSpan x.cell.span → All (IsApart x) (cells_of es)
    → ((q : Key) → g q ≡ cond (is_eq (key_cmp (key_of x) q)) (Some (place_at (slot, x))) (f q)) → IsPlaced g ((slot, x) ∷ es)
added_place f g es slot x placed span apart changed = record {
  indexed = same_index (end_in g) (λ q. cond (is_eq (key_cmp (key_of x) q)) (Some x.cell.span.stop) (end_in f q)) (x ∷ cells_of es)
      (λ q. ap (option_map (λ (p : Place). p.end)) (changed q) ∙ end_of_cond (is_eq (key_cmp (key_of x) q)) (Some (place_at (slot, x))) (f q))
      (added (end_in f) (cells_of es) x placed.indexed span apart);
  placed = All-cons (IsAt g) (slot, x) es (changed (key_of x) ∙ itself_at x (Some (place_at (slot, x))) (f (key_of x)))
      (others_placed f g x (Some (place_at (slot, x))) changed span es placed.indexed.spans apart placed.placed);
}

-- the last cell goes
pub apart_back : (cells : List SignalCell) (y : SignalCell) → AreApart (cells ++ y ∷ []) → All (IsApart y) cells
apart_back [] y apart = All-nil (IsApart y)
apart_back (x ∷ cells) y apart =
    let last : IsApart x y = All-back (IsApart x) cells y apart.0 in
    All-cons (IsApart y) x cells (λ p a b. last p b a) (apart_back cells y apart.1)

pub dropped_place : (f g : Key → Option Place) (es : List CacheEntry) (slot : ℕ) (y : SignalCell) → IsPlaced f (es ++ (slot, y) ∷ [])
    → ((q : Key) → g q ≡ cond (is_eq (key_cmp (key_of y) q)) None (f q)) → IsPlaced g es
dropped_place f g es slot y placed changed =
    let index : IsStoreIndex (end_in f) (cells_of es ++ y ∷ []) = subst (λ (l : List SignalCell). IsStoreIndex (end_in f) l) (cells_of-append es ((slot, y) ∷ [])) placed.indexed in
    record {
      indexed = same_index (end_in g) (λ q. cond (is_eq (key_cmp (key_of y) q)) None (end_in f q)) (cells_of es)
          (λ q. ap (option_map (λ (p : Place). p.end)) (changed q) ∙ end_of_cond (is_eq (key_cmp (key_of y) q)) None (f q))
          (dropped (end_in f) (cells_of es) y index);
      placed = others_placed f g y None changed (All-back (λ z. IsSpan z.cell.span) (cells_of es) y index.spans) es
          (All-front (λ z. IsSpan z.cell.span) (cells_of es) y index.spans) (apart_back (cells_of es) y index.apart) (All-front (IsAt f) es (slot, y) placed.placed);
    }

-- where a cell is that is found
pub record IsLocated (place_of : Key → Option Place) (es : List CacheEntry) (f : SignalCell → Bool) (x : SignalCell) : Type 0 where
  pub slot : ℕ
  pub found : find (λ e. f e.1) es ≡ Some (slot, x)
  pub at : IsAt place_of (slot, x)

pub located : (place_of : Key → Option Place) (es : List CacheEntry) (f : SignalCell → Bool) (x : SignalCell) → IsPlaced place_of es → find f (cells_of es) ≡ Some x → IsLocated place_of es f x
located place_of es f x placed h =
    (elim (find (λ (e : CacheEntry). f e.1) es) as (λ o. find (λ (e : CacheEntry). f e.1) es ≡ o → option_map (λ (e : CacheEntry). e.1) o ≡ Some x → IsLocated place_of es f x) [
      | None ↦ λ t d. none_some x d
      | Some e ↦ λ t d.
          let is : e ≡ (e.0, x) = ap (λ (y : SignalCell). (e.0, y)) (same_Some e.1 x d) in
          record {
            slot = e.0;
            found = t ∙ ap (λ (c : CacheEntry). Some c) is;
            at = subst (IsAt place_of) is (found_all (IsAt place_of) (λ (c : CacheEntry). f c.1) es e placed.placed t);
          }
    ]) refl (sym (find-cells_of f es) ∙ h)

-- the slot that the index has is that of the cell
pub same_slot : (place_of : Key → Option Place) (slot : ℕ) (x : SignalCell) (p : Place) → IsAt place_of (slot, x) → place_of (key_of x) ≡ Some p → slot ≡ p.slot
same_slot place_of slot x p at is = ap (λ (q : Place). q.slot) (same_Some (place_at (slot, x)) p (sym at ∙ is))

-- where there is no place, there is no cell
pub no_cell : (place_of : Key → Option Place) (es : List CacheEntry) (k : Key) → IsPlaced place_of es → place_of k ≡ None → find (has_key k) (cells_of es) ≡ None
no_cell place_of es k placed none =
    (elim (find (has_key k) (cells_of es)) as (λ o. option_map (λ (z : SignalCell). z.cell.span.stop) o ≡ None → o ≡ None) [
      | None ↦ λ d. refl
      | Some y ↦ λ d. none_some y.cell.span.stop (sym d)
    ]) (sym (placed.indexed.ends k) ∙ ap (option_map (λ (q : Place). q.end)) none)

-- what the index has of a cell
abbrev pub cell_in : Key → Place → Cell
cell_in k p = record { span = record { start = k.start; stop = p.end }; value = p.value }

-- the slot of a cell that a search finds, and the cell
pub record IsSlotOf (es : List CacheEntry) (g : SignalCell → Bool) (k : Key) (p : Place) : Type 0 where
  pub found : Some (p.slot, cell_in k p) ≡ option_map slot_and_cell (find (λ e. g e.1) es)
  pub span : IsSpan (cell_in k p).span

pub slot_found : (place_of : Key → Option Place) (es : List CacheEntry) (g : SignalCell → Bool) (k : Key) (p : Place) → IsPlaced place_of es → option_map key_of (find g (cells_of es)) ≡ Some k → place_of k ≡ Some p → IsSlotOf es g k p
slot_found place_of es g k p placed h at =
    (elim (find (λ (e : CacheEntry). g e.1) es) as (λ o. find (λ (e : CacheEntry). g e.1) es ≡ o → option_map key_of (option_map (λ (e : CacheEntry). e.1) o) ≡ Some k → IsSlotOf es g k p) [
      | None ↦ λ t d. none_some k d
      | Some e ↦ λ t d.
          let key : key_of e.1 ≡ k = same_Some (key_of e.1) k d in
          let there : IsAt place_of e = found_all (IsAt place_of) (λ (c : CacheEntry). g c.1) es e placed.placed t in
          let is : place_at e ≡ p = same_Some (place_at e) p (sym there ∙ ap place_of key ∙ at) in
          let cell : e.1.cell ≡ cell_in k p = ap₂ cell_in key is in
          let span : IsSpan e.1.cell.span = found_all (λ (c : CacheEntry). IsSpan c.1.cell.span) (λ (c : CacheEntry). g c.1) es e (spans es placed.indexed.spans) t in
          record {
            found = sym (ap (option_map slot_and_cell) t ∙ ap₂ (λ (n : ℕ) (c : Cell). Some (n, c)) (ap (λ (q : Place). q.slot) is) cell);
            span = subst (λ (c : Cell). IsSpan c.span) cell span;
          }
    ]) refl (ap (option_map key_of) (sym (find-cells_of g es)) ∙ h)
  where
    spans : (ds : List CacheEntry) → All (λ x. IsSpan x.cell.span) (cells_of ds) → All (λ (c : CacheEntry). IsSpan c.1.cell.span) ds
    spans [] all = All-nil (λ (c : CacheEntry). IsSpan c.1.cell.span)
    spans (d ∷ ds) all = All-cons (λ (c : CacheEntry). IsSpan c.1.cell.span) d ds (All-head (λ x. IsSpan x.cell.span) d.1 (cells_of ds) all) (spans ds (All-tail (λ x. IsSpan x.cell.span) d.1 (cells_of ds) all))

pub no_slot_found : (es : List CacheEntry) (g : SignalCell → Bool) → find g (cells_of es) ≡ None → None ≡ option_map slot_and_cell (find (λ (e : CacheEntry). g e.1) es)
no_slot_found es g h =
    (elim (find (λ (e : CacheEntry). g e.1) es) as (λ o. option_map (λ (e : CacheEntry). e.1) o ≡ None → None ≡ option_map slot_and_cell o) [
      | None ↦ λ d. refl
      | Some e ↦ λ d. none_some e.1 (sym d)
    ]) (sym (find-cells_of g es) ∙ h)

-- the cell in a slot that a search finds
pub record IsFoundIn (es : List CacheEntry) (g : SignalCell → Bool) (slot : ℕ) (cell : Cell) : Type 0 where
  pub x : SignalCell
  pub entry : find (λ e. g e.1) es ≡ Some (slot, x)
  pub found : find g (cells_of es) ≡ Some x
  pub is : x.cell ≡ cell

pub cell_found : (es : List CacheEntry) (g : SignalCell → Bool) (slot : ℕ) (cell : Cell) → Some (slot, cell) ≡ option_map slot_and_cell (find (λ (e : CacheEntry). g e.1) es) → IsFoundIn es g slot cell
cell_found es g slot cell h =
    (elim (find (λ (e : CacheEntry). g e.1) es) as (λ o. find (λ (e : CacheEntry). g e.1) es ≡ o → Some (slot, cell) ≡ option_map slot_and_cell o → IsFoundIn es g slot cell) [
      | None ↦ λ t d. none_some (slot, cell) (sym d)
      | Some e ↦ λ t d.
          let at : (slot, cell) ≡ (e.0, e.1.cell) = same_Some (slot, cell) (e.0, e.1.cell) d in
          record {
            x = e.1;
            entry = t ∙ ap (λ (n : ℕ). Some (n, e.1)) (sym (ap (λ (c : ℕ × Cell). c.0) at));
            found = find-cells_of g es ∙ ap (option_map (λ (c : CacheEntry). c.1)) t;
            is = sym (ap (λ (c : ℕ × Cell). c.1) at);
          }
    ]) refl h

-- the ends of an index, key by key
pub end_of_place : (place_of : Key → Option Place) (k : Key) (p : Place) → place_of k ≡ Some p → end_in place_of k ≡ Some p.end
end_of_place place_of k p at = ap (option_map (λ (q : Place). q.end)) at

pub no_end_of_place : (place_of : Key → Option Place) (k : Key) → place_of k ≡ None → end_in place_of k ≡ None
no_end_of_place place_of k at = ap (option_map (λ (q : Place). q.end)) at

pub has_place : (place_of : Key → Option Place) (k : Key) → IsSome (end_in place_of k) → IsSome (place_of k)
has_place place_of k has = (elim (place_of k) as (λ o. IsSome (option_map (λ (q : Place). q.end) o) → IsSome o) [ None ↦ λ d. d | Some p ↦ λ d. d ]) has

pub none_found : (es : List CacheEntry) (g : SignalCell → Bool) → None ≡ option_map slot_and_cell (find (λ (e : CacheEntry). g e.1) es) → find g (cells_of es) ≡ None
none_found es g h =
    find-cells_of g es
    ∙ (elim (find (λ (e : CacheEntry). g e.1) es) as (λ o. None ≡ option_map slot_and_cell o → option_map (λ (e : CacheEntry). e.1) o ≡ None) [
      | None ↦ λ d. refl
      | Some e ↦ λ d. none_some (e.0, e.1.cell) d
    ]) h
