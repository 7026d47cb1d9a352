-- The entries of the cache, by their slots.
use Rattle.std.proofs.Common.{◌≡◌, ℕ, zero, suc, ◌+◌, ◌-◌, ◌≤◌, Bool, true, false, cond, not, nat_eq, List, [], ◌∷◌, ◌++◌, length, take, filter, All, Option, Some, None, IsSome, option_map, unwrap_or, find, refl, sym, ap, subst, ◌∙◌, eq-eqb, eqb-true, arith}
use Rattle.std.proofs.lemmas.List.{length-append}
use Rattle.std.proofs.lemmas.List.Elements.{All-head, All-tail, All-cons}
use Rattle.std.specs.List.{slice_get}
use Rattle.std.specs.Map.{lookup_entry, remove_entry}
use Rattle.std.proofs.lemmas.Option.{same_Some}
use Rattle.valid_intervals.specs.Spans.{IsSpan}
use Rattle.valid_intervals.specs.declared.SignalCell.{SignalCell}
use Rattle.valid_intervals.specs.Cells.{same_stored}
use Rattle.cell_store.specs.Recency.{IsApart, AreApart}
use Rattle.cell_store.specs.inner.Index.{cells_of, times, uses_of, places_of, AreSlots}
use Rattle.valid_intervals.proofs.Callers.{same_stored-itself}
use Rattle.cell_store.proofs.Keys.{told_apart}
use Rattle.cell_store.proofs.Found.{none_some, found_true}
use Rattle.cell_store.proofs.Cached.{all_kept, all_differ}

abbrev pub CacheEntry : Type 0
CacheEntry = ℕ × SignalCell

-- ---- lists
pub is_there : {X : Type 0} (o : Option X) (x : X) → o ≡ Some x → IsSome o
is_there None x h = none_some x h
is_there (Some y) x h = refl

pub past_end : {X : Type 0} (xs : List X) (n : ℕ) → slice_get xs n ≡ None → length xs ≤ n
past_end [] n h = omega arith
past_end (y ∷ ys) zero h = none_some y (sym h)
past_end (y ∷ ys) (suc n) h = omega (arith, past_end ys n h)

pub split_last : {X : Type 0} (xs : List X) (n : ℕ) (x : X) → length xs ≡ n + 1 → slice_get xs n ≡ Some x → xs ≡ take n xs ++ x ∷ []
split_last [] n x many h = none_some x h
split_last (y ∷ z ∷ zs) zero x many h = absurd (omega arith)
split_last {X = X} (y ∷ []) zero x many h = ap (λ (u : X). u ∷ []) (same_Some y x h)
split_last {X = X} (y ∷ ys) (suc n) x many h = ap (λ (l : List X). y ∷ l) (split_last ys n x (omega arith) h)

-- a search among the cells is one among the entries
pub find-cells_of : (f : SignalCell → Bool) (es : List CacheEntry) → find f (cells_of es) ≡ option_map (λ (e : CacheEntry). e.1) (find (λ (e : CacheEntry). f e.1) es)
find-cells_of f [] = refl
find-cells_of f (e ∷ es) =
    elim (f e.1) as (λ b. cond b (Some e.1) (find f (cells_of es)) ≡ option_map (λ (d : CacheEntry). d.1) (cond b (Some e) (find (λ (d : CacheEntry). f d.1) es))) [
      | true ↦ refl
      | false ↦ find-cells_of f es
    ]

pub cells_of-append : (es fs : List CacheEntry) → cells_of (es ++ fs) ≡ cells_of es ++ cells_of fs
cells_of-append [] fs = refl
cells_of-append (e ∷ es) fs = ap (λ (l : List SignalCell). e.1 ∷ l) (cells_of-append es fs)

pub length-cells_of : (es : List CacheEntry) → length (cells_of es) ≡ length es
length-cells_of [] = refl
length-cells_of (e ∷ es) = ap suc (length-cells_of es)

-- ---- how often a slot is there
pub times-append : (s : ℕ) (xs ys : List ℕ) → times s (xs ++ ys) ≡ times s xs + times s ys
times-append s [] ys = omega arith
times-append s (x ∷ xs) ys = omega (arith, times-append s xs ys)

pub uses_of-append : (s : ℕ) (es fs : List CacheEntry) → uses_of s (es ++ fs) ≡ uses_of s es + uses_of s fs
uses_of-append s [] fs = omega arith
uses_of-append s (e ∷ es) fs = omega (arith, uses_of-append s es fs)

found_is_used : (f : SignalCell → Bool) (es : List CacheEntry) (slot : ℕ) (x : SignalCell) → find (λ (e : CacheEntry). f e.1) es ≡ Some (slot, x) → 1 ≤ uses_of slot es
found_is_used f [] slot x h = none_some (slot, x) h
found_is_used f (e ∷ es) slot x h =
    (elim (f e.1) as (λ b. cond b (Some e) (find (λ (d : CacheEntry). f d.1) es) ≡ Some (slot, x) → 1 ≤ cond (nat_eq slot e.0) 1 0 + uses_of slot es) [
      | true ↦ λ d.
          let itself : nat_eq slot e.0 ≡ true = eq-eqb slot e.0 (ap (λ (c : CacheEntry). c.0) (sym (same_Some e (slot, x) d))) in
          subst (λ b. 1 ≤ cond b 1 0 + uses_of slot es) (sym itself) (omega arith)
      | false ↦ λ d. omega (arith, found_is_used f es slot x d)
    ]) h

pub absent : (slot : ℕ) (es : List CacheEntry) → uses_of slot es ≡ 0 → lookup_entry (nat_eq slot) es ≡ None
absent slot [] h = refl
absent slot (e ∷ es) h =
    (elim (nat_eq slot e.0) as (λ b. cond b 1 0 + uses_of slot es ≡ 0 → cond b (Some e) (lookup_entry (nat_eq slot) es) ≡ None) [
      | true ↦ λ d. absurd (omega arith)
      | false ↦ λ d. absent slot es (omega (arith, d))
    ]) h

-- ---- the entry of a slot goes first
pub record IsTaken (es : List CacheEntry) (slot : ℕ) (x : SignalCell) : Type 0 where
  pub entry : lookup_entry (nat_eq slot) es ≡ Some (slot, x)
  pub rest : cells_of (remove_entry (nat_eq slot) es) ≡ filter (λ y. not (same_stored x y)) (cells_of es)

taken_first : (es : List CacheEntry) (slot : ℕ) (x : SignalCell) → IsSpan x.cell.span → All (IsApart x) (cells_of es) → IsTaken ((slot, x) ∷ es) slot x
taken_first es slot x span apart =
    let others : List SignalCell = filter (λ y. not (same_stored x y)) (cells_of es) in
    let itself : nat_eq slot slot ≡ true = eq-eqb slot slot refl in
    let kept : others ≡ cells_of es = all_kept x (cells_of es) (all_differ x (cells_of es) span apart) in
    record {
      entry = ap (λ b. cond b (Some (slot, x)) (lookup_entry (nat_eq slot) es)) itself;
      rest = ap (λ b. cells_of (cond b es ((slot, x) ∷ remove_entry (nat_eq slot) es))) itself ∙ sym kept
          ∙ sym (ap (λ b. cond (not b) (x ∷ others) others) (same_stored-itself x));
    }

pub taken : (es : List CacheEntry) (f : SignalCell → Bool) (slot : ℕ) (x : SignalCell) → All (λ y. IsSpan y.cell.span) (cells_of es) → AreApart (cells_of es) → uses_of slot es ≤ 1
    → find (λ (e : CacheEntry). f e.1) es ≡ Some (slot, x) → IsTaken es slot x
taken [] f slot x spans apart once h = none_some (slot, x) h
taken (d ∷ ds) f slot x spans apart once h =
    let others : List SignalCell = filter (λ y. not (same_stored x y)) (cells_of ds) in
    (elim (f d.1) as (λ b. f d.1 ≡ b → cond b (Some d) (find (λ (e : CacheEntry). f e.1) ds) ≡ Some (slot, x) → IsTaken (d ∷ ds) slot x) [
      | true ↦ λ t e.
          let is : d ≡ (slot, x) = same_Some d (slot, x) e in
          let at : d.1 ≡ x = ap (λ (c : CacheEntry). c.1) is in
          subst (λ (c : CacheEntry). IsTaken (c ∷ ds) slot x) (sym is)
          (taken_first ds slot x (subst (λ (z : SignalCell). IsSpan z.cell.span) at (All-head (λ y. IsSpan y.cell.span) d.1 (cells_of ds) spans)) (subst (λ (z : SignalCell). All (IsApart z) (cells_of ds)) at apart.0))
      | false ↦ λ t e.
          let there : 1 ≤ uses_of slot ds = found_is_used f ds slot x e in
          let other : nat_eq slot d.0 ≡ false =
          (elim (nat_eq slot d.0) as (λ b. cond b 1 0 + uses_of slot ds ≤ 1 → b ≡ false) [ true ↦ λ o. absurd (omega arith) | false ↦ λ o. refl ]) once in
          let few : uses_of slot ds ≤ 1 = omega (arith, once) in
          let on : IsTaken ds slot x = taken ds f slot x (All-tail (λ y. IsSpan y.cell.span) d.1 (cells_of ds) spans) apart.1 few e in
          let differs : same_stored x d.1 ≡ false = told_apart f x d.1 (found_true (λ (c : CacheEntry). f c.1) ds (slot, x) e) t in
          record {
            entry = ap (λ b. cond b (Some d) (lookup_entry (nat_eq slot) ds)) other ∙ on.entry;
            rest = ap (λ b. cells_of (cond b ds (d ∷ remove_entry (nat_eq slot) ds))) other ∙ ap (λ (l : List SignalCell). d.1 ∷ l) on.rest
                ∙ sym (ap (λ b. cond (not b) (d.1 ∷ others) others) differs);
          }
    ]) refl h

pub All-remove_entry : (P : CacheEntry → Type 0) (test : ℕ → Bool) (es : List CacheEntry) → All P es → All P (remove_entry test es)
All-remove_entry P test [] all = all
All-remove_entry P test (e ∷ es) all =
    elim (test e.0) as (λ b. All P (cond b es (e ∷ remove_entry test es))) [
      | true ↦ All-tail P e es all
      | false ↦ All-cons P e (remove_entry test es) (All-head P e es all) (All-remove_entry P test es (All-tail P e es all))
    ]

-- the same slots, and as many
pub record IsMoved (es fs : List CacheEntry) : Type 0 where
  pub uses : (s : ℕ) → uses_of s fs ≡ uses_of s es
  pub many : length fs ≡ length es

pub moved : (test : ℕ → Bool) (es : List CacheEntry) (e : CacheEntry) → lookup_entry test es ≡ Some e → IsMoved es (e ∷ remove_entry test es)
moved test [] e h = none_some e h
moved test (d ∷ ds) e h =
    (elim (test d.0) as (λ b. cond b (Some d) (lookup_entry test ds) ≡ Some e → IsMoved (d ∷ ds) (e ∷ cond b ds (d ∷ remove_entry test ds))) [
      | true ↦ λ t. subst (λ (c : CacheEntry). IsMoved (c ∷ ds) (e ∷ ds)) (sym (same_Some d e t)) (record { uses = λ s. refl; many = refl })
      | false ↦ λ t.
          let on : IsMoved ds (e ∷ remove_entry test ds) = moved test ds e t in
          record { uses = λ s. omega (arith, on.uses s); many = omega (arith, on.many) }
    ]) h

-- slots stay slots where each stays in as many places
pub same_slots : (es fs : List CacheEntry) (was free : List ℕ) → ((s : ℕ) → places_of s fs free ≡ places_of s es was) → length fs + length free ≡ length es + length was → AreSlots es was → AreSlots fs free
same_slots es fs was free same many slots = record {
  once = λ s. omega (arith, same s, slots.once s);
  first = λ s low. omega (arith, same s, slots.first s (omega arith));
}

-- ---- the last entry
pub record IsAtEnd (es : List CacheEntry) (slot : ℕ) (y : SignalCell) : Type 0 where
  pub entry : lookup_entry (nat_eq slot) (es ++ (slot, y) ∷ []) ≡ Some (slot, y)
  pub rest : remove_entry (nat_eq slot) (es ++ (slot, y) ∷ []) ≡ es

pub at_end : (es : List CacheEntry) (slot : ℕ) (y : SignalCell) → uses_of slot es ≡ 0 → IsAtEnd es slot y
at_end [] slot y h =
    let itself : nat_eq slot slot ≡ true = eq-eqb slot slot refl in
    record {
      entry = ap (λ b. cond b (Some (slot, y)) None) itself;
      rest = ap (λ b. cond b [] ((slot, y) ∷ [])) itself;
    }
at_end (e ∷ es) slot y h =
    let other : nat_eq slot e.0 ≡ false = (elim (nat_eq slot e.0) as (λ b. cond b 1 0 + uses_of slot es ≡ 0 → b ≡ false) [ true ↦ λ d. absurd (omega arith) | false ↦ λ d. refl ]) h in
    let none : uses_of slot es ≡ 0 = omega (arith, h) in
    let on : IsAtEnd es slot y = at_end es slot y none in
    record {
      entry = ap (λ b. cond b (Some e) (lookup_entry (nat_eq slot) (es ++ (slot, y) ∷ []))) other ∙ on.entry;
      rest = ap (λ b. cond b (es ++ (slot, y) ∷ []) (e ∷ remove_entry (nat_eq slot) (es ++ (slot, y) ∷ []))) other ∙ ap (λ (l : List CacheEntry). e ∷ l) on.rest;
    }

-- ---- the slot of a new cell
abbrev pub new_slot : List CacheEntry → List ℕ → ℕ
new_slot es free = unwrap_or (slice_get free (length free - 1)) (length es)

abbrev pub still_free : List ℕ → List ℕ
still_free free = take (length free - 1) free

pub record IsFresh (es : List CacheEntry) (free : List ℕ) (slot : ℕ) (x : SignalCell) : Type 0 where
  pub unused : uses_of slot es ≡ 0
  pub slots : AreSlots ((slot, x) ∷ es) (still_free free)

fresh_past : (es : List CacheEntry) (x : SignalCell) → AreSlots es [] → IsFresh es [] (length es) x
fresh_past es x slots =
    let none : uses_of (length es) es ≡ 0 = omega (arith, slots.first (length es) (omega arith)) in
    record {
      unused = none;
      slots = record {
        once = λ s.
            (elim (nat_eq s (length es)) as (λ b. nat_eq s (length es) ≡ b → cond b 1 0 + uses_of s es + 0 ≤ 1) [
              | true ↦ λ t. let here : uses_of s es ≡ 0 = subst (λ (n : ℕ). uses_of n es ≡ 0) (sym (eqb-true s (length es) t)) none in omega arith
              | false ↦ λ t. omega (arith, slots.once s)
            ]) refl;
        first = λ s low.
            (elim (nat_eq s (length es)) as (λ b. nat_eq s (length es) ≡ b → cond b 1 0 + uses_of s es + 0 ≡ 0) [
              | true ↦ λ t. let same : s ≡ length es = eqb-true s (length es) t in absurd (omega arith)
              | false ↦ λ t. omega (arith, slots.first s (omega arith))
            ]) refl;
      };
    }

fresh_freed : (es : List CacheEntry) (init : List ℕ) (slot : ℕ) (x : SignalCell) → AreSlots es (init ++ slot ∷ []) → (uses_of slot es ≡ 0) × AreSlots ((slot, x) ∷ es) init
fresh_freed es init slot x slots =
    let itself : nat_eq slot slot ≡ true = eq-eqb slot slot refl in
    let one : times slot (slot ∷ []) ≡ 1 = ap (λ b. cond b 1 0 + 0) itself in (
      omega (arith, one, slots.once slot, times-append slot init (slot ∷ [])),
      same_slots es ((slot, x) ∷ es) (init ++ slot ∷ []) init (λ s. omega (arith, times-append s init (slot ∷ []))) (omega (arith, length-append init (slot ∷ []))) slots,
    )

pub fresh : (es : List CacheEntry) (free : List ℕ) (x : SignalCell) → AreSlots es free → IsFresh es free (new_slot es free) x
fresh es [] x slots = fresh_past es x slots
fresh es (y ∷ ys) x slots =
    let free : List ℕ = y ∷ ys in
    (elim (slice_get free (length free - 1)) as (λ o. slice_get free (length free - 1) ≡ o → IsFresh es free (unwrap_or o (length es)) x) [
      | None ↦ λ at. let short : length free ≤ length free - 1 = past_end free (length free - 1) at in absurd (omega arith)
      | Some slot ↦ λ at.
          let split : free ≡ still_free free ++ slot ∷ [] = split_last free (length free - 1) slot (omega arith) at in
          let both : (uses_of slot es ≡ 0) × AreSlots ((slot, x) ∷ es) (still_free free) = fresh_freed es (still_free free) slot x (subst (λ (l : List ℕ). AreSlots es l) split slots) in
          record { unused = both.0; slots = both.1 }
    ]) refl
