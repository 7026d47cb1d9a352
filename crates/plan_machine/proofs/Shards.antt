-- A shard stays a shard at each entry.
use Rattle.std.proofs.Common.{◌≡◌, ℕ, zero, suc, ◌+◌, ◌-◌, ◌&&◌, not, nat_eq, cond, ◌<◌, ◌≤◌, Bool, true, false, List, [], ◌∷◌, ◌++◌, length, take, find, slice_get, refl, ap, sym, ◌∙◌, subst, arith, inl, inr, Option, Some, None, true≢false, length-take, length-append}
use Rattle.std.specs.List.{AllByRecursion, list_any}
use Rattle.std.proofs.lemmas.Bool.{cases_Bool, or_parts}
use Rattle.std.proofs.lemmas.Bool.Decides.{eqb_tells}
use Rattle.std.proofs.Math.Numerals.{lt_of_le_of_ne}
use Rattle.valid_intervals.specs.declared.Cell.{Cell}
use Rattle.valid_intervals.specs.declared.Point.{Point}
use Rattle.valid_intervals.specs.declared.SignalCell.{SignalCell}
use Rattle.valid_intervals.specs.Cells.{covers, cell_for, same_stored, all_but_last, is_stored, stored_at, last_cell}
use Rattle.circuit_meaning.specs.Circuit.{IsCircuit}
use Rattle.journal_meaning.specs.declared.Entry.{Entry}
use Rattle.journal_meaning.specs.declared.Entry.TheVariants.{Told, Claimed, Filled, Evicted, Dropped, Spent}
use Rattle.journal_meaning.specs.States.{fresh, holder, without_point, IsLeastRecent}
use Rattle.journal_meaning.specs.Counts.{booked_count}
use Rattle.journal_meaning.specs.Table.{Needs, after}
use Rattle.journal_meaning.specs.Batches.{Batch, IsNeededBy, OfQuery}
use Rattle.journal_meaning.specs.Allowed.{IsAt, IsAllowed, IsRight}
use Rattle.circuit_meaning.specs.Cells.{cell_at}
use Rattle.journal_meaning.specs.Replay.{replay, IsLegal}
use Rattle.plan_machine.specs.Strands.{Strand, IsStrand}
use Rattle.journal_meaning.proofs.Callers.{Stands, Here, There, each-stands, stands-any, front-snoc, snoc_cases, replay-more, legal-more, booked-append, still-right, still-fits, right-answers}
use Rattle.valid_intervals.proofs.Callers.{same_stored-itself}
use Rattle.plan_machine.specs.Shards.{Shard, shard_with_entry, shard_without_cell, with_room, filled_shard, IsShard}

-- what a search finds
pub found : {X : Type 0} (test : X → Bool) (xs : List X) (x : X) → find test xs ≡ Some x → (test x ≡ true) × Stands x xs
found test [] x h = absurd (cc h)
found test (y ∷ ys) x h = elim (cases_Bool (test y)) [
  | inl t ↦
      let m : find test (y ∷ ys) ≡ Some y = rw t refl in
      let same : y ≡ x = cc (m, h) in
      (subst (λ z. test z ≡ true) same t, subst (λ z. Stands z (y ∷ ys)) same Here)
  | inr f ↦
      let m : find test (y ∷ ys) ≡ find test ys = rw f refl in
      let k = found test ys x (sym m ∙ h) in
      (k.0, There k.1)
]

pub not-found : {X : Type 0} (test : X → Bool) (xs : List X) → find test xs ≡ None → list_any test xs ≡ false
not-found test [] h = refl
not-found test (y ∷ ys) h = elim (cases_Bool (test y)) [
  | inl t ↦ let m : find test (y ∷ ys) ≡ Some y = rw t refl in absurd (cc (m, h))
  | inr f ↦ let m : find test (y ∷ ys) ≡ find test ys = rw f refl in rw f (not-found test ys (sym m ∙ h))
]

-- the last of a list
snoc-last : (xs : List SignalCell) (x : SignalCell) → slice_get (xs ++ x ∷ []) (length xs) ≡ Some x
snoc-last [] x = refl
snoc-last (y ∷ xs) x = snoc-last xs x

last-snoc : (xs : List SignalCell) (x : SignalCell) → last_cell (xs ++ x ∷ []) ≡ Some x
last-snoc xs x =
    let e : length (xs ++ x ∷ []) - 1 ≡ length xs = let l = length-append xs (x ∷ []) in omega (arith, l) in
    ap (slice_get (xs ++ x ∷ [])) e ∙ snoc-last xs x

last-is : (cells : List SignalCell) (x : SignalCell) → last_cell cells ≡ Some x → IsLeastRecent cells x.signal x.cell.span.start
last-is cells x h = elim (snoc_cases cells) [
  | inl e ↦ let k : last_cell [] ≡ Some x = subst (λ l. last_cell l ≡ Some x) e h in absurd (cc k)
  | inr k ↦
      let last : Some k.1 ≡ Some x = sym (ap last_cell k.2 ∙ last-snoc k.0 k.1) ∙ h in
      let same : k.1 ≡ x = cc last in
      let front : all_but_last cells ≡ k.0 = ap all_but_last k.2 ∙ front-snoc k.0 k.1 in
      (x, k.2 ∙ ap (λ l. l ++ k.1 ∷ []) (sym front) ∙ ap (λ z. all_but_last cells ++ z ∷ []) same, refl, refl)
]

last-some : (cells : List SignalCell) → 1 ≤ length cells → last_cell cells ≡ None → ⊥
last-some cells l h = elim (snoc_cases cells) [
  | inl e ↦ let k : length cells ≡ 0 = ap length e in omega (arith, l, k)
  | inr k ↦ let last : Some k.1 ≡ None = sym (ap last_cell k.2 ∙ last-snoc k.0 k.1) ∙ h in cc last
]

any-take : (test : SignalCell → Bool) (n : ℕ) (cells : List SignalCell) → list_any test cells ≡ false → list_any test (take n cells) ≡ false
any-take test zero cells h = refl
any-take test (suc n) [] h = refl
any-take test (suc n) (x ∷ cells) h = let k = or_parts (test x) (list_any test cells) h in rw k.0 (any-take test n cells k.1)

-- a fill is one more entry of a claim or fill
booked-evicted : (o : Option SignalCell) (h : Shard) → booked_count (shard_without_cell o h).journal ≡ booked_count h.journal
booked-evicted None h = refl
booked-evicted (Some x) h = let k = booked-append h.journal (Evicted x.signal x.cell.span.start ∷ []) in omega (arith, k)

booked-room : (capacity : ℕ) (x : SignalCell) (h : Shard) → booked_count (with_room capacity x h).journal ≡ booked_count h.journal
booked-room capacity x h = elim (not (is_stored x h.state.cells) && nat_eq (length h.state.cells) capacity) as (λ t. booked_count (cond t (shard_without_cell (last_cell h.state.cells) h) h).journal ≡ booked_count h.journal) [
  | true ↦ booked-evicted (last_cell h.state.cells) h
  | false ↦ refl
]

pub booked-filled : (capacity q : ℕ) (p : Point) (cell : Cell) (h : Shard) → booked_count (filled_shard capacity q p cell h).journal ≡ booked_count h.journal + 1
booked-filled capacity q p cell h =
    let k = booked-append (with_room capacity (cell_for p cell) h).journal (Filled q p cell ∷ []) in
    let l = booked-room capacity (cell_for p cell) h in
    omega (arith, k, l)

-- a strand has at most as many claims as the budget of a query of the batch with its number
pub claims-within : (b : Batch) (s : Strand) → IsStrand b s → OfQuery b s.query.number (λ y. length s.stack ≤ y.budget)
claims-within b s is = elim is.known [
  | inl k ↦ (s.query, k.1, refl, within)
  | inr k ↦ (k.of, k.known, sym k.number, let e : s.query.budget ≡ k.of.budget = k.budget in omega (arith, within, e))
]
  where
    within : length s.stack ≤ s.query.budget
    within = omega (arith, is.charge, is.claims, is.budget)

module _ (b : Batch) (n : ℕ) (opening : List SignalCell) where
  -- a shard, perhaps with a place just made
  record Keeps (h : Shard) : Type 0 where
    legal : IsLegal b n (fresh opening) h.journal
    state : h.state ≡ replay (fresh opening) h.journal
    right : AllByRecursion (IsRight b.circuit) h.state.cells
    fits : length h.state.cells ≤ b.capacity

  keeps : (h : Shard) → IsShard b n opening h → Keeps h
  keeps h is = record { legal = is.legal; state = is.state; right = is.right; fits = is.fits }

  recorded-keeps : (h : Shard) (e : Entry) → Keeps h → Needs b.capacity h.state e → IsAllowed b n e → Keeps (shard_with_entry e h)
  recorded-keeps h e is needs allowed = record {
    legal = legal-more b n (fresh opening) h.journal e is.legal (subst (λ s. Needs b.capacity s e) is.state needs) allowed;
    state = ap (λ s. after s e) is.state ∙ sym (replay-more (fresh opening) h.journal e);
    right = still-right b n h.state e allowed is.right;
    fits = still-fits b.capacity h.state e needs is.fits;
  }

  whole : (h : Shard) → Keeps h → h.state.made ≡ false → IsShard b n opening h
  whole h is made = record { legal = is.legal; state = is.state; right = is.right; fits = is.fits; made = made }

  module _ (h : Shard) (is : IsShard b n opening h) (q : ℕ) (p : Point) (here : IsAt b n p) where
    pub told-keeps : IsCircuit b.circuit → (x : SignalCell) → OfQuery b q (λ y. IsNeededBy b y p) → stored_at h.state.cells p ≡ Some x → IsShard b n opening (shard_with_entry (Told q p x.cell) h)
    told-keeps ok x wanted e =
        let f = found (covers p) h.state.cells x e in
        let a = right-answers b.circuit ok p x (each-stands (IsRight b.circuit) x h.state.cells is.right f.1) f.0 in
        let own : cell_for p x.cell ≡ x = ap (λ (z : SignalCell). cell_for p z.cell) a ∙ sym a in
        whole (shard_with_entry (Told q p x.cell) h)
        (recorded-keeps h (Told q p x.cell) (keeps h is)
        (is.made, subst (λ z. is_stored z h.state.cells ≡ true) (sym own) (stands-any (same_stored x) x h.state.cells (same_stored-itself x) f.1), subst (λ z. covers p z ≡ true) (sym own) f.0)
        (here, wanted, ap (λ (z : SignalCell). z.cell) a))
        is.made

    pub claimed-shard : OfQuery b q (λ y. IsNeededBy b y p) → stored_at h.state.cells p ≡ None → holder h.state.claims p ≡ None → IsShard b n opening (shard_with_entry (Claimed q p) h)
    claimed-shard wanted none free =
        whole (shard_with_entry (Claimed q p) h) (recorded-keeps h (Claimed q p) (keeps h is) (is.made, not-found (covers p) h.state.cells none, free) (here, wanted)) is.made

    pub spent-shard : (held : ℕ) → OfQuery b q (λ y. IsNeededBy b y p) → OfQuery b q (λ y. held ≤ y.budget) → stored_at h.state.cells p ≡ None → holder h.state.claims p ≡ None → IsShard b n opening (shard_with_entry (Spent q p held) h)
    spent-shard held wanted within none free =
        whole (shard_with_entry (Spent q p held) h) (recorded-keeps h (Spent q p held) (keeps h is) (is.made, not-found (covers p) h.state.cells none, free) (here, wanted, within)) is.made

    pub dropped-shard : OfQuery b q (λ y. Unit {0}) → holder h.state.claims p ≡ Some q → IsShard b n opening (shard_with_entry (Dropped q p) h)
    dropped-shard known claim = whole (shard_with_entry (Dropped q p) h) (recorded-keeps h (Dropped q p) (keeps h is) (is.made, claim) (here, known)) is.made

  -- a shard in which a place was made, where one was needed
  record HasPlace (x : SignalCell) (h k : Shard) : Type 0 where
    keeps : Keeps k
    claims : k.state.claims ≡ h.state.claims
    fresh : k.state.made ≡ true → is_stored x k.state.cells ≡ false
    room : is_stored x k.state.cells ≡ false → length k.state.cells < b.capacity

  module _ (some : 1 ≤ b.capacity) (x : SignalCell) (h : Shard) (is : IsShard b n opening h) where
    evicted-place : (o : Option SignalCell) → last_cell h.state.cells ≡ o → length h.state.cells ≡ b.capacity → is_stored x h.state.cells ≡ false → HasPlace x h (shard_without_cell o h)
    evicted-place None e full new = absurd (last-some h.state.cells (omega (arith, some, full)) e)
    evicted-place (Some y) e full new = record {
      keeps = recorded-keeps h (Evicted y.signal y.cell.span.start) (keeps h is) (is.made, full, last-is h.state.cells y e) tt;
      claims = refl;
      fresh = λ _. any-take (same_stored x) (length h.state.cells - 1) h.state.cells new;
      room = λ _. let k = length-take (length h.state.cells - 1) h.state.cells in omega (arith, k, full, some);
    }

    place-made : HasPlace x h (with_room b.capacity x h)
    place-made = elim (cases_Bool (is_stored x h.state.cells)) [
      | inl t ↦ rw t (record { keeps = keeps h is; claims = refl; fresh = λ e. absurd (true≢false (sym e ∙ is.made)); room = λ e. absurd (true≢false (sym t ∙ e)) })
      | inr f ↦ elim (eqb_tells (length h.state.cells) b.capacity) [
        | inl e ↦ rw (f, e.0) (evicted-place (last_cell h.state.cells) refl e.1 f)
        | inr e ↦ rw (f, e.0) (record { keeps = keeps h is; claims = refl; fresh = λ _. f; room = λ _. let l = is.fits in let ne = e.1 in lt_of_le_of_ne l ne })
      ]
    ]

  module _ (some : 1 ≤ b.capacity) (h : Shard) (is : IsShard b n opening h) (q : ℕ) (p : Point) (here : IsAt b n p) (claim : holder h.state.claims p ≡ Some q) where
    abbrev x : SignalCell
    x = cell_for p (cell_at b.circuit p)

    pub filled-keeps : OfQuery b q (λ y. Unit {0}) → IsShard b n opening (filled_shard b.capacity q p (cell_at b.circuit p) h)
    filled-keeps known =
        let k = with_room b.capacity x h in
        let r : HasPlace x h k = place-made some x h is in
        let e = Filled q p (cell_at b.circuit p) in
        whole (shard_with_entry e k) (recorded-keeps k e r.keeps (ap (λ z. holder z p) r.claims ∙ claim, r.fresh, r.room) (here, known, refl)) refl

    pub filled-claims : (filled_shard b.capacity q p (cell_at b.circuit p) h).state.claims ≡ without_point h.state.claims p
    filled-claims = let r = place-made some x h is in ap (λ z. without_point z p) r.claims
