-- An index of what entries say, as entries are read.
use Rattle.std.proofs.Common.{◌≡◌, ℕ, suc, ◌+◌, ◌<◌, ◌≤◌, Bool, List, [], ◌∷◌, ◌++◌, length, get_or, take, All, Contains, Option, Some, None, refl, sym, ap, subst, ◌∙◌, arith, inl, inr, append_assoc, append-nil}
use Rattle.std.proofs.lemmas.List.Elements.{All-contains, All-weaker, All-contains_itself, Contains-append_left, Contains-append_right, Contains-append_cases}
use Rattle.journal_meaning.specs.declared.Entry.TheVariants.{Told, Claimed, Filled, Evicted, Dropped, Spent}
use Rattle.circuit_meaning.specs.Cells.{cell_at}
use Rattle.journal_meaning.specs.Counts.{count}
use Rattle.plan_machine.proofs.Callers.{contains-cases, contains-none}
use Rattle.std.proofs.lemmas.List.{take_more}
use Rattle.circuit_meaning.specs.Circuit.{Circuit}
use Rattle.valid_intervals.specs.declared.Cell.{Cell}
use Rattle.valid_intervals.specs.declared.Point.{Point}
use Rattle.journal_meaning.specs.declared.Entry.{Entry}
use Rattle.journal_meaning.specs.Entries.{SaidCell, cell_said}
use Rattle.journal_meaning.specs.Index.{cells_said, place_of, IsCellIndex}
use Rattle.journal_meaning.proofs.Callers.{said-append}

module _ (c : Circuit) (index : Point → Option Cell) where
  -- one entry more
  pub index-push : (es : List Entry) (xs : List Entry) (i : ℕ) (d : Entry) → i < length xs → IsCellIndex c (cells_said ((es ++ take i xs) ++ get_or xs i d ∷ [])) index → IsCellIndex c (cells_said (es ++ take (i + 1) xs)) index
  index-push es xs i d low h =
      subst (λ l. IsCellIndex c (cells_said (es ++ l)) index) (sym (take_more xs i d low))
      (subst (λ l. IsCellIndex c (cells_said l) index) (append_assoc es (take i xs) (get_or xs i d ∷ [])) h)

  -- an entry that says a cell
  pub index-said : (es : List Entry) (e : Entry) (f : SaidCell) → cell_said e ≡ Some f → IsCellIndex c (cells_said es ++ f ∷ []) index → IsCellIndex c (cells_said (es ++ e ∷ [])) index
  index-said es e f same h = subst (λ l. IsCellIndex c l index) (sym (said-append es (e ∷ []) ∙ ap (λ l. cells_said es ++ l) (rw same refl))) h

  -- an entry that says none
  pub index-silent : (es : List Entry) (e : Entry) → cell_said e ≡ None → IsCellIndex c (cells_said es) index → IsCellIndex c (cells_said (es ++ e ∷ [])) index
  index-silent es e same h = subst (λ l. IsCellIndex c l index) (sym (said-append es (e ∷ []) ∙ ap (λ l. cells_said es ++ l) (rw same refl) ∙ append-nil (cells_said es))) h

-- what entries say, one by one
one-from : (x : Entry) (f : SaidCell) → Contains (cells_said (x ∷ [])) f → cell_said x ≡ Some f
one-from (Told q p cell) f h = elim (contains-cases (record { point = p; cell = cell }) [] f h) [ inl e ↦ ap Some e | inr l ↦ absurd (contains-none f [] refl l) ]
one-from (Claimed q p) f h = absurd (contains-none f [] refl h)
one-from (Filled q p cell) f h = elim (contains-cases (record { point = p; cell = cell }) [] f h) [ inl e ↦ ap Some e | inr l ↦ absurd (contains-none f [] refl l) ]
one-from (Evicted s t) f h = absurd (contains-none f [] refl h)
one-from (Dropped q p) f h = absurd (contains-none f [] refl h)
one-from (Spent q p n) f h = absurd (contains-none f [] refl h)

-- what entries say, one of them says
pub said-from : (es : List Entry) (f : SaidCell) → Contains (cells_said es) f → (e : Entry) × Contains es e × (cell_said e ≡ Some f)
said-from [] f h = absurd (contains-none f [] refl h)
said-from (x ∷ es) f h = elim (Contains-append_cases (cells_said (x ∷ [])) (cells_said es) f (subst (λ l. Contains l f) (said-append (x ∷ []) es) h)) [
  | inl l ↦ (x, (0, omega arith, refl), one-from x f l)
  | inr l ↦ let m = said-from es f l in (m.0, (suc m.1.0, (let k = m.1.1 in omega arith), m.1.2), m.2)
]

-- and what one of them says is said
pub said-to : (es : List Entry) (e : Entry) (f : SaidCell) → Contains es e → cell_said e ≡ Some f → Contains (cells_said es) f
said-to [] e f h same = absurd (contains-none e [] refl h)
said-to (x ∷ es) e f h same = subst (λ l. Contains l f) (sym (said-append (x ∷ []) es)) (elim (contains-cases x es e h) [
  | inl k ↦
      let s : cell_said x ≡ Some f = ap cell_said k ∙ same in
      let one : cells_said (x ∷ []) ≡ f ∷ [] = rw s refl in
      Contains-append_left (cells_said (x ∷ [])) (cells_said es) f (subst (λ l. Contains l f) (sym one) (0, omega arith, refl))
  | inr k ↦ Contains-append_right (cells_said (x ∷ [])) (cells_said es) f (said-to es e f k same)
])

-- the same entries in another order
pub record SameEntries (xs ys : List Entry) : Type 0 where
  pub to : (e : Entry) → Contains xs e → Contains ys e
  pub back : (e : Entry) → Contains ys e → Contains xs e
  pub counts : (test : Entry → Bool) → count test xs ≡ count test ys

-- an index is one of the same entries in another order
pub index-same : (c : Circuit) (index : Point → Option Cell) (xs ys : List Entry) → SameEntries xs ys → IsCellIndex c (cells_said xs) index → IsCellIndex c (cells_said ys) index
index-same c index xs ys s i = record {
  right = all (λ f. f.cell ≡ cell_at c f.point) i.right;
  within = all (λ f. f.point.time ≤ c.horizon) i.within;
  has = all (λ f. index (place_of f) ≡ Some f.cell) i.has;
  only = λ k cell h. let o = i.only k cell h in record { of = o.of; known = forth o.of o.known; cell_is = o.cell_is; place = o.place };
}
  where
    back_said : (f : SaidCell) → Contains (cells_said ys) f → Contains (cells_said xs) f
    back_said f h = let m = said-from ys f h in said-to xs m.0 f (s.back m.0 m.1) m.2

    forth : (f : SaidCell) → Contains (cells_said xs) f → Contains (cells_said ys) f
    forth f h = let m = said-from xs f h in said-to ys m.0 f (s.to m.0 m.1) m.2

    all : (P : SaidCell → Type 0) → All P (cells_said xs) → All P (cells_said ys)
    all P h = All-weaker (Contains (cells_said ys)) P (λ f k. All-contains P (cells_said xs) f h (back_said f k)) (cells_said ys) (All-contains_itself (cells_said ys))
