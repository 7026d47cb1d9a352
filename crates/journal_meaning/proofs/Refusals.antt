-- Worked examples: journals that are not legal.
use Rattle.std.proofs.Common.{◌≡◌, ℕ, ◌≤◌, ◌⊎◌, refl, sym, ap, subst, arith, inl, inr, true≢false, [], ◌∷◌, List, Contains}
use Rattle.std.proofs.lemmas.List.Elements.{All-from_recursion, All-contains}
use Rattle.std.proofs.lemmas.Option.{none-some}
use Rattle.gate_values.specs.declared.Value.TheVariants.{Zero, One}
use Rattle.valid_intervals.specs.declared.Cell.{Cell}
use Rattle.valid_intervals.specs.declared.SignalCell.{SignalCell}
use Rattle.circuit_meaning.specs.Forward.{rows_below, row_at, last_setting, value}
use Rattle.circuit_meaning.specs.Cells.{span, least_delay, next_setting}
use Rattle.circuit_meaning.specs.Need.{IsInCone, Itself, Reads, IsNeeded}
use Rattle.journal_meaning.specs.declared.Entry.TheVariants.{Claimed, Filled, Evicted, Dropped, Spent}
use Rattle.journal_meaning.specs.declared.batch.Query.{Query}
use Rattle.journal_meaning.specs.Batches.{Batch, window_of}
use Rattle.journal_meaning.specs.Replay.{IsLegalBatch}
use Rattle.journal_meaning.proofs.Lists.{contains-one}
use Rattle.journal_meaning.proofs.Examples.{at, cell, both, first_query, tight, both15, second_query, again, third_query, third}
use Rattle.circuit_meaning.specs.Circuit.{driver, read_by}
use Rattle.circuit_meaning.proofs.Callers.{needed-in_cone}

-- a claim of a point that a stored cell covers
told-not-claimed : IsLegalBatch third 0 (record { signal = 1; cell = cell 3 8 One } ∷ []) (Claimed 3 (at 1 3) ∷ Dropped 3 (at 1 3) ∷ []) → ⊥
told-not-claimed h = true≢false h.legal.0.1

-- an eviction from a shard with room
evicts-with-room : IsLegalBatch third 0 (record { signal = 1; cell = cell 3 8 One } ∷ []) (Claimed 3 (at 1 8) ∷ Evicted 1 3 ∷ Filled 3 (at 1 8) (cell 8 11 Zero) ∷ []) → ⊥
evicts-with-room h = let n : 1 ≡ 16384 = h.legal.2.0.1 in omega (arith, n)

-- a cell with another interval than the definition's
wrong-cell : IsLegalBatch third 0 [] (Claimed 3 (at 1 3) ∷ Filled 3 (at 1 3) (cell 3 11 One) ∷ []) → ⊥
unfolding span value row_at rows_below last_setting next_setting least_delay
wrong-cell h = let n : 11 ≡ 8 = ap (λ (x : Cell). x.span.stop) h.legal.2.1.2 in omega (arith, n)

-- a claim that is left at the end
left-claimed : IsLegalBatch third 0 [] (Claimed 3 (at 1 3) ∷ []) → ⊥
left-claimed h = absurd (cc)

-- a point that no query needs: of q, which p does not read
nothing : {X : Type 0} (x : X) → Contains [] x → ⊥
nothing x c = All-contains (λ y. ⊥) [] x (All-from_recursion (λ y. ⊥) [] tt) c

cone_of-p : (s : ℕ) → IsInCone both 2 s → (s ≡ 2) ⊎ (s ≡ 0)
cone_of-p s Itself = inl refl
cone_of-p s (Reads {s = x} h c) = elim (cone_of-p x h) [
  | inl e ↦ inr (sym (contains-one 0 s (subst (λ y. Contains (read_by (driver both y)) s) e c)))
  | inr e ↦ absurd (nothing s (subst (λ y. Contains (read_by (driver both y)) s) e c))
]

not-needed : IsLegalBatch again 0 [] (Claimed 3 (at 3 4) ∷ Dropped 3 (at 3 4) ∷ []) → ⊥
not-needed h =
    let of = h.legal.1.1 in
    let need : IsNeeded both (window_of second_query) 3 4 = subst (λ q. IsNeeded both (window_of q) 3 4) (sym (contains-one second_query of.0 of.1)) of.3 in
    elim (cone_of-p 3 (needed-in_cone both (window_of second_query) 3 4 need)) [
      | inl e ↦ omega (arith, e)
      | inr e ↦ omega (arith, e)
    ]

-- a fill without its claim
not-claimed : IsLegalBatch third 0 [] (Filled 3 (at 1 3) (cell 3 8 One) ∷ []) → ⊥
not-claimed h = none-some 3 h.legal.0.0

-- an eviction of another than the last cell, from a shard of two cells
abbrev two : Batch
two = record tight { capacity = 2 }

abbrev stored : ℕ → SignalCell
stored s = record { signal = s; cell = cell 1 11 One }

abbrev second_signal : List SignalCell → ℕ
second_signal (x ∷ y ∷ cells) = y.signal
second_signal cells = 0

not-last : IsLegalBatch two 0 (stored 2 ∷ stored 3 ∷ []) (Claimed 1 (at 1 5) ∷ Evicted 2 1 ∷ Filled 1 (at 1 5) (cell 2 11 One) ∷ []) → ⊥
not-last h =
    let last = h.legal.2.0.2 in
    let e : 3 ≡ last.0.signal = ap second_signal last.1 in
    let k = last.2 in
    omega (arith, e, k)

-- the last cell may go
last-goes : IsLegalBatch two 0 (stored 2 ∷ stored 3 ∷ []) (Claimed 1 (at 1 5) ∷ Evicted 3 1 ∷ Filled 1 (at 1 5) (cell 2 11 One) ∷ [])
unfolding span value row_at rows_below last_setting next_setting least_delay
last-goes = record {
  legal = (
    (refl, refl, refl),
    ((refl, omega arith), (first_query, (0, omega arith, refl), refl, both15)),
    (
      (refl, refl, (stored 3, refl, refl, refl)),
      tt,
      ((refl, (λ e. refl), (λ e. omega arith)), ((refl, omega arith), (first_query, (0, omega arith, refl), refl, tt), refl), tt),
    ),
  );
  ended = record { claims = refl; made = refl };
}

-- an eviction that no fill follows
not-filled : IsLegalBatch two 0 (stored 2 ∷ stored 3 ∷ []) (Evicted 3 1 ∷ []) → ⊥
not-filled h = true≢false h.ended.made

-- a second claim of a point, by another query or the same
claimed-twice : IsLegalBatch third 0 [] (Claimed 3 (at 1 3) ∷ Claimed 3 (at 1 3) ∷ Dropped 3 (at 1 3) ∷ []) → ⊥
claimed-twice h = none-some 3 (sym h.legal.2.0.2)

-- a refusal of a query that is said to have more claims than its budget
spent-beyond : IsLegalBatch third 0 [] (Spent 3 (at 1 3) 500001 ∷ []) → ⊥
spent-beyond h =
    let of = h.legal.1.2 in
    let k : 500001 ≤ 500000 = subst (λ (q : Query). 500001 ≤ q.budget) (sym (contains-one third_query of.0 of.1)) of.3 in
    omega (arith, k)
