-- Between two evaluations of a point its cell is evicted.
use Rattle.std.proofs.Common.{◌≡◌, ◌≢◌, ℕ, ◌≤◌, true, List, [], ◌∷◌, ◌++◌, Contains, All, None, refl, sym, ap, ap₂, subst, ◌∙◌, inl, inr, ◌⊎◌, append_assoc}
use Rattle.std.proofs.lemmas.List.Elements.{recursion_from_All}
use Rattle.valid_intervals.specs.declared.Point.{Point}
use Rattle.circuit_meaning.specs.Circuit.{Circuit, IsCircuit}
use Rattle.valid_intervals.specs.declared.Cell.{Cell}
use Rattle.journal_meaning.specs.declared.Entry.{Entry}
use Rattle.journal_meaning.specs.declared.Entry.TheVariants.{Told, Claimed, Filled, Evicted, Dropped, Spent}
use Rattle.journal_meaning.specs.States.{State, fresh, holder, IsLeastRecent}
use Rattle.journal_meaning.specs.Table.{Needs, after}
use Rattle.valid_intervals.specs.Cells.{covers, cell_for, all_but_last, same_stored}
use Rattle.valid_intervals.specs.declared.SignalCell.{SignalCell}
use Rattle.journal_meaning.specs.Batches.{Batch}
use Rattle.circuit_meaning.specs.Cells.{cell_at}
use Rattle.journal_meaning.specs.Replay.{replay, IsLegal, IsLegalTrim}
use Rattle.journal_meaning.specs.Sections.{Purpose, Asks, Trims, Forces, SectionEntries, IsLegalIn, own_entries, list_of, cells_left, AreLegal, joined_entries}
use Rattle.journal_meaning.specs.Laws.{OfCircuit}
use Rattle.valid_intervals.proofs.Callers.{same_stored-true, same_stored-itself}
use Rattle.journal_meaning.proofs.Lists.{Each, Stands, Here, There, stands-front, stands-last, contains_from}
use Rattle.journal_meaning.proofs.Claims.{Quiet, quiet, still_unclaimed, holder-without, own-covers}

fill≢evict : (q : ℕ) (p : Point) (x : Cell) (signal start : ℕ) → Filled q p x ≢ Evicted signal start
fill≢evict q p x signal start e = cc

abbrev pub Evicts : Point → Cell → Entry → Type 0
Evicts p x e = e ≡ Evicted p.signal x.span.start

-- up to the eviction of the cell each entry is quiet
abbrev pub QuietUntilEvicted : Point → Cell → List Entry → Type 0
QuietUntilEvicted p x [] = Unit {0}
QuietUntilEvicted p x (e ∷ es) = Evicts p x e ⊎ (Quiet p e × QuietUntilEvicted p x es)

module _ (p : Point) (x : Cell) (c : covers p (cell_for p x) ≡ true) where
  record Known (s : State) : Type 0 where
    stands : Stands (cell_for p x) s.cells
    unclaimed : holder s.claims p ≡ None

  evict : (s : State) (signal start : ℕ) → Stands (cell_for p x) s.cells → IsLeastRecent s.cells signal start → Evicts p x (Evicted signal start) ⊎ Stands (cell_for p x) (all_but_last s.cells)
  evict s signal start st l = elim (stands-last (cell_for p x) l.0 (all_but_last s.cells) (subst (Stands (cell_for p x)) l.1 st)) [
    | inl k ↦ inr k
    | inr e ↦ inl (ap₂ Evicted (sym l.2 ∙ sym (ap (λ y. y.signal) e)) (sym l.3 ∙ sym (ap (λ y. y.cell.span.start) e)))
  ]

  pub stays : (capacity : ℕ) (s : State) → Stands (cell_for p x) s.cells → (e : Entry) → Needs capacity s e → Evicts p x e ⊎ Stands (cell_for p x) (after s e).cells
  stays capacity s st (Told q r y) n = inr (stands-front same_stored same_stored-true same_stored-itself (cell_for p x) (cell_for r y) s.cells st)
  stays capacity s st (Claimed q r) n = inr st
  stays capacity s st (Filled q r y) n = inr (stands-front same_stored same_stored-true same_stored-itself (cell_for p x) (cell_for r y) s.cells st)
  stays capacity s st (Evicted signal start) n = evict s signal start st n.2
  stays capacity s st (Dropped q r) n = inr st
  stays capacity s st (Spent q r held) n = inr st

  -- through the entries of a batch, and on
  walk : (b : Batch) (shard : ℕ) (rest : List Entry) (es : List Entry) (s : State) → Known s → IsLegal b shard s es → (Known (replay s es) → QuietUntilEvicted p x rest) → QuietUntilEvicted p x (es ++ rest)
  walk b shard rest [] s k l f = f k
  walk b shard rest (e ∷ es) s k l f = elim (stays b.capacity s k.stands e l.0) [
    | inl h ↦ inl h
    | inr st ↦
        let h = quiet p (cell_for p x) c b.capacity s k.unclaimed (λ _. k.stands) e l.0 in
        inr (h, walk b shard rest es (after s e) (record { stands = st; unclaimed = still_unclaimed p (cell_for p x) c b.capacity s k.unclaimed e h }) l.2 f)
  ]

  walk_trim : (rest : List Entry) (es : List Entry) (s : State) → Stands (cell_for p x) s.cells → IsLegalTrim s es → (Stands (cell_for p x) (replay s es).cells → QuietUntilEvicted p x rest) → QuietUntilEvicted p x (es ++ rest)
  walk_trim rest [] s k l f = f k
  walk_trim rest (Evicted signal start ∷ es) s k l f = elim (evict s signal start k l.0) [
    | inl h ↦ inl h
    | inr st ↦ inr (tt, walk_trim rest es (after s (Evicted signal start)) st l.1 f)
  ]
  walk_trim rest (Told q r y ∷ es) s k l f = absurd l.0
  walk_trim rest (Claimed q r ∷ es) s k l f = absurd l.0
  walk_trim rest (Filled q r y ∷ es) s k l f = absurd l.0
  walk_trim rest (Dropped q r ∷ es) s k l f = absurd l.0
  walk_trim rest (Spent q r held ∷ es) s k l f = absurd l.0

  walk_section : (shard : ℕ) (rest : List Entry) (purpose : Purpose) (es : List Entry) (cells : List SignalCell) → Stands (cell_for p x) cells → IsLegalIn purpose shard cells es
      → (Stands (cell_for p x) (replay (fresh cells) (own_entries purpose es)).cells → QuietUntilEvicted p x rest) → QuietUntilEvicted p x (own_entries purpose es ++ rest)
  walk_section shard rest (Asks b) es cells st l f = walk b shard rest es (fresh cells) (record { stands = st; unclaimed = refl }) l.legal (λ k. f k.stands)
  walk_section shard rest Trims es cells st l f = walk_trim rest es (fresh cells) st l f
  walk_section shard rest (Forces b) es cells st l f = f st

  walk_sections : (shard : ℕ) (sections : List SectionEntries) (cells : List SignalCell) → Stands (cell_for p x) cells → AreLegal shard cells sections → QuietUntilEvicted p x (joined_entries shard sections)
  walk_sections shard [] cells st l = tt
  walk_sections shard (section ∷ rest) cells st l =
      walk_section shard (joined_entries shard rest) section.purpose (list_of section shard) cells st l.0 (λ k. walk_sections shard rest (cells_left shard cells section) k l.1)

-- up to a second evaluation the eviction is found
module _ (p : Point) (x : Cell) where
  found : (r : ℕ) (y : Cell) (between behind : List Entry) → QuietUntilEvicted p x (between ++ Filled r p y ∷ behind) → Stands (Evicted p.signal x.span.start) between
  found r y [] behind (inl e) = absurd (fill≢evict r p y p.signal x.span.start e)
  found r y [] behind (inr k) = absurd (k.0 refl)
  found r y (e ∷ between) behind (inl h) = subst (λ z. Stands z (e ∷ between)) h Here
  found r y (e ∷ between) behind (inr k) = There (found r y between behind k.1)

-- what each evaluation is followed by
abbrev AfterFill : Circuit → Entry → List Entry → Type 0
AfterFill c (Filled q p x) es = (x ≡ cell_at c p) × QuietUntilEvicted p x es
AfterFill c e es = Unit {0}

abbrev Finals : Circuit → List Entry → Type 0
Finals c [] = Unit {0}
Finals c (e ∷ es) = AfterFill c e es × Finals c es

module _ (c : Circuit) (ok : IsCircuit c) where
  -- what goes on after the entries of a section
  abbrev GoesOn : State → List Entry → Type 0
  GoesOn s rest = (p : Point) (x : Cell) → covers p (cell_for p x) ≡ true → Stands (cell_for p x) s.cells → QuietUntilEvicted p x rest

  finals : (b : Batch) → b.circuit ≡ c → (shard : ℕ) (rest : List Entry) (es : List Entry) (s : State) → IsLegal b shard s es → GoesOn (replay s es) rest → Finals c rest → Finals c (es ++ rest)
  finals b same shard rest [] s l f g = g
  finals b same shard rest (Filled q p x ∷ es) s l f g =
      let e : x ≡ cell_at c p = l.1.2 ∙ ap (λ d. cell_at d p) same in
      let cov : covers p (cell_for p x) ≡ true = subst (λ y. covers p (cell_for p y) ≡ true) (sym e) (own-covers c ok p (subst (λ d. p.time ≤ d.horizon) same l.1.0.1)) in (
        (e, walk p x cov b shard rest es (after s (Filled q p x)) (record { stands = Here; unclaimed = holder-without s.claims p }) l.2 (λ k. f p x cov k.stands)),
        finals b same shard rest es (after s (Filled q p x)) l.2 f g,
      )
  finals b same shard rest (Told q p x ∷ es) s l f g = (tt, finals b same shard rest es (after s (Told q p x)) l.2 f g)
  finals b same shard rest (Claimed q p ∷ es) s l f g = (tt, finals b same shard rest es (after s (Claimed q p)) l.2 f g)
  finals b same shard rest (Evicted signal start ∷ es) s l f g = (tt, finals b same shard rest es (after s (Evicted signal start)) l.2 f g)
  finals b same shard rest (Dropped q p ∷ es) s l f g = (tt, finals b same shard rest es (after s (Dropped q p)) l.2 f g)
  finals b same shard rest (Spent q p held ∷ es) s l f g = (tt, finals b same shard rest es (after s (Spent q p held)) l.2 f g)

  finals_trim : (rest : List Entry) (es : List Entry) (s : State) → IsLegalTrim s es → Finals c rest → Finals c (es ++ rest)
  finals_trim rest [] s l g = g
  finals_trim rest (Evicted signal start ∷ es) s l g = (tt, finals_trim rest es (after s (Evicted signal start)) l.1 g)
  finals_trim rest (Told q r y ∷ es) s l g = absurd l.0
  finals_trim rest (Claimed q r ∷ es) s l g = absurd l.0
  finals_trim rest (Filled q r y ∷ es) s l g = absurd l.0
  finals_trim rest (Dropped q r ∷ es) s l g = absurd l.0
  finals_trim rest (Spent q r held ∷ es) s l g = absurd l.0

  finals_section : (shard : ℕ) (rest : List Entry) (purpose : Purpose) (es : List Entry) (cells : List SignalCell) → ((b : Batch) → purpose ≡ Asks b → b.circuit ≡ c)
      → IsLegalIn purpose shard cells es → GoesOn (replay (fresh cells) (own_entries purpose es)) rest → Finals c rest → Finals c (own_entries purpose es ++ rest)
  finals_section shard rest (Asks b) es cells same l f g = finals b (same b refl) shard rest es (fresh cells) l.legal f g
  finals_section shard rest Trims es cells same l f g = finals_trim rest es (fresh cells) l g
  finals_section shard rest (Forces b) es cells same l f g = g

  finals_sections : (shard : ℕ) (sections : List SectionEntries) (cells : List SignalCell) → Each (OfCircuit c) sections → AreLegal shard cells sections → Finals c (joined_entries shard sections)
  finals_sections shard [] cells same l = tt
  finals_sections shard (section ∷ rest) cells same l =
      finals_section shard (joined_entries shard rest) section.purpose (list_of section shard) cells same.0 l.0
      (λ p x cov k. walk_sections p x cov shard rest (cells_left shard cells section) k l.1)
      (finals_sections shard rest (cells_left shard cells section) same.1 l.1)

  -- an entry of the list, with what follows it
  final_at : (q : ℕ) (p : Point) (x : Cell) (before behind : List Entry) → Finals c (before ++ Filled q p x ∷ behind) → (x ≡ cell_at c p) × QuietUntilEvicted p x behind
  final_at q p x [] behind h = h.0
  final_at q p x (e ∷ before) behind h = final_at q p x before behind h.1

  pub again_after_eviction : (shard : ℕ) (sections : List SectionEntries) → All (OfCircuit c) sections → AreLegal shard [] sections
      → (q r : ℕ) (p : Point) (x y : Cell) (before between behind : List Entry)
      → joined_entries shard sections ≡ before ++ Filled q p x ∷ between ++ Filled r p y ∷ behind
      → Contains between (Evicted p.signal y.span.start)
  again_after_eviction shard sections same l q r p x y before between behind e =
      let f : Finals c (before ++ Filled q p x ∷ between ++ Filled r p y ∷ behind) =
      subst (Finals c) e (finals_sections shard sections [] (recursion_from_All (OfCircuit c) sections same) l) in
      let one = final_at q p x before (between ++ Filled r p y ∷ behind) (subst (Finals c) (append_assoc before (Filled q p x ∷ between) (Filled r p y ∷ behind)) f) in
      let two = final_at r p y (before ++ Filled q p x ∷ between) behind f in
      let cells : x ≡ y = one.0 ∙ sym two.0 in
      contains_from _ between (subst (λ z. Stands (Evicted p.signal z.span.start) between) cells (found p x r y between behind one.1))
