-- Each point that an entry names is needed by its query.
use Rattle.std.proofs.Common.{◌≡◌, ℕ, ◌%◌, not, List, [], ◌∷◌, Contains, Some, None, refl}
use Rattle.std.proofs.lemmas.List.Elements.{All-contains, All-from_recursion}
use Rattle.valid_intervals.specs.declared.Point.{Point}
use Rattle.journal_meaning.specs.declared.Entry.{Entry}
use Rattle.journal_meaning.specs.declared.Entry.TheVariants.{Told, Claimed, Filled, Evicted, Dropped, Spent}
use Rattle.valid_intervals.specs.declared.Cell.{Cell}
use Rattle.journal_meaning.specs.States.{State, Claim, holder}
use Rattle.journal_meaning.specs.Table.{Needs, after}
use Rattle.valid_intervals.specs.Cells.{same_point}
use Rattle.journal_meaning.specs.Batches.{Batch, IsNeededBy, OfQuery}
use Rattle.journal_meaning.specs.Allowed.{IsAt, IsAllowed}
use Rattle.journal_meaning.specs.Replay.{IsLegal, replay}
use Rattle.journal_meaning.proofs.Lists.{Each, each-filter}
use Rattle.journal_meaning.proofs.Claims.{holder-each}
use Rattle.valid_intervals.proofs.Callers.{same_point-itself}

module _ (b : Batch) where
  -- the query with this number needs the point
  abbrev pub Needed : ℕ → Point → Type 0
  Needed q p = OfQuery b q (λ y. IsNeededBy b y p)

  module _ (shard : ℕ) where
    -- the point is also one of the shard
    abbrev pub Ours : ℕ → Point → Type 0
    Ours q p = IsAt b shard p × Needed q p

    abbrev pub Named : Entry → Type 0
    Named (Told q p x) = Ours q p
    Named (Claimed q p) = Ours q p
    Named (Filled q p x) = Ours q p
    Named (Evicted signal start) = Unit {0}
    Named (Dropped q p) = Ours q p
    Named (Spent q p held) = Ours q p

    abbrev pub ClaimsOurs : State → Type 0
    ClaimsOurs s = Each (λ c. Ours c.query c.point) s.claims

    pub names : (s : State) (e : Entry) → ClaimsOurs s → Needs b.capacity s e → IsAllowed b shard e → Named e
    names s (Told q p x) h n a = (a.0, a.1)
    names s (Claimed q p) h n a = (a.0, a.1)
    names s (Filled q p x) h n a = holder-each Ours s.claims p q h n.0
    names s (Evicted signal start) h n a = tt
    names s (Dropped q p) h n a = holder-each Ours s.claims p q h n.1
    names s (Spent q p held) h n a = (a.0, a.1)

    pub still_ours : (s : State) (e : Entry) → ClaimsOurs s → IsAllowed b shard e → ClaimsOurs (after s e)
    still_ours s (Told q p x) h a = h
    still_ours s (Claimed q p) h a = ((a.0, a.1), h)
    still_ours s (Filled q p x) h a = each-filter (λ c. Ours c.query c.point) (λ c. not (same_point p c.point)) s.claims h
    still_ours s (Evicted signal start) h a = h
    still_ours s (Dropped q p) h a = each-filter (λ c. Ours c.query c.point) (λ c. not (same_point p c.point)) s.claims h
    still_ours s (Spent q p held) h a = h

    pub all_named : (es : List Entry) (s : State) → ClaimsOurs s → IsLegal b shard s es → Each Named es
    all_named [] s h l = tt
    all_named (e ∷ es) s h l = (names s e h l.0 l.1, all_named es (after s e) (still_ours s e h l.1) l.2)

    -- so what is claimed at its end is needed, and of the shard
    pub claims_ours : (es : List Entry) (s : State) → ClaimsOurs s → IsLegal b shard s es → ClaimsOurs (replay s es)
    claims_ours [] s h l = h
    claims_ours (e ∷ es) s h l = claims_ours es (after s e) (still_ours s e h l.1) l.2

    pub claim_ours : (es : List Entry) (s : State) → ClaimsOurs s → IsLegal b shard s es → (p : Point) (q : ℕ) → holder (replay s es).claims p ≡ Some q → Ours q p
    claim_ours es s h l p q k = holder-each Ours (replay s es).claims p q (claims_ours es s h l) k

    -- where no point of the shard has a holder, there is no claim
    pub none_ours : (claims : List Claim) → Each (λ c. Ours c.query c.point) claims → ((p : Point) → p.signal % b.shards ≡ shard → holder claims p ≡ None) → claims ≡ []
    none_ours [] h none = refl
    none_ours (c ∷ claims) h none =
        let k = none c.point h.0.0.0 in
        let m : holder (c ∷ claims) c.point ≡ Some c.query = rw (same_point-itself c.point) refl in
        absurd (cc (k, m))

    -- a filled point is needed by a query of the batch with the entry's number
    pub filled_needed : (es : List Entry) (s : State) → ClaimsOurs s → IsLegal b shard s es → (q : ℕ) (p : Point) (x : Cell) → Contains es (Filled q p x) → Needed q p
    filled_needed es s h l q p x known = (All-contains Named es (Filled q p x) (All-from_recursion Named es (all_named es s h l)) known).1
