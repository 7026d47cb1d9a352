-- In a batch without evictions, or whose needed cells fit, what was evaluated stays.
use Rattle.std.proofs.Common.{◌≡◌, ◌≢◌, ℕ, suc, ◌≤◌, true, false, not, List, [], ◌∷◌, ◌++◌, length, filter, AllPairs, None, refl, sym, ap, subst, ◌∙◌, arith, true≢false, inl, inr, ◌⊎◌, append_assoc, append-nil}
use Rattle.std.proofs.lemmas.List.Elements.{filter-append, All-from_recursion}
use Rattle.std.proofs.lemmas.List.Kept.{AllPairs-cons}
use Rattle.std.proofs.lemmas.Bool.{cases_Bool}
use Rattle.valid_intervals.specs.declared.Point.{Point}
use Rattle.circuit_meaning.specs.Circuit.{IsCircuit}
use Rattle.valid_intervals.specs.declared.Cell.{Cell}
use Rattle.journal_meaning.specs.declared.Entry.{Entry}
use Rattle.journal_meaning.specs.declared.Entry.TheVariants.{Told, Claimed, Filled, Evicted, Dropped, Spent}
use Rattle.journal_meaning.specs.States.{State, fresh, holder, IsLeastRecent}
use Rattle.valid_intervals.specs.Cells.{is_stored, same_stored, covers, cell_for, to_front, all_but_last}
use Rattle.journal_meaning.specs.Table.{Needs, after}
use Rattle.valid_intervals.specs.declared.SignalCell.{SignalCell}
use Rattle.journal_meaning.specs.Batches.{Batch}
use Rattle.journal_meaning.specs.Allowed.{IsAllowed}
use Rattle.circuit_meaning.specs.Cells.{cell_at}
use Rattle.journal_meaning.specs.Replay.{IsLegal}
use Rattle.journal_meaning.specs.Laws.{IsWanted, HasRoom}
use Rattle.valid_intervals.proofs.Callers.{same_stored-true, same_stored-itself}
use Rattle.journal_meaning.proofs.Lists.{Each, Differ, Stands, Here, There, each-filter, stands-any, stands-left, stands-front, differ-front, front-snoc, snoc_cases, stands-last}
use Rattle.journal_meaning.proofs.Claims.{Quiet, quiet, still_unclaimed, holder-without, own-covers}
use Rattle.journal_meaning.proofs.Named.{Ours, ClaimsOurs, names, still_ours}

-- the cells that entries told or filled, the most recent first
abbrev touched : List SignalCell → Entry → List SignalCell
touched f (Told q p x) = to_front (cell_for p x) f
touched f (Filled q p x) = to_front (cell_for p x) f
touched f e = f

abbrev pub NotEvicted : Entry → Type 0
NotEvicted (Evicted signal start) = ⊥
NotEvicted e = Unit {0}

front-append : (x : SignalCell) (xs ys : List SignalCell) → to_front x (xs ++ ys) ≡ to_front x xs ++ filter (λ y. not (same_stored x y)) ys
front-append x xs ys = ap (λ l. x ∷ l) (filter-append (λ y. not (same_stored x y)) xs ys)

each_by : {X : Type 0} (P : X → Type 0) (xs : List X) → ((x : X) → Stands x xs → P x) → Each P xs
each_by P [] f = tt
each_by P (x ∷ xs) f = (f x Here, each_by P xs (λ y s. f y (There s)))

abbrev pub FillSettled : Entry → List Entry → Type 0
FillSettled (Filled q p x) es = Each (Quiet p) es
FillSettled e es = Unit {0}

abbrev pub Settled : List Entry → Type 0
Settled [] = Unit {0}
Settled (e ∷ es) = FillSettled e es × Settled es

module _ (b : Batch) (ok : IsCircuit b.circuit) (shard : ℕ) where
  -- the cell of a point of this shard that the batch needs
  record Wanted (x : SignalCell) : Type 0 where
    point : Point
    wanted : IsWanted b shard point
    is : x ≡ cell_for point (cell_at b.circuit point)

  -- how the touched cells stand in the store
  data Shape (s : State) (f : List SignalCell) : Type 0 where
    Front : (old : List SignalCell) → s.cells ≡ f ++ old → Shape s f
    Tight : HasRoom b shard → s.made ≡ true → (y : SignalCell) → f ≡ s.cells ++ y ∷ [] → length f ≡ b.capacity → Shape s f

  record Holds (s : State) (f : List SignalCell) : Type 0 where
    shape : Shape s f
    differ : Differ f
    wanted : Each Wanted f
    claims : ClaimsOurs b shard s

  -- different wanted cells fit
  abbrev points_of : (f : List SignalCell) → Each Wanted f → List Point
  points_of [] h = []
  points_of (x ∷ f) h = h.0.point ∷ points_of f h.1

  length-points : (f : List SignalCell) (w : Each Wanted f) → length (points_of f w) ≡ length f
  length-points [] w = refl
  length-points (x ∷ f) w = ap suc (length-points f w.1)

  wanted-points : (f : List SignalCell) (w : Each Wanted f) → Each (IsWanted b shard) (points_of f w)
  wanted-points [] w = tt
  wanted-points (x ∷ f) w = (w.0.wanted, wanted-points f w.1)

  abbrev Apart : Point → Point → Type 0
  Apart p r = cell_for p (cell_at b.circuit p) ≢ cell_for r (cell_at b.circuit r)

  apart : (x : SignalCell) (p : Point) → x ≡ cell_for p (cell_at b.circuit p) → (f : List SignalCell) (w : Each Wanted f) → Each (λ y. x ≢ y) f → Each (Apart p) (points_of f w)
  apart x p e [] w d = tt
  apart x p e (y ∷ f) w d = ((λ k. d.0 (e ∙ k ∙ sym w.0.is)), apart x p e f w.1 d.1)

  all_apart : (f : List SignalCell) (w : Each Wanted f) → Differ f → AllPairs Apart (points_of f w)
  all_apart [] w d = λ i j d l m. absurd (omega arith)
  all_apart (x ∷ f) w d = AllPairs-cons Apart w.0.point (points_of f w.1) (All-from_recursion (Apart w.0.point) (points_of f w.1) (apart x w.0.point w.0.is f w.1 d.0)) (all_apart f w.1 d.1)

  fits : HasRoom b shard → (f : List SignalCell) → Each Wanted f → Differ f → length f ≤ b.capacity
  fits room f w d =
      let h = room (points_of f w) (All-from_recursion (IsWanted b shard) (points_of f w) (wanted-points f w)) (all_apart f w d) in
      let l = length-points f w in
      omega (arith, h, l)

  wanted-front : (x : SignalCell) (f : List SignalCell) → Wanted x → Each Wanted f → Each Wanted (to_front x f)
  wanted-front x f w h = (w, each-filter Wanted (λ y. not (same_stored x y)) f h)

  ours-wanted : (q : ℕ) (p : Point) (x : Cell) → Ours b shard q p → x ≡ cell_at b.circuit p → Wanted (cell_for p x)
  ours-wanted q p x o e = record { point = p; wanted = (o.0, (o.1.0, o.1.1, o.1.3)); is = ap (cell_for p) e }

  -- a cell comes to the front of the store
  shape-front : (x : SignalCell) (s t : State) (f : List SignalCell) → t.cells ≡ to_front x s.cells → Shape s f → (s.made ≡ true → is_stored x s.cells ≡ false) → Wanted x → Differ f → Each Wanted f → Shape t (to_front x f)
  shape-front x s t f e (Front old k) u w d h = Front (filter (λ y. not (same_stored x y)) old) (e ∙ ap (to_front x) k ∙ front-append x f old)
  shape-front x s t f e (Tight room made y k n) u w d h = elim (cases_Bool (same_stored x y)) [
    | inl same ↦
        let none : filter (λ z. not (same_stored x z)) (y ∷ []) ≡ [] = rw same refl in
        let one : to_front x f ≡ to_front x s.cells =
        ap (to_front x) k ∙ front-append x s.cells (y ∷ []) ∙ ap (λ l. to_front x s.cells ++ l) none ∙ append-nil (to_front x s.cells) in
        Front [] (e ∙ sym one ∙ sym (append-nil (to_front x f)))
    | inr other ↦
        let new : Each (λ z. x ≢ z) f = each_by (λ z. x ≢ z) f (λ z st eq. elim (stands-last z y s.cells (subst (Stands z) k st)) [
          | inl here ↦ true≢false (sym (stands-any (same_stored x) z s.cells (subst (λ v. same_stored x v ≡ true) eq (same_stored-itself x)) here) ∙ u made)
          | inr last ↦ true≢false (sym (subst (λ v. same_stored x v ≡ true) (eq ∙ last) (same_stored-itself x)) ∙ other)
        ]) in
        let l = fits room (x ∷ f) (w, h) (new, d) in
        absurd (omega (arith, l, n))
  ]

  unmoved : (s t : State) (f : List SignalCell) → t.cells ≡ s.cells → s.made ≡ false → Shape s f → Shape t f
  unmoved s t f e m (Front old k) = Front old (e ∙ k)
  unmoved s t f e m (Tight room made y k n) = absurd (true≢false (sym made ∙ m))

  shape-evict : (s t : State) (f : List SignalCell) (signal start : ℕ) → HasRoom b shard → t.cells ≡ all_but_last s.cells → t.made ≡ true → s.made ≡ false → length s.cells ≡ b.capacity → IsLeastRecent s.cells signal start → Shape s f → Shape t f
  shape-evict s t f signal start room e made m n l (Tight room' made' y k n') = absurd (true≢false (sym made' ∙ m))
  shape-evict s t f signal start room e made m n l (Front old k) = elim (snoc_cases old) [
    | inl none ↦
        let all : s.cells ≡ f = k ∙ ap (λ o. f ++ o) none ∙ append-nil f in
        Tight room made l.0 (sym all ∙ l.1 ∙ ap (λ c. c ++ l.0 ∷ []) (sym e)) (ap length (sym all) ∙ n)
    | inr o ↦
        let cells : s.cells ≡ (f ++ o.0) ++ o.1 ∷ [] = k ∙ ap (λ x. f ++ x) o.2 ∙ sym (append_assoc f o.0 (o.1 ∷ [])) in
        Front o.0 (e ∙ ap all_but_last cells ∙ front-snoc (f ++ o.0) o.1)
  ]

  abbrev pub Stays : Entry → Type 0
  Stays e = HasRoom b shard ⊎ NotEvicted e

  keeps : (s : State) (f : List SignalCell) (e : Entry) → Stays e → Holds s f → Needs b.capacity s e → IsAllowed b shard e → Holds (after s e) (touched f e)
  keeps s f (Told q p x) r h n a =
      let w = ours-wanted q p x (a.0, a.1) a.2 in
      record {
        shape = shape-front (cell_for p x) s (after s (Told q p x)) f refl h.shape (λ m. absurd (true≢false (sym m ∙ n.0))) w h.differ h.wanted;
        differ = differ-front same_stored same_stored-true same_stored-itself (cell_for p x) f h.differ;
        wanted = wanted-front (cell_for p x) f w h.wanted;
        claims = still_ours b shard s (Told q p x) h.claims a;
      }
  keeps s f (Filled q p x) r h n a =
      let w = ours-wanted q p x (names b shard s (Filled q p x) h.claims n a) a.2 in
      record {
        shape = shape-front (cell_for p x) s (after s (Filled q p x)) f refl h.shape n.1 w h.differ h.wanted;
        differ = differ-front same_stored same_stored-true same_stored-itself (cell_for p x) f h.differ;
        wanted = wanted-front (cell_for p x) f w h.wanted;
        claims = still_ours b shard s (Filled q p x) h.claims a;
      }
  keeps s f (Claimed q p) r h n a = record { shape = unmoved s (after s (Claimed q p)) f refl n.0 h.shape; differ = h.differ; wanted = h.wanted; claims = still_ours b shard s (Claimed q p) h.claims a }
  keeps s f (Dropped q p) r h n a = record { shape = unmoved s (after s (Dropped q p)) f refl n.0 h.shape; differ = h.differ; wanted = h.wanted; claims = still_ours b shard s (Dropped q p) h.claims a }
  keeps s f (Spent q p held) r h n a = h
  keeps s f (Evicted signal start) r h n a = elim r [
    | inr none ↦ absurd none
    | inl room ↦ record { shape = shape-evict s (after s (Evicted signal start)) f signal start room refl refl n.0 n.1 n.2 h.shape; differ = h.differ; wanted = h.wanted; claims = h.claims }
  ]

  -- while the cell of a point is among the touched ones, and the point is not claimed
  module _ (p : Point) (x : SignalCell) (c : covers p x ≡ true) where
    in-store : (s : State) (f : List SignalCell) → Shape s f → Stands x f → s.made ≡ false → Stands x s.cells
    in-store s f (Front old k) st m = subst (Stands x) (sym k) (stands-left x f old st)
    in-store s f (Tight room made y k n) st m = absurd (true≢false (sym made ∙ m))

    still_touched : (f : List SignalCell) (e : Entry) → Stands x f → Stands x (touched f e)
    still_touched f (Told q r y) st = stands-front same_stored same_stored-true same_stored-itself x (cell_for r y) f st
    still_touched f (Filled q r y) st = stands-front same_stored same_stored-true same_stored-itself x (cell_for r y) f st
    still_touched f (Claimed q r) st = st
    still_touched f (Evicted signal start) st = st
    still_touched f (Dropped q r) st = st
    still_touched f (Spent q r held) st = st

    hush : (es : List Entry) (s : State) (f : List SignalCell) → Each Stays es → Holds s f → Stands x f → holder s.claims p ≡ None → IsLegal b shard s es → Each (Quiet p) es
    hush [] s f r h st u l = tt
    hush (e ∷ es) s f r h st u l =
        let k = quiet p x c b.capacity s u (in-store s f h.shape st) e l.0 in
        (k, hush es (after s e) (touched f e) r.1 (keeps s f e r.0 h l.0 l.1) (still_touched f e st) (still_unclaimed p x c b.capacity s u e k) l.2)

  -- after an evaluation of a point nothing but being told happens to it
  settled : (es : List Entry) (s : State) (f : List SignalCell) → Each Stays es → Holds s f → IsLegal b shard s es → Settled es
  settled [] s f r h l = tt
  settled (Filled q p x ∷ es) s f r h l =
      let cov : covers p (cell_for p x) ≡ true = subst (λ y. covers p (cell_for p y) ≡ true) (sym l.1.2) (own-covers b.circuit ok p l.1.0.1) in
      let k = keeps s f (Filled q p x) r.0 h l.0 l.1 in (
        hush p (cell_for p x) cov es (after s (Filled q p x)) (touched f (Filled q p x)) r.1 k Here (holder-without s.claims p) l.2,
        settled es (after s (Filled q p x)) (touched f (Filled q p x)) r.1 k l.2,
      )
  settled (Told q p x ∷ es) s f r h l = (tt, settled es (after s (Told q p x)) (touched f (Told q p x)) r.1 (keeps s f (Told q p x) r.0 h l.0 l.1) l.2)
  settled (Claimed q p ∷ es) s f r h l = (tt, settled es (after s (Claimed q p)) f r.1 (keeps s f (Claimed q p) r.0 h l.0 l.1) l.2)
  settled (Evicted signal start ∷ es) s f r h l = (tt, settled es (after s (Evicted signal start)) f r.1 (keeps s f (Evicted signal start) r.0 h l.0 l.1) l.2)
  settled (Dropped q p ∷ es) s f r h l = (tt, settled es (after s (Dropped q p)) f r.1 (keeps s f (Dropped q p) r.0 h l.0 l.1) l.2)
  settled (Spent q p held ∷ es) s f r h l = (tt, settled es (after s (Spent q p held)) f r.1 (keeps s f (Spent q p held) r.0 h l.0 l.1) l.2)

  -- in a legal batch
  pub batch-settled : (cells : List SignalCell) (es : List Entry) → Each Stays es → IsLegal b shard (fresh cells) es → Settled es
  batch-settled cells es r l = settled es (fresh cells) [] r (record { shape = Front cells refl; differ = tt; wanted = tt; claims = tt }) l
