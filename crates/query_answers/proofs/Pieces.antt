-- The pieces of a window, one after another, and the strands that start with them.
use Rattle.std.proofs.Common.{◌≡◌, ℕ, zero, suc, ◌+◌, ◌*◌, ◌/◌, ◌%◌, ◌<◌, ◌≤◌, ◌++◌, List, [], ◌∷◌, length, map, flat_map, take, get_or, refl, sym, ap, subst, ◌∙◌, arith, append_assoc, append-nil}
use Rattle.std.proofs.lemmas.Bool.{lt-ltb, le-ltb}
use Rattle.std.proofs.lemmas.List.{take_more, map-append}
use Rattle.std.specs.List.{AllByRecursion}
use Rattle.query_answers.specs.windows.inner.Starts.{piece_start}
use Rattle.journal_meaning.specs.declared.batch.Query.{Query}
use Rattle.journal_meaning.specs.Batches.{Batch}
use Rattle.plan_machine.specs.Strands as strands
use Rattle.journal_meaning.specs.Pieces.{Start, IsStart, span_at, next_cut, cuts, spans_of, starts_of, pieces}

-- no cut is left inside the window
pub cuts-last : (n t stop : ℕ) → stop ≤ next_cut t → cuts n t stop ≡ span_at t stop ∷ []
cuts-last zero t stop h = refl
cuts-last (suc n) t stop h = rw (le-ltb _ _ h) refl

-- the first cut inside the window, and those after it
pub record IsCut (n t stop : ℕ) : Type 0 where
  pub less : ℕ
  pub first : cuts n t stop ≡ span_at t (next_cut t) ∷ cuts less (next_cut t) stop
  pub enough : stop ≤ next_cut (next_cut t) + less * 65536

-- there is a cut below the end
pub cuts-more : (n t stop : ℕ) → next_cut t < stop → stop ≤ next_cut t + n * 65536 → IsCut n t stop
cuts-more zero t stop h e = absurd (omega arith)
cuts-more (suc n) t stop h e = record { less = n; first = rw (lt-ltb (next_cut t) stop h) refl; enough = omega arith }

-- the lists of the first elements, with one more
pub flat-more : {X Y : Type 0} (f : X → List Y) (xs : List X) (n : ℕ) (d : X) → n < length xs → flat_map f (take (n + 1) xs) ≡ flat_map f (take n xs) ++ f (get_or xs n d)
flat-more f xs n d low = ap (flat_map f) (take_more xs n d low) ∙ flat-append (take n xs) (get_or xs n d)
  where
    flat-append : (ys : List _) (y : _) → flat_map f (ys ++ y ∷ []) ≡ flat_map f ys ++ f y
    flat-append [] y = append-nil (f y)
    flat-append (z ∷ ys) y = ap (λ l. f z ++ l) (flat-append ys y) ∙ sym (append_assoc (f z) (flat_map f ys) (f y))

-- the pieces, by their number
pub pieces-by : (q : Query) (n : ℕ) → n ≡ length (spans_of q) → starts_of q (q.budget / n + q.budget % n) (q.budget / n) (spans_of q) ≡ pieces q
pieces-by q n e = ap (λ m. starts_of q (q.budget / m + q.budget % m) (q.budget / m) (spans_of q)) e

module _ (b : Batch) (q : Query) (budget each n t : ℕ) where
  abbrev left : ℕ → List Start
  left m = starts_of q budget each (cuts m t q.to)

  -- the last piece is one that a strand starts with
  pub last-start : q.to ≤ next_cut t → AllByRecursion (IsStart b) (left n) → IsStart b (piece_start q t q.to budget)
  last-start h a = (subst (λ ws. AllByRecursion (IsStart b) (starts_of q budget each ws)) (cuts-last n t q.to h) a).0

  -- with its strand, all strands are made
  pub last-left : (f : Start → strands.Strand) (xs ys : List strands.Strand) → q.to ≤ next_cut t → xs ++ map f (left n) ≡ ys → xs ++ f (piece_start q t q.to budget) ∷ [] ≡ ys
  last-left f xs ys h e = ap (λ ws. xs ++ map f (starts_of q budget each ws)) (sym (cuts-last n t q.to h)) ∙ e

  module _ (h : next_cut t < q.to) (enough : q.to ≤ next_cut t + n * 65536) (next : ℕ) (is : next ≡ next_cut t) where
    cut : IsCut n t q.to
    cut = cuts-more n t q.to h enough

    here : left n ≡ piece_start q t next budget ∷ starts_of q each each (cuts cut.less next q.to)
    here = subst (λ u. left n ≡ piece_start q t u budget ∷ starts_of q each each (cuts cut.less u q.to)) (sym is) (ap (starts_of q budget each) cut.first)

    -- and so is the next one
    pub next-start : AllByRecursion (IsStart b) (left n) → IsStart b (piece_start q t next budget)
    next-start a = (subst (AllByRecursion (IsStart b)) here a).0

    -- after its strand, those of the other pieces are left
    pub next-left : (f : Start → strands.Strand) (xs zs ys : List strands.Strand) → AllByRecursion (IsStart b) (left n) → xs ++ map f (left n) ≡ ys → zs ≡ xs ++ f (piece_start q t next budget) ∷ []
        → (m : ℕ) × (q.to ≤ next_cut next + m * 65536) × AllByRecursion (IsStart b) (starts_of q each each (cuts m next q.to)) × (zs ++ map f (starts_of q each each (cuts m next q.to)) ≡ ys)
    next-left f xs zs ys a e z =
        let more = map f (starts_of q each each (cuts cut.less next q.to)) in (
          cut.less,
          subst (λ u. q.to ≤ next_cut u + cut.less * 65536) (sym is) cut.enough,
          (subst (AllByRecursion (IsStart b)) here a).1,
          ap (λ l. l ++ more) z ∙ append_assoc xs (f (piece_start q t next budget) ∷ []) more ∙ ap (λ l. xs ++ map f l) (sym here) ∙ e,
        )

-- one piece is counted, and the others are left
pub count-next : (n t to next count all : ℕ) → next_cut t < to → to ≤ next_cut t + n * 65536 → next ≡ next_cut t → count + length (cuts n t to) ≡ all → (m : ℕ) × (to ≤ next_cut next + m * 65536) × ((count + 1) + length (cuts m next to) ≡ all)
count-next n t to next count all h enough is e =
    let k = cuts-more n t to h enough in
    let l : length (cuts n t to) ≡ 1 + length (cuts k.less (next_cut t) to) = ap length k.first ∙ omega arith in
    subst (λ u. (m : ℕ) × (to ≤ next_cut u + m * 65536) × ((count + 1) + length (cuts m u to) ≡ all)) (sym is) (k.less, k.enough, omega arith)

-- the strands of one query more
pub strands-next : (f : Start → strands.Strand) (qs : List Query) (n : ℕ) (d : Query) (xs zs : List strands.Strand) → n < length qs → xs ≡ map f (flat_map pieces (take n qs)) → zs ≡ xs ++ map f (pieces (get_or qs n d)) → zs ≡ map f (flat_map pieces (take (n + 1) qs))
strands-next f qs n d xs zs low e z =
    let p : List Start = pieces (get_or qs n d) in
    z ∙ ap (λ (l : List strands.Strand). l ++ map f p) e ∙ sym (ap (map f) (flat-more pieces qs n d low) ∙ map-append f (flat_map pieces (take n qs)) p)
