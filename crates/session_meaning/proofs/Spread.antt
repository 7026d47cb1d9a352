-- The evaluations of a session are those of its shards, each of points of its own.
use Rattle.std.proofs.Common.{◌≡◌, ℕ, zero, suc, ◌+◌, ◌%◌, Bool, List, [], ◌∷◌, ◌++◌, length, get_or, refl, sym, ap, subst, ◌∙◌, arith}
use Rattle.std.specs.Prelude.{⊤, sum_by}
use Rattle.std.specs.List.{AllByRecursion, range_with_len}
use Rattle.std.proofs.lemmas.List.Elements.{All-from_recursion, All-contains}
use Rattle.std.proofs.lemmas.List.Sums.{sum_by-cons}
use Rattle.valid_intervals.specs.declared.SignalCell.{SignalCell}
use Rattle.journal_meaning.specs.Batches.{Batch}
use Rattle.journal_meaning.specs.declared.Entry.{Entry}
use Rattle.journal_meaning.specs.declared.Entry.TheVariants.{Told, Claimed, Filled, Evicted, Dropped, Spent}
use Rattle.journal_meaning.specs.States.{State, fresh}
use Rattle.journal_meaning.specs.Table.{after}
use Rattle.journal_meaning.specs.Replay.{IsLegal, IsLegalTrim}
use Rattle.journal_meaning.specs.Sections.{Purpose, Asks, Trims, Forces, SectionEntries, IsLegalIn, AreLegal, own_entries, list_of, cells_left, joined_entries}
use Rattle.journal_meaning.specs.Counts.{count, evaluations}
use Rattle.journal_meaning.proofs.Callers.{count-append}
use Rattle.session_meaning.specs.Session.{is_fill, entries_that}
use Rattle.session_meaning.specs.Again.{AreOfShard}

-- the lists of a section are those of so many shards
abbrev pub IsSpread : ℕ → Purpose → List (List Entry) → Type 0
IsSpread shards (Asks batch) lists = (length lists ≡ shards) × (batch.shards ≡ shards)
IsSpread shards Trims lists = length lists ≡ shards
IsSpread shards (Forces batch) lists = ⊤

abbrev pub AreSpread : ℕ → List SectionEntries → Type 0
AreSpread shards sections = AllByRecursion (λ section. IsSpread shards section.purpose section.lists) sections

-- ---- sums

sum-none : {X : Type 0} (xs : List X) → sum_by (λ (x : X). 0) xs ≡ 0
sum-none [] = refl
sum-none {X = X} (x ∷ xs) = omega (arith, sum_by-cons (λ (x : X). 0) x xs, sum-none xs)

sum-same : (f g : ℕ → ℕ) → ((k : ℕ) → f k ≡ g k) → (xs : List ℕ) → sum_by f xs ≡ sum_by g xs
sum-same f g same [] = refl
sum-same f g same (x ∷ xs) = omega (arith, sum_by-cons f x xs, sum_by-cons g x xs, same x, sum-same f g same xs)

sum-both : (f g : ℕ → ℕ) (xs : List ℕ) → sum_by (λ k. f k + g k) xs ≡ sum_by f xs + sum_by g xs
sum-both f g [] = refl
sum-both f g (x ∷ xs) = omega (arith, sum_by-cons (λ k. f k + g k) x xs, sum_by-cons f x xs, sum_by-cons g x xs, sum-both f g xs)

sum-next : (f : ℕ → ℕ) (a n : ℕ) → sum_by f (range_with_len (a + 1) n) ≡ sum_by (λ k. f (suc k)) (range_with_len a n)
sum-next f a zero = refl
sum-next f a (suc n) =
    let here : f (a + 1) ≡ f (suc a) = ap f (omega arith) in
    omega (arith, here, sum_by-cons f (a + 1) (range_with_len (a + 1 + 1) n), sum_by-cons (λ k. f (suc k)) a (range_with_len (a + 1) n), sum-next f (a + 1) n)

-- a sum over lists, by their places
sum-at : (f : List Entry → ℕ) (lists : List (List Entry)) → sum_by f lists ≡ sum_by (λ k. f (get_or lists k [])) (range_with_len 0 (length lists))
sum-at f [] = refl
sum-at f (es ∷ lists) =
    let at : ℕ → ℕ = λ k. f (get_or (es ∷ lists) k []) in
    omega (arith, sum_by-cons f es lists, sum_by-cons at 0 (range_with_len (0 + 1) (length lists)), sum-next at 0 (length lists), sum-at f lists)

-- ---- what is counted

evaluated-is : (es : List Entry) → evaluations es ≡ count is_fill es
evaluated-is [] = refl
evaluated-is (Told q p x ∷ es) = evaluated-is es
evaluated-is (Claimed q p ∷ es) = evaluated-is es
evaluated-is (Filled q p x ∷ es) = ap suc (evaluated-is es)
evaluated-is (Evicted signal start ∷ es) = evaluated-is es
evaluated-is (Dropped q p ∷ es) = evaluated-is es
evaluated-is (Spent q p held ∷ es) = evaluated-is es

module _ (test : Entry → Bool) (shards : ℕ) where
  abbrev in-section : SectionEntries → ℕ
  in-section section = sum_by (λ entries. count test (own_entries section.purpose entries)) section.lists

  by-shard : (purpose : Purpose) (lists : List (List Entry)) → IsSpread shards purpose lists
      → sum_by (λ entries. count test (own_entries purpose entries)) lists ≡ sum_by (λ k. count test (own_entries purpose (get_or lists k []))) (range_with_len 0 shards)
  by-shard (Asks batch) lists is = sum-at (count test) lists ∙ ap (λ n. sum_by (λ k. count test (get_or lists k [])) (range_with_len 0 n)) is.0
  by-shard Trims lists is = sum-at (count test) lists ∙ ap (λ n. sum_by (λ k. count test (get_or lists k [])) (range_with_len 0 n)) is
  by-shard (Forces batch) lists is = sum-none lists ∙ sym (sum-none (range_with_len 0 shards))

  by-shards : (sections : List SectionEntries) → AreSpread shards sections → entries_that test sections ≡ sum_by (λ k. count test (joined_entries k sections)) (range_with_len 0 shards)
  by-shards [] are = sym (sum-none (range_with_len 0 shards))
  by-shards (section ∷ rest) are =
      let numbers = range_with_len 0 shards in
      let here : ℕ → ℕ = λ k. count test (own_entries section.purpose (list_of section k)) in
      let later : ℕ → ℕ = λ k. count test (joined_entries k rest) in
      sum_by-cons in-section section rest
      ∙ ap (λ n. n + entries_that test rest) (by-shard section.purpose section.lists are.0)
      ∙ ap (λ n. sum_by here numbers + n) (by-shards rest are.1)
      ∙ sym (sum-both here later numbers)
      ∙ sum-same (λ k. here k + later k) (λ k. count test (joined_entries k (section ∷ rest))) (λ k. sym (count-append test (own_entries section.purpose (list_of section k)) (joined_entries k rest))) numbers

-- the fills that a session counts are the evaluations of its shards
pub fills-spread : (shards : ℕ) (sections : List SectionEntries) → AreSpread shards sections → entries_that is_fill sections ≡ sum_by (λ shard. evaluations (joined_entries shard sections)) (range_with_len 0 shards)
fills-spread shards sections are =
    by-shards is_fill shards sections are
    ∙ sum-same (λ k. count is_fill (joined_entries k sections)) (λ k. evaluations (joined_entries k sections)) (λ k. sym (evaluated-is (joined_entries k sections))) (range_with_len 0 shards)

-- ---- where it stands

module _ (shards shard : ℕ) where
  -- an evaluation is of a point of this shard
  abbrev FillsHome : Entry → Type 0
  FillsHome (Filled q p x) = p.signal % shards ≡ shard
  FillsHome e = ⊤

  each-append : (xs ys : List Entry) → AllByRecursion FillsHome xs → AllByRecursion FillsHome ys → AllByRecursion FillsHome (xs ++ ys)
  each-append [] ys h k = k
  each-append (x ∷ xs) ys h k = (h.0, each-append xs ys h.1 k)

  legal-home : (b : Batch) → b.shards ≡ shards → (s : State) (es : List Entry) → IsLegal b shard s es → AllByRecursion FillsHome es
  legal-home b same s [] l = tt
  legal-home b same s (Told q p x ∷ es) l = (tt, legal-home b same (after s (Told q p x)) es l.2)
  legal-home b same s (Claimed q p ∷ es) l = (tt, legal-home b same (after s (Claimed q p)) es l.2)
  legal-home b same s (Filled q p x ∷ es) l = (subst (λ n. p.signal % n ≡ shard) same l.1.0.0, legal-home b same (after s (Filled q p x)) es l.2)
  legal-home b same s (Evicted signal start ∷ es) l = (tt, legal-home b same (after s (Evicted signal start)) es l.2)
  legal-home b same s (Dropped q p ∷ es) l = (tt, legal-home b same (after s (Dropped q p)) es l.2)
  legal-home b same s (Spent q p held ∷ es) l = (tt, legal-home b same (after s (Spent q p held)) es l.2)

  trim-home : (s : State) (es : List Entry) → IsLegalTrim s es → AllByRecursion FillsHome es
  trim-home s [] l = tt
  trim-home s (Told q p x ∷ es) l = absurd l.0
  trim-home s (Claimed q p ∷ es) l = absurd l.0
  trim-home s (Filled q p x ∷ es) l = absurd l.0
  trim-home s (Evicted signal start ∷ es) l = (tt, trim-home (after s (Evicted signal start)) es l.1)
  trim-home s (Dropped q p ∷ es) l = absurd l.0
  trim-home s (Spent q p held ∷ es) l = absurd l.0

  own-home : (purpose : Purpose) (lists : List (List Entry)) (cells : List SignalCell) (es : List Entry) → IsSpread shards purpose lists → IsLegalIn purpose shard cells es → AllByRecursion FillsHome (own_entries purpose es)
  own-home (Asks batch) lists cells es is l = legal-home batch is.1 (fresh cells) es l.legal
  own-home Trims lists cells es is l = trim-home (fresh cells) es l
  own-home (Forces batch) lists cells es is l = tt

  joined-home : (cells : List SignalCell) (sections : List SectionEntries) → AreSpread shards sections → AreLegal shard cells sections → AllByRecursion FillsHome (joined_entries shard sections)
  joined-home cells [] are legal = tt
  joined-home cells (section ∷ rest) are legal =
      each-append (own_entries section.purpose (list_of section shard)) (joined_entries shard rest) (own-home section.purpose section.lists cells (list_of section shard) are.0 legal.0)
      (joined-home (cells_left shard cells section) rest are.1 legal.1)

  -- what a session evaluates in a shard are points of this shard
  pub fills-home : (sections : List SectionEntries) → AreSpread shards sections → AreLegal shard [] sections → AreOfShard shards shard (joined_entries shard sections)
  fills-home sections are legal q p x has =
      All-contains FillsHome (joined_entries shard sections) (Filled q p x) (All-from_recursion FillsHome (joined_entries shard sections) (joined-home [] sections are legal)) has
