-- How many points queries filled, counted entry by entry, and in parts.
use Rattle.std.proofs.Common.{◌≡◌, ℕ, ◌+◌, ◌≤◌, min, nat_eq, Bool, true, false, cond, List, [], ◌∷◌, ◌++◌, length, None, refl, sym, ap, ap₂, ◌∙◌, arith}
use Rattle.std.proofs.Math.Nat.{min-le_right}
use Rattle.valid_intervals.specs.declared.Cell.{Cell}
use Rattle.valid_intervals.specs.declared.Point.{Point}
use Rattle.valid_intervals.specs.declared.SignalCell.{SignalCell}
use Rattle.journal_meaning.specs.declared.Entry.{Entry}
use Rattle.journal_meaning.specs.declared.Entry.TheVariants.{Told, Claimed, Filled, Evicted, Dropped, Spent}
use Rattle.journal_meaning.specs.Answers.{is_fill_of, fill_count}
use Rattle.journal_meaning.specs.Counts.{evaluated_point}
use Rattle.journal_meaning.proofs.Callers.{count-none, fills-none, filled-more, each-imply}
use Rattle.journal_meaning.specs.Batches.{Batch}
use Rattle.journal_meaning.specs.Lawful.{IsLawful}
use Rattle.plan_machine.specs.Standings.{IsDrop}
use Rattle.plan_machine.specs.Settle.{AreShards, AreFreed}
use Rattle.plan_machine.proofs.Callers.{all-freed}
use Rattle.memo_shards.specs.KeptShards.{KeptShard}
use Rattle.plan_core.specs.Parts.{shards_in}
use Rattle.plan_core.specs.asked.Memos.{entries_of}
use Rattle.plan_core.proofs.Entries.{filled-append}
use Rattle.plan_core.specs.declared.asked.fill_counts.FillCounts.{FillCounts}
use Rattle.plan_core.specs.asked.FillCounts.{fills_in, fills_in_all, one_more_for, HasCounted, HaveCounted}

-- a fill is one for its query
one-filled : (q n : ℕ) (p : Point) (x : Cell) → fill_count (Filled q p x ∷ []) n ≡ one_more_for q n
one-filled q n p x = by (nat_eq q n)
  where
    by : (t : Bool) → length (cond t (Filled q p x ∷ []) []) ≡ cond t 1 0
    by true = refl
    by false = refl

-- one fill more is counted
pub counted-filled : (es : List Entry) (q : ℕ) (p : Point) (x : Cell) (old new : FillCounts) → HasCounted es old → ((n k : ℕ) → fills_in old n ≡ min k 4294967295 → fills_in new n ≡ min (k + one_more_for q n) 4294967295) → HasCounted (es ++ Filled q p x ∷ []) new
counted-filled es q p x old new h add = λ n.
    add n (fill_count es n) (h n) ∙ ap (λ k. min k 4294967295) (ap (λ k. fill_count es n + k) (sym (one-filled q n p x)) ∙ sym (filled-append es (Filled q p x ∷ []) n))

-- and an entry that evaluates no point leaves the counts
pub counted-other : (es : List Entry) (e : Entry) (counts : FillCounts) → evaluated_point e ≡ None → HasCounted es counts → HasCounted (es ++ e ∷ []) counts
counted-other es e counts none h = λ n.
    let same : fill_count es n ≡ fill_count (es ++ e ∷ []) n = (let a = filled-append es (e ∷ []) n in let b = fills-none n e none in omega (arith, a, b)) in
    h n ∙ ap (λ k. min k 4294967295) same

-- at most so many are counted
all-most : (parts : List FillCounts) (n : ℕ) → fills_in_all parts n ≤ 4294967295
all-most [] n = omega arith
all-most (part ∷ parts) n = min-le_right (fills_in part n + fills_in_all parts n) 4294967295

-- the counts of two lists of parts
all-append : (xs ys : List FillCounts) (n : ℕ) → fills_in_all (xs ++ ys) n ≡ min (fills_in_all xs n + fills_in_all ys n) 4294967295
all-append [] ys n = none (fills_in_all ys n) 4294967295 (all-most ys n)
  where
    none : (k m : ℕ) → k ≤ m → k ≡ min (0 + k) m
    none k m most = omega (arith, most)
all-append (x ∷ xs) ys n = ap (λ k. min (fills_in x n + k) 4294967295) (all-append xs ys n) ∙ three (fills_in x n) (fills_in_all xs n) (fills_in_all ys n) 4294967295
  where
    three : (a b c m : ℕ) → min (a + min (b + c) m) m ≡ min (min (a + b) m + c) m
    three a b c m = omega arith

-- one part more
pub all-more : (parts : List FillCounts) (part : FillCounts) (n : ℕ) → fills_in_all (parts ++ part ∷ []) n ≡ min (fills_in_all parts n + fills_in part n) 4294967295
all-more parts part n = all-append parts (part ∷ []) n ∙ last (fills_in_all parts n) (fills_in part n) 4294967295
  where
    last : (a b m : ℕ) → min (a + min (b + 0) m) m ≡ min (a + b) m
    last a b m = omega arith

-- no entry is counted by no part
pub none-counted : HaveCounted [] []
none-counted = λ n. refl

-- counted in one part
pub one-counted : (es : List Entry) (part : FillCounts) → HasCounted es part → HaveCounted es (part ∷ [])
one-counted es part h = λ n. ap (λ k. min (k + 0) 4294967295) (h n) ∙ once (fill_count es n) 4294967295
  where
    once : (k m : ℕ) → min (min k m + 0) m ≡ min k m
    once k m = omega arith

-- the parts of two lists of entries
pub both-counted : (es fs : List Entry) (xs ys : List FillCounts) → HaveCounted es xs → HaveCounted fs ys → HaveCounted (es ++ fs) (xs ++ ys)
both-counted es fs xs ys h k = λ n.
    all-append xs ys n ∙ ap₂ (λ a b. min (a + b) 4294967295) (h n) (k n) ∙ both (fill_count es n) (fill_count fs n) 4294967295 ∙ ap (λ a. min a 4294967295) (sym (filled-append es fs n))
  where
    both : (a b m : ℕ) → min (min a m + min b m) m ≡ min (a + b) m
    both a b m = omega arith

drop-fills : (q : ℕ) (e : Entry) → IsDrop e → is_fill_of q e ≡ false
drop-fills q (Told r p x) h = absurd h
drop-fills q (Claimed r p) h = absurd h
drop-fills q (Filled r p x) h = absurd h
drop-fills q (Evicted signal start) h = absurd h
drop-fills q (Dropped r p) h = refl
drop-fills q (Spent r p held) h = absurd h

-- the claims that are freed fill nothing
pub freed-fills : (b : Batch) → IsLawful b → (opening : ℕ → List SignalCell) (handed begun : List KeptShard) → AreShards b opening (shards_in handed) → AreFreed (shards_in handed) (shards_in begun)
    → (q : ℕ) → fill_count (entries_of begun) q ≡ fill_count (entries_of handed) q
freed-fills b lawful opening handed begun are f q =
    let r = all-freed b lawful opening (shards_in handed) (shards_in begun) are f in
    let more : fill_count (entries_of begun) q ≡ fill_count (entries_of handed) q + fill_count r.added q = filled-more (entries_of handed) r.added (entries_of begun) r.journals.together q in
    let none : fill_count r.added q ≡ 0 = count-none (is_fill_of q) r.added (each-imply IsDrop (λ e. is_fill_of q e ≡ false) (drop-fills q) r.added r.drops) in
    omega (arith, more, none)

-- so what is counted before is counted then
pub freed-counted : (b : Batch) → IsLawful b → (opening : ℕ → List SignalCell) (handed begun : List KeptShard) → AreShards b opening (shards_in handed) → AreFreed (shards_in handed) (shards_in begun)
    → (parts : List FillCounts) → HaveCounted (entries_of handed) parts → HaveCounted (entries_of begun) parts
freed-counted b lawful opening handed begun are f parts h = λ n. h n ∙ ap (λ k. min k 4294967295) (sym (freed-fills b lawful opening handed begun are f n))
