-- The entries of some shards, and those that are added after them.
use Rattle.std.proofs.Common.{◌≡◌, ℕ, zero, suc, ◌+◌, ◌<◌, Bool, List, [], ◌∷◌, ◌++◌, length, get_or, take, drop, refl, sym, ap, subst, ◌∙◌, arith, inl, inr, append_assoc, append-nil}
use Rattle.std.proofs.lemmas.List.Elements.{Contains-append_left, Contains-append_right, Contains-append_cases}
use Rattle.std.proofs.Math.Seq.{drop-append_seam}
use Rattle.design.proofs.Callers.{taken-at}
use Rattle.journal_meaning.specs.declared.Entry.{Entry}
use Rattle.journal_meaning.specs.Answers.{is_fill_of, fill_count}
use Rattle.journal_meaning.specs.Counts.{count}
use Rattle.journal_meaning.proofs.Callers.{count-append, Each, each-left, each-right}
use Rattle.plan_machine.specs.Shards.{Shard}
use Rattle.plan_machine.specs.Settle.{journals_of}
use Rattle.memo_shards.specs.KeptShards.{KeptShard}
use Rattle.plan_core.specs.Parts.{shards_in}
use Rattle.plan_core.specs.asked.Memos.{entries_of}
use Rattle.plan_core.specs.asked.inner.Tails.{lengths_of, tails}
use Rattle.plan_core.proofs.AskedIndex.{SameEntries}

-- of the shards of two lists
pub entries-append : (xs ys : List KeptShard) → entries_of (xs ++ ys) ≡ entries_of xs ++ entries_of ys
entries-append [] ys = refl
entries-append (x ∷ xs) ys = ap (λ l. x.shard.journal ++ l) (entries-append xs ys) ∙ sym (append_assoc x.shard.journal (entries_of xs) (entries_of ys))

-- the entries of the first shards, with one shard more
pub entries-item : (ms : List KeptShard) (n : ℕ) (m : KeptShard) → n < length ms → m ≡ get_or ms n m → entries_of (take (n + 1) ms) ≡ entries_of (take n ms) ++ m.shard.journal
entries-item ms n m low is = ap entries_of (sym (taken-at ms n m low is)) ∙ entries-append (take n ms) (m ∷ []) ∙ ap (λ l. entries_of (take n ms) ++ l) (append-nil m.shard.journal)

entries-each : (P : Entry → Type 0) (ms : List KeptShard) (n : ℕ) (d : KeptShard) → n < length ms → Each P (entries_of ms) → Each P (get_or ms n d).shard.journal
entries-each P [] n d low h = absurd (omega arith)
entries-each P (m ∷ ms) zero d low h = each-left P m.shard.journal (entries_of ms) h
entries-each P (m ∷ ms) (suc n) d low h = entries-each P ms n d (omega arith) (each-right P m.shard.journal (entries_of ms) h)

-- what holds of each entry holds of those of one shard
pub entries-one : (P : Entry → Type 0) (ms : List KeptShard) (n : ℕ) (m : KeptShard) → n < length ms → m ≡ get_or ms n m → Each P (entries_of ms) → Each P m.shard.journal
entries-one P ms n m low is h = subst (λ (e : KeptShard). Each P e.shard.journal) (sym is) (entries-each P ms n m low h)

-- the plan's shard at a place
pub shard-at : (ms : List KeptShard) (k : ℕ) (d : KeptShard) (e : Shard) → k < length ms → get_or (shards_in ms) k e ≡ (get_or ms k d).shard
shard-at [] k d e low = absurd (omega arith)
shard-at (m ∷ ms) zero d e low = refl
shard-at (m ∷ ms) (suc k) d e low = shard-at ms k d e (omega arith)

-- how many fills, of the entries of two lists
pub filled-append : (xs ys : List Entry) (q : ℕ) → fill_count (xs ++ ys) q ≡ fill_count xs q + fill_count ys q
filled-append xs ys q = count-append (is_fill_of q) xs ys

-- two parts between others change places
between-counts : (test : Entry → Bool) (a r o t n : List Entry) → count test (o ++ t) ≡ count test n → count test ((a ++ o) ++ (r ++ t)) ≡ count test ((a ++ r) ++ n)
between-counts test a r o t n h =
    let h1 = count-append test (a ++ o) (r ++ t) in
    let h2 = count-append test a o in
    let h3 = count-append test r t in
    let h4 = count-append test (a ++ r) n in
    let h5 = count-append test a r in
    let h6 = count-append test o t in
    omega arith

-- two parts between others change places
pub same-more : (a r o t n : List Entry) → SameEntries (o ++ t) n → SameEntries ((a ++ o) ++ (r ++ t)) ((a ++ r) ++ n)
same-more a r o t n s = record {
  to = λ e h. elim (Contains-append_cases (a ++ o) (r ++ t) e h) [
    | inl l ↦ elim (Contains-append_cases a o e l) [
      | inl m ↦ Contains-append_left (a ++ r) n e (Contains-append_left a r e m)
      | inr m ↦ Contains-append_right (a ++ r) n e (s.to e (Contains-append_left o t e m))
    ]
    | inr l ↦ elim (Contains-append_cases r t e l) [
      | inl m ↦ Contains-append_left (a ++ r) n e (Contains-append_right a r e m)
      | inr m ↦ Contains-append_right (a ++ r) n e (s.to e (Contains-append_right o t e m))
    ]
  ];
  back = λ e h. elim (Contains-append_cases (a ++ r) n e h) [
    | inl l ↦ elim (Contains-append_cases a r e l) [
      | inl m ↦ Contains-append_left (a ++ o) (r ++ t) e (Contains-append_left a o e m)
      | inr m ↦ Contains-append_right (a ++ o) (r ++ t) e (Contains-append_left r t e m)
    ]
    | inr l ↦ elim (Contains-append_cases o t e (s.back e l)) [
      | inl m ↦ Contains-append_left (a ++ o) (r ++ t) e (Contains-append_right a o e m)
      | inr m ↦ Contains-append_right (a ++ o) (r ++ t) e (Contains-append_right r t e m)
    ]
  ];
  counts = λ test. between-counts test a r o t n (s.counts test);
}

-- each journal is longer by some entries
abbrev pub HaveGrown : List KeptShard → List KeptShard → Type 0
HaveGrown old new = (k : ℕ) → (more : List Entry) × (get_or (journals_of (shards_in new)) k [] ≡ get_or (journals_of (shards_in old)) k [] ++ more)

-- the old entries and those that stand after them are the new ones
pub regroup : (old new : List KeptShard) → length new ≡ length old → HaveGrown old new → SameEntries (entries_of old ++ tails (lengths_of old) new) (entries_of new)
regroup [] [] e h = record { to = λ x k. k; back = λ x k. k; counts = λ test. refl }
regroup [] (n ∷ new) e h = absurd (omega arith)
regroup (m ∷ old) [] e h = absurd (omega arith)
regroup (m ∷ old) (n ∷ new) e h =
    let first = h 0 in
    let a = m.shard.journal in
    let is : n.shard.journal ≡ a ++ first.0 = first.1 in
    let tail : drop (length a) n.shard.journal ≡ first.0 = ap (drop (length a)) is ∙ drop-append_seam a first.0 in
    let rest = regroup old new (omega arith) (λ k. h (suc k)) in
    subst (λ l. SameEntries ((a ++ entries_of old) ++ (l ++ tails (lengths_of old) new)) (n.shard.journal ++ entries_of new)) (sym tail)
    (subst (λ l. SameEntries ((a ++ entries_of old) ++ (first.0 ++ tails (lengths_of old) new)) (l ++ entries_of new)) (sym is)
    (same-more a first.0 (entries_of old) (tails (lengths_of old) new) (entries_of new) rest))

-- lists of lengths and of tails, one shard more
pub lengths-at : (ms : List KeptShard) (k d : ℕ) (e : KeptShard) → k < length ms → get_or (lengths_of ms) k d ≡ length (get_or ms k e).shard.journal
lengths-at [] k d e low = absurd (omega arith)
lengths-at (m ∷ ms) zero d e low = refl
lengths-at (m ∷ ms) (suc k) d e low = lengths-at ms k d e (omega arith)

-- what stands after the first journals, with one journal more
pub tails-push : (ns : List ℕ) (ms : List KeptShard) (k d : ℕ) (e : KeptShard) → k < length ns → k < length ms
    → tails (take (suc k) ns) (take (suc k) ms) ≡ tails (take k ns) (take k ms) ++ drop (get_or ns k d) (get_or ms k e).shard.journal
tails-push [] ms k d e l m = absurd (omega arith)
tails-push (n ∷ ns) [] k d e l m = absurd (omega arith)
tails-push (n ∷ ns) (x ∷ ms) zero d e l m = append-nil (drop n x.shard.journal)
tails-push (n ∷ ns) (x ∷ ms) (suc k) d e l m = ap (λ z. drop n x.shard.journal ++ z) (tails-push ns ms k d e (omega arith) (omega arith)) ∙ sym (append_assoc (drop n x.shard.journal) (tails (take k ns) (take k ms)) (drop (get_or ns k d) (get_or ms k e).shard.journal))

-- what holds of all that stands after the journals holds of what stands after one
pub tails-each : (P : Entry → Type 0) (ns : List ℕ) (ms : List KeptShard) (k d : ℕ) (e : KeptShard) → k < length ns → k < length ms → Each P (tails ns ms) → Each P (drop (get_or ns k d) (get_or ms k e).shard.journal)
tails-each P [] ms k d e l m h = absurd (omega arith)
tails-each P (n ∷ ns) [] k d e l m h = absurd (omega arith)
tails-each P (n ∷ ns) (x ∷ ms) zero d e l m h = each-left P (drop n x.shard.journal) (tails ns ms) h
tails-each P (n ∷ ns) (x ∷ ms) (suc k) d e l m h = tails-each P ns ms k d e (omega arith) (omega arith) (each-right P (drop n x.shard.journal) (tails ns ms) h)

-- with the journal of a loop's step
pub tails-item : (ns : List ℕ) (ms : List KeptShard) (k d : ℕ) (m : KeptShard) → k < length ns → k < length ms → m ≡ get_or ms k m
    → tails (take (k + 1) ns) (take (k + 1) ms) ≡ tails (take k ns) (take k ms) ++ drop (get_or ns k d) m.shard.journal
tails-item ns ms k d m low high is =
    let one : k + 1 ≡ suc k = omega arith in
    let step = tails-push ns ms k d m low high ∙ ap (λ (e : KeptShard). tails (take k ns) (take k ms) ++ drop (get_or ns k d) e.shard.journal) (sym is) in
    subst (λ j. tails (take j ns) (take j ms) ≡ tails (take k ns) (take k ms) ++ drop (get_or ns k d) m.shard.journal) (sym one) step

-- and of what stands after that one
pub tails-one : (P : Entry → Type 0) (ns : List ℕ) (ms : List KeptShard) (k d : ℕ) (m : KeptShard) → k < length ns → k < length ms → m ≡ get_or ms k m → Each P (tails ns ms) → Each P (drop (get_or ns k d) m.shard.journal)
tails-one P ns ms k d m low high is h = subst (λ (e : KeptShard). Each P (drop (get_or ns k d) e.shard.journal)) (sym is) (tails-each P ns ms k d m low high h)
