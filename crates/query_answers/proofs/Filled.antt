-- The points that queries filled.
use Rattle.std.proofs.Common.{◌≡◌, ℕ, suc, ◌++◌, nat_eq, Bool, true, false, cond, List, [], ◌∷◌, length, filter, None, refl, ap, ◌∙◌}
use Rattle.std.proofs.lemmas.List.{nil_from_length}
use Rattle.journal_meaning.specs.declared.Entry.{Entry}
use Rattle.journal_meaning.specs.declared.Entry.TheVariants.{Told, Claimed, Filled, Evicted, Dropped, Spent}
use Rattle.journal_meaning.specs.Answers.{is_fill_of, fill_count}
use Rattle.journal_meaning.specs.Counts.{evaluated_point}
use Rattle.journal_meaning.proofs.Callers.{fills-none}
use Rattle.plan_machine.specs.Settling.{fills_of}

-- the points that a query filled, of two lists of entries
pub fills-append : (xs ys : List Entry) (q : ℕ) → fills_of (xs ++ ys) q ≡ fills_of xs q ++ fills_of ys q
fills-append [] ys q = refl
fills-append (Told r p x ∷ xs) ys q = fills-append xs ys q
fills-append (Claimed r p ∷ xs) ys q = fills-append xs ys q
fills-append (Filled r p x ∷ xs) ys q = by (nat_eq r q) (fills-append xs ys q)
  where
    by : (t : Bool) → fills_of (xs ++ ys) q ≡ fills_of xs q ++ fills_of ys q → cond t (p ∷ fills_of (xs ++ ys) q) (fills_of (xs ++ ys) q) ≡ cond t (p ∷ fills_of xs q) (fills_of xs q) ++ fills_of ys q
    by true h = ap (λ l. p ∷ l) h
    by false h = h
fills-append (Evicted s t ∷ xs) ys q = fills-append xs ys q
fills-append (Dropped r p ∷ xs) ys q = fills-append xs ys q
fills-append (Spent r p n ∷ xs) ys q = fills-append xs ys q

-- there are as many as fills
pub fills-count : (es : List Entry) (q : ℕ) → length (fills_of es q) ≡ fill_count es q
fills-count [] q = refl
fills-count (Told r p x ∷ xs) q = fills-count xs q
fills-count (Claimed r p ∷ xs) q = fills-count xs q
fills-count (Filled r p x ∷ xs) q = by (nat_eq r q) (fills-count xs q)
  where
    by : (t : Bool) → length (fills_of xs q) ≡ fill_count xs q → length (cond t (p ∷ fills_of xs q) (fills_of xs q)) ≡ length (cond t (Filled r p x ∷ filter (is_fill_of q) xs) (filter (is_fill_of q) xs))
    by true h = ap suc h
    by false h = h
fills-count (Evicted s t ∷ xs) q = fills-count xs q
fills-count (Dropped r p ∷ xs) q = fills-count xs q
fills-count (Spent r p n ∷ xs) q = fills-count xs q

-- so an entry that evaluates no point adds none
pub none-filled : (e : Entry) (q : ℕ) → evaluated_point e ≡ None → fills_of (e ∷ []) q ≡ []
none-filled e q h = nil_from_length (fills_of (e ∷ []) q) (fills-count (e ∷ []) q ∙ fills-none q e h)
