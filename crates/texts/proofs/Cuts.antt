-- Lines and words, one at a time.
use Rattle.std.proofs.Common.{◌≡◌, ℕ, suc, ◌+◌, ◌<◌, Bool, true, false, not, cond, ltb, List, [], ◌∷◌, length, take, drop, get_or, Some, None, refl, subst, add-zero, ap, ◌∙◌, arith}
use Rattle.std.specs.List.{slice_split, onto_first, position, position_or_len, before_first, after_first, filter}
use Rattle.std.proofs.lemmas.Bool.{ltb-true, ltb-false, not-true}
use Rattle.std.proofs.lemmas.List.Sums.{prefix_len-le-length, passes_at_first}
use Rattle.std.proofs.lemmas.List.{get_or-drop}
use Rattle.std.proofs.Math.Seq.{drop-length}
use Rattle.std.proofs.lemmas.List.Splits.{slice_split_first, length-slice_split}
use Rattle.texts.specs.Text.{is_feed, is_blank, is_filled, lines, words, less_empty_last}

pub found : {X : Type 0} (p : X → Bool) (xs : List X) (i : ℕ) → position p xs ≡ Some i → (position_or_len p xs ≡ i) × (i < length xs)
found p xs i h = cases (ltb (position_or_len p xs) (length xs)) refl h
  where
    cases : (b : Bool) → ltb (position_or_len p xs) (length xs) ≡ b → cond b (Some (position_or_len p xs)) None ≡ Some i → (position_or_len p xs ≡ i) × (i < length xs)
    cases true e h = let same : position_or_len p xs ≡ i = cc in (same, omega (arith, same, ltb-true _ _ e))
    cases false e h = absurd cc

pub found_none : {X : Type 0} (p : X → Bool) (xs : List X) → position p xs ≡ None → position_or_len p xs ≡ length xs
found_none p xs h = cases (ltb (position_or_len p xs) (length xs)) refl h
  where
    cases : (b : Bool) → ltb (position_or_len p xs) (length xs) ≡ b → cond b (Some (position_or_len p xs)) None ≡ None → position_or_len p xs ≡ length xs
    cases true e h = absurd cc
    cases false e h = omega (arith, ltb-false _ _ e, prefix_len-le-length (λ x. not (p x)) xs)

-- where no element passes, there is one part
pub one_part : {X : Type 0} (p : X → Bool) (xs : List X) → position_or_len p xs ≡ length xs → slice_split p xs ≡ xs ∷ []
one_part p [] h = refl
one_part {X} p (x ∷ xs) h = cases (one_part p xs) (p x) h
  where
    cases : (again : position_or_len p xs ≡ length xs → slice_split p xs ≡ xs ∷ []) (b : Bool) → cond (not b) (1 + position_or_len p xs) 0 ≡ suc (length xs) → cond b ([] ∷ slice_split p xs) (onto_first x (slice_split p xs)) ≡ (x ∷ xs) ∷ []
    cases again true h = absurd (omega arith)
    cases again false h = ap (onto_first x) (again (omega arith))

pub keeps_first : (x : List ℕ) (parts : List (List ℕ)) → 0 < length parts → less_empty_last (x ∷ parts) ≡ x ∷ less_empty_last parts
keeps_first x [] h = absurd (omega arith)
keeps_first [] (y ∷ parts) h = refl
keeps_first (b ∷ x) (y ∷ parts) h = refl

line_cut : (bytes : List ℕ) → position_or_len is_feed bytes < length bytes → lines bytes ≡ before_first is_feed bytes ∷ lines (after_first is_feed bytes)
unfolding lines
line_cut bytes h =
    let more : 0 < length (slice_split is_feed (after_first is_feed bytes)) = omega (arith, length-slice_split is_feed (after_first is_feed bytes)) in
    ap less_empty_last (slice_split_first is_feed bytes 0 h) ∙ keeps_first (before_first is_feed bytes) (slice_split is_feed (after_first is_feed bytes)) more

pub line_at : (bytes : List ℕ) (i : ℕ) → position is_feed bytes ≡ Some i → lines bytes ≡ take i bytes ∷ lines (drop (i + 1) bytes)
line_at bytes i h =
    let at = found is_feed bytes i h in
    subst (λ (n : ℕ). lines bytes ≡ take n bytes ∷ lines (drop (n + 1) bytes)) at.0 (line_cut bytes (omega (arith, at.0, at.1)))

pub line_whole : (bytes : List ℕ) → 0 < length bytes → position_or_len is_feed bytes ≡ length bytes → lines bytes ≡ bytes ∷ lines []
unfolding lines
line_whole [] h e = absurd (omega arith)
line_whole (b ∷ bytes) h e = ap less_empty_last (one_part is_feed (b ∷ bytes) e)

-- blanks in front make no word
pub words_skip : (bytes : List ℕ) → words bytes ≡ words (drop (position_or_len (λ b. not (is_blank b)) bytes) bytes)
unfolding words
words_skip [] = refl
words_skip (b ∷ bytes) = cases (words_skip bytes) (is_blank b) refl
  where
    cases : (again : words bytes ≡ words (drop (position_or_len (λ b. not (is_blank b)) bytes) bytes)) (v : Bool) → is_blank b ≡ v → filter is_filled (cond v ([] ∷ slice_split is_blank bytes) (onto_first b (slice_split is_blank bytes))) ≡ words (drop (cond (not (not v)) (1 + position_or_len (λ b. not (is_blank b)) bytes) 0) (b ∷ bytes))
    cases again true e =
        let k : suc (position_or_len (λ b. not (is_blank b)) bytes) ≡ 1 + position_or_len (λ b. not (is_blank b)) bytes = omega arith in
        again ∙ ap (λ (n : ℕ). words (drop n (b ∷ bytes))) k
    cases again false e = rw e refl

pub words_none : (bytes : List ℕ) → position (λ b. not (is_blank b)) bytes ≡ None → words bytes ≡ []
unfolding words
words_none bytes h = words_skip bytes ∙ ap (λ n. words (drop n bytes)) (found_none (λ b. not (is_blank b)) bytes h) ∙ ap words (drop-length bytes)

word_cut : (bytes : List ℕ) → 0 < length bytes → is_blank (get_or bytes 0 0) ≡ false → position_or_len is_blank bytes < length bytes → words bytes ≡ before_first is_blank bytes ∷ words (after_first is_blank bytes)
unfolding words
word_cut [] h n l = absurd (omega arith)
word_cut (b ∷ bytes) h n l =
    ap (filter is_filled) (slice_split_first is_blank (b ∷ bytes) 0 l) ∙ cases (is_blank b) n
  where
    cases : (v : Bool) → v ≡ false → filter is_filled (take (cond (not v) (1 + position_or_len is_blank bytes) 0) (b ∷ bytes) ∷ slice_split is_blank (drop (cond (not v) (1 + position_or_len is_blank bytes) 0 + 1) (b ∷ bytes))) ≡ take (cond (not v) (1 + position_or_len is_blank bytes) 0) (b ∷ bytes) ∷ words (drop (cond (not v) (1 + position_or_len is_blank bytes) 0 + 1) (b ∷ bytes))
    cases true e = absurd cc
    cases false e = let k : 1 + position_or_len is_blank bytes ≡ suc (position_or_len is_blank bytes) = omega arith in rw k refl

pub word_at : (bytes : List ℕ) (i : ℕ) → 0 < length bytes → is_blank (get_or bytes 0 0) ≡ false → position is_blank bytes ≡ Some i → words bytes ≡ take i bytes ∷ words (drop (i + 1) bytes)
word_at bytes i l n h =
    let at = found is_blank bytes i h in
    subst (λ (n : ℕ). words bytes ≡ take n bytes ∷ words (drop (n + 1) bytes)) at.0 (word_cut bytes l n (omega (arith, at.0, at.1)))

pub word_whole : (bytes : List ℕ) → 0 < length bytes → position is_blank bytes ≡ None → words bytes ≡ bytes ∷ words []
unfolding words
word_whole [] h e = absurd (omega arith)
word_whole (b ∷ bytes) h e = ap (filter is_filled) (one_part is_blank (b ∷ bytes) (found_none is_blank (b ∷ bytes) e))

pub starts_filled : (bytes : List ℕ) (i : ℕ) → position (λ b. not (is_blank b)) bytes ≡ Some i → is_blank (get_or (drop i bytes) 0 0) ≡ false
starts_filled bytes i h =
    let at = found (λ b. not (is_blank b)) bytes i h in
    let passes : not (is_blank (get_or bytes i 0)) ≡ true = subst (λ (n : ℕ). not (is_blank (get_or bytes n 0)) ≡ true) at.0 (passes_at_first (λ b. not (is_blank b)) bytes 0 (omega (arith, at.0, at.1))) in
    rw get_or-drop (rw add-zero (not-true (is_blank (get_or bytes i 0)) passes))

pub skipped : (bytes : List ℕ) (i : ℕ) → position (λ b. not (is_blank b)) bytes ≡ Some i → words bytes ≡ words (drop i bytes)
skipped bytes i h = words_skip bytes ∙ ap (λ (n : ℕ). words (drop n bytes)) (found (λ b. not (is_blank b)) bytes i h).0
