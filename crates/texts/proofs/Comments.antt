-- Words without `#`.
use Rattle.std.proofs.Common.{◌≡◌, ℕ, suc, ◌+◌, Bool, true, false, ◌&&◌, not, cond, List, [], ◌∷◌, take, refl, ap, ◌∙◌, arith}
use Rattle.std.specs.List.{slice_split, onto_first, filter, position_or_len, list_all}
use Rattle.std.proofs.lemmas.Bool.Decides.{nat_tests}
use Rattle.texts.specs.Text.{is_blank, is_digit, is_filled, is_hash, is_name_byte, is_name, is_number, content, words}

-- no `#`
abbrev pub is_clean : List ℕ → Bool
is_clean bytes = list_all (λ b. not (is_hash b)) bytes

onto_clean : (b : ℕ) (ps : List (List ℕ)) → list_all is_clean (onto_first b ps) ≡ (not (is_hash b) && list_all is_clean ps)
onto_clean b [] = cases (not (is_hash b))
  where
    cases : (v : Bool) → ((v && true) && true) ≡ (v && true)
    cases true = refl
    cases false = refl
onto_clean b (p ∷ ps) = cases (not (is_hash b))
  where
    cases : (v : Bool) → ((v && is_clean p) && list_all is_clean ps) ≡ (v && (is_clean p && list_all is_clean ps))
    cases true = refl
    cases false = refl

filled_clean : (ps : List (List ℕ)) → list_all is_clean (filter is_filled ps) ≡ list_all is_clean ps
filled_clean [] = refl
filled_clean ([] ∷ ps) = filled_clean ps
filled_clean ((b ∷ p) ∷ ps) = ap (λ (v : Bool). is_clean (b ∷ p) && v) (filled_clean ps)

-- all of a line without `#` counts
pub content_clean : (line : List ℕ) → is_clean line ≡ true → content line ≡ line
content_clean [] h = refl
content_clean (b ∷ line) h = cases (content_clean line) (is_hash b) h
  where
    cases : (again : is_clean line ≡ true → content line ≡ line) (v : Bool) → (not v && is_clean line) ≡ true → take (cond (not v) (1 + position_or_len is_hash line) 0) (b ∷ line) ≡ b ∷ line
    cases again true h = absurd cc
    cases again false h =
        let k : 1 + position_or_len is_hash line ≡ suc (position_or_len is_hash line) = omega arith in
        rw k (ap (λ (l : List ℕ). b ∷ l) (again h))

blank_clean : (b : ℕ) → is_blank b ≡ true → not (is_hash b) ≡ true
blank_clean b h = grind (arith, nat_tests)

split_clean : (bytes : List ℕ) → list_all is_clean (slice_split is_blank bytes) ≡ is_clean bytes
split_clean [] = refl
split_clean (b ∷ bytes) = cases (split_clean bytes) (is_blank b) refl
  where
    cases : (again : list_all is_clean (slice_split is_blank bytes) ≡ is_clean bytes) (v : Bool) → is_blank b ≡ v → list_all is_clean (cond v ([] ∷ slice_split is_blank bytes) (onto_first b (slice_split is_blank bytes))) ≡ (not (is_hash b) && is_clean bytes)
    cases again true h = rw (blank_clean b h) again
    cases again false h = onto_clean b (slice_split is_blank bytes) ∙ ap (λ (v : Bool). not (is_hash b) && v) again

-- a `#` stands in some word
pub words_clean : (bytes : List ℕ) → list_all is_clean (words bytes) ≡ is_clean bytes
unfolding words
words_clean bytes = filled_clean (slice_split is_blank bytes) ∙ split_clean bytes

module _ (test : ℕ → Bool) (clean : (b : ℕ) → test b ≡ true → not (is_hash b) ≡ true) where
  all_clean : (bytes : List ℕ) → list_all test bytes ≡ true → is_clean bytes ≡ true
  all_clean [] h = refl
  all_clean (b ∷ bytes) h = cases (all_clean bytes) (test b) refl h
    where
      cases : (again : list_all test bytes ≡ true → is_clean bytes ≡ true) (v : Bool) → test b ≡ v → (v && list_all test bytes) ≡ true → (not (is_hash b) && is_clean bytes) ≡ true
      cases again true e h = rw (clean b e) (again h)
      cases again false e h = absurd cc

name_byte_clean : (b : ℕ) → is_name_byte b ≡ true → not (is_hash b) ≡ true
name_byte_clean b h = grind (arith, nat_tests)

digit_clean : (b : ℕ) → is_digit b ≡ true → not (is_hash b) ≡ true
digit_clean b h = grind (arith, nat_tests)

-- no `#` in a name
pub name_clean : (name : List ℕ) → is_name name ≡ true → is_clean name ≡ true
name_clean [] h = refl
name_clean (b ∷ name) h = all_clean is_name_byte name_byte_clean (b ∷ name) h

-- nor in a number
pub number_clean : (word : List ℕ) → is_number word ≡ true → is_clean word ≡ true
number_clean [] h = refl
number_clean (b ∷ word) h = all_clean is_digit digit_clean (b ∷ word) h
