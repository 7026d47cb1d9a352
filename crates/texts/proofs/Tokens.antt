-- The tokens of a line, one at a time.
use Rattle.std.proofs.Common.{◌≡◌, ℕ, suc, ◌+◌, ◌<◌, ◌≤◌, ◌||◌, ◌&&◌, Bool, true, false, not, cond, eqb, List, [], ◌∷◌, ◌++◌, length, take, drop, get_or, Some, None, refl, sym, ap, subst, ◌∙◌, arith, inl, inr, length-take, length-drop, add-zero}
use Rattle.std.specs.List.{slice_split, onto_first, position, position_or_len, filter, flat_map, list_all}
use Rattle.std.proofs.lemmas.Bool.{cases_lt, ne_eqb, true≢false, and_parts, not-true}
use Rattle.std.proofs.lemmas.Bool.Decides.{nat_tests}
use Rattle.std.proofs.lemmas.List.{append-nil, take-append-drop, get_or-drop}
use Rattle.std.proofs.lemmas.List.Concat.{flat_map-cons}
use Rattle.std.proofs.lemmas.List.Sums.{passes_at_first}
use Rattle.std.proofs.Math.Seq.{split_at, drop-length}
use Rattle.texts.proofs.Cuts.{found, found_none}
use Rattle.texts.specs.Text.{is_blank, is_mark, is_hash, is_name_byte, is_filled, is_name, content, words, spaced_mark, tokens, line_tokens, ends_token, starts_with_name, starts_with_mark}

-- a byte is of one kind
blank_no_mark : (b : ℕ) → is_blank b ≡ true → is_mark b ≡ false
blank_no_mark b h = grind (arith, nat_tests)

blank_no_hash : (b : ℕ) → is_blank b ≡ true → is_hash b ≡ false
blank_no_hash b h = grind (arith, nat_tests)

mark_no_hash : (b : ℕ) → is_mark b ≡ true → is_hash b ≡ false
mark_no_hash b h = grind (arith, nat_tests)

mark_no_name : (b : ℕ) → is_mark b ≡ true → is_name_byte b ≡ false
mark_no_name b h = grind (arith, nat_tests)

name_no_blank : (b : ℕ) → is_name_byte b ≡ true → is_blank b ≡ false
name_no_blank b h = grind (arith, nat_tests)

name_no_mark : (b : ℕ) → is_name_byte b ≡ true → is_mark b ≡ false
name_no_mark b h = grind (arith, nat_tests)

name_no_hash : (b : ℕ) → is_name_byte b ≡ true → is_hash b ≡ false
name_no_hash b h = grind (arith, nat_tests)

-- a byte that is no `#`, and one that is
content_more : (b : ℕ) (line : List ℕ) → is_hash b ≡ false → content (b ∷ line) ≡ b ∷ content line
content_more b line h = let k : 1 + position_or_len is_hash line ≡ suc (position_or_len is_hash line) = omega arith in rw (h, k) refl

content_none : (b : ℕ) (line : List ℕ) → is_hash b ≡ true → content (b ∷ line) ≡ []
content_none b line h = rw h refl

abbrev parts : List ℕ → List (List ℕ)
parts bytes = slice_split is_blank (flat_map spaced_mark bytes)

blank_parts : (b : ℕ) (bytes : List ℕ) → is_blank b ≡ true → parts (b ∷ bytes) ≡ [] ∷ parts bytes
blank_parts b bytes h =
    let m = blank_no_mark b h in
    let f : flat_map spaced_mark (b ∷ bytes) ≡ b ∷ flat_map spaced_mark bytes = flat_map-cons spaced_mark b bytes ∙ rw m refl in
    ap (slice_split is_blank) f ∙ rw h refl

mark_parts : (b : ℕ) (bytes : List ℕ) → is_blank b ≡ false → is_mark b ≡ true → parts (b ∷ bytes) ≡ [] ∷ (b ∷ []) ∷ parts bytes
mark_parts b bytes h m =
    let f : flat_map spaced_mark (b ∷ bytes) ≡ 32 ∷ b ∷ 32 ∷ flat_map spaced_mark bytes = flat_map-cons spaced_mark b bytes ∙ rw m refl in
    ap (slice_split is_blank) f ∙ rw h refl

plain_parts : (b : ℕ) (bytes : List ℕ) → is_blank b ≡ false → is_mark b ≡ false → parts (b ∷ bytes) ≡ onto_first b (parts bytes)
plain_parts b bytes h m =
    let f : flat_map spaced_mark (b ∷ bytes) ≡ b ∷ flat_map spaced_mark bytes = flat_map-cons spaced_mark b bytes ∙ rw m refl in
    ap (slice_split is_blank) f ∙ rw h refl

-- no bytes, and a comment
none_left : line_tokens [] ≡ []
unfolding line_tokens tokens words
none_left = refl

pub empty_left : (line : List ℕ) → length line ≡ 0 → line_tokens line ≡ []
empty_left [] h = none_left
empty_left (b ∷ line) h = absurd (omega arith)

comment_left : (b : ℕ) (line : List ℕ) → is_hash b ≡ true → line_tokens (b ∷ line) ≡ []
unfolding line_tokens tokens words
comment_left b line h = rw (content_none b line h) refl

-- a blank at the front makes no token
skip_blank : (b : ℕ) (line : List ℕ) → is_blank b ≡ true → line_tokens (b ∷ line) ≡ line_tokens line
unfolding line_tokens tokens words
skip_blank b line h = rw (content_more b line (blank_no_hash b h)) (ap (filter is_filled) (blank_parts b (content line) h))

skip_blanks : (line : List ℕ) → line_tokens (drop (position_or_len (λ b. not (is_blank b)) line) line) ≡ line_tokens line
skip_blanks [] = refl
skip_blanks (b ∷ line) = cases (skip_blanks line) (is_blank b) refl
  where
    cases : (again : line_tokens (drop (position_or_len (λ b. not (is_blank b)) line) line) ≡ line_tokens line) (v : Bool) → is_blank b ≡ v → line_tokens (drop (cond (not (not v)) (1 + position_or_len (λ b. not (is_blank b)) line) 0) (b ∷ line)) ≡ line_tokens (b ∷ line)
    cases again true e =
        let k : 1 + position_or_len (λ b. not (is_blank b)) line ≡ suc (position_or_len (λ b. not (is_blank b)) line) = omega arith in
        rw k (again ∙ sym (skip_blank b line e))
    cases again false e = refl

pub skipped : (line : List ℕ) (i : ℕ) → position (λ b. not (is_blank b)) line ≡ Some i → line_tokens (drop i line) ≡ line_tokens line
skipped line i h = ap (λ (n : ℕ). line_tokens (drop n line)) (sym (found (λ b. not (is_blank b)) line i h).0) ∙ skip_blanks line

pub all_skipped : (line : List ℕ) → position (λ b. not (is_blank b)) line ≡ None → line_tokens [] ≡ line_tokens line
all_skipped line h =
    let past : drop (position_or_len (λ b. not (is_blank b)) line) line ≡ [] = ap (λ (n : ℕ). drop n line) (found_none (λ b. not (is_blank b)) line h) ∙ drop-length line in
    ap line_tokens (sym past) ∙ skip_blanks line

-- a mark at the front is a token
mark_first : (b : ℕ) (line : List ℕ) → is_blank b ≡ false → is_mark b ≡ true → line_tokens (b ∷ line) ≡ (b ∷ []) ∷ line_tokens line
unfolding line_tokens tokens words
mark_first b line h m = rw (content_more b line (mark_no_hash b m)) (ap (filter is_filled) (mark_parts b (content line) h m))

pub mark_front : (line : List ℕ) → 0 < length line → is_blank (get_or line 0 0) ≡ false → is_mark (get_or line 0 0) ≡ true → line_tokens line ≡ (get_or line 0 0 ∷ []) ∷ line_tokens (drop 1 line)
mark_front [] some h m = absurd (omega arith)
mark_front (b ∷ line) some h m = mark_first b line h m

some_tokens : (token : List ℕ) (more : List (List ℕ)) → eqb (length (token ∷ more)) 0 ≡ false
some_tokens token more = ne_eqb (length (token ∷ more)) 0 (λ e. absurd (omega (arith, e)))

-- another byte at the front begins a token that is no mark
plain_first : (b : ℕ) (line : List ℕ) → is_blank b ≡ false → is_mark b ≡ false → is_hash b ≡ false → (starts_with_mark (line_tokens (b ∷ line)) ≡ false) × (eqb (length (line_tokens (b ∷ line))) 0 ≡ false)
unfolding line_tokens tokens words
plain_first b line h m x = rw (content_more b line x) (rw (plain_parts b (content line) h m) (cases (parts (content line))))
  where
    alone : (p : List ℕ) (more : List (List ℕ)) → (starts_with_mark ((b ∷ p) ∷ more) ≡ false) × (eqb (length ((b ∷ p) ∷ more)) 0 ≡ false)
    alone [] more = (m, some_tokens (b ∷ []) more)
    alone (c ∷ p) more = (refl, some_tokens (b ∷ c ∷ p) more)

    cases : (ps : List (List ℕ)) → (starts_with_mark (filter is_filled (onto_first b ps)) ≡ false) × (eqb (length (filter is_filled (onto_first b ps))) 0 ≡ false)
    cases [] = alone [] []
    cases (p ∷ ps) = alone p (filter is_filled ps)

pub no_mark_front : (line : List ℕ) → 0 < length line → is_blank (get_or line 0 0) ≡ false → is_mark (get_or line 0 0) ≡ false → starts_with_mark (line_tokens line) ≡ false
no_mark_front [] some h m = absurd (omega arith)
no_mark_front (b ∷ line) some h m = cases (is_hash b) refl
  where
    cases : (v : Bool) → is_hash b ≡ v → starts_with_mark (line_tokens (b ∷ line)) ≡ false
    cases true x = rw (comment_left b line x) refl
    cases false x = (plain_first b line h m x).0

-- whether a token is left
pub some_left : (line : List ℕ) → 0 < length line → is_blank (get_or line 0 0) ≡ false → is_hash (get_or line 0 0) ≡ eqb (length (line_tokens line)) 0
some_left [] some h = absurd (omega arith)
some_left (b ∷ line) some h = cases (is_hash b) (is_mark b) refl refl
  where
    cases : (v w : Bool) → is_hash b ≡ v → is_mark b ≡ w → v ≡ eqb (length (line_tokens (b ∷ line))) 0
    cases true w x m = rw (comment_left b line x) refl
    cases false true x m = rw (mark_first b line h m) (sym (some_tokens (b ∷ []) (line_tokens line)))
    cases false false x m = sym (plain_first b line h m x).1

-- bytes in front of the first part
abbrev onto_all : List ℕ → List (List ℕ) → List (List ℕ)
onto_all [] ps = ps
onto_all (b ∷ run) ps = onto_first b (onto_all run ps)

onto_all-cons : (run p : List ℕ) (ps : List (List ℕ)) → onto_all run (p ∷ ps) ≡ (run ++ p) ∷ ps
onto_all-cons [] p ps = refl
onto_all-cons (b ∷ run) p ps = ap (onto_first b) (onto_all-cons run p ps)

abbrev AreNameBytes : List ℕ → Type 0
AreNameBytes run = list_all is_name_byte run ≡ true

-- the bytes of a name
name_content : (run line : List ℕ) → AreNameBytes run → content (run ++ line) ≡ run ++ content line
name_content [] line h = refl
name_content (b ∷ run) line h = let two = and_parts (is_name_byte b) (list_all is_name_byte run) h in content_more b (run ++ line) (name_no_hash b two.0) ∙ ap (λ (l : List ℕ). b ∷ l) (name_content run line two.1)

name_parts : (run bytes : List ℕ) → AreNameBytes run → parts (run ++ bytes) ≡ onto_all run (parts bytes)
name_parts [] bytes h = refl
name_parts (b ∷ run) bytes h = let two = and_parts (is_name_byte b) (list_all is_name_byte run) h in plain_parts b (run ++ bytes) (name_no_blank b two.0) (name_no_mark b two.0) ∙ ap (onto_first b) (name_parts run bytes two.1)

abbrev pub ends : ℕ → Bool
ends b = not (is_name_byte b)

-- what stops a token begins the parts anew
stopped : (b : ℕ) (line : List ℕ) → ends_token b ≡ true → (ps : List (List ℕ)) × (parts (content (b ∷ line)) ≡ [] ∷ ps)
stopped b line h = cases (is_hash b) (is_blank b) (is_mark b) refl refl refl h
  where
    cases : (x v w : Bool) → is_hash b ≡ x → is_blank b ≡ v → is_mark b ≡ w → (v || w || x) ≡ true → (ps : List (List ℕ)) × (parts (content (b ∷ line)) ≡ [] ∷ ps)
    cases true v w e f g t = ([], ap parts (content_none b line e))
    cases false true w e f g t = (parts (content line), ap parts (content_more b line e) ∙ blank_parts b (content line) f)
    cases false false true e f g t = ((b ∷ []) ∷ parts (content line), ap parts (content_more b line e) ∙ mark_parts b (content line) f g)
    cases false false false e f g t = absurd cc

-- a name at the front
name_first : (run line : List ℕ) → 0 < length run → AreNameBytes run → (ps : List (List ℕ)) × (parts (content line) ≡ [] ∷ ps) → line_tokens (run ++ line) ≡ run ∷ line_tokens line
unfolding line_tokens tokens words
name_first [] line some h s = absurd (omega arith)
name_first (r ∷ run) line some h (ps, s) =
    let first : parts (content (r ∷ run ++ line)) ≡ ((r ∷ run) ++ []) ∷ ps = ap parts (name_content (r ∷ run) line h) ∙ name_parts (r ∷ run) (content line) h ∙ ap (onto_all (r ∷ run)) s ∙ onto_all-cons (r ∷ run) [] ps in
    ap (filter is_filled) first ∙ rw s (ap (λ (t : List ℕ). t ∷ filter is_filled ps) (append-nil (r ∷ run)))

all_names : (bytes : List ℕ) → AreNameBytes (take (position_or_len ends bytes) bytes)
all_names [] = refl
all_names (b ∷ bytes) = cases (all_names bytes) (is_name_byte b) refl
  where
    cases : (again : AreNameBytes (take (position_or_len ends bytes) bytes)) (v : Bool) → is_name_byte b ≡ v → AreNameBytes (take (cond (not (not v)) (1 + position_or_len ends bytes) 0) (b ∷ bytes))
    cases again true e = let k : 1 + position_or_len ends bytes ≡ suc (position_or_len ends bytes) = omega arith in rw (k, e) again
    cases again false e = refl

name_is : (word : List ℕ) → 0 < length word → AreNameBytes word → is_name word ≡ true
name_is [] some h = absurd (omega arith)
name_is (b ∷ word) some h = h

-- where nothing or a byte that stops a token comes after it
rest_stops : (line : List ℕ) → (0 < length line → ends_token (get_or line 0 0) ≡ true) → (ps : List (List ℕ)) × (parts (content line) ≡ [] ∷ ps)
rest_stops [] h = ([], refl)
rest_stops (b ∷ line) h = stopped b line (h (omega arith))

pub name_front : (bytes : List ℕ) (n : ℕ) → n ≡ position_or_len ends bytes → 0 < n → n ≤ length bytes → (n < length bytes → ends_token (get_or bytes n 0) ≡ true) → (line_tokens bytes ≡ take n bytes ∷ line_tokens (drop n bytes)) × (is_name (take n bytes) ≡ true)
name_front bytes n is some room h =
    let names : AreNameBytes (take n bytes) = subst (λ (k : ℕ). AreNameBytes (take k bytes)) (sym is) (all_names bytes) in
    let long : 0 < length (take n bytes) = omega (arith, length-take n bytes) in
    let rest = rest_stops (drop n bytes) (λ lt. let first : get_or (drop n bytes) 0 0 ≡ get_or bytes n 0 = rw get_or-drop (rw add-zero refl) in rw first (h (omega (arith, lt, length-drop n bytes)))) in
    (ap line_tokens (sym (take-append-drop n bytes)) ∙ name_first (take n bytes) (drop n bytes) long names rest, name_is (take n bytes) long names)

-- a token with a byte that stands in no name
bad_all : (run p : List ℕ) (b : ℕ) → is_name_byte b ≡ false → list_all is_name_byte (run ++ b ∷ p) ≡ false
bad_all [] p b h = rw h refl
bad_all (r ∷ run) p b h = cases (is_name_byte r) (bad_all run p b h)
  where
    cases : (v : Bool) → list_all is_name_byte (run ++ b ∷ p) ≡ false → (v && list_all is_name_byte (run ++ b ∷ p)) ≡ false
    cases true e = e
    cases false e = refl

bad_token : (run p : List ℕ) (b : ℕ) (ps : List (List ℕ)) → is_name_byte b ≡ false → starts_with_name (filter is_filled ((run ++ b ∷ p) ∷ ps)) ≡ false
bad_token [] p b ps h = bad_all [] p b h
bad_token (r ∷ run) p b ps h = bad_all (r ∷ run) p b h

no_name_first : (run line : List ℕ) (b : ℕ) → AreNameBytes run → is_name_byte b ≡ false → ends_token b ≡ false → starts_with_name (line_tokens (run ++ b ∷ line)) ≡ false
unfolding line_tokens tokens words
no_name_first run line b names h s = cases (is_hash b) (is_blank b) (is_mark b) refl refl refl s
  where
    token : (ps : List (List ℕ)) → starts_with_name (filter is_filled (onto_all run (onto_first b ps))) ≡ false
    token [] = rw (onto_all-cons run (b ∷ []) []) (bad_token run [] b [] h)
    token (p ∷ ps) = rw (onto_all-cons run (b ∷ p) ps) (bad_token run p b ps h)

    cases : (x v w : Bool) → is_hash b ≡ x → is_blank b ≡ v → is_mark b ≡ w → (v || w || x) ≡ false → starts_with_name (filter is_filled (parts (content (run ++ b ∷ line)))) ≡ false
    cases false false false e f g t =
        let first : parts (content (run ++ b ∷ line)) ≡ onto_all run (onto_first b (parts (content line))) =
        ap parts (name_content run (b ∷ line) names ∙ ap (λ (l : List ℕ). run ++ l) (content_more b line e)) ∙ name_parts run (b ∷ content line) names ∙ ap (onto_all run) (plain_parts b (content line) f g) in
        rw first (token (parts (content line)))
    cases true v w e f g t = absurd (last v w t)
      where
        last : (v w : Bool) → (v || w || true) ≡ false → ⊥
        last true w t = cc
        last false true t = cc
        last false false t = cc
    cases false true w e f g t = absurd cc
    cases false false true e f g t = absurd cc

no_name_within : (bytes : List ℕ) (n : ℕ) → n ≡ position_or_len ends bytes → n < length bytes → ends_token (get_or bytes n 0) ≡ false → starts_with_name (line_tokens bytes) ≡ false
no_name_within bytes n is lt s =
    let names : AreNameBytes (take n bytes) = subst (λ (k : ℕ). AreNameBytes (take k bytes)) (sym is) (all_names bytes) in
    let passes : ends (get_or bytes n 0) ≡ true = subst (λ (k : ℕ). ends (get_or bytes k 0) ≡ true) (sym is) (passes_at_first ends bytes 0 (omega (arith, is, lt))) in
    subst (λ (l : List ℕ). starts_with_name (line_tokens l) ≡ false) (sym (split_at bytes n 0 lt)) (no_name_first (take n bytes) (drop (suc n) bytes) (get_or bytes n 0) names (not-true (is_name_byte (get_or bytes n 0)) passes) s)

pub no_name_at : (bytes : List ℕ) (n : ℕ) (over : Bool) → n ≡ position_or_len ends bytes → (length bytes ≤ n → over ≡ true) → (n < length bytes → over ≡ ends_token (get_or bytes n 0)) → over ≡ false → starts_with_name (line_tokens bytes) ≡ false
no_name_at bytes n over is end before still = elim (cases_lt n (length bytes)) [ inl lt ↦ no_name_within bytes n is lt (sym (before lt) ∙ still) | inr le ↦ absurd (true≢false (sym (end le) ∙ still)) ]

-- a byte at the front that stands in no name
pub no_name_front : (bytes : List ℕ) → (0 < length bytes → is_blank (get_or bytes 0 0) ≡ false) → 0 ≡ position_or_len ends bytes → starts_with_name (line_tokens bytes) ≡ false
no_name_front [] h is = rw none_left refl
no_name_front (b ∷ bytes) h is = cases (is_hash b) (is_mark b) refl refl
  where
    no_blank : is_blank b ≡ false
    no_blank = h (omega arith)

    cases : (x w : Bool) → is_hash b ≡ x → is_mark b ≡ w → starts_with_name (line_tokens (b ∷ bytes)) ≡ false
    cases true w e g = rw (comment_left b bytes e) refl
    cases false true e g = rw (mark_first b bytes no_blank g, mark_no_name b g) refl
    cases false false e g = no_name_within (b ∷ bytes) 0 is (omega arith) (rw (no_blank, g, e) refl)
