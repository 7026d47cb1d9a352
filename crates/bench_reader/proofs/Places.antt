-- Names in the order of first appearance, and their places.
use Rattle.std.proofs.Common.{◌≡◌, ℕ, zero, suc, ◌+◌, ◌<◌, ◌≤◌, ◌||◌, eq-eqb, Bool, true, false, not, cond, List, [], ◌∷◌, ◌++◌, length, map, get_or, refl, sym, ap, subst, ◌∙◌, arith, append_assoc, ◌⊎◌, inl, inr}
use Rattle.std.specs.List.{list_all, flat_map}
use Rattle.std.specs.Str.{bytes_eq}
use Rattle.std.proofs.lemmas.Bool.{and_parts, cases_lt}
use Rattle.std.proofs.lemmas.Grind.{flat_map-append}
use Rattle.std.proofs.lemmas.List.{append-nil, map-append, get_or_append_left, get_or_push, length-append}
use Rattle.std.proofs.lemmas.List.Folds.{list_any-append, list_all-append}
use Rattle.std.proofs.lemmas.List.Sums.{fold-append}
use Rattle.std.proofs.lemmas.Slice.Eq.{bytes_eq-Decides}
use Rattle.std.proofs.Math.Bool.{or-false, or-true}
use Rattle.indexmap.specs.IndexSet.{insert_key, insert_all}
use Rattle.bench_reader.specs.Lines.{Line}
use Rattle.bench_reader.specs.Netlists.{place, is_among, names, names_in}
use Rattle.bench_reader.specs.inner.Reading.{Numbered}

pub same_bytes : (n : List ℕ) → bytes_eq n n ≡ true
same_bytes [] = refl
same_bytes (b ∷ n) = rw (eq-eqb b b refl, same_bytes n) refl

pub same_names : (n m : List ℕ) → bytes_eq n m ≡ true → n ≡ m
same_names n m h = (bytes_eq-Decides n m).0 h

pub present_place : (n : List ℕ) (ks more : List (List ℕ)) → is_among ks n ≡ true → place (ks ++ more) n ≡ place ks n
present_place n [] more h = absurd cc
present_place n (k ∷ ks) more h = cases (present_place n ks more) (bytes_eq n k) h
  where
    cases : (again : is_among ks n ≡ true → place (ks ++ more) n ≡ place ks n) (b : Bool) → (b || is_among ks n) ≡ true → cond (not b) (1 + place (ks ++ more) n) 0 ≡ cond (not b) (1 + place ks n) 0
    cases again true h = refl
    cases again false h = ap (λ (x : ℕ). 1 + x) (again h)

pub present_lt : (n : List ℕ) (ks : List (List ℕ)) → is_among ks n ≡ true → place ks n < length ks
present_lt n [] h = absurd cc
present_lt n (k ∷ ks) h = cases (present_lt n ks) (bytes_eq n k) h
  where
    cases : (again : is_among ks n ≡ true → place ks n < length ks) (b : Bool) → (b || is_among ks n) ≡ true → cond (not b) (1 + place ks n) 0 < suc (length ks)
    cases again true h = omega arith
    cases again false h = let lt = again h in omega arith

pub absent_place : (n : List ℕ) (ks : List (List ℕ)) → is_among ks n ≡ false → place ks n ≡ length ks
absent_place n [] h = refl
absent_place n (k ∷ ks) h = cases (absent_place n ks) (bytes_eq n k) h
  where
    cases : (again : is_among ks n ≡ false → place ks n ≡ length ks) (b : Bool) → (b || is_among ks n) ≡ false → cond (not b) (1 + place ks n) 0 ≡ suc (length ks)
    cases again true h = absurd cc
    cases again false h = let e = again h in omega arith

pub found_at : (n : List ℕ) (ks : List (List ℕ)) → is_among ks n ≡ true → get_or ks (place ks n) [] ≡ n
found_at n [] h = absurd cc
found_at n (k ∷ ks) h = cases (found_at n ks) (bytes_eq n k) refl h
  where
    cases : (again : is_among ks n ≡ true → get_or ks (place ks n) [] ≡ n) (b : Bool) → bytes_eq n k ≡ b → (b || is_among ks n) ≡ true → get_or (k ∷ ks) (cond (not b) (1 + place ks n) 0) [] ≡ n
    cases again true e h = sym (same_names n k e)
    cases again false e h = let one : 1 + place ks n ≡ suc (place ks n) = omega arith in ap (λ (i : ℕ). get_or (k ∷ ks) i []) one ∙ again h

pub is_among_at : (ks : List (List ℕ)) (i : ℕ) → i < length ks → is_among ks (get_or ks i []) ≡ true
is_among_at [] i h = absurd (omega arith)
is_among_at (k ∷ ks) zero h = ap (λ (b : Bool). b || is_among ks k) (same_bytes k)
is_among_at (k ∷ ks) (suc i) h = ap (λ (b : Bool). bytes_eq (get_or ks i []) k || b) (is_among_at ks i (omega arith)) ∙ or-true (bytes_eq (get_or ks i []) k)

-- a name that is there keeps its place when another comes
pub place_kept : (n m : List ℕ) (ks : List (List ℕ)) → is_among ks n ≡ true → place (insert_key bytes_eq ks m) n ≡ place ks n
place_kept n m ks h = cases (is_among ks m)
  where
    cases : (b : Bool) → place (cond b ks (ks ++ m ∷ [])) n ≡ place ks n
    cases true = refl
    cases false = present_place n ks (m ∷ []) h

pub in_kept : (n : List ℕ) (ks more : List (List ℕ)) → is_among ks n ≡ true → is_among (ks ++ more) n ≡ true
in_kept n ks more h = list_any-append (bytes_eq n) ks more ∙ ap (λ (b : Bool). b || is_among more n) h

pub is_among_kept : (n m : List ℕ) (ks : List (List ℕ)) → is_among ks n ≡ true → is_among (insert_key bytes_eq ks m) n ≡ true
is_among_kept n m ks h = cases (is_among ks m)
  where
    cases : (b : Bool) → is_among (cond b ks (ks ++ m ∷ [])) n ≡ true
    cases true = h
    cases false = in_kept n ks (m ∷ []) h

pub is_among_new : (n : List ℕ) (ks : List (List ℕ)) → is_among (insert_key bytes_eq ks n) n ≡ true
is_among_new n ks = cases (is_among ks n) refl
  where
    cases : (b : Bool) → is_among ks n ≡ b → is_among (cond b ks (ks ++ n ∷ [])) n ≡ true
    cases true h = h
    cases false h = list_any-append (bytes_eq n) ks (n ∷ []) ∙ rw (h, same_bytes n) refl

at_end : (n : List ℕ) (ks : List (List ℕ)) → is_among ks n ≡ false → place (ks ++ n ∷ []) n ≡ place ks n
at_end n [] h = rw (same_bytes n) refl
at_end n (k ∷ ks) h = cases (at_end n ks) (bytes_eq n k) h
  where
    cases : (again : is_among ks n ≡ false → place (ks ++ n ∷ []) n ≡ place ks n) (b : Bool) → (b || is_among ks n) ≡ false → cond (not b) (1 + place (ks ++ n ∷ []) n) 0 ≡ cond (not b) (1 + place ks n) 0
    cases again true h = refl
    cases again false h = ap (λ (x : ℕ). 1 + x) (again h)

-- the place that a name gets is the one that it has then
pub place_new : (n : List ℕ) (ks : List (List ℕ)) → place (insert_key bytes_eq ks n) n ≡ place ks n
place_new n ks = cases (is_among ks n) refl
  where
    cases : (b : Bool) → is_among ks n ≡ b → place (cond b ks (ks ++ n ∷ [])) n ≡ place ks n
    cases true h = refl
    cases false h = at_end n ks h

-- no name stands twice
abbrev pub Distinct : List (List ℕ) → Type 0
Distinct ks = (i : ℕ) → i < length ks → place ks (get_or ks i []) ≡ i

pub distinct_insert : (ks : List (List ℕ)) (x : List ℕ) → Distinct ks → Distinct (insert_key bytes_eq ks x)
distinct_insert ks x d = cases (is_among ks x) refl
  where
    at : is_among ks x ≡ false → (i : ℕ) → i < length (ks ++ x ∷ []) → (i < length ks) ⊎ (length ks ≤ i) → place (ks ++ x ∷ []) (get_or (ks ++ x ∷ []) i []) ≡ i
    at none i h (inl lt) = rw (get_or_append_left ks (x ∷ []) [] i lt) (present_place (get_or ks i []) ks (x ∷ []) (is_among_at ks i lt) ∙ d i lt)
    at none i h (inr le) =
        let last : length ks ≡ i = omega (arith, length-append ks (x ∷ [])) in
        rw (get_or_push ks x [] i last) (at_end x ks none ∙ absent_place x ks none ∙ last)

    cases : (b : Bool) → is_among ks x ≡ b → Distinct (cond b ks (ks ++ x ∷ []))
    cases true h = d
    cases false h = λ i lt. at h i lt (cases_lt i (length ks))

distinct_all : (ks xs : List (List ℕ)) → Distinct ks → Distinct (insert_all bytes_eq ks xs)
distinct_all ks [] d = d
distinct_all ks (x ∷ xs) d = distinct_all (insert_key bytes_eq ks x) xs (distinct_insert ks x d)

pub names_distinct : (all : List Line) → Distinct (names all)
names_distinct all = distinct_all [] (flat_map names_in all) (λ i h. absurd (omega arith))

-- the names of other places are other names
pub other_at : (ks : List (List ℕ)) (n : List ℕ) (i : ℕ) → Distinct ks → i < length ks → (i ≡ place ks n → ⊥) → is_among (n ∷ []) (get_or ks i []) ≡ false
other_at ks n i d lt h = or-false (bytes_eq (get_or ks i []) n) ∙ cases (bytes_eq (get_or ks i []) n) refl
  where
    cases : (b : Bool) → bytes_eq (get_or ks i []) n ≡ b → b ≡ false
    cases true e = absurd (h (sym (d i lt) ∙ ap (place ks) (same_names (get_or ks i []) n e)))
    cases false e = refl

-- the names that are there stay in front
pub record Extends (ks new : List (List ℕ)) : Type 0 where
  pub more : List (List ℕ)
  pub is : new ≡ ks ++ more

insert_extends : (ks : List (List ℕ)) (x : List ℕ) → Extends ks (insert_key bytes_eq ks x)
insert_extends ks x = cases (is_among ks x)
  where
    cases : (b : Bool) → Extends ks (cond b ks (ks ++ x ∷ []))
    cases true = record { more = []; is = sym (append-nil ks) }
    cases false = record { more = x ∷ []; is = refl }

pub all_extends : (ks xs : List (List ℕ)) → Extends ks (insert_all bytes_eq ks xs)
all_extends ks [] = record { more = []; is = sym (append-nil ks) }
all_extends ks (x ∷ xs) =
    let first = insert_extends ks x in
    let rest = all_extends (insert_key bytes_eq ks x) xs in
    record { more = first.more ++ rest.more; is = rest.is ∙ ap (λ (l : List (List ℕ)). l ++ rest.more) first.is ∙ append_assoc ks first.more rest.more }

one_more : (ks : List (List ℕ)) (x n : List ℕ) → is_among (insert_key bytes_eq ks x) n ≡ (is_among ks n || bytes_eq n x)
one_more ks x n = cases (is_among ks x) (bytes_eq n x) refl refl
  where
    cases : (v w : Bool) → is_among ks x ≡ v → bytes_eq n x ≡ w → is_among (cond v ks (ks ++ x ∷ [])) n ≡ (is_among ks n || w)
    cases true true h e = let same : n ≡ x = same_names n x e in let there : is_among ks n ≡ true = subst (λ (y : List ℕ). is_among ks y ≡ true) (sym same) h in rw there refl
    cases true false h e = sym (or-false (is_among ks n))
    cases false w h e = list_any-append (bytes_eq n) ks (x ∷ []) ∙ ap (λ (b : Bool). is_among ks n || b) (or-false (bytes_eq n x) ∙ e)

or_assoc : (a b c : Bool) → ((a || b) || c) ≡ (a || (b || c))
or_assoc true b c = refl
or_assoc false b c = refl

-- the names kept are the names given
pub among_all : (ks xs : List (List ℕ)) (n : List ℕ) → is_among (insert_all bytes_eq ks xs) n ≡ (is_among ks n || is_among xs n)
among_all ks [] n = sym (or-false (is_among ks n))
among_all ks (x ∷ xs) n = among_all (insert_key bytes_eq ks x) xs n ∙ ap (λ (b : Bool). b || is_among xs n) (one_more ks x n) ∙ or_assoc (is_among ks n) (bytes_eq n x) (is_among xs n)

-- the names of some lines, with one more line
pub grown : (before : List Line) (line : Line) → names (before ++ line ∷ []) ≡ insert_all bytes_eq (names before) (names_in line)
grown before line =
    ap (insert_all bytes_eq []) (flat_map-append names_in before (line ∷ []) ∙ ap (λ (l : List (List ℕ)). flat_map names_in before ++ l) (append-nil (names_in line)))
    ∙ fold-append (insert_key bytes_eq) [] (flat_map names_in before) (names_in line)

cons_same : (x y : ℕ) (xs ys : List ℕ) → x ≡ y → xs ≡ ys → x ∷ xs ≡ y ∷ ys
cons_same x y xs ys e f = cc

all_kept : (done : List (List ℕ)) (ks : List (List ℕ)) (m : List ℕ) → list_all (is_among ks) done ≡ true → (map (place (insert_key bytes_eq ks m)) done ≡ map (place ks) done) × (list_all (is_among (insert_key bytes_eq ks m)) done ≡ true)
all_kept [] ks m h = (refl, refl)
all_kept (n ∷ done) ks m h =
    let both = and_parts (is_among ks n) (list_all (is_among ks) done) h in
    let rest = all_kept done ks m both.1 in
    (cons_same _ _ _ _ (place_kept n m ks both.0) rest.0, rw (is_among_kept n m ks both.0) rest.1)

pub numbered_kept : (ks : List (List ℕ)) (ids : List ℕ) (done : List (List ℕ)) (m : List ℕ) → Numbered ks ids done → Numbered (insert_key bytes_eq ks m) ids done
numbered_kept ks ids done m h = let kept = all_kept done ks m h.there in record { ids_are = h.ids_are ∙ sym kept.0; there = kept.1 }

pub numbered_all : (ks : List (List ℕ)) (ids : List ℕ) (done xs : List (List ℕ)) → Numbered ks ids done → Numbered (insert_all bytes_eq ks xs) ids done
numbered_all ks ids done [] h = h
numbered_all ks ids done (x ∷ xs) h = numbered_all (insert_key bytes_eq ks x) ids done xs (numbered_kept ks ids done x h)

pub numbered_more : (ks : List (List ℕ)) (ids more : List ℕ) (done names : List (List ℕ)) → Numbered ks ids done → Numbered ks more names → Numbered ks (ids ++ more) (done ++ names)
numbered_more ks ids more done names h m = record {
  ids_are = ap (λ (l : List ℕ). l ++ more) h.ids_are ∙ ap (λ (l : List ℕ). map (place ks) done ++ l) m.ids_are ∙ sym (map-append (place ks) done names);
  there = list_all-append (is_among ks) done names ∙ rw (h.there, m.there) refl;
}

-- one more name is numbered
pub number_step : (ks : List (List ℕ)) (ids : List ℕ) (done : List (List ℕ)) (n : List ℕ) → Numbered ks ids done → Numbered (insert_key bytes_eq ks n) (ids ++ place (insert_key bytes_eq ks n) n ∷ []) (done ++ n ∷ [])
number_step ks ids done n h =
    let new = insert_key bytes_eq ks n in
    numbered_more new ids (place new n ∷ []) done (n ∷ []) (numbered_kept ks ids done n h) (record { ids_are = refl; there = rw (is_among_new n ks) refl })
