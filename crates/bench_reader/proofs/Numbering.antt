-- Names, each with its number.
use Rattle.std.proofs.Common.{◌≡◌, ℕ, suc, ◌+◌, ◌<◌, ◌≤◌, ◌||◌, Bool, true, false, cond, ltb, List, [], ◌∷◌, ◌++◌, length, get_or, set, Option, Some, None, refl, sym, ap, subst, ◌∙◌, arith, length-append}
use Rattle.std.specs.Prelude.{MatchOption}
use Rattle.std.specs.List.{position}
use Rattle.std.specs.Str.{bytes_eq}
use Rattle.std.proofs.lemmas.Bool.{lt-ltb, le-ltb}
use Rattle.std.proofs.lemmas.List.{length-set, get_or_append_left, get_or_push}
use Rattle.texts.proofs.Callers.{found, found_none}
use Rattle.indexmap.specs.IndexSet.{insert_key}
use Rattle.bench_reader.specs.Netlists.{place, is_among}
use Rattle.bench_reader.specs.inner.Chains.{bucket_of, bucket_at, last_in, IsChained, AreChained, BeginsChain, IsNowhere, HasNumber, IsEachOnce}
use Rattle.bench_reader.proofs.Places.{Distinct, distinct_insert, same_names, present_lt, absent_place, place_new}
use Rattle.bench_reader.proofs.Chained.{chained-same, chained-link}

-- chains of all the names
pub chains-all : (names : List (List ℕ)) (latest earlier : List ℕ) (n count : ℕ) → IsChained (bucket_at (bucket_of count) names) n latest earlier → n ≡ length names → length latest ≡ count → length earlier ≡ count → length names ≤ count → count < 4294967296 → AreChained names latest earlier
chains-all names latest earlier n count c n-is buckets same room few = record {
  chained = subst (λ (k : ℕ). IsChained (bucket_at (bucket_of k) names) (length names) latest earlier) (sym buckets) (subst (λ (k : ℕ). IsChained (bucket_at (bucket_of count) names) k latest earlier) n-is c);
  room = omega arith;
  same = same ∙ sym buckets;
  few = omega arith;
}

pub chain-begins : (names : List (List ℕ)) (latest earlier name : List ℕ) (b last : ℕ) → AreChained names latest earlier → b ≡ bucket_of (length latest) name → b < length latest → last ≡ get_or latest b 0 → BeginsChain names earlier name last
chain-begins names latest earlier name b last c b-is lt last-is = record {
  bucket = bucket_of (length latest);
  begins = last-is ∙ c.chained.heads b lt ∙ ap (λ (x : ℕ). last_in (bucket_at (bucket_of (length latest)) names) x (length names)) b-is;
  links = c.chained.links;
  room = omega (arith, c.room, c.same);
}

-- a name that is nowhere
nowhere-among : (names : List (List ℕ)) (name : List ℕ) → IsNowhere names name → is_among names name ≡ false
nowhere-among [] name h = refl
nowhere-among (k ∷ names) name h = cases (nowhere-among names name (λ i lt e. h (suc i) (omega arith) e)) (bytes_eq name k) refl
  where
    cases : is_among names name ≡ false → (t : Bool) → bytes_eq name k ≡ t → (t || is_among names name) ≡ false
    cases again true t = absurd (h 0 (omega arith) (sym (same_names name k t)))
    cases again false t = again

pub nowhere-position : (names : List (List ℕ)) (name : List ℕ) → IsNowhere names name → position (bytes_eq name) names ≡ None
nowhere-position names name h =
    let past : place names name ≡ length names = absent_place name names (nowhere-among names name h) in
    let no : ltb (place names name) (length names) ≡ false = le-ltb _ _ (omega (arith, past)) in
    rw no refl

pub empty-position : (names : List (List ℕ)) (name : List ℕ) (count : ℕ) → length names ≤ count → count ≡ 0 → position (bytes_eq name) names ≡ None
empty-position names name count le none = nowhere-position names name (λ i lt e. absurd (omega arith))

-- a name that has a number
pub number-position : (names : List (List ℕ)) (name : List ℕ) (number : ℕ) → Distinct names → HasNumber names name number → position (bytes_eq name) names ≡ Some number
number-position names name number d h =
    let at : place names name ≡ number = ap (place names) (sym h.there) ∙ d number h.within in
    let yes : ltb (place names name) (length names) ≡ true = lt-ltb _ _ (omega (arith, at, h.within)) in
    rw yes (ap Some at)

pub seek-position : (names : List (List ℕ)) (name : List ℕ) (r : Option ℕ) → Distinct names → MatchOption r (IsNowhere names name) (HasNumber names name) → r ≡ position (bytes_eq name) names
seek-position names name None d h = sym (nowhere-position names name h)
seek-position names name (Some number) d h = sym (number-position names name number d h)

among-known : (names : List (List ℕ)) (name : List ℕ) (number : ℕ) → position (bytes_eq name) names ≡ Some number → is_among names name ≡ true
among-known names name number h = cases (is_among names name) refl
  where
    cases : (b : Bool) → is_among names name ≡ b → b ≡ true
    cases true e = refl
    cases false e = let at = found (bytes_eq name) names number h in absurd (omega (arith, at.0, at.1, absent_place name names e))

pub among-new : (names : List (List ℕ)) (name : List ℕ) → position (bytes_eq name) names ≡ None → is_among names name ≡ false
among-new names name h = cases (is_among names name) refl
  where
    cases : (b : Bool) → is_among names name ≡ b → b ≡ false
    cases false e = refl
    cases true e = absurd (omega (arith, found_none (bytes_eq name) names h, present_lt name names e))

-- the names with one that is there already
pub known-key : (names : List (List ℕ)) (name : List ℕ) (number : ℕ) → position (bytes_eq name) names ≡ Some number → names ≡ insert_key bytes_eq names name
known-key names name number h = sym (ap (λ (b : Bool). cond b names (names ++ name ∷ [])) (among-known names name number h))

pub known-place : (names : List (List ℕ)) (name : List ℕ) (number : ℕ) → position (bytes_eq name) names ≡ Some number → number ≡ place names name
known-place names name number h = sym (found (bytes_eq name) names number h).0

pub known-within : (names : List (List ℕ)) (name : List ℕ) (number : ℕ) → position (bytes_eq name) names ≡ Some number → number < length names
known-within names name number h = (found (bytes_eq name) names number h).1

-- the names with a new one
pub new-key : (names new : List (List ℕ)) (name : List ℕ) → position (bytes_eq name) names ≡ None → new ≡ names ++ name ∷ [] → new ≡ insert_key bytes_eq names name
new-key names new name h is = is ∙ sym (ap (λ (b : Bool). cond b names (names ++ name ∷ [])) (among-new names name h))

pub new-place : (names new : List (List ℕ)) (name : List ℕ) (number : ℕ) → position (bytes_eq name) names ≡ None → new ≡ names ++ name ∷ [] → number ≡ length names → number ≡ place new name
new-place names new name number h is number-is =
    number-is ∙ sym (absent_place name names (among-new names name h)) ∙ sym (place_new name names) ∙ ap (λ (l : List (List ℕ)). place l name) (sym (new-key names new name h is))

-- the buckets of the names with a new one
pub same-buckets : (bucket : List ℕ → ℕ) (names : List (List ℕ)) (name : List ℕ) (i : ℕ) → i < length names → bucket_at bucket names i ≡ bucket_at bucket (names ++ name ∷ []) i
same-buckets bucket names name i lt = ap bucket (sym (get_or_append_left names (name ∷ []) [] i lt))

-- all names are numbered, with a new one
pub numbered-new : (names : List (List ℕ)) (name latest earlier new_latest new_earlier : List ℕ) (b : ℕ) → AreChained names latest earlier → Distinct names → position (bytes_eq name) names ≡ None → length names < length latest
    → b ≡ bucket_of (length latest) name → b < length latest → new_latest ≡ set latest b (length names + 1) → new_earlier ≡ set earlier (length names) (get_or latest b 0) → IsEachOnce (names ++ name ∷ []) new_latest new_earlier
numbered-new names name latest earlier new_latest new_earlier b c d fresh room b-is lt latest-is earlier-is = record {
  chains = chains-all new new_latest new_earlier (n + 1) count
      (subst (λ (l : List ℕ). IsChained (bucket_at (bucket_of count) new) (n + 1) l new_earlier) (sym latest-is) (subst (λ (l : List ℕ). IsChained (bucket_at (bucket_of count) new) (n + 1) (set latest b (n + 1)) l) (sym earlier-is) linked))
      (sym (length-append names (name ∷ []))) buckets (ap length earlier-is ∙ length-set earlier n (get_or latest b 0) ∙ c.same) (omega (arith, length-append names (name ∷ []))) c.few;
  distinct = subst Distinct (sym (new-key names new name fresh refl)) (distinct_insert names name d);
}
  where
    n : ℕ
    n = length names

    count : ℕ
    count = length latest

    new : List (List ℕ)
    new = names ++ name ∷ []

    last : bucket_at (bucket_of count) new n ≡ b
    last = ap (bucket_of count) (get_or_push names name [] n refl) ∙ sym b-is

    linked : IsChained (bucket_at (bucket_of count) new) (n + 1) (set latest b (n + 1)) (set earlier n (get_or latest b 0))
    linked = chained-link (bucket_at (bucket_of count) new) n (n + 1) b latest earlier (omega arith) (chained-same (bucket_at (bucket_of count) names) (bucket_at (bucket_of count) new) n latest earlier (same-buckets (bucket_of count) names name) c.chained) (omega (arith, c.same, room)) lt last

    buckets : length new_latest ≡ count
    buckets = ap length latest-is ∙ length-set latest b (n + 1)
