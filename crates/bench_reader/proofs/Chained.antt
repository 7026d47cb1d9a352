-- Names in chains, by a hash.
use Rattle.std.proofs.Common.{◌≡◌, ℕ, zero, suc, ◌+◌, ◌<◌, ◌≤◌, Bool, true, false, cond, eqb, List, [], ◌∷◌, length, get_or, set, replicate, Some, refl, sym, ap, subst, ◌∙◌, arith, ◌⊎◌, inl, inr, eq-eqb}
use Rattle.std.specs.List.{slice_get}
use Rattle.std.specs.Str.{bytes_eq}
use Rattle.std.proofs.lemmas.Bool.{true≢false, cases_lt, cases_eq, eqb-true, eqb-false, ne_eqb}
use Rattle.std.proofs.lemmas.List.{length-set, length-replicate, get_or-set_same, get_or-set_other, get_or-replicate}
use Rattle.bench_reader.specs.inner.Chains.{bucket_of, bucket_at, last_in, AreLinked, IsChained, BeginsChain, IsNowhere}
use Rattle.bench_reader.proofs.Places.{same_bytes, same_names}

-- the last of the first n names in a bucket
module _ (bucket : ℕ → ℕ) (b : ℕ) where
  pub last_in-le : (n : ℕ) → last_in bucket b n ≤ n
  last_in-le zero = omega arith
  last_in-le (suc n) = cases (last_in-le n) (eqb (bucket n) b)
    where
      cases : last_in bucket b n ≤ n → (t : Bool) → cond t (suc n) (last_in bucket b n) ≤ suc n
      cases again true = omega arith
      cases again false = omega arith

  -- where there is none
  pub last_in-none : (n : ℕ) → last_in bucket b n ≡ 0 → (i : ℕ) → i < n → bucket i ≡ b → ⊥
  last_in-none zero h i lt e = absurd (omega arith)
  last_in-none (suc n) h i lt e = cases (last_in-none n) (eqb (bucket n) b) refl h (cases_eq i n)
    where
      cases : (last_in bucket b n ≡ 0 → (i : ℕ) → i < n → bucket i ≡ b → ⊥) → (t : Bool) → eqb (bucket n) b ≡ t → cond t (suc n) (last_in bucket b n) ≡ 0 → (i ≡ n) ⊎ (i ≡ n → ⊥) → ⊥
      cases again true t h s = absurd (omega arith)
      cases again false t h (inl s) = eqb-false (bucket n) b t (ap bucket (sym s) ∙ e)
      cases again false t h (inr s) = again h i (omega arith) e

  -- where there is one, it lies in the bucket, and none behind it does
  pub record IsLast (n i : ℕ) : Type 0 where
    pub below : i < n
    pub lies : bucket i ≡ b
    pub behind : (j : ℕ) → i < j → j < n → bucket j ≡ b → ⊥

  pub last_in-some : (n i : ℕ) → last_in bucket b n ≡ suc i → IsLast n i
  last_in-some zero i h = absurd (omega arith)
  last_in-some (suc n) i h = cases (last_in-some n i) (eqb (bucket n) b) refl h
    where
      cases : (last_in bucket b n ≡ suc i → IsLast n i) → (t : Bool) → eqb (bucket n) b ≡ t → cond t (suc n) (last_in bucket b n) ≡ suc i → IsLast (suc n) i
      cases again true t h =
          let same : n ≡ i = omega arith in
          record { below = omega arith; lies = ap bucket (sym same) ∙ eqb-true (bucket n) b t; behind = λ j up lt e. absurd (omega arith) }
      cases again false t h =
          let last = again h in
          record { below = omega (arith, last.below); lies = last.lies; behind = λ j up lt e. behind last j up lt e (cases_eq j n) }
        where
          behind : IsLast n i → (j : ℕ) → i < j → j < suc n → bucket j ≡ b → (j ≡ n) ⊎ (j ≡ n → ⊥) → ⊥
          behind last j up lt e (inl s) = eqb-false (bucket n) b t (ap bucket (sym s) ∙ e)
          behind last j up lt e (inr s) = last.behind j up (omega arith) e

-- buckets that agree on the first n names
pub last_in-same : (f g : ℕ → ℕ) (b n : ℕ) → ((i : ℕ) → i < n → f i ≡ g i) → last_in f b n ≡ last_in g b n
last_in-same f g b zero h = refl
last_in-same f g b (suc n) h =
    let again : last_in f b n ≡ last_in g b n = last_in-same f g b n (λ i lt. h i (omega arith)) in
    ap (λ (x : ℕ). cond (eqb x b) (suc n) (last_in f b n)) (h n (omega arith)) ∙ ap (λ (x : ℕ). cond (eqb (g n) b) (suc n) x) again

pub linked-same : (f g : ℕ → ℕ) (n : ℕ) (earlier : List ℕ) → ((i : ℕ) → i < n → f i ≡ g i) → AreLinked f n earlier → AreLinked g n earlier
linked-same f g n earlier h links i lt = links i lt ∙ ap (λ (b : ℕ). last_in f b i) (h i lt) ∙ last_in-same f g (g i) i (λ j below. h j (omega arith))

pub chained-same : (f g : ℕ → ℕ) (n : ℕ) (latest earlier : List ℕ) → ((i : ℕ) → i < n → f i ≡ g i) → IsChained f n latest earlier → IsChained g n latest earlier
chained-same f g n latest earlier h c = record { heads = λ b lt. c.heads b lt ∙ last_in-same f g b n h; links = linked-same f g n earlier h c.links }

-- the name with a number
pub got : (names : List (List ℕ)) (i : ℕ) (name : List ℕ) → slice_get names i ≡ Some name → get_or names i [] ≡ name
got [] i name h = absurd cc
got (k ∷ names) zero name h = cc
got (k ∷ names) (suc i) name h = got names i name h

-- where the bytes are told to be the same, and where they are not
pub same : (name other : List ℕ) (b : Bool) → b ≡ bytes_eq other name → b ≡ true → other ≡ name
same name other b h t = same_names other name (sym h ∙ t)

pub differs : (name other : List ℕ) (b : Bool) → b ≡ bytes_eq other name → b ≡ false → other ≡ name → ⊥
differs name other b h f e =
    let t : bytes_eq other name ≡ true = subst (λ (n : List ℕ). bytes_eq n name ≡ true) (sym e) (same_bytes name) in
    true≢false (sym t ∙ sym h ∙ f)

-- no name yet
pub chained-none : (bucket : ℕ → ℕ) (count : ℕ) (latest earlier : List ℕ) → latest ≡ replicate count 0 → IsChained bucket 0 latest earlier
chained-none bucket count latest earlier is = record {
  heads = λ b lt. ap (λ (l : List ℕ). get_or l b 0) is ∙ get_or-replicate count b 0 0 (omega (arith, ap length is, length-replicate {A = ℕ} count 0));
  links = λ i lt. absurd (omega arith);
}

-- one more name
pub linked-link : (bucket : ℕ → ℕ) (n last : ℕ) (earlier : List ℕ) → AreLinked bucket n earlier → n < length earlier → last ≡ last_in bucket (bucket n) n → AreLinked bucket (suc n) (set earlier n last)
linked-link bucket n last earlier links room last-is i h = cases (cases_eq i n)
  where
    cases : (i ≡ n) ⊎ (i ≡ n → ⊥) → get_or (set earlier n last) i 0 ≡ last_in bucket (bucket i) i
    cases (inl same) = subst (λ (k : ℕ). get_or (set earlier n last) k 0 ≡ last_in bucket (bucket k) k) (sym same) (get_or-set_same earlier n last 0 room ∙ last-is)
    cases (inr other) = get_or-set_other earlier n i last 0 other ∙ links i (omega arith)

pub chained-link : (bucket : ℕ → ℕ) (n m b : ℕ) (latest earlier : List ℕ) → m ≡ suc n → IsChained bucket n latest earlier → n < length earlier → b < length latest → bucket n ≡ b → IsChained bucket m (set latest b m) (set earlier n (get_or latest b 0))
chained-link bucket n m b latest earlier next c room lt is = subst (λ (k : ℕ). IsChained bucket k (set latest b k) (set earlier n (get_or latest b 0))) (sym next) (record {
  heads = λ a h. head a (omega (arith, length-set latest b (suc n))) (cases_eq a b);
  links = linked-link bucket n (get_or latest b 0) earlier c.links room (c.heads b lt ∙ ap (λ (x : ℕ). last_in bucket x n) (sym is));
})
  where
    head : (a : ℕ) → a < length latest → (a ≡ b) ⊎ (a ≡ b → ⊥) → get_or (set latest b (suc n)) a 0 ≡ cond (eqb (bucket n) a) (suc n) (last_in bucket a n)
    head a h (inl same) =
        let yes : eqb (bucket n) a ≡ true = eq-eqb (bucket n) a (is ∙ sym same) in
        ap (λ (k : ℕ). get_or (set latest b (suc n)) k 0) same ∙ get_or-set_same latest b (suc n) 0 lt ∙ sym (ap (λ (t : Bool). cond t (suc n) (last_in bucket a n)) yes)
    head a h (inr other) =
        let no : eqb (bucket n) a ≡ false = ne_eqb (bucket n) a (λ e. other (sym e ∙ is)) in
        get_or-set_other latest b a (suc n) 0 other ∙ c.heads a h ∙ sym (ap (λ (t : Bool). cond t (suc n) (last_in bucket a n)) no)

pub chained-next : (names : List (List ℕ)) (name latest earlier new_latest new_earlier : List ℕ) (n count b : ℕ) → IsChained (bucket_at (bucket_of count) names) n latest earlier → length latest ≡ count → length earlier ≡ count → n < count → slice_get names n ≡ Some name
    → b ≡ bucket_of count name → b < count → new_latest ≡ set latest b (n + 1) → new_earlier ≡ set earlier n (get_or latest b 0) → IsChained (bucket_at (bucket_of count) names) (n + 1) new_latest new_earlier
chained-next names name latest earlier new_latest new_earlier n count b c latest-len earlier-len room at b-is lt latest-is earlier-is =
    let lies : bucket_at (bucket_of count) names n ≡ b = ap (bucket_of count) (got names n name at) ∙ sym b-is in
    let linked = chained-link (bucket_at (bucket_of count) names) n (n + 1) b latest earlier (omega arith) c (omega arith) (omega arith) lies in
    subst (λ (l : List ℕ). IsChained (bucket_at (bucket_of count) names) (n + 1) l new_earlier) (sym latest-is) (subst (λ (l : List ℕ). IsChained (bucket_at (bucket_of count) names) (n + 1) (set latest b (n + 1)) l) (sym earlier-is) linked)

-- a chain, followed down to an entry
pub record IsFollowed (names : List (List ℕ)) (earlier : List ℕ) (name : List ℕ) (last : ℕ) : Type 0 where
  pub bucket : List ℕ → ℕ
  pub links : AreLinked (bucket_at bucket names) (length names) earlier
  pub room : length names ≤ length earlier
  pub at : ℕ
  pub within : at ≤ length names
  pub entry : last ≡ last_in (bucket_at bucket names) (bucket name) at
  pub behind : (j : ℕ) → at ≤ j → j < length names → get_or names j [] ≡ name → ⊥

pub followed-first : (names : List (List ℕ)) (earlier name : List ℕ) (last : ℕ) → BeginsChain names earlier name last → IsFollowed names earlier name last
followed-first names earlier name last h = record { bucket = h.bucket; links = h.links; room = h.room; at = length names; within = omega arith; entry = h.begins; behind = λ j up lt e. absurd (omega arith) }

pub followed-below : (names : List (List ℕ)) (earlier name : List ℕ) (last : ℕ) → IsFollowed names earlier name last → last ≤ length names
followed-below names earlier name last f = omega (arith, f.within, f.entry, last_in-le (bucket_at f.bucket names) (f.bucket name) f.at)

pub followed-next : (names : List (List ℕ)) (earlier name : List ℕ) (last number next : ℕ) → IsFollowed names earlier name last → last ≡ suc number → (get_or names number [] ≡ name → ⊥) → next ≡ get_or earlier number 0 → IsFollowed names earlier name next
followed-next names earlier name last number next f is other next-is =
    let bucket = bucket_at f.bucket names in
    let found = last_in-some bucket (f.bucket name) f.at number (sym f.entry ∙ is) in
    record {
      bucket = f.bucket;
      links = f.links;
      room = f.room;
      at = number;
      within = omega (arith, found.below, f.within);
      entry = next-is ∙ f.links number (omega (arith, found.below, f.within)) ∙ ap (λ (x : ℕ). last_in bucket x number) found.lies;
      behind = λ j up lt e. behind j up lt e found (cases_eq j number) (cases_lt j f.at);
    }
  where
    behind : (j : ℕ) → number ≤ j → j < length names → get_or names j [] ≡ name → IsLast (bucket_at f.bucket names) (f.bucket name) f.at number → (j ≡ number) ⊎ (j ≡ number → ⊥) → (j < f.at) ⊎ (f.at ≤ j) → ⊥
    behind j up lt e found (inl s) t = other (ap (λ (k : ℕ). get_or names k []) (sym s) ∙ e)
    behind j up lt e found (inr s) (inl t) = found.behind j (omega arith) t (ap f.bucket e)
    behind j up lt e found (inr s) (inr t) = f.behind j t lt e

pub followed-smaller : (names : List (List ℕ)) (earlier name : List ℕ) (last number next : ℕ) → IsFollowed names earlier name last → last ≡ suc number → next ≡ get_or earlier number 0 → next < last
followed-smaller names earlier name last number next f is next-is =
    let bucket = bucket_at f.bucket names in
    let found = last_in-some bucket (f.bucket name) f.at number (sym f.entry ∙ is) in
    omega (arith, next-is, f.links number (omega (arith, found.below, f.within)), last_in-le bucket (bucket number) number)

pub followed-last : (names : List (List ℕ)) (earlier name : List ℕ) (last : ℕ) → IsFollowed names earlier name last → last ≡ 0 → IsNowhere names name
followed-last names earlier name last f none i lt e = cases (cases_lt i f.at)
  where
    cases : (i < f.at) ⊎ (f.at ≤ i) → ⊥
    cases (inl h) = last_in-none (bucket_at f.bucket names) (f.bucket name) f.at (sym f.entry ∙ none) i h (ap f.bucket e)
    cases (inr h) = f.behind i h lt e
