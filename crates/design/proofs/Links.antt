-- Readers kept as links.
use Rattle.std.proofs.Common.{◌≡◌, ℕ, zero, suc, ◌+◌, ◌-◌, ◌<◌, ◌≤◌, Bool, false, eq-eqb, List, [], ◌∷◌, ◌++◌, length, get_or, set, map, refl, sym, ap, ap₂, ◌∙◌, subst, arith, inl, inr, length-set}
use Rattle.std.specs.Prelude.{nat_eq, replicate, if◌then◌else◌}
use Rattle.std.proofs.lemmas.Bool.{cases_lt, cases_eq, ne_eqb}
use Rattle.std.proofs.lemmas.List.{get_or_append_left, get_or_push, length_push, get_or-set_same, get_or-set_other, get_or-map, map-set, append_assoc, append-nil, length-map}
use Rattle.design.specs.declared.readers.Link.{Link}
use Rattle.design.specs.inner.Links.{link_at, readers_from, lists_of, AreLinks}
use Rattle.design.specs.inner.Walk.{list_at}

apart : (a b : ℕ) → a < b → nat_eq a b ≡ false
apart a b l = ne_eqb a b (λ e. omega (arith, e, l))

-- one case of the definition
abbrev from : List Link → ℕ → ℕ → Bool → List ℕ
from links n k b = if b then (link_at links n).reader ∷ readers_from links n (link_at links n).before else readers_from links n k

skip : (links : List Link) (n k : ℕ) → k ≤ n → readers_from links (suc n) k ≡ readers_from links n k
skip links n k l = ap (from links n k) (apart k (suc n) (omega arith))

-- links after k make no difference to it
fewer : (links : List Link) (m n k : ℕ) → k ≤ m → m ≤ n → readers_from links n k ≡ readers_from links m k
fewer links m zero k l h = let e : zero ≡ m = omega arith in ap (λ j. readers_from links j k) e
fewer links m (suc n) k l h = elim (cases_lt n m) [
  | inl a ↦ let e : suc n ≡ m = omega arith in ap (λ j. readers_from links j k) e
  | inr a ↦ skip links n k (omega arith) ∙ fewer links m n k l a
]

-- no link has the number 0
pub from-none : (links : List Link) (n : ℕ) → readers_from links n 0 ≡ []
from-none links zero = refl
from-none links (suc n) = skip links n 0 (omega arith) ∙ from-none links n

-- a link and those before it
pub from-link : (links : List Link) (n k : ℕ) → k < n → (link_at links k).before ≤ k → readers_from links n (suc k) ≡ (link_at links k).reader ∷ readers_from links n (link_at links k).before
from-link links n k l b =
    fewer links (suc k) n (suc k) (omega arith) (omega arith) ∙ ap (from links k (suc k)) (eq-eqb (suc k) (suc k) refl)
    ∙ ap (λ xs. (link_at links k).reader ∷ xs) (sym (fewer links k n (link_at links k).before b (omega arith)))

module _ (links : List Link) (x : Link) where
  abbrev more : List Link
  more = links ++ x ∷ []

  -- a link more changes nothing before it
  from-before : (n k : ℕ) → n ≤ length links → readers_from more n k ≡ readers_from links n k
  from-before zero k h = refl
  from-before (suc n) k h =
      let at : link_at more n ≡ link_at links n = get_or_append_left links (x ∷ []) (record { reader = 0; before = 0 }) n (omega arith) in
      ap (λ (y : Link). if nat_eq k (suc n) then y.reader ∷ readers_from more n y.before else readers_from more n k) at
      ∙ ap₂ (λ (xs : List ℕ) (ys : List ℕ). if nat_eq k (suc n) then (link_at links n).reader ∷ xs else ys) (from-before n (link_at links n).before (omega arith)) (from-before n k (omega arith))

  long : length more ≡ suc (length links)
  long = let e = length_push links x in omega (arith, e)

  from-old : (k : ℕ) → k ≤ length links → readers_from more (length more) k ≡ readers_from links (length links) k
  from-old k l = ap (λ n. readers_from more n k) long ∙ skip more (length links) k l ∙ from-before (length links) k (omega arith)

  last-link : link_at more (length links) ≡ x
  last-link = get_or_push links x (record { reader = 0; before = 0 }) (length links) refl

  from-new : x.before ≤ length links → readers_from more (length more) (suc (length links)) ≡ x.reader ∷ readers_from links (length links) x.before
  from-new b =
      from-link more (length more) (length links) (omega (arith, long)) (subst (λ (y : Link). y.before ≤ length links) (sym last-link) b)
      ∙ ap (λ (y : Link). y.reader ∷ readers_from more (length more) y.before) last-link ∙ ap (λ xs. x.reader ∷ xs) (from-old x.before b)

maps-same : (f g : ℕ → List ℕ) (xs : List ℕ) → ((i : ℕ) → i < length xs → f (get_or xs i 0) ≡ g (get_or xs i 0)) → map f xs ≡ map g xs
maps-same f g [] h = refl
maps-same f g (x ∷ xs) h = ap₂ (λ (y : List ℕ) (ys : List (List ℕ)). y ∷ ys) (h 0 (omega arith)) (maps-same f g xs (λ i l. h (suc i) (omega arith)))

-- a list is read by the link that is its last
pub list-from : (links : List Link) (last : List ℕ) (s : ℕ) → s < length last → list_at (lists_of links last) s ≡ readers_from links (length links) (get_or last s 0)
list-from links last s l = get_or-map (readers_from links (length links)) last s 0 [] l

module _ (links links' : List Link) (last last' : List ℕ) (s reader before number : ℕ) (ok : AreLinks links last) (l : s < length last)
    (e : links' ≡ links ++ (record { reader = reader; before = before }) ∷ []) (b : before ≡ get_or last s 0) (n : number ≡ length links + 1) (p : last' ≡ set last s number) where
  abbrev x : Link
  x = record { reader = reader; before = before }

  low : before ≤ length links
  low = let h = ok.within s l in omega (arith, h, b)

  is : number ≡ suc (length links)
  is = omega (arith, n)

  -- a reader more of the signal s
  pub lists-pushed : lists_of links' last' ≡ set (lists_of links last) s (reader ∷ list_at (lists_of links last) s)
  lists-pushed =
      ap₂ lists_of e (p ∙ ap (set last s) is)
      ∙ map-set (readers_from (more links x) (length (more links x))) last s (suc (length links))
      ∙ ap₂ (λ (xs : List (List ℕ)) (ys : List ℕ). set xs s ys)
      (maps-same (readers_from (more links x) (length (more links x))) (readers_from links (length links)) last (λ i h. from-old links x (get_or last i 0) (ok.within i h)))
      (from-new links x low ∙ ap (λ xs. reader ∷ xs) (ap (readers_from links (length links)) b ∙ sym (list-from links last s l)))

  longer : length links' ≡ suc (length links)
  longer = ap length e ∙ long links x

  pub links-pushed : AreLinks links' last'
  links-pushed = record {
    earlier = λ k h. elim (cases_lt k (length links)) [
      | inl a ↦ subst (λ (y : Link). y.before ≤ k) (sym (ap (λ ys. link_at ys k) e ∙ get_or_append_left links (x ∷ []) (record { reader = 0; before = 0 }) k a)) (ok.earlier k a)
      | inr a ↦
          let k-is : k ≡ length links = omega (arith, a, h, longer) in
          subst (λ j. (link_at links' j).before ≤ j) (sym k-is) (subst (λ (y : Link). y.before ≤ length links) (sym (ap (λ ys. link_at ys (length links)) e ∙ last-link links x)) low)
    ];
    within = λ i h.
        let i-in : i < length last = let q = ap length p ∙ length-set last s number in omega (arith, h, q) in
        elim (cases_eq i s) [
          | inl a ↦
              let at : get_or last' i 0 ≡ number = ap₂ (λ (xs : List ℕ) (j : ℕ). get_or xs j 0) p a ∙ get_or-set_same last s number 0 l in
              omega (arith, at, is, longer)
          | inr a ↦
              let at : get_or last' i 0 ≡ get_or last i 0 = ap (λ xs. get_or xs i 0) p ∙ get_or-set_other last s i number 0 a in
              let q = ok.within i i-in in
              omega (arith, at, q, longer)
        ];
  }

-- the walk back along the links has found one reader more
pub found-next : (links : List Link) (number : ℕ) (x : Link) (found found' whole : List ℕ) → (0 < number) → number ≤ length links → ((k : ℕ) → k < length links → (link_at links k).before ≤ k)
    → x ≡ link_at links (number - 1) → found' ≡ found ++ x.reader ∷ [] → found ++ readers_from links (length links) number ≡ whole
    → (found' ++ readers_from links (length links) x.before ≡ whole) × (x.before < number)
found-next links zero x found found' whole some l earlier at e h = absurd (omega arith)
found-next links (suc k) x found found' whole some l earlier at e h =
    let down : suc k - 1 ≡ k = omega arith in
    let at' : x ≡ link_at links k = at ∙ ap (link_at links) down in
    let low : x.before ≤ k = subst (λ (y : Link). y.before ≤ k) (sym at') (earlier k (omega arith)) in (
      ap (λ xs. xs ++ readers_from links (length links) x.before) e ∙ append_assoc found (x.reader ∷ []) (readers_from links (length links) x.before)
          ∙ ap (λ xs. found ++ xs) (ap (λ (y : Link). y.reader ∷ readers_from links (length links) y.before) at' ∙ sym (from-link links (length links) k (omega arith) (earlier k (omega arith)))) ∙ h,
      omega (arith, low),
    )

-- a signal of the lists has a last link
pub last-within : (links : List Link) (last : List ℕ) (lists : List (List ℕ)) (s : ℕ) → lists_of links last ≡ lists → s < length lists → s < length last
last-within links last lists s e l = let n = ap length e in let m = length-map last (readers_from links (length links)) in omega (arith, n, m, l)

-- with no link nothing is read
pub none-linked : (links : List Link) (last : List ℕ) (n : ℕ) → links ≡ [] → last ≡ replicate n 0 → lists_of links last ≡ replicate n []
none-linked links last n e f = ap₂ lists_of e f ∙ nothing n
  where
    nothing : (n : ℕ) → lists_of [] (replicate n 0) ≡ replicate n []
    nothing zero = refl
    nothing (suc n) = ap (λ (xs : List (List ℕ)). [] ∷ xs) (nothing n)

module _ (links : List Link) (last : List ℕ) (s : ℕ) (found : List ℕ) (number : ℕ) (l : s < length last) where
  pub found-none : AreLinks links last → found ≡ [] → number ≡ get_or last s 0
      → (number ≤ length links) × (found ++ readers_from links (length links) number ≡ readers_from links (length links) (get_or last s 0))
  found-none ok none at = (let w = ok.within s l in omega (arith, w, at), ap₂ (λ (xs : List ℕ) (k : ℕ). xs ++ readers_from links (length links) k) none at)

  pub found-all : (lists : List (List ℕ)) → lists_of links last ≡ lists → number ≡ 0 → found ++ readers_from links (length links) number ≡ readers_from links (length links) (get_or last s 0) → found ≡ list_at lists s
  found-all lists e none h =
      sym (append-nil found) ∙ ap (λ xs. found ++ xs) (sym (ap (readers_from links (length links)) none ∙ from-none links (length links))) ∙ h ∙ sym (list-from links last s l) ∙ ap (λ xs. list_at xs s) e
