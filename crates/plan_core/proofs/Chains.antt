-- Places in chains: what a look-up along a chain finds, and one entry more.
use Rattle.std.proofs.Common.{◌≡◌, ◌≢◌, ℕ, zero, suc, ◌+◌, ◌-◌, ◌*◌, ◌/◌, ◌^◌, ◌<◌, ◌≤◌, List, [], ◌∷◌, ◌++◌, length, get_or, set, take, Option, Some, None, is_some, Bool, true, false, true≢false, eqb, ◌&&◌, Decides, rules, OnSome, IfNone, refl, sym, ap, subst, ◌∙◌, arith, inl, inr, get_or-set_same, get_or-set_other, length-set}
use Rattle.std.specs.List.{AllByRecursion}
use Rattle.std.proofs.lemmas.Bool.{cases_eq, cases_lt}
use Rattle.std.proofs.lemmas.Grind.{pow_more}
use Rattle.std.proofs.lemmas.List.{get_or-map, get_or_past, length-map, map-append, get_or_append_left}
use Rattle.std.proofs.Math.Seq.{map-set_same, get_or-append_seam}
use Rattle.std.proofs.lemmas.Nat.{and_le_r, pow_pos}
use Rattle.valid_intervals.specs.declared.Point.{Point}
use Rattle.journal_meaning.specs.declared.Entry.{Entry}
use Rattle.journal_meaning.specs.Entries.{SaidCell, cell_said}
use Rattle.journal_meaning.proofs.Callers.{Each, each-imply}
use Rattle.plan_core.specs.declared.asked.places.Noted.{Noted}
use Rattle.plan_core.specs.asked.Wanted.{Marked, is_wanted}
use Rattle.plan_core.specs.asked.inner.Places.{point_of, point_at, points_of, numbers_before, chain_of, IsChain, HasPoint, LacksPoint, IsOfChain, IsChainOf, IsUnsaid, HasNoted, AreLinked, AreEnough, ArePlaces}

-- the point of the entry in a place
pub point-is : (journal : List Entry) (place : ℕ) (e : Entry) → place < length journal → e ≡ get_or journal place e → point_at journal place ≡ point_of (cell_said e)
point-is [] place e low is = absurd (omega arith)
point-is (x ∷ journal) zero e low is = ap (λ z. point_of (cell_said z)) (sym is)
point-is (x ∷ journal) (suc place) e low is = point-is journal place e (omega arith) is

-- there is none past the end
pub point-past : (journal : List Entry) (place : ℕ) → length journal ≤ place → point_at journal place ≡ None
point-past [] place h = refl
point-past (x ∷ journal) zero h = absurd (omega arith)
point-past (x ∷ journal) (suc place) h = point-past journal place (omega arith)

-- an entry says what it was recorded for
pub point-said : (journal : List Entry) (place : ℕ) (e : Entry) (f : SaidCell) → place < length journal → e ≡ get_or journal place e → cell_said e ≡ Some f → point_at journal place ≡ Some f.point
point-said journal place e f low is said = point-is journal place e low is ∙ ap point_of said

-- and nothing if it says no cell
pub point-unsaid : (journal : List Entry) (place : ℕ) (e : Entry) → place < length journal → e ≡ get_or journal place e → cell_said e ≡ None → point_at journal place ≡ None
point-unsaid journal place e low is said = point-is journal place e low is ∙ ap point_of said

-- what has no point has not this one
pub none-lacks : (o : Option Point) (p : Point) → o ≡ None → o ≢ Some p
none-lacks o p none some = absurd (cc (none, some))

-- nor has what has another
pub other-lacks : (o : Option Point) (p q : Point) → o ≡ Some q → q ≢ p → o ≢ Some p
other-lacks o p q is ne some = let same : q ≡ p = cc (is, some) in ne same

-- A look-up along a chain: the places that are left, and what is known of all once so many of these are looked at.
pub record IsSought (points : List (Option Point)) (p : Point) (before : List ℕ) (number : ℕ) (places : List ℕ) (more : ℕ) : Type 0 where
  pub left : List ℕ
  pub linked : IsChain before number left
  pub lacks : AllByRecursion (λ place. get_or points place None ≢ Some p) (take more left) → LacksPoint points p places
  pub has : HasPoint points p left → HasPoint points p places

module _ (points : List (Option Point)) (p : Point) (before : List ℕ) where
  -- it begins with all places
  pub sought-first : (number : ℕ) (places : List ℕ) → IsChain before number places → IsSought points p before number places 32
  sought-first number places h = record { left = places; linked = h; lacks = λ k. k; has = λ k. k }

  module _ (number : ℕ) (places : List ℕ) (more : ℕ) (s : IsSought points p before number places more) where
    -- the chain is at its end
    pub sought-end : number ≡ 0 → LacksPoint points p places
    sought-end none = go s.left s.linked s.lacks
      where
        go : (left : List ℕ) → IsChain before number left → (AllByRecursion (λ place. get_or points place None ≢ Some p) (take more left) → LacksPoint points p places) → LacksPoint points p places
        go [] linked lacks = lacks (empty more)
          where
            empty : (n : ℕ) → AllByRecursion (λ place. get_or points place None ≢ Some p) (take n [])
            empty zero = tt
            empty (suc n) = tt
        go (x ∷ left) linked lacks = let is = linked.0 in absurd (omega arith)

    -- enough are looked at
    pub sought-over : more ≡ 0 → LacksPoint points p places
    sought-over none = s.lacks (subst (λ n. AllByRecursion (λ place. get_or points place None ≢ Some p) (take n s.left)) (sym none) tt)

    module _ (place : ℕ) (is : number ≡ place + 1) where
      -- it is found
      pub sought-found : get_or points place None ≡ Some p → HasPoint points p places
      sought-found here = go s.left s.linked s.has
        where
          go : (left : List ℕ) → IsChain before number left → (HasPoint points p left → HasPoint points p places) → HasPoint points p places
          go [] linked has = let none : number ≡ 0 = linked in absurd (omega arith)
          go (x ∷ left) linked has =
              let other = linked.0 in
              let same : x ≡ place = omega arith in
              has (inl (subst (λ n. get_or points n None ≡ Some p) (sym same) here))

      -- one place more is looked at
      pub sought-next : (next less : ℕ) → get_or points place None ≢ Some p → next ≡ get_or before place 0 → more ≡ suc less → IsSought points p before next places less
      sought-next next less not then fewer = go s.left s.linked s.lacks s.has
        where
          go : (left : List ℕ) → IsChain before number left → (AllByRecursion (λ place. get_or points place None ≢ Some p) (take more left) → LacksPoint points p places) → (HasPoint points p left → HasPoint points p places)
              → IsSought points p before next places less
          go [] linked lacks has = let none : number ≡ 0 = linked in absurd (omega arith)
          go (x ∷ left) linked lacks has =
              let other = linked.0 in
              let same : x ≡ place = omega arith in
              let here : get_or points x None ≢ Some p = subst (λ n. get_or points n None ≢ Some p) (sym same) not in
              record {
                left = left;
                linked = subst (λ n. IsChain before n left) (ap (λ n. get_or before n 0) same ∙ sym then) linked.1;
                lacks = λ k. lacks (subst (λ n. AllByRecursion (λ place. get_or points place None ≢ Some p) (take n (x ∷ left))) (sym fewer) (here, k));
                has = λ k. has (inr k);
              }

-- A chain in which no number of a place at or past the end stands is not changed by what is written there.
chain-kept : (before : List ℕ) (end v : ℕ) (places : List ℕ) (number : ℕ) → AllByRecursion (λ place. place < end) places → IsChain before number places → IsChain (set before end v) number places
chain-kept before end v [] number low h = h
chain-kept before end v (place ∷ places) number low h =
    let ne : place ≢ end = λ e. (let l = low.0 in omega arith) in
    (h.0, subst (λ n. IsChain (set before end v) n places) (sym (get_or-set_other before end place v 0 ne)) (chain-kept before end v places (get_or before place 0) low.1 h.1))

-- what lacks a point in all its places
lacks-all : (points : List (Option Point)) (p : Point) (n : ℕ) (places : List ℕ) → length places ≤ n → AllByRecursion (λ place. get_or points place None ≢ Some p) (take n places) → HasPoint points p places → ⊥
lacks-all points p n [] few h k = k
lacks-all points p zero (place ∷ places) few h k = absurd (omega arith)
lacks-all points p (suc n) (place ∷ places) few h (inl k) = h.0 k
lacks-all points p (suc n) (place ∷ places) few h (inr k) = lacks-all points p n places (omega arith) h.1 k

-- so nothing was recorded for a wanted point that its chain lacks
pub lacks-unsaid : (journal : List Entry) (wanted : Marked) (last : List ℕ) (noted : List Noted) (p : Point) (are : ArePlaces journal wanted last noted) → is_wanted wanted p ≡ true → length (are.linked (chain_of p (length last))).places ≤ 32
    → LacksPoint (points_of journal noted) p (are.linked (chain_of p (length last))).places → IsUnsaid journal p
lacks-unsaid journal wanted last noted p are is few lacks place numbered said = lacks-all (points_of journal noted) p 32 (are.linked (chain_of p (length last))).places few lacks (are.stands place p numbered said is)

-- before the first entry each chain is empty
pub linked-first : (points : List (Option Point)) (last before : List ℕ) → ((chain : ℕ) → get_or last chain 0 ≡ 0) → AreLinked points 0 last before
linked-first points last before none chain = record {
  places = [];
  is = none chain;
  own = tt;
  spread = tt;
  has = λ place p less numbered said of. absurd (omega arith);
}

module _ (points : List (Option Point)) (linked : ℕ) (last before : List ℕ) (chains : AreLinked points linked last before) where
  later : (chain : ℕ) (places : List ℕ) → Each (IsOfChain points linked (length last) chain) places → Each (IsOfChain points (linked + 1) (length last) chain) places
  later chain places h = each-imply (IsOfChain points linked (length last) chain) (IsOfChain points (linked + 1) (length last) chain) (λ place k. ((let l = k.0 in omega arith), k.1)) places h

  -- an entry that is not linked says nothing, or its point stands in its chain already, or it has no number
  skipped : ((p : Point) → linked + 1 < 2 ^ 32 → get_or points linked None ≡ Some p → HasPoint points p (chains (chain_of p (length last))).places) → AreLinked points (linked + 1) last before
  skipped there chain =
      let c = chains chain in
      record {
        places = c.places;
        is = c.is;
        own = later chain c.places c.own;
        spread = c.spread;
        has = λ place p less numbered said of.
            elim (cases_eq place linked) [
              | inl e ↦
                  let here : HasPoint points p (chains (chain_of p (length last))).places = there p (subst (λ n. n + 1 < 2 ^ 32) e numbered) (subst (λ n. get_or points n None ≡ Some p) e said) in
                  subst (λ n. HasPoint points p (chains n).places) of here
              | inr ne ↦ c.has place p (omega arith) numbered said of
            ];
      }

  pub skipped-unsaid : get_or points linked None ≡ None → AreLinked points (linked + 1) last before
  skipped-unsaid none = skipped (λ p numbered said. absurd (cc (none, said)))

  pub skipped-numberless : 2 ^ 32 ≤ linked + 1 → AreLinked points (linked + 1) last before
  skipped-numberless high = skipped (λ p numbered said. absurd (omega arith))

  module _ (p : Point) (said : get_or points linked None ≡ Some p) where
    pub skipped-found : HasPoint points p (chains (chain_of p (length last))).places → AreLinked points (linked + 1) last before
    skipped-found there = skipped (λ q numbered k. let same : p ≡ q = cc (said, k) in subst (λ z. HasPoint points z (chains (chain_of z (length last))).places) same there)

    abbrev here : ℕ
    here = chain_of p (length last)

    below : (places : List ℕ) (chain : ℕ) → Each (IsOfChain points linked (length last) chain) places → AllByRecursion (λ place. place < linked) places
    below places chain h = each-imply (IsOfChain points linked (length last) chain) (λ place. place < linked) (λ place k. k.0) places h

    -- one entry more is linked
    pub linked-more : here < length last → linked < length before → LacksPoint points p (chains here).places → AreLinked points (linked + 1) (set last here (linked + 1)) (set before linked (get_or last here 0))
    linked-more low within lacks chain = subst (λ n. IsChainOf points (linked + 1) n chain (set before linked (get_or last here 0)) (get_or (set last here (linked + 1)) chain 0)) (sym (length-set last here (linked + 1)))
        (elim (cases_eq chain here) [
          | inl e ↦ subst (λ c. IsChainOf points (linked + 1) (length last) c (set before linked (get_or last here 0)) (get_or (set last here (linked + 1)) c 0)) (sym e) mine
          | inr ne ↦ others ne
        ])
      where
        after : List ℕ
        after = set before linked (get_or last here 0)

        chain_stays : (c : ℕ) → IsChain (set before linked (get_or last here 0)) (get_or last c 0) (chains c).places
        chain_stays c = chain-kept before linked (get_or last here 0) (chains c).places (get_or last c 0) (below (chains c).places c (chains c).own) (chains c).is

        mine : IsChainOf points (linked + 1) (length last) here (set before linked (get_or last here 0)) (get_or (set last here (linked + 1)) here 0)
        mine =
            let c = chains here in
            record {
              places = linked ∷ c.places;
              is = (get_or-set_same last here (linked + 1) 0 low, subst (λ n. IsChain (set before linked (get_or last here 0)) n c.places) (sym (get_or-set_same before linked (get_or last here 0) 0 within)) (chain_stays here));
              own = ((omega arith, (p, said, refl)), later here c.places c.own);
              spread = ((λ q k. let same : p ≡ q = cc (said, k) in subst (λ z. LacksPoint points z c.places) same lacks), c.spread);
              has = λ place q less numbered k of.
                  elim (cases_eq place linked) [
                    | inl e ↦ inl (subst (λ n. get_or points n None ≡ Some q) e k)
                    | inr ne ↦ inr (c.has place q (omega arith) numbered k of)
                  ];
            }

        others : chain ≢ here → IsChainOf points (linked + 1) (length last) chain (set before linked (get_or last here 0)) (get_or (set last here (linked + 1)) chain 0)
        others ne =
            let c = chains chain in
            record {
              places = c.places;
              is = subst (λ n. IsChain (set before linked (get_or last here 0)) n c.places) (sym (get_or-set_other last here chain (linked + 1) 0 ne)) (chain_stays chain);
              own = later chain c.places c.own;
              spread = c.spread;
              has = λ place q less numbered k of.
                  elim (cases_eq place linked) [
                    | inl e ↦
                        let mine : get_or points linked None ≡ Some q = subst (λ n. get_or points n None ≡ Some q) e k in
                        let same : p ≡ q = cc (said, mine) in
                        absurd (ne (sym (ap (λ z. chain_of z (length last)) same ∙ of)))
                    | inr other ↦ c.has place q (omega arith) numbered k of
                  ];
            }

-- a point's chain is one of the chains
pub chain-low : (p : Point) (chains : ℕ) → 0 < chains → chain_of p chains < chains
chain-low p chains some = let l = and_le_r (p.signal * 2654435761 / 65536 + p.time) (chains - 1) in omega arith

-- The number of chains is doubled so often, at most, and no more once it is enough.
pub record IsDoubled (entries steps chains : ℕ) : Type 0 where
  pub power : ℕ
  pub is : chains ≡ 2 ^ power
  pub short : chains < entries / 2 → power ≡ steps

pub doubled-first : (entries : ℕ) → IsDoubled entries 0 1
doubled-first entries = record { power = 0; is = refl; short = λ h. refl }

pub doubled-more : (entries steps chains : ℕ) → IsDoubled entries steps chains → chains < entries / 2 → IsDoubled entries (steps + 1) (chains * 2)
doubled-more entries steps chains d h = record {
  power = d.power + 1;
  is = ap (λ n. n * 2) d.is ∙ sym (pow_more 2 d.power);
  short = λ k. ap (λ n. n + 1) (d.short h);
}

pub doubled-same : (entries steps chains : ℕ) → IsDoubled entries steps chains → entries / 2 ≤ chains → IsDoubled entries (steps + 1) chains
doubled-same entries steps chains d h = record { power = d.power; is = d.is; short = λ k. absurd (omega arith) }

pub doubled-enough : (entries chains : ℕ) → IsDoubled entries 31 chains → AreEnough entries chains
doubled-enough entries chains d =
    let some : 0 < chains = subst (λ n. 0 < n) (sym d.is) (pow_pos d.power) in
    record {
      some = some;
      power = (d.power, d.is);
      many = λ few. elim (cases_lt chains (entries / 2)) [
        | inl h ↦
            let all : chains ≡ 2 ^ 31 = d.is ∙ ap (λ n. 2 ^ n) (d.short h) in
            absurd (omega arith)
        | inr h ↦ omega arith
      ];
    }

-- two points are compared part by part
pub point-eq : (p q : Point) → Decides (eqb p.signal q.signal && eqb p.time q.time) (p ≡ q)
point-eq p q = search rules

pub same-point : (p q : Point) (r : Bool) → r ≡ eqb p.signal q.signal && eqb p.time q.time → r ≡ true → p ≡ q
same-point p q r is true_is = (point-eq p q).0 (sym is ∙ true_is)

pub other-point : (p q : Point) (r : Bool) → r ≡ eqb p.signal q.signal && eqb p.time q.time → r ≡ false → p ≢ q
other-point p q r is false_is same = absurd (true≢false (sym ((point-eq p q).1 same) ∙ sym is ∙ false_is))

-- what is noted in a place
module _ (journal : List Entry) (noted : List Noted) (n : ℕ) (d : Noted) (low : n < length noted) where
  pub noted-point : get_or (points_of journal noted) n None ≡ point_at journal (get_or noted n d).place
  noted-point = get_or-map (λ (x : Noted). point_at journal x.place) noted n d None low

  pub noted-before : get_or (numbers_before noted) n 0 ≡ (get_or noted n d).before
  noted-before = get_or-map (λ (x : Noted). x.before) noted n d 0 low

  -- the number before it does not change what it was recorded for
  pub points-same : (x : Noted) → x.place ≡ (get_or noted n d).place → points_of journal (set noted n x) ≡ points_of journal noted
  points-same x is = map-set_same (λ (y : Noted). point_at journal y.place) noted n x d (ap (point_at journal) is)

-- a place is past the end
module _ (journal : List Entry) (noted : List Noted) (n : ℕ) (high : length noted ≤ n) where
  pub past-point : get_or (points_of journal noted) n None ≡ None
  past-point = get_or_past (points_of journal noted) n None (subst (λ l. l ≤ n) (sym (length-map noted (λ (x : Noted). point_at journal x.place))) high)

  pub past-before : get_or (numbers_before noted) n 0 ≡ 0
  past-before = get_or_past (numbers_before noted) n 0 (subst (λ l. l ≤ n) (sym (length-map noted (λ (x : Noted). x.before))) high)

-- each wanted entry is noted, and each noted one is in its chain
pub all-stand : (journal : List Entry) (wanted : Marked) (points : List (Option Point)) (count : ℕ) (last before : List ℕ) → length points ≡ count → HasNoted journal wanted (length journal) points → (linked : AreLinked points count last before)
    → (place : ℕ) (p : Point) → place + 1 < 2 ^ 32 → point_at journal place ≡ Some p → is_wanted wanted p ≡ true → HasPoint points p (linked (chain_of p (length last))).places
all-stand journal wanted points count last before all noted linked place p numbered said is =
    elim (cases_lt place (length journal)) [
      | inl low ↦
          let h = noted place p low numbered said is in
          let l = h.1 in
          elim (cases_lt h.0 (length points)) [
            | inl within ↦ (linked (chain_of p (length last))).has h.0 p (omega arith) (omega arith) h.2 refl
            | inr past ↦ absurd (let e = get_or_past points h.0 None past in let f = h.2 in cc (e, f))
          ]
      | inr high ↦ absurd (let e = point-past journal place high in cc (e, said))
    ]

-- of the first entry past those that are read nothing is to be noted
pub noted-skipped : (journal : List Entry) (wanted : Marked) (read : ℕ) (points : List (Option Point)) → ((p : Point) → read + 1 < 2 ^ 32 → point_at journal read ≡ Some p → is_wanted wanted p ≡ true → ⊥) → HasNoted journal wanted read points → HasNoted journal wanted (read + 1) points
noted-skipped journal wanted read points not noted place p low numbered said is =
    elim (cases_eq place read) [
      | inl e ↦ absurd (not p (subst (λ n. n + 1 < 2 ^ 32) e numbered) (subst (λ n. point_at journal n ≡ Some p) e said) is)
      | inr ne ↦ noted place p (omega arith) numbered said is
    ]

-- it is noted
pub noted-pushed : (journal : List Entry) (wanted : Marked) (read : ℕ) (noted : List Noted) (x : Noted) → x.place ≡ read → length noted ≤ read → HasNoted journal wanted read (points_of journal noted) → HasNoted journal wanted (read + 1) (points_of journal (noted ++ x ∷ []))
noted-pushed journal wanted read noted x here few was place p low numbered said is =
    elim (cases_eq place read) [
      | inl e ↦
          let last = get_or-append_seam (points_of journal noted) (point_at journal x.place) [] None in
          let mine : get_or (points_of journal (noted ++ x ∷ [])) (length (points_of journal noted)) None ≡ Some p = ap (λ l. get_or l (length (points_of journal noted)) None) more ∙ last ∙ ap (point_at journal) (here ∙ sym e) ∙ said in
          (length (points_of journal noted), (let l = long in omega arith), mine)
      | inr ne ↦
          let h = was place p (omega arith) numbered said is in
          elim (cases_lt h.0 (length (points_of journal noted))) [
            | inl within ↦ (h.0, h.1, ap (λ l. get_or l h.0 None) more ∙ get_or_append_left (points_of journal noted) (point_at journal x.place ∷ []) None h.0 within ∙ h.2)
            | inr past ↦ absurd (let e = get_or_past (points_of journal noted) h.0 None past in let f = h.2 in cc (e, f))
          ]
    ]
  where
    more : points_of journal (noted ++ x ∷ []) ≡ points_of journal noted ++ point_at journal x.place ∷ []
    more = map-append (λ (y : Noted). point_at journal y.place) noted (x ∷ [])

    long : length (points_of journal noted) ≡ length noted
    long = length-map noted (λ (y : Noted). point_at journal y.place)

-- what was read is as it is told
pub are-places : (journal : List Entry) (wanted : Marked) (last : List ℕ) (noted : List Noted) → (0 < length noted → AreEnough (length noted) (length last)) → HasNoted journal wanted (length journal) (points_of journal noted)
    → AreLinked (points_of journal noted) (length noted) last (numbers_before noted) → ArePlaces journal wanted last noted
are-places journal wanted last noted enough has linked = record {
  chains = enough;
  linked = linked;
  stands = all-stand journal wanted (points_of journal noted) (length noted) last (numbers_before noted) (length-map noted (λ (y : Noted). point_at journal y.place)) has linked;
}

-- nothing was noted
pub no-places : (journal : List Entry) (wanted : Marked) (last : List ℕ) (noted : List Noted) → length noted ≡ 0 → last ≡ [] → HasNoted journal wanted (length journal) (points_of journal noted) → ArePlaces journal wanted last noted
no-places journal wanted last noted none bare has =
    are-places journal wanted last noted (λ h. absurd (omega arith)) has
    (subst (λ n. AreLinked (points_of journal noted) n last (numbers_before noted)) (sym none) (linked-first (points_of journal noted) last (numbers_before noted) (λ chain. ap (λ l. get_or l chain 0) bare)))

-- What a look-up reads is the chain of the point.
pub chain-is : (last : List ℕ) (p : Point) (chain many : ℕ) → many ≡ length last → (0 < many → chain ≡ chain_of p many) → 0 < length last → chain ≡ chain_of p (length last)
chain-is last p chain many all of some = of (subst (λ n. 0 < n) (sym all) some) ∙ ap (chain_of p) all

pub number-of : (last seen : List ℕ) (p : Point) (chain number many : ℕ) → seen ≡ last → many ≡ length last → (0 < many → chain ≡ chain_of p many) → number ≡ get_or seen chain 0 → number ≡ get_or last (chain_of p (length last)) 0
number-of [] seen p chain number many same all of is = is ∙ ap (λ l. get_or l chain 0) same
number-of (x ∷ last) seen p chain number many same all of is =
    is ∙ ap (λ l. get_or l chain 0) same ∙ ap (λ n. get_or (x ∷ last) n 0) (chain-is (x ∷ last) p chain many all of (omega arith))

pub linked-as : (before seen : List ℕ) (number read : ℕ) (places : List ℕ) → seen ≡ before → read ≡ number → IsChain before number places → IsChain seen read places
linked-as before seen number read places same is h = subst (λ l. IsChain l read places) (sym same) (subst (λ n. IsChain before n places) (sym is) h)

-- What is written is one entry more.
pub linked-now : (points : List (Option Point)) (linked : ℕ) (last before written_last written_before : List ℕ) → written_last ≡ last → written_before ≡ before → AreLinked points linked last before → AreLinked points linked written_last written_before
linked-now points linked last before written_last written_before l b h = subst (λ x. AreLinked points linked x written_before) (sym l) (subst (λ x. AreLinked points linked last x) (sym b) h)

-- what is empty has no length
is-none : (n : ℕ) → Decides (eqb n 0) (n ≡ 0)
is-none n = search rules

pub none-long : (r : Bool) (n : ℕ) → r ≡ eqb n 0 → r ≡ true → n ≡ 0
none-long r n is true_is = (is-none n).0 (sym is ∙ true_is)

-- what holds where something is found, and where nothing is
pub some-holds : {A : Type 0} (o : Option A) (P : Type 0) → is_some o ≡ true → OnSome o P → P
some-holds None P e h = absurd (cc e)
some-holds (Some x) P e h = h

pub none-holds : {A : Type 0} (o : Option A) (P : Type 0) → is_some o ≡ false → IfNone o P → P
none-holds None P e h = h
none-holds (Some x) P e h = absurd (cc e)

pub none-more : {A : Type 0} (o : Option A) (P Q : Type 0) → (P → Q) → IfNone o P → IfNone o Q
none-more None P Q f h = f h
none-more (Some x) P Q f h = tt
