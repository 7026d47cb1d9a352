-- What entries say, count and name, as more of them are recorded.
use Rattle.std.proofs.Common.{◌≡◌, ◌≢◌, ℕ, zero, suc, ◌+◌, ◌<◌, ◌%◌, ◌&&◌, Bool, true, false, cond, nat_eq, List, [], ◌∷◌, ◌++◌, length, filter, get_or, slice_set, Contains, All, Option, Some, None, refl, sym, ap, subst, ◌∙◌, arith, inl, inr, true≢false, length-append, append_assoc, eqb-true}
use Rattle.std.specs.Option.{option_or}
use Rattle.std.proofs.Math.ListN.{length-set}
use Rattle.std.proofs.lemmas.Bool.{cases_Bool, cases_eq, cases_lt, and_parts, ne_eqb}
use Rattle.std.proofs.lemmas.List.{get_or-set_same, get_or-set_other, get_or_past, append-nil}
use Rattle.std.proofs.lemmas.List.Elements.{filter-append, Contains-append_left, Contains-append_right, Contains-append_cases, All-weaker, All-contains, All-contains_itself, All-from_recursion, recursion_from_All}
use Rattle.valid_intervals.specs.declared.Point.{Point}
use Rattle.valid_intervals.specs.declared.Cell.{Cell}
use Rattle.valid_intervals.specs.Cells.{same_point}
use Rattle.circuit_meaning.specs.Circuit.{Circuit}
use Rattle.circuit_meaning.specs.Need.{children}
use Rattle.journal_meaning.specs.declared.Entry.{Entry}
use Rattle.journal_meaning.specs.declared.Entry.TheVariants.{Told, Claimed, Filled, Evicted, Dropped, Spent}
use Rattle.journal_meaning.specs.declared.batch.Query.{Query}
use Rattle.journal_meaning.specs.States.{State}
use Rattle.journal_meaning.specs.Table.{after}
use Rattle.journal_meaning.specs.Batches.{Batch}
use Rattle.journal_meaning.specs.Allowed.{IsAllowed}
use Rattle.journal_meaning.specs.Replay.{IsLegal}
use Rattle.journal_meaning.specs.Answers.{IsCovered, ChildrenCovered, is_of, last_of, is_fill_of, fill_count, IsSpent}
use Rattle.journal_meaning.specs.Sections.{of_batch}
use Rattle.journal_meaning.specs.Grown.{IsSaid, IsFor, is_spent_of, refusals, GrowsBy, IsLonger, AreAdded}
use Rattle.journal_meaning.specs.Counts.{count, evaluated_point, is_booked, booked_count}
use Rattle.journal_meaning.specs.Listed.{IsForOther, IsHome, AreHome}
use Rattle.valid_intervals.proofs.Callers.{same_point-true}
use Rattle.journal_meaning.proofs.Lists.{Each, each-append, each-imply}

-- the first of three options
or-assoc : (a b c : Option Entry) → option_or (option_or a b) c ≡ option_or a (option_or b c)
or-assoc None b c = refl
or-assoc (Some x) b c = refl

-- the last entry of a query at a point, among entries one after another
pub last-append : (xs ys : List Entry) (q : ℕ) (p : Point) → last_of (xs ++ ys) q p ≡ option_or (last_of ys q p) (last_of xs q p)
last-append [] ys q p = or-none (last_of ys q p)
  where
    or-none : (a : Option Entry) → a ≡ option_or a None
    or-none None = refl
    or-none (Some x) = refl
last-append (x ∷ xs) ys q p =
    let one = cond (is_of q p x) (Some x) None in
    ap (λ o. option_or o one) (last-append xs ys q p) ∙ or-assoc (last_of ys q p) (last_of xs q p) one

pub last-none : (es : List Entry) (q : ℕ) (p : Point) → Each (λ e. is_of q p e ≡ false) es → last_of es q p ≡ None
last-none [] q p h = refl
last-none (e ∷ es) q p h = rw (last-none es q p h.1, h.0) refl

pub count-append : (test : Entry → Bool) (xs ys : List Entry) → count test (xs ++ ys) ≡ count test xs + count test ys
count-append test xs ys = ap length (filter-append test xs ys) ∙ length-append (filter test xs) (filter test ys)

-- one list of entries after another
pub grows-append : (old added : List Entry) → GrowsBy old added (old ++ added)
grows-append old added = record {
  old_stay = Contains-append_left old added;
  now = Contains-append_right old added;
  only = Contains-append_cases old added;
  counts = λ test. count-append test old added;
  last = last-append old added;
}

pub grows-none : (old : List Entry) → GrowsBy old [] old
grows-none old = subst (GrowsBy old []) (append-nil old) (grows-append old [])

pub grows-more : (a x b y c : List Entry) → GrowsBy a x b → GrowsBy b y c → GrowsBy a (x ++ y) c
grows-more a x b y c g h = record {
  old_stay = λ e k. h.old_stay e (g.old_stay e k);
  now = λ e k. elim (Contains-append_cases x y e k) [ inl l ↦ h.old_stay e (g.now e l) | inr l ↦ h.now e l ];
  only = λ e k. elim (h.only e k) [
    | inl l ↦ elim (g.only e l) [ inl m ↦ inl m | inr m ↦ inr (Contains-append_left x y e m) ]
    | inr l ↦ inr (Contains-append_right x y e l)
  ];
  counts = λ test. let k = g.counts test in let l = h.counts test in let m = count-append test x y in omega arith;
  last = λ q p.
      h.last q p ∙ ap (option_or (last_of y q p)) (g.last q p) ∙ sym (or-assoc (last_of y q p) (last_of x q p) (last_of a q p))
      ∙ ap (λ o. option_or o (last_of a q p)) (sym (last-append x y q p));
}

-- an entry of another shard is none of the point
elsewhere : (shards k j : ℕ) (q : ℕ) (p : Point) → p.signal % shards ≡ k → (k ≡ j → ⊥) → (e : Entry) → IsHome shards j e → is_of q p e ≡ false
elsewhere shards k j q p at ne e h = elim (cases_Bool (is_of q p e)) [
  | inl t ↦ absurd (named e h t)
  | inr f ↦ f
]
  where
    other : (r : ℕ) (x : Point) → x.signal % shards ≡ j → (nat_eq r q && same_point p x) ≡ true → ⊥
    other r x home t =
        let same : p ≡ x = same_point-true p x (and_parts (nat_eq r q) (same_point p x) t).1 in
        ne (sym at ∙ ap (λ (z : Point). z.signal % shards) same ∙ home)

    named : (e : Entry) → IsHome shards j e → is_of q p e ≡ true → ⊥
    named (Told r x y) h t = other r x h t
    named (Claimed r x) h t = other r x h t
    named (Filled r x y) h t = other r x h t
    named (Evicted signal start) h t = true≢false (sym t)
    named (Dropped r x) h t = other r x h t
    named (Spent r x held) h t = other r x h t

-- an entry of the query at a point stands in the shard of the point
is-home : (shards k : ℕ) (q : ℕ) (p : Point) (e : Entry) → IsHome shards k e → is_of q p e ≡ true → p.signal % shards ≡ k
is-home shards k q p e h t = elim (cases_eq (p.signal % shards) k) [
  | inl same ↦ same
  | inr ne ↦ absurd (true≢false (sym t ∙ elsewhere shards (p.signal % shards) k q p refl ne e h))
]

-- the last is one of them
last-is : (es : List Entry) (q : ℕ) (p : Point) (e : Entry) (P : Entry → Type 0) → Each P es → last_of es q p ≡ Some e → P e × (is_of q p e ≡ true)
last-is [] q p e P h k = absurd (cc k)
last-is (x ∷ es) q p e P h k = by (last_of es q p) refl (last-is es q p e P h.1)
  where
    one : (t : Bool) → is_of q p x ≡ t → cond t (Some x) None ≡ Some e → P e × (is_of q p e ≡ true)
    one true t k = let same : x ≡ e = cc k in (subst P same h.0, subst (λ z. is_of q p z ≡ true) same t)
    one false t k = absurd (cc k)

    by : (o : Option Entry) → last_of es q p ≡ o → (last_of es q p ≡ Some e → P e × (is_of q p e ≡ true)) → P e × (is_of q p e ≡ true)
    by None l again = one (is_of q p x) refl (sym (ap (λ o. option_or o (cond (is_of q p x) (Some x) None)) l) ∙ k)
    by (Some y) l again = again (l ∙ sym (ap (λ o. option_or o (cond (is_of q p x) (Some x) None)) l) ∙ k)

-- lists of the shards from the j-th on
abbrev From : ℕ → ℕ → List (List Entry) → Type 0
From shards j lists = (i : ℕ) → i < length lists → Each (IsHome shards (j + i)) (get_or lists i [])

from-rest : (shards j : ℕ) (es : List Entry) (rest : List (List Entry)) → From shards j (es ∷ rest) → From shards (j + 1) rest
from-rest shards j es rest h = λ i l. subst (λ n. Each (IsHome shards n) (get_or rest i [])) (omega arith) (h (suc i) (omega arith))

-- they have no entry of a point of an earlier shard
behind-none : (shards k j q : ℕ) (p : Point) (lists : List (List Entry)) → From shards j lists → k < j → p.signal % shards ≡ k → Each (λ e. is_of q p e ≡ false) (of_batch lists)
behind-none shards k j q p [] h l at = tt
behind-none shards k j q p (es ∷ rest) h l at =
    let here : Each (IsHome shards j) es = subst (λ n. Each (IsHome shards n) es) (omega arith) (h 0 (omega arith)) in
    each-append (λ e. is_of q p e ≡ false) es (of_batch rest)
    (each-imply (IsHome shards j) (λ e. is_of q p e ≡ false) (elsewhere shards k j q p at (λ e. omega arith)) es here)
    (behind-none shards k (j + 1) q p rest (from-rest shards j es rest h) (omega arith) at)

-- the list of one shard among all
record Splits (shards j k : ℕ) (lists : List (List Entry)) (now : List Entry) : Type 0 where
  front : List Entry
  back : List Entry
  old : of_batch lists ≡ front ++ (get_or lists k [] ++ back)
  new : of_batch (slice_set lists k now) ≡ front ++ (now ++ back)
  behind : (q : ℕ) (p : Point) → p.signal % shards ≡ j + k → Each (λ e. is_of q p e ≡ false) back

splits : (shards j k : ℕ) (lists : List (List Entry)) (now : List Entry) → From shards j lists → k < length lists → Splits shards j k lists now
splits shards j k [] now h l = absurd (omega arith)
splits shards j zero (es ∷ rest) now h l = record {
  front = [];
  back = of_batch rest;
  old = refl;
  new = refl;
  behind = λ q p at. behind-none shards j (j + 1) q p rest (from-rest shards j es rest h) (omega arith) (at ∙ omega arith);
}
splits shards j (suc k) (es ∷ rest) now h l =
    let s = splits shards (j + 1) k rest now (from-rest shards j es rest h) (omega arith) in
    record {
      front = es ++ s.front;
      back = s.back;
      old = ap (λ l. es ++ l) s.old ∙ sym (append_assoc es s.front (get_or rest k [] ++ s.back));
      new = ap (λ l. es ++ l) s.new ∙ sym (append_assoc es s.front (now ++ s.back));
      behind = λ q p at. s.behind q p (at ∙ omega arith);
    }

-- entries that are put between others grow them, where none after them is of the same query and point
between : (front list added back : List Entry) → ((q : ℕ) (p : Point) → last_of added q p ≢ None → last_of back q p ≡ None) → GrowsBy (front ++ (list ++ back)) added (front ++ ((list ++ added) ++ back))
between front list added back none = record {
  old_stay = λ e k. elim (Contains-append_cases front (list ++ back) e k) [
    | inl l ↦ Contains-append_left front ((list ++ added) ++ back) e l
    | inr l ↦ Contains-append_right front ((list ++ added) ++ back) e (elim (Contains-append_cases list back e l) [
      | inl m ↦ Contains-append_left (list ++ added) back e (Contains-append_left list added e m)
      | inr m ↦ Contains-append_right (list ++ added) back e m
    ])
  ];
  now = λ e k. Contains-append_right front ((list ++ added) ++ back) e (Contains-append_left (list ++ added) back e (Contains-append_right list added e k));
  only = λ e k. elim (Contains-append_cases front ((list ++ added) ++ back) e k) [
    | inl l ↦ inl (Contains-append_left front (list ++ back) e l)
    | inr l ↦ elim (Contains-append_cases (list ++ added) back e l) [
      | inl m ↦ elim (Contains-append_cases list added e m) [
        | inl n ↦ inl (Contains-append_right front (list ++ back) e (Contains-append_left list back e n))
        | inr n ↦ inr n
      ]
      | inr m ↦ inl (Contains-append_right front (list ++ back) e (Contains-append_right list back e m))
    ]
  ];
  counts = λ test.
      let a = count-append test front (list ++ back) in
      let b = count-append test list back in
      let c = count-append test front ((list ++ added) ++ back) in
      let d = count-append test (list ++ added) back in
      let e = count-append test list added in
      omega arith;
  last = λ q p.
      let A = last_of added q p in
      let old : last_of (front ++ (list ++ back)) q p ≡ option_or (option_or (last_of back q p) (last_of list q p)) (last_of front q p) =
      last-append front (list ++ back) q p ∙ ap (λ o. option_or o (last_of front q p)) (last-append list back q p) in
      let new : last_of (front ++ ((list ++ added) ++ back)) q p ≡ option_or (option_or (last_of back q p) (option_or A (last_of list q p))) (last_of front q p) =
      last-append front ((list ++ added) ++ back) q p ∙ ap (λ o. option_or o (last_of front q p)) (last-append (list ++ added) back q p ∙ ap (option_or (last_of back q p)) (last-append list added q p)) in
      new ∙ moves A (last_of back q p) (last_of list q p) (last_of front q p) (none q p) ∙ ap (option_or A) (sym old);
}
  where
    moves : (a back list front : Option Entry) → (a ≢ None → back ≡ None) → option_or (option_or back (option_or a list)) front ≡ option_or a (option_or (option_or back list) front)
    moves None back list front h = refl
    moves (Some x) back list front h = let k : back ≡ None = h (λ e. cc e) in ap (λ o. option_or (option_or o (option_or (Some x) list)) front) k

-- the list of one shard grows
module _ (lists : List (List Entry)) (home : AreHome lists) (k : ℕ) (low : k < length lists) (added : List Entry) (here : Each (IsHome (length lists) k) added) where
  abbrev now : List Entry
  now = get_or lists k [] ++ added

  from-first : From (length lists) 0 lists
  from-first = λ i l. subst (λ n. Each (IsHome (length lists) n) (get_or lists i [])) (omega arith) (home.home i l)

  one-together : GrowsBy (of_batch lists) added (of_batch (slice_set lists k now))
  one-together =
      let s = splits (length lists) 0 k lists now from-first low in
      let none = λ (q : ℕ) (p : Point) (some : last_of added q p ≢ None). last-none s.back q p (s.behind q p (at q p (last_of added q p) refl some ∙ omega arith)) in
      subst (λ l. GrowsBy l added (of_batch (slice_set lists k now))) (sym s.old) (subst (λ l. GrowsBy (s.front ++ (get_or lists k [] ++ s.back)) added l) (sym s.new) (between s.front (get_or lists k []) added s.back none))
    where
      at : (q : ℕ) (p : Point) (o : Option Entry) → last_of added q p ≡ o → last_of added q p ≢ None → p.signal % length lists ≡ k
      at q p None e some = absurd (some e)
      at q p (Some x) e some = let l = last-is added q p x (IsHome (length lists) k) here e in is-home (length lists) k q p x l.0 l.1

  pub added-one : AreAdded lists added (slice_set lists k now)
  added-one = record {
    shards = length-set lists k now;
    lists = λ j. elim (cases_eq j k) [
      | inl e ↦ record {
        more = added;
        longer = subst (λ n. get_or (slice_set lists k now) n [] ≡ get_or lists n [] ++ added) (sym e) (get_or-set_same lists k now [] low);
        from = λ e h. h;
      }
      | inr ne ↦ record {
        more = [];
        longer = get_or-set_other lists k j now [] ne ∙ sym (append-nil (get_or lists j []));
        from = λ e h. absurd (let l = h.1 in omega arith);
      }
    ];
    together = one-together;
  }

pub added-none : (lists : List (List Entry)) → AreAdded lists [] lists
added-none lists = record {
  shards = refl;
  lists = λ j. record { more = []; longer = sym (append-nil (get_or lists j [])); from = λ e h. h };
  together = grows-none (of_batch lists);
}

pub added-more : (a : List (List Entry)) (x : List Entry) (b : List (List Entry)) (y : List Entry) (c : List (List Entry)) → AreAdded a x b → AreAdded b y c → AreAdded a (x ++ y) c
added-more a x b y c g h = record {
  shards = h.shards ∙ g.shards;
  lists = λ k.
      let l = g.lists k in
      let m = h.lists k in
      record {
        more = l.more ++ m.more;
        longer = m.longer ∙ ap (λ z. z ++ m.more) l.longer ∙ append_assoc (get_or a k []) l.more m.more;
        from = λ e n. elim (Contains-append_cases l.more m.more e n) [ inl o ↦ Contains-append_left x y e (l.from e o) | inr o ↦ Contains-append_right x y e (m.from e o) ];
      };
  together = grows-more (of_batch a) x (of_batch b) y (of_batch c) g.together h.together;
}

-- every list may grow at once
record IsGrown (shards j : ℕ) (old new : List (List Entry)) : Type 0 where
  same : length new ≡ length old
  grown : (i : ℕ) → i < length old → (more : List Entry) × (get_or new i [] ≡ get_or old i [] ++ more) × Each (IsHome shards (j + i)) more

record AllGrown (shards j : ℕ) (old new : List (List Entry)) : Type 0 where
  added : List Entry
  lists : (i : ℕ) → i < length old → IsLonger (get_or old i []) added (get_or new i [])
  together : GrowsBy (of_batch old) added (of_batch new)
  from : (e : Entry) → Contains added e → (i : ℕ) × (i < length old) × ((more : List Entry) → get_or new i [] ≡ get_or old i [] ++ more → Contains more e)

-- what stands after a list is all that does
behind-same : (xs ys zs : List Entry) → xs ++ ys ≡ xs ++ zs → ys ≡ zs
behind-same [] ys zs h = h
behind-same (x ∷ xs) ys zs h = behind-same xs ys zs (cc h)

grows-both : (l m rest mores news : List Entry) → GrowsBy rest mores news → ((q : ℕ) (p : Point) → last_of m q p ≢ None → last_of rest q p ≡ None) → GrowsBy (l ++ rest) (m ++ mores) ((l ++ m) ++ news)
grows-both l m rest mores news g none = record {
  old_stay = λ e k. elim (Contains-append_cases l rest e k) [
    | inl n ↦ Contains-append_left (l ++ m) news e (Contains-append_left l m e n)
    | inr n ↦ Contains-append_right (l ++ m) news e (g.old_stay e n)
  ];
  now = λ e k. elim (Contains-append_cases m mores e k) [
    | inl n ↦ Contains-append_left (l ++ m) news e (Contains-append_right l m e n)
    | inr n ↦ Contains-append_right (l ++ m) news e (g.now e n)
  ];
  only = λ e k. elim (Contains-append_cases (l ++ m) news e k) [
    | inl n ↦ elim (Contains-append_cases l m e n) [ inl o ↦ inl (Contains-append_left l rest e o) | inr o ↦ inr (Contains-append_left m mores e o) ]
    | inr n ↦ elim (g.only e n) [ inl o ↦ inl (Contains-append_right l rest e o) | inr o ↦ inr (Contains-append_right m mores e o) ]
  ];
  counts = λ test.
      let a = count-append test l rest in
      let b = count-append test m mores in
      let c = count-append test (l ++ m) news in
      let d = count-append test l m in
      let e = g.counts test in
      omega arith;
  last = λ q p.
      let L = last_of l q p in
      let M = last_of m q p in
      let R = last_of rest q p in
      let N = last_of mores q p in
      let new : last_of ((l ++ m) ++ news) q p ≡ option_or (option_or N R) (option_or M L) =
      last-append (l ++ m) news q p ∙ ap (λ o. option_or o (last_of (l ++ m) q p)) (g.last q p) ∙ ap (option_or (option_or N R)) (last-append l m q p) in
      let old : option_or (last_of (m ++ mores) q p) (last_of (l ++ rest) q p) ≡ option_or (option_or N M) (option_or R L) =
      ap (λ o. option_or o (last_of (l ++ rest) q p)) (last-append m mores q p) ∙ ap (option_or (option_or N M)) (last-append l rest q p) in
      new ∙ swaps N R M L (none q p) ∙ sym old;
}
  where
    swaps : (n r m l : Option Entry) → (m ≢ None → r ≡ None) → option_or (option_or n r) (option_or m l) ≡ option_or (option_or n m) (option_or r l)
    swaps (Some x) r m l h = refl
    swaps None r None l h = refl
    swaps None r (Some y) l h = let k : r ≡ None = h (λ e. cc e) in ap (λ o. option_or o (option_or (Some y) l)) k ∙ refl

all-grown : (shards j : ℕ) (old new : List (List Entry)) → From shards j old → IsGrown shards j old new → AllGrown shards j old new
all-grown shards j [] [] h g = record { added = []; lists = λ i l. absurd (omega arith); together = grows-none []; from = λ e k. absurd (let l = k.1 in omega arith) }
all-grown shards j [] (y ∷ new) h g = absurd (let k = g.same in omega arith)
all-grown shards j (x ∷ old) [] h g = absurd (let k = g.same in omega arith)
all-grown shards j (x ∷ old) (y ∷ new) h g =
    let first = g.grown 0 (omega arith) in
    let m = first.0 in
    let here : Each (IsHome shards j) m = subst (λ n. Each (IsHome shards n) m) (omega arith) first.2 in
    let rest = all-grown shards (j + 1) old new (from-rest shards j x old h) (record {
      same = let k = g.same in omega arith;
      grown = λ i l. let k = g.grown (suc i) (omega arith) in (k.0, k.1, subst (λ n. Each (IsHome shards n) k.0) (omega arith) k.2);
    }) in
    let none = λ (q : ℕ) (p : Point) (some : last_of m q p ≢ None).
    let at : p.signal % shards ≡ j = at-home q p (last_of m q p) refl some in
    last-none (of_batch old) q p (behind-none shards j (j + 1) q p old (from-rest shards j x old h) (omega arith) at) in
    record {
      added = m ++ rest.added;
      lists = lists m first.1 rest.added rest.lists;
      together = subst (λ l. GrowsBy (x ++ of_batch old) (m ++ rest.added) (l ++ of_batch new)) (sym first.1) (grows-both x m (of_batch old) rest.added (of_batch new) rest.together none);
      from = λ e k. elim (Contains-append_cases m rest.added e k) [
        | inl l ↦ (0, omega arith, λ more same. subst (λ z. Contains z e) (behind-same x m more (sym first.1 ∙ same)) l)
        | inr l ↦ let n = rest.from e l in (suc n.0, (let i = n.1 in omega arith), n.2)
      ];
    }
  where
    at-home : (q : ℕ) (p : Point) (o : Option Entry) → last_of (g.grown 0 (omega arith)).0 q p ≡ o → last_of (g.grown 0 (omega arith)).0 q p ≢ None → p.signal % shards ≡ j
    at-home q p None e some = absurd (some e)
    at-home q p (Some z) e some =
        let first = g.grown 0 (omega arith) in
        let here : Each (IsHome shards j) first.0 = subst (λ n. Each (IsHome shards n) first.0) (omega arith) first.2 in
        let l = last-is first.0 q p z (IsHome shards j) here e in is-home shards j q p z l.0 l.1

    lists : (m : List Entry) → y ≡ x ++ m → (added : List Entry) → ((i : ℕ) → i < length old → IsLonger (get_or old i []) added (get_or new i [])) → (i : ℕ) → i < length (x ∷ old) → IsLonger (get_or (x ∷ old) i []) (m ++ added) (get_or (y ∷ new) i [])
    lists m e added f zero l = record { more = m; longer = e; from = λ z k. Contains-append_left m added z k }
    lists m e added f (suc i) l = let k = f i (omega arith) in record { more = k.more; longer = k.longer; from = λ z n. Contains-append_right m added z (k.from z n) }

-- the list of each shard grows by entries of which P holds
pub added-each : (P : Entry → Type 0) (old new : List (List Entry)) → AreHome old → length new ≡ length old
    → ((k : ℕ) → k < length old → (more : List Entry) × (get_or new k [] ≡ get_or old k [] ++ more) × Each (IsHome (length old) k) more × Each P more)
    → (added : List Entry) × AreAdded old added new × Each P added
added-each P old new home same grown =
    let n = length old in
    let from : From n 0 old = λ i l. subst (λ m. Each (IsHome n m) (get_or old i [])) (omega arith) (home.home i l) in
    let a = all-grown n 0 old new from (record { same = same; grown = λ i l. let k = grown i l in (k.0, k.1, subst (λ m. Each (IsHome n m) k.0) (omega arith) k.2) }) in (
      a.added,
      record {
        shards = same;
        lists = λ k. elim (cases_lt k n) [
          | inl l ↦ a.lists k l
          | inr l ↦ record { more = []; longer = get_or_past new k [] (omega arith) ∙ sym (append-nil (get_or old k []) ∙ get_or_past old k [] l); from = λ e h. absurd (let m = h.1 in omega arith) }
        ];
        together = a.together;
      },
      recursion_from_All P a.added (All-weaker (Contains a.added) P (λ e h.
          let f = a.from e h in
          let k = grown f.0 f.1 in
          All-contains P k.0 e (All-from_recursion P k.0 k.3) (f.2 k.0 k.1)) a.added (All-contains_itself a.added)),
    )

-- the entries of legal journals stand in the shards of their points
allowed-home : (b : Batch) (k : ℕ) (e : Entry) → IsAllowed b k e → IsHome b.shards k e
allowed-home b k (Told q p x) h = h.0.0
allowed-home b k (Claimed q p) h = h.0.0
allowed-home b k (Filled q p x) h = h.0.0
allowed-home b k (Evicted signal start) h = tt
allowed-home b k (Dropped q p) h = h.0.0
allowed-home b k (Spent q p held) h = h.0.0

pub legal-home : (b : Batch) (k : ℕ) (s : State) (es : List Entry) → IsLegal b k s es → Each (IsHome b.shards k) es
legal-home b k s [] h = tt
legal-home b k s (e ∷ es) h = (allowed-home b k e h.1, legal-home b k (after s e) es h.2)

-- what is said stays said, and what is covered stays covered
module _ (old added new : List Entry) (g : GrowsBy old added new) where
  pub said-kept : (p : Point) → IsSaid old p → IsSaid new p
  said-kept p h = (h.0, g.old_stay h.0 h.1, h.2)

  pub said-now : (p : Point) → IsSaid added p → IsSaid new p
  said-now p h = (h.0, g.now h.0 h.1, h.2)

  pub covered-kept : (c : Circuit) (p : Point) → IsCovered c old p → IsCovered c new p
  covered-kept c p (inl h) = inl h
  covered-kept c p (inr h) = inr (said-kept p h)

  pub covered-now : (c : Circuit) (p : Point) → IsCovered c added p → IsCovered c new p
  covered-now c p (inl h) = inl h
  covered-now c p (inr h) = inr (said-now p h)

  pub filled-more : (q : ℕ) → fill_count new q ≡ fill_count old q + fill_count added q
  filled-more q = g.counts (is_fill_of q)

  pub refusals-more : (q : ℕ) → refusals new q ≡ refusals old q + refusals added q
  refusals-more q = g.counts (is_spent_of q)

  pub booked-more : booked_count new ≡ booked_count old + booked_count added
  booked-more = g.counts is_booked

  pub last-now : (q : ℕ) (p : Point) (e : Entry) → last_of added q p ≡ Some e → last_of new q p ≡ Some e
  last-now q p e h = g.last q p ∙ ap (λ o. option_or o (last_of old q p)) h

  pub last-kept : (q : ℕ) (p : Point) → last_of added q p ≡ None → last_of new q p ≡ last_of old q p
  last-kept q p h = g.last q p ∙ ap (λ o. option_or o (last_of old q p)) h

-- entries for one query are for no other
pub for-other : (q r : ℕ) → r ≢ q → (e : Entry) → IsFor r e → IsForOther q e
for-other q r ne (Told s p x) h = λ e. ne (sym h ∙ e)
for-other q r ne (Claimed s p) h = λ e. ne (sym h ∙ e)
for-other q r ne (Filled s p x) h = λ e. ne (sym h ∙ e)
for-other q r ne (Evicted signal start) h = tt
for-other q r ne (Dropped s p) h = λ e. ne (sym h ∙ e)
for-other q r ne (Spent s p held) h = λ e. ne (sym h ∙ e)

named-other : (q r : ℕ) (p x : Point) → r ≢ q → (nat_eq r q && same_point p x) ≡ false
named-other q r p x ne = elim (cases_Bool (nat_eq r q && same_point p x)) [
  | inl t ↦ absurd (ne (eqb-true r q (and_parts (nat_eq r q) (same_point p x) t).0))
  | inr f ↦ f
]

other-none : (q : ℕ) (p : Point) (e : Entry) → IsForOther q e → is_of q p e ≡ false
other-none q p (Told r x y) h = named-other q r p x h
other-none q p (Claimed r x) h = named-other q r p x h
other-none q p (Filled r x y) h = named-other q r p x h
other-none q p (Evicted signal start) h = refl
other-none q p (Dropped r x) h = named-other q r p x h
other-none q p (Spent r x held) h = named-other q r p x h

other-fills : (q : ℕ) (e : Entry) → IsForOther q e → is_fill_of q e ≡ false
other-fills q (Filled r x y) h = ne_eqb r q h
other-fills q (Told r x y) h = refl
other-fills q (Claimed r x) h = refl
other-fills q (Evicted signal start) h = refl
other-fills q (Dropped r x) h = refl
other-fills q (Spent r x held) h = refl

other-refusals : (q : ℕ) (e : Entry) → IsForOther q e → is_spent_of q e ≡ false
other-refusals q (Filled r x y) h = refl
other-refusals q (Told r x y) h = refl
other-refusals q (Claimed r x) h = refl
other-refusals q (Evicted signal start) h = refl
other-refusals q (Dropped r x) h = refl
other-refusals q (Spent r x held) h = ne_eqb r q h

pub count-none : (test : Entry → Bool) (es : List Entry) → Each (λ e. test e ≡ false) es → count test es ≡ 0
count-none test [] h = refl
count-none test (e ∷ es) h = rw h.0 (count-none test es h.1)

no-fill : (q : ℕ) (e : Entry) → evaluated_point e ≡ None → is_fill_of q e ≡ false
no-fill q (Filled r p x) h = absurd (cc h)
no-fill q (Told r p x) h = refl
no-fill q (Claimed r p) h = refl
no-fill q (Evicted signal start) h = refl
no-fill q (Dropped r p) h = refl
no-fill q (Spent r p held) h = refl

-- an entry that evaluates no point is not counted
pub fills-none : (q : ℕ) (e : Entry) → evaluated_point e ≡ None → fill_count (e ∷ []) q ≡ 0
fills-none q e h = count-none (is_fill_of q) (e ∷ []) (no-fill q e h, tt)

module _ (q : ℕ) (es : List Entry) (others : Each (IsForOther q) es) where
  pub others-last : (p : Point) → last_of es q p ≡ None
  others-last p = last-none es q p (each-imply (IsForOther q) (λ e. is_of q p e ≡ false) (other-none q p) es others)

  pub others-filled : fill_count es q ≡ 0
  others-filled = count-none (is_fill_of q) es (each-imply (IsForOther q) (λ e. is_fill_of q e ≡ false) (other-fills q) es others)

  pub others-refusals : refusals es q ≡ 0
  others-refusals = count-none (is_spent_of q) es (each-imply (IsForOther q) (λ e. is_spent_of q e ≡ false) (other-refusals q) es others)

-- what holds of a query over a batch's entries holds of more of them
module _ (old added new : List Entry) (g : GrowsBy old added new) where
  -- the children of what the query evaluated stay covered, where those of what it evaluates now are
  pub children-kept : (c : Circuit) (q : ℕ) → ChildrenCovered c old q → ((p : Point) (x : Cell) → Contains added (Filled q p x) → All (IsCovered c new) (children c p.signal p.time)) → ChildrenCovered c new q
  children-kept c q h k = λ p x known. elim (g.only (Filled q p x) known) [
    | inl l ↦ All-weaker (IsCovered c old) (IsCovered c new) (covered-kept old added new g c) (children c p.signal p.time) (h p x l)
    | inr l ↦ k p x l
  ]

  -- where the entries are for other queries, the cause of a refusal stays true
  pub spent-kept : (q : Query) → Each (IsForOther q.number) added → IsSpent old q → IsSpent new q
  spent-kept q others s =
      let same = λ (p : Point). last-kept old added new g q.number p (others-last q.number added others p) in
      let n = others-filled q.number added others in
      let m = filled-more old added new g q.number in
      record {
        point = s.point;
        claims = s.claims;
        last = same s.point ∙ s.last;
        given_up = s.given_up;
        different = s.different;
        dropped = All-weaker (λ p. last_of old q.number p ≡ Some (Dropped q.number p)) (λ p. last_of new q.number p ≡ Some (Dropped q.number p)) (λ p h. same p ∙ h) s.given_up s.dropped;
        enough = s.enough;
        budget = let k = s.budget in omega arith;
      }
