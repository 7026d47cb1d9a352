-- A query whose budget was spent needs more points than that.
use Rattle.std.proofs.Common.{◌≡◌, ◌≢◌, ℕ, suc, ◌+◌, ◌<◌, ◌≤◌, ◌%◌, Bool, true, false, cond, ◌&&◌, if◌then◌else◌, nat_eq, List, [], ◌∷◌, ◌++◌, length, get_or, filter, filter_map, Option, Some, None, refl, sym, ap, subst, ◌∙◌, arith, true≢false, inl, inr, ◌⊎◌, length-append, eqb-true, eq-eqb}
use Rattle.std.proofs.lemmas.List.Elements.{recursion_from_All, All-from_recursion, Contains-append_left, Contains-append_right}
use Rattle.std.proofs.lemmas.Bool.{and_parts, and_from as and-true}
use Rattle.std.specs.Option.{option_or}
use Rattle.std.specs.List.{cons_option}
use Rattle.valid_intervals.specs.declared.Point.{Point}
use Rattle.circuit_meaning.specs.Circuit.{IsCircuit}
use Rattle.journal_meaning.specs.declared.batch.Query.{Query}
use Rattle.journal_meaning.specs.declared.Entry.{Entry}
use Rattle.journal_meaning.specs.declared.Entry.TheVariants.{Told, Claimed, Filled, Evicted, Dropped, Spent}
use Rattle.journal_meaning.specs.States.{fresh}
use Rattle.valid_intervals.specs.Cells.{same_point}
use Rattle.valid_intervals.specs.declared.SignalCell.{SignalCell}
use Rattle.journal_meaning.specs.Batches.{Batch, IsNeededBy}
use Rattle.journal_meaning.specs.Replay.{IsLegalBatch}
use Rattle.journal_meaning.specs.Answers.{is_of, last_of, is_fill_of, fill_count, IsSpent, IsAnswer}
use Rattle.journal_meaning.specs.Laws.{NoEviction, HasRoom, IsLegalFrom, IsRoomy, IsOwnQuery, NeedsMoreThan, NeedsAtMost}
use Rattle.journal_meaning.specs.Sections.{of_batch}
use Rattle.circuit_meaning.specs.Forward.{wave}
use Rattle.circuit_meaning.specs.declared.Run.{Run}
use Rattle.valid_intervals.proofs.Callers.{same_point-true, same_point-itself}
use Rattle.journal_meaning.proofs.Lists.{Each, Differ, each-append, each-imply, pairs_from, pairs_to}
use Rattle.journal_meaning.proofs.Claims.{Quiet}
use Rattle.journal_meaning.proofs.Named.{Needed, Named, all_named}
use Rattle.journal_meaning.proofs.Room.{FillSettled, Settled, NotEvicted, batch-settled}

-- the points of a query's evaluations
abbrev fill_point : ℕ → Entry → Option Point
fill_point number (Filled q p x) = if nat_eq q number then Some p else None
fill_point number e = None

abbrev fill_points : ℕ → List Entry → List Point
fill_points number es = filter_map (fill_point number) es

-- a fact of each evaluation of the query gives one of each of those points
fill-each : (n : ℕ) (P : Point → Type 0) (F : Entry → Type 0) → ((q : ℕ) (p : Point) (x : _) → F (Filled q p x) → q ≡ n → P p) → (es : List Entry) → Each F es → Each P (fill_points n es)
fill-each n P F f [] h = tt
fill-each n P F f (Filled q p x ∷ es) h = elim (nat_eq q n) as (λ b. nat_eq q n ≡ b → Each P (cons_option (if b then Some p else None) (fill_points n es))) [
  | true ↦ λ e. (f q p x h.0 (eqb-true q n e), fill-each n P F f es h.1)
  | false ↦ λ e. fill-each n P F f es h.1
] refl
fill-each n P F f (Told q p x ∷ es) h = fill-each n P F f es h.1
fill-each n P F f (Claimed q p ∷ es) h = fill-each n P F f es h.1
fill-each n P F f (Evicted s t ∷ es) h = fill-each n P F f es h.1
fill-each n P F f (Dropped q p ∷ es) h = fill-each n P F f es h.1
fill-each n P F f (Spent q p k ∷ es) h = fill-each n P F f es h.1

length-fills : (n : ℕ) (es : List Entry) → length (fill_points n es) ≡ fill_count es n
length-fills n [] = refl
length-fills n (Filled q p x ∷ es) = elim (nat_eq q n) as (λ b. length (cons_option (if b then Some p else None) (fill_points n es)) ≡ length (cond b (Filled q p x ∷ filter (is_fill_of n) es) (filter (is_fill_of n) es))) [
  | true ↦ ap suc (length-fills n es)
  | false ↦ length-fills n es
]
length-fills n (Told q p x ∷ es) = length-fills n es
length-fills n (Claimed q p ∷ es) = length-fills n es
length-fills n (Evicted s t ∷ es) = length-fills n es
length-fills n (Dropped q p ∷ es) = length-fills n es
length-fills n (Spent q p k ∷ es) = length-fills n es

fills-differ : (n : ℕ) (es : List Entry) → Settled es → Differ (fill_points n es)
fills-differ n [] h = tt
fills-differ n (Filled q p x ∷ es) h = elim (nat_eq q n) as (λ b. Differ (cons_option (if b then Some p else None) (fill_points n es))) [
  | true ↦ (fill-each n (λ r. p ≢ r) (Quiet p) (λ q r x k _ e. k (sym e)) es h.0, fills-differ n es h.1)
  | false ↦ fills-differ n es h.1
]
fills-differ n (Told q p x ∷ es) h = fills-differ n es h.1
fills-differ n (Claimed q p ∷ es) h = fills-differ n es h.1
fills-differ n (Evicted s t ∷ es) h = fills-differ n es h.1
fills-differ n (Dropped q p ∷ es) h = fills-differ n es h.1
fills-differ n (Spent q p k ∷ es) h = fills-differ n es h.1

-- the last entry of a query at a point
module _ (q : ℕ) (p : Point) where
  or-cases : (a c : Option Entry) (e : Entry) → option_or a c ≡ Some e → (a ≡ Some e) ⊎ ((a ≡ None) × (c ≡ Some e))
  or-cases None c e h = inr (refl, h)
  or-cases (Some x) c e h = inl h

  if-some : (t : Bool) (a e : Entry) → (if t then Some a else None) ≡ Some e → (t ≡ true) × (a ≡ e)
  if-some true a e h = (refl, cc)
  if-some false a e h = absurd cc

  last-cases : (a : Entry) (es : List Entry) (e : Entry) → last_of (a ∷ es) q p ≡ Some e → (last_of es q p ≡ Some e) ⊎ ((last_of es q p ≡ None) × (is_of q p a ≡ true) × (a ≡ e))
  last-cases a es e h = elim (or-cases (last_of es q p) (if is_of q p a then Some a else None) e h) [
    | inl k ↦ inl k
    | inr k ↦ let l = if-some (is_of q p a) a e k.1 in inr (k.0, l.0, l.1)
  ]

  last-each : (P : Entry → Type 0) (es : List Entry) (e : Entry) → Each P es → last_of es q p ≡ Some e → P e
  last-each P [] e h k = absurd cc
  last-each P (a ∷ es) e h k = elim (last-cases a es e k) [
    | inl l ↦ last-each P es e h.1 l
    | inr l ↦ subst P l.2 h.0
  ]

  or-none : (a c : Option Entry) → option_or a c ≡ None → (a ≡ None) × (c ≡ None)
  or-none None c h = (refl, h)
  or-none (Some x) c h = absurd cc

  if-none : (t : Bool) (a : Entry) → (if t then Some a else None) ≡ None → t ≡ false
  if-none true a h = absurd cc
  if-none false a h = refl

  none-each : (es : List Entry) → last_of es q p ≡ None → Each (λ e. is_of q p e ≡ false) es
  none-each [] h = tt
  none-each (a ∷ es) h = let k = or-none (last_of es q p) (if is_of q p a then Some a else None) h in (if-none (is_of q p a) a k.1, none-each es k.0)

  -- the entry ends a claim without an answer, or makes none
  abbrev Ends : Entry → Type 0
  Ends (Dropped r x) = Unit {0}
  Ends (Spent r x held) = Unit {0}
  Ends e = ⊥

  named-same : (r : ℕ) (x : Point) → (nat_eq r q && same_point p x) ≡ true → p ≡ x
  named-same r x h = same_point-true p x (and_parts (nat_eq r q) (same_point p x) h).1

  quiet-ends : (a : Entry) → Quiet p a → is_of q p a ≡ true → Ends a → ⊥
  quiet-ends (Told r x y) h k e = e
  quiet-ends (Claimed r x) h k e = e
  quiet-ends (Filled r x y) h k e = e
  quiet-ends (Evicted s t) h k e = e
  quiet-ends (Dropped r x) h k e = h (sym (named-same r x k))
  quiet-ends (Spent r x held) h k e = h (sym (named-same r x k))

  quiet-last : (es : List Entry) (e : Entry) → Each (Quiet p) es → last_of es q p ≡ Some e → Ends e → ⊥
  quiet-last [] e h k n = absurd cc
  quiet-last (a ∷ es) e h k n = elim (last-cases a es e k) [
    | inl l ↦ quiet-last es e h.1 l n
    | inr l ↦ quiet-ends a h.0 l.1 (subst Ends (sym l.2) n)
  ]

  none-fills : (es : List Entry) → last_of es q p ≡ None → Each (λ r. p ≢ r) (fill_points q es)
  none-fills es h = fill-each q (λ r. p ≢ r) (λ e. is_of q p e ≡ false)
      (λ r x y k same eq. true≢false (sym (and-true (nat_eq r q) (same_point p x) (eq-eqb r q same) (subst (λ z. same_point p z ≡ true) eq (same_point-itself p))) ∙ k)) es (none-each es h)

  -- such a point is none of those that the query evaluated
  ended-fills : (es : List Entry) (e : Entry) → Settled es → last_of es q p ≡ Some e → Ends e → Each (λ r. p ≢ r) (fill_points q es)
  ended-fills [] e h k n = tt
  ended-fills (a ∷ es) e h k n = elim (last-cases a es e k) [
    | inl l ↦ more a h.0 (ended-fills es e h.1 l n) (λ m. quiet-last es e m l n)
    | inr l ↦ first a (subst Ends (sym l.2) n) (none-fills es l.0)
  ]
    where
      more : (a : Entry) → FillSettled a es → Each (λ r. p ≢ r) (fill_points q es) → (Each (Quiet p) es → ⊥) → Each (λ r. p ≢ r) (fill_points q (a ∷ es))
      more (Filled r x y) s rest never = elim (nat_eq r q) as (λ b. Each (λ r. p ≢ r) (cons_option (if b then Some x else None) (fill_points q es))) [
        | true ↦ ((λ eq. never (subst (λ z. Each (Quiet z) es) (sym eq) s)), rest)
        | false ↦ rest
      ]
      more (Told r x y) s rest never = rest
      more (Claimed r x) s rest never = rest
      more (Evicted r x) s rest never = rest
      more (Dropped r x) s rest never = rest
      more (Spent r x held) s rest never = rest

      first : (a : Entry) → Ends a → Each (λ r. p ≢ r) (fill_points q es) → Each (λ r. p ≢ r) (fill_points q (a ∷ es))
      first (Filled r x y) s rest = absurd s
      first (Told r x y) s rest = absurd s
      first (Claimed r x) s rest = absurd s
      first (Evicted r x) s rest = absurd s
      first (Dropped r x) s rest = rest
      first (Spent r x held) s rest = rest

spent≢dropped : (q r : ℕ) (p x : Point) (held : ℕ) → Some (Spent q p held) ≡ Some (Dropped r x) → ⊥
spent≢dropped q r p x held e = cc

each_all : {X : Type 0} (P : X → Type 0) (xs : List X) → ((x : X) → P x) → Each P xs
each_all P [] f = tt
each_all P (x ∷ xs) f = (f x, each_all P xs f)

differ-append : {X : Type 0} (xs ys : List X) → Differ xs → Each (λ x. Each (λ y. x ≢ y) ys) xs → Differ ys → Differ (xs ++ ys)
differ-append [] ys d h e = e
differ-append (x ∷ xs) ys d h e = (each-append (λ y. x ≢ y) xs ys d.0 h.0, differ-append xs ys d.1 h.1 e)

-- the lists of the shards together
module _ (b : Batch) (ok : IsCircuit b.circuit) (opening : ℕ → List SignalCell) where
  abbrev Asked : Entry → Type 0
  Asked (Told q p x) = Needed b q p
  Asked (Claimed q p) = Needed b q p
  Asked (Filled q p x) = Needed b q p
  Asked (Evicted s t) = Unit {0}
  Asked (Dropped q p) = Needed b q p
  Asked (Spent q p held) = Needed b q p

  -- the entry is of another shard than n
  abbrev Elsewhere : ℕ → Entry → Type 0
  Elsewhere n (Told q p x) = Unit {0}
  Elsewhere n (Claimed q p) = p.signal % b.shards ≢ n
  Elsewhere n (Filled q p x) = p.signal % b.shards ≢ n
  Elsewhere n (Evicted s t) = Unit {0}
  Elsewhere n (Dropped q p) = p.signal % b.shards ≢ n
  Elsewhere n (Spent q p held) = p.signal % b.shards ≢ n

  named-asked : (k : ℕ) (e : Entry) → Named b k e → Asked e
  named-asked k (Told q p x) h = h.1
  named-asked k (Claimed q p) h = h.1
  named-asked k (Filled q p x) h = h.1
  named-asked k (Evicted s t) h = tt
  named-asked k (Dropped q p) h = h.1
  named-asked k (Spent q p held) h = h.1

  named-elsewhere : (n k : ℕ) → n < k → (e : Entry) → Named b k e → Elsewhere n e
  named-elsewhere n k l (Told q p x) h = tt
  named-elsewhere n k l (Claimed q p) h = λ e. let i = h.0.0 in omega (arith, i, e)
  named-elsewhere n k l (Filled q p x) h = λ e. let i = h.0.0 in omega (arith, i, e)
  named-elsewhere n k l (Evicted s t) h = tt
  named-elsewhere n k l (Dropped q p) h = λ e. let i = h.0.0 in omega (arith, i, e)
  named-elsewhere n k l (Spent q p held) h = λ e. let i = h.0.0 in omega (arith, i, e)

  elsewhere-quiet : (n : ℕ) (p : Point) → p.signal % b.shards ≡ n → (e : Entry) → Elsewhere n e → Quiet p e
  elsewhere-quiet n p i (Told q r x) h = tt
  elsewhere-quiet n p i (Claimed q r) h = λ e. h (ap (λ z. z.signal % b.shards) e ∙ i)
  elsewhere-quiet n p i (Filled q r x) h = λ e. h (ap (λ z. z.signal % b.shards) e ∙ i)
  elsewhere-quiet n p i (Evicted s t) h = tt
  elsewhere-quiet n p i (Dropped q r) h = λ e. h (ap (λ z. z.signal % b.shards) e ∙ i)
  elsewhere-quiet n p i (Spent q r held) h = λ e. h (ap (λ z. z.signal % b.shards) e ∙ i)

  settled-append : (k : ℕ) (xs ys : List Entry) → Each (Named b k) xs → Settled xs → Each (Elsewhere k) ys → Settled ys → Settled (xs ++ ys)
  settled-append k [] ys n h e g = g
  settled-append k (Filled q p x ∷ xs) ys n h e g =
      (each-append (Quiet p) xs ys h.0 (each-imply (Elsewhere k) (Quiet p) (elsewhere-quiet k p n.0.0.0) ys e), settled-append k xs ys n.1 h.1 e g)
  settled-append k (Told q p x ∷ xs) ys n h e g = (tt, settled-append k xs ys n.1 h.1 e g)
  settled-append k (Claimed q p ∷ xs) ys n h e g = (tt, settled-append k xs ys n.1 h.1 e g)
  settled-append k (Evicted s t ∷ xs) ys n h e g = (tt, settled-append k xs ys n.1 h.1 e g)
  settled-append k (Dropped q p ∷ xs) ys n h e g = (tt, settled-append k xs ys n.1 h.1 e g)
  settled-append k (Spent q p held ∷ xs) ys n h e g = (tt, settled-append k xs ys n.1 h.1 e g)

  not-evicted : (es : List Entry) → NoEviction es → Each NotEvicted es
  not-evicted [] h = tt
  not-evicted (e ∷ es) h = (head e (λ s t k. h s t (0, omega arith, k)), not-evicted es (λ s t c. h s t (suc c.0, (let l = c.1 in omega arith), c.2)))
    where
      head : (e : Entry) → ((s t : ℕ) → e ≡ Evicted s t → ⊥) → NotEvicted e
      head (Evicted s t) f = f s t refl
      head (Told q p x) f = tt
      head (Claimed q p) f = tt
      head (Filled q p x) f = tt
      head (Dropped q p) f = tt
      head (Spent q p held) f = tt

  -- what holds of the entries of the shards from the k-th on
  record Good (k : ℕ) (es : List Entry) : Type 0 where
    settled : Settled es
    asked : Each Asked es
    elsewhere : (n : ℕ) → n < k → Each (Elsewhere n) es

  AreLegalFrom : ℕ → List (List Entry) → Type 0
  AreLegalFrom k lists = (i : ℕ) → i < length lists → IsLegalBatch b (k + i) (opening (k + i)) (get_or lists i [])

  good : (k : ℕ) (lists : List (List Entry)) → AreLegalFrom k lists → k + length lists ≡ b.shards
      → NoEviction (of_batch lists) ⊎ ((shard : ℕ) → shard < b.shards → HasRoom b shard) → Good k (of_batch lists)
  unfolding AreLegalFrom
  good k [] l n r = record { settled = tt; asked = tt; elsewhere = λ n h. tt }
  good k (es ∷ rest) l n r =
      let zeroth : IsLegalBatch b k (opening k) es = subst (λ j. IsLegalBatch b j (opening j) es) (omega arith) (l 0 (omega arith)) in
      let others : AreLegalFrom (k + 1) rest = λ i h. subst (λ j. IsLegalBatch b j (opening j) (get_or rest i [])) (omega arith) (l (suc i) (omega arith)) in
      let more = good (k + 1) rest others (omega (arith, n)) (elim r [
        | inl none ↦ inl (λ s t c. none s t (Contains-append_right es (of_batch rest) (Evicted s t) c))
        | inr room ↦ inr room
      ]) in
      let stays : Each (λ e. HasRoom b k ⊎ NotEvicted e) es = elim r [
        | inl none ↦ each-imply NotEvicted (λ e. HasRoom b k ⊎ NotEvicted e) (λ e h. inr h) es (not-evicted es (λ s t c. none s t (Contains-append_left es (of_batch rest) (Evicted s t) c)))
        | inr room ↦ each_all (λ e. HasRoom b k ⊎ NotEvicted e) es (λ e. inl (room k (omega (arith, n))))
      ] in
      let named = all_named b k es (fresh (opening k)) tt zeroth.legal in
      let here = batch-settled b ok k (opening k) es stays zeroth.legal in
      record {
        settled = settled-append k es (of_batch rest) named here (more.elsewhere k (omega arith)) more.settled;
        asked = each-append Asked es (of_batch rest) (each-imply (Named b k) Asked (named-asked k) es named) more.asked;
        elsewhere = λ m h. each-append (Elsewhere m) es (of_batch rest) (each-imply (Named b k) (Elsewhere m) (named-elsewhere m k h) es named) (more.elsewhere m (omega arith));
      }

  pub spent-needs_more : (lists : List (List Entry)) → IsLegalFrom b opening lists → IsRoomy b lists → (q : Query) → IsOwnQuery b q → IsSpent (of_batch lists) q → NeedsMoreThan b q q.budget
  unfolding AreLegalFrom
  spent-needs_more lists from room q one spent =
      let es = of_batch lists in
      let n = from.count in
      let g = good 0 lists (λ i h. subst (λ j. IsLegalBatch b j (opening j) (get_or lists i [])) (omega arith) (from.legal i (omega (arith, h, n)))) (omega (arith, n)) room in
      let needs : (p : Point) → Needed b q.number p → IsNeededBy b q p = λ p o. subst (λ r. IsNeededBy b r p) (one.single o.0 o.1 o.2) o.3 in
      let fills = fill_points q.number es in
      let points = spent.point ∷ (spent.given_up ++ fills) in
      let dropped : Each (λ p. last_of es q.number p ≡ Some (Dropped q.number p)) spent.given_up = recursion_from_All (λ p. last_of es q.number p ≡ Some (Dropped q.number p)) spent.given_up spent.dropped in
      let long : q.budget + 1 ≤ length points = let l = length-fills q.number es in let a = length-append spent.given_up fills in let u = spent.enough in let v = spent.budget in omega (arith, l, a, u, v) in
      let other : Each (λ p. spent.point ≢ p) spent.given_up =
      each-imply (λ p. last_of es q.number p ≡ Some (Dropped q.number p)) (λ p. spent.point ≢ p)
      (λ p d e. spent≢dropped q.number q.number spent.point p spent.claims (sym spent.last ∙ ap (λ z. last_of es q.number z) e ∙ d)) spent.given_up dropped in
      let differ : Differ points = (
        each-append (λ p. spent.point ≢ p) spent.given_up fills other (ended-fills q.number spent.point es (Spent q.number spent.point spent.claims) g.settled spent.last tt),
        differ-append spent.given_up fills (pairs_from spent.given_up spent.different)
            (each-imply (λ p. last_of es q.number p ≡ Some (Dropped q.number p)) (λ p. Each (λ r. p ≢ r) fills) (λ p d. ended-fills q.number p es (Dropped q.number p) g.settled d tt) spent.given_up dropped)
            (fills-differ q.number es g.settled),
      ) in
      let needed : Each (IsNeededBy b q) points = (
        needs spent.point (last-each q.number spent.point Asked es (Spent q.number spent.point spent.claims) g.asked spent.last),
        each-append (IsNeededBy b q) spent.given_up fills
            (each-imply (λ p. last_of es q.number p ≡ Some (Dropped q.number p)) (IsNeededBy b q) (λ p d. needs p (last-each q.number p Asked es (Dropped q.number p) g.asked d)) spent.given_up dropped)
            (fill-each q.number (IsNeededBy b q) Asked (λ r p x h e. needs p (subst (λ n. Needed b n p) e h)) es g.asked),
      ) in
      (points, long, pairs_to points differ, All-from_recursion (IsNeededBy b q) points needed)

  pub enough-budget : (lists : List (List Entry)) → IsLegalFrom b opening lists → IsRoomy b lists → (q : Query) → IsOwnQuery b q → NeedsAtMost b q q.budget
      → (answer : Option (List Run)) → IsAnswer b.circuit (of_batch lists) q answer → answer ≡ Some (wave b.circuit q.signal q.from q.to)
  enough-budget lists from room q one most (Some runs) h = ap Some h.0
  enough-budget lists from room q one most None h =
      let k = spent-needs_more lists from room q one h in
      let l = most k.0 k.2 k.3 in
      absurd (omega (arith, l, k.1))
