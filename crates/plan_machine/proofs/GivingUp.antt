-- A strand that was refused a point, and drops what it holds.
use Rattle.std.proofs.Common.{◌≡◌, ◌≢◌, ◌⊎◌, ℕ, ◌&&◌, nat_eq, suc, ◌+◌, ◌<◌, true, false, cond, List, [], ◌∷◌, ◌++◌, length, AllPairs, Contains, refl, sym, ap, subst, ◌∙◌, arith, inl, inr, append_assoc, length-append, Option, Some, None, eq-eqb}
use Rattle.std.specs.Option.{option_or}
use Rattle.std.proofs.lemmas.Bool.{and_from, and_right}
use Rattle.std.proofs.lemmas.List.{map-append}
use Rattle.std.proofs.lemmas.List.Elements.{Contains-append_cases}
use Rattle.valid_intervals.specs.declared.Point.{Point}
use Rattle.valid_intervals.specs.Cells.{same_point}
use Rattle.circuit_meaning.specs.Circuit.{Circuit, IsCircuit}
use Rattle.journal_meaning.specs.declared.Entry.{Entry}
use Rattle.journal_meaning.specs.declared.Entry.TheVariants.{Filled, Dropped, Spent}
use Rattle.journal_meaning.specs.Answers.{is_of, last_of, is_fill_of, fill_count}
use Rattle.journal_meaning.specs.Grown.{IsFor, is_spent_of, refusals}
use Rattle.valid_intervals.proofs.Callers.{same_point-itself}
use Rattle.journal_meaning.proofs.Callers.{cases_point, Each, Differ, each-append, each-left, pairs_to, last-append, last-none, count-append, count-none}
use Rattle.plan_machine.specs.Strands.{Frame, Strand, asked_children, rest, given_up, after_drop, IsOnStack, left_in, IsFirst, IsChain}
use Rattle.journal_meaning.specs.Pieces.{Start}
use Rattle.plan_machine.proofs.Stacks.{IsTop, length-rest, earlier}
use Rattle.plan_machine.specs.Alone.{AreFed, IsUnspent, points_on, drops, IsUnderWay, IsGivingUp}
use Rattle.plan_machine.proofs.Underway.{IsNoFill, none-filled, none-refused, said-all, each-contains, contains-cases, contains-none}

pub differ-left : {X : Type 0} (xs ys : List X) → Differ (xs ++ ys) → Differ xs
differ-left [] ys d = tt
differ-left (x ∷ xs) ys d = (each-left (λ y. x ≢ y) xs ys d.0, differ-left xs ys d.1)

-- the points on a stack are different from each other, and from what is asked for
module _ (c : Circuit) (ok : IsCircuit c) where
  later : (st : List Frame) (p : Point) → ((x : Point) → IsOnStack st x → p.time < x.time) → Each (λ y. p ≢ y) (points_on st)
  later [] p h = tt
  later (f ∷ fs) p h =
      ((λ e. let k = h f.point (inl refl) in let t : p.time ≡ f.point.time = ap (λ (x : Point). x.time) e in absurd (omega arith)), later fs p (λ x k. h x (inr k)))

  pub asked-apart : (roots : List Point) (st : List Frame) (p : Point) → IsChain c roots st → IsFirst (left_in roots st) p → Each (λ y. p ≢ y) (points_on st)
  asked-apart roots st p chain first = later st p (λ x held. earlier c ok roots st p x chain first held)

  pub stack-differ : (roots : List Point) (st : List Frame) → IsChain c roots st → Differ (points_on st)
  stack-differ roots [] chain = tt
  stack-differ roots (f ∷ fs) chain = (asked-apart roots fs f.point chain.2 chain.0, stack-differ roots fs chain.2)

-- the last entries of a query at points that it dropped
module _ (q : ℕ) where
  abbrev one : Point → Entry → Option Entry
  one x e = cond (is_of q x e) (Some e) None

  here : (x : Point) → (nat_eq q q && same_point x x) ≡ true
  here x = and_from (nat_eq q q) (same_point x x) (eq-eqb q q refl) (same_point-itself x)

  not-here : (x y : Point) → same_point x y ≡ false → (nat_eq q q && same_point x y) ≡ false
  not-here x y h = and_right (nat_eq q q) (same_point x y) h

  -- a dropped point's last entry says so
  pub drops-last : (gone : List Point) (x : Point) → (last_of (drops q gone) q x ≡ Some (Dropped q x)) ⊎ ((last_of (drops q gone) q x ≡ None) × (Contains gone x → ⊥))
  drops-last [] x = inr (refl, contains-none x [] refl)
  drops-last (y ∷ gone) x = elim (drops-last gone x) [
    | inl l ↦ inl (ap (λ o. option_or o (one x (Dropped q y))) l)
    | inr l ↦ elim (cases_point x y) [
      | inl k ↦ inl (ap (λ o. option_or o (one x (Dropped q y))) l.0 ∙ subst (λ z. one x (Dropped q z) ≡ Some (Dropped q x)) k.1 (rw (here x) refl))
      | inr k ↦ inr (
        ap (λ o. option_or o (one x (Dropped q y))) l.0 ∙ ap (λ t. cond t (Some (Dropped q y)) None) (not-here x y k.0),
        λ h. elim (contains-cases y gone x h) [ inl e ↦ k.1 (sym e) | inr m ↦ l.1 m ],
      )
    ]
  ]

  dropped-last : (gone : List Point) (x : Point) → Contains gone x → last_of (drops q gone) q x ≡ Some (Dropped q x)
  dropped-last gone x h = elim (drops-last gone x) [ inl l ↦ l | inr l ↦ absurd (l.1 h) ]

  drops-apart : (gone : List Point) (p : Point) → Each (λ y. p ≢ y) gone → Each (λ e. is_of q p e ≡ false) (drops q gone)
  drops-apart [] p h = tt
  drops-apart (y ∷ gone) p h = (elim (cases_point p y) [ inl k ↦ absurd (h.0 k.1) | inr k ↦ not-here p y k.0 ], drops-apart gone p h.1)

  drops-each : (P : Entry → Type 0) → ((x : Point) → P (Dropped q x)) → (gone : List Point) → Each P (drops q gone)
  drops-each P f [] = tt
  drops-each P f (x ∷ gone) = (f x, drops-each P f gone)

  -- what the entries of a strand say that was refused p, with so many claims, and has dropped these points
  module _ (before : List Entry) (p : Point) (held : ℕ) (gone : List Point) where
    abbrev pub all : List Entry
    all = before ++ Spent q p held ∷ drops q gone

    tail : (x : Point) → last_of all q x ≡ option_or (option_or (last_of (drops q gone) q x) (one x (Spent q p held))) (last_of before q x)
    tail x = last-append before (Spent q p held ∷ drops q gone) q x

    pub refused-last : Each (λ y. p ≢ y) gone → last_of all q p ≡ Some (Spent q p held)
    refused-last apart =
        let none = last-none (drops q gone) q p (drops-apart gone p apart) in
        let spent : one p (Spent q p held) ≡ Some (Spent q p held) = ap (λ t. cond t (Some (Spent q p held)) None) (here p) in
        tail p ∙ ap (λ o. option_or (option_or o (one p (Spent q p held))) (last_of before q p)) none ∙ ap (λ o. option_or o (last_of before q p)) spent

    pub gone-last : (x : Point) → Contains gone x → last_of all q x ≡ Some (Dropped q x)
    gone-last x h = tail x ∙ ap (λ o. option_or (option_or o (one x (Spent q p held))) (last_of before q x)) (dropped-last gone x h)

    pub refused-filled : fill_count all q ≡ fill_count before q
    refused-filled =
        let k = count-append (is_fill_of q) before (Spent q p held ∷ drops q gone) in
        let l = none-filled q (Spent q p held ∷ drops q gone) (tt, drops-each IsNoFill (λ x. tt) gone) in
        omega arith

    pub refused-once : Each IsUnspent before → refusals all q ≡ 1
    refused-once going =
        let k = count-append (is_spent_of q) before (Spent q p held ∷ drops q gone) in
        let l = none-refused q before going in
        let m : refusals (drops q gone) q ≡ 0 = count-none (is_spent_of q) (drops q gone) (drops-each (λ e. is_spent_of q e ≡ false) (λ x. refl) gone) in
        let n : refusals (Spent q p held ∷ drops q gone) q ≡ suc (refusals (drops q gone) q) = rw (eq-eqb q q refl) refl in
        omega arith

    pub refused-own : Each (IsFor q) before → Each (IsFor q) all
    refused-own own = each-append (IsFor q) before (Spent q p held ∷ drops q gone) own (refl, drops-each (IsFor q) (λ x. refl) gone)

    pub refused-fed : (c : Circuit) → AreFed c before → AreFed c all
    refused-fed c fed = λ r y z known. elim (Contains-append_cases before (Spent q p held ∷ drops q gone) (Filled r y z) known) [
      | inl l ↦ said-all c before (Spent q p held ∷ drops q gone) (asked_children c y) (fed r y z l)
      | inr l ↦ absurd (each-contains IsNoFill (Spent q p held ∷ drops q gone) (Filled r y z) (tt, drops-each IsNoFill (λ x. tt) gone) l)
    ]

drops-snoc : (q : ℕ) (gone : List Point) (x : Point) → drops q (gone ++ x ∷ []) ≡ drops q gone ++ Dropped q x ∷ []
drops-snoc q gone x = map-append (Dropped q) gone (x ∷ [])

-- it gives up
pub starts-giving_up : (c : Circuit) → IsCircuit c → (a : Start) (added : List Entry) (s : Strand) (p : Point) → IsUnderWay c a added s → IsChain c s.roots s.stack → IsFirst (left_in s.roots s.stack) p → s.charged ≡ s.budget
    → IsGivingUp c a p (added ++ Spent a.query.number p (length s.stack) ∷ []) (given_up s)
starts-giving_up c ok a added s p u chain first full = record {
  query = u.query;
  budget = u.budget;
  spent = refl;
  before = added;
  gone = [];
  added_is = let k : length s.stack ≡ 0 + length s.stack = omega arith in ap (λ n. added ++ Spent a.query.number p n ∷ []) k;
  different = pairs_to (p ∷ points_on s.stack) (asked-apart c ok s.roots s.stack p chain first, stack-differ c ok s.roots s.stack chain);
  account = let k = u.charge in let l = u.budget in omega arith;
  fed = u.fed;
  own = u.own;
  going = u.going;
}

-- it drops its top
pub goes-dropped : (c : Circuit) (a : Start) (p : Point) (added : List Entry) (s : Strand) (x : Point) → IsTop s.stack x → IsGivingUp c a p added s → IsGivingUp c a p (added ++ Dropped a.query.number x ∷ []) (after_drop s)
goes-dropped c a p added s x top g =
    let q = a.query.number in
    let held : length (g.gone ++ x ∷ []) + length (rest s.stack) ≡ length g.gone + length s.stack = let k = length-append g.gone (x ∷ []) in let l = length-rest s.stack x top in omega arith in
    record {
      query = g.query;
      budget = g.budget;
      spent = g.spent;
      before = g.before;
      gone = g.gone ++ x ∷ [];
      added_is =
          ap (λ l. l ++ Dropped q x ∷ []) g.added_is
          ∙ append_assoc g.before (Spent q p (length g.gone + length s.stack) ∷ drops q g.gone) (Dropped q x ∷ [])
          ∙ ap (λ l. g.before ++ Spent q p (length g.gone + length s.stack) ∷ l) (sym (drops-snoc q g.gone x))
          ∙ ap (λ n. g.before ++ Spent q p n ∷ drops q (g.gone ++ x ∷ [])) (sym held);
      different = subst (λ (l : List Point). AllPairs (λ y z. y ≢ z) (p ∷ l)) (moved s.stack top) g.different;
      account = let k = g.account in omega arith;
      fed = g.fed;
      own = g.own;
      going = g.going;
    }
  where
    moved : (st : List Frame) → IsTop st x → g.gone ++ points_on st ≡ (g.gone ++ x ∷ []) ++ points_on (rest st)
    moved [] t = absurd t
    moved (f ∷ fs) t = ap (λ y. g.gone ++ y ∷ points_on fs) t ∙ sym (append_assoc g.gone (x ∷ []) (points_on fs))
