-- A strand that runs alone, step by step: what is due, and what is said.
use Rattle.std.proofs.Common.{◌≡◌, ◌⊎◌, ℕ, Bool, zero, suc, ◌+◌, true, false, cond, List, [], ◌∷◌, ◌++◌, length, filter, All, Contains, refl, sym, ap, subst, ◌∙◌, arith, inl, inr, true≢false, eq-eqb}
use Rattle.std.proofs.lemmas.List.Elements.{All-weaker, All-contains, All-contains_itself, Contains-append_cases, recursion_from_All, All-from_recursion}
use Rattle.valid_intervals.specs.declared.Cell.{Cell}
use Rattle.valid_intervals.specs.declared.Point.{Point}
use Rattle.circuit_meaning.specs.Circuit.{Circuit, Driver, Input, Gate, Flop, driver}
use Rattle.circuit_meaning.specs.Need.{HasChildren, children}
use Rattle.journal_meaning.specs.declared.Entry.{Entry}
use Rattle.journal_meaning.specs.declared.Entry.TheVariants.{Told, Claimed, Filled, Evicted, Dropped, Spent}
use Rattle.journal_meaning.specs.Answers.{IsCovered, is_fill_of, fill_count}
use Rattle.journal_meaning.specs.Grown.{IsSaid, IsFor, is_spent_of, refusals}
use Rattle.journal_meaning.proofs.Callers.{Each, contains-one, each-append, each-imply, grows-append, said-kept, count-append, count-none}
use Rattle.plan_machine.specs.Strands.{Frame, Strand, started_strand, has_children, is_evaluable, asked_children, rest, roots_heard, stack_heard, after_answer, after_claim, left_in, IsFirst}
use Rattle.journal_meaning.specs.Pieces.{Start}
use Rattle.plan_machine.proofs.Stacks.{IsTop, HasHeard, rest_all, length-rest, length-heard}
use Rattle.plan_machine.specs.Alone.{IsDue, IsFrameDue, AreFed, IsUnspent, IsUnderWay, roots_of}

pub contains-cases : {X : Type 0} (y : X) (ys : List X) (x : X) → Contains (y ∷ ys) x → (y ≡ x) ⊎ Contains ys x
contains-cases y ys x (zero, l, e) = inl e
contains-cases y ys x (suc k, l, e) = inr (k, omega arith, e)

pub contains-none : {X : Type 0} (x : X) (xs : List X) → xs ≡ [] → Contains xs x → ⊥
contains-none x xs e h = let k = h.1 in let l : length xs ≡ 0 = ap length e in omega (arith, k, l)

pub each-contains : {X : Type 0} (P : X → Type 0) (xs : List X) (x : X) → Each P xs → Contains xs x → P x
each-contains P xs x h k = All-contains P xs x (All-from_recursion P xs h) k

-- what is due stays due
due-more : (old more : List Entry) (left : List Point) (p : Point) → IsDue old left p → IsDue (old ++ more) left p
due-more old more left p (inl h) = inl h
due-more old more left p (inr h) = inr (said-kept old more (old ++ more) (grows-append old more) p h)

due-heard : (added : List Entry) (left : List Point) (p x : Point) → IsFirst left p → IsSaid added p → IsDue added left x → IsDue added (rest left) x
due-heard added [] p x first said d = absurd first
due-heard added (y ∷ ys) p x first said (inr h) = inr h
due-heard added (y ∷ ys) p x first said (inl h) = elim (contains-cases y ys x h) [
  | inl e ↦ inr (subst (IsSaid added) (sym first ∙ e) said)
  | inr k ↦ inl k
]

due-none : (added : List Entry) (left : List Point) (x : Point) → left ≡ [] → IsDue added left x → IsSaid added x
due-none added left x e (inl h) = absurd (contains-none x left e h)
due-none added left x e (inr h) = h

module _ (c : Circuit) (added : List Entry) where
  frames-heard : (roots : List Point) (st : List Frame) (p : Point) → IsFirst (left_in roots st) p → IsSaid added p → Each (IsFrameDue c added) st → Each (IsFrameDue c added) (stack_heard st)
  frames-heard roots [] p first said h = tt
  frames-heard roots (f ∷ fs) p first said h =
      (All-weaker (IsDue added f.left) (IsDue added (rest f.left)) (λ x d. due-heard added f.left p x first said d) (asked_children c f.point) h.0, h.1)

  root-heard : (roots : List Point) (st : List Frame) (p x : Point) → IsFirst (left_in roots st) p → IsSaid added p → IsDue added roots x → IsDue added (roots_heard roots st) x
  root-heard roots [] p x first said d = due-heard added roots p x first said d
  root-heard roots (f ∷ fs) p x first said d = d

  top-fed : (st : List Frame) (p : Point) → IsTop st p → HasHeard st → Each (IsFrameDue c added) st → All (IsSaid added) (asked_children c p)
  top-fed [] p top none h = absurd top
  top-fed (f ∷ fs) p top none h =
      subst (λ x. All (IsSaid added) (asked_children c x)) top (All-weaker (IsDue added f.left) (IsSaid added) (λ x d. due-none added f.left x none d) (asked_children c f.point) h.0)

  frame-more : (more : List Entry) (f : Frame) → IsFrameDue c added f → IsFrameDue c (added ++ more) f
  frame-more more f h = All-weaker (IsDue added f.left) (IsDue (added ++ more) f.left) (λ x d. due-more added more f.left x d) (asked_children c f.point) h

  pub said-all : (more : List Entry) (xs : List Point) → All (IsSaid added) xs → All (IsSaid (added ++ more)) xs
  said-all more xs h = All-weaker (IsSaid added) (IsSaid (added ++ more)) (λ x d. said-kept added more (added ++ more) (grows-append added more) x d) xs h

-- entries without a fill
abbrev pub IsNoFill : Entry → Type 0
IsNoFill (Told q p x) = Unit {0}
IsNoFill (Claimed q p) = Unit {0}
IsNoFill (Filled q p x) = ⊥
IsNoFill (Evicted signal start) = Unit {0}
IsNoFill (Dropped q p) = Unit {0}
IsNoFill (Spent q p held) = Unit {0}

no-fill : (q : ℕ) (e : Entry) → IsNoFill e → is_fill_of q e ≡ false
no-fill q (Told r p x) h = refl
no-fill q (Claimed r p) h = refl
no-fill q (Filled r p x) h = absurd h
no-fill q (Evicted signal start) h = refl
no-fill q (Dropped r p) h = refl
no-fill q (Spent r p held) h = refl

pub none-filled : (q : ℕ) (es : List Entry) → Each IsNoFill es → fill_count es q ≡ 0
none-filled q es h = count-none (is_fill_of q) es (each-imply IsNoFill (λ e. is_fill_of q e ≡ false) (no-fill q) es h)

unspent-refusals : (q : ℕ) (e : Entry) → IsUnspent e → is_spent_of q e ≡ false
unspent-refusals q (Told r p x) h = refl
unspent-refusals q (Claimed r p) h = refl
unspent-refusals q (Filled r p x) h = refl
unspent-refusals q (Evicted signal start) h = refl
unspent-refusals q (Dropped r p) h = refl
unspent-refusals q (Spent r p held) h = absurd h

pub none-refused : (q : ℕ) (es : List Entry) → Each IsUnspent es → refusals es q ≡ 0
none-refused q es h = count-none (is_spent_of q) es (each-imply IsUnspent (λ e. is_spent_of q e ≡ false) (unspent-refusals q) es h)

fed-more : (c : Circuit) (added more : List Entry) → AreFed c added → ((q : ℕ) (p : Point) (x : Cell) → Contains more (Filled q p x) → All (IsSaid (added ++ more)) (asked_children c p)) → AreFed c (added ++ more)
fed-more c added more h k = λ q p x known. elim (Contains-append_cases added more (Filled q p x) known) [
  | inl l ↦ said-all c added more (asked_children c p) (h q p x l)
  | inr l ↦ k q p x l
]

-- a strand under way
module _ (c : Circuit) (a : Start) (added : List Entry) (s : Strand) (u : IsUnderWay c a added s) where
  -- more entries, none of which is a fill
  pub goes-more : (more : List Entry) → Each (IsFor a.query.number) more → Each IsUnspent more → Each IsNoFill more → IsUnderWay c a (added ++ more) s
  goes-more more own going none = record {
    query = u.query;
    budget = u.budget;
    unspent = u.unspent;
    charge =
        let k = u.charge in
        let l = none-filled a.query.number more none in
        let m = count-append (is_fill_of a.query.number) added more in
        omega arith;
    frames = each-imply (IsFrameDue c added) (IsFrameDue c (added ++ more)) (frame-more c added more) s.stack u.frames;
    roots = All-weaker (IsDue added s.roots) (IsDue (added ++ more) s.roots) (λ x d. due-more added more s.roots x d) (started_strand c a).roots u.roots;
    fed = fed-more c added more u.fed (λ q p x h. absurd (each-contains IsNoFill more (Filled q p x) none h));
    own = each-append (IsFor a.query.number) added more u.own own;
    going = each-append IsUnspent added more u.going going;
  }

  -- it hears what it asked for
  pub goes-heard : (p : Point) → IsFirst (left_in s.roots s.stack) p → IsSaid added p → IsUnderWay c a added (after_answer s)
  goes-heard p first said = record {
    query = u.query;
    budget = u.budget;
    unspent = u.unspent;
    charge = let k = u.charge in let l = length-heard s.stack in omega arith;
    frames = frames-heard c added s.roots s.stack p first said u.frames;
    roots = All-weaker (IsDue added s.roots) (IsDue added (roots_heard s.roots s.stack)) (λ x d. root-heard c added s.roots s.stack p x first said d) (started_strand c a).roots u.roots;
    fed = u.fed;
    own = u.own;
    going = u.going;
  }

  -- it claims a point
  pub goes-claimed : (p : Point) → IsUnderWay c a added (after_claim c s p)
  goes-claimed p = record {
    query = u.query;
    budget = u.budget;
    unspent = u.unspent;
    charge = let k = u.charge in omega arith;
    frames = (All-weaker (Contains (asked_children c p)) (IsDue added (asked_children c p)) (λ x h. inl h) (asked_children c p) (All-contains_itself (asked_children c p)), u.frames);
    roots = u.roots;
    fed = u.fed;
    own = u.own;
    going = u.going;
  }

  -- its top is filled, and gone from the stack
  pub goes-popped : (p : Point) (x : Cell) (evictions : List Entry) → IsTop s.stack p → HasHeard s.stack → Each (IsFor a.query.number) evictions → Each IsUnspent evictions → Each IsNoFill evictions
      → IsUnderWay c a (added ++ (evictions ++ Filled a.query.number p x ∷ [])) (record s { stack = rest s.stack; filled = s.filled + 1 })
  goes-popped p x evictions top none own going no_fill =
      let q = a.query.number in
      let e = Filled q p x in
      let more = evictions ++ e ∷ [] in
      record {
        query = u.query;
        budget = u.budget;
        unspent = u.unspent;
        charge =
            let k = u.charge in
            let l = none-filled q evictions no_fill in
            let m = count-append (is_fill_of q) added more in
            let n = count-append (is_fill_of q) evictions (e ∷ []) in
            let one : fill_count (e ∷ []) q ≡ 1 = rw (eq-eqb q q refl) refl in
            let r = length-rest s.stack p top in
            omega arith;
        frames = rest_all (IsFrameDue c (added ++ more)) s.stack (each-imply (IsFrameDue c added) (IsFrameDue c (added ++ more)) (frame-more c added more) s.stack u.frames);
        roots = All-weaker (IsDue added s.roots) (IsDue (added ++ more) s.roots) (λ x d. due-more added more s.roots x d) (started_strand c a).roots u.roots;
        fed = fed-more c added more u.fed (λ r y z h. elim (Contains-append_cases evictions (e ∷ []) (Filled r y z) h) [
          | inl k ↦ absurd (each-contains IsNoFill evictions (Filled r y z) no_fill k)
          | inr k ↦
              let same : e ≡ Filled r y z = contains-one e (Filled r y z) k in
              let point : p ≡ y = cc same in
              subst (λ t. All (IsSaid (added ++ more)) (asked_children c t)) point (said-all c added more (asked_children c p) (top-fed c added s.stack p top none u.frames))
        ]);
        own = each-append (IsFor q) added more u.own (each-append (IsFor q) evictions (e ∷ []) own (refl, tt));
        going = each-append IsUnspent added more u.going (each-append IsUnspent evictions (e ∷ []) going (tt, tt));
      }

-- where it starts
pub goes-start : (c : Circuit) (a : Start) → IsUnderWay c a [] (started_strand c a)
goes-start c a = record {
  query = refl;
  budget = refl;
  unspent = refl;
  charge = omega arith;
  frames = tt;
  roots = All-weaker (Contains (started_strand c a).roots) (IsDue [] (started_strand c a).roots) (λ x h. inl h) (started_strand c a).roots (All-contains_itself (started_strand c a).roots);
  fed = λ q p x h. absurd (contains-none (Filled q p x) [] refl h);
  own = tt;
  going = tt;
}

-- whatever isn't evaluable has a base answer
pub evaluable-is : (t : ℕ) (d : Driver) → HasChildren t d → has_children t d ≡ true
evaluable-is t (Input settings) h = absurd h
evaluable-is t (Gate kind pins) h = grind arith
evaluable-is t (Flop f) h = h

module _ (c : Circuit) (es : List Entry) where
  covered-filter : (xs : List Point) → Each (IsSaid es) (filter (is_evaluable c) xs) → Each (IsCovered c es) xs
  covered-filter [] h = tt
  covered-filter (x ∷ xs) h = go (is_evaluable c x) refl h (covered-filter xs)
    where
      others : List Point
      others = filter (is_evaluable c) xs

      go : (t : Bool) → is_evaluable c x ≡ t → Each (IsSaid es) (cond t (x ∷ others) others) → (Each (IsSaid es) others → Each (IsCovered c es) xs) → Each (IsCovered c es) (x ∷ xs)
      go true e k more = (inr k.0, more k.1)
      go false e k more = (inl (λ h. true≢false (sym (evaluable-is x.time (driver c x.signal) h) ∙ e)), more k)

  pub covered-all : (xs : List Point) → All (IsSaid es) (filter (is_evaluable c) xs) → All (IsCovered c es) xs
  covered-all xs h = All-from_recursion (IsCovered c es) xs (covered-filter xs (recursion_from_All (IsSaid es) (filter (is_evaluable c) xs) h))

  pub children-covered : (p : Point) → All (IsSaid es) (asked_children c p) → All (IsCovered c es) (children c p.signal p.time)
  unfolding asked_children
  children-covered p h = covered-all (children c p.signal p.time) h

-- where it has heard all its roots, these are covered
pub roots-covered : (c : Circuit) (a : Start) (added : List Entry) (s : Strand) → IsUnderWay c a added s → s.roots ≡ [] → All (IsCovered c added) (roots_of c a)
roots-covered c a added s u none = covered-all c added (roots_of c a) (All-weaker (IsDue added s.roots) (IsSaid added) (λ x d. due-none added s.roots x none d) (started_strand c a).roots u.roots)
