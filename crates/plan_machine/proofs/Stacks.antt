-- The steps of a strand keep what it is.
use Rattle.std.proofs.Common.{◌≡◌, ℕ, ◌+◌, ◌<◌, ◌⊎◌, Bool, true, false, cond, List, [], ◌∷◌, length, filter, refl, sym, ◌∙◌, subst, arith, inl, inr, Contains, leb-true}
use Rattle.std.specs.List.{AllByRecursion}
use Rattle.std.proofs.lemmas.List.Elements.{All-contains, recursion_from_All, All-contains_itself}
use Rattle.circuit_meaning.specs.Circuit.{Circuit, Driver, Input, Gate, Flop, driver, IsCircuit}
use Rattle.valid_intervals.specs.declared.Point.{Point}
use Rattle.circuit_meaning.specs.declared.Window.{Window}
use Rattle.circuit_meaning.specs.Need.{children, IsEvaluable, HasChildren, IsNeeded, Root, Child}
use Rattle.circuit_meaning.proofs.Callers.{children-earlier}
use Rattle.journal_meaning.specs.Batches.{Batch, window_of}
use Rattle.plan_machine.specs.declared.strand.Next.TheVariants.{Ask, Fill, Drop, Done}
use Rattle.plan_machine.specs.declared.strand.Next.{Next}
use Rattle.plan_machine.specs.Strands.{Frame, Strand, has_children, is_evaluable, asked_children, ask_or, next_in, next, rest, roots_heard, stack_heard, after_answer, after_claim, after_drop, after_fill, IsOnStack, left_in, IsFirst, IsAskedChild, IsChain, IsRootPoint, IsStrand}

pub rest_all : {A : Type 0} (P : A → Type 0) (xs : List A) → AllByRecursion P xs → AllByRecursion P (rest xs)
rest_all P [] h = tt
rest_all P (x ∷ xs) h = h.1

pub chain-heard : (c : Circuit) (roots : List Point) (st : List Frame) → IsChain c roots st → IsChain c (roots_heard roots st) (stack_heard st)
chain-heard c roots [] h = tt
chain-heard c roots (f ∷ fs) h = (h.0, rest_all (IsAskedChild c f.point) f.left h.1, h.2)

pub roots-heard : (P : Point → Type 0) (roots : List Point) (st : List Frame) → AllByRecursion P roots → AllByRecursion P (roots_heard roots st)
roots-heard P roots [] h = rest_all P roots h
roots-heard P roots (f ∷ fs) h = h

pub length-heard : (st : List Frame) → length (stack_heard st) ≡ length st
length-heard [] = refl
length-heard (f ∷ fs) = refl

pub chain-rest : (c : Circuit) (roots : List Point) (st : List Frame) → IsChain c roots st → IsChain c roots (rest st)
chain-rest c roots [] h = tt
chain-rest c roots (f ∷ fs) h = h.2

-- the point is the top
abbrev pub IsTop : List Frame → Point → Type 0
IsTop [] p = ⊥
IsTop (f ∷ fs) p = f.point ≡ p

pub length-rest : (st : List Frame) (p : Point) → IsTop st p → length (rest st) + 1 ≡ length st
length-rest [] p h = absurd h
length-rest (f ∷ fs) p h = omega arith

-- what a strand asks for is first among what is left
ask-first : (end : Next) (xs : List Point) (p : Point) → ((x : Point) → end ≡ Ask x → ⊥) → ask_or end xs ≡ Ask p → IsFirst xs p
ask-first end [] p never h = absurd (never p h)
ask-first end (x ∷ xs) p never h = cc

ask_in-first : (spent : Bool) (roots : List Point) (st : List Frame) (p : Point) → next_in spent roots st ≡ Ask p → (spent ≡ false) × IsFirst (left_in roots st) p
ask_in-first true roots [] p h = absurd (cc h)
ask_in-first true roots (f ∷ fs) p h = absurd (cc h)
ask_in-first false roots [] p h = (refl, ask-first Done roots p (λ x e. cc e) h)
ask_in-first false roots (f ∷ fs) p h = (refl, ask-first (Fill f.point) f.left p (λ x e. cc e) h)

pub asks-first : (s : Strand) (p : Point) → next s ≡ Ask p → IsFirst (left_in s.roots s.stack) p
asks-first s p h = (ask_in-first s.spent s.roots s.stack p h).1

pub asks-unspent : (s : Strand) (p : Point) → next s ≡ Ask p → s.spent ≡ false
asks-unspent s p h = (ask_in-first s.spent s.roots s.stack p h).0

-- a fill is of the top, which has heard all
abbrev pub HasHeard : List Frame → Type 0
HasHeard [] = ⊥
HasHeard (f ∷ fs) = f.left ≡ []

ask-fill : (a p : Point) (xs : List Point) → ask_or (Fill a) xs ≡ Fill p → (a ≡ p) × (xs ≡ [])
ask-fill a p [] h = (cc, refl)
ask-fill a p (x ∷ xs) h = absurd (cc h)

no_fill : (p : Point) (xs : List Point) → ask_or Done xs ≡ Fill p → ⊥
no_fill p [] h = cc h
no_fill p (x ∷ xs) h = cc h

fill_in-top : (spent : Bool) (roots : List Point) (st : List Frame) (p : Point) → next_in spent roots st ≡ Fill p → IsTop st p × HasHeard st
fill_in-top true roots [] p h = absurd (cc h)
fill_in-top true roots (f ∷ fs) p h = absurd (cc h)
fill_in-top false roots [] p h = absurd (no_fill p roots h)
fill_in-top false roots (f ∷ fs) p h = ask-fill f.point p f.left h

pub fill-top : (s : Strand) (p : Point) → next s ≡ Fill p → IsTop s.stack p
fill-top s p h = (fill_in-top s.spent s.roots s.stack p h).0

pub fill-heard : (s : Strand) (p : Point) → next s ≡ Fill p → HasHeard s.stack
fill-heard s p h = (fill_in-top s.spent s.roots s.stack p h).1

no_drop : (end : Next) (p : Point) (xs : List Point) → (end ≡ Drop p → ⊥) → ask_or end xs ≡ Drop p → ⊥
no_drop end p [] never h = never h
no_drop end p (x ∷ xs) never h = cc h

drop_in-top : (spent : Bool) (roots : List Point) (st : List Frame) (p : Point) → next_in spent roots st ≡ Drop p → IsTop st p
drop_in-top true roots [] p h = absurd (cc h)
drop_in-top true roots (f ∷ fs) p h = cc
drop_in-top false roots [] p h = absurd (no_drop Done p roots (λ e. cc e) h)
drop_in-top false roots (f ∷ fs) p h = absurd (no_drop (Fill f.point) p f.left (λ e. cc e) h)

pub drop-top : (s : Strand) (p : Point) → next s ≡ Drop p → IsTop s.stack p
drop-top s p h = drop_in-top s.spent s.roots s.stack p h

-- what is held before and after
pub held-heard : (st : List Frame) (p : Point) → IsOnStack (stack_heard st) p → IsOnStack st p
held-heard [] p h = h
held-heard (f ∷ fs) p h = h

pub heard-held : (st : List Frame) (p : Point) → IsOnStack st p → IsOnStack (stack_heard st) p
heard-held [] p h = h
heard-held (f ∷ fs) p h = h

pub held-rest : (st : List Frame) (p : Point) → IsOnStack (rest st) p → IsOnStack st p
held-rest [] p h = h
held-rest (f ∷ fs) p h = inr h

pub rest-held : (st : List Frame) (p x : Point) → IsTop st p → IsOnStack st x → (x ≡ p) ⊎ IsOnStack (rest st) x
rest-held [] p x t h = absurd h
rest-held (f ∷ fs) p x t (inl h) = inl (sym h ∙ t)
rest-held (f ∷ fs) p x t (inr h) = inr h

pub top-held : (st : List Frame) (p : Point) → IsTop st p → IsOnStack st p
top-held [] p t = absurd t
top-held (f ∷ fs) p t = inl t

first-all : (P : Point → Type 0) (xs : List Point) (p : Point) → AllByRecursion P xs → IsFirst xs p → P p
first-all P [] p h e = absurd e
first-all P (x ∷ xs) p h e = subst P e h.0

module _ (c : Circuit) (ok : IsCircuit c) where
  source-earlier : (a p : Point) → IsAskedChild c a p → p.time < a.time
  source-earlier a p h = All-contains (λ x. x.time < a.time) (children c a.signal a.time) p (children-earlier c ok a.signal a.time) h.child

  -- what a strand waits for is earlier than all that it holds
  pub earlier : (roots : List Point) (st : List Frame) (p x : Point) → IsChain c roots st → IsFirst (left_in roots st) p → IsOnStack st x → p.time < x.time
  earlier roots [] p x chain first h = absurd h
  earlier roots (f ∷ fs) p x chain first (inl h) = subst (λ (y : Point). p.time < y.time) h (source-earlier f.point p (first-all (IsAskedChild c f.point) f.left p chain.1 first))
  earlier roots (f ∷ fs) p x chain first (inr h) =
      let a : p.time < f.point.time = source-earlier f.point p (first-all (IsAskedChild c f.point) f.left p chain.1 first) in
      let b : f.point.time < x.time = earlier roots fs f.point x chain.2 chain.0 h in
      omega arith

  pub top-once : (roots : List Point) (st : List Frame) (p x : Point) → IsChain c roots st → IsTop st p → IsOnStack (rest st) x → p.time < x.time
  top-once roots [] p x chain top h = absurd h
  top-once roots (f ∷ fs) p x chain top h = subst (λ (y : Point). y.time < x.time) top (earlier roots fs f.point x chain.2 chain.0 h)

-- what a strand waits for is needed by its query, and is evaluable
pub record IsAskable (c : Circuit) (w : Window) (p : Point) : Type 0 where
  pub needed : IsNeeded c w p.signal p.time
  pub evaluable : IsEvaluable c p.signal p.time

root-askable : (c : Circuit) (w : Window) (p : Point) → IsRootPoint c w p → IsAskable c w p
root-askable c w p h =
    let at : ℕ → Type 0 = λ s. IsEvaluable c s p.time in
    record {
      needed = subst (λ s. IsNeeded c w s p.time) (sym h.signal) (Root h.root (subst at h.signal h.evaluable));
      evaluable = h.evaluable;
    }

source-askable : (c : Circuit) (w : Window) (a p : Point) → IsAskable c w a → IsAskedChild c a p → IsAskable c w p
source-askable c w a p h k = record { needed = Child h.needed k.child k.evaluable; evaluable = k.evaluable }

pub first-askable : (c : Circuit) (w : Window) (roots : List Point) (st : List Frame) (p : Point) → AllByRecursion (IsRootPoint c w) roots → IsChain c roots st → IsFirst (left_in roots st) p → IsAskable c w p
first-askable c w roots [] p all chain first = root-askable c w p (first-all (IsRootPoint c w) roots p all first)
first-askable c w roots (f ∷ fs) p all chain first = source-askable c w f.point p (first-askable c w roots fs f.point all chain.2 chain.0) (first-all (IsAskedChild c f.point) f.left p chain.1 first)

-- each point of a stack is needed too
pub held-askable : (c : Circuit) (w : Window) (roots : List Point) (st : List Frame) (p : Point) → AllByRecursion (IsRootPoint c w) roots → IsChain c roots st → IsOnStack st p → IsAskable c w p
held-askable c w roots [] p all chain h = absurd h
held-askable c w roots (f ∷ fs) p all chain (inl h) = subst (IsAskable c w) h (first-askable c w roots fs f.point all chain.2 chain.0)
held-askable c w roots (f ∷ fs) p all chain (inr h) = held-askable c w roots fs p all chain.2 h

-- the children that are asked for
pub evaluable-true : (c : Circuit) (t : ℕ) (d : Driver) → has_children t d ≡ true → HasChildren t d
evaluable-true c t (Input settings) h = cc
evaluable-true c t (Gate kind pins) h = leb-true _ _ h
evaluable-true c t (Flop f) h = h

filtered : (c : Circuit) (a : Point) (xs : List Point) → AllByRecursion (λ p. Contains (children c a.signal a.time) p) xs → AllByRecursion (IsAskedChild c a) (filter (is_evaluable c) xs)
filtered c a [] h = tt
filtered c a (x ∷ xs) h = go (is_evaluable c x) refl (filtered c a xs h.1)
  where
    go : (b : Bool) → is_evaluable c x ≡ b → AllByRecursion (IsAskedChild c a) (filter (is_evaluable c) xs) → AllByRecursion (IsAskedChild c a) (cond b (x ∷ filter (is_evaluable c) xs) (filter (is_evaluable c) xs))
    go true e k = (record { child = h.0; evaluable = evaluable-true c x.time (driver c x.signal) e }, k)
    go false e k = k

pub sources-right : (c : Circuit) (p : Point) → AllByRecursion (IsAskedChild c p) (asked_children c p)
unfolding asked_children
sources-right c p =
    let xs = children c p.signal p.time in
    filtered c p xs (recursion_from_All (λ x. Contains xs x) xs (All-contains_itself xs))

-- the steps of a strand
module _ (b : Batch) (s : Strand) (is : IsStrand b s) where
  pub heard-keeps : IsStrand b (after_answer s)
  heard-keeps = record {
    known = is.known;
    roots = roots-heard (IsRootPoint b.circuit (window_of s.query)) s.roots s.stack is.roots;
    chain = chain-heard b.circuit s.roots s.stack is.chain;
    charge = is.charge;
    claims = omega (arith, is.claims, length-heard s.stack);
    budget = is.budget;
  }

  pub claimed-keeps : (p : Point) → next s ≡ Ask p → s.charged < s.budget → IsStrand b (after_claim b.circuit s p)
  claimed-keeps p asks room = record {
    known = is.known;
    roots = is.roots;
    chain = (asks-first s p asks, sources-right b.circuit p, is.chain);
    charge = omega (arith, room);
    claims = omega (arith, is.claims);
    budget = is.budget;
  }

  pub flags-keep : (spent waits : Bool) → IsStrand b (record s { spent = spent; waits = waits })
  flags-keep spent waits = record { known = is.known; roots = is.roots; chain = is.chain; charge = is.charge; claims = is.claims; budget = is.budget }

  pub dropped-keeps : (p : Point) → IsTop s.stack p → IsStrand b (after_drop s)
  dropped-keeps p top = record {
    known = is.known;
    roots = is.roots;
    chain = chain-rest b.circuit s.roots s.stack is.chain;
    charge = is.charge;
    claims = omega (arith, is.claims, length-rest s.stack p top);
    budget = is.budget;
  }

  pub finished-keeps : (p : Point) → IsTop s.stack p → IsStrand b (after_fill s)
  finished-keeps p top = record {
    known = is.known;
    roots = roots-heard (IsRootPoint b.circuit (window_of s.query)) s.roots (rest s.stack) is.roots;
    chain = chain-heard b.circuit s.roots (rest s.stack) (chain-rest b.circuit s.roots s.stack is.chain);
    charge = is.charge;
    claims = omega (arith, is.claims, length-rest s.stack p top, length-heard (rest s.stack));
    budget = is.budget;
  }
