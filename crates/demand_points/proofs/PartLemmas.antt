-- The parts of a strand at each of its steps.
use Rattle.std.proofs.Common.{◌≡◌, ℕ, zero, suc, ◌+◌, ◌-◌, ◌<◌, ◌≤◌, if◌then◌else◌, Bool, true, false, List, [], ◌∷◌, length, map, get_or, refl, ap, sym, ◌∙◌, subst, arith, inl, inr, Option, Some, None, MatchOption, lt-ltb, le-ltb}
use Rattle.std.proofs.lemmas.Bool.{cases_Bool, cases_lt}
use Rattle.std.proofs.lemmas.List.{get_or_default}
use Rattle.std.proofs.Math.ListN.{get_or-map, length-map}
use Rattle.valid_intervals.specs.declared.Cell.{Cell}
use Rattle.valid_intervals.specs.declared.Point.{Point}
use Rattle.circuit_meaning.specs.Edges.{shown_edge}
use Rattle.circuit_meaning.proofs.Callers.{shown_edge-le, driver_fits, cell-covers}
use Rattle.circuit_meaning.specs.Circuit.{Circuit, Driver, Input, Gate, Flop, driver, IsCircuit, IsDriver}
use Rattle.circuit_meaning.specs.Cells.{span, cell_at}
use Rattle.circuit_meaning.specs.Need.{IsEvaluable, IsRoot, Next}
use Rattle.circuit_meaning.specs.Looks.{pin_point, flop_points, pin_points_at, no_pin}
use Rattle.journal_meaning.specs.Batches.{window_of}
use Rattle.plan_machine.specs.declared.strand.Next.TheVariants.{Ask, Fill, Drop, Done}
use Rattle.plan_machine.specs.declared.strand.Next as declared
use Rattle.plan_machine.specs.Strands as strands
use Rattle.plan_machine.specs.Strands.{Strand, ask_or, next, next_in, after_answer, after_claim, after_drop, after_fill, rest, asked_children}
use Rattle.design.specs.declared.pin_walk.PinWalk.{PinWalk}
use Rattle.demand_points.specs.declared.parts.Parts.{Parts}
use Rattle.demand_points.specs.inner.Stacks.{IsTop, OnTop, ChangesTop, with_top}
use Rattle.design.specs.PinWalks.{cell_there, looked_at, next_point, IsPoint, IsPinWalk, IsLooking, LooksOn}
use Rattle.demand_points.specs.inner.Bases.{left_after, IsReady, IsHearing, HearsBases, HearsAllBases, shown_frame}
use Rattle.demand_points.specs.inner.Demands.{window_in, root_point, strand_of, IsReadyIn, IsReadyAt, IsRootReady, WaitsFor, AreWalks, IsRunning, IsRootKnown, IsUndone, TakesStepTo}
use Rattle.demand_points.specs.Demands.{roots_left, IsAskedCell, itself}
use Rattle.design.proofs.Callers.{looking-below, next-among}
use Rattle.demand_points.proofs.Lists.{left-done, left-all, left-ask, looked-left, no-roots, root-base, root-ask}

-- the point that a pin of a walk reads is one of the circuit
source-within : (n h t : ℕ) (d : Driver) (k : ℕ) (p : Point) → IsDriver n h d → t ≤ h → k < length (pin_points_at t d) → get_or (pin_points_at t d) k None ≡ Some p → (p.signal < n) × (p.time ≤ h)
source-within n h t (Input settings) k p ok le below e = absurd (omega arith)
source-within n h t (Gate kind pins) k p ok le below e =
    let l = length-map pins (pin_point t) in
    let q = get_or pins k no_pin in
    let at : pin_point t q ≡ Some p = sym (get_or-map (pin_point t) pins k no_pin) ∙ e' (pin_point t no_pin) in
    elim (cases_lt t q.delay) [
      | inl m ↦ let none : pin_point t q ≡ None = rw (lt-ltb t q.delay m) refl in absurd (cc (at, none))
      | inr m ↦
          let some : pin_point t q ≡ Some (record { signal = q.signal; time = t - q.delay }) = rw (le-ltb t q.delay m) refl in
          let same : record { signal = q.signal; time = t - q.delay } ≡ p = cc (at, some) in
          let fits : q.signal < n = ok.signal k no_pin (omega arith) in
          (subst (λ (x : Point). x.signal < n) same fits, subst (λ (x : Point). x.time ≤ h) same (omega arith))
    ]
  where
    e' : (d : Option Point) → get_or (map (pin_point t) pins) k d ≡ Some p
    e' d = get_or_default (map (pin_point t) pins) k d None below ∙ e
source-within n h t (Flop f) k p ok le below e = go (shown_edge f.clock f.delay t) refl k below e
  where
    go : (o : Option ℕ) → shown_edge f.clock f.delay t ≡ o → (j : ℕ) → j < length (flop_points f.pin o) → get_or (flop_points f.pin o) j None ≡ Some p → (p.signal < n) × (p.time ≤ h)
    go None w j b q = absurd (omega arith)
    go (Some x) w zero b q =
        let same : record { signal = f.pin; time = x } ≡ p = cc q in
        let early = shown_edge-le f.clock f.delay t x w in
        (subst (λ (y : Point). y.signal < n) same ok.pin, subst (λ (y : Point). y.time ≤ h) same (omega arith))
    go (Some x) w (suc j) b q = absurd (omega arith)

source-point : (c : Circuit) → IsCircuit c → (f : PinWalk) (p : Point) → IsPinWalk c f → IsLooking c f → next_point c f ≡ Some p → IsPoint c p
source-point c ok f p is looking e =
    let k = source-within (length c.drivers) c.horizon f.point.time (driver c f.point.signal) f.looked p (driver_fits c ok f.point.signal) is.point.time (looking-below c ok f is looking) (sym (next-among c ok f is looking) ∙ e) in
    record { signal = k.0; time = k.1 }

-- the top of a stack
pub record HasTop (st : List PinWalk) (f : PinWalk) : Type 0 where
  pub below : List PinWalk
  pub is : st ≡ f ∷ below

pub top-below : (st : List PinWalk) (f : PinWalk) → IsTop st f → HasTop st f
top-below [] f h = absurd h
top-below (g ∷ gs) f h = record { below = gs; is = ap (λ x. x ∷ gs) (sym h) }

shown-is : (c : Circuit) (f g : PinWalk) → g.point ≡ f.point → left_after c g.point g.looked ≡ left_after c f.point f.looked → shown_frame c g ≡ shown_frame c f
shown-is c f g p l = let at : Point → List Point → strands.Frame = λ x y. record { point = x; left = y } in ap (λ x. at x (left_after c g.point g.looked)) p ∙ ap (at f.point) l

-- what a strand asks for, by what it is made of
pub record IsAsked (c : Circuit) (s : Parts) (st : List PinWalk) (p : Point) : Type 0 where
  pub awake : s.spent ≡ false
  pub waits : WaitsFor c (root_point s) st p
  pub evaluable : IsEvaluable c p.signal p.time
  pub live : length st ≡ 0 → s.root < s.to

module _ (c : Circuit) (ok : IsCircuit c) (s : Parts) (r : IsRunning c s) where
  stop-within : (window_in s).stop ≤ c.horizon + 1
  stop-within = let a = r.window in let b = r.within in omega arith

  -- the next step, by the stack
  step-root : (st : List PinWalk) → st ≡ [] → next_in s.spent (roots_left c (window_in s) s.root) (map (shown_frame c) st) ≡ (if s.spent then Done else ask_or Done (roots_left c (window_in s) s.root))
  step-root st e = rw e refl

  pub asked-in : (st : List PinWalk) (p : Point) → st ≡ s.stack → IsReadyIn c s st → next_in s.spent (roots_left c (window_in s) s.root) (map (shown_frame c) st) ≡ Ask p → IsAsked c s st p
  asked-in [] p same ready h = go s.spent refl h
    where
      root-asked : (b : Bool) → s.spent ≡ b → b ≡ false → ask_or Done (roots_left c (window_in s) s.root) ≡ Ask p → IsAsked c s [] p
      root-asked b e f k = elim (cases_lt s.root s.to) [
        | inl l ↦
            let v = ready l in
            let q : ask_or Done (root_point s ∷ roots_left c (window_in s) (span c s.query.signal s.root).stop) ≡ Ask p = ap (ask_or Done) (sym (root-ask c ok (window_in s) stop-within s.root l v)) ∙ k in
            let same : p ≡ root_point s = cc q in
            record { awake = e ∙ f; waits = same; evaluable = subst (λ (x : Point). IsEvaluable c x.signal x.time) (sym same) v; live = λ _. l }
        | inr l ↦
            let q : Done ≡ Ask p = ap (ask_or Done) (sym (no-roots c ok (window_in s) stop-within s.root l)) ∙ k in
            absurd (cc q)
      ]

      go : (b : Bool) → s.spent ≡ b → (if b then Done else ask_or Done (roots_left c (window_in s) s.root)) ≡ Ask p → IsAsked c s [] p
      go true e k = absurd (cc k)
      go false e k = root-asked false e refl k
  asked-in (f ∷ fs) p same ready h = go s.spent refl h
    where
      top-asked : s.spent ≡ false → IsReady c f → ask_or (Fill f.point) (left_after c f.point f.looked) ≡ Ask p → IsAsked c s (f ∷ fs) p
      top-asked e (inl done) k = let q : Fill f.point ≡ Ask p = ap (ask_or (Fill f.point)) (sym (left-done c f done)) ∙ k in absurd (cc q)
      top-asked e (inr (looking, (q, src, v))) k =
          let asks : Ask q ≡ Ask p = ap (ask_or (Fill f.point)) (sym (left-ask c f looking q src v)) ∙ k in
          let same : q ≡ p = cc asks in
          record { awake = e; waits = (looking, src ∙ ap Some same); evaluable = subst (λ (x : Point). IsEvaluable c x.signal x.time) same v; live = λ z. absurd (omega (arith, z)) }

      go : (b : Bool) → s.spent ≡ b → (if b then Drop f.point else ask_or (Fill f.point) (left_after c f.point f.looked)) ≡ Ask p → IsAsked c s (f ∷ fs) p
      go true e k = absurd (cc k)
      go false e k = top-asked e ready k

  pub asked : (p : Point) → IsReadyAt c s → next (strand_of c s) ≡ Ask p → IsAsked c s s.stack p
  asked p ready h = asked-in s.stack p refl ready h

  -- a stack of the parts
  walks-of : (f : PinWalk) (fs : List PinWalk) → s.stack ≡ f ∷ fs → AreWalks c (root_point s) (f ∷ fs)
  walks-of f fs e = subst (AreWalks c (root_point s)) e r.walks

  count-of : (f : PinWalk) (fs : List PinWalk) → s.stack ≡ f ∷ fs → 0 < length s.stack
  count-of f fs e = let k : length s.stack ≡ length (f ∷ fs) = ap length e in let l : length (f ∷ fs) ≡ suc (length fs) = refl in omega arith

  pub top-walk : (f : PinWalk) (fs : List PinWalk) → s.stack ≡ f ∷ fs → IsPinWalk c f
  top-walk f fs e = (walks-of f fs e).0

  -- another walk of the same point on top
  with_walk : (f g : PinWalk) (fs : List PinWalk) → s.stack ≡ f ∷ fs → IsPinWalk c g → g.point ≡ f.point → IsRunning c (record s { stack = g ∷ fs })
  with_walk f g fs e is same = record {
    signal = r.signal;
    window = r.window;
    within = r.within;
    since = r.since;
    root = r.root;
    walks = (is, subst (WaitsFor c (root_point s) fs) (sym same) (walks-of f fs e).1, (walks-of f fs e).2);
    busy = λ _. r.busy (count-of f fs e);
    last = r.last;
  }

  abbrev stacked : List strands.Frame → List Point → Strand
  stacked st rs = record (strand_of c s) { stack = st; roots = rs }

  -- the top has heard base answers
  pub moves-top : (f g : PinWalk) (fs : List PinWalk) → s.stack ≡ f ∷ fs → HearsBases c f g → TakesStepTo c itself s (record s { stack = g ∷ fs })
  moves-top f g fs e a = record {
    running = with_walk f g fs e a.walk a.point;
    number = refl;
    from = refl;
    to = refl;
    strand = ap (λ x. stacked (x ∷ map (shown_frame c) fs) (roots_left c (window_in s) s.root)) (shown-is c f g a.point a.left) ∙ ap (λ st. stacked (map (shown_frame c) st) (roots_left c (window_in s) s.root)) (sym e);
  }

  pub walks-top : OnTop (IsPinWalk c) s.stack
  walks-top = go s.stack r.walks
    where
      go : (st : List PinWalk) → AreWalks c (root_point s) st → OnTop (IsPinWalk c) st
      go [] h = tt
      go (f ∷ fs) h = h.0

  module _ (st : List PinWalk) (f : PinWalk) (top : IsTop s.stack f) (heard : ChangesTop (HearsAllBases c) s.stack st) where
    abbrev heard-top : Parts
    heard-top = record s { stack = st }

    pub moves-on-top : TakesStepTo c itself s heard-top
    moves-on-top = go s.stack refl top heard
      where
        go : (old : List PinWalk) → s.stack ≡ old → IsTop old f → ChangesTop (HearsAllBases c) old st → TakesStepTo c itself s heard-top
        go [] e t h = absurd t
        go (x ∷ xs) e t h = subst (λ l. TakesStepTo c itself s (record s { stack = l })) (sym h.2) (moves-top x h.0 xs e h.1.0)

    pub ready-on-top : IsReadyAt c heard-top
    ready-on-top = go s.stack top heard
      where
        go : (old : List PinWalk) → IsTop old f → ChangesTop (HearsAllBases c) old st → IsReadyIn c heard-top st
        go [] t h = absurd t
        go (x ∷ xs) t h = subst (IsReadyIn c heard-top) (sym h.2) h.1.1

    pub undone-on-top : IsUndone s heard-top
    undone-on-top = record { empty = go-empty s.stack heard; top = go-top s.stack heard }
      where
        go-empty : (old : List PinWalk) → ChangesTop (HearsAllBases c) old st → old ≡ [] → st ≡ []
        go-empty [] h e = h
        go-empty (x ∷ xs) h e = absurd (cc e)

        go-top : (old : List PinWalk) → ChangesTop (HearsAllBases c) old st → (g : PinWalk) → IsTop old g → with_top g st ≡ old
        go-top [] h g t = absurd t
        go-top (x ∷ xs) h g t = ap (with_top g) h.2 ∙ ap (λ y. y ∷ xs) t

  -- the next step, by the parts
  abbrev step_by : Bool → List PinWalk → declared.Next
  step_by b st = next_in b (roots_left c (window_in s) s.root) (map (shown_frame c) st)

  step-of : (b : Bool) (st : List PinWalk) → s.spent ≡ b → s.stack ≡ st → next (strand_of c s) ≡ step_by b st
  step-of b st h e = ap (λ x. step_by x s.stack) h ∙ ap (step_by b) e

  pub next-drop : (f : PinWalk) (fs : List PinWalk) → s.stack ≡ f ∷ fs → s.spent ≡ true → next (strand_of c s) ≡ Drop f.point
  next-drop f fs e h = step-of true (f ∷ fs) h e

  pub next-fill : (f : PinWalk) (fs : List PinWalk) → s.stack ≡ f ∷ fs → s.spent ≡ false → f.looked ≡ length (looked_at c f.point) → next (strand_of c s) ≡ Fill f.point
  next-fill f fs e h d = step-of false (f ∷ fs) h e ∙ ap (ask_or (Fill f.point)) (left-done c f d)

  pub next-ask : (f : PinWalk) (fs : List PinWalk) (p : Point) → s.stack ≡ f ∷ fs → s.spent ≡ false → IsLooking c f → next_point c f ≡ Some p → IsEvaluable c p.signal p.time → next (strand_of c s) ≡ Ask p
  next-ask f fs p e h l src v = step-of false (f ∷ fs) h e ∙ ap (ask_or (Fill f.point)) (left-ask c f l p src v)

  pub next-root : s.stack ≡ [] → s.spent ≡ false → s.root < s.to → IsEvaluable c s.query.signal s.root → next (strand_of c s) ≡ Ask (root_point s)
  next-root e h l v = step-of false [] h e ∙ ap (ask_or Done) (root-ask c ok (window_in s) stop-within s.root l v)

  pub next-spent : s.stack ≡ [] → s.spent ≡ true → next (strand_of c s) ≡ Done
  next-spent e h = step-of true [] h e

  pub next-end : s.stack ≡ [] → s.to ≤ s.root → next (strand_of c s) ≡ Done
  next-end e h = elim (cases_Bool s.spent) [
    | inl t ↦ step-of true [] t e
    | inr f ↦ step-of false [] f e ∙ ap (ask_or Done) (no-roots c ok (window_in s) stop-within s.root h)
  ]

  -- a waiting stack asks
  pub waits-ask : (p : Point) (st : List PinWalk) → s.stack ≡ st → s.spent ≡ false → WaitsFor c (root_point s) st p → IsEvaluable c p.signal p.time → s.root < s.to → next (strand_of c s) ≡ Ask p
  waits-ask p [] e h w v l = next-root e h l (subst (λ (x : Point). IsEvaluable c x.signal x.time) w v) ∙ ap Ask (sym w)
  waits-ask p (f ∷ fs) e h w v l = next-ask f fs p e h w.0 w.1 v

  pub waits-ready : (p : Point) (st : List PinWalk) → WaitsFor c (root_point s) st p → IsEvaluable c p.signal p.time → IsReadyIn c s st
  waits-ready p [] w v = λ _. subst (λ (x : Point). IsEvaluable c x.signal x.time) w v
  waits-ready p (f ∷ fs) w v = inr (w.0, (p, w.1, v))

  -- the next root
  cell-end : (cell : Cell) → cell ≡ cell_at c (root_point s) → cell.span.stop ≡ (span c s.query.signal s.root).stop
  cell-end cell e = ap (λ (x : Cell). x.span.stop) e

  root-running : (cell : Cell) → s.stack ≡ [] → s.root < s.to → cell ≡ cell_at c (root_point s) → IsRunning c (record s { root = cell.span.stop; last = Some cell })
  root-running cell e l right =
      let stop = cell-end cell right in
      let a = r.window in
      let b = r.within in
      let later : s.root < (span c s.query.signal s.root).stop = (cell-covers c ok s.root s.query.signal (omega arith)).inside.high in
      let since = r.since in
      record {
        signal = λ _. r.signal l;
        window = r.window;
        within = r.within;
        since = omega arith;
        root = λ lt. subst (IsRoot c (window_of s.query)) (sym stop) (Next (r.root l) (omega (arith, lt, stop, a)));
        walks = subst (AreWalks c (record { signal = s.query.signal; time = cell.span.stop })) (sym e) tt;
        busy = λ h. let none : length s.stack ≡ 0 = ap length e in absurd (omega (arith, h, none));
        last = record { time = s.root; heard = r.root l; since = r.since; before = l; right = right; stop = refl };
      }

  pub moves-root : (cell : Cell) → s.stack ≡ [] → s.root < s.to → (IsEvaluable c s.query.signal s.root → ⊥) → cell ≡ cell_at c (root_point s) → TakesStepTo c itself s (record s { root = cell.span.stop; last = Some cell })
  moves-root cell e l base right = record {
    running = root-running cell e l right;
    number = refl;
    from = refl;
    to = refl;
    strand = ap (λ t. stacked (map (shown_frame c) s.stack) (roots_left c (window_in s) t)) (cell-end cell right) ∙ ap (stacked (map (shown_frame c) s.stack)) (sym (root-base c ok (window_in s) stop-within s.root l base));
  }

  -- what is heard of what was asked for
  abbrev heard_by : List strands.Frame → List Point → Strand
  heard_by st rs = record (strand_of c s) { roots = strands.roots_heard rs st; stack = strands.stack_heard st }

  pub hears-root : (cell : Cell) (p : Point) → s.stack ≡ [] → IsAsked c s s.stack p → cell ≡ cell_at c p → TakesStepTo c after_answer s (record s { root = cell.span.stop; last = Some cell })
  hears-root cell p e a right =
      let w : WaitsFor c (root_point s) [] p = subst (λ st. WaitsFor c (root_point s) st p) e a.waits in
      let l : s.root < s.to = a.live (ap length e) in
      let v : IsEvaluable c s.query.signal s.root = subst (λ (x : Point). IsEvaluable c x.signal x.time) w a.evaluable in
      let here : cell ≡ cell_at c (root_point s) = right ∙ ap (cell_at c) w in
      let w_roots = roots_left c (window_in s) s.root in
      record {
        running = root-running cell e l here;
        number = refl;
        from = refl;
        to = refl;
        strand = ap (λ st. stacked (map (shown_frame c) st) (roots_left c (window_in s) cell.span.stop)) e
            ∙ ap (λ t. stacked [] (roots_left c (window_in s) t)) (cell-end cell here)
            ∙ sym (ap (λ st. heard_by (map (shown_frame c) st) w_roots) e ∙ ap (heard_by []) (root-ask c ok (window_in s) stop-within s.root l v));
      }

  pub hears-top : (f g : PinWalk) (fs : List PinWalk) (p : Point) → s.stack ≡ f ∷ fs → IsAsked c s s.stack p → LooksOn c f g → TakesStepTo c after_answer s (record s { stack = g ∷ fs })
  hears-top f g fs p e a on =
      let w : WaitsFor c (root_point s) (f ∷ fs) p = subst (λ st. WaitsFor c (root_point s) st p) e a.waits in
      let w_roots = roots_left c (window_in s) s.root in
      let below = map (shown_frame c) fs in
      let at : Point → List Point → strands.Frame = λ x y. record { point = x; left = y } in
      let left : left_after c g.point g.looked ≡ rest (left_after c f.point f.looked) = looked-left c f w.0 g on ∙ sym (ap rest (left-ask c f w.0 p w.1 a.evaluable)) in
      let top : shown_frame c g ≡ at f.point (rest (left_after c f.point f.looked)) = ap (λ x. at x (left_after c g.point g.looked)) on.point ∙ ap (at f.point) left in
      record {
        running = with_walk f g fs e on.walk on.point;
        number = refl;
        from = refl;
        to = refl;
        strand = ap (λ x. stacked (x ∷ below) w_roots) top ∙ sym (ap (λ st. heard_by (map (shown_frame c) st) w_roots) e);
      }

  -- what the top is to hear
  hearing : (f : PinWalk) (fs : List PinWalk) (p : Point) (cell : Cell) → s.stack ≡ f ∷ fs → IsAsked c s s.stack p → cell ≡ cell_at c p → IsHearing c cell f
  hearing f fs p cell e a right =
      let w : WaitsFor c (root_point s) (f ∷ fs) p = subst (λ st. WaitsFor c (root_point s) st p) e a.waits in
      record { walk = top-walk f fs e; looking = w.0; heard = ap Some right ∙ sym (ap (cell_there c) w.1) }

  pub hearing-top : (p : Point) (cell : Cell) → IsAsked c s s.stack p → cell ≡ cell_at c p → OnTop (IsHearing c cell) s.stack
  hearing-top p cell a right = go s.stack refl
    where
      go : (st : List PinWalk) → s.stack ≡ st → OnTop (IsHearing c cell) st
      go [] e = tt
      go (f ∷ fs) e = hearing f fs p cell e a right

  pub hears-on-top : (st : List PinWalk) (p : Point) (f : PinWalk) → IsTop s.stack f → IsAsked c s s.stack p → ChangesTop (LooksOn c) s.stack st → TakesStepTo c after_answer s (record s { stack = st })
  hears-on-top st p f t a h = go s.stack refl t h
    where
      go : (old : List PinWalk) → s.stack ≡ old → IsTop old f → ChangesTop (LooksOn c) old st → TakesStepTo c after_answer s (record s { stack = st })
      go [] e t h = absurd t
      go (x ∷ xs) e t h = subst (λ l. TakesStepTo c after_answer s (record s { stack = l })) (sym h.2) (hears-top x h.0 xs p e a h.1)

  -- the point that is asked for is one of the circuit
  asked-in_circuit : (st : List PinWalk) (p : Point) → AreWalks c (root_point s) st → WaitsFor c (root_point s) st p → (length st ≡ 0 → s.root < s.to) → IsPoint c p
  asked-in_circuit [] p fr w live =
      let l : s.root < s.to = live refl in
      let a = r.window in
      let b = r.within in
      subst (IsPoint c) (sym w) (record { signal = r.signal l; time = omega arith })
  asked-in_circuit (f ∷ fs) p fr w live = source-point c ok f p fr.0 w.0 w.1

  pub asked-point : (p : Point) → IsAsked c s s.stack p → IsPoint c p
  asked-point p a = asked-in_circuit s.stack p r.walks a.waits a.live

  busy-when : (st : List PinWalk) → (length st ≡ 0 → s.root < s.to) → (0 < length st → s.root < s.to) → s.root < s.to
  busy-when [] f g = f refl
  busy-when (x ∷ xs) f g = g (omega arith)

  -- a point is claimed
  pub claims : (g : PinWalk) (p : Point) (n : ℕ) → IsAsked c s s.stack p → IsPinWalk c g → g.point ≡ p → g.looked ≡ 0 → n ≡ s.charged + 1 → TakesStepTo c (λ x. after_claim c x p) s (record s { stack = g ∷ s.stack; charged = n })
  claims g p n a is same none count =
      let at : Point → List Point → strands.Frame = λ x y. record { point = x; left = y } in
      let with : List strands.Frame → ℕ → Strand = λ st k. record (strand_of c s) { stack = st; charged = k } in
      let top : shown_frame c g ≡ at p (asked_children c p) = ap (λ k. at g.point (left_after c g.point k)) none ∙ ap (λ x. at x (left_after c x 0)) same ∙ ap (at p) (left-all c p) in
      record {
        running = record {
          signal = r.signal;
          window = r.window;
          within = r.within;
          since = r.since;
          root = r.root;
          walks = (is, subst (WaitsFor c (root_point s) s.stack) (sym same) a.waits, r.walks);
          busy = λ _. busy-when s.stack a.live r.busy;
          last = r.last;
        };
        number = refl;
        from = refl;
        to = refl;
        strand = ap (λ x. with (x ∷ map (shown_frame c) s.stack) n) top ∙ ap (with (at p (asked_children c p) ∷ map (shown_frame c) s.stack)) count;
      }

  -- the top is gone
  without-top : (f : PinWalk) (fs : List PinWalk) (n : ℕ) → s.stack ≡ f ∷ fs → IsRunning c (record s { stack = fs; filled = n })
  without-top f fs n e = record {
    signal = r.signal;
    window = r.window;
    within = r.within;
    since = r.since;
    root = r.root;
    walks = (walks-of f fs e).2;
    busy = λ _. r.busy (count-of f fs e);
    last = r.last;
  }

  pub drops : (f : PinWalk) (fs : List PinWalk) → s.stack ≡ f ∷ fs → TakesStepTo c after_drop s (record s { stack = fs })
  drops f fs e = record {
    running = without-top f fs s.filled e;
    number = refl;
    from = refl;
    to = refl;
    strand = ap (λ st. stacked (rest (map (shown_frame c) st)) (roots_left c (window_in s) s.root)) (sym e);
  }

  -- a fill is of the top, which has nothing left to hear
  pub record IsTopFilled (f : PinWalk) (p : Point) : Type 0 where
    pub point : f.point ≡ p
    pub awake : s.spent ≡ false
    pub whole : left_after c f.point f.looked ≡ []

  pub top-filled : (f : PinWalk) (fs : List PinWalk) (p : Point) → s.stack ≡ f ∷ fs → next (strand_of c s) ≡ Fill p → IsTopFilled f p
  top-filled f fs p e h = go s.spent refl (sym (ap (step_by s.spent) e) ∙ h)
    where
      whole : (xs : List Point) → left_after c f.point f.looked ≡ xs → ask_or (Fill f.point) xs ≡ Fill p → (f.point ≡ p) × (left_after c f.point f.looked ≡ [])
      whole [] k q = (cc q, k)
      whole (x ∷ xs) k q = absurd (cc q)

      go : (b : Bool) → s.spent ≡ b → (if b then Drop f.point else ask_or (Fill f.point) (left_after c f.point f.looked)) ≡ Fill p → IsTopFilled f p
      go true k q = absurd (cc q)
      go false k q = let w = whole (left_after c f.point f.looked) refl q in record { point = w.0; awake = k; whole = w.1 }

  pub fill-none : (p : Point) → s.stack ≡ [] → next (strand_of c s) ≡ Fill p → ⊥
  fill-none p e h = go s.spent (sym (ap (step_by s.spent) e) ∙ h)
    where
      end : (xs : List Point) → ask_or Done xs ≡ Fill p → ⊥
      end [] q = cc q
      end (x ∷ xs) q = cc q

      go : (b : Bool) → (if b then Done else ask_or Done (roots_left c (window_in s) s.root)) ≡ Fill p → ⊥
      go true q = cc q
      go false q = end (roots_left c (window_in s) s.root) q

  -- what lies under a filled top asks for its point
  pub record IsUnder (f : PinWalk) (fs : List PinWalk) (n : ℕ) : Type 0 where
    pub running : IsRunning c (record s { stack = fs; filled = n })
    pub ready : IsReadyIn c (record s { stack = fs; filled = n }) fs
    pub asks : IsAsked c (record s { stack = fs; filled = n }) fs f.point

  pub under : (f : PinWalk) (fs : List PinWalk) (p : Point) (n : ℕ) → s.stack ≡ f ∷ fs → IsTopFilled f p → IsUnder f fs n
  under f fs p n e t =
      let fr = walks-of f fs e in
      record {
        running = without-top f fs n e;
        ready = ready-in fs fr.1 fr.0.evaluable;
        asks = record { awake = t.awake; waits = fr.1; evaluable = fr.0.evaluable; live = λ _. r.busy (count-of f fs e) };
      }
    where
      ready-in : (st : List PinWalk) → WaitsFor c (root_point s) st f.point → IsEvaluable c f.point.signal f.point.time → IsReadyIn c (record s { stack = fs; filled = n }) st
      ready-in [] w v = λ _. subst (λ (x : Point). IsEvaluable c x.signal x.time) w v
      ready-in (g ∷ gs) w v = inr (w.0, (f.point, w.1, v))

  pub ready-root : s.stack ≡ [] → IsReadyAt c s → s.root < s.to → IsEvaluable c s.query.signal s.root
  ready-root e h l = let k : IsReadyIn c s [] = subst (IsReadyIn c s) e h in k l

  pub ready-top : (f : PinWalk) (fs : List PinWalk) → s.stack ≡ f ∷ fs → IsReadyAt c s → IsReady c f
  ready-top f fs e h = subst (IsReadyIn c s) e h

  -- where a point is to be filled there is a top
  pub filling-top : (o : Option PinWalk) (below : List PinWalk) → MatchOption o ((s.stack ≡ []) × (below ≡ [])) (λ f. s.stack ≡ f ∷ below) → (p : Point) → next (strand_of c s) ≡ Fill p → (f : PinWalk) × (s.stack ≡ f ∷ below)
  filling-top None below h p k = absurd (fill-none p h.0 k)
  filling-top (Some f) below h p k = (f, h)

  pub filling-walk : (o : Option PinWalk) → MatchOption o (s.stack ≡ []) (IsTop s.stack) → (p : Point) → next (strand_of c s) ≡ Fill p → o ≡ None → ⊥
  filling-walk None h p k = λ e. fill-none p h k
  filling-walk (Some f) h p k = λ e. absurd (cc e)

-- a walk with nothing left to hear has looked at all that it looks at
pub whole-done : (c : Circuit) (f g : PinWalk) → HearsBases c f g → IsReady c g → left_after c f.point f.looked ≡ [] → g.looked ≡ length (looked_at c g.point)
whole-done c f g a (inl done) h = done
whole-done c f g a (inr (looking, (p, src, v))) h = let k : p ∷ left_after c g.point (g.looked + 1) ≡ [] = sym (left-ask c g looking p src v) ∙ a.left ∙ h in absurd (cc k)

-- steps that follow one another
pub steps-none : (c : Circuit) (s : Parts) → IsRunning c s → TakesStepTo c itself s s
steps-none c s r = record { running = r; number = refl; from = refl; to = refl; strand = refl }

pub steps-on : (c : Circuit) (f : Strand → Strand) (a b d : Parts) → TakesStepTo c itself a b → TakesStepTo c f b d → TakesStepTo c f a d
steps-on c f a b d h k = record {
  running = k.running;
  number = k.number ∙ h.number;
  from = k.from ∙ h.from;
  to = k.to ∙ h.to;
  strand = k.strand ∙ ap f h.strand;
}

-- while roots with base answers are heard
pub record SkipsRoots (c : Circuit) (old new : Parts) : Type 0 where
  pub steps : TakesStepTo c itself old new
  pub empty : new.stack ≡ []
  pub again : IsRootReady c old → new ≡ old

pub skips-none : (c : Circuit) (s : Parts) → IsRunning c s → s.stack ≡ [] → SkipsRoots c s s
skips-none c s r e = record { steps = steps-none c s r; empty = e; again = λ _. refl }

module _ (c : Circuit) (ok : IsCircuit c) (a s : Parts) (h : SkipsRoots c a s) (cell : Cell) (k : IsRootKnown c s cell) (n : ℕ) (end : n ≡ cell.span.stop) where
  abbrev at-end : ℕ → Parts
  at-end t = record s { root = t; last = Some cell }

  -- a root was skipped, so the first one had a base answer
  not-ready : IsRootReady c a → at-end cell.span.stop ≡ a
  not-ready ready = absurd (k.base (subst (λ x. IsRootReady c x) (sym (h.again ready)) ready k.live))

  pub skips-on : SkipsRoots c a (record s { root = n; last = Some cell })
  skips-on =
      let m = moves-root c ok s h.steps.running cell h.empty k.live k.base k.right in
      let t = steps-on c itself a s (record s { root = cell.span.stop; last = Some cell }) h.steps m in
      subst (λ x. SkipsRoots c a (record s { root = x; last = Some cell })) (sym end) (record { steps = t; empty = h.empty; again = not-ready })

  pub roots-nearer : s.to - n < s.to - s.root
  roots-nearer =
      let r = h.steps.running in
      let w = r.window in
      let b = r.within in
      let l = k.live in
      let same : cell.span.stop ≡ (span c s.query.signal s.root).stop = ap (λ (x : Cell). x.span.stop) k.right in
      let later : s.root < (span c s.query.signal s.root).stop = (cell-covers c ok s.root s.query.signal (omega arith)).inside.high in
      omega arith

-- what is pending of a strand that asks or fills
pub answered : (c : Circuit) (ok : IsCircuit c) (s : Parts) (r : IsRunning c s) → IsReadyAt c s → (cell : Cell) → (a : IsAskedCell c (strand_of c s) cell) → IsAsked c s s.stack a.0
answered c ok s r ready cell a = asked c ok s r a.0 ready a.1

-- the top is filled, and what lies under it hears its cell
module _ (c : Circuit) (ok : IsCircuit c) (s : Parts) (r : IsRunning c s) (p : Point) (fills : next (strand_of c s) ≡ Fill p) (f : PinWalk) (below : List PinWalk) (e : s.stack ≡ f ∷ below) where
  abbrev popped : Parts
  popped = record s { stack = below; filled = s.filled + 1 }

  filled-top : IsTopFilled c ok s r f p
  filled-top = top-filled c ok s r f below p e fills

  beneath : IsUnder c ok s r f below (s.filled + 1)
  beneath = under c ok s r f below p (s.filled + 1) e filled-top

  pub popped-running : IsRunning c popped
  popped-running = beneath.running

  pub popped-ready : IsReadyAt c popped
  popped-ready = beneath.ready

  pub popped-asks : next (strand_of c popped) ≡ Ask p
  popped-asks =
      let a = beneath.asks in
      waits-ask c ok popped popped-running f.point below refl a.awake a.waits a.evaluable (r.busy (count-of c ok s r f below e)) ∙ ap Ask filled-top.point

  pub popped-answer : (cell : Cell) → cell ≡ cell_at c p → IsAskedCell c (strand_of c popped) cell
  popped-answer cell h = (p, popped-asks, h)

  pub popped-finishes : (t : Parts) → TakesStepTo c after_answer popped t → TakesStepTo c after_fill s t
  popped-finishes t h = record {
    running = h.running;
    number = h.number;
    from = h.from;
    to = h.to;
    strand = h.strand ∙ ap (λ st. after_answer (record (strand_of c s) { stack = rest (map (shown_frame c) st); filled = s.filled + 1 })) (sym e);
  }

  pub filled-cell : (g : PinWalk) → HearsBases c f g → IsReady c g → g.looked ≡ length (looked_at c g.point)
  filled-cell g a ready = whole-done c f g a ready filled-top.whole

  pub filled-point : f.point ≡ p
  filled-point = filled-top.point
