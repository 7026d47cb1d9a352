-- The turns of one strand alone.
use Rattle.std.proofs.Common.{◌≡◌, ◌≢◌, ℕ, Bool, ◌&&◌, nat_eq, nat_le, nat_lt, suc, ◌+◌, ◌<◌, ◌≤◌, true, false, cond, List, [], ◌∷◌, ◌++◌, map, length, slice_get, slice_set, Contains, refl, sym, ap, subst, ◌∙◌, arith, inl, inr, true≢false, is_some, Option, Some, None, eq-eqb}
use Rattle.std.proofs.Math.ListN.{length-set}
use Rattle.std.proofs.lemmas.Bool.{cases_Bool, cases_eq, and_parts, and_from, ltb-true, ltb-false}
use Rattle.std.proofs.lemmas.List.Elements.{All-weaker, All-contains_itself, Contains-append_right}
use Rattle.valid_intervals.specs.declared.Point.{Point}
use Rattle.valid_intervals.specs.declared.SignalCell.{SignalCell}
use Rattle.valid_intervals.specs.Cells.{covers, cell_for, stored_at}
use Rattle.circuit_meaning.specs.Need.{children}
use Rattle.journal_meaning.specs.declared.Entry.{Entry}
use Rattle.journal_meaning.specs.declared.Entry.TheVariants.{Told, Filled, Dropped, Spent}
use Rattle.journal_meaning.specs.declared.batch.Query.{Query}
use Rattle.journal_meaning.specs.States.{holder}
use Rattle.journal_meaning.specs.Batches.{Batch}
use Rattle.circuit_meaning.specs.Cells.{cell_at}
use Rattle.journal_meaning.specs.Answers.{IsCovered, last_of, fill_count}
use Rattle.journal_meaning.specs.Grown.{IsSaid, IsFor, refusals, AreAdded}
use Rattle.journal_meaning.proofs.Callers.{own-covers, Each, Differ, each-left, pairs_from, pairs_to, added-more, covered-now, last-now}
use Rattle.journal_meaning.specs.Lawful.{IsLawful}
use Rattle.plan_machine.specs.declared.strand.Next.{Next}
use Rattle.plan_machine.specs.declared.strand.Next.TheVariants.{Ask, Fill, Drop, Done}
use Rattle.plan_machine.specs.Strands.{Frame, Strand, ask_or, next_in, next, rest, after_answer, after_claim, given_up, after_drop, after_fill, IsOnStack, IsStrand, left_in, IsFirst, IsChain}
use Rattle.journal_meaning.specs.Pieces.{Start}
use Rattle.plan_machine.proofs.Stacks.{IsTop, asks-first, asks-unspent, fill-top, fill-heard, drop-top, top-held, earlier}
use Rattle.plan_machine.proofs.Wanted.{held-within}
use Rattle.plan_machine.specs.Shards.{Shard, shard_with_entry, IsShard}
use Rattle.plan_machine.specs.Plans.{Plan, home, shard_of, claim_of, with_shard, woken_strand, itself}
use Rattle.plan_machine.specs.Steps as steps
use Rattle.plan_machine.specs.declared.Turned.TheVariants as comes
use Rattle.plan_machine.specs.Steps.{Step, claim_step, ask_step, next_step, step_at, turned_by, turn_outcome}
use Rattle.plan_machine.specs.Turns.{plan_after, turn_at, turn}
use Rattle.plan_machine.specs.Sound.{IsSound, HasEnded}
use Rattle.plan_machine.specs.Journals.{journals, entries, evictions_for, entries_of}
use Rattle.plan_machine.specs.Alone.{plan_refusing, roots_of, AreFed, IsUnspent, points_on, drops, IsUnderWay, IsGivingUp, IsAtPoint, IsAlone, RunsAlone, IsServedAlone, IsRefusedAlone, IsOutcome, RanAlone, TurnsAlone}
use Rattle.plan_machine.proofs.Links.{set-here, set-other}
use Rattle.plan_machine.proofs.Shards.{found, claims-within, spent-shard}
use Rattle.plan_machine.proofs.Steps.{claims-same, shards-after, home-shard, here-of, asked-wanted, some-shard, told-sound, claimed-sound, spent-sound, filled-sound, dropped-sound}
use Rattle.plan_machine.proofs.Measure.{woken-itself}
use Rattle.plan_machine.proofs.Ready.{has-ended}
use Rattle.plan_machine.proofs.Journals.{evictions-each, step-own, shard-added, step-added}
use Rattle.plan_machine.proofs.Underway.{IsNoFill, none-refused, goes-more, goes-heard, goes-claimed, goes-popped, children-covered, roots-covered}
use Rattle.plan_machine.proofs.GivingUp.{refused-last, gone-last, refused-filled, refused-once, refused-own, refused-fed, starts-giving_up, goes-dropped, differ-left}

-- a cell that covers a point says its cell
pub says-cell : (p : Point) (x : SignalCell) → covers p x ≡ true → covers p (cell_for p x.cell) ≡ true
says-cell p x h =
    let k = and_parts (nat_eq x.signal p.signal && nat_le x.cell.span.start p.time) (nat_lt p.time x.cell.span.stop) h in
    let l = and_parts (nat_eq x.signal p.signal) (nat_le x.cell.span.start p.time) k.0 in
    and_from _ _ (and_from _ _ (eq-eqb p.signal p.signal refl) l.1) k.1

-- where no strand waits, none comes out
woken-rests : (f : Strand → Strand) (p : Point) (xs : List Strand) → ((j : ℕ) (r : Strand) → slice_get xs j ≡ Some r → r.waits ≡ false) → map (woken_strand f p) xs ≡ xs
woken-rests f p [] h = refl
woken-rests f p (x ∷ xs) h =
    let a : woken_strand f p x ≡ x = woken-itself f p x (h 0 x refl) in
    let k : map (woken_strand f p) xs ≡ xs = woken-rests f p xs (λ j r e. h (suc j) r e) in
    cc (a, k)

-- what a strand that has no budget left does
no_drop : (spent : Bool) → spent ≡ false → (s : Strand) (p : Point) → s.spent ≡ spent → next s ≡ Drop p → ⊥
no_drop spent e s p k h = by s.spent s.roots s.stack (k ∙ e) h
  where
    ask-not : (end : Next) (xs : List Point) → (end ≡ Drop p → ⊥) → ask_or end xs ≡ Drop p → ⊥
    ask-not end [] never h = never h
    ask-not end (x ∷ xs) never h = cc h

    by : (spent : Bool) (roots : List Point) (st : List Frame) → spent ≡ false → next_in spent roots st ≡ Drop p → ⊥
    by true roots st e h = true≢false e
    by false roots [] e h = ask-not Done roots (λ e. cc e) h
    by false roots (f ∷ fs) e h = ask-not (Fill f.point) f.left (λ e. cc e) h

no_fill : (s : Strand) (p : Point) → s.spent ≡ true → next s ≡ Fill p → ⊥
no_fill s p e h = by s.spent s.roots s.stack e h
  where
    by : (spent : Bool) (roots : List Point) (st : List Frame) → spent ≡ true → next_in spent roots st ≡ Fill p → ⊥
    by true roots [] e h = cc h
    by true roots (f ∷ fs) e h = cc h
    by false roots st e h = true≢false (sym e)

-- a plan with another shard that has the same claims
module _ (b : Batch) (lawful : IsLawful b) (opening : ℕ → List SignalCell) (plan : Plan) (sound : IsSound b opening plan) where
  pub shard-sound : (p : Point) (h : Shard) → IsShard b (home plan p) (opening (home plan p)) h → h.state.claims ≡ (shard_of plan p).state.claims → (i : ℕ) (s : Strand) → slice_get plan.strands i ≡ Some s → s.waits ≡ false → IsSound b opening (with_shard plan p h)
  shard-sound p h is same i s at ready =
      let new = with_shard plan p h in
      let eq = λ (x : Point). claims-same plan plan.strands p h (some-shard b lawful opening plan sound i s at ready) x (ap (λ k. holder k x) same) in
      let links = sound.linked in
      record {
        count = length-set plan.shards (home plan p) h ∙ sound.count;
        shards = shards-after b lawful opening plan sound i s at ready p h is;
        strands = sound.strands;
        linked = record {
          on_stack = λ j r x e k. eq x ∙ links.on_stack j r x e k;
          holder = λ x q k. links.holder x q (sym (eq x) ∙ k);
          once = links.once;
          waiting = λ j r e w. let k = links.waiting j r e w in (k.0, (k.1.0, (k.1.1.0, eq k.0 ∙ k.1.1.1)));
        };
      }

module _ (b : Batch) (lawful : IsLawful b) (opening : ℕ → List SignalCell) (n : ℕ) (a : Start) (old : Plan) where
  module _ (plan : Plan) (added : List Entry) (s : Strand) (alone : IsAlone b opening n old added s plan) where
    is : IsStrand b s
    is = alone.sound.strands n s alone.at

    -- what strand n asks for is not claimed
    unclaimed : (p : Point) → next s ≡ Ask p → claim_of plan p ≡ None
    unclaimed p e = by (claim_of plan p) refl
      where
        by : (o : Option ℕ) → claim_of plan p ≡ o → claim_of plan p ≡ None
        by None k = k
        by (Some q) k =
            let o = alone.sound.linked.holder p q k in
            elim (cases_eq o.0 n) [
              | inl same ↦
                  let at : slice_get plan.strands o.0 ≡ Some s = subst (λ j. slice_get plan.strands j ≡ Some s) (sym same) alone.at in
                  let r : o.1.0 ≡ s = cc (at, o.1.1.0) in
                  let held : IsOnStack s.stack p = subst (λ (z : Strand). IsOnStack z.stack p) r o.1.1.1 in
                  let before : p.time < p.time = earlier b.circuit lawful.circuit s.roots s.stack p p (alone.sound.strands n s alone.at).chain (asks-first s p e) held in
                  absurd (omega arith)
              | inr ne ↦
                  let empty = (alone.idle o.0 o.1.0 ne o.1.1.0).0 in
                  let held : IsOnStack [] p = subst (λ st. IsOnStack st p) empty o.1.1.1 in
                  absurd held
            ]

    -- where strand n holds nothing, nothing is claimed
    pub all-free : s.stack ≡ [] → (p : Point) → claim_of plan p ≡ None
    all-free empty p = by (claim_of plan p) refl
      where
        by : (o : Option ℕ) → claim_of plan p ≡ o → claim_of plan p ≡ None
        by None k = k
        by (Some q) k =
            let o = alone.sound.linked.holder p q k in
            let none : o.1.0.stack ≡ [] = elim (cases_eq o.0 n) [
              | inl same ↦
                  let at : slice_get plan.strands o.0 ≡ Some s = subst (λ j. slice_get plan.strands j ≡ Some s) (sym same) alone.at in
                  let r : s ≡ o.1.0 = cc (at, o.1.1.0) in
                  subst (λ (z : Strand). z.stack ≡ []) r empty
              | inr ne ↦ (alone.idle o.0 o.1.0 ne o.1.1.0).0
            ] in
            let held : IsOnStack [] p = subst (λ st. IsOnStack st p) none o.1.1.1 in
            absurd held

    none-waits : (j : ℕ) (r : Strand) → slice_get plan.strands j ≡ Some r → r.waits ≡ false
    none-waits j r e = elim (cases_eq j n) [
      | inl same ↦
          let at : slice_get plan.strands j ≡ Some s = subst (λ k. slice_get plan.strands k ≡ Some s) (sym same) alone.at in
          let k : s ≡ r = cc (at, e) in
          subst (λ (z : Strand). z.waits ≡ false) k alone.awake
      | inr ne ↦ (alone.idle j r ne e).1
    ]

    -- strand n alone is another
    alone-after : (new : Plan) (t : Strand) (more : List Entry) → IsSound b opening new → new.strands ≡ slice_set plan.strands n t → t.waits ≡ false → AreAdded (journals plan) more (journals new) → IsAlone b opening n old (added ++ more) t new
    alone-after new t more sound strands awake grows = record {
      sound = sound;
      at = ap (λ xs. slice_get xs n) strands ∙ set-here plan.strands n s t alone.at;
      awake = awake;
      others = λ j ne. ap (λ xs. slice_get xs j) strands ∙ set-other plan.strands n j t ne ∙ alone.others j ne;
      idle = λ j r ne e. alone.idle j r ne (sym (ap (λ xs. slice_get xs j) strands ∙ set-other plan.strands n j t ne) ∙ e);
      journals = added-more (journals old) added (journals plan) more (journals new) alone.journals grows;
    }

    grows : (t : Step) → AreAdded (journals plan) (entries_of b plan s t) (journals (plan_after b plan n s t))
    grows t = step-added b lawful opening plan alone.sound n s t

    own : (t : Step) → s.query ≡ a.query → Each (IsFor a.query.number) (entries_of b plan s t)
    own t e = subst (λ (z : Query). Each (IsFor z.number) (entries_of b plan s t)) e (step-own b plan s t)

    -- under way
    module _ (u : IsUnderWay b.circuit a added s) where
      told-on : (p : Point) (x : SignalCell) → next s ≡ Ask p → stored_at (shard_of plan p).state.cells p ≡ Some x → RunsAlone b opening n a old (plan_after b plan n s (steps.Tell p x)) None
      told-on p x e f =
          let t = steps.Tell p x in
          let more = entries_of b plan s t in
          let entry = Told s.query.number p x.cell in
          let covering : covers p x ≡ true = (found (covers p) (shard_of plan p).state.cells x f).0 in
          let said : IsSaid (added ++ more) p = (entry, Contains-append_right added more entry (0, omega arith, refl), says-cell p x covering) in
          record {
            added = added ++ more;
            strand = after_answer s;
            alone = alone-after (plan_after b plan n s t) (after_answer s) more (told-sound b lawful opening plan alone.sound n s alone.at alone.awake p x e f) refl alone.awake (grows t);
            is_at = goes-heard b.circuit a (added ++ more) s (goes-more b.circuit a added s u more (own t u.query) (tt, tt) (tt, tt)) p (asks-first s p e) said;
          }

      claimed-on : (p : Point) → next s ≡ Ask p → stored_at (shard_of plan p).state.cells p ≡ None → s.charged < s.budget → RunsAlone b opening n a old (plan_after b plan n s (steps.Claim p)) None
      claimed-on p e f room =
          let t = steps.Claim p in
          let more = entries_of b plan s t in
          record {
            added = added ++ more;
            strand = after_claim b.circuit s p;
            alone = alone-after (plan_after b plan n s t) (after_claim b.circuit s p) more (claimed-sound b lawful opening plan alone.sound n s alone.at alone.awake p e f (unclaimed p e) room) refl alone.awake (grows t);
            is_at = goes-claimed b.circuit a (added ++ more) s (goes-more b.circuit a added s u more (own t u.query) (tt, tt) (tt, tt)) p;
          }

      filled-on : (p : Point) → next s ≡ Fill p → RunsAlone b opening n a old (plan_after b plan n s (steps.Finish p)) None
      filled-on p e =
          let t = steps.Finish p in
          let x = cell_at b.circuit p in
          let evictions = evictions_for b.capacity (cell_for p x) (shard_of plan p) in
          let more = entries_of b plan s t in
          let entry = Filled s.query.number p x in
          let top = fill-top s p e in
          let number : a.query.number ≡ s.query.number = ap (λ (q : Query). q.number) (sym u.query) in
          let none = evictions-each IsNoFill (λ _ _. tt) b.capacity (cell_for p x) (shard_of plan p) in
          let going = evictions-each IsUnspent (λ _ _. tt) b.capacity (cell_for p x) (shard_of plan p) in
          let ours = evictions-each (IsFor a.query.number) (λ _ _. tt) b.capacity (cell_for p x) (shard_of plan p) in
          let under : Strand = record s { stack = rest s.stack; filled = s.filled + 1 } in
          let popped : IsUnderWay b.circuit a (added ++ more) under =
          subst (λ q. IsUnderWay b.circuit a (added ++ (evictions ++ Filled q p x ∷ [])) under) number (goes-popped b.circuit a added s u p x evictions top (fill-heard s p e) ours going none) in
          let within = held-within b lawful s is p (top-held s.stack p top) in
          let known : Contains more entry = Contains-append_right evictions (entry ∷ []) entry (0, omega arith, refl) in
          let said : IsSaid (added ++ more) p = (entry, Contains-append_right added more entry known, own-covers b.circuit lawful.circuit p within) in
          record {
            added = added ++ more;
            strand = after_fill s;
            alone = alone-after (plan_after b plan n s t) (after_fill s) more (filled-sound b lawful opening plan alone.sound n s alone.at alone.awake p e)
                (ap (λ xs. slice_set xs n (after_fill s)) (woken-rests after_answer p plan.strands none-waits)) alone.awake (grows t);
            is_at = goes-heard b.circuit a (added ++ more) under popped p (chain-first s.stack is.chain top) said;
          }
        where
          chain-first : (st : List Frame) → IsChain b.circuit s.roots st → IsTop st p → IsFirst (left_in s.roots (rest st)) p
          chain-first [] chain top = absurd top
          chain-first (f ∷ fs) chain top = subst (IsFirst (left_in s.roots fs)) top chain.0

      -- its budget is spent
      spent-on : (p : Point) → next s ≡ Ask p → stored_at (shard_of plan p).state.cells p ≡ None → s.budget ≤ s.charged → RunsAlone b opening n a old (plan_refusing (plan_after b plan n s steps.Spend) s (Ask p)) (Some p)
      spent-on p e f full =
          let held = length s.stack in
          let entry = Spent s.query.number p held in
          let mid = plan_after b plan n s steps.Spend in
          let sound : IsSound b opening mid = spent-sound b lawful opening plan alone.sound n s alone.at alone.awake in
          let at : slice_get mid.strands n ≡ Some (given_up s) = set-here plan.strands n s (given_up s) alone.at in
          let h = shard_with_entry entry (shard_of plan p) in
          let wanted = asked-wanted b lawful opening plan alone.sound n s alone.at alone.awake p e in
          let here = here-of b lawful opening plan alone.sound n s alone.at alone.awake p wanted in
          let shard : IsShard b (home plan p) (opening (home plan p)) h =
          spent-shard b (home plan p) (opening (home plan p)) (shard_of plan p) (home-shard b lawful opening plan alone.sound n s alone.at alone.awake p) s.query.number p here held wanted (claims-within b s is) f (unclaimed p e) in
          let new = with_shard mid p h in
          let whole : IsSound b opening new = shard-sound b lawful opening mid sound p h shard refl n (given_up s) at alone.awake in
          let longer : AreAdded (journals plan) (entry ∷ []) (journals new) = shard-added b lawful opening plan alone.sound p h (entry ∷ []) refl (refl, tt) in
          let charge : s.charged ≡ s.budget = let k = is.charge in omega arith in
          let number : a.query.number ≡ s.query.number = ap (λ (q : Query). q.number) (sym u.query) in
          record {
            added = added ++ entry ∷ [];
            strand = given_up s;
            alone = alone-after new (given_up s) (entry ∷ []) whole refl alone.awake longer;
            is_at = subst (λ q. IsGivingUp b.circuit a p (added ++ Spent q p held ∷ []) (given_up s)) number (starts-giving_up b.circuit lawful.circuit a added s p u is.chain (asks-first s p e) charge);
          }

    -- giving up
    dropped-on : (p : Point) → IsGivingUp b.circuit a p added s → (x : Point) → next s ≡ Drop x → RunsAlone b opening n a old (plan_after b plan n s (steps.GiveBack x)) (Some p)
    dropped-on p g x e =
        let t = steps.GiveBack x in
        let more = entries_of b plan s t in
        let number : a.query.number ≡ s.query.number = ap (λ (q : Query). q.number) (sym g.query) in
        record {
          added = added ++ more;
          strand = after_drop s;
          alone = alone-after (plan_after b plan n s t) (after_drop s) more (dropped-sound b lawful opening plan alone.sound n s alone.at alone.awake x e)
              (ap (λ xs. slice_set xs n (after_drop s)) (woken-rests itself x plan.strands none-waits)) alone.awake (grows t);
          is_at = subst (λ q. IsGivingUp b.circuit a p (added ++ Dropped q x ∷ []) (after_drop s)) number (goes-dropped b.circuit a p added s x (drop-top s x e) g);
        }

  -- what is left when it has ended
  module _ (plan : Plan) (added : List Entry) (s : Strand) (alone : IsAlone b opening n old added s plan) (ended : HasEnded s) where
    ran : (spent : Option Point) → s.query ≡ a.query → s.spent ≡ is_some spent → Each (IsFor a.query.number) added → AreFed b.circuit added → IsOutcome b.circuit a added (entries plan) spent → RanAlone b opening n a old plan spent
    ran spent query flag own fed outcome = record {
      sound = alone.sound;
      added = added;
      journals = alone.journals;
      own = own;
      others = alone.others;
      strand = record { strand = s; at = alone.at; query = query; ended = ended; spent = flag };
      free = all-free plan added s alone ended.empty;
      children = λ q p x known.
          All-weaker (IsCovered b.circuit added) (IsCovered b.circuit (entries plan)) (covered-now (entries old) added (entries plan) alone.journals.together b.circuit)
          (children b.circuit p.signal p.time) (children-covered b.circuit added p (fed q p x known));
      outcome = outcome;
    }

    served : IsUnderWay b.circuit a added s → IsServedAlone b.circuit a added (entries plan)
    served u = record {
      roots = elim ended.cause [
        | inl spent ↦ absurd (true≢false (sym spent ∙ u.unspent))
        | inr none ↦ All-weaker (IsCovered b.circuit added) (IsCovered b.circuit (entries plan)) (covered-now (entries old) added (entries plan) alone.journals.together b.circuit) (roots_of b.circuit a) (roots-covered b.circuit a added s u none)
      ];
      charge =
          let k = u.charge in
          let l = (is plan added s alone).charge in
          let m = u.budget in
          omega arith;
      refusals = none-refused a.query.number added u.going;
    }

    -- what was refused, after what was added before
    refusal : (p : Point) (g : IsGivingUp b.circuit a p added s) → added ≡ g.before ++ Spent a.query.number p (length g.gone) ∷ drops a.query.number g.gone → IsRefusedAlone a p added (entries plan)
    refusal p g same =
        let q = a.query.number in
        let held = length g.gone in
        let all = g.before ++ Spent q p held ∷ drops q g.gone in
        let apart : Each (λ y. p ≢ y) (g.gone ++ points_on s.stack) = (pairs_from (p ∷ g.gone ++ points_on s.stack) g.different).0 in
        let differ : Differ (g.gone ++ points_on s.stack) = (pairs_from (p ∷ g.gone ++ points_on s.stack) g.different).1 in
        let at = λ (x : Point). ap (λ l. last_of l q x) same in
        let together = alone.journals.together in
        record {
          given_up = g.gone;
          last = last-now (entries old) added (entries plan) together q p (Spent q p held) (at p ∙ refused-last q g.before p held g.gone (each-left (λ y. p ≢ y) g.gone (points_on s.stack) apart));
          different = pairs_to g.gone (differ-left g.gone (points_on s.stack) differ);
          dropped = All-weaker (Contains g.gone) (λ x. last_of (entries plan) q x ≡ Some (Dropped q x))
              (λ x h. last-now (entries old) added (entries plan) together q x (Dropped q x) (at x ∙ gone-last q g.before p held g.gone x h)) g.gone (All-contains_itself g.gone);
          budget =
              let k = g.account in
              let l = refused-filled q g.before p held g.gone in
              let m : fill_count added q ≡ fill_count all q = ap (λ l. fill_count l q) same in
              let none : length s.stack ≡ 0 = ap length ended.empty in
              omega arith;
          refusals = ap (λ l. refusals l q) same ∙ refused-once q g.before p held g.gone g.going;
        }

    pub ran-alone : (spent : Option Point) → IsAtPoint b.circuit a added s spent → RanAlone b opening n a old plan spent
    ran-alone None u = ran None u.query u.unspent u.own u.fed (served u)
    ran-alone (Some p) g =
        let q = a.query.number in
        let held = length g.gone in
        let none : length s.stack ≡ 0 = ap length ended.empty in
        let count : length g.gone + length s.stack ≡ length g.gone = omega arith in
        let same : added ≡ g.before ++ Spent q p held ∷ drops q g.gone = g.added_is ∙ ap (λ k. g.before ++ Spent q p k ∷ drops q g.gone) count in
        ran (Some p) g.query g.spent
        (subst (Each (IsFor q)) (sym same) (refused-own q g.before p held g.gone g.own))
        (subst (AreFed b.circuit) (sym same) (refused-fed q g.before p held g.gone b.circuit g.fed))
        (refusal p g same)

  is-spend : (t : Step) → turned_by t ≡ comes.Spent → t ≡ steps.Spend
  is-spend (steps.Tell p x) h = absurd (cc h)
  is-spend (steps.Claim p) h = absurd (cc h)
  is-spend steps.Wait h = absurd (cc h)
  is-spend steps.Spend h = refl
  is-spend (steps.Finish p) h = absurd (cc h)
  is-spend (steps.GiveBack p) h = absurd (cc h)
  is-spend steps.Rest h = absurd (cc h)

  -- what a step comes to
  record Comes (plan : Plan) (s : Strand) (spent : Option Point) (t : Step) : Type 0 where
    never : turned_by t ≢ comes.Waits
    on : turned_by t ≢ comes.Spent → RunsAlone b opening n a old (plan_after b plan n s t) spent
    refusal : turned_by t ≡ comes.Spent → (p : Point) × (spent ≡ None) × (next s ≡ Ask p) × RunsAlone b opening n a old (plan_refusing (plan_after b plan n s t) s (Ask p)) (Some p)
    ended : turned_by t ≡ comes.NotReady → next s ≡ Done

  -- a step that goes on
  goes : (plan : Plan) (s : Strand) (spent : Option Point) (t : Step) → turned_by t ≢ comes.Waits → turned_by t ≢ comes.Spent → turned_by t ≢ comes.NotReady → RunsAlone b opening n a old (plan_after b plan n s t) spent → Comes plan s spent t
  goes plan s spent t waits plan_refusing rests on = record { never = waits; on = λ _. on; refusal = λ e. absurd (plan_refusing e); ended = λ e. absurd (rests e) }

  module _ (plan : Plan) (added : List Entry) (s : Strand) (alone : IsAlone b opening n old added s plan) where
    rests : (spent : Option Point) → IsAtPoint b.circuit a added s spent → next s ≡ Done → Comes plan s spent steps.Rest
    rests spent at e = record {
      never = λ k. cc k;
      on = λ _. record { added = added; strand = s; alone = alone; is_at = at };
      refusal = λ k. absurd (cc k);
      ended = λ _. e;
    }

    by_claim : (u : IsUnderWay b.circuit a added s) (p : Point) (o : Option ℕ) → next s ≡ Ask p → stored_at (shard_of plan p).state.cells p ≡ None → claim_of plan p ≡ o → Comes plan s None (claim_step s p o)
    by_claim u p (Some q) e none claim = let free = unclaimed plan added s alone p e in absurd (cc (claim, free))
    by_claim u p None e none claim = elim (cases_Bool (nat_lt s.charged s.budget)) [
      | inl t ↦ rw t (goes plan s None (steps.Claim p) (λ k. cc k) (λ k. cc k) (λ k. cc k) (claimed-on plan added s alone u p e none (ltb-true s.charged s.budget t)))
      | inr f ↦ rw f (record {
        never = λ k. cc k;
        on = λ k. absurd (k refl);
        refusal = λ _. (p, refl, e, spent-on plan added s alone u p e none (ltb-false s.charged s.budget f));
        ended = λ k. absurd (cc k);
      })
    ]

    by_cell : (u : IsUnderWay b.circuit a added s) (p : Point) (o : Option SignalCell) → next s ≡ Ask p → stored_at (shard_of plan p).state.cells p ≡ o → Comes plan s None (ask_step plan s p o)
    by_cell u p (Some x) e f = goes plan s None (steps.Tell p x) (λ k. cc k) (λ k. cc k) (λ k. cc k) (told-on plan added s alone u p x e f)
    by_cell u p None e f = by_claim u p (claim_of plan p) e f refl

    by_next : (u : IsUnderWay b.circuit a added s) (m : Next) → next s ≡ m → Comes plan s None (next_step plan s m)
    by_next u (Ask p) e = by_cell u p (stored_at (shard_of plan p).state.cells p) e refl
    by_next u (Fill p) e = goes plan s None (steps.Finish p) (λ k. cc k) (λ k. cc k) (λ k. cc k) (filled-on plan added s alone u p e)
    by_next u (Drop p) e = absurd (no_drop false refl s p u.unspent e)
    by_next u Done e = rests None u e

    by_drop : (r : Point) (g : IsGivingUp b.circuit a r added s) (m : Next) → next s ≡ m → Comes plan s (Some r) (next_step plan s m)
    by_drop r g (Ask p) e = absurd (true≢false (sym g.spent ∙ asks-unspent s p e))
    by_drop r g (Fill p) e = absurd (no_fill s p g.spent e)
    by_drop r g (Drop p) e = goes plan s (Some r) (steps.GiveBack p) (λ k. cc k) (λ k. cc k) (λ k. cc k) (dropped-on plan added s alone r g p e)
    by_drop r g Done e = rests (Some r) g e

    by_phase : (spent : Option Point) → IsAtPoint b.circuit a added s spent → Comes plan s spent (next_step plan s (next s))
    by_phase None u = by_next u (next s) refl
    by_phase (Some r) g = by_drop r g (next s) refl

    comes-to : (spent : Option Point) → IsAtPoint b.circuit a added s spent → Comes plan s spent (step_at plan (Some s))
    comes-to spent at =
        let P : Bool → Type 0 = λ w. Comes plan s spent (cond w steps.Rest (next_step plan s (next s))) in
        subst P (sym alone.awake) (by_phase spent at)

  pub turns-alone : (plan : Plan) (spent : Option Point) → RunsAlone b opening n a old plan spent → TurnsAlone b opening n a old plan spent
  turns-alone plan spent r =
      let s = r.strand in
      let k : Comes plan s spent (step_at plan (Some s)) = comes-to plan r.added s r.alone spent r.is_at in
      let turned_is : turn_outcome plan n ≡ turned_by (step_at plan (Some s)) = ap (λ o. turned_by (step_at plan o)) r.alone.at in
      let turn_is : turn b plan n ≡ plan_after b plan n s (step_at plan (Some s)) = ap (turn_at b plan n) r.alone.at in
      record {
        never = λ e. k.never (sym turned_is ∙ e);
        on = λ e. subst (λ z. RunsAlone b opening n a old z spent) (sym turn_is) (k.on (λ h. e (turned_is ∙ h)));
        refusal = λ e.
            let m = k.refusal (sym turned_is ∙ e) in
            let spend : step_at plan (Some s) ≡ steps.Spend = is-spend (step_at plan (Some s)) (sym turned_is ∙ e) in
            let now : slice_get (turn b plan n).strands n ≡ Some (given_up s) = ap (λ z. slice_get z.strands n) (turn_is ∙ ap (plan_after b plan n s) spend) ∙ set-here plan.strands n s (given_up s) r.alone.at in
            let still : next_in false s.roots s.stack ≡ Ask m.0 = subst (λ w. next_in w s.roots s.stack ≡ Ask m.0) (asks-unspent s m.0 m.2) m.2 in
            (m.0, s, m.1, record { at = r.alone.at; asks = m.2; now = now; still = still }, subst (λ z. RunsAlone b opening n a old (plan_refusing z s (Ask m.0)) (Some m.0)) (sym turn_is) m.3);
        ended = λ e. ran-alone plan r.added s r.alone (has-ended s (k.ended (sym turned_is ∙ e))) spent r.is_at;
      }
