-- A strand that runs alone from its start until it has ended.
use Rattle.std.proofs.Common.{◌≡◌, ◌≢◌, ℕ, zero, suc, ◌+◌, ◌<◌, ◌≤◌, false, List, [], ◌∷◌, slice_get, refl, sym, ap, subst, ◌∙◌, arith, inl, inr, Option, Some, None}
use Rattle.std.proofs.lemmas.Bool.{cases_Bool}
use Rattle.valid_intervals.specs.declared.Point.{Point}
use Rattle.valid_intervals.specs.declared.SignalCell.{SignalCell}
use Rattle.journal_meaning.specs.Batches.{Batch}
use Rattle.journal_meaning.proofs.Callers.{added-none}
use Rattle.journal_meaning.specs.Lawful.{IsLawful}
use Rattle.plan_machine.specs.declared.strand.Next.{Next}
use Rattle.plan_machine.specs.declared.strand.Next.TheVariants.{Ask, Fill, Drop, Done}
use Rattle.plan_machine.specs.Strands.{Frame, Strand, started_strand, next, IsOnStack}
use Rattle.journal_meaning.specs.Pieces.{Start}
use Rattle.plan_machine.specs.Plans.{Plan, claim_of}
use Rattle.plan_machine.specs.Steps as steps
use Rattle.plan_machine.specs.declared.Turned.{Turned}
use Rattle.plan_machine.specs.declared.Turned.TheVariants as comes
use Rattle.plan_machine.specs.Steps.{Step, step_at, turned_by, turn_outcome, is_turn}
use Rattle.plan_machine.specs.Turns.{plan_after, turn_at, turn}
use Rattle.plan_machine.specs.Bounds.{all_left}
use Rattle.plan_machine.specs.Sound.{IsSound}
use Rattle.plan_machine.specs.Journals.{journals}
use Rattle.plan_machine.specs.Alone.{plan_refusing, alone_step, alone_at, alone_turn, run_alone, RunsAlone, RanAlone, TurnsAlone}
use Rattle.plan_machine.proofs.Measure.{turn-less}
use Rattle.plan_machine.proofs.Ready.{ready-moves}
use Rattle.plan_machine.proofs.Underway.{goes-start}
use Rattle.plan_machine.proofs.Alone.{turns-alone}

-- a strand of a plan without claims holds nothing and waits for nothing
module _ (b : Batch) (opening : ℕ → List SignalCell) (plan : Plan) (sound : IsSound b opening plan) (free : (p : Point) → claim_of plan p ≡ None) (j : ℕ) (r : Strand) (at : slice_get plan.strands j ≡ Some r) where
  pub holds-none : r.stack ≡ []
  holds-none = by r.stack refl
    where
      by : (st : List Frame) → r.stack ≡ st → r.stack ≡ []
      by [] e = e
      by (f ∷ fs) e =
          let held : IsOnStack r.stack f.point = subst (λ st. IsOnStack st f.point) (sym e) (inl refl) in
          let claim = sound.linked.on_stack j r f.point at held in
          let none = free f.point in
          absurd (cc (claim, none))

  pub waits-none : r.waits ≡ false
  waits-none = elim (cases_Bool r.waits) [
    | inl w ↦
        let k = sound.linked.waiting j r at w in
        let none = free k.0 in
        let claim = k.1.1.1 in
        absurd (cc (claim, none))
    | inr w ↦ w
  ]

module _ (b : Batch) (lawful : IsLawful b) (opening : ℕ → List SignalCell) (n : ℕ) (a : Start) (old : Plan) where
  pub alone-start : IsSound b opening old → ((p : Point) → claim_of old p ≡ None) → slice_get old.strands n ≡ Some (started_strand b.circuit a) → RunsAlone b opening n a old old None
  alone-start sound free at = record {
    added = [];
    strand = started_strand b.circuit a;
    alone = record {
      sound = sound;
      at = at;
      awake = refl;
      others = λ j ne. refl;
      idle = λ j r ne e. (holds-none b opening old sound free j r e, waits-none b opening old sound free j r e);
      journals = added-none (journals old);
    };
    is_at = goes-start b.circuit a;
  }

  refused-left : (plan : Plan) (s : Strand) (m : Next) → all_left b (plan_refusing plan s m) ≡ all_left b plan
  refused-left plan s (Ask p) = refl
  refused-left plan s (Fill p) = refl
  refused-left plan s (Drop p) = refl
  refused-left plan s Done = refl

  -- a turn that is not Spent is a turn alone
  not_spent : (plan : Plan) (s : Strand) (t : Step) → turned_by t ≢ comes.Spent → alone_step b plan n s t ≡ plan_after b plan n s t
  not_spent plan s (steps.Tell p x) h = refl
  not_spent plan s (steps.Claim p) h = refl
  not_spent plan s steps.Wait h = refl
  not_spent plan s steps.Spend h = absurd (h refl)
  not_spent plan s (steps.Finish p) h = refl
  not_spent plan s (steps.GiveBack p) h = refl
  not_spent plan s steps.Rest h = refl

  is_spent : (plan : Plan) (s : Strand) (t : Step) (p : Point) → turned_by t ≡ comes.Spent → next s ≡ Ask p → alone_step b plan n s t ≡ plan_refusing (plan_after b plan n s t) s (Ask p)
  is_spent plan s (steps.Tell p x) r h e = absurd (cc h)
  is_spent plan s (steps.Claim p) r h e = absurd (cc h)
  is_spent plan s steps.Wait r h e = absurd (cc h)
  is_spent plan s steps.Spend r h e = ap (plan_refusing (plan_after b plan n s steps.Spend) s) e
  is_spent plan s (steps.Finish p) r h e = absurd (cc h)
  is_spent plan s (steps.GiveBack p) r h e = absurd (cc h)
  is_spent plan s steps.Rest r h e = absurd (cc h)

  -- the turn, by what it came to
  on-turn : (plan : Plan) (spent : Option Point) → RunsAlone b opening n a old plan spent → turn_outcome plan n ≢ comes.Spent → alone_turn b plan n ≡ turn b plan n
  on-turn plan spent r h =
      let s = r.strand in
      let t = step_at plan (Some s) in
      let at = r.alone.at in
      ap (alone_at b plan n) at ∙ not_spent plan s t (λ e. h (ap (λ o. turned_by (step_at plan o)) at ∙ e)) ∙ sym (ap (turn_at b plan n) at)

  spent-turn : (plan : Plan) (s : Strand) (p : Point) → slice_get plan.strands n ≡ Some s → next s ≡ Ask p → turn_outcome plan n ≡ comes.Spent → alone_turn b plan n ≡ plan_refusing (turn b plan n) s (Ask p)
  spent-turn plan s p at e h =
      let t = step_at plan (Some s) in
      ap (alone_at b plan n) at ∙ is_spent plan s t p (sym (ap (λ o. turned_by (step_at plan o)) at) ∙ h) e ∙ ap (λ z. plan_refusing z s (Ask p)) (sym (ap (turn_at b plan n) at))

  -- after a turn alone it has ended, or less is left
  record Goes (plan : Plan) : Type 0 where
    spent : Option Point
    runs : RunsAlone b opening n a old (alone_turn b plan n) spent
    less : all_left b (alone_turn b plan n) + 1 ≤ all_left b plan

  Stays : Plan → Option Point → Type 0
  Stays plan spent = (alone_turn b plan n ≡ plan) × RanAlone b opening n a old plan spent

  data Went (plan : Plan) (spent : Option Point) : Type 0 where
    On : Goes plan → Went plan spent
    End : alone_turn b plan n ≡ plan → RanAlone b opening n a old plan spent → Went plan spent

  moved : (t : Turned) → t ≢ comes.NotReady → is_turn t ≡ 1
  moved comes.Told h = refl
  moved comes.Claimed h = refl
  moved comes.Waits h = refl
  moved comes.Spent h = refl
  moved comes.Filled h = refl
  moved comes.Dropped h = refl
  moved comes.NotReady h = absurd (h refl)

  went : (plan : Plan) (spent : Option Point) → RunsAlone b opening n a old plan spent → Went plan spent
  went plan spent r = by (turn_outcome plan n) refl
    where
      k : TurnsAlone b opening n a old plan spent
      k = turns-alone b lawful opening n a old plan spent r

      goes-on : turn_outcome plan n ≢ comes.Spent → turn_outcome plan n ≢ comes.NotReady → Went plan spent
      goes-on ns nr =
          let e = on-turn plan spent r ns in
          let l = turn-less b plan n in
          let m = moved (turn_outcome plan n) nr in
          let c : all_left b (alone_turn b plan n) ≡ all_left b (turn b plan n) = ap (all_left b) e in
          On (record { spent = spent; runs = subst (λ z. RunsAlone b opening n a old z spent) (sym e) (k.on ns); less = omega arith })

      refuses : turn_outcome plan n ≡ comes.Spent → Went plan spent
      refuses h =
          let m = k.refusal h in
          let e = spent-turn plan m.1 m.0 m.3.at m.3.asks h in
          let l = turn-less b plan n in
          let one : is_turn (turn_outcome plan n) ≡ 1 = ap is_turn h in
          let c : all_left b (alone_turn b plan n) ≡ all_left b (turn b plan n) = ap (all_left b) e ∙ refused-left (turn b plan n) m.1 (Ask m.0) in
          On (record { spent = Some m.0; runs = subst (λ z. RunsAlone b opening n a old z (Some m.0)) (sym e) m.4; less = omega arith })

      by : (t : Turned) → turn_outcome plan n ≡ t → Went plan spent
      by comes.Told h = goes-on (λ e. cc (h, e)) (λ e. cc (h, e))
      by comes.Claimed h = goes-on (λ e. cc (h, e)) (λ e. cc (h, e))
      by comes.Waits h = absurd (k.never h)
      by comes.Spent h = refuses h
      by comes.Filled h = goes-on (λ e. cc (h, e)) (λ e. cc (h, e))
      by comes.Dropped h = goes-on (λ e. cc (h, e)) (λ e. cc (h, e))
      by comes.NotReady h =
          let e = on-turn plan spent r (λ z. cc (h, z)) in
          let same : turn b plan n ≡ plan = (ready-moves b plan n).idle h in
          End (e ∙ same) (k.ended h)

  stays : (k : ℕ) (plan : Plan) → alone_turn b plan n ≡ plan → run_alone b n k plan ≡ plan
  stays zero plan e = refl
  stays (suc k) plan e = ap (run_alone b n k) e ∙ stays k plan e

  -- it ends
  pub run-ends : (k : ℕ) (plan : Plan) (spent : Option Point) → RunsAlone b opening n a old plan spent → all_left b plan < k → (o : Option Point) × RanAlone b opening n a old (run_alone b n k plan) o
  run-ends zero plan spent r l = absurd (omega arith)
  run-ends (suc k) plan spent r l = by (went plan spent r) (λ m o s h. run-ends k m o s h)
    where
      by : Went plan spent → ((m : Plan) (o : Option Point) → RunsAlone b opening n a old m o → all_left b m < k → (o : Option Point) × RanAlone b opening n a old (run_alone b n k m) o) → (o : Option Point) × RanAlone b opening n a old (run_alone b n (suc k) plan) o
      by (On g) again = let less = g.less in again (alone_turn b plan n) g.spent g.runs (omega arith)
      by (End e ran) again = (spent, subst (λ z. RanAlone b opening n a old z spent) (sym (stays (suc k) plan e)) ran)
