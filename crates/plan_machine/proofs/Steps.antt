-- Each kind of step keeps a plan sound.
use Rattle.std.proofs.Common.{◌≡◌, ℕ, ◌+◌, ◌<◌, ◌≤◌, ◌&&◌, ◌%◌, true, false, cond, List, length, map, slice_get, slice_set, get_or, refl, ap, sym, ◌∙◌, subst, arith, inl, inr, Option, Some, None}
use Rattle.std.proofs.Math.ListN.{length-set}
use Rattle.std.proofs.lemmas.List.{get_or-set_same, get_or-set_other}
use Rattle.std.proofs.lemmas.List.Elements.{All-contains}
use Rattle.std.proofs.lemmas.Bool.{cases_eq, cases_Bool, and_cases}
use Rattle.valid_intervals.specs.declared.Point.{Point}
use Rattle.valid_intervals.specs.declared.SignalCell.{SignalCell}
use Rattle.valid_intervals.specs.Cells.{same_point, stored_at}
use Rattle.circuit_meaning.specs.Forced.{forced_circuit}
use Rattle.circuit_meaning.proofs.Callers.{held-fits, needed-before}
use Rattle.journal_meaning.specs.declared.batch.Query.{Query}
use Rattle.journal_meaning.specs.declared.Entry.TheVariants.{Told, Claimed, Dropped}
use Rattle.journal_meaning.specs.States.{holder, without_point}
use Rattle.journal_meaning.specs.Batches.{Batch, Site, IsNeededBy, NeedOf, OfQuery, window_of}
use Rattle.journal_meaning.specs.Allowed.{IsAt}
use Rattle.circuit_meaning.specs.Cells.{cell_at}
use Rattle.journal_meaning.proofs.Callers.{cases_point, claim-here, claim-other, holder-without, without-other}
use Rattle.journal_meaning.specs.Lawful.{IsLawful}
use Rattle.plan_machine.specs.declared.strand.Next.TheVariants.{Ask, Fill, Drop}
use Rattle.plan_machine.specs.Strands.{Strand, next, rest, after_answer, after_claim, waiting, awake, given_up, after_drop, after_fill, IsOnStack, IsStrand}
use Rattle.plan_machine.proofs.Stacks.{IsTop, held-heard, heard-held, held-rest, rest-held, top-held, top-once, heard-keeps, claimed-keeps, flags-keep, dropped-keeps, finished-keeps, fill-top, drop-top}
use Rattle.plan_machine.proofs.Wanted.{asks-needed}
use Rattle.plan_machine.specs.Shards.{Shard, shard_with_entry, filled_shard, IsShard}
use Rattle.plan_machine.specs.Plans.{Plan, no_shard, home, shard_of, claim_of, asks, woken_strand, itself, with_strand}
use Rattle.plan_machine.specs.Steps as steps
use Rattle.plan_machine.specs.Turns.{plan_after}
use Rattle.plan_machine.specs.Sound.{IsSound}
use Rattle.plan_machine.proofs.Links.{IsChange, one-change, all-change, Waits, IsLinking, linked-after}
use Rattle.plan_machine.proofs.Shards.{told-keeps, claimed-shard, dropped-shard, filled-keeps, filled-claims}

-- a needed point lies within the horizon
need-time : (b : Batch) → IsLawful b → (q : Query) → q.to ≤ b.circuit.horizon + 1 → (p : Point) (site : Option Site) → NeedOf b.circuit site q p → p.time ≤ b.circuit.horizon
need-time b l q within p None n = let k = needed-before b.circuit l.circuit (window_of q) p.signal p.time n in omega (arith, k, within)
need-time b l q within p (Some site) n =
    let k = needed-before (forced_circuit b.circuit site.signal site.value) (held-fits b.circuit site.signal site.value l.circuit) (window_of q) p.signal p.time n.0 in
    omega (arith, k, within)

pub wanted-time : (b : Batch) → IsLawful b → (number : ℕ) (p : Point) → OfQuery b number (λ y. IsNeededBy b y p) → p.time ≤ b.circuit.horizon
wanted-time b l number p w =
    let within : w.0.to ≤ b.circuit.horizon + 1 = All-contains (λ (q : Query). q.to ≤ b.circuit.horizon + 1) b.queries w.0 l.windows w.1 in
    need-time b l w.0 within p b.site w.3

-- a strand that may have come out
module _ (f : Strand → Strand) (p : Point) (o : Strand) where
  pub woken-cases : (P : Strand → Type 0) → P (awake (f o)) → P o → P (woken_strand f p o)
  woken-cases P a n = elim (o.waits && asks p (next o)) as (λ t. P (cond t (awake (f o)) o)) [ true ↦ a | false ↦ n ]

  -- where it still waits, it is as before, and asks for another point
  woken-waits : (woken_strand f p o).waits ≡ true → (woken_strand f p o ≡ o) × (o.waits ≡ true) × (next o ≡ Ask p → ⊥)
  woken-waits = elim (cases_Bool (o.waits && asks p (next o))) [
    | inl t ↦ rw t (λ e. absurd (cc e))
    | inr t ↦ rw t (λ e. (
      refl,
      e,
      λ n. elim (cases_point p p) [
        | inl k ↦ elim (and_cases o.waits (asks p (next o)) t) [
          | inl l ↦ cc (l, e)
          | inr l ↦ let m : asks p (next o) ≡ same_point p p = ap (asks p) n in cc (l, m, k.0)
        ]
        | inr k ↦ k.1 refl
      ],
    ))
  ]

-- claims of a plan with another shard
module _ (plan : Plan) (strands : List Strand) (p : Point) (h : Shard) (some : 1 ≤ length plan.shards) where
  abbrev pub next_plan : Plan
  next_plan = record { strands = strands; shards = slice_set plan.shards (home plan p) h }

  pub claims-here : claim_of next_plan p ≡ holder h.state.claims p
  claims-here =
      let low : home plan p < length plan.shards = omega arith in
      rw (length-set plan.shards (home plan p) h, get_or-set_same plan.shards (home plan p) h no_shard low) refl

  pub claims-same : (x : Point) → holder h.state.claims x ≡ holder (shard_of plan p).state.claims x → claim_of next_plan x ≡ claim_of plan x
  claims-same x e =
      let low : home plan p < length plan.shards = omega arith in
      rw (length-set plan.shards (home plan p) h) (elim (cases_eq (home plan x) (home plan p)) [
        | inl k ↦ rw (k, get_or-set_same plan.shards (home plan p) h no_shard low) e
        | inr k ↦ rw (get_or-set_other plan.shards (home plan p) (home plan x) h no_shard k) refl
      ])

module _ (b : Batch) (lawful : IsLawful b) (opening : ℕ → List SignalCell) (plan : Plan) (sound : IsSound b opening plan)
    (i : ℕ) (s : Strand) (at : slice_get plan.strands i ≡ Some s) (ready : s.waits ≡ false) where
  -- the point is wanted by the strand's query
  abbrev pub Wanted : Point → Type 0
  Wanted p = OfQuery b s.query.number (λ y. IsNeededBy b y p)

  pub asked-wanted : (p : Point) → next s ≡ Ask p → Wanted p
  asked-wanted p e = ((asks-needed b lawful s (sound.strands i s at)).asked p e).needed

  pub held-wanted : (p : Point) → IsOnStack s.stack p → Wanted p
  held-wanted p h = ((asks-needed b lawful s (sound.strands i s at)).on_stack p h).needed

  pub known : (p : Point) → Wanted p → OfQuery b s.query.number (λ y. Unit {0})
  known p w = (w.0, w.1, w.2, tt)

  pub here-of : (p : Point) → Wanted p → IsAt b (home plan p) p
  here-of p w = (ap (λ n. p.signal % n) (sym sound.count), wanted-time b lawful s.query.number p w)

  pub home-shard : (p : Point) → IsShard b (home plan p) (opening (home plan p)) (shard_of plan p)
  home-shard p =
      let n = sound.count in
      let k = lawful.some_shard in
      sound.shards (home plan p) (omega arith)

  pub shards-after : (p : Point) (h : Shard) → IsShard b (home plan p) (opening (home plan p)) h → (n : ℕ) → n < b.shards → IsShard b n (opening n) (get_or (slice_set plan.shards (home plan p) h) n no_shard)
  shards-after p h is n low =
      let count = sound.count in
      let within : home plan p < length plan.shards = omega (arith, lawful.some_shard) in
      elim (cases_eq n (home plan p)) [
        | inl e ↦ subst (λ k. IsShard b k (opening k) (get_or (slice_set plan.shards (home plan p) h) k no_shard)) (sym e) (rw (get_or-set_same plan.shards (home plan p) h no_shard within) is)
        | inr e ↦ rw (get_or-set_other plan.shards (home plan p) n h no_shard e) (sound.shards n low)
      ]

  strands-after : (ys : List Strand) (t : Strand) (f : Strand → Strand) → IsChange plan.strands ys i s t f → IsStrand b t → ((o : Strand) → IsStrand b o → IsStrand b (f o))
      → (j : ℕ) (r : Strand) → slice_get ys j ≡ Some r → IsStrand b r
  strands-after ys t f change is all j r e = elim (cases_eq j i) [
    | inl k ↦
        let now : slice_get ys j ≡ Some t = subst (λ l. slice_get ys l ≡ Some t) (sym k) change.now in
        let same : t ≡ r = cc (now, e) in
        subst (IsStrand b) same is
    | inr k ↦ let o = change.back j r k e in subst (IsStrand b) (sym o.1.1) (all o.0 (sound.strands j o.0 o.1.0))
  ]

  -- one strand changes, and no claim
  same-linking : (new : Point → Option ℕ) (t : Strand) → ((x : Point) → new x ≡ claim_of plan x) → t.query ≡ s.query
      → ((x : Point) → IsOnStack t.stack x → IsOnStack s.stack x) → ((x : Point) → IsOnStack s.stack x → IsOnStack t.stack x) → (t.waits ≡ true → Waits new t)
      → IsLinking (claim_of plan) new plan.strands i s t (λ o. o)
  same-linking new t eq query same still waits =
      let links = sound.linked in
      record {
        query = query;
        queries = λ o. refl;
        same = λ o x h. h;
        still = λ o x h. h;
        own = λ x h. eq x ∙ links.on_stack i s x at (same x h);
        alone = λ x j o hb aj ho. links.once j i o s x aj at ho (same x hb);
        others = λ x j o ne aj ho. eq x;
        from = λ x q h. inr (sym (eq x) ∙ h, still x);
        waits = waits;
        wait = λ j o ne aj w. let k = links.waiting j o aj w in (k.0, (k.1.0, (k.1.1.0, eq k.0 ∙ k.1.1.1)));
      }

  pub told-sound : (p : Point) (x : SignalCell) → next s ≡ Ask p → stored_at (shard_of plan p).state.cells p ≡ Some x → IsSound b opening (plan_after b plan i s (steps.Tell p x))
  told-sound p x e found =
      let is = sound.strands i s at in
      let a = asked-wanted p e in
      let h = shard_with_entry (Told s.query.number p x.cell) (shard_of plan p) in
      let count = sound.count in
      let some : 1 ≤ length plan.shards = omega (arith, lawful.some_shard) in
      let ys = slice_set plan.strands i (after_answer s) in
      let change : IsChange plan.strands ys i s (after_answer s) (λ o. o) = one-change plan.strands i s (after_answer s) at in
      let new = claim_of (record { strands = ys; shards = slice_set plan.shards (home plan p) h }) in
      record {
        count = length-set plan.shards (home plan p) h ∙ sound.count;
        shards = shards-after p h (told-keeps b (home plan p) (opening (home plan p)) (shard_of plan p) (home-shard p) s.query.number p (here-of p a) lawful.circuit x a found);
        strands = strands-after ys (after_answer s) (λ o. o) change (heard-keeps b s is) (λ o k. k);
        linked = linked-after (claim_of plan) new plan.strands ys i s (after_answer s) (λ o. o) sound.linked change
            (same-linking new (after_answer s) (λ y. claims-same plan ys p h some y refl) refl (held-heard s.stack) (heard-held s.stack) (λ w. absurd (cc (w, ready))));
      }

  pub some-shard : 1 ≤ length plan.shards
  some-shard = let count = sound.count in omega (arith, lawful.some_shard)

  -- a plan with one other shard is sound where its parts are
  step-sound : (ys : List Strand) (t : Strand) (f : Strand → Strand) → IsChange plan.strands ys i s t f → IsStrand b t → ((o : Strand) → IsStrand b o → IsStrand b (f o))
      → (p : Point) (h : Shard) → IsShard b (home plan p) (opening (home plan p)) h
      → IsLinking (claim_of plan) (claim_of (record { strands = ys; shards = slice_set plan.shards (home plan p) h })) plan.strands i s t f
      → IsSound b opening (record { strands = ys; shards = slice_set plan.shards (home plan p) h })
  step-sound ys t f change is all p h shard linking = record {
    count = length-set plan.shards (home plan p) h ∙ sound.count;
    shards = shards-after p h shard;
    strands = strands-after ys t f change is all;
    linked = linked-after (claim_of plan) (claim_of (record { strands = ys; shards = slice_set plan.shards (home plan p) h })) plan.strands ys i s t f sound.linked change linking;
  }

  -- a plan with one other strand and the same shards
  pub strand-sound : (t : Strand) → IsStrand b t → IsLinking (claim_of plan) (claim_of plan) plan.strands i s t (λ o. o) → IsSound b opening (with_strand plan i t)
  strand-sound t is linking =
      let ys = slice_set plan.strands i t in
      let change : IsChange plan.strands ys i s t (λ o. o) = one-change plan.strands i s t at in
      record {
        count = sound.count;
        shards = sound.shards;
        strands = strands-after ys t (λ o. o) change is (λ o k. k);
        linked = linked-after (claim_of plan) (claim_of plan) plan.strands ys i s t (λ o. o) sound.linked change linking;
      }

  pub waits-sound : (p : Point) (q : ℕ) → next s ≡ Ask p → claim_of plan p ≡ Some q → IsSound b opening (plan_after b plan i s steps.Wait)
  waits-sound p q e claim = strand-sound (waiting s) (flags-keep b s (sound.strands i s at) s.spent true)
      (same-linking (claim_of plan) (waiting s) (λ x. refl) refl (λ x h. h) (λ x h. h) (λ w. (p, (q, (e, claim)))))

  pub spent-sound : IsSound b opening (plan_after b plan i s steps.Spend)
  spent-sound = strand-sound (given_up s) (flags-keep b s (sound.strands i s at) true s.waits)
      (same-linking (claim_of plan) (given_up s) (λ x. refl) refl (λ x h. h) (λ x h. h) (λ w. absurd (cc (w, ready))))

  -- the strand claims p
  claim-linking : (new : Point → Option ℕ) (p : Point) → claim_of plan p ≡ None → new p ≡ Some s.query.number → ((x : Point) → (x ≡ p → ⊥) → new x ≡ claim_of plan x)
      → IsLinking (claim_of plan) new plan.strands i s (after_claim b.circuit s p) (λ o. o)
  claim-linking new p free here other =
      let links = sound.linked in
      let apart = λ (x : Point) (q : ℕ) (e : claim_of plan x ≡ Some q) (k : x ≡ p). let m : claim_of plan x ≡ None = ap (claim_of plan) k ∙ free in let no_claim : ⊥ = cc (m, e) in no_claim in
      record {
        query = refl;
        queries = λ o. refl;
        same = λ o x h. h;
        still = λ o x h. h;
        own = λ x h. elim h [
          | inl e ↦ ap new (sym e) ∙ here
          | inr k ↦ let o = links.on_stack i s x at k in other x (apart x s.query.number o) ∙ o
        ];
        alone = λ x j o h aj ho. elim h [
          | inl e ↦ absurd (apart x o.query.number (links.on_stack j o x aj ho) (sym e))
          | inr k ↦ links.once j i o s x aj at ho k
        ];
        others = λ x j o ne aj ho. other x (apart x o.query.number (links.on_stack j o x aj ho));
        from = λ x q h. elim (cases_point x p) [
          | inl e ↦ inl (inl (sym e.1))
          | inr e ↦ inr (sym (other x e.1) ∙ h, λ k. inr k)
        ];
        waits = λ w. absurd (cc (w, ready));
        wait = λ j o ne aj w. let k = links.waiting j o aj w in (k.0, (k.1.0, (k.1.1.0, other k.0 (apart k.0 k.1.0 k.1.1.1) ∙ k.1.1.1)));
      }

  pub claimed-sound : (p : Point) → next s ≡ Ask p → stored_at (shard_of plan p).state.cells p ≡ None → claim_of plan p ≡ None → s.charged < s.budget → IsSound b opening (plan_after b plan i s (steps.Claim p))
  claimed-sound p e none free room =
      let a = asked-wanted p e in
      let h = shard_with_entry (Claimed s.query.number p) (shard_of plan p) in
      let t = after_claim b.circuit s p in
      let ys = slice_set plan.strands i t in
      let old = (shard_of plan p).state.claims in
      step-sound ys t (λ o. o) (one-change plan.strands i s t at) (claimed-keeps b s (sound.strands i s at) p e room) (λ o k. k) p h
      (claimed-shard b (home plan p) (opening (home plan p)) (shard_of plan p) (home-shard p) s.query.number p (here-of p a) a none free)
      (claim-linking (claim_of (record { strands = ys; shards = slice_set plan.shards (home plan p) h })) p free
      (claims-here plan ys p h some-shard ∙ claim-here old p s.query.number)
      (λ x ne. claims-same plan ys p h some-shard x (claim-other old p x s.query.number ne)))

  -- the claim of its top ends, and f is done to those that come out
  end-linking : (new : Point → Option ℕ) (p : Point) (t : Strand) (f : Strand → Strand) → IsTop s.stack p → new p ≡ None → ((x : Point) → (x ≡ p → ⊥) → new x ≡ claim_of plan x)
      → t.query ≡ s.query → t.waits ≡ false → ((x : Point) → IsOnStack t.stack x → IsOnStack (rest s.stack) x) → ((x : Point) → IsOnStack (rest s.stack) x → IsOnStack t.stack x)
      → ((o : Strand) → (f o).query ≡ o.query) → ((o : Strand) (x : Point) → IsOnStack (f o).stack x → IsOnStack o.stack x) → ((o : Strand) (x : Point) → IsOnStack o.stack x → IsOnStack (f o).stack x)
      → IsLinking (claim_of plan) new plan.strands i s t (woken_strand f p)
  end-linking new p t f top gone other query quiet held holds fq fh fk =
      let links = sound.linked in
      let is = sound.strands i s at in
      let apart = λ (x : Point) (h : IsOnStack t.stack x) (k : x ≡ p). let m : p.time < x.time = top-once b.circuit lawful.circuit s.roots s.stack p x is.chain top (held x h) in let l : x.time ≡ p.time = ap (λ (z : Point). z.time) k in let never : ⊥ = omega arith in never in
      record {
        query = query;
        queries = λ o. woken-cases f p o (λ z. z.query ≡ o.query) (fq o) refl;
        same = λ o x. woken-cases f p o (λ z. IsOnStack z.stack x → IsOnStack o.stack x) (fh o x) (λ h. h);
        still = λ o x. woken-cases f p o (λ z. IsOnStack o.stack x → IsOnStack z.stack x) (fk o x) (λ h. h);
        own = λ x h. other x (apart x h) ∙ links.on_stack i s x at (held-rest s.stack x (held x h));
        alone = λ x j o h aj ho. links.once j i o s x aj at ho (held-rest s.stack x (held x h));
        others = λ x j o ne aj ho. other x (λ e. ne (links.once j i o s x aj at ho (subst (IsOnStack s.stack) (sym e) (top-held s.stack p top))));
        from = λ x q h. elim (cases_point x p) [
          | inl e ↦ let k : new x ≡ None = ap new e.1 ∙ gone in absurd (cc (k, h))
          | inr e ↦ inr (sym (other x e.1) ∙ h, λ k. elim (rest-held s.stack p x top k) [ inl l ↦ absurd (e.1 l) | inr l ↦ holds x l ])
        ];
        waits = λ w. absurd (cc (w, quiet));
        wait = λ j o ne aj w.
            let k = woken-waits f p o w in
            let l = links.waiting j o aj k.1 in
            let differs = λ (e : l.0 ≡ p). k.2 (l.1.1.0 ∙ ap (λ z. Ask z) e) in
            subst (Waits new) (sym k.0) (l.0, (l.1.0, (l.1.1.0, other l.0 differs ∙ l.1.1.1)));
      }

  pub dropped-sound : (p : Point) → next s ≡ Drop p → IsSound b opening (plan_after b plan i s (steps.GiveBack p))
  dropped-sound p e =
      let is = sound.strands i s at in
      let top = drop-top s p e in
      let w = held-wanted p (top-held s.stack p top) in
      let h = shard_with_entry (Dropped s.query.number p) (shard_of plan p) in
      let t = after_drop s in
      let ys = slice_set (map (woken_strand itself p) plan.strands) i t in
      let old = (shard_of plan p).state.claims in
      step-sound ys t (woken_strand itself p) (all-change (woken_strand itself p) plan.strands i s t at) (dropped-keeps b s is p top)
      (λ o k. woken-cases itself p o (IsStrand b) (flags-keep b o k o.spent false) k) p h
      (dropped-shard b (home plan p) (opening (home plan p)) (shard_of plan p) (home-shard p) s.query.number p (here-of p w) (known p w) (sound.linked.on_stack i s p at (top-held s.stack p top)))
      (end-linking (claim_of (record { strands = ys; shards = slice_set plan.shards (home plan p) h })) p t itself top
      (claims-here plan ys p h some-shard ∙ holder-without old p)
      (λ x ne. claims-same plan ys p h some-shard x (without-other old p x ne))
      refl ready (λ x k. k) (λ x k. k) (λ o. refl) (λ o x k. k) (λ o x k. k))

  pub filled-sound : (p : Point) → next s ≡ Fill p → IsSound b opening (plan_after b plan i s (steps.Finish p))
  filled-sound p e =
      let is = sound.strands i s at in
      let top = fill-top s p e in
      let h = filled_shard b.capacity s.query.number p (cell_at b.circuit p) (shard_of plan p) in
      let t = after_fill s in
      let ys = slice_set (map (woken_strand after_answer p) plan.strands) i t in
      let old = (shard_of plan p).state.claims in
      let w = held-wanted p (top-held s.stack p top) in
      let here = here-of p w in
      let claim = sound.linked.on_stack i s p at (top-held s.stack p top) in
      let claims : h.state.claims ≡ without_point old p = filled-claims b (home plan p) (opening (home plan p)) lawful.some_cell (shard_of plan p) (home-shard p) s.query.number p here claim in
      step-sound ys t (woken_strand after_answer p) (all-change (woken_strand after_answer p) plan.strands i s t at) (finished-keeps b s is p top)
      (λ o k. woken-cases after_answer p o (IsStrand b) (flags-keep b (after_answer o) (heard-keeps b o k) o.spent false) k) p h
      (filled-keeps b (home plan p) (opening (home plan p)) lawful.some_cell (shard_of plan p) (home-shard p) s.query.number p here claim (known p w))
      (end-linking (claim_of (record { strands = ys; shards = slice_set plan.shards (home plan p) h })) p t after_answer top
      (claims-here plan ys p h some-shard ∙ ap (λ z. holder z p) claims ∙ holder-without old p)
      (λ x ne. claims-same plan ys p h some-shard x (ap (λ z. holder z x) claims ∙ without-other old p x ne))
      refl ready (held-heard (rest s.stack)) (heard-held (rest s.stack)) (λ o. refl) (λ o. held-heard o.stack) (λ o. heard-held o.stack))
