-- The calls of a shard, in the words of the plan.
use Rattle.std.proofs.Common.{◌≡◌, ℕ, ◌%◌, true, false, cond, List, [], ◌∷◌, ◌++◌, map, refl, ap, sym, ◌∙◌, inl, inr}
use Rattle.std.specs.List.{AllByRecursion, AllZip}
use Rattle.valid_intervals.specs.declared.Point.{Point}
use Rattle.valid_intervals.specs.Cells.{same_point}
use Rattle.journal_meaning.specs.Batches.{Batch}
use Rattle.journal_meaning.proofs.Callers.{cases_point}
use Rattle.plan_machine.specs.Strands.{Strand}
use Rattle.plan_machine.specs.Parts.{NumberedStrand}
use Rattle.plan_machine.specs.KeptPlans as plans
use Rattle.plan_machine.specs.KeptPlans.{Parked}
use Rattle.demand_points.specs.Demands.{Demand, TakesStep}
use Rattle.memo_shards.specs.KeptShards.{Waiting, KeptShard, IsWaiting, IsKnownShard, waiting_at}
use Rattle.memo_shards.specs.Asks.{WaitsThere}
use Rattle.memo_shards.specs.Ends.{LeavesNone}
use Rattle.memo_shards.specs.Seen.{numbered_strand, parked_of, waited_shard}

-- those that wait at a point
pub waiting-seen : (ws : List Waiting) (p : Point) → plans.waiting_at (map parked_of ws) p ≡ map numbered_strand (waiting_at ws p)
waiting-seen [] p = refl
waiting-seen (w ∷ ws) p =
    elim (same_point w.point p) as (λ t. cond t (numbered_strand w.strand ∷ plans.waiting_at (map parked_of ws) p) (plans.waiting_at (map parked_of ws) p) ≡ map numbered_strand (cond t (w.strand ∷ waiting_at ws p) (waiting_at ws p))) [
      | true ↦ ap (λ l. numbered_strand w.strand ∷ l) (waiting-seen ws p)
      | false ↦ waiting-seen ws p
    ]

map-snoc : (ws : List Demand) (w : Demand) → map numbered_strand (ws ++ w ∷ []) ≡ map numbered_strand ws ++ numbered_strand w ∷ []
map-snoc [] w = refl
map-snoc (x ∷ ws) w = ap (λ l. numbered_strand x ∷ l) (map-snoc ws w)

-- a strand that waits stands after the others, and elsewhere nothing changes
module _ (old new : KeptShard) (p : Point) (w : Demand) (h : WaitsThere old new p w) where
  pub waits-here : plans.waiting_at (waited_shard new).parked p ≡ plans.waiting_at (waited_shard old).parked p ++ numbered_strand w ∷ []
  waits-here = elim (cases_point p p) [
    | inl e ↦
        let there : waiting_at new.waiting p ≡ waiting_at old.waiting p ++ w ∷ [] = h.waiting p ∙ ap (λ t. cond t (waiting_at old.waiting p ++ w ∷ []) (waiting_at old.waiting p)) e.0 in
        waiting-seen new.waiting p ∙ ap (map numbered_strand) there ∙ map-snoc (waiting_at old.waiting p) w ∙ ap (λ l. l ++ numbered_strand w ∷ []) (sym (waiting-seen old.waiting p))
    | inr e ↦ absurd (e.1 refl)
  ]

  pub waits-other : (x : Point) → (p ≡ x → ⊥) → plans.waiting_at (waited_shard new).parked x ≡ plans.waiting_at (waited_shard old).parked x
  waits-other x ne = elim (cases_point p x) [
    | inl e ↦ absurd (ne e.1)
    | inr e ↦ waiting-seen new.waiting x ∙ ap (map numbered_strand) (h.waiting x ∙ ap (λ t. cond t (waiting_at old.waiting p ++ w ∷ []) (waiting_at old.waiting x)) e.0) ∙ sym (waiting-seen old.waiting x)
  ]

-- a claim has ended
module _ (old new : KeptShard) (p : Point) (h : LeavesNone old new p) where
  pub none-here : plans.waiting_at (waited_shard new).parked p ≡ []
  none-here = elim (cases_point p p) [
    | inl e ↦ waiting-seen new.waiting p ∙ ap (map numbered_strand) (h p ∙ ap (λ t. cond t [] (waiting_at old.waiting p)) e.0)
    | inr e ↦ absurd (e.1 refl)
  ]

  pub none-other : (x : Point) → (p ≡ x → ⊥) → plans.waiting_at (waited_shard new).parked x ≡ plans.waiting_at (waited_shard old).parked x
  none-other x ne = elim (cases_point p x) [
    | inl e ↦ absurd (ne e.1)
    | inr e ↦ waiting-seen new.waiting x ∙ ap (map numbered_strand) (h x ∙ ap (λ t. cond t [] (waiting_at old.waiting x)) e.0) ∙ sym (waiting-seen old.waiting x)
  ]

-- who waits in a shard waits for a point of it
homes : (b : Batch) (m : KeptShard) (ws : List Waiting) → AllByRecursion (IsWaiting b m) ws → AllByRecursion (λ (k : Parked). k.point.signal % b.shards ≡ m.number) (map parked_of ws)
homes b m [] h = tt
homes b m (w ∷ ws) h = (h.0.here.0, homes b m ws h.1)

pub homes-seen : (b : Batch) (opening : _) (m : KeptShard) → IsKnownShard b opening m → AllByRecursion (λ (k : Parked). k.point.signal % b.shards ≡ m.number) (waited_shard m).parked
homes-seen b opening m is = homes b m m.waiting is.waiting

-- strands that made a step, in a row
pub steps-seen : (f : Strand → Strand) (old new : Demand) → TakesStep f old new → numbered_strand new ≡ record { number = old.number; strand = f old.strand }
steps-seen f old new s = let at : ℕ → Strand → NumberedStrand = λ n t. record { number = n; strand = t } in ap (λ n. at n new.strand) s.number ∙ ap (at old.number) s.strand

abbrev pub changed : (Strand → Strand) → NumberedStrand → NumberedStrand
changed f w = record { number = w.number; strand = f w.strand }

pub zip-seen : (f : Strand → Strand) (xs ys : List Demand) → AllZip (TakesStep f) xs ys → map numbered_strand ys ≡ map (changed f) (map numbered_strand xs)
zip-seen f [] [] h = refl
zip-seen f [] (y ∷ ys) h = absurd h
zip-seen f (x ∷ xs) [] h = absurd h
zip-seen f (x ∷ xs) (y ∷ ys) h =
    ap (λ w. w ∷ map numbered_strand ys) (steps-seen f x y h.0) ∙ ap (λ l. changed f (numbered_strand x) ∷ l) (zip-seen f xs ys h.1)
