-- A new plan is sound, and its turns are bounded.
use Rattle.std.proofs.Common.{◌≡◌, ℕ, zero, suc, ◌+◌, ◌-◌, ◌*◌, ◌<◌, ◌≤◌, nat_lt, true, false, cond, List, [], ◌∷◌, length, map, slice_get, refl, ap, subst, arith, Some, None, ◌%◌, mul-le-mul_right}
use Rattle.std.specs.List.{sum_by, AllByRecursion}
use Rattle.std.proofs.Math.ListN.{length-map}
use Rattle.std.proofs.lemmas.List.Sums.{sum_by-cons}
use Rattle.std.proofs.Math.Nat.{add-mul}
use Rattle.valid_intervals.specs.declared.Point.{Point}
use Rattle.circuit_meaning.specs.declared.Window.{Window}
use Rattle.circuit_meaning.specs.Circuit.{Circuit}
use Rattle.circuit_meaning.specs.Cells.{span}
use Rattle.plan_machine.specs.Strands.{Strand, IsOnStack, started_strand, is_evaluable, roots_from, IsStrand}
use Rattle.journal_meaning.specs.Pieces.{Start, piece, IsStart}
use Rattle.valid_intervals.specs.declared.SignalCell.{SignalCell}
use Rattle.journal_meaning.specs.States.{holder}
use Rattle.journal_meaning.specs.Batches.{Batch}
use Rattle.journal_meaning.specs.Lawful.{IsLawful}
use Rattle.plan_machine.specs.Shards.{Shard}
use Rattle.plan_machine.specs.Plans.{claim_of, new_plan}
use Rattle.plan_machine.specs.Turns.{turns}
use Rattle.plan_machine.specs.Bounds.{turns_left, all_left, claim_cost, bound}
use Rattle.plan_machine.specs.Sound.{IsSound, IsFresh}
use Rattle.plan_machine.proofs.Started.{started-right}
use Rattle.plan_machine.proofs.Measure.{filter-length, turns-few}

-- the roots of a piece of a window
roots-length : (c : Circuit) (w : Window) (n t : ℕ) → length (roots_from c w n t) ≤ n
unfolding roots_from
roots-length c w zero t = omega arith
roots-length c w (suc n) t = elim (nat_lt t w.stop) as (λ k. length (cond k (record { signal = w.signal; time = t } ∷ roots_from c w n (span c w.signal t).stop) []) ≤ suc n) [
  | true ↦ let k = roots-length c w n (span c w.signal t).stop in omega arith
  | false ↦ omega arith
]

-- what is got of a list of new strands
record IsNewStrand (b : Batch) (s : Strand) : Type 0 where
  strand : IsStrand b s
  empty : s.stack ≡ []
  quiet : s.waits ≡ false

new-strands : (b : Batch) (starts : List Start) → AllByRecursion (IsStart b) starts → (i : ℕ) (s : Strand) → slice_get (map (started_strand b.circuit) starts) i ≡ Some s → IsNewStrand b s
new-strands b [] h i s at = absurd (cc at)
new-strands b (a ∷ starts) h zero s at =
    let same : started_strand b.circuit a ≡ s = cc at in
    subst (IsNewStrand b) same (record { strand = started-right b a h.0; empty = refl; quiet = refl })
new-strands b (a ∷ starts) h (suc i) s at = new-strands b starts h.1 i s at

pub new-sound : (b : Batch) → IsLawful b → (opening : ℕ → List SignalCell) (starts : List Start) (shards : List Shard) → AllByRecursion (IsStart b) starts → IsFresh b opening shards → IsSound b opening (new_plan b starts shards)
new-sound b lawful opening starts shards all fresh =
    let new = new-strands b starts all in
    let none = λ (i : ℕ) (s : Strand) (p : Point) (at : slice_get (map (started_strand b.circuit) starts) i ≡ Some s) (h : IsOnStack s.stack p). let k : IsOnStack [] p = subst (λ st. IsOnStack st p) (new i s at).empty h in k in
    record {
      count = fresh.count;
      shards = fresh.right;
      strands = λ i s at. (new i s at).strand;
      linked = record {
        on_stack = λ i s p at h. absurd (none i s p at h);
        holder = λ p q claim.
            let n : p.signal % length shards < b.shards = let k = fresh.count in omega (arith, lawful.some_shard) in
            let e : claim_of (new_plan b starts shards) p ≡ None = ap (λ ks. holder ks p) (fresh.free (p.signal % length shards) n) in
            absurd (cc (e, claim));
        once = λ i j s r p at ar h k. absurd (none i s p at h);
        waiting = λ i s at w. let k = (new i s at).quiet in absurd (cc (k, w));
      };
    }

-- at first at most so many turns are left
module _ (b : Batch) (n : ℕ) where
  start-left : (a : Start) → turns_left b n (started_strand b.circuit a) ≤ a.budget * claim_cost b n + (a.stop - a.start) + 2
  start-left a =
      let k = roots-length b.circuit (piece a) (a.stop - a.start) a.start in
      let l = filter-length (is_evaluable b.circuit) (roots_from b.circuit (piece a) (a.stop - a.start) a.start) in
      let m : (a.budget - a.charged) * claim_cost b n ≤ a.budget * claim_cost b n = mul-le-mul_right (claim_cost b n) (omega arith) in
      omega arith

  starts-left : (starts : List Start) → sum_by (turns_left b n) (map (started_strand b.circuit) starts) ≤ sum_by (λ a. a.budget) starts * claim_cost b n + sum_by (λ a. a.stop - a.start) starts + 2 * length starts
  starts-left [] = omega arith
  starts-left (a ∷ starts) =
      let k = start-left a in
      let l = starts-left starts in
      let u = sum_by-cons (turns_left b n) (started_strand b.circuit a) (map (started_strand b.circuit) starts) in
      let v = sum_by-cons (λ (x : Start). x.budget) a starts in
      let w = sum_by-cons (λ (x : Start). x.stop - x.start) a starts in
      let m : (a.budget + sum_by (λ (x : Start). x.budget) starts) * claim_cost b n ≡ a.budget * claim_cost b n + sum_by (λ (x : Start). x.budget) starts * claim_cost b n = add-mul a.budget (sum_by (λ (x : Start). x.budget) starts) (claim_cost b n) in
      rw (u, v, w) (rw m (omega arith))

pub turns-bounded : (b : Batch) (starts : List Start) (shards : List Shard) (schedule : List ℕ) → turns b (new_plan b starts shards) schedule ≤ bound b starts
turns-bounded b starts shards schedule =
    let k = turns-few b (new_plan b starts shards) schedule in
    let l = starts-left b (length starts) starts in
    let m : length (map (started_strand b.circuit) starts) ≡ length starts = length-map starts (started_strand b.circuit) in
    let e : all_left b (new_plan b starts shards) ≡ sum_by (turns_left b (length starts)) (map (started_strand b.circuit) starts) = ap (λ n. sum_by (turns_left b n) (map (started_strand b.circuit) starts)) m in
    omega arith
