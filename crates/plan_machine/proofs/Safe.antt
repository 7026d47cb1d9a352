-- What soundness says of claims, stored cells, fills and evictions.
use Rattle.std.proofs.Common.{◌≡◌, ◌≢◌, ℕ, List, [], ◌∷◌, AllPairs, get_or, refl, ap, subst, arith, inl, inr}
use Rattle.std.specs.List.{AllByRecursion}
use Rattle.std.proofs.lemmas.List.Elements.{All-from_recursion, All-contains}
use Rattle.std.proofs.lemmas.List.Kept.{AllPairs-cons}
use Rattle.valid_intervals.specs.declared.Point.{Point}
use Rattle.valid_intervals.specs.declared.SignalCell.{SignalCell}
use Rattle.circuit_meaning.specs.Circuit.{Circuit, IsCircuit}
use Rattle.journal_meaning.specs.Batches.{Batch, IsNeededBy, OfQuery}
use Rattle.journal_meaning.specs.Allowed.{IsRight}
use Rattle.journal_meaning.proofs.Callers.{one-fill-per_eviction, right-within}
use Rattle.journal_meaning.specs.Lawful.{IsLawful}
use Rattle.plan_machine.specs.Strands.{Frame, IsOnStack, IsChain}
use Rattle.plan_machine.proofs.Stacks.{top-once}
use Rattle.plan_machine.proofs.Wanted.{asks-needed}
use Rattle.plan_machine.specs.Plans.{Plan, no_shard}
use Rattle.plan_machine.specs.Sound.{IsSound, IsSafe}

-- the points of a stack are different, since their times fall
module _ (c : Circuit) (ok : IsCircuit c) (roots : List Point) where
  others : (f : Frame) (all fs : List Frame) → IsChain c roots (f ∷ all) → ((x : Point) → IsOnStack fs x → IsOnStack all x) → AllByRecursion (λ g. f.point ≢ g.point) fs
  others f all [] chain within = tt
  others f all (g ∷ fs) chain within = (
    (λ e. let k = top-once c ok roots (f ∷ all) f.point g.point chain refl (within g.point (inl refl)) in let t = ap (λ (p : Point). p.time) e in absurd (omega (arith, k, t))),
    others f all fs chain (λ x h. within x (inr h)),
  )

  different : (fs : List Frame) → IsChain c roots fs → AllPairs (λ f g. f.point ≢ g.point) fs
  different [] chain = λ i j d l m. absurd (omega arith)
  different (f ∷ fs) chain = AllPairs-cons (λ (f g : Frame). f.point ≢ g.point) f fs (All-from_recursion (λ (g : Frame). f.point ≢ g.point) fs (others f fs fs chain (λ x h. h))) (different fs chain.2)

pub sound-safe : (b : Batch) → IsLawful b → (opening : ℕ → List SignalCell) (plan : Plan) → IsSound b opening plan → IsSafe b plan
sound-safe b lawful opening plan sound = record {
  claims = λ p q claim.
      let o = sound.linked.holder p q claim in
      let s = o.1.0 in
      let at = o.1.1.0 in
      let h = o.1.1.1 in
      let number : s.query.number ≡ q = let k = sound.linked.on_stack o.0 s p at h in cc (k, claim) in
      let needed = ((asks-needed b lawful s (sound.strands o.0 s at)).on_stack p h).needed in (
        subst (λ n. OfQuery b n (λ y. IsNeededBy b y p)) number needed,
        record { number = o.0; strand = s; at = at; query = number; on_stack = h; alone = λ j r ar hr. sound.linked.once j o.0 r s p ar at hr h },
      );
  stacks = λ i s at. different b.circuit lawful.circuit s.roots s.stack (sound.strands i s at).chain;
  cells = λ n low x known t inside.
      let is = sound.shards n low in
      let right : IsRight b.circuit x = All-contains (IsRight b.circuit) (get_or plan.shards n no_shard).state.cells x (All-from_recursion (IsRight b.circuit) (get_or plan.shards n no_shard).state.cells is.right) known in
      right-within b.circuit lawful.circuit x right t inside;
  fills = λ i s at. let is = sound.strands i s at in (omega (arith, is.claims), is.charge);
  evictions = λ n low p. one-fill-per_eviction b lawful.circuit n p (opening n) (get_or plan.shards n no_shard).journal (sound.shards n low).legal;
}
