-- The last of the shards that are left.
use Rattle.std.proofs.Common.{◌≡◌, ℕ, ◌+◌, List, [], ◌∷◌, ◌++◌, length, get_or, refl, ap, subst, ◌∙◌, arith, length-append}
use Rattle.std.specs.List.{AllByRecursion}
use Rattle.std.proofs.Math.ListN.{length-map}
use Rattle.valid_intervals.specs.declared.SignalCell.{SignalCell}
use Rattle.journal_meaning.specs.Allowed.{IsRight}
use Rattle.journal_meaning.specs.Batches.{Batch}
use Rattle.plan_machine.specs.Shards.{Shard}
use Rattle.plan_machine.specs.Plans.{no_shard}
use Rattle.plan_machine.specs.Sound.{IsFresh}
use Rattle.memo_shards.specs.KeptShards.{KeptShard}
use Rattle.plan_core.specs.Parts.{shards_in}
use Rattle.plan_core.proofs.Callers.{shard-at}

at-end : (rest : List KeptShard) (m : KeptShard) → get_or (rest ++ m ∷ []) (length rest) m ≡ m
at-end [] m = refl
at-end (x ∷ rest) m = at-end rest m

-- it has no claim, and its cells are right
pub record IsEnded (b : Batch) (m : KeptShard) : Type 0 where
  pub free : m.shard.state.claims ≡ []
  pub right : AllByRecursion (IsRight b.circuit) m.shard.state.cells

pub last-ended : (b : Batch) (opening : ℕ → List SignalCell) (ms rest : List KeptShard) (m : KeptShard) → IsFresh b opening (shards_in ms) → ms ≡ rest ++ m ∷ [] → IsEnded b m
last-ended b opening ms rest m fresh is =
    let n = length rest in
    let size : length ms ≡ n + 1 = ap length is ∙ length-append rest (m ∷ []) in
    let count = fresh.count in
    let all = length-map ms (λ (x : KeptShard). x.shard) in
    let here : get_or (shards_in ms) n no_shard ≡ m.shard = shard-at ms n m no_shard (omega arith) ∙ ap (λ (xs : List KeptShard). (get_or xs n m).shard) is ∙ ap (λ (x : KeptShard). x.shard) (at-end rest m) in
    record {
      free = subst (λ (h : Shard). h.state.claims ≡ []) here (fresh.free n (omega arith));
      right = subst (λ (h : Shard). AllByRecursion (IsRight b.circuit) h.state.cells) here (fresh.right n (omega arith)).right;
    }
