-- Where each shard's fills have heard their children, all have.
use Rattle.std.proofs.Common.{◌≡◌, ℕ, suc, List, [], ◌∷◌, All, Contains, Some, slice_get, refl, arith, inl, inr}
use Rattle.std.proofs.lemmas.List.Elements.{All-contains, Contains-append_cases}
use Rattle.valid_intervals.specs.declared.Cell.{Cell}
use Rattle.valid_intervals.specs.declared.Point.{Point}
use Rattle.circuit_meaning.specs.Circuit.{Circuit}
use Rattle.circuit_meaning.specs.Need.{children}
use Rattle.journal_meaning.specs.Answers.{IsCovered}
use Rattle.journal_meaning.specs.declared.Entry.{Entry}
use Rattle.journal_meaning.specs.declared.Entry.TheVariants.{Filled}
use Rattle.memo_shards.specs.KeptShards.{KeptShard}
use Rattle.plan_core.specs.asked.Heard.{IsHeard}
use Rattle.plan_core.specs.asked.Memos.{entries_of}

pub fills-heard : (c : Circuit) (es : List Entry) (ms : List KeptShard) → ((k : ℕ) (m : KeptShard) → slice_get ms k ≡ Some m → All (IsHeard c es) m.shard.journal)
    → (q : ℕ) (p : Point) (x : Cell) → Contains (entries_of ms) (Filled q p x) → All (IsCovered c es) (children c p.signal p.time)
fills-heard c es [] f q p x h = let l = h.1 in absurd (omega arith)
fills-heard c es (m ∷ ms) f q p x h = elim (Contains-append_cases m.shard.journal (entries_of ms) (Filled q p x) h) [
  | inl k ↦ All-contains (IsHeard c es) m.shard.journal (Filled q p x) (f 0 m refl) k
  | inr k ↦ fills-heard c es ms (λ n o at. f (suc n) o at) q p x k
]
