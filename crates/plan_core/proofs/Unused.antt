-- Shards in which nothing is recorded have no entries once their claims are freed, for there are none.
use Rattle.std.proofs.Common.{◌≡◌, ℕ, suc, ◌<◌, List, [], ◌∷◌, ◌++◌, length, get_or, All, refl, ap, subst, ◌∙◌, arith}
use Rattle.std.proofs.Math.ListN.{length-map}
use Rattle.valid_intervals.specs.declared.SignalCell.{SignalCell}
use Rattle.journal_meaning.specs.declared.Entry.{Entry}
use Rattle.journal_meaning.specs.States.{Claim, fresh}
use Rattle.journal_meaning.specs.Replay.{replay}
use Rattle.journal_meaning.specs.Batches.{Batch}
use Rattle.plan_machine.specs.Shards.{Shard, IsShard}
use Rattle.plan_machine.specs.Plans.{no_shard}
use Rattle.plan_machine.specs.Settle.{AreShards, AreFreed, IsOrder, shard_without}
use Rattle.memo_shards.specs.KeptShards.{KeptShard}
use Rattle.plan_core.specs.Parts.{shards_in}
use Rattle.plan_core.specs.asked.Memos.{entries_of}
use Rattle.plan_core.proofs.Entries.{shard-at}

-- an order of no claims is empty
no-order : (order : List Claim) → IsOrder [] order → order ≡ []
no-order [] o = refl
no-order (c ∷ order) o = absurd (cc o.claimed.0)

none-recorded : (ms : List KeptShard) → ((n : ℕ) → n < length ms → (get_or (shards_in ms) n no_shard).journal ≡ []) → entries_of ms ≡ []
none-recorded [] h = refl
none-recorded (m ∷ ms) h =
    let here : m.shard.journal ≡ [] = h 0 (omega arith) in
    ap (λ (l : List Entry). l ++ entries_of ms) here ∙ none-recorded ms (λ n low. h (suc n) (omega arith))

pub unused-freed : (b : Batch) (opening : ℕ → List SignalCell) (handed begun : List KeptShard) → AreShards b opening (shards_in handed) → AreFreed (shards_in handed) (shards_in begun) → All (λ (m : KeptShard). m.shard.journal ≡ []) handed → entries_of begun ≡ []
unused-freed b opening handed begun are f unused = none-recorded begun one
  where
    one : (n : ℕ) → n < length begun → (get_or (shards_in begun) n no_shard).journal ≡ []
    one n low =
        let lh = length-map handed (λ (m : KeptShard). m.shard) in
        let lb = length-map begun (λ (m : KeptShard). m.shard) in
        let count = f.count in
        let all = are.count in
        let within : n < length handed = omega arith in
        let old : Shard = get_or (shards_in handed) n no_shard in
        let is : IsShard b n (opening n) old = are.right n (omega arith) in
        let empty : old.journal ≡ [] = by handed n within unused in
        let claims : old.state.claims ≡ [] = ap (λ s. s.claims) (is.state ∙ ap (replay (fresh (opening n))) empty) in
        let o = f.order n (omega arith) in
        let none : o.0 ≡ [] = no-order o.0 (subst (λ cs. IsOrder cs o.0) claims o.1) in
        let same : get_or (shards_in begun) n no_shard ≡ old = o.2 ∙ ap (λ cs. shard_without cs old) none in
        ap (λ (h : Shard). h.journal) same ∙ empty
      where
        by : (ms : List KeptShard) (n : ℕ) → n < length ms → All (λ (m : KeptShard). m.shard.journal ≡ []) ms → (get_or (shards_in ms) n no_shard).journal ≡ []
        by [] n low u = absurd (omega arith)
        by (m ∷ ms) n low u = ap (λ (h : Shard). h.journal) (shard-at (m ∷ ms) n m no_shard low) ∙ u n m low
