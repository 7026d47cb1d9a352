-- What a shard is made of, and what its parts keep.
use Rattle.std.specs.Prelude.{◌≡◌, ℕ, ◌<◌, ◌≤◌, ◌+◌, ◌*◌, List, length, vec_len, vec_capacity}
use Rattle.std.specs.List.{AllByRecursion}
use Rattle.valid_intervals.specs.declared.Point.{Point}
use Rattle.valid_intervals.specs.declared.SignalCell.{SignalCell}
use Rattle.cell_store.specs.Recency.{Contents, contents}
use Rattle.journal_meaning.specs.declared.Entry.{Entry}
use Rattle.journal_meaning.specs.States.{holder}
use Rattle.journal_meaning.specs.Batches.{Batch}
use Rattle.journal_meaning.specs.Lawful.{IsLawful}
use Rattle.plan_machine.specs.Strands.{next}
use Rattle.plan_machine.specs.declared.strand.Next.TheVariants.{Ask}
use Rattle.plan_machine.specs.Shards.{IsShard}
use Rattle.claim_waiters.specs.Claims.{WaitedClaim, Claims, holder_in}
use Rattle.demand_points.specs.Demands.{Demand}
use Rattle.memo_shards.specs.KeptShards.{KeptShard, shard_at}
use Rattle.memo_shards.specs.inner.KeptShards.{waits_in}
use Rattle.memo_shards.specs.declared.shard.Shard.TheInside.{Inside}

abbrev pub kept_shard : {X : Type 0} → List SignalCell → Inside X → KeptShard
kept_shard opening s = record { number = s.number; shard = shard_at opening s.journal.items; waiting = waits_in s.claims }

-- each strand that waits at a claim asks for its point
abbrev pub AsksThere : Point × WaitedClaim Demand → Type 0
AsksThere e = AllByRecursion (λ (w : Demand). next w.strand ≡ Ask e.0) e.1.waiters

-- The store and the table of claims are what the journal leads to.
pub record Agrees (b : Batch) (opening : List SignalCell) (number : ℕ) (store : Contents) (claims : Claims Demand) (es : List Entry) : Type 0 where
  pub lawful : IsLawful b
  pub among : number < b.shards
  pub shard : IsShard b number opening (shard_at opening es)
  pub stored : store ≡ contents b.capacity (shard_at opening es).state.cells
  pub holders : (p : Point) → holder_in claims p ≡ holder (shard_at opening es).state.claims p
  pub asks : AllByRecursion AsksThere claims

-- and each claim has room in the journal for the two entries that its end may need
pub record IsMemo {X : Type 0} (b : Batch) (opening : List SignalCell) (s : Inside X) : Type 0 where
  pub agrees : Agrees b opening s.number s.store s.claims s.journal.items
  pub room : vec_len s.journal + 2 * length s.claims ≤ vec_capacity s.journal
