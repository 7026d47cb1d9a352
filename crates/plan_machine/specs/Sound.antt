-- What holds of a plan at every moment.
use Rattle.std.specs.Prelude.{◌≡◌, ℕ, ◌≤◌, ◌<◌, ◌+◌, true, false, List, [], length, slice_index_or, slice_get, Option, Some, None, Contains, AllPairs, ◌≢◌, ◌⊎◌}
use Rattle.valid_intervals.specs.declared.Point.{Point}
use Rattle.valid_intervals.specs.declared.SignalCell.{SignalCell}
use Rattle.valid_intervals.specs.Spans.{IsIn}
use Rattle.journal_meaning.specs.Batches.{Batch, IsNeededBy, OfQuery}
use Rattle.circuit_meaning.specs.Cells.{cell_at}
use Rattle.journal_meaning.specs.Counts.{fills_at, evictions_of}
use Rattle.plan_machine.specs.declared.strand.Next.TheVariants.{Ask, Done}
use Rattle.plan_machine.specs.Strands.{Strand, next, after_answer, awake, IsOnStack, IsStrand}
use Rattle.plan_machine.specs.Shards.{Shard, IsShard}
use Rattle.plan_machine.specs.Plans.{Plan, no_shard, claim_of, is_ready, ready, itself}
use Rattle.plan_machine.specs.declared.Turned.TheVariants.{NotReady}
use Rattle.plan_machine.specs.Steps.{Finish, GiveBack, step, turn_outcome}
use Rattle.plan_machine.specs.Turns.{turn}

-- Claims and stacks agree: each point on a stack is claimed for the strand's query, each claim is on the stack of exactly one strand, and a
-- strand that waits asks for a claimed point.
pub record AreLinked (claim : Point → Option ℕ) (strands : List Strand) : Type 0 where
  pub on_stack : (i : ℕ) (s : Strand) (p : Point) → slice_get strands i ≡ Some s → IsOnStack s.stack p → claim p ≡ Some s.query.number
  pub holder : (p : Point) (q : ℕ) → claim p ≡ Some q → (i : ℕ) × ((s : Strand) × ((slice_get strands i ≡ Some s) × IsOnStack s.stack p))
  pub once : (i j : ℕ) (s r : Strand) (p : Point) → slice_get strands i ≡ Some s → slice_get strands j ≡ Some r → IsOnStack s.stack p → IsOnStack r.stack p → i ≡ j
  pub waiting : (i : ℕ) (s : Strand) → slice_get strands i ≡ Some s → s.waits ≡ true → (p : Point) × ((q : ℕ) × ((next s ≡ Ask p) × (claim p ≡ Some q)))

-- A sound plan of a batch whose shards held these cells before.
pub record IsSound (b : Batch) (opening : ℕ → List SignalCell) (plan : Plan) : Type 0 where
  pub count : length plan.shards ≡ b.shards
  pub shards : (n : ℕ) → n < b.shards → IsShard b n (opening n) (slice_index_or plan.shards n no_shard)
  pub strands : (i : ℕ) (s : Strand) → slice_get plan.strands i ≡ Some s → IsStrand b s
  pub linked : AreLinked (claim_of plan) plan.strands

-- the shards of a new plan, without claims
pub record IsFresh (b : Batch) (opening : ℕ → List SignalCell) (shards : List Shard) : Type 0 where
  pub count : length shards ≡ b.shards
  pub right : (n : ℕ) → n < b.shards → IsShard b n (opening n) (slice_index_or shards n no_shard)
  pub free : (n : ℕ) → n < b.shards → (slice_index_or shards n no_shard).state.claims ≡ []

-- exactly one strand holds the point, for the query with this number
pub record IsHolder (plan : Plan) (p : Point) (q : ℕ) : Type 0 where
  pub number : ℕ
  pub strand : Strand
  pub at : slice_get plan.strands number ≡ Some strand
  pub query : strand.query.number ≡ q
  pub on_stack : IsOnStack strand.stack p
  pub alone : (j : ℕ) (r : Strand) → slice_get plan.strands j ≡ Some r → IsOnStack r.stack p → j ≡ number

-- What soundness means to a reader.
pub record IsSafe (b : Batch) (plan : Plan) : Type 0 where
  -- a query of the batch with the claim's number needs the claimed point, and one strand holds it
  pub claims : (p : Point) (q : ℕ) → claim_of plan p ≡ Some q → OfQuery b q (λ y. IsNeededBy b y p) × IsHolder plan p q
  -- no strand holds a point twice
  pub stacks : (i : ℕ) (s : Strand) → slice_get plan.strands i ≡ Some s → AllPairs (λ f g. f.point ≢ g.point) s.stack
  -- a stored cell is right at each of its times
  pub cells : (n : ℕ) → n < b.shards → (x : SignalCell) → Contains (slice_index_or plan.shards n no_shard).state.cells x → (t : ℕ) → IsIn x.cell.span t → x.cell ≡ cell_at b.circuit (record { signal = x.signal; time = t })
  -- a strand fills at most what it was charged, and is charged at most its budget
  pub fills : (i : ℕ) (s : Strand) → slice_get plan.strands i ≡ Some s → s.filled ≤ s.charged × s.charged ≤ s.budget
  -- each point is filled at most once more than its cell is evicted
  pub evictions : (n : ℕ) → n < b.shards → (p : Point) → let es = (slice_index_or plan.shards n no_shard).journal in fills_at es p ≤ evictions_of es p.signal (cell_at b.circuit p).span.start + 1

-- a strand that has ended holds nothing, and is spent or has heard all its roots
pub record HasEnded (s : Strand) : Type 0 where
  pub done : next s ≡ Done
  pub empty : s.stack ≡ []
  pub cause : (s.spent ≡ true) ⊎ (s.roots ≡ [])

-- if none is ready, each strand has ended; if each has ended, none is ready
pub record AreEnded (plan : Plan) : Type 0 where
  pub none : ready plan ≡ [] → (i : ℕ) (s : Strand) → slice_get plan.strands i ≡ Some s → HasEnded s
  pub all : ((i : ℕ) (s : Strand) → slice_get plan.strands i ≡ Some s → next s ≡ Done) → ready plan ≡ []

-- a turn is NotReady exactly when no strand has the number or the strand is not ready; then nothing changes
pub record MovesIfReady (b : Batch) (plan : Plan) (i : ℕ) : Type 0 where
  pub none : slice_get plan.strands i ≡ None → turn_outcome plan i ≡ NotReady
  pub rests : (s : Strand) → slice_get plan.strands i ≡ Some s → is_ready s ≡ false → turn_outcome plan i ≡ NotReady
  pub moves : (s : Strand) → slice_get plan.strands i ≡ Some s → is_ready s ≡ true → turn_outcome plan i ≢ NotReady
  pub idle : turn_outcome plan i ≡ NotReady → turn b plan i ≡ plan

-- The end of a claim of p, in the turn of strand i: all strands that wait at p are woken with f applied to them, and all others stay.
pub record LetsOut (b : Batch) (plan : Plan) (i : ℕ) (p : Point) (f : Strand → Strand) : Type 0 where
  pub woken : (j : ℕ) (r : Strand) → j ≢ i → slice_get plan.strands j ≡ Some r → r.waits ≡ true → next r ≡ Ask p → slice_get (turn b plan i).strands j ≡ Some (awake (f r))
  pub others : (j : ℕ) (r : Strand) → j ≢ i → slice_get plan.strands j ≡ Some r → (r.waits ≡ true → next r ≢ Ask p) → slice_get (turn b plan i).strands j ≡ Some r

-- a fill wakes them with the answer, a drop without one
pub record ClaimEnds (b : Batch) (plan : Plan) (i : ℕ) (p : Point) : Type 0 where
  pub filled : step plan i ≡ Finish p → LetsOut b plan i p after_answer
  pub dropped : step plan i ≡ GiveBack p → LetsOut b plan i p itself
