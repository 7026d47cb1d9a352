-- Settlement as a function: the points that it asks for, one after another.
use Rattle.std.specs.Prelude.{ℕ, zero, suc, ◌-◌, ◌+◌, nat_eq, nat_lt, Bool, false, not, ◌||◌, if◌then◌else◌, List, [], ◌∷◌, slice_get, Option, Some, None}
use Rattle.std.specs.List.{list_any}
use Rattle.valid_intervals.specs.declared.Point.{Point}
use Rattle.valid_intervals.specs.Cells.{covers, cell_for}
use Rattle.circuit_meaning.specs.Circuit.{Circuit}
use Rattle.circuit_meaning.specs.Cells.{span}
use Rattle.circuit_meaning.specs.Need.{children}
use Rattle.journal_meaning.specs.declared.Entry.{Entry}
use Rattle.journal_meaning.specs.declared.Entry.TheVariants.{Told, Claimed, Filled, Evicted, Dropped, Spent}
use Rattle.journal_meaning.specs.declared.batch.Query.{Query}
use Rattle.journal_meaning.specs.Batches.{Batch}
use Rattle.plan_machine.specs.Strands.{Strand, is_evaluable}
use Rattle.journal_meaning.specs.Pieces.{Start}
use Rattle.plan_machine.specs.Shards.{Shard}
use Rattle.plan_machine.specs.Plans.{Plan, new_plan}
use Rattle.plan_machine.specs.Bounds.{all_left}
use Rattle.plan_machine.specs.Alone.{run_alone}
use Rattle.plan_machine.specs.Settle.{Standing, entries_in, charge_of, child_start, root_start}

-- whether an entry says the cell of the point, and whether the point is covered
abbrev pub says : Point → Entry → Bool
says p (Told q x cell) = covers p (cell_for x cell)
says p (Claimed q x) = false
says p (Filled q x cell) = covers p (cell_for x cell)
says p (Evicted signal start) = false
says p (Dropped q x) = false
says p (Spent q x claims) = false

abbrev pub is_covered_in : Circuit → List Entry → Point → Bool
is_covered_in c es p = not (is_evaluable c p) || list_any (says p) es

abbrev pub is_spent : Option Strand → Bool
is_spent None = false
is_spent (Some s) = s.spent

-- a strand with this start runs alone until it has ended
unfoldable pub run_of : Batch → List Shard → Start → Plan
run_of b shards a = run_alone b 0 (all_left b (new_plan b (a ∷ []) shards) + 1) (new_plan b (a ∷ []) shards)

abbrev pub ask : Batch → List Shard → Start → Standing
ask b shards a = record { shards = (run_of b shards a).shards; refused = is_spent (slice_get (run_of b shards a).strands 0) }

-- a point is asked for if it is missing and the query was not refused
abbrev pub settle_point : Batch → Standing → Point → Start → Standing
settle_point b s x a = if s.refused then s else (if is_covered_in b.circuit (entries_in s.shards) x then s else ask b s.shards a)

abbrev pub settle_child : Batch → Query → Standing → Point → Standing
settle_child b q s x = settle_point b s x (child_start q x (charge_of (entries_in s.shards) q))

abbrev pub settle_root : Batch → Query → Standing → ℕ → Standing
settle_root b q s t = settle_point b s (record { signal = q.signal; time = t }) (root_start q t (charge_of (entries_in s.shards) q))

-- the children of one point, and then of each of these points
abbrev pub settle_children : Batch → Query → Standing → List Point → Standing
settle_children b q s [] = s
settle_children b q s (x ∷ xs) = settle_children b q (settle_child b q s x) xs

abbrev pub settle_fills : Batch → Query → Standing → List Point → Standing
settle_fills b q s [] = s
settle_fills b q s (p ∷ ps) = settle_fills b q (settle_children b q s (children b.circuit p.signal p.time)) ps

-- the window from the time t on, in this many steps
abbrev pub settle_window : Batch → Query → ℕ → ℕ → Standing → Standing
settle_window b q zero t s = s
settle_window b q (suc n) t s = if nat_lt t q.to then settle_window b q n (span b.circuit q.signal t).stop (settle_root b q s t) else s

-- the points that the query evaluated
abbrev pub fills_of : List Entry → ℕ → List Point
fills_of [] q = []
fills_of (Filled r p x ∷ es) q = if nat_eq r q then p ∷ fills_of es q else fills_of es q
fills_of (e ∷ es) q = fills_of es q

-- one query, and then each of them; start has the entries from before settlement
abbrev pub settle_query : Batch → List Entry → Query → List Shard → Standing
settle_query b start q shards = settle_window b q (q.to - q.from) q.from (settle_fills b q (record { shards = shards; refused = false }) (fills_of start q.number))

pub record Settled : Type 0 where
  pub shards : List Shard
  pub refused : List Bool

abbrev pub settle_all : Batch → List Entry → List Query → List Shard → Settled
settle_all b start [] shards = record { shards = shards; refused = [] }
settle_all b start (q ∷ qs) shards =
    let s = settle_query b start q shards in
    let more = settle_all b start qs s.shards in
    record { shards = more.shards; refused = s.refused ∷ more.refused }

abbrev pub settle : Batch → List Shard → Settled
settle b shards = settle_all b (entries_in shards) b.queries shards
