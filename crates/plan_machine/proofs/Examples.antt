-- Worked examples: plans of one shard, computed from the definitions.
use Rattle.std.proofs.Common.{◌≡◌, ℕ, ◌+◌, ◌<◌, ◌≤◌, ◌≢◌, refl, subst, arith, inl, map, true, false, List, [], ◌∷◌, get_or, None, Contains, sym}
use Rattle.std.specs.List.{AllByRecursion}
use Rattle.std.proofs.lemmas.List.Elements.{All-from_recursion}
use Rattle.std.proofs.lemmas.List.Kept.{AllPairs-cons}
use Rattle.std.proofs.Math.Arith.{lt-one}
use Rattle.gate_values.specs.declared.Value.{Value}
use Rattle.gate_values.specs.declared.Value.TheVariants.{One}
use Rattle.gate_values.specs.declared.Kind.TheVariants.{Buff}
use Rattle.valid_intervals.specs.declared.Point.{Point}
use Rattle.valid_intervals.specs.declared.Cell.{Cell}
use Rattle.valid_intervals.specs.declared.SignalCell.{SignalCell}
use Rattle.valid_intervals.specs.Spans.{from_to}
use Rattle.circuit_meaning.specs.Circuit.{Driver, Input, Gate, Circuit, IsDriver, IsCircuit}
use Rattle.circuit_meaning.specs.declared.Setting.{Setting}
use Rattle.circuit_meaning.specs.declared.Pin.{Pin}
use Rattle.circuit_meaning.specs.Forward.{rows_below, row_at, last_setting, value}
use Rattle.circuit_meaning.specs.Cells.{span, least_delay, next_setting}
use Rattle.circuit_meaning.specs.Need.{children, First}
use Rattle.journal_meaning.specs.declared.batch.Query.{Query}
use Rattle.journal_meaning.specs.declared.Entry.TheVariants as entries
use Rattle.journal_meaning.specs.Batches.{Batch}
use Rattle.journal_meaning.specs.Lawful.{IsLawful}
use Rattle.plan_machine.specs.declared.strand.Next.TheVariants.{Done}
use Rattle.journal_meaning.specs.Pieces.{Start, IsStart}
use Rattle.plan_machine.specs.Strands.{next, asked_children, roots_from}
use Rattle.plan_machine.specs.declared.Turned.{Turned}
use Rattle.plan_machine.specs.declared.Turned.TheVariants.{Claimed, Waits, Spent, Filled, Dropped, NotReady}
use Rattle.plan_machine.specs.Shards.{Shard, IsShard}
use Rattle.plan_machine.specs.Plans.{Plan, no_shard, new_plan, ready}
use Rattle.plan_machine.specs.Steps.{turn_outcome}
use Rattle.plan_machine.specs.Turns.{turn, run, turns}
use Rattle.plan_machine.specs.Bounds.{bound}
use Rattle.plan_machine.specs.Alone.{run_alone}
use Rattle.plan_machine.specs.Settling.{run_of, settle}
use Rattle.plan_machine.specs.Sound.{IsSound, IsFresh}
use Rattle.plan_machine.proofs.Turns.{run-sound}
use Rattle.plan_machine.proofs.New.{new-sound}

abbrev buff : ℕ → Driver
buff a = Gate Buff (record { signal = a; delay = 1 } ∷ [])

abbrev one : Driver
one = Input (record { time = 0; value = One } ∷ [])

abbrev point : ℕ → ℕ → Point
point s t = record { signal = s; time = t }

abbrev cell : ℕ → ℕ → Value → Cell
cell a b v = record { span = from_to a b; value = v }

-- a query for one time of a signal
abbrev query : ℕ → ℕ → ℕ → ℕ → Query
query number s t budget = record { number = number; signal = s; from = t; to = t + 1; budget = budget }

abbrev whole : Query → Start
whole q = record { query = q; start = q.from; stop = q.to; budget = q.budget; charged = 0 }

-- one shard for two queries
abbrev batch : Circuit → ℕ → Query → Query → Batch
batch c capacity a b = record { circuit = c; shards = 1; capacity = capacity; queries = a ∷ b ∷ []; site = None }

abbrev plan : Circuit → Query → Query → Plan
plan c a b = new_plan (batch c 4 a b) (whole a ∷ whole b ∷ []) (no_shard ∷ [])

abbrev shard : Plan → Shard
shard p = get_or p.shards 0 no_shard

-- what the turns of a schedule come to
abbrev all_turned : Batch → Plan → List ℕ → List Turned
all_turned b p [] = []
all_turned b p (i ∷ is) = turn_outcome p i ∷ all_turned b (turn b p i) is

-- Two queries for two points of one cell: y, which is 1, is a buffer of a.
abbrev buffer : Circuit
buffer = record { horizon = 10; drivers = one ∷ buff 0 ∷ [] }

abbrev at5 : Query
at5 = query 1 1 5 50000

abbrev at6 : Query
at6 = query 2 1 6 50000

abbrev alike : Batch
alike = batch buffer 4 at5 at6

abbrev alike_end : Plan
alike_end = run alike (plan buffer at5 at6) (0 ∷ 1 ∷ 0 ∷ 1 ∷ [])

alike-turns : turns alike (plan buffer at5 at6) (0 ∷ 1 ∷ 0 ∷ 1 ∷ []) ≡ 4
unfolding asked_children roots_from children value span row_at rows_below last_setting next_setting least_delay
alike-turns = refl

alike-journal : (shard alike_end).journal ≡ entries.Claimed 1 (point 1 5) ∷ entries.Claimed 2 (point 1 6) ∷ entries.Filled 1 (point 1 5) (cell 1 11 One) ∷ entries.Filled 2 (point 1 6) (cell 1 11 One) ∷ []
unfolding asked_children roots_from children value span row_at rows_below last_setting next_setting least_delay
alike-journal = refl

alike-cells : (shard alike_end).state.cells ≡ record { signal = 1; cell = cell 1 11 One } ∷ []
unfolding asked_children roots_from children value span row_at rows_below last_setting next_setting least_delay
alike-cells = refl

alike-ready : ready alike_end ≡ []
unfolding asked_children roots_from children value span row_at rows_below last_setting next_setting least_delay
alike-ready = refl

alike-ended : turn_outcome alike_end 0 ≡ NotReady
unfolding asked_children roots_from children value span row_at rows_below last_setting next_setting least_delay
alike-ended = refl

-- Two queries for one point, the first with a budget of 1: a is 0, n3 is 1, n1 is 2, n2 is 3.
abbrev chain : Circuit
chain = record { horizon = 10; drivers = one ∷ buff 3 ∷ buff 0 ∷ buff 2 ∷ [] }

abbrev poor : Query
poor = query 1 1 5 1

abbrev rich : Query
rich = query 2 1 5 50000

abbrev shared : Batch
shared = batch chain 4 poor rich

abbrev schedule : List ℕ
schedule = 0 ∷ 1 ∷ 0 ∷ 0 ∷ 1 ∷ 1 ∷ 1 ∷ 1 ∷ 1 ∷ 1 ∷ []

shared-turned : all_turned shared (plan chain poor rich) schedule ≡ Claimed ∷ Waits ∷ Spent ∷ Dropped ∷ Claimed ∷ Claimed ∷ Claimed ∷ Filled ∷ Filled ∷ Filled ∷ []
unfolding asked_children roots_from children value span row_at rows_below last_setting next_setting least_delay
shared-turned = refl

shared-turns : turns shared (plan chain poor rich) schedule ≡ 10
unfolding asked_children roots_from children value span row_at rows_below last_setting next_setting least_delay
shared-turns = refl

shared-journal : (shard (run shared (plan chain poor rich) schedule)).journal
    ≡ entries.Claimed 1 (point 1 5) ∷ entries.Dropped 1 (point 1 5) ∷ entries.Claimed 2 (point 1 5) ∷ entries.Claimed 2 (point 3 4) ∷ entries.Claimed 2 (point 2 3)
    ∷ entries.Filled 2 (point 2 3) (cell 1 11 One) ∷ entries.Filled 2 (point 3 4) (cell 2 11 One) ∷ entries.Filled 2 (point 1 5) (cell 3 11 One) ∷ []
unfolding asked_children roots_from children value span row_at rows_below last_setting next_setting least_delay
shared-journal = refl

shared-ready : ready (run shared (plan chain poor rich) schedule) ≡ []
unfolding asked_children roots_from children value span row_at rows_below last_setting next_setting least_delay
shared-ready = refl

-- the same with a budget of 3 for the second
abbrev enough : Query
enough = query 2 1 5 3

abbrev bounded : Batch
bounded = batch chain 4 poor enough

bounded-bound : bound bounded (whole poor ∷ whole enough ∷ []) ≡ 26
bounded-bound = refl

bounded-turns : turns bounded (plan chain poor enough) schedule ≡ 10
unfolding asked_children roots_from children value span row_at rows_below last_setting next_setting least_delay
bounded-turns = refl

-- a schedule that ends with a strand that waits
abbrev waiting_schedule : List ℕ
waiting_schedule = 1 ∷ 1 ∷ 1 ∷ 0 ∷ 0 ∷ []

waiting-turned : all_turned bounded (plan chain poor enough) waiting_schedule ≡ Claimed ∷ Claimed ∷ Claimed ∷ Waits ∷ NotReady ∷ []
unfolding asked_children roots_from children value span row_at rows_below last_setting next_setting least_delay
waiting-turned = refl

waiting-ready : ready (run bounded (plan chain poor enough) waiting_schedule) ≡ 1 ∷ []
unfolding asked_children roots_from children value span row_at rows_below last_setting next_setting least_delay
waiting-ready = refl

-- the fill wakes it with the answer, and so both have ended
abbrev woken_end : Plan
woken_end = run bounded (plan chain poor enough) (1 ∷ 1 ∷ 1 ∷ 0 ∷ 1 ∷ 1 ∷ 1 ∷ [])

woken-ready : ready woken_end ≡ []
unfolding asked_children roots_from children value span row_at rows_below last_setting next_setting least_delay
woken-ready = refl

woken-awake : map (λ s. s.waits) woken_end.strands ≡ false ∷ false ∷ []
unfolding asked_children roots_from children value span row_at rows_below last_setting next_setting least_delay
woken-awake = refl

woken-done : map (λ s. next s) woken_end.strands ≡ Done ∷ Done ∷ []
unfolding asked_children roots_from children value span row_at rows_below last_setting next_setting least_delay
woken-done = refl

-- a shard of two cells: the last fill evicts
abbrev small : Batch
small = batch chain 2 poor rich

small-turned : all_turned small (plan chain poor rich) (1 ∷ 1 ∷ 1 ∷ 1 ∷ 1 ∷ 1 ∷ []) ≡ Claimed ∷ Claimed ∷ Claimed ∷ Filled ∷ Filled ∷ Filled ∷ []
unfolding asked_children roots_from children value span row_at rows_below last_setting next_setting least_delay
small-turned = refl

small-journal : (shard (run small (plan chain poor rich) (1 ∷ 1 ∷ 1 ∷ 1 ∷ 1 ∷ 1 ∷ []))).journal
    ≡ entries.Claimed 2 (point 1 5) ∷ entries.Claimed 2 (point 3 4) ∷ entries.Claimed 2 (point 2 3)
    ∷ entries.Filled 2 (point 2 3) (cell 1 11 One) ∷ entries.Filled 2 (point 3 4) (cell 2 11 One) ∷ entries.Evicted 2 1 ∷ entries.Filled 2 (point 1 5) (cell 3 11 One) ∷ []
unfolding asked_children roots_from children value span row_at rows_below last_setting next_setting least_delay
small-journal = refl

-- What the theorems ask is so of this batch, and so each of its plans is sound.
one-right : IsDriver 4 10 one
one-right = record { within = All-from_recursion (λ (s : Setting). s.time ≤ 10) (record { time = 0; value = One } ∷ []) (omega arith, tt); different = λ i j d l m. absurd (omega arith) }

buff-right : (a : ℕ) → a < 4 → IsDriver 4 10 (buff a)
buff-right a h = record {
  count = refl;
  signal = All-from_recursion (λ (p : Pin). p.signal < 4) (record { signal = a; delay = 1 } ∷ []) (h, tt);
  delay = All-from_recursion (λ (p : Pin). 1 ≤ p.delay) (record { signal = a; delay = 1 } ∷ []) (omega arith, tt);
}

chain-right : IsCircuit chain
chain-right = All-from_recursion (IsDriver 4 10) chain.drivers (one-right, (buff-right 3 (omega arith), (buff-right 0 (omega arith), (buff-right 2 (omega arith), tt))))

shared-lawful : IsLawful shared
shared-lawful = record {
  circuit = chain-right;
  horizon = omega arith;
  numbers = AllPairs-cons (λ (q r : Query). q.number ≢ r.number) poor (rich ∷ []) (All-from_recursion (λ (r : Query). 1 ≢ r.number) (rich ∷ []) ((λ e. omega (arith, e)), tt)) (λ i j d l m. absurd (omega arith));
  signals = All-from_recursion (λ (q : Query). q.signal < 4) (poor ∷ rich ∷ []) (omega arith, (omega arith, tt));
  windows = All-from_recursion (λ (q : Query). q.to ≤ 11) (poor ∷ rich ∷ []) (omega arith, (omega arith, tt));
  some_shard = omega arith;
  some_cell = omega arith;
}

no-cells : ℕ → List SignalCell
no-cells n = []

empty-shard : IsShard shared 0 [] no_shard
empty-shard = record { legal = tt; state = refl; right = tt; fits = omega arith; made = refl }

shared-fresh : IsFresh shared no-cells (no_shard ∷ [])
unfolding no-cells
shared-fresh = record {
  count = refl;
  right = λ n low. subst (λ k. IsShard shared k [] (get_or (no_shard ∷ []) k no_shard)) (sym (lt-one low)) empty-shard;
  free = λ n low. subst (λ k. (get_or (no_shard ∷ []) k no_shard).state.claims ≡ []) (sym (lt-one low)) refl;
}

start-right : (q : Query) → Contains (poor ∷ rich ∷ []) q → IsStart shared (whole q)
start-right q known = record { known = inl (refl, known); root = λ l. First l; stop = omega arith; charge = omega arith; budget = omega arith }

shared-sound : (numbers : List ℕ) → IsSound shared no-cells (run shared (plan chain poor rich) numbers)
shared-sound numbers =
    let starts : AllByRecursion (IsStart shared) (whole poor ∷ whole rich ∷ []) = (start-right poor (0, omega arith, refl), (start-right rich (1, omega arith, refl), tt)) in
    run-sound shared shared-lawful no-cells (plan chain poor rich) (new-sound shared shared-lawful no-cells (whole poor ∷ whole rich ∷ []) (no_shard ∷ []) starts shared-fresh) numbers

-- the first alone: its budget is spent at once, and it drops what it holds
alone-poor : (shard (run_alone shared 0 10 (plan chain poor rich))).journal ≡ entries.Claimed 1 (point 1 5) ∷ entries.Spent 1 (point 3 4) 1 ∷ entries.Dropped 1 (point 1 5) ∷ []
unfolding asked_children roots_from children value span row_at rows_below last_setting next_setting least_delay
alone-poor = refl

-- the second alone
alone-rich : (shard (run_alone shared 1 10 (plan chain poor rich))).journal
    ≡ entries.Claimed 2 (point 1 5) ∷ entries.Claimed 2 (point 3 4) ∷ entries.Claimed 2 (point 2 3)
    ∷ entries.Filled 2 (point 2 3) (cell 1 11 One) ∷ entries.Filled 2 (point 3 4) (cell 2 11 One) ∷ entries.Filled 2 (point 1 5) (cell 3 11 One) ∷ []
unfolding asked_children roots_from children value span row_at rows_below last_setting next_setting least_delay
alone-rich = refl

-- settlement without workers: the first is refused, the second evaluates all three points
settled-none : (settle shared (no_shard ∷ [])).refused ≡ true ∷ false ∷ []
unfolding asked_children roots_from children value span row_at rows_below last_setting next_setting least_delay run_of
settled-none = refl

settled-journal : (get_or (settle shared (no_shard ∷ [])).shards 0 no_shard).journal
    ≡ entries.Claimed 1 (point 1 5) ∷ entries.Spent 1 (point 3 4) 1 ∷ entries.Dropped 1 (point 1 5)
    ∷ entries.Claimed 2 (point 1 5) ∷ entries.Claimed 2 (point 3 4) ∷ entries.Claimed 2 (point 2 3)
    ∷ entries.Filled 2 (point 2 3) (cell 1 11 One) ∷ entries.Filled 2 (point 3 4) (cell 2 11 One) ∷ entries.Filled 2 (point 1 5) (cell 3 11 One) ∷ []
unfolding asked_children roots_from children value span row_at rows_below last_setting next_setting least_delay run_of
settled-journal = refl

-- after the workers' turns above, in which the first was spent: nothing is missing, and neither is refused
settled-after : (settle shared (run shared (plan chain poor rich) schedule).shards).refused ≡ false ∷ false ∷ []
unfolding asked_children roots_from children value span row_at rows_below last_setting next_setting least_delay run_of
settled-after = refl

settled-nothing : (get_or (settle shared (run shared (plan chain poor rich) schedule).shards).shards 0 no_shard).journal
    ≡ entries.Claimed 1 (point 1 5) ∷ entries.Dropped 1 (point 1 5) ∷ entries.Claimed 2 (point 1 5) ∷ entries.Claimed 2 (point 3 4) ∷ entries.Claimed 2 (point 2 3)
    ∷ entries.Filled 2 (point 2 3) (cell 1 11 One) ∷ entries.Filled 2 (point 3 4) (cell 2 11 One) ∷ entries.Filled 2 (point 1 5) (cell 3 11 One) ∷ []
unfolding asked_children roots_from children value span row_at rows_below last_setting next_setting least_delay run_of
settled-nothing = refl

-- a query alone, whose budget of 2 is spent as the workers run and again in settlement
abbrev short : Query
short = query 1 1 5 2

abbrev lone : Batch
lone = record { circuit = chain; shards = 1; capacity = 4; queries = short ∷ []; site = None }

abbrev lone_end : Plan
lone_end = run lone (new_plan lone (whole short ∷ []) (no_shard ∷ [])) (0 ∷ 0 ∷ 0 ∷ 0 ∷ 0 ∷ [])

lone-refused : (settle lone lone_end.shards).refused ≡ true ∷ []
unfolding asked_children roots_from children value span row_at rows_below last_setting next_setting least_delay run_of
lone-refused = refl

lone-journal : (get_or (settle lone lone_end.shards).shards 0 no_shard).journal
    ≡ entries.Claimed 1 (point 1 5) ∷ entries.Claimed 1 (point 3 4) ∷ entries.Dropped 1 (point 3 4) ∷ entries.Dropped 1 (point 1 5)
    ∷ entries.Claimed 1 (point 1 5) ∷ entries.Claimed 1 (point 3 4) ∷ entries.Spent 1 (point 2 3) 2 ∷ entries.Dropped 1 (point 3 4) ∷ entries.Dropped 1 (point 1 5) ∷ []
unfolding asked_children roots_from children value span row_at rows_below last_setting next_setting least_delay run_of
lone-journal = refl
