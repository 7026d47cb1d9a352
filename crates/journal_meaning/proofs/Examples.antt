-- Worked examples: journals that are legal, computed from the definitions.
use Rattle.std.proofs.Common.{◌≡◌, ℕ, refl, arith, [], ◌∷◌, List, Some, None, true≢false, ap, nat_eq}
use Rattle.gate_values.specs.declared.Value.{Value}
use Rattle.gate_values.specs.declared.Value.TheVariants.{Zero, One, X}
use Rattle.gate_values.specs.declared.Kind.TheVariants.{And, Nand, Not, Buff}
use Rattle.circuit_meaning.specs.Forced.{forced_circuit}
use Rattle.valid_intervals.specs.declared.Point.{Point}
use Rattle.circuit_meaning.specs.declared.Window.{Window}
use Rattle.circuit_meaning.specs.declared.Setting.{Setting}
use Rattle.circuit_meaning.specs.declared.Pin.{Pin}
use Rattle.circuit_meaning.specs.Circuit.{Driver, Input, Gate, Circuit}
use Rattle.circuit_meaning.specs.Forward.{rows_below, row_at, last_setting, value}
use Rattle.circuit_meaning.specs.Cells.{span, least_delay, next_setting}
use Rattle.valid_intervals.specs.Spans.{from_to}
use Rattle.circuit_meaning.specs.Need.{children, IsRoot, First, Next, IsNeeded, Root, Child}
use Rattle.valid_intervals.specs.declared.Cell.{Cell}
use Rattle.journal_meaning.specs.declared.batch.Query.{Query}
use Rattle.journal_meaning.specs.declared.Entry.{Entry}
use Rattle.journal_meaning.specs.declared.Entry.TheVariants.{Told, Claimed, Filled, Evicted, Dropped, Spent}
use Rattle.journal_meaning.specs.States.{fresh}
use Rattle.journal_meaning.specs.Batches.{Batch, window_of, OfQuery, IsNeededBy}
use Rattle.std.proofs.lemmas.List.Elements.{All-from_recursion}
use Rattle.journal_meaning.specs.Answers.{IsSpent, last_of}
use Rattle.journal_meaning.proofs.Lists.{pairs_to}
use Rattle.journal_meaning.specs.Replay.{replay, IsLegalBatch}

abbrev pub set : ℕ → Value → Setting
set t v = record { time = t; value = v }

abbrev pub pin : ℕ → Pin
pin s = record { signal = s; delay = 1 }

abbrev pub at : ℕ → ℕ → Point
at s t = record { signal = s; time = t }

abbrev pub cell : ℕ → ℕ → Value → Cell
cell a b v = record { span = from_to a b; value = v }

-- a is 0, n3 is 1, n1 is 2, n2 is 3
abbrev pub chain : Circuit
chain = record { horizon = 10; drivers = Input (set 0 One ∷ []) ∷ Gate Buff (pin 3 ∷ []) ∷ Gate Buff (pin 0 ∷ []) ∷ Gate Buff (pin 2 ∷ []) ∷ [] }

abbrev pub query : Query
query = record { number = 1; signal = 1; from = 5; to = 6; budget = 2 }

abbrev pub batch : Batch
batch = record { circuit = chain; shards = 1; capacity = 16384; queries = query ∷ []; site = None }

needs15 : IsNeeded chain (window_of query) 1 5
unfolding least_delay
needs15 = Root (First (omega arith)) (omega arith)

needs34 : IsNeeded chain (window_of query) 3 4
unfolding children least_delay value row_at rows_below last_setting
needs34 = Child needs15 (0, omega arith, refl) (omega arith)

needs23 : IsNeeded chain (window_of query) 2 3
unfolding children least_delay value row_at rows_below last_setting
needs23 = Child needs34 (0, omega arith, refl) (omega arith)

of : (p : Point) → IsNeededBy batch query p → OfQuery batch 1 (λ q. IsNeededBy batch q p)
of p n = (query, (0, omega arith, refl), refl, n)

any : OfQuery batch 1 (λ q. Unit {0})
any = (query, (0, omega arith, refl), refl, tt)

abbrev pub refused : List Entry
refused = Claimed 1 (at 1 5) ∷ Claimed 1 (at 3 4) ∷ Dropped 1 (at 3 4) ∷ Dropped 1 (at 1 5) ∷ Claimed 1 (at 1 5) ∷ Claimed 1 (at 3 4) ∷ Spent 1 (at 2 3) 2 ∷ Dropped 1 (at 3 4) ∷ Dropped 1 (at 1 5) ∷ []

refused-legal : IsLegalBatch batch 0 [] refused
refused-legal = record {
  legal = (
    (refl, refl, refl),
    ((refl, omega arith), of (at 1 5) needs15),
    (
      (refl, refl, refl),
      ((refl, omega arith), of (at 3 4) needs34),
      (
        (refl, refl),
        ((refl, omega arith), any),
        (
          (refl, refl),
          ((refl, omega arith), any),
          (
            (refl, refl, refl),
            ((refl, omega arith), of (at 1 5) needs15),
            (
              (refl, refl, refl),
              ((refl, omega arith), of (at 3 4) needs34),
              (
                (refl, refl, refl),
                ((refl, omega arith), of (at 2 3) needs23, (query, (0, omega arith, refl), refl, omega arith)),
                (
                  (refl, refl),
                  ((refl, omega arith), any),
                  ((refl, refl), ((refl, omega arith), any), tt),
                ),
              ),
            ),
          ),
        ),
      ),
    ),
  );
  ended = record { claims = refl; made = refl };
}

-- an AND of two gates, in a memo of one cell: a is 0, y is 1, p is 2, q is 3
abbrev pub both : Circuit
both = record { horizon = 10; drivers = Input (set 0 One ∷ []) ∷ Gate And (pin 2 ∷ pin 3 ∷ []) ∷ Gate Buff (pin 0 ∷ []) ∷ Gate Buff (pin 0 ∷ []) ∷ [] }

abbrev pub first_query : Query
first_query = record { number = 1; signal = 1; from = 5; to = 6; budget = 50000 }

abbrev pub tight : Batch
tight = record { circuit = both; shards = 1; capacity = 1; queries = first_query ∷ []; site = None }

pub both15 : IsNeeded both (window_of first_query) 1 5
unfolding least_delay
both15 = Root (First (omega arith)) (omega arith)

both24 : IsNeeded both (window_of first_query) 2 4
unfolding children least_delay value row_at rows_below last_setting
both24 = Child both15 (0, omega arith, refl) (omega arith)

both34 : IsNeeded both (window_of first_query) 3 4
unfolding children least_delay value row_at rows_below last_setting
both34 = Child both15 (1, omega arith, refl) (omega arith)

of_first : (p : Point) → IsNeededBy tight first_query p → OfQuery tight 1 (λ q. IsNeededBy tight q p)
of_first p n = (first_query, (0, omega arith, refl), refl, n)

any_first : OfQuery tight 1 (λ q. Unit {0})
any_first = (first_query, (0, omega arith, refl), refl, tt)

abbrev pub evicting : List Entry
evicting =
    Claimed 1 (at 1 5) ∷ Claimed 1 (at 2 4) ∷ Filled 1 (at 2 4) (cell 1 11 One) ∷ Claimed 1 (at 3 4) ∷ Evicted 2 1 ∷ Filled 1 (at 3 4) (cell 1 11 One) ∷ Evicted 3 1 ∷ Filled 1 (at 1 5) (cell 2 11 One) ∷ []

evicting-legal : IsLegalBatch tight 0 [] evicting
unfolding span value row_at rows_below last_setting next_setting least_delay
evicting-legal = record {
  legal = (
    (refl, refl, refl),
    ((refl, omega arith), of_first (at 1 5) both15),
    (
      (refl, refl, refl),
      ((refl, omega arith), of_first (at 2 4) both24),
      (
        (refl, (λ e. refl), (λ e. omega arith)),
        ((refl, omega arith), any_first, refl),
        (
          (refl, refl, refl),
          ((refl, omega arith), of_first (at 3 4) both34),
          (
            (refl, refl, (record { signal = 2; cell = cell 1 11 One }, refl, refl, refl)),
            tt,
            (
              (refl, (λ e. refl), (λ e. omega arith)),
              ((refl, omega arith), any_first, refl),
              (
                (refl, refl, (record { signal = 3; cell = cell 1 11 One }, refl, refl, refl)),
                tt,
                ((refl, (λ e. refl), (λ e. omega arith)), ((refl, omega arith), any_first, refl), tt),
              ),
            ),
          ),
        ),
      ),
    ),
  );
  ended = record { claims = refl; made = refl };
}

evicting-leaves : (replay (fresh []) evicting).cells ≡ record { signal = 1; cell = cell 2 11 One } ∷ []
evicting-leaves = refl

-- the budget of the first one was spent
refused-spent : IsSpent refused query
refused-spent = record {
  point = at 2 3;
  claims = 2;
  last = refl;
  given_up = at 3 4 ∷ at 1 5 ∷ [];
  different = pairs_to (at 3 4 ∷ at 1 5 ∷ []) (((λ e. true≢false (ap (λ (p : Point). nat_eq p.signal 3) e)), tt), (tt, tt));
  dropped = All-from_recursion (λ p. last_of refused 1 p ≡ Some (Dropped 1 p)) (at 3 4 ∷ at 1 5 ∷ []) (refl, (refl, tt));
  enough = omega arith;
  budget = omega arith;
}

-- the second batch of that session
abbrev pub second_query : Query
second_query = record { number = 3; signal = 2; from = 4; to = 5; budget = 50000 }

abbrev pub again : Batch
again = record { circuit = both; shards = 1; capacity = 1; queries = second_query ∷ []; site = None }

again24 : IsNeeded both (window_of second_query) 2 4
unfolding least_delay
again24 = Root (First (omega arith)) (omega arith)

again-legal : IsLegalBatch again 0 (record { signal = 1; cell = cell 2 11 One } ∷ []) (Claimed 3 (at 2 4) ∷ Evicted 1 2 ∷ Filled 3 (at 2 4) (cell 1 11 One) ∷ [])
unfolding span value row_at rows_below last_setting next_setting least_delay
again-legal = record {
  legal = (
    (refl, refl, refl),
    ((refl, omega arith), (second_query, (0, omega arith, refl), refl, again24)),
    (
      (refl, refl, (record { signal = 1; cell = cell 2 11 One }, refl, refl, refl)),
      tt,
      ((refl, (λ e. refl), (λ e. omega arith)), ((refl, omega arith), (second_query, (0, omega arith, refl), refl, tt), refl), tt),
    ),
  );
  ended = record { claims = refl; made = refl };
}

-- an inverter whose two cells are stored already
abbrev pub inverter : Circuit
inverter = record { horizon = 10; drivers = Input (set 0 Zero ∷ set 5 One ∷ []) ∷ Gate Not (record { signal = 0; delay = 3 } ∷ []) ∷ [] }

abbrev pub third_query : Query
third_query = record { number = 3; signal = 1; from = 0; to = 11; budget = 500000 }

abbrev pub third : Batch
third = record { circuit = inverter; shards = 1; capacity = 16384; queries = third_query ∷ []; site = None }

root3 : IsRoot inverter (window_of third_query) 3
unfolding span value row_at rows_below last_setting next_setting least_delay
root3 = Next (First (omega arith)) (omega arith)

root8 : IsRoot inverter (window_of third_query) 8
unfolding span value row_at rows_below last_setting next_setting least_delay
root8 = Next root3 (omega arith)

told-legal : IsLegalBatch third 0 (record { signal = 1; cell = cell 8 11 Zero } ∷ record { signal = 1; cell = cell 3 8 One } ∷ []) (Told 3 (at 1 3) (cell 3 8 One) ∷ Told 3 (at 1 8) (cell 8 11 Zero) ∷ [])
unfolding span value row_at rows_below last_setting next_setting least_delay
told-legal = record {
  legal = (
    (refl, refl, refl),
    ((refl, omega arith), (third_query, (0, omega arith, refl), refl, Root root3 (omega arith)), refl),
    ((refl, refl, refl), ((refl, omega arith), (third_query, (0, omega arith, refl), refl, Root root8 (omega arith)), refl), tt),
  );
  ended = record { claims = refl; made = refl };
}

-- the held section of a stuck signal: n1 is held at 0
abbrev pub stuck_query : Query
stuck_query = record { number = 1; signal = 1; from = 0; to = 11; budget = 50000 }

abbrev pub stuck_chain : Circuit
stuck_chain = forced_circuit chain 2 Zero

abbrev pub apart : Batch
apart = record { circuit = stuck_chain; shards = 1; capacity = 65536; queries = stuck_query ∷ []; site = None }

abbrev pub stuck_window : Window
stuck_window = window_of stuck_query

root1 : IsRoot stuck_chain stuck_window 1
unfolding span value row_at rows_below last_setting next_setting least_delay
root1 = Next (First (omega arith)) (omega arith)

root2 : IsRoot stuck_chain stuck_window 2
unfolding span value row_at rows_below last_setting next_setting least_delay
root2 = Next root1 (omega arith)

stuck11 : IsNeeded stuck_chain stuck_window 1 1
unfolding least_delay
stuck11 = Root root1 (omega arith)

stuck12 : IsNeeded stuck_chain stuck_window 1 2
unfolding least_delay
stuck12 = Root root2 (omega arith)

stuck31 : IsNeeded stuck_chain stuck_window 3 1
unfolding children least_delay value row_at rows_below last_setting
stuck31 = Child stuck12 (0, omega arith, refl) (omega arith)

of_stuck : (p : Point) → IsNeededBy apart stuck_query p → OfQuery apart 1 (λ q. IsNeededBy apart q p)
of_stuck p n = (stuck_query, (0, omega arith, refl), refl, n)

any_stuck : OfQuery apart 1 (λ q. Unit {0})
any_stuck = (stuck_query, (0, omega arith, refl), refl, tt)

held-is-legal : IsLegalBatch apart 0 [] (Claimed 1 (at 1 1) ∷ Filled 1 (at 1 1) (cell 1 2 X) ∷ Claimed 1 (at 1 2) ∷ Claimed 1 (at 3 1) ∷ Filled 1 (at 3 1) (cell 1 11 Zero) ∷ Filled 1 (at 1 2) (cell 2 11 Zero) ∷ [])
unfolding span value row_at rows_below last_setting next_setting least_delay
held-is-legal = record {
  legal = (
    (refl, refl, refl),
    ((refl, omega arith), of_stuck (at 1 1) stuck11),
    (
      (refl, (λ e. refl), (λ e. omega arith)),
      ((refl, omega arith), any_stuck, refl),
      (
        (refl, refl, refl),
        ((refl, omega arith), of_stuck (at 1 2) stuck12),
        (
          (refl, refl, refl),
          ((refl, omega arith), of_stuck (at 3 1) stuck31),
          (
            (refl, (λ e. refl), (λ e. omega arith)),
            ((refl, omega arith), any_stuck, refl),
            ((refl, (λ e. refl), (λ e. omega arith)), ((refl, omega arith), any_stuck, refl), tt),
          ),
        ),
      ),
    ),
  );
  ended = record { claims = refl; made = refl };
}

-- the benchmark c17: 1, 2, 3, 6 and 7 are 0 to 4, 22 is 5, 23 is 6, 10 is 7, 11 is 8, 16 is 9, 19 is 10
abbrev pub nand : ℕ → ℕ → Driver
nand a b = Gate Nand (pin a ∷ pin b ∷ [])

abbrev pub low : Driver
low = Input (set 0 Zero ∷ [])

abbrev pub c17 : Circuit
c17 = record { horizon = 10; drivers = low ∷ low ∷ low ∷ low ∷ low ∷ nand 7 9 ∷ nand 9 10 ∷ nand 0 2 ∷ nand 2 3 ∷ nand 1 8 ∷ nand 8 4 ∷ [] }

abbrev pub c17_query : Query
c17_query = record { number = 1; signal = 5; from = 3; to = 4; budget = 50000 }

abbrev pub c17_batch : Batch
c17_batch = record { circuit = c17; shards = 1; capacity = 16384; queries = c17_query ∷ []; site = None }

c17-53 : IsNeeded c17 (window_of c17_query) 5 3
unfolding least_delay
c17-53 = Root (First (omega arith)) (omega arith)

c17-72 : IsNeeded c17 (window_of c17_query) 7 2
unfolding children least_delay value row_at rows_below last_setting
c17-72 = Child c17-53 (0, omega arith, refl) (omega arith)

c17-92 : IsNeeded c17 (window_of c17_query) 9 2
unfolding children least_delay value row_at rows_below last_setting
c17-92 = Child c17-53 (1, omega arith, refl) (omega arith)

-- signal 11 is not looked at, since signal 2 decides
c17-children : children c17 9 2 ≡ at 1 1 ∷ []
unfolding children value row_at rows_below last_setting
c17-children = refl

of_c17 : (p : Point) → IsNeededBy c17_batch c17_query p → OfQuery c17_batch 1 (λ q. IsNeededBy c17_batch q p)
of_c17 p n = (c17_query, (0, omega arith, refl), refl, n)

any_c17 : OfQuery c17_batch 1 (λ q. Unit {0})
any_c17 = (c17_query, (0, omega arith, refl), refl, tt)

c17-legal : IsLegalBatch c17_batch 0 [] (Claimed 1 (at 5 3) ∷ Claimed 1 (at 7 2) ∷ Filled 1 (at 7 2) (cell 1 11 One) ∷ Claimed 1 (at 9 2) ∷ Filled 1 (at 9 2) (cell 1 11 One) ∷ Filled 1 (at 5 3) (cell 2 11 Zero) ∷ [])
unfolding span value row_at rows_below last_setting next_setting least_delay
c17-legal = record {
  legal = (
    (refl, refl, refl),
    ((refl, omega arith), of_c17 (at 5 3) c17-53),
    (
      (refl, refl, refl),
      ((refl, omega arith), of_c17 (at 7 2) c17-72),
      (
        (refl, (λ e. refl), (λ e. omega arith)),
        ((refl, omega arith), any_c17, refl),
        (
          (refl, refl, refl),
          ((refl, omega arith), of_c17 (at 9 2) c17-92),
          (
            (refl, (λ e. refl), (λ e. omega arith)),
            ((refl, omega arith), any_c17, refl),
            ((refl, (λ e. refl), (λ e. omega arith)), ((refl, omega arith), any_c17, refl), tt),
          ),
        ),
      ),
    ),
  );
  ended = record { claims = refl; made = refl };
}
