-- How many turns a plan can have.
use Rattle.std.specs.Prelude.{ℕ, ◌+◌, ◌-◌, ◌*◌, Bool, true, false, List, [], ◌∷◌, length, max}
use Rattle.std.specs.List.{sum_by}
use Rattle.circuit_meaning.specs.Circuit.{Driver, Input, Gate, Flop}
use Rattle.journal_meaning.specs.Batches.{Batch}
use Rattle.plan_machine.specs.Strands.{Frame, Strand}
use Rattle.journal_meaning.specs.Pieces.{Start}
use Rattle.plan_machine.specs.Plans.{Plan}

-- the greatest number of pins
abbrev pub pins_of : Driver → ℕ
pins_of (Input settings) = 0
pins_of (Gate kind pins) = length pins
pins_of (Flop f) = 1

abbrev pub most_pins : List Driver → ℕ
most_pins [] = 0
most_pins (d ∷ more) = max (pins_of d) (most_pins more)

-- the greatest cost of a claim in turns: itself, its end, one for each child, and one for each strand that its end wakes
abbrev pub claim_cost : Batch → ℕ → ℕ
claim_cost b strands = most_pins b.circuit.drivers + strands + 2

-- The greatest number of turns of a new plan: for each claim that the budgets allow the cost of a claim, one for each root, and for each
-- strand one to give up and one to wait.
abbrev pub bound : Batch → List Start → ℕ
bound b starts = sum_by (λ a. a.budget) starts * claim_cost b (length starts) + sum_by (λ a. a.stop - a.start) starts + 2 * length starts

-- The greatest number of turns that a stack still costs, among this many strands.
abbrev pub stack_cost : ℕ → List Frame → ℕ
stack_cost strands [] = 0
stack_cost strands (f ∷ fs) = strands + 1 + length f.left + stack_cost strands fs

abbrev pub flag : Bool → ℕ
flag true = 0
flag false = 1

abbrev pub turns_left : Batch → ℕ → Strand → ℕ
turns_left b strands s = (s.budget - s.charged) * claim_cost b strands + stack_cost strands s.stack + length s.roots + flag s.spent + flag s.waits

abbrev pub all_left : Batch → Plan → ℕ
all_left b plan = sum_by (turns_left b (length plan.strands)) plan.strands
