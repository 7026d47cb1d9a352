-- What only the proofs and the private functions of this crate speak of, beside `Demands`.
use Rattle.std.specs.Prelude.{◌≡◌, ◌+◌, ◌≤◌, ◌<◌, Bool, true, false, List, [], ◌∷◌, length, map, Some, MatchOption}
use Rattle.valid_intervals.specs.declared.Cell.{Cell}
use Rattle.valid_intervals.specs.declared.Point.{Point}
use Rattle.circuit_meaning.specs.declared.Window.{Window}
use Rattle.circuit_meaning.specs.Circuit.{Circuit}
use Rattle.circuit_meaning.specs.Need.{IsRoot, IsEvaluable}
use Rattle.journal_meaning.specs.Batches.{Batch, window_of}
use Rattle.circuit_meaning.specs.Cells.{cell_at}
use Rattle.journal_meaning.specs.Lawful.{IsLawful}
use Rattle.plan_machine.specs.Strands.{Strand, IsStrand}
use Rattle.design.specs.declared.pin_walk.PinWalk.{PinWalk}
use Rattle.demand_points.specs.declared.parts.Parts.{Parts}
use Rattle.demand_points.specs.inner.Stacks.{IsTop, with_top}
use Rattle.design.specs.PinWalks.{IsPinWalk, IsLooking, next_point}
use Rattle.demand_points.specs.inner.Bases.{IsReady, shown_frame}
use Rattle.demand_points.specs.Demands.{Demand, IsLastHeard, roots_left}

abbrev pub window_in : Parts → Window
window_in s = record { signal = s.query.signal; start = s.from; stop = s.to }

abbrev pub root_point : Parts → Point
root_point s = record { signal = s.query.signal; time = s.root }

abbrev pub strand_of : Circuit → Parts → Strand
strand_of c s = record {
  query = s.query;
  budget = s.budget;
  roots = roots_left c (window_in s) s.root;
  stack = map (shown_frame c) s.stack;
  charged = s.charged;
  filled = s.filled;
  spent = s.spent;
  waits = false;
}

abbrev pub demand_of : Circuit → Parts → Demand
demand_of c s = record { number = s.number; from = s.from; to = s.to; root = s.root; last = s.last; strand = strand_of c s }

-- The stack waits for the point: the claimed point on top as its next pin, or the window as its next root.
abbrev pub WaitsFor : Circuit → Point → List PinWalk → Point → Type 0
WaitsFor c root [] p = p ≡ root
WaitsFor c root (f ∷ fs) p = IsLooking c f × (next_point c f ≡ Some p)

-- each claimed point is right, and what lies under it waits for it
abbrev pub AreWalks : Circuit → Point → List PinWalk → Type 0
AreWalks c root [] = Unit {0}
AreWalks c root (f ∷ fs) = IsPinWalk c f × WaitsFor c root fs f.point × AreWalks c root fs

-- What it is made of is right about the circuit.
pub record IsRunning (c : Circuit) (s : Parts) : Type 0 where
  pub signal : s.root < s.to → s.query.signal < length c.drivers
  pub window : s.to ≤ s.query.to
  pub within : s.query.to ≤ c.horizon + 1
  pub since : s.from ≤ s.root
  pub root : s.root < s.to → IsRoot c (window_of s.query) s.root
  pub walks : AreWalks c (root_point s) s.stack
  pub busy : 0 < length s.stack → s.root < s.to
  pub last : MatchOption s.last (s.root ≡ s.from) (IsLastHeard c s.query s.from s.to s.root)

-- no base answer is left to be heard before the next step
abbrev pub IsReadyIn : Circuit → Parts → List PinWalk → Type 0
IsReadyIn c s [] = s.root < s.to → IsEvaluable c s.query.signal s.root
IsReadyIn c s (f ∷ fs) = IsReady c f

abbrev pub IsReadyAt : Circuit → Parts → Type 0
IsReadyAt c s = IsReadyIn c s s.stack

-- the next root has no base answer, or there is none
abbrev pub IsRootReady : Circuit → Parts → Type 0
IsRootReady c s = s.root < s.to → IsEvaluable c s.query.signal s.root

-- The next root and the cell that was heard last are those of before, where no base answer was left to be heard there.
abbrev pub StaysAtRoot : Circuit → Parts → Parts → Type 0
StaysAtRoot c old new = (old.stack ≡ [] → IsRootReady c old) → (new.root ≡ old.root) × (new.last ≡ old.last)

-- it has this one
pub record IsRootKnown (c : Circuit) (s : Parts) (cell : Cell) : Type 0 where
  pub live : s.root < s.to
  pub base : IsEvaluable c s.query.signal s.root → ⊥
  pub right : cell ≡ cell_at c (root_point s)

-- The strand has made a step, and serves the same window.
pub record TakesStepTo (c : Circuit) (f : Strand → Strand) (old new : Parts) : Type 0 where
  pub running : IsRunning c new
  pub number : new.number ≡ old.number
  pub from : new.from ≡ old.from
  pub to : new.to ≡ old.to
  pub strand : strand_of c new ≡ f (strand_of c old)

-- Base answers were heard; with the old root, last cell and top it is the old one again.
pub record IsUndone (old new : Parts) : Type 0 where
  pub empty : old.stack ≡ [] → new.stack ≡ []
  pub top : (f : PinWalk) → IsTop old.stack f → with_top f new.stack ≡ old.stack

-- What every strand of a batch keeps. One whose window is empty from the start, at time 0, may be of no batch.
pub record IsDemand (b : Batch) (s : Parts) : Type 0 where
  pub lawful : 0 < s.to → IsLawful b
  pub strand : 0 < s.to → IsStrand b (strand_of b.circuit s)
  pub running : IsRunning b.circuit s
  pub charge : s.charged ≤ s.budget
  pub claims : length s.stack + s.filled ≤ s.charged

-- It knows, where it is settled, that no base answer is left to be heard.
abbrev pub IsKept : Batch → Parts → Bool → Type 0
IsKept b s settled = IsDemand b s × (settled ≡ true → IsReadyAt b.circuit s)
