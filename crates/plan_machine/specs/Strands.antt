-- A strand: one suspended demand. It asks for points one after another, and evaluates a point once its children are heard.
use Rattle.std.specs.Prelude.{◌≡◌, ℕ, zero, suc, ◌+◌, ◌-◌, ◌≤◌, ◌<◌, nat_lt, nat_le, ◌⊎◌, Bool, true, false, if◌then◌else◌, is_some, List, [], ◌∷◌, length, filter, Contains}
use Rattle.std.specs.List.{AllByRecursion}
use Rattle.circuit_meaning.specs.Circuit.{Driver, Input, Gate, Flop, Circuit, driver}
use Rattle.circuit_meaning.specs.Edges.{shown_edge}
use Rattle.circuit_meaning.specs.Cells.{least_delay, span}
use Rattle.valid_intervals.specs.declared.Point.{Point}
use Rattle.circuit_meaning.specs.declared.Window.{Window}
use Rattle.circuit_meaning.specs.Need.{children, IsEvaluable, IsRoot}
use Rattle.journal_meaning.specs.declared.batch.Query.{Query}
use Rattle.journal_meaning.specs.Batches.{Batch, window_of}
use Rattle.plan_machine.specs.declared.strand.Next.{Next}
use Rattle.plan_machine.specs.declared.strand.Next.TheVariants.{Ask, Fill, Drop, Done}
use Rattle.journal_meaning.specs.Lawful.{IsQueryOf}
use Rattle.journal_meaning.specs.Pieces.{Start, piece}

-- a claimed point, and the children that are not heard yet
pub record Frame : Type 0 where
  pub point : Point
  pub left : List Point

-- roots has the roots that are not heard yet; the top of the stack comes first
pub record Strand : Type 0 where
  pub query : Query
  pub budget : ℕ
  pub roots : List Point
  pub stack : List Frame
  pub charged : ℕ
  pub filled : ℕ
  pub spent : Bool
  pub waits : Bool

-- whether a point has no base answer
abbrev pub has_children : ℕ → Driver → Bool
has_children t (Input settings) = false
has_children t (Gate kind pins) = nat_le (least_delay pins) t
has_children t (Flop f) = is_some (shown_edge f.clock f.delay t)

abbrev pub is_evaluable : Circuit → Point → Bool
is_evaluable c p = has_children p.time (driver c p.signal)

-- the children that a strand has to ask for; the others have base answers
unfoldable pub asked_children : Circuit → Point → List Point
asked_children c p = filter (is_evaluable c) (children c p.signal p.time)

-- the ends of cells from t on, in at most n steps
unfoldable pub roots_from : Circuit → Window → ℕ → ℕ → List Point
roots_from c w zero t = []
roots_from c w (suc n) t = if nat_lt t w.stop then record { signal = w.signal; time = t } ∷ roots_from c w n (span c w.signal t).stop else []

abbrev pub started_strand : Circuit → Start → Strand
started_strand c a = record {
  query = a.query;
  budget = a.budget;
  roots = filter (is_evaluable c) (roots_from c (piece a) (a.stop - a.start) a.start);
  stack = [];
  charged = a.charged;
  filled = 0;
  spent = false;
  waits = false;
}

-- asks for the first of these points; if there is none, makes this step
abbrev pub ask_or : Next → List Point → Next
ask_or end [] = end
ask_or end (p ∷ rest) = Ask p

abbrev pub next_in : Bool → List Point → List Frame → Next
next_in spent roots [] = if spent then Done else ask_or Done roots
next_in spent roots (f ∷ fs) = if spent then Drop f.point else ask_or (Fill f.point) f.left

-- the next step of a strand
abbrev pub next : Strand → Next
next s = next_in s.spent s.roots s.stack

abbrev pub rest : {A : Type 0} → List A → List A
rest [] = []
rest (a ∷ more) = more

abbrev pub roots_heard : List Point → List Frame → List Point
roots_heard roots [] = rest roots
roots_heard roots (f ∷ fs) = roots

abbrev pub stack_heard : List Frame → List Frame
stack_heard [] = []
stack_heard (f ∷ fs) = record { point = f.point; left = rest f.left } ∷ fs

-- the strand after it has heard what it asked for
abbrev pub after_answer : Strand → Strand
after_answer s = record s { roots = roots_heard s.roots s.stack; stack = stack_heard s.stack }

abbrev pub after_claim : Circuit → Strand → Point → Strand
after_claim c s p = record s { stack = record { point = p; left = asked_children c p } ∷ s.stack; charged = s.charged + 1 }

abbrev pub waiting : Strand → Strand
waiting s = record s { waits = true }

abbrev pub awake : Strand → Strand
awake s = record s { waits = false }

abbrev pub given_up : Strand → Strand
given_up s = record s { spent = true }

-- the strand after its top was dropped
abbrev pub after_drop : Strand → Strand
after_drop s = record s { stack = rest s.stack }

-- the strand after its top was filled; the frame below hears the answer
abbrev pub after_fill : Strand → Strand
after_fill s = after_answer (record s { stack = rest s.stack; filled = s.filled + 1 })

-- the point is on the stack
abbrev pub IsOnStack : List Frame → Point → Type 0
IsOnStack [] p = ⊥
IsOnStack (f ∷ fs) p = (f.point ≡ p) ⊎ IsOnStack fs p

-- what the top, or else the strand itself, has not heard yet
abbrev pub left_in : List Point → List Frame → List Point
left_in roots [] = roots
left_in roots (f ∷ fs) = f.left

abbrev pub IsFirst : List Point → Point → Type 0
IsFirst [] p = ⊥
IsFirst (x ∷ xs) p = x ≡ p

pub record IsAskedChild (c : Circuit) (parent p : Point) : Type 0 where
  pub child : Contains (children c parent.signal parent.time) p
  pub evaluable : IsEvaluable c p.signal p.time

-- each point of a stack is what the one below it waits for, and the strand waits for the lowest
abbrev pub IsChain : Circuit → List Point → List Frame → Type 0
IsChain c roots [] = Unit {0}
IsChain c roots (f ∷ fs) = IsFirst (left_in roots fs) f.point × AllByRecursion (IsAskedChild c f.point) f.left × IsChain c roots fs

pub record IsRootPoint (c : Circuit) (w : Window) (p : Point) : Type 0 where
  pub signal : p.signal ≡ w.signal
  pub root : IsRoot c w p.time
  pub evaluable : IsEvaluable c p.signal p.time

pub record IsStrand (b : Batch) (s : Strand) : Type 0 where
  pub known : IsQueryOf b s.query
  pub roots : AllByRecursion (IsRootPoint b.circuit (window_of s.query)) s.roots
  pub chain : IsChain b.circuit s.roots s.stack
  pub charge : s.charged ≤ s.budget
  pub claims : length s.stack + s.filled ≤ s.charged
  pub budget : s.budget ≤ s.query.budget
