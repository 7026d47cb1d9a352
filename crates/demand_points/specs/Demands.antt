-- A strand in hand: what contracts see of it, and what it keeps.
use Rattle.std.specs.Prelude.{◌≡◌, ℕ, ◌+◌, ◌-◌, ◌≤◌, ◌<◌, false, List, [], length, filter, Option, MatchOption}
use Rattle.valid_intervals.specs.declared.Cell.{Cell}
use Rattle.valid_intervals.specs.declared.Point.{Point}
use Rattle.circuit_meaning.specs.declared.Window.{Window}
use Rattle.circuit_meaning.specs.Circuit.{Circuit}
use Rattle.circuit_meaning.specs.Need.{IsRoot, IsEvaluable}
use Rattle.journal_meaning.specs.declared.batch.Query.{Query}
use Rattle.journal_meaning.specs.Batches.{Batch, window_of}
use Rattle.circuit_meaning.specs.Cells.{cell_at}
use Rattle.plan_machine.specs.declared.strand.Next.TheVariants.{Ask, Fill}
use Rattle.journal_meaning.specs.Lawful.{IsLawful}
use Rattle.plan_machine.specs.Strands.{Strand, IsStrand, is_evaluable, roots_from, next}

-- What contracts see: its number, the window that it serves, the time of the root that it hears next, the cell of the root that it
-- heard last, and the strand itself, in which nothing is to be seen of base answers.
pub record Demand : Type 0 where
  pub number : ℕ
  pub from : ℕ
  pub to : ℕ
  pub root : ℕ
  pub last : Option Cell
  pub strand : Strand

-- the roots that a strand still has to ask for
abbrev pub roots_left : Circuit → Window → ℕ → List Point
roots_left c w root = filter (is_evaluable c) (roots_from c w (w.stop - root) root)

-- the cell that was heard last is that of a root from the start on, and ends where the next root begins
pub record IsLastHeard (c : Circuit) (q : Query) (from to root : ℕ) (cell : Cell) : Type 0 where
  pub time : ℕ
  pub heard : IsRoot c (window_of q) time
  pub since : from ≤ time
  pub before : time < to
  pub right : cell ≡ cell_at c (record { signal = q.signal; time = time })
  pub stop : cell.span.stop ≡ root

-- the cell answers what the strand asks
abbrev pub IsAskedCell : Circuit → Strand → Cell → Type 0
IsAskedCell c s cell = (p : Point) × (next s ≡ Ask p) × (cell ≡ cell_at c p)

abbrev pub IsAsking : Strand → Type 0
IsAsking s = (p : Point) × (next s ≡ Ask p)

abbrev pub IsFilling : Strand → Type 0
IsFilling s = (p : Point) × (next s ≡ Fill p)

-- nothing is to be seen of base answers that are heard
abbrev pub itself : Strand → Strand
itself s = s

-- the cell of a root in the strand's window
pub record IsRootCell (c : Circuit) (s : Demand) (cell : Cell) : Type 0 where
  pub time : ℕ
  pub since : s.from ≤ time
  pub before : time < s.to
  pub right : cell ≡ cell_at c (record { signal = s.strand.query.signal; time = time })

-- The next root is where the window begins while none was heard, and then the end of the cell that was heard last.
abbrev pub IsHeardTo : Circuit → Demand → Type 0
IsHeardTo c s = MatchOption s.last (s.root ≡ s.from) (IsLastHeard c s.strand.query s.from s.to s.root)

-- Every base answer before its next step was heard: with no claimed point, its next root is one that has to be asked for, or its
-- window is at its end.
abbrev pub HasHeardBases : Circuit → Demand → Type 0
HasHeardBases c s = s.strand.stack ≡ [] → s.root < s.to → IsEvaluable c s.strand.query.signal s.root

-- what is known of every strand
pub record IsKnownStrand (b : Batch) (s : Demand) : Type 0 where
  pub lawful : 0 < s.to → IsLawful b
  pub strand : 0 < s.to → IsStrand b s.strand
  pub roots : s.strand.roots ≡ roots_left b.circuit (record { signal = s.strand.query.signal; start = s.from; stop = s.to }) s.root
  pub last : IsHeardTo b.circuit s
  pub busy : 0 < length s.strand.stack → s.root < s.to
  pub awake : s.strand.waits ≡ false
  pub charge : s.strand.charged ≤ s.strand.budget
  pub claims : length s.strand.stack + s.strand.filled ≤ s.strand.charged

-- as contracts see a step
pub record TakesStep (f : Strand → Strand) (old new : Demand) : Type 0 where
  pub number : new.number ≡ old.number
  pub from : new.from ≡ old.from
  pub to : new.to ≡ old.to
  pub strand : new.strand ≡ f old.strand
