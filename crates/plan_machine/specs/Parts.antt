-- The parts in which a plan is kept: a list with a gap for each strand that waits, and the strands that wait at each point.
use Rattle.std.specs.Prelude.{◌≡◌, ℕ, suc, nat_eq, false, if◌then◌else◌, ◌⊎◌, List, [], ◌∷◌, length, slice_get, slice_set, Option, Some, None}
use Rattle.valid_intervals.specs.declared.Point.{Point}
use Rattle.plan_machine.specs.declared.strand.Next.TheVariants.{Ask}
use Rattle.valid_intervals.specs.Cells.{same_point}
use Rattle.plan_machine.specs.Strands.{Strand, next, waiting}

pub record NumberedStrand : Type 0 where
  pub number : ℕ
  pub strand : Strand

abbrev pub IsAmong : NumberedStrand → List NumberedStrand → Type 0
IsAmong w [] = ⊥
IsAmong w (x ∷ xs) = (x ≡ w) ⊎ IsAmong w xs

-- the strands xs of a plan, kept in these parts
pub record AreParts (places : List (Option Strand)) (waiters : Point → List NumberedStrand) (xs : List Strand) : Type 0 where
  pub length : length places ≡ length xs
  pub ready : (i : ℕ) (s : Strand) → slice_get places i ≡ Some (Some s) → (slice_get xs i ≡ Some s) × (s.waits ≡ false)
  pub gap : (i : ℕ) → slice_get places i ≡ Some None → (p : Point) × ((w : NumberedStrand) × (IsAmong w (waiters p) × (w.number ≡ i)))
  pub waiter : (p : Point) (w : NumberedStrand) → IsAmong w (waiters p) → (slice_get places w.number ≡ Some None) × (slice_get xs w.number ≡ Some (waiting w.strand)) × (next w.strand ≡ Ask p) × (w.strand.waits ≡ false)

-- each strand returns to its place, with f applied to it
abbrev pub put_back : (Strand → Strand) → List (Option Strand) → List NumberedStrand → List (Option Strand)
put_back f places [] = places
put_back f places (w ∷ ws) = put_back f (slice_set places w.number (Some (f w.strand))) ws

-- the waiters at p are replaced by these
abbrev pub with_waiters : (Point → List NumberedStrand) → Point → List NumberedStrand → Point → List NumberedStrand
with_waiters waiters p ws x = if same_point p x then ws else waiters x

-- the strand in a place, or the waiter with its number
abbrev pub waiter_at : List NumberedStrand → ℕ → Strand → Strand
waiter_at [] n blank = blank
waiter_at (w ∷ ws) n blank = if nat_eq w.number n then w.strand else waiter_at ws n blank

abbrev pub placed_at : List NumberedStrand → Strand → ℕ → Option Strand → Strand
placed_at ws blank n (Some s) = s
placed_at ws blank n None = waiting (waiter_at ws n blank)

-- the strands that these parts stand for
abbrev pub strands_from : List NumberedStrand → Strand → ℕ → List (Option Strand) → List Strand
strands_from ws blank n [] = []
strands_from ws blank n (o ∷ os) = placed_at ws blank n o ∷ strands_from ws blank (suc n) os
