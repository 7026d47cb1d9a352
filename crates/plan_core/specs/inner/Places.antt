-- The places of strands: one for each number, with a gap if its strand waits.
use Rattle.std.specs.Prelude.{◌≡◌, ℕ, ◌<◌, List, [], ◌∷◌, map, slice_get, Option, Some, None}
use Rattle.plan_machine.specs.declared.strand.Next.{Next}
use Rattle.plan_machine.specs.Strands.{Strand, next}
use Rattle.plan_machine.specs.Parts.{NumberedStrand}
use Rattle.demand_points.specs.Demands.{Demand}
use Rattle.memo_shards.specs.Seen.{numbered_strand}

-- the strand in a place, in the words of `plan_machine`
abbrev pub seat : Option Demand → Option Strand
seat None = None
seat (Some s) = Some s.strand

abbrev pub seats : List (Option Demand) → List (Option Strand)
seats places = map seat places

-- the strand in place i has the number i
abbrev pub AreNumbered : List (Option Demand) → Type 0
AreNumbered places = (i : ℕ) (s : Demand) → slice_get places i ≡ Some (Some s) → s.number ≡ i

-- each strand's number is below the number of places
abbrev pub HaveNumbers : ℕ → List Demand → Type 0
HaveNumbers n [] = Unit {0}
HaveNumbers n (s ∷ ss) = (s.number < n) × HaveNumbers n ss

-- the place shows this next step
abbrev pub IsNextAt : List (Option Demand) → ℕ → Option Next → Type 0
IsNextAt places n None = slice_get places n ≡ Some None
IsNextAt places n (Some x) = (s : Demand) × ((slice_get places n ≡ Some (Some s)) × (next s.strand ≡ x))

-- the strand in a place with its number
abbrev pub tag : Option Demand → Option NumberedStrand
tag None = None
tag (Some s) = Some (numbered_strand s)

abbrev pub tags : List (Option Demand) → List (Option NumberedStrand)
tags places = map tag places

abbrev pub tag_of : Demand → Option NumberedStrand
tag_of s = Some (numbered_strand s)
