-- The sources of pins.
use Rattle.std.specs.Prelude.{List, Option, Some, None}
use Rattle.valid_intervals.specs.declared.Point.{Point}
use Rattle.circuit_meaning.specs.Circuit.{Circuit}
use Rattle.journal_meaning.specs.declared.Entry.{Entry}
use Rattle.journal_meaning.specs.Answers.{IsCovered}

-- the source of a pin is covered, if there is one
abbrev pub IsSourceCovered : Circuit → List Entry → Option Point → Type 0
IsSourceCovered c es None = Unit {0}
IsSourceCovered c es (Some x) = IsCovered c es x
