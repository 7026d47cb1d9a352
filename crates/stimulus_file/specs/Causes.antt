-- The causes of a refusal.
use Rattle.std.specs.Prelude.{ℕ}
use Rattle.texts.specs.declared.line_faults.causes.LineFault.{LineFault}
use Rattle.texts.specs.line_faults.Faults.{at_no_line}
use Rattle.stimulus_file.specs.declared.StimulusCause.{StimulusCause}
use Rattle.stimulus_file.specs.declared.StimulusCause.TheVariants.{Syntax, NoHorizon, Range, Twice, OutOfMemory}

-- the number that is printed for a cause
abbrev pub number_of : StimulusCause → ℕ
number_of Syntax = 1
number_of NoHorizon = 2
number_of Range = 3
number_of Twice = 4
number_of OutOfMemory = 5

abbrev pub out_of_memory : LineFault StimulusCause
out_of_memory = at_no_line OutOfMemory
