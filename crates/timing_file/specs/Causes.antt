-- The causes of a refusal.
use Rattle.std.specs.Prelude.{ℕ}
use Rattle.texts.specs.declared.line_faults.causes.LineFault.{LineFault}
use Rattle.texts.specs.line_faults.Faults.{at_no_line}
use Rattle.timing_file.specs.declared.TimingCause.{TimingCause}
use Rattle.timing_file.specs.declared.TimingCause.TheVariants.{Syntax, Range, Twice, OutOfMemory}

-- the number that is printed for a cause
abbrev pub number_of : TimingCause → ℕ
number_of Syntax = 1
number_of Range = 2
number_of Twice = 3
number_of OutOfMemory = 4

abbrev pub out_of_memory : LineFault TimingCause
out_of_memory = at_no_line OutOfMemory
