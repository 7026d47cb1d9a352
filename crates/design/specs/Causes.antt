-- The numbers of the causes of a refused join.
use Rattle.std.specs.Prelude.{ℕ}
use Rattle.design.specs.declared.fault.JoinCause.{JoinCause}
use Rattle.design.specs.declared.fault.JoinCause.TheVariants.{UnknownName, NotGate, NotInput, NotFlop, PastHorizon, OutOfMemory, NotPin, NoClock}
use Rattle.design.specs.declared.fault.JoinFile.TheVariants.{Timing}
use Rattle.design.specs.declared.fault.JoinFault.{JoinFault}

abbrev pub number_of : JoinCause → ℕ
number_of UnknownName = 1
number_of NotGate = 2
number_of NotInput = 3
number_of NotFlop = 4
number_of PastHorizon = 5
number_of OutOfMemory = 6
number_of NotPin = 8
number_of NoClock = 9

abbrev pub out_of_memory : JoinFault
out_of_memory = record { cause = OutOfMemory; file = Timing; line = 0 }
