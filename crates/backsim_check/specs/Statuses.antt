-- The exit statuses of the process.
use Rattle.std.specs.Prelude.{ℕ}
use Rattle.backsim_check.specs.declared.status.CheckStatus.{CheckStatus}
use Rattle.backsim_check.specs.declared.status.CheckStatus.TheVariants.{Yes, Words, Refused, ReadFault, WriteFault, FileFault, OutOfMemory, No}

abbrev pub number_of : CheckStatus → ℕ
number_of Yes = 0
number_of Words = 1
number_of Refused = 2
number_of ReadFault = 3
number_of WriteFault = 4
number_of FileFault = 5
number_of OutOfMemory = 6
number_of No = 7
