-- The line that reports a refusal.
use Rattle.std.specs.Prelude.{ℕ, List, ◌++◌, codes}
use Rattle.std.specs.Fmt.{decimal}
use Rattle.circuit_files.specs.declared.refusal.CircuitFile.{CircuitFile}
use Rattle.circuit_files.specs.declared.refusal.CircuitFile.TheVariants.{Netlist, Timing, Stimulus}
use Rattle.circuit_files.specs.declared.refusal.FileRefusal.{FileRefusal}
use Rattle.circuit_files.specs.declared.refusal.FileRefusal.TheVariants.{TooLong, Line}

abbrev pub name_of : CircuitFile → List ℕ
name_of Netlist = codes "netlist"
name_of Timing = codes "timing"
name_of Stimulus = codes "stimulus"

-- `refused FILE too long`, or `refused FILE line L cause C`
abbrev pub refusal_text : FileRefusal → List ℕ
refusal_text (TooLong file) = codes "refused " ++ (name_of file ++ codes " too long\n")
refusal_text (Line file line cause) =
    codes "refused " ++ (name_of file ++ (codes " line " ++ (decimal line ++ (codes " cause " ++ (decimal cause ++ codes "\n")))))
