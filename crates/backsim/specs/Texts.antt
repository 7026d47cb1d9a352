-- What the program prints beside replies.
use Rattle.std.specs.Prelude.{ℕ, List, [], ◌∷◌, ◌++◌, codes}
use Rattle.circuit_files.specs.Texts.{name_of}
use Rattle.backsim.specs.declared.status.Input.{Input}
use Rattle.backsim.specs.declared.status.Input.TheVariants as inputs
use Rattle.backsim.specs.declared.status.Output.{Output}
use Rattle.backsim.specs.declared.status.Output.TheVariants as outputs
use Rattle.backsim.specs.declared.status.NamedFile.{NamedFile}
use Rattle.backsim.specs.declared.status.NamedFile.TheVariants as named

-- what is printed where the words are none of the forms
abbrev pub usage : List ℕ
usage =
    codes "usage: backsim NETLIST TIMING STIMULUS JOURNAL [--workers N] [--shards N] [--cells N]" ++ 10
    ∷ codes "       backsim --work N JOURNAL [--workers N]" ++ 10
    ∷ []

-- what a fault was met at

abbrev pub input_name : Input → List ℕ
input_name (inputs.Circuit file) = name_of file
input_name inputs.Script = codes "script"

abbrev pub output_name : Output → List ℕ
output_name outputs.Replies = codes "replies"
output_name outputs.Journal = codes "journal"
output_name outputs.Vcd = codes "vcd"

abbrev pub file_name : NamedFile → List ℕ
file_name (named.Circuit file) = name_of file
file_name named.Journal = codes "journal"
file_name named.Vcd = codes "vcd"

-- the line that tells of a script that is too long
abbrev pub too_long : List ℕ
too_long = codes "refused script too long\n"
