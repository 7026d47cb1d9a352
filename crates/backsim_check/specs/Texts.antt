-- The lines that are written.
use Rattle.std.specs.Prelude.{ℕ, List, ◌++◌, codes, decimal}
use Rattle.gate_values.specs.declared.Value.{Value}
use Rattle.texts.specs.fields.Spelling.{field}
use Rattle.why_proofs.specs.Spelling.{last_field}

abbrev pub usage : List ℕ
usage = codes "usage: backsim_check NETLIST TIMING STIMULUS PROOF\n"

-- yes NAME T V
abbrev pub yes_line : List ℕ → ℕ → Value → List ℕ
yes_line name time v = codes "yes " ++ (name ++ (field time ++ last_field v))

abbrev pub no_line : ℕ → List ℕ
no_line n = codes "no line " ++ (decimal n ++ codes "\n")

abbrev pub bad_line : ℕ → List ℕ
bad_line n = codes "bad line " ++ (decimal n ++ codes "\n")

abbrev pub too_long : List ℕ
too_long = codes "refused proof too long\n"
