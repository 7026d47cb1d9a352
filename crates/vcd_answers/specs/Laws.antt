-- A law of dumps.
use Rattle.std.specs.Prelude.{◌≡◌, List}
use Rattle.vcd_answers.specs.Wires.{Wire, AreWires}
use Rattle.vcd_answers.specs.Dumps.{vcd_of}

-- no text is the dump of two lists of wires
abbrev pub OneDump : Type 0
OneDump = (a b : List Wire) → AreWires a → AreWires b → vcd_of a ≡ vcd_of b → a ≡ b
