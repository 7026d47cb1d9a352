-- The text of a proof. Words are divided by one blank, and every line ends with a line feed.
use Rattle.std.specs.Prelude.{◌≡◌, ℕ, true, List, [], ◌∷◌, ◌++◌, flat_map, codes}
use Rattle.std.specs.List.{AllByRecursion}
use Rattle.gate_values.specs.declared.Value.{Value}
use Rattle.gate_values.specs.Spelling.{byte_of_value}
use Rattle.texts.specs.fields.Spelling.{field, IsNumber}
use Rattle.texts.specs.Text.{is_name}
use Rattle.valid_intervals.specs.declared.SignalCell.{SignalCell}

-- a value after a blank, and the end of the line
abbrev pub last_field : Value → List ℕ
last_field v = 32 ∷ byte_of_value v ∷ 10 ∷ []

-- why NAME T V
abbrev pub claim_line : List ℕ → ℕ → Value → List ℕ
claim_line name time v = codes "why " ++ (name ++ (field time ++ last_field v))

-- cell SIGNAL START END VALUE
abbrev pub cell_line : SignalCell → List ℕ
cell_line x = codes "cell" ++ (field x.signal ++ (field x.cell.span.start ++ (field x.cell.span.stop ++ last_field x.cell.value)))

-- the text of a proof
abbrev pub proof_lines : List ℕ → ℕ → Value → List SignalCell → List ℕ
proof_lines name time v cells = claim_line name time v ++ (flat_map cell_line cells ++ codes "end\n")

-- what a proof says: the signal of this name has this value at this time, since these are cells of the signals with these numbers
pub record Proof : Type 0 where
  pub name : List ℕ
  pub time : ℕ
  pub value : Value
  pub cells : List SignalCell

abbrev pub text_of : Proof → List ℕ
text_of p = proof_lines p.name p.time p.value p.cells

-- the numbers of a cell line are within their limits; whether there is such a cell is another matter
pub record IsLine (x : SignalCell) : Type 0 where
  pub signal : IsNumber x.signal
  pub start : IsNumber x.cell.span.start
  pub stop : IsNumber x.cell.span.stop

-- a proof that can be written down
pub record IsProof (p : Proof) : Type 0 where
  pub name : is_name p.name ≡ true
  pub time : IsNumber p.time
  pub cells : AllByRecursion IsLine p.cells
