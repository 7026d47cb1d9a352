-- The answer to a proof that is not too long, if three files make a design.
use Rattle.std.specs.Prelude.{◌≡◌, ◌≤◌, ◌⊎◌, ⊤, ℕ, List, length, position, Some, Ok}
use Rattle.std.specs.Str.{bytes_eq}
use Rattle.backsim_io.specs.Counts.{Grows, GrowsByPrefix}
use Rattle.gate_values.specs.declared.Value.{Value}
use Rattle.circuit_meaning.specs.Forward.{value}
use Rattle.design.specs.Joined.{Joined}
use Rattle.circuit_files.specs.Files.{design_of_files}
use Rattle.why_proofs.specs.Spelling.{Proof}
use Rattle.why_proofs.specs.Broken.{IsBroken}
use Rattle.why_proofs.specs.Justified.{IsJustifiedProof}
use Rattle.why_proofs.specs.Verdicts.{IsTextOf, IsUnjustified}
use Rattle.backsim_check.specs.Given.{Given}
use Rattle.backsim_check.specs.Seen.{Output}
use Rattle.backsim_check.specs.Texts.{yes_line, no_line, bad_line}
use Rattle.backsim_check.specs.declared.status.CheckStatus.{CheckStatus}
use Rattle.backsim_check.specs.declared.status.CheckStatus.TheVariants.{Yes, Words, Refused, ReadFault, FileFault, OutOfMemory, No}

-- On a design and a text, whoever wrote it.

-- the text is that of a justified proof, and the line says what it claims
pub record IsYes (d : Joined) (text line : List ℕ) : Type 0 where
  pub proof : Proof
  pub signal : ℕ
  pub spelled : IsTextOf text proof
  pub justified : IsJustifiedProof d proof signal
  pub line_is : line ≡ yes_line proof.name proof.time proof.value

-- the text is that of a proof, and the line reports its first line that is not justified
pub record IsNo (d : Joined) (text line : List ℕ) : Type 0 where
  pub proof : Proof
  pub number : ℕ
  pub spelled : IsTextOf text proof
  pub unjustified : IsUnjustified d proof number
  pub line_is : line ≡ no_line number

-- the text is that of no proof, and the line reports the first line that continues no proof
pub record IsBad (text line : List ℕ) : Type 0 where
  pub number : ℕ
  pub broken : IsBroken text number
  pub line_is : line ≡ bad_line number

-- the line states the value of a signal of the design at a time in forward simulation
pub record IsTrue (d : Joined) (line : List ℕ) : Type 0 where
  pub name : List ℕ
  pub time : ℕ
  pub v : Value
  pub signal : ℕ
  pub line_is : line ≡ yes_line name time v
  pub named : position (bytes_eq name) d.netlist.names ≡ Some signal
  pub within : time ≤ d.circuit.horizon
  pub holds : value d.circuit signal time ≡ v

-- On four files.

-- the three files make a design, and this holds of it
pub record OfDesign (given : Given) (says : Joined → Type 0) : Type 0 where
  pub design : Joined
  pub accepted : design_of_files given.netlist given.timing given.stimulus ≡ Ok design
  pub holds : says design

-- a proof has at most 268,435,456 bytes
abbrev pub IsShort : List ℕ → Type 0
IsShort proof = length proof ≤ 268435456

abbrev pub IsProved : Given → (proof line : List ℕ) → Type 0
IsProved given proof line = IsShort proof × OfDesign given (λ d. IsYes d proof line)

abbrev pub IsUnproved : Given → (proof line : List ℕ) → Type 0
IsUnproved given proof line = IsShort proof × OfDesign given (λ d. IsNo d proof line ⊎ IsBad proof line)

-- the line is true in the design of the three files, whoever wrote the proof
abbrev pub IsTrueOf : Given → (line : List ℕ) → Type 0
IsTrueOf given line = OfDesign given (λ d. IsTrue d line)

-- What is written.

-- a whole line of which this holds
pub record Wrote (such : List ℕ → Type 0) (out new_out : Output) : Type 0 where
  pub line : List ℕ
  pub is : such line
  pub written : Grows out.written new_out.written line

-- at most a part of such a line
pub record WrotePart (such : List ℕ → Type 0) (out new_out : Output) : Type 0 where
  pub line : List ℕ
  pub is : such line
  pub written : GrowsByPrefix out.written new_out.written line

-- The end of a call.

-- by a fault or for lack of memory
abbrev pub IsCut : CheckStatus → Type 0
IsCut Yes = ⊥
IsCut Words = ⊥
IsCut Refused = ⊥
IsCut No = ⊥
IsCut _ = ⊤

-- with this status, unless a fault or a lack of memory ends the call
abbrev pub EndsAs : CheckStatus → CheckStatus → Type 0
EndsAs due status = (status ≡ due) ⊎ IsCut status

-- by a fault of the files or for lack of memory
abbrev pub WritesNothing : CheckStatus → Type 0
WritesNothing ReadFault = ⊤
WritesNothing FileFault = ⊤
WritesNothing OutOfMemory = ⊤
WritesNothing _ = ⊥
