-- What follows for every proof, whoever wrote it.
use Rattle.std.specs.Prelude.{◌≡◌, ℕ, ◌<◌, List, IfSome, slice_get}
use Rattle.circuit_meaning.specs.Circuit.{Circuit, IsCircuit}
use Rattle.circuit_meaning.specs.Forward.{value}
use Rattle.circuit_meaning.specs.Cells.{cell_at, point_at}
use Rattle.valid_intervals.specs.declared.SignalCell.{SignalCell}
use Rattle.design.specs.Joined.{Joined}
use Rattle.why_proofs.specs.Spelling.{Proof, text_of, IsProof}
use Rattle.why_proofs.specs.Justified.{AreJustified, IsJustifiedProof}
use Rattle.why_proofs.specs.Verdicts.{IsVerdict}
use Rattle.why_proofs.specs.declared.checker.Checked.{Checked}

-- a line states the cell of its signal at the time at which it begins
abbrev pub IsTrueLine : Circuit → SignalCell → Type 0
IsTrueLine c x = x.cell ≡ cell_at c (point_at x.signal x.cell.span.start)

-- justified lines state cells of the circuit
abbrev pub JustifiedLinesAreTrue : Type 0
JustifiedLinesAreTrue = (c : Circuit) → IsCircuit c → (lines : List SignalCell) (n : ℕ) → AreJustified c lines n → (k : ℕ) → k < n → IfSome (slice_get lines k) (IsTrueLine c)

-- what a justified proof claims is the value of forward simulation
abbrev pub JustifiedProofsAreTrue : Type 0
JustifiedProofsAreTrue = (d : Joined) → IsCircuit d.circuit → (p : Proof) (s : ℕ) → IsJustifiedProof d p s → value d.circuit s p.time ≡ p.value

-- no text is that of two proofs
abbrev pub OneProof : Type 0
OneProof = (p q : Proof) → IsProof p → IsProof q → text_of p ≡ text_of q → p ≡ q

-- one answer is right of a text: each comes exactly where it is said to
abbrev pub VerdictsAreFixed : Type 0
VerdictsAreFixed = (d : Joined) (text : List ℕ) (r q : Checked) → IsVerdict d text r → IsVerdict d text q → r ≡ q
