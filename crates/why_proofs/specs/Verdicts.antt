-- What a checker answers of a text.
use Rattle.std.specs.Prelude.{◌≡◌, ℕ, ◌+◌, ◌<◌, ◌⊎◌, List, length}
use Rattle.circuit_meaning.specs.Forward.{value}
use Rattle.design.specs.Joined.{Joined}
use Rattle.why_proofs.specs.Spelling.{Proof, text_of, IsProof}
use Rattle.why_proofs.specs.Broken.{IsBroken}
use Rattle.why_proofs.specs.Justified.{IsJustifiedAt, AreJustified, IsClaimed, IsJustifiedProof}
use Rattle.why_proofs.specs.declared.checker.Checked.{Checked}
use Rattle.why_proofs.specs.declared.checker.Checked.TheVariants.{Yes, No, Bad}

-- the text is that of this proof
pub record IsTextOf (text : List ℕ) (p : Proof) : Type 0 where
  pub proof : IsProof p
  pub spelled : text ≡ text_of p

-- the first cell line that the lines above it do not justify
pub record IsFirstUnjustified (d : Joined) (p : Proof) (k : ℕ) : Type 0 where
  pub within : k < length p.cells
  pub above : AreJustified d.circuit p.cells k
  pub not : IsJustifiedAt d.circuit p.cells k → ⊥

-- all cell lines are justified, but not the claim
pub record IsUnclaimed (d : Joined) (p : Proof) : Type 0 where
  pub cells : AreJustified d.circuit p.cells (length p.cells)
  pub not : (s : ℕ) → IsClaimed d p s → ⊥

-- yes: a justified proof, and what it claims
abbrev pub RightYes : Joined → List ℕ → Checked → Type 0
RightYes d text (Yes signal time v) = (p : Proof) × IsTextOf text p × IsJustifiedProof d p signal × (time ≡ p.time) × (v ≡ p.value)
RightYes d text (No line) = Unit {0}
RightYes d text (Bad line) = Unit {0}

-- the first line of the proof that is not justified; the claim stands in line 1, the first cell in line 2
abbrev pub IsUnjustified : Joined → Proof → ℕ → Type 0
IsUnjustified d p line = ((line ≡ 1) × IsUnclaimed d p) ⊎ ((k : ℕ) × (line ≡ k + 2) × IsFirstUnjustified d p k)

-- no: a proof that is not justified
abbrev pub RightNo : Joined → List ℕ → Checked → Type 0
RightNo d text (Yes signal time v) = Unit {0}
RightNo d text (No line) = (p : Proof) × IsTextOf text p × IsUnjustified d p line
RightNo d text (Bad line) = Unit {0}

-- bad: no proof, and the first line at which no proof's text goes on
abbrev pub RightBad : List ℕ → Checked → Type 0
RightBad text (Yes signal time v) = Unit {0}
RightBad text (No line) = Unit {0}
RightBad text (Bad line) = IsBroken text line

-- an answer that is right of a text
pub record IsVerdict (d : Joined) (text : List ℕ) (r : Checked) : Type 0 where
  pub yes : RightYes d text r
  pub no : RightNo d text r
  pub bad : RightBad text r

-- where the answer is yes, the claim holds in forward simulation
abbrev pub IsTrueYes : Joined → Checked → Type 0
IsTrueYes d (Yes signal time v) = value d.circuit signal time ≡ v
IsTrueYes d (No line) = Unit {0}
IsTrueYes d (Bad line) = Unit {0}
