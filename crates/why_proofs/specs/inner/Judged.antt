-- What the checker answers of a proof that was read.
use Rattle.std.specs.Prelude.{◌≡◌}
use Rattle.design.specs.Joined.{Joined}
use Rattle.why_proofs.specs.Spelling.{Proof}
use Rattle.why_proofs.specs.Justified.{IsJustifiedProof}
use Rattle.why_proofs.specs.Verdicts.{IsUnjustified}
use Rattle.why_proofs.specs.declared.checker.Checked.{Checked}
use Rattle.why_proofs.specs.declared.checker.Checked.TheVariants.{Yes, No, Bad}

abbrev pub IsJudged : Joined → Proof → Checked → Type 0
IsJudged d p (Yes signal time v) = IsJustifiedProof d p signal × (time ≡ p.time) × (v ≡ p.value)
IsJudged d p (No line) = IsUnjustified d p line
IsJudged d p (Bad line) = ⊥
