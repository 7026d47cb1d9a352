-- Where a text stops being that of a proof.
use Rattle.std.specs.Prelude.{◌≡◌, ℕ, zero, suc, ◌≤◌, ◌<◌, ◌==◌, if◌then◌else◌, List, [], ◌∷◌, ◌++◌, Option, Some, None, option_map}
use Rattle.why_proofs.specs.Spelling.{Proof, text_of, IsProof}

-- the first n lines of a text, each with its line feed; none where there are fewer
unfoldable pub first_lines : ℕ → List ℕ → Option (List ℕ)
first_lines zero text = Some []
first_lines (suc n) [] = None
first_lines (suc n) (b ∷ text) = option_map (λ rest. b ∷ rest) (if b == 10 then first_lines n text else first_lines (suc n) text)

-- the text of some proof begins with these bytes
abbrev pub IsBegun : List ℕ → Type 0
IsBegun bytes = (p : Proof) × (rest : List ℕ) × IsProof p × (text_of p ≡ bytes ++ rest)

-- the text has n lines, and some proof's text begins with them
abbrev pub GoesOn : ℕ → List ℕ → Type 0
GoesOn n text = (bytes : List ℕ) × (first_lines n text ≡ Some bytes) × IsBegun bytes

-- The text is not that of a proof, and this line, counted from 1, is the first at which no proof's text goes on. Where the text
-- ends early or its last line has no line feed, it is the line after the last whole one; where it goes on after `end`, the line after that.
pub record IsBroken (text : List ℕ) (line : ℕ) : Type 0 where
  pub none : (p : Proof) → IsProof p → text ≡ text_of p → ⊥
  pub some : 1 ≤ line
  pub before : (n : ℕ) → n < line → GoesOn n text
  pub there : GoesOn line text → ⊥
