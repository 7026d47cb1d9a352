-- The lines so far.
use Rattle.std.proofs.Common.{◌≡◌, ℕ, ◌+◌, ◌<◌, ◌≤◌, List, [], ◌∷◌, ◌++◌, length, map, Option, Some, None, refl, sym, ap, subst, ◌∙◌, append_assoc, length-append, arith, inl, inr, ◌⊎◌}
use Rattle.std.proofs.lemmas.List.{append-nil}
use Rattle.texts.specs.Text.{lines}
use Rattle.texts.specs.declared.line_faults.causes.LineFault.{LineFault}
use Rattle.texts.specs.line_faults.Faults.{at_line, at_no_line, fault_at, first_fault}

-- the lines in front of the rest have been read
pub record Progress {L C R : Type 0} (cause_of : List L → L → Option C) (has_read : List L → R → Type 0) (line_of : List ℕ → L) (text : List ℕ) (r : R) (number : ℕ) (rest : List ℕ) : Type 0 where
  pub before : List L
  pub read : has_read before r
  pub count : length before ≡ number
  pub whole : before ++ map line_of (lines rest) ≡ map line_of (lines text)
  pub so_far : first_fault cause_of before (map line_of (lines rest)) ≡ first_fault cause_of [] (map line_of (lines text))
  pub room : number + length rest ≤ length text

pub begun : {L C R : Type 0} (cause_of : List L → L → Option C) (has_read : List L → R → Type 0) (line_of : List ℕ → L) (text : List ℕ) (r : R) → has_read [] r → Progress cause_of has_read line_of text r 0 text
begun cause_of has_read line_of text r read = record { before = []; read = read; count = refl; whole = refl; so_far = refl; room = omega arith }

-- after one more line
pub advanced : {L C R : Type 0} (cause_of : List L → L → Option C) (has_read : List L → R → Type 0) (line_of : List ℕ → L) (text : List ℕ) (r new : R) (number : ℕ) (rest bytes later : List ℕ) (p : Progress cause_of has_read line_of text r number rest)
    → lines rest ≡ bytes ∷ lines later → length later < length rest → (cause_of p.before (line_of bytes) ≡ None) × has_read (p.before ++ line_of bytes ∷ []) new → Progress cause_of has_read line_of text new (number + 1) later
advanced {L} {C} {R} cause_of has_read line_of text r new number rest bytes later p cut shorter step =
    let line = line_of bytes in
    let later_lines = map line_of (lines later) in
    let front : map line_of (lines rest) ≡ line ∷ later_lines = ap (map line_of) cut in
    let faults : first_fault cause_of p.before (line ∷ later_lines) ≡ first_fault cause_of (p.before ++ line ∷ []) later_lines = ap (λ (o : Option C). fault_at o (length p.before + 1) (first_fault cause_of (p.before ++ line ∷ []) later_lines)) step.0 in
    record {
      before = p.before ++ line ∷ [];
      read = step.1;
      count = omega (arith, length-append p.before (line ∷ []), p.count);
      whole = append_assoc p.before (line ∷ []) later_lines ∙ ap (λ (ls : List L). p.before ++ ls) (sym front) ∙ p.whole;
      so_far = sym faults ∙ ap (first_fault cause_of p.before) (sym front) ∙ p.so_far;
      room = omega (arith, p.room, shorter);
    }

at_fault : {C : Type 0} (fault : LineFault C) (cause : Option C) (line : ℕ) (later : Option (LineFault C)) → cause ≡ Some fault.cause → line ≡ fault.line → fault_at cause line later ≡ Some fault
at_fault {C} fault cause line later is at = ap (λ (o : Option C). fault_at o line later) is ∙ ap (λ (n : ℕ). Some (at_line n fault.cause)) at

-- where the next line is refused
pub refused : {L C R : Type 0} (memory : C) (cause_of : List L → L → Option C) (has_read : List L → R → Type 0) (line_of : List ℕ → L) (text : List ℕ) (r : R) (number : ℕ) (rest bytes later : List ℕ) (fault : LineFault C) (p : Progress cause_of has_read line_of text r number rest)
    → lines rest ≡ bytes ∷ lines later → (fault ≡ at_no_line memory) ⊎ (cause_of p.before (line_of bytes) ≡ Some fault.cause) × (fault.line ≡ number + 1)
    → (fault ≡ at_no_line memory) ⊎ (first_fault cause_of [] (map line_of (lines text)) ≡ Some fault)
refused memory cause_of has_read line_of text r number rest bytes later fault p cut (inl gone) = inl gone
refused memory cause_of has_read line_of text r number rest bytes later fault p cut (inr at) =
    let line_is : length p.before + 1 ≡ fault.line = omega (arith, p.count, at.1) in
    inr (sym p.so_far ∙ ap (λ ls. first_fault cause_of p.before (map line_of ls)) cut ∙ at_fault fault (cause_of p.before (line_of bytes)) (length p.before + 1) (first_fault cause_of (p.before ++ line_of bytes ∷ []) (map line_of (lines later))) at.0 line_is)

-- after the last line
pub ended : {L C R : Type 0} (cause_of : List L → L → Option C) (has_read : List L → R → Type 0) (line_of : List ℕ → L) (text : List ℕ) (r : R) (number : ℕ) (rest : List ℕ) → Progress cause_of has_read line_of text r number rest → length rest ≡ 0
    → (first_fault cause_of [] (map line_of (lines text)) ≡ None) × has_read (map line_of (lines text)) r
unfolding lines
ended {L} cause_of has_read line_of text r number [] p h =
    let whole : p.before ≡ map line_of (lines text) = sym (append-nil p.before) ∙ p.whole in
    (sym p.so_far, subst (λ (l : List L). has_read l r) whole p.read)
ended cause_of has_read line_of text r number (b ∷ rest) p h = absurd (omega arith)
