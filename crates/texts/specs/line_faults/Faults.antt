-- The first line at fault.
use Rattle.std.specs.Prelude.{◌≡◌, ℕ, ◌+◌, List, [], ◌∷◌, ◌++◌, length, Option, Some, None, Result, Ok, Err, ◌⊎◌}
use Rattle.texts.specs.declared.line_faults.causes.LineFault.{LineFault}

-- the fault with this cause at this line
abbrev pub at_line : {C : Type 0} → ℕ → C → LineFault C
at_line line cause = record { cause = cause; line = line }

-- a fault of no line, as where memory ran out
abbrev pub at_no_line : {C : Type 0} → C → LineFault C
at_no_line cause = at_line 0 cause

-- a cause on a line, else a later line's fault
abbrev pub fault_at : {C : Type 0} → Option C → ℕ → Option (LineFault C) → Option (LineFault C)
fault_at None line later = later
fault_at (Some cause) line later = Some (at_line line cause)

-- the first line at fault among the later ones, where each line's cause is asked after all lines before it
abbrev pub first_fault : {L C : Type 0} → (List L → L → Option C) → List L → List L → Option (LineFault C)
first_fault cause_of before [] = None
first_fault cause_of before (line ∷ later) = fault_at (cause_of before line) (length before + 1) (first_fault cause_of (before ++ line ∷ []) later)

-- what a file says, unless a line is at fault
abbrev pub unless_fault : {A C : Type 0} → Option (LineFault C) → Result A (LineFault C) → Result A (LineFault C)
unless_fault None said = said
unless_fault (Some fault) said = Err fault

-- a call answers what a file says, unless memory ran out, for which there is this cause
abbrev pub Answers : {A C : Type 0} → C → Result A (LineFault C) → Result A (LineFault C) → Type 0
Answers memory (Ok content) said = said ≡ Ok content
Answers memory (Err fault) said = (fault ≡ at_no_line memory) ⊎ (said ≡ Err fault)
