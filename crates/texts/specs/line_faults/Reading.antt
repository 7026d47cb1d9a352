-- What a reader of lines answers. Each fact speaks of the cause for want of memory, of the causes of lines, and of when a reader has read some lines.
use Rattle.std.specs.Prelude.{◌≡◌, ℕ, ◌+◌, List, [], ◌∷◌, ◌++◌, length, Option, Some, None, Result, Ok, Err, ◌⊎◌}
use Rattle.texts.specs.declared.line_faults.causes.LineFault.{LineFault}
use Rattle.texts.specs.line_faults.Faults.{at_no_line, first_fault}

-- the reader has read the lines before the one with this number
abbrev pub IsNext : {L R : Type 0} → (List L → R → Type 0) → R → ℕ → Type 0
IsNext {L} has_read r number = (before : List L) × has_read before r × (length before + 1 ≡ number)

-- an answer to a line with this number: the line has no cause and has been read, or it has the cause that is told
abbrev pub Steps : {C : Type 0} → C → Option C → Type 0 → ℕ → Result (Unit {0}) (LineFault C) → Type 0
Steps memory cause read number (Ok x) = (cause ≡ None) × read
Steps memory cause read number (Err fault) = (fault ≡ at_no_line memory) ⊎ (cause ≡ Some fault.cause) × (fault.line ≡ number)

-- so a reader answers to a line, whatever lines it has read before it
abbrev pub TakesLine : {L C R : Type 0} → C → (List L → L → Option C) → (List L → R → Type 0) → R → R → ℕ → L → Result (Unit {0}) (LineFault C) → Type 0
TakesLine {L} memory cause_of has_read old new number line answer =
    (before : List L) → has_read before old → length before + 1 ≡ number → Steps memory (cause_of before line) (has_read (before ++ line ∷ []) new) number answer

-- an answer to all lines of a file: none is at fault and all have been read, or the first at fault is told
abbrev pub ReadsLines : {L C R : Type 0} → C → (List L → L → Option C) → (List L → R → Type 0) → List L → Result R (LineFault C) → Type 0
ReadsLines memory cause_of has_read all (Ok r) = (first_fault cause_of [] all ≡ None) × has_read all r
ReadsLines memory cause_of has_read all (Err fault) = (fault ≡ at_no_line memory) ⊎ (first_fault cause_of [] all ≡ Some fault)
