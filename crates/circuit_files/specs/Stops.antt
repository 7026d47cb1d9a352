-- What holds if the three files make no design.
use Rattle.std.specs.Prelude.{◌≡◌, ◌<◌, ◌≤◌, ⊤, ℕ, Result, Ok, Err}
use Rattle.circuit_files.specs.declared.refusal.CircuitFile.{CircuitFile}
use Rattle.circuit_files.specs.declared.refusal.CircuitFile.TheVariants.{Netlist, Timing, Stimulus}
use Rattle.circuit_files.specs.declared.refusal.FileRefusal.{FileRefusal}
use Rattle.circuit_files.specs.declared.stop.FilesStop.{FilesStop}
use Rattle.circuit_files.specs.declared.stop.FilesStop.TheVariants.{Refused, NotOpened, Unread, OutOfMemory}

-- the number of files read before this one
abbrev pub before : CircuitFile → ℕ
before Netlist = 0
before Timing = 1
before Stimulus = 2

-- the result is this one, unless a fault or a lack of memory came before
abbrev pub IsAnswerOf : {A : Type 0} → Result A FilesStop → Result A FileRefusal → Type 0
IsAnswerOf (Ok a) said = said ≡ Ok a
IsAnswerOf (Err (Refused refusal)) said = said ≡ Err refusal
IsAnswerOf (Err stop) said = ⊤

-- If the first n files are refused, the result is their refusal, unless a fault at one of them or a lack of memory came before. No later
-- file was opened, and nothing is said of their content.
abbrev pub AnswersFirst : {A B : Type 0} → ℕ → (started : ℕ) → Result A FilesStop → Result B FileRefusal → Type 0
AnswersFirst n started result (Ok b) = ⊤
AnswersFirst n started (Ok a) (Err refusal) = ⊥
AnswersFirst n started (Err (Refused given)) (Err refusal) = (given ≡ refusal) × (started ≤ n)
AnswersFirst n started (Err (NotOpened file)) (Err refusal) = before file < n
AnswersFirst n started (Err (Unread file)) (Err refusal) = before file < n
AnswersFirst n started (Err OutOfMemory) (Err refusal) = started ≤ n

-- a stop without a fault
abbrev pub IsQuiet : FilesStop → Type 0
IsQuiet (Refused refusal) = ⊤
IsQuiet (NotOpened file) = ⊥
IsQuiet (Unread file) = ⊥
IsQuiet OutOfMemory = ⊤

-- a stop that is a refusal is this one
abbrev pub RefusesOnly : FileRefusal → FilesStop → Type 0
RefusesOnly refusal (Refused given) = given ≡ refusal
RefusesOnly refusal (NotOpened file) = ⊤
RefusesOnly refusal (Unread file) = ⊤
RefusesOnly refusal OutOfMemory = ⊤

-- the stop after a reader's fault with this refusal, unless the fault is a lack of memory
pub record IsStopOf (refusal : FileRefusal) (no_memory : Type 0) (stop : FilesStop) : Type 0 where
  pub quiet : IsQuiet stop
  pub refuses : RefusesOnly refusal stop
  pub memory : no_memory → stop ≡ OutOfMemory
