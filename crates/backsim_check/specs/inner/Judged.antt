-- How a proof comes to its verdict: what reading the four files comes to, and then judging.
use Rattle.std.specs.Prelude.{◌≡◌, ◌≤◌, ◌<◌, ⊤, ℕ, List, Some, Result, Ok, IfOk, IfErr, MatchResult, ◌⊎◌, Err}
use Rattle.backsim_io.specs.State.{FilesState}
use Rattle.backsim_io.specs.declared.transfer.ReadFile.{ReadFile}
use Rattle.backsim_io.specs.declared.transfer.ReadFile.TheVariants as reads
use Rattle.circuit_files.specs.Changes.{Opened, OpenedUpTo}
use Rattle.circuit_files.specs.Files.{design_of_files}
use Rattle.circuit_files.specs.Texts.{refusal_text}
use Rattle.circuit_files.specs.declared.stop.FilesStop.{FilesStop}
use Rattle.circuit_files.specs.declared.stop.FilesStop.TheVariants as files
use Rattle.backsim_check.specs.Answers.{IsShort, IsYes, IsNo, IsBad, IsTrue, IsProved, IsUnproved, IsTrueOf, WritesNothing}
use Rattle.backsim_check.specs.Changes.{MissingOf, UnreadOf, ChangesFiles}
use Rattle.backsim_check.specs.Given.{Names, Given, AreGiven, AreAll}
use Rattle.backsim_check.specs.Texts.{too_long}
use Rattle.backsim_check.specs.Refused.{IsRefused, IfRefused, EndsRefused}
use Rattle.backsim_check.specs.declared.reading.Inputs.{Inputs}
use Rattle.backsim_check.specs.declared.reading.Refusal.{Refusal}
use Rattle.backsim_check.specs.declared.reading.Refusal.TheVariants.{OfFiles, ProofTooLong}
use Rattle.backsim_check.specs.declared.reading.CheckStop.{CheckStop}
use Rattle.design.specs.Joined.{Joined}
use Rattle.backsim_check.specs.declared.judging.Verdict.{Verdict}
use Rattle.backsim_check.specs.declared.reading.CheckStop.TheVariants as stops
use Rattle.backsim_check.specs.declared.status.CheckStatus.{CheckStatus}
use Rattle.backsim_check.specs.declared.status.CheckStatus.TheVariants.{Yes, Refused, ReadFault, FileFault, OutOfMemory, No}

-- the stop of the three files
abbrev pub stop_of : FilesStop → CheckStop
stop_of (files.Refused refusal) = stops.Refused (OfFiles refusal)
stop_of (files.NotOpened file) = stops.NotOpened
stop_of (files.Unread file) = stops.Unread
stop_of files.OutOfMemory = stops.OutOfMemory

-- the stop of the proof
abbrev pub proof_stop : ReadFile → CheckStop
proof_stop reads.NotOpened = stops.NotOpened
proof_stop reads.Failed = stops.Unread
proof_stop reads.TooLong = stops.Refused ProofTooLong
proof_stop reads.OutOfMemory = stops.OutOfMemory

-- the line that reports the refusal
abbrev pub line_of : Refusal → List ℕ
line_of (OfFiles refusal) = refusal_text refusal
line_of ProofTooLong = too_long

-- a stop comes only with its cause
abbrev pub StopChanges : FilesState → FilesState → CheckStop → Type 0
StopChanges old new stops.NotOpened = MissingOf 4 old new
StopChanges old new stops.Unread = UnreadOf 4 old new
StopChanges old new _ = OpenedUpTo 4 old new

-- if these four files are refused, the refusal is right
abbrev pub RefusesRight : Given → List ℕ → CheckStop → Type 0
RefusesRight given proof (stops.Refused refusal) = IsRefused given proof (line_of refusal)
RefusesRight given proof _ = ⊤

-- the first n files are refused with this line, unless a fault at one of them or a lack of memory came before; no later file was opened
abbrev pub StopsFirst : ℕ → List ℕ → (started : ℕ) → CheckStop → Type 0
StopsFirst n line started (stops.Refused refusal) = (line_of refusal ≡ line) × (started ≤ n)
StopsFirst n line started stops.NotOpened = started < n
StopsFirst n line started _ = started ≤ n

-- The design of the first three files and the bytes of the proof were read, or the reading stopped.
pub record ReadsAll (names : Names) (old new : FilesState) (result : Result Inputs CheckStop) : Type 0 where
  pub design : (given : Given) → AreGiven old.bytes names given
      → IfOk result (λ inputs. design_of_files given.netlist given.timing given.stimulus ≡ Ok inputs.design)
  pub text : (proof : List ℕ) → old.bytes names.proof ≡ Some proof → IfOk result (λ inputs. inputs.text.items ≡ proof)
  pub short : IfOk result (λ inputs. IsShort inputs.text.items)
  pub right : (given : Given) (proof : List ℕ) → AreAll old.bytes names given proof → IfErr result (RefusesRight given proof)
  pub refused : IfRefused old.bytes names (λ n line. MatchResult result (λ inputs. ⊥) (StopsFirst n line new.started))
  pub changes : MatchResult result (λ inputs. Opened 4 old new) (StopChanges old new)

abbrev pub IsOther : Joined → (text line : List ℕ) → Type 0
IsOther d text line = IsNo d text line ⊎ IsBad text line

-- a status and a line that are right for a text
abbrev pub Gives : Joined → List ℕ → CheckStatus → List ℕ → Type 0
Gives d text Yes line = IsYes d text line × IsTrue d line
Gives d text No line = IsOther d text line
Gives d text _ line = ⊥

-- the verdict on a text, unless there is no memory for it
abbrev pub IsJudged : Joined → List ℕ → Result Verdict CheckStatus → Type 0
IsJudged d text result = MatchResult result (λ verdict. Gives d text verdict.status verdict.line.items) (λ status. status ≡ OutOfMemory)

-- where no proof was read, a refusal is the verdict
abbrev pub EndsStopped : CheckStop → Result Verdict CheckStatus → Type 0
EndsStopped (stops.Refused refusal) result =
    MatchResult result (λ verdict. (verdict.status ≡ Refused) × (verdict.line.items ≡ line_of refusal)) (λ status. status ≡ OutOfMemory)
EndsStopped stops.NotOpened result = result ≡ Err FileFault
EndsStopped stops.Unread result = result ≡ Err ReadFault
EndsStopped stops.OutOfMemory result = result ≡ Err OutOfMemory

-- the line of the answer to four files, with its status
abbrev pub IsDue : Given → (proof : List ℕ) → CheckStatus → (line : List ℕ) → Type 0
IsDue given proof Yes line = IsProved given proof line
IsDue given proof No line = IsUnproved given proof line
IsDue given proof Refused line = IsRefused given proof line
IsDue given proof _ line = ⊥

-- a status with which a line is written
abbrev pub HasLine : CheckStatus → Type 0
HasLine Yes = ⊤
HasLine No = ⊤
HasLine Refused = ⊤
HasLine _ = ⊥

-- the proof in the last of the four files of these names is judged
pub record Judges (names : Names) (old new : FilesState) (result : Result Verdict CheckStatus) : Type 0 where
  pub holds : (given : Given) → AreGiven old.bytes names given → IfOk result (λ verdict. verdict.status ≡ Yes → IsTrueOf given verdict.line.items)
  pub due : (given : Given) (proof : List ℕ) → AreAll old.bytes names given proof
      → IfOk result (λ verdict. IsDue given proof verdict.status verdict.line.items)
  pub ends : MatchResult result (λ verdict. HasLine verdict.status) WritesNothing
  pub refused : IfRefused old.bytes names (λ n line. MatchResult result
      (λ verdict. (verdict.status ≡ Refused) × (verdict.line.items ≡ line) × (new.started ≤ n))
      (EndsRefused n new.started))
  pub changes : MatchResult result (λ verdict. ChangesFiles old new verdict.status) (ChangesFiles old new)
