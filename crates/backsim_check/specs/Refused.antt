-- What is refused, and what is written of it.
use Rattle.std.specs.Prelude.{◌≡◌, ◌≤◌, ◌<◌, ◌⊎◌, ⊤, ℕ, List, length, Option, Some, Ok, Err}
use Rattle.backsim_io.specs.Counts.{Grows, GrowsByPrefix}
use Rattle.circuit_files.specs.Files.{netlist_of, first_two, design_of_files}
use Rattle.circuit_files.specs.Texts.{refusal_text}
use Rattle.circuit_files.specs.declared.refusal.FileRefusal.{FileRefusal}
use Rattle.design.specs.Joined.{Joined}
use Rattle.backsim_check.specs.Given.{Names, Given, AreGiven, AreAll}
use Rattle.backsim_check.specs.Seen.{Seen}
use Rattle.backsim_check.specs.Texts.{too_long}
use Rattle.backsim_check.specs.Answers.{OfDesign, IsProved, IsUnproved}
use Rattle.backsim_check.specs.declared.status.CheckStatus.{CheckStatus}
use Rattle.backsim_check.specs.declared.status.CheckStatus.TheVariants.{Yes, Words, Refused, FileFault, No}

-- the three files make no design, and the line says why
pub record AreRefused (given : Given) (line : List ℕ) : Type 0 where
  pub refusal : FileRefusal
  pub refused : design_of_files given.netlist given.timing given.stimulus ≡ Err refusal
  pub line_is : line ≡ refusal_text refusal

-- the three files make a design, and the proof has more than 268,435,456 bytes
pub record IsTooLong (given : Given) (proof line : List ℕ) : Type 0 where
  pub accepted : OfDesign given (λ d. ⊤)
  pub long : 268435456 < length proof
  pub line_is : line ≡ too_long

abbrev pub IsRefused : Given → (proof line : List ℕ) → Type 0
IsRefused given proof line = AreRefused given line ⊎ IsTooLong given proof line

-- the line of one of the three answers
abbrev pub IsAnswer : Given → (proof line : List ℕ) → Type 0
IsAnswer given proof line = IsProved given proof line ⊎ (IsUnproved given proof line ⊎ IsRefused given proof line)

-- If the first n files are refused, the status is 2, or that of a fault at one of them or at the line, or of a lack of memory. No later
-- file was opened.
abbrev pub EndsRefused : ℕ → (started : ℕ) → CheckStatus → Type 0
EndsRefused n started Yes = ⊥
EndsRefused n started Words = ⊥
EndsRefused n started No = ⊥
EndsRefused n started FileFault = started < n
EndsRefused n started _ = started ≤ n

-- The first n files are refused with this line. Under status 2 it was written, otherwise at most a part of it.
pub record Refuses (n : ℕ) (line : List ℕ) (before after : Seen) (status : CheckStatus) : Type 0 where
  pub ends : EndsRefused n after.files.started status
  pub whole : status ≡ Refused → Grows before.out.written after.out.written line
  pub part : GrowsByPrefix before.out.written after.out.written line

-- Where the first files of these names are refused, whatever the later ones hold, this is said of their number and of the line.
pub record IfRefused (bytes : List ℕ → Option (List ℕ)) (names : Names) (says : ℕ → List ℕ → Type 0) : Type 0 where
  pub netlist : (refusal : FileRefusal) (first : List ℕ)
      → bytes names.netlist ≡ Some first → netlist_of first ≡ Err refusal → says 1 (refusal_text refusal)
  pub timing : (refusal : FileRefusal) (first second : List ℕ)
      → bytes names.netlist ≡ Some first → bytes names.timing ≡ Some second → first_two first second ≡ Err refusal → says 2 (refusal_text refusal)
  pub circuit : (refusal : FileRefusal) (given : Given)
      → AreGiven bytes names given → design_of_files given.netlist given.timing given.stimulus ≡ Err refusal → says 3 (refusal_text refusal)
  pub proof : (design : Joined) (given : Given) (text : List ℕ)
      → AreAll bytes names given text → design_of_files given.netlist given.timing given.stimulus ≡ Ok design → 268435456 < length text → says 4 too_long
