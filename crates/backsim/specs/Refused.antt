-- What is refused, and what is written of it.
use Rattle.std.specs.Prelude.{◌≡◌, ◌≤◌, ◌<◌, ◌⊎◌, ℕ, List, ◌++◌, Some, Err}
use Rattle.texts.specs.Made.{Made}
use Rattle.backsim_io.specs.Counts.{Grows, GrowsByPrefix}
use Rattle.backsim_io.specs.FilesInMemory.{SameMade}
use Rattle.circuit_files.specs.Files.{design_of_files}
use Rattle.circuit_files.specs.Texts.{refusal_text}
use Rattle.circuit_files.specs.declared.refusal.FileRefusal.{FileRefusal}
use Rattle.session_meaning.specs.Broken.{IsCutOff}
use Rattle.backsim.specs.declared.status.Input.TheVariants as inputs
use Rattle.backsim.specs.declared.status.Output.TheVariants as outputs
use Rattle.backsim.specs.declared.status.NamedFile.TheVariants as named
use Rattle.backsim.specs.declared.status.Status.{Status}
use Rattle.backsim.specs.declared.status.Status.TheVariants.{Refused, ReadFault, WriteFault, FileFault, OutOfMemory}
use Rattle.backsim.specs.Commands.{Command}
use Rattle.backsim.specs.Seen.{Seen, files_in, left_in, created_in}
use Rattle.backsim.specs.Session.{Given, Wrote}
use Rattle.backsim.specs.Texts.{too_long}

-- The files are refused: such bytes were written for their refusal, no file was created, and the script is unread.
pub record AreRefused (given : Given) (told : (List ℕ → Type 0) → (List ℕ → Type 0) → List ℕ → Type 0) (before after : Seen) : Type 0 where
  pub refusal : FileRefusal
  pub refused : design_of_files given.netlist given.timing given.stimulus ≡ Err refusal
  pub line : told before.written after.written (refusal_text refusal)
  pub unread : left_in after ≡ Some given.script
  pub same_files : SameMade before.made after.made

-- replies, a journal and dumps of which `such` holds, and after the replies bytes of which `tail` holds
pub record Followed (such : List ℕ → List ℕ → List Made → Type 0) (tail : List ℕ → Type 0) (replies journal : List ℕ) (dumps : List Made) : Type 0 where
  pub before : List ℕ
  pub rest : List ℕ
  pub are : such before journal dumps
  pub rest_is : tail rest
  pub replies_are : replies ≡ before ++ rest

-- The script has more than 16,777,216 bytes: the units that as many bytes complete were served, and the replies end with such bytes.
abbrev pub IsScriptRefused : Command → Given → (List ℕ → Type 0) → Seen → Seen → Type 0
IsScriptRefused command given tail before after =
    Wrote command given before after (λ setup. Followed (IsCutOff setup given.script) tail)

-- the files are refused, or the script: the line that tells of it stands after all else
abbrev pub IsRefused : Command → Given → Seen → Seen → Type 0
IsRefused command given before after =
    AreRefused given Grows before after ⊎ IsScriptRefused command given (λ rest. rest ≡ too_long) before after

-- Where something is refused, the status is 2, or that of a fault or of a lack of memory.

-- of the first n files: no file behind them was opened, and a fault is at one of them, or at the line
abbrev pub EndsFiles : ℕ → (started : ℕ) → Status → Type 0
EndsFiles n started Refused = started ≤ n
EndsFiles n started (ReadFault (inputs.Circuit file)) = started ≤ n
EndsFiles n started (FileFault (named.Circuit file)) = started < n
EndsFiles n started (WriteFault outputs.Replies) = started ≤ n
EndsFiles n started OutOfMemory = started ≤ n
EndsFiles n started status = ⊥

-- The first n files have this refusal: its line was written under status 2, and else a part of it at most. The script is unread, no
-- file was created, and none behind these files was opened.
pub record RefusesFiles (n : ℕ) (refusal : FileRefusal) (before after : Seen) (status : Status) : Type 0 where
  pub ends : EndsFiles n (files_in after).started status
  pub line : status ≡ Refused → Grows before.written after.written (refusal_text refusal)
  pub part : GrowsByPrefix before.written after.written (refusal_text refusal)
  pub unread : left_in after ≡ left_in before
  pub same_files : SameMade before.made after.made
  pub no_file : created_in after ≡ created_in before
