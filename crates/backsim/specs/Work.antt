-- What a run of the workload serves, and what it writes in place of the replies.
use Rattle.std.specs.Prelude.{◌≡◌, ◌⊎◌, ⊤, ℕ, Bool, List, [], ◌∷◌, length, filter, sum_by, codes}
use Rattle.std.specs.Fmt.{decimal}
use Rattle.backsim_io.specs.Counts.{Grows, GrowsByPrefix, Stays}
use Rattle.backsim_io.specs.FilesInMemory.{SameMade}
use Rattle.gate_values.specs.Gates.{same_value}
use Rattle.gate_values.specs.declared.Value.TheVariants.{One}
use Rattle.circuit_meaning.specs.declared.Run.{Run}
use Rattle.reply_lines.specs.declared.reply.Reply.{Reply}
use Rattle.reply_lines.specs.declared.reply.Reply.TheVariants.{Window, BadLine}
use Rattle.reply_lines.specs.declared.reply.Outcome.{Outcome}
use Rattle.reply_lines.specs.declared.reply.Outcome.TheVariants.{Answer, Unknown, Past, Budget}
use Rattle.reply_lines.specs.Replies.{text_line}
use Rattle.command_words.specs.Words.{Text}
use Rattle.session_meaning.specs.Session.{Setup}
use Rattle.session_loop.specs.Halting as session
use Rattle.session_loop.specs.Halting.{WroteJournal, IsWorkDone, IsWorkBegun}
use Rattle.workload.specs.declared.Work.{Work}
use Rattle.workload.specs.Workload.{IsWork}
use Rattle.backsim.specs.Seen.{Seen, created_in}
use Rattle.backsim.specs.declared.status.Output.TheVariants as outputs
use Rattle.backsim.specs.declared.status.NamedFile.TheVariants as named
use Rattle.backsim.specs.declared.status.Status.{Status}
use Rattle.backsim.specs.declared.status.Status.TheVariants.{Ended, WriteFault, FileFault, OutOfMemory}

-- The line.

-- the runs of a wave; a window without an answer has none
abbrev pub wave_runs : Outcome (List Run) → List Run
wave_runs (Answer runs) = runs
wave_runs Unknown = []
wave_runs Past = []
wave_runs (Budget budget) = []

-- the same of a reply
abbrev pub runs_in : Reply → List Run
runs_in (Window outcome) = wave_runs outcome
runs_in BadLine = []

abbrev pub is_one : Run → Bool
is_one run = same_value run.value One

abbrev pub ones_in : Reply → ℕ
ones_in reply = length (filter is_one (runs_in reply))

abbrev pub run_count : List Reply → ℕ
run_count replies = sum_by (λ reply. length (runs_in reply)) replies

abbrev pub one_count : List Reply → ℕ
one_count replies = sum_by ones_in replies

abbrev pub counts_line : ℕ → ℕ → ℕ → List ℕ
counts_line number runs ones =
    text_line (codes "work" ∷ decimal number ∷ codes "replies" ∷ codes "16" ∷ codes "lines" ∷ decimal runs ∷ codes "ones" ∷ decimal ones ∷ [])

-- it counts the runs of these replies, and those of value 1
abbrev pub work_line : ℕ → List Reply → List ℕ
work_line number replies = counts_line number (run_count replies) (one_count replies)

-- The session of the workload's batch.

-- the memo has 8 shards, with room for 16,384 cells each; no dump is made
abbrev pub setup_of_work : Work → Setup
setup_of_work work = record { design = work.design; shards = 8; capacity = 16384; names = [] }

-- this holds of the workload with this number
pub record OfWork (number : ℕ) (says : Work → Type 0) : Type 0 where
  pub work : Work
  pub is_work : IsWork number work
  pub holds : says work

-- The batch of these items was answered: its journal is the one file that was created, and of the line that counts
-- its replies `told` says what was written.
pub record Answered (told : (List ℕ → Type 0) → (List ℕ → Type 0) → List ℕ → Type 0) (number : ℕ) (journal : Text) (before after : Seen) (work : Work) : Type 0 where
  pub replies : List Reply
  pub recorded : WroteJournal (session.IsWork (setup_of_work work) work.items replies) journal before.made after.made
  pub line : told before.written after.written (work_line number replies)

-- The session of the batch stands whole, and the line.
abbrev pub IsWorkServed : ℕ → Text → Seen → Seen → Type 0
IsWorkServed number journal before after = OfWork number (Answered Grows number journal before after)

-- Nothing of the line was written, and this stands of the journal.
pub record LeftJournal (such : Work → List ℕ → Type 0) (number : ℕ) (journal : Text) (before after : Seen) : Type 0 where
  pub unreplied : Stays before.written after.written
  pub recorded : OfWork number (λ work. WroteJournal (such work) journal before.made after.made)

-- a part of the head at most, or a part of the batch's section after it
abbrev pub BrokeOffWork : ℕ → Text → Seen → Seen → Type 0
BrokeOffWork = LeftJournal (λ work. IsWorkBegun (setup_of_work work) work.items)

-- all of it
abbrev pub DidWork : ℕ → Text → Seen → Seen → Type 0
DidWork = LeftJournal (λ work. IsWorkDone (setup_of_work work) work.items)

-- nothing was written, and no file was created
pub record NoWork (before after : Seen) : Type 0 where
  pub unreplied : Stays before.written after.written
  pub same_files : SameMade before.made after.made
  pub no_file : created_in after ≡ created_in before

-- What a fault or a lack of memory leaves. The other statuses are not those of a workload.
abbrev pub LeavesWork : ℕ → Text → Seen → Seen → Status → Type 0
LeavesWork number journal before after Ended = ⊤
LeavesWork number journal before after (WriteFault outputs.Replies) = OfWork number (Answered GrowsByPrefix number journal before after)
LeavesWork number journal before after (WriteFault outputs.Journal) = BrokeOffWork number journal before after
LeavesWork number journal before after (FileFault named.Journal) = NoWork before after ⊎ IsWorkServed number journal before after
LeavesWork number journal before after OutOfMemory =
    NoWork before after ⊎ (BrokeOffWork number journal before after ⊎ DidWork number journal before after)
LeavesWork number journal before after status = ⊥
