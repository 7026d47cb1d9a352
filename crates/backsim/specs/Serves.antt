-- What the program promises, by what the words ask for. No part of it names the number of workers, nor the order of their steps.
use Rattle.std.specs.Prelude.{◌≡◌, ◌≤◌, ◌<◌, ◌⊎◌, ℕ, List, [], Option, Some, None, Ok, Err, length}
use Rattle.backsim_io.specs.Counts.{Grows, GrowsByPrefix}
use Rattle.circuit_files.specs.Files.{netlist_of, first_two, design_of_files}
use Rattle.circuit_files.specs.declared.refusal.FileRefusal.{FileRefusal}
use Rattle.command_words.specs.Words.{Text, Form, Session, Workload}
use Rattle.design.specs.Joined.{Joined}
use Rattle.backsim.specs.declared.status.Output.TheVariants as outputs
use Rattle.backsim.specs.declared.status.Status.{Status}
use Rattle.backsim.specs.declared.status.Status.TheVariants.{Ended, Words, Refused, WriteFault, OutOfMemory}
use Rattle.backsim.specs.Seen.{Seen, files_in, bytes_in, created_in, IsUntouched}
use Rattle.backsim.specs.Cause.{counts_in, NoneRose, Explains}
use Rattle.backsim.specs.Commands.{Command, command_of}
use Rattle.backsim.specs.Texts.{usage}
use Rattle.backsim.specs.Session.{Given, AreGiven, IsServed}
use Rattle.backsim.specs.Refused.{IsRefused, RefusesFiles}
use Rattle.backsim.specs.Broken.{Leaves, LeavesOpen, OnFileFault}
use Rattle.backsim.specs.Work.{IsWorkServed, LeavesWork}

-- Words of no form: the usage text was written under status 1, and else a part of it at most.
pub record SaysUsage (before after : Seen) (status : Status) : Type 0 where
  pub ends : (status ≡ Words) ⊎ ((status ≡ WriteFault outputs.Replies) ⊎ (status ≡ OutOfMemory))
  pub whole : status ≡ Words → Grows before.written after.written usage
  pub part : GrowsByPrefix before.written after.written usage
  pub cause : Explains 0 before.outside after.outside status

-- A session.
pub record ServesSession (command : Command) (before after : Seen) (status : Status) : Type 0 where
  -- status 0: the session of the script stands whole
  pub ended : (given : Given) → AreGiven before command given → status ≡ Ended → IsServed command given before after
  -- status 2: the files are refused, or the script
  pub refused : (given : Given) → AreGiven before command given → status ≡ Refused → IsRefused command given before after
  -- a file that is refused is, whatever the later files hold
  pub netlist_refused : (refusal : FileRefusal) (first : List ℕ)
      → bytes_in before command.netlist ≡ Some first → netlist_of first ≡ Err refusal → RefusesFiles 1 refusal before after status
  pub timing_refused : (refusal : FileRefusal) (first second : List ℕ)
      → bytes_in before command.netlist ≡ Some first → bytes_in before command.timing ≡ Some second
      → first_two first second ≡ Err refusal → RefusesFiles 2 refusal before after status
  pub files_refused : (refusal : FileRefusal) (first second third : List ℕ)
      → bytes_in before command.netlist ≡ Some first → bytes_in before command.timing ≡ Some second → bytes_in before command.stimulus ≡ Some third
      → design_of_files first second third ≡ Err refusal → RefusesFiles 3 refusal before after status
  pub script_refused : (given : Given) → AreGiven before command given → 16777216 < length given.script → ¬ (status ≡ Ended)
  -- status 1 is that of other words
  pub no_usage : ¬ (status ≡ Words)
  -- statuses 3 to 5: which count of faults rose, and that none did under 0 and 2
  pub cause : Explains 3 before.outside after.outside status
  -- statuses 3 to 6: what stands then
  pub leaves : (given : Given) → AreGiven before command given → Leaves command given before after status
  pub untouched : OnFileFault (IsUntouched before after) status
  pub unfinished : LeavesOpen (files_in after) status
  -- nothing is given up without a reason
  pub complete : (given : Given) (design : Joined) → AreGiven before command given
      → design_of_files given.netlist given.timing given.stimulus ≡ Ok design → length given.script ≤ 16777216
      → NoneRose (counts_in before.outside) (counts_in after.outside) → (status ≡ Ended) ⊎ (status ≡ OutOfMemory)

-- The workload with this number.
pub record ServesWorkload (number : ℕ) (journal : Text) (before after : Seen) (status : Status) : Type 0 where
  -- status 0: its batch was served, and its line written
  pub ended : status ≡ Ended → IsWorkServed number journal before after
  pub one : status ≡ Ended → created_in after ≡ 1
  pub finished : status ≡ Ended → (files_in after).unfinished ≡ []
  -- the other statuses
  pub cause : Explains 0 before.outside after.outside status
  pub leaves : LeavesWork number journal before after status
  -- no file is read
  pub unread : (files_in after).started ≡ (files_in before).started

abbrev pub Serves : Option Form → Seen → Seen → Status → Type 0
Serves None before after status = SaysUsage before after status
Serves (Some (Session netlist timing stimulus journal workers shards cells)) before after status =
    ServesSession (command_of netlist timing stimulus journal workers shards cells) before after status
Serves (Some (Workload number journal workers)) before after status = ServesWorkload number journal before after status
