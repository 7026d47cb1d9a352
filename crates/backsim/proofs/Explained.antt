-- What explains a stop explains the status that it ends with, and which files it leaves unfinished.
use Rattle.std.proofs.Common.{◌≡◌, ◌≤◌, ◌+◌, ℕ, List, [], ◌∷◌, ◌++◌, inl, inr, refl, sym, ap, subst, ◌∙◌, arith}
use Rattle.std.proofs.lemmas.List.Elements.{All-nil, All-cons}
use Rattle.std.specs.Prelude.{All}
use Rattle.backsim_io.specs.Counts.{Rose}
use Rattle.backsim_io.specs.State.{FilesState, SourceState}
use Rattle.circuit_files.specs.Changes.{Opened, StopChanges}
use Rattle.circuit_files.specs.declared.stop.FilesStop.{FilesStop}
use Rattle.circuit_files.specs.declared.stop.FilesStop.TheVariants as stopped
use Rattle.circuit_files.specs.Texts.{refusal_text}
use Rattle.session_loop.specs.Outside.{Outputs, Outside, Dumped, with_file, with_journal, Served, ServedThenStop, JournalStops, SessionHalts}
use Rattle.session_loop.specs.declared.halt.Halt.{Halt}
use Rattle.session_loop.specs.declared.halt.Halt.TheVariants.{JournalUnmade, Unbegun, Stopped, JournalUnfinished}
use Rattle.session_loop.specs.declared.stop.JournalStop.{JournalStop}
use Rattle.session_loop.specs.declared.stop.JournalStop.TheVariants as journal
use Rattle.session_loop.specs.declared.stop.UnitStop.{UnitStop}
use Rattle.session_loop.specs.declared.stop.UnitStop.TheVariants as unit
use Rattle.session_loop.specs.declared.stop.ScriptStop.TheVariants.{Unread, TooLong, Unit}
use Rattle.backsim.specs.Broken.{JournalAtMost, JournalAlone, JournalAndDump, LeavesOpen}
use Rattle.backsim.specs.Cause.{Counts, counts_in, started_in, Calm, Explains}
use Rattle.backsim.specs.Texts.{too_long}
use Rattle.backsim.specs.inner.Statuses.{of_journal, of_unit}
use Rattle.backsim.specs.inner.Stops.{Tells, EndsAs, EndsByFiles, EndsByHalt}
use Rattle.backsim.specs.declared.status.Input.TheVariants as inputs
use Rattle.backsim.specs.declared.status.Output.TheVariants as outputs
use Rattle.backsim.specs.declared.status.NamedFile.TheVariants as named
use Rattle.backsim.specs.declared.status.Status.{Status}
use Rattle.backsim.specs.declared.status.Status.TheVariants.{Ended, Words, Refused, ReadFault, WriteFault, FileFault, OutOfMemory}
use Rattle.backsim.proofs.Ends.{tells-all}

abbrev pub outside_at : SourceState → ℕ → FilesState → Outside
outside_at script replies files = record { outputs = record { files = files; replies = replies }; script = script }

-- the same with another count of the replies' faults
abbrev pub with_replies : Outside → ℕ → Outside
with_replies outside replies = record outside { outputs = record outside.outputs { replies = replies } }

pub calm-none : (counts : Counts) → Calm counts counts
calm-none counts = record { script = refl; replies = refl; file = refl; read = refl; write = refl }

pub calm-then : (old mid new : Counts) → Calm old mid → Calm mid new → Calm old new
calm-then old mid new a b = record {
  script = b.script ∙ a.script;
  replies = b.replies ∙ a.replies;
  file = b.file ∙ a.file;
  read = b.read ∙ a.read;
  write = b.write ∙ a.write;
}

-- what is explained from a time on is from an earlier one, if no count of faults changed in between
explains-from : (files_read : ℕ) (old mid new : Outside) (status : Status) → Calm (counts_in old) (counts_in mid) → Explains files_read mid new status → Explains files_read old new status
explains-from files_read old mid new Ended calm e = calm-then (counts_in old) (counts_in mid) (counts_in new) calm e
explains-from files_read old mid new Words calm e = calm-then (counts_in old) (counts_in mid) (counts_in new) calm e
explains-from files_read old mid new Refused calm e = calm-then (counts_in old) (counts_in mid) (counts_in new) calm e
explains-from files_read old mid new (ReadFault (inputs.Circuit file)) calm e = (subst (λ (k : ℕ). Rose k (counts_in new).read) calm.read e.0, e.1)
explains-from files_read old mid new (ReadFault inputs.Script) calm e = subst (λ (k : ℕ). Rose k (counts_in new).script) calm.script e
explains-from files_read old mid new (WriteFault outputs.Replies) calm e = subst (λ (k : ℕ). Rose k (counts_in new).replies) calm.replies e
explains-from files_read old mid new (WriteFault outputs.Journal) calm e = subst (λ (k : ℕ). Rose k (counts_in new).write) calm.write e
explains-from files_read old mid new (WriteFault outputs.Vcd) calm e = subst (λ (k : ℕ). Rose k (counts_in new).write) calm.write e
explains-from files_read old mid new (FileFault (named.Circuit file)) calm e = (subst (λ (k : ℕ). Rose k (counts_in new).file) calm.file e.0, e.1)
explains-from files_read old mid new (FileFault named.Journal) calm e = (subst (λ (k : ℕ). Rose k (counts_in new).file) calm.file e.0, e.1)
explains-from files_read old mid new (FileFault named.Vcd) calm e = (subst (λ (k : ℕ). Rose k (counts_in new).file) calm.file e.0, e.1)
explains-from files_read old mid new OutOfMemory calm e = tt

-- The end.

-- nothing was told, and the status is this one
ends-as : (files_read : ℕ) (old mid : Outside) (replies : ℕ) (w w' : List ℕ → Type 0) (status met : Status) → Explains files_read old mid met → EndsAs met mid.outputs.replies w replies w' status
    → Explains files_read old (with_replies mid replies) status
ends-as files_read old mid replies w w' status met e told =
    subst (λ (s : Status). Explains files_read old (with_replies mid replies) s) (sym told.0)
    (subst (λ (n : ℕ). Explains files_read old (with_replies mid n) met) (sym told.1) e)

-- a refusal was told, or was not
tells-explain : (files_read : ℕ) (old mid : Outside) (replies : ℕ) (text : List ℕ) (w w' : List ℕ → Type 0) (status : Status) → Calm (counts_in old) (counts_in mid)
    → Tells text Refused mid.outputs.replies w replies w' status → Explains files_read old (with_replies mid replies) status
tells-explain files_read old mid replies text w w' status calm (inl tells) =
    subst (λ (s : Status). Explains files_read old (with_replies mid replies) s) (sym tells.0)
    (record { script = calm.script; replies = tells.1 ∙ calm.replies; file = calm.file; read = calm.read; write = calm.write })
tells-explain files_read old mid replies text w w' status calm (inr (inl tells)) =
    subst (λ (s : Status). Explains files_read old (with_replies mid replies) s) (sym tells.0) (subst (λ (n : ℕ). Rose n replies) calm.replies tells.1)
tells-explain files_read old mid replies text w w' status calm (inr (inr tells)) =
    subst (λ (s : Status). Explains files_read old (with_replies mid replies) s) (sym tells.0) tt

-- The three files.

-- they were read without a fault
pub calm-files : (script : SourceState) (replies many : ℕ) (old new : FilesState) → Opened many old new → Calm (counts_in (outside_at script replies old)) (counts_in (outside_at script replies new))
calm-files script replies many old new opened = record {
  script = refl;
  replies = refl;
  file = ap (λ (s : FilesState). s.file_faults) opened;
  read = ap (λ (s : FilesState). s.read_faults) opened;
  write = ap (λ (s : FilesState). s.write_faults) opened;
}

-- they make no design
pub files-explain : (script : SourceState) (n n' : ℕ) (old new : FilesState) (w w' : List ℕ → Type 0) (stop : FilesStop) (status : Status) → StopChanges old new stop
    → EndsByFiles stop n w n' w' status → Explains 3 (outside_at script n old) (outside_at script n' new) status
files-explain script n n' old new w w' (stopped.Refused refusal) status e told =
    tells-explain 3 (outside_at script n old) (outside_at script n new) n' (refusal_text refusal) w w' status (calm-files script n e.many old new e.opened) told
files-explain script n n' old new w w' (stopped.NotOpened file) status e told =
    ends-as 3 (outside_at script n old) (outside_at script n new) n' w w' status (FileFault (named.Circuit file)) (e.rises.1, ap (λ (s : FilesState). s.started) e.same) told
files-explain script n n' old new w w' (stopped.Unread file) status e told =
    ends-as 3 (outside_at script n old) (outside_at script n new) n' w w' status (ReadFault (inputs.Circuit file)) (e.rises.1, ap (λ (s : FilesState). s.started) e.same) told
files-explain script n n' old new w w' stopped.OutOfMemory status e told =
    ends-as 3 (outside_at script n old) (outside_at script n new) n' w w' status OutOfMemory tt told

-- no file was created or finished
pub files-kept : (old new : FilesState) (stop : FilesStop) → StopChanges old new stop → (new.created ≡ old.created) × (new.unfinished ≡ old.unfinished)
files-kept old new (stopped.Refused refusal) e = (ap (λ (s : FilesState). s.created) e.opened, ap (λ (s : FilesState). s.unfinished) e.opened)
files-kept old new (stopped.NotOpened file) e = (ap (λ (s : FilesState). s.created) e.same, ap (λ (s : FilesState). s.unfinished) e.same)
files-kept old new (stopped.Unread file) e = (ap (λ (s : FilesState). s.created) e.same, ap (λ (s : FilesState). s.unfinished) e.same)
files-kept old new stopped.OutOfMemory e = (ap (λ (s : FilesState). s.created) e.opened, ap (λ (s : FilesState). s.unfinished) e.opened)

-- The session's loop.

-- a script that was served without a fault
pub calm-served : (old new : Outside) → Served old new → Calm (counts_in old) (counts_in new)
calm-served old new served = record {
  script = served.read;
  replies = ap (λ (o : Outputs). o.replies) served.outputs.same;
  file = ap (λ (s : FilesState). s.file_faults) served.outputs.changed.same;
  read = ap (λ (s : FilesState). s.read_faults) served.outputs.changed.same;
  write = ap (λ (s : FilesState). s.write_faults) served.outputs.changed.same;
}

-- behind dumps that were finished
dumped-started : (old new : FilesState) → Dumped old new → new.started ≡ old.started
dumped-started old new dumped = ap (λ (s : FilesState). s.started) dumped.same

-- the head of the journal was not written
journal-explains : (old new : Outside) (stop : JournalStop) → JournalStops (with_file old.outputs.files) new.outputs.files stop → Explains 3 old new (of_journal stop)
journal-explains old new journal.Unwritten fault = fault.rises.1
journal-explains old new journal.OutOfMemory same = tt

-- a unit was not served
unit-explains : (old new : Outside) (stop : UnitStop) → started_in old ≡ 3 → ServedThenStop (with_journal old) new stop → Explains 3 old new (of_unit stop)
unit-explains old new unit.RepliesUnwritten three e = e.outputs.stops.rises.1
unit-explains old new unit.JournalUnwritten three e =
    subst (λ (k : ℕ). Rose k new.outputs.files.write_faults) (ap (λ (s : FilesState). s.write_faults) e.outputs.dumped.same) e.outputs.stops.changed.rises.1
unit-explains old new unit.DumpUnmade three e = (
  subst (λ (k : ℕ). Rose k new.outputs.files.file_faults) (ap (λ (s : FilesState). s.file_faults) e.outputs.dumped.same) e.outputs.stops.changed.rises.1,
  ap (λ (s : FilesState). s.started) e.outputs.stops.changed.same ∙ (dumped-started (with_file old.outputs.files) e.outputs.files e.outputs.dumped ∙ three),
)
unit-explains old new unit.DumpUnwritten three e =
    subst (λ (k : ℕ). Rose k new.outputs.files.write_faults) (ap (λ (s : FilesState). s.write_faults) e.outputs.dumped.same) e.outputs.stops.changed.rises.1
unit-explains old new unit.DumpUnfinished three e = (
  subst (λ (k : ℕ). Rose k new.outputs.files.file_faults) (ap (λ (s : FilesState). s.file_faults) e.outputs.dumped.same) e.outputs.stops.changed.rises.1,
  ap (λ (s : FilesState). s.started) e.outputs.stops.changed.same ∙ (dumped-started (with_file old.outputs.files) e.outputs.files e.outputs.dumped ∙ three),
)
unit-explains old new unit.OutOfMemory three e = tt

-- a halt of the session's loop behind the three files, and the end of the session
module _ (old mid new : Outside) (replies : ℕ) (w w' : List ℕ → Type 0) (status : Status) (calm : Calm (counts_in old) (counts_in mid)) (three : started_in mid ≡ 3) where
  -- nothing was told
  halt-as : (met : Status) → Explains 3 mid new met → EndsAs met new.outputs.replies w replies w' status → Explains 3 old (with_replies new replies) status
  halt-as met e told = ends-as 3 old new replies w w' status met (explains-from 3 old mid new met calm e) told

  pub halt-ends : (halt : Halt) → SessionHalts mid new halt → EndsByHalt halt new.outputs.replies w replies w' status → Explains 3 old (with_replies new replies) status
  halt-ends JournalUnmade e told = halt-as (FileFault named.Journal) (e.outputs.changed.rises.1, ap (λ (s : FilesState). s.started) e.outputs.changed.same ∙ three) told
  halt-ends (Unbegun stop) e told = halt-as (of_journal stop) (journal-explains mid new stop e.outputs.changed) told
  halt-ends (Stopped Unread) e told = halt-as (ReadFault inputs.Script) e.rises.1 told
  halt-ends (Stopped TooLong) e told =
      tells-explain 3 old new replies too_long w w' status
      (calm-then (counts_in old) (counts_in mid) (counts_in new) calm (calm-counts (calm-served (with_journal mid) new e))) told
    where
      -- the creation of the journal changes no count
      calm-counts : Calm (counts_in (with_journal mid)) (counts_in new) → Calm (counts_in mid) (counts_in new)
      calm-counts is = record { script = is.script; replies = is.replies; file = is.file; read = is.read; write = is.write }
  halt-ends (Stopped (Unit stop)) e told = halt-as (of_unit stop) (unit-explains mid new stop three e) told
  halt-ends JournalUnfinished e told = halt-as (FileFault named.Journal) (e.outputs.changed.rises.1, ap (λ (s : FilesState). s.started) e.outputs.changed.same ∙ three) told

-- Which files are unfinished.

pub none-open : (files : FilesState) → files.unfinished ≡ [] → JournalAtMost files
none-open files none = subst (All (λ place. place ≡ 0)) (sym none) (All-nil (λ (place : ℕ). place ≡ 0))

one-open : (files : FilesState) → JournalAlone files → JournalAtMost files
one-open files one = subst (All (λ place. place ≡ 0)) (sym one) (All-cons (λ (place : ℕ). place ≡ 0) 0 [] refl (All-nil (λ (place : ℕ). place ≡ 0)))

-- the files made no design: none was created
pub files-open : (files : FilesState) (stop : FilesStop) (n n' : ℕ) (w w' : List ℕ → Type 0) (status : Status) → files.unfinished ≡ [] → EndsByFiles stop n w n' w' status → LeavesOpen files status
files-open files (stopped.Refused refusal) n n' w w' status none told =
    tells-all (LeavesOpen files) (refusal_text refusal) Refused n n' w w' status told (none-open files none) (none-open files none) (none-open files none)
files-open files (stopped.NotOpened file) n n' w w' status none told = subst (LeavesOpen files) (sym told.0) (none-open files none)
files-open files (stopped.Unread file) n n' w w' status none told = subst (LeavesOpen files) (sym told.0) (none-open files none)
files-open files stopped.OutOfMemory n n' w w' status none told = subst (LeavesOpen files) (sym told.0) (none-open files none)

module _ (old : FilesState) (created : old.created ≡ 0) (none : old.unfinished ≡ []) where
  -- the journal was created
  journal-open : (with_file old).unfinished ≡ 0 ∷ []
  journal-open = ap (λ (l : List ℕ). l ++ old.created ∷ []) none ∙ ap (λ (k : ℕ). k ∷ []) created

  -- and dumps, which were finished
  dumped-open : (new : FilesState) → Dumped (with_file old) new → JournalAlone new
  dumped-open new dumped = ap (λ (s : FilesState). s.unfinished) dumped.same ∙ journal-open

  -- and one that was not
  dump-open : (mid new : FilesState) → Dumped (with_file old) mid → new.created ≡ mid.created + 1 → new.unfinished ≡ mid.unfinished ++ mid.created ∷ [] → JournalAndDump new
  dump-open mid new dumped many is = record {
    place = mid.created;
    behind = (let grows : old.created + 1 ≤ mid.created = dumped.grows in omega (arith, grows));
    last = many;
    unfinished = is ∙ ap (λ (l : List ℕ). l ++ mid.created ∷ []) (dumped-open mid dumped);
  }

  -- the head of the journal was not written
  head-open : (stop : JournalStop) (new : FilesState) → JournalStops (with_file old) new stop → LeavesOpen new (of_journal stop)
  head-open journal.Unwritten new fault = one-open new (ap (λ (s : FilesState). s.unfinished) fault.same ∙ journal-open)
  head-open journal.OutOfMemory new same = one-open new (ap (λ (s : FilesState). s.unfinished) same ∙ journal-open)

-- the loop halted: of its files the journal is unfinished, and the dump that it stopped in
module _ (old new : Outside) (created : old.outputs.files.created ≡ 0) (none : old.outputs.files.unfinished ≡ []) where
  unit-open : (stop : UnitStop) → ServedThenStop (with_journal old) new stop → LeavesOpen new.outputs.files (of_unit stop)
  unit-open unit.RepliesUnwritten e = one-open new.outputs.files
      (ap (λ (o : Outputs). o.files.unfinished) e.outputs.stops.same ∙ dumped-open old.outputs.files created none e.outputs.files e.outputs.dumped)
  unit-open unit.JournalUnwritten e = one-open new.outputs.files
      (ap (λ (s : FilesState). s.unfinished) e.outputs.stops.changed.same ∙ dumped-open old.outputs.files created none e.outputs.files e.outputs.dumped)
  unit-open unit.DumpUnmade e = inl (ap (λ (s : FilesState). s.unfinished) e.outputs.stops.changed.same ∙ dumped-open old.outputs.files created none e.outputs.files e.outputs.dumped)
  unit-open unit.DumpUnwritten e =
      dump-open old.outputs.files created none e.outputs.files new.outputs.files e.outputs.dumped
      (ap (λ (s : FilesState). s.created) e.outputs.stops.changed.same) (ap (λ (s : FilesState). s.unfinished) e.outputs.stops.changed.same)
  unit-open unit.DumpUnfinished e =
      inr (dump-open old.outputs.files created none e.outputs.files new.outputs.files e.outputs.dumped
      (ap (λ (s : FilesState). s.created) e.outputs.stops.changed.same) (ap (λ (s : FilesState). s.unfinished) e.outputs.stops.changed.same))
  unit-open unit.OutOfMemory e = one-open new.outputs.files
      (ap (λ (o : Outputs). o.files.unfinished) e.outputs.stops ∙ dumped-open old.outputs.files created none e.outputs.files e.outputs.dumped)

  pub halt-open : (halt : Halt) (n n' : ℕ) (w w' : List ℕ → Type 0) (status : Status) → SessionHalts old new halt → EndsByHalt halt n w n' w' status → LeavesOpen new.outputs.files status
  halt-open JournalUnmade n n' w w' status e told =
      subst (LeavesOpen new.outputs.files) (sym told.0) (none-open new.outputs.files (ap (λ (s : FilesState). s.unfinished) e.outputs.changed.same ∙ none))
  halt-open (Unbegun stop) n n' w w' status e told = subst (LeavesOpen new.outputs.files) (sym told.0) (head-open old.outputs.files created none stop new.outputs.files e.outputs.changed)
  halt-open (Stopped Unread) n n' w w' status e told =
      subst (LeavesOpen new.outputs.files) (sym told.0) (one-open new.outputs.files (dumped-open old.outputs.files created none new.outputs.files e.outputs.changed))
  halt-open (Stopped TooLong) n n' w w' status e told =
      let alone = one-open new.outputs.files (dumped-open old.outputs.files created none new.outputs.files e.outputs.changed) in
      tells-all (LeavesOpen new.outputs.files) too_long Refused n n' w w' status told alone alone alone
  halt-open (Stopped (Unit stop)) n n' w w' status e told = subst (LeavesOpen new.outputs.files) (sym told.0) (unit-open stop e)
  halt-open JournalUnfinished n n' w w' status e told =
      subst (LeavesOpen new.outputs.files) (sym told.0) (one-open new.outputs.files (ap (λ (s : FilesState). s.unfinished) e.outputs.changed.same ∙ journal-open old.outputs.files created none))
