-- What a run of the workload comes to.
use Rattle.std.proofs.Common.{◌≡◌, ℕ, ◌+◌, inl, inr, List, [], ◌∷◌, All, refl, ap, subst, sym, lit≤, ◌∙◌}
use Rattle.std.proofs.lemmas.List.Elements.{All-head}
use Rattle.texts.specs.Made.{Made}
use Rattle.backsim_io.specs.Counts.{Rose, Grows}
use Rattle.backsim_io.specs.FilesInMemory.{SameMade, Places, list_without}
use Rattle.backsim_io.specs.State.{FilesState, SourceState, FileFault as FileFaultOf}
use Rattle.query_lines.specs.declared.unit.Unit.TheVariants.{Batch}
use Rattle.reply_lines.specs.declared.reply.Reply.{Reply}
use Rattle.query_lines.specs.Reading.{script_units}
use Rattle.query_lines.specs.Fit.{IsFit, ScriptUnitsAreFit}
use Rattle.command_words.specs.Words.{Text}
use Rattle.session_loop.specs.Outside.{JournalHalts, with_file}
use Rattle.session_loop.specs.Halting as session
use Rattle.session_loop.specs.Halting.{WroteJournal, IsWorkHalted}
use Rattle.session_loop.specs.declared.halt.JournalHalt.{JournalHalt}
use Rattle.session_loop.specs.declared.halt.JournalHalt.TheVariants.{Unmade, Stopped}
use Rattle.session_loop.specs.declared.stop.JournalStop.TheVariants as journals
use Rattle.workload.specs.declared.Work.{Work}
use Rattle.workload.specs.Workload.{IsWork}
use Rattle.workload.specs.Texts.{script_text}
use Rattle.backsim.specs.Cause.{Explains}
use Rattle.backsim.specs.Seen.{Seen, files_in}
use Rattle.backsim.specs.Serves.{ServesWorkload}
use Rattle.backsim.specs.inner.Statuses.{of_work}
use Rattle.backsim.specs.inner.Work.{of_line, IsLineCut, EndsWork}
use Rattle.backsim.specs.Work.{setup_of_work, work_line, IsWorkServed, LeavesWork}
use Rattle.backsim.specs.declared.work.LineStop.{LineStop}
use Rattle.backsim.specs.declared.work.LineStop.TheVariants as lines
use Rattle.backsim.specs.declared.status.Output.TheVariants as outputs
use Rattle.backsim.specs.declared.status.NamedFile.TheVariants as named
use Rattle.backsim.specs.declared.status.Status.{Status}
use Rattle.backsim.specs.declared.status.Status.TheVariants.{Ended, WriteFault, FileFault, OutOfMemory}
use Rattle.session_loop.proofs.Callers.{work-finished, none-unfinished}
use Rattle.backsim.proofs.Explained.{outside_at}

-- the workload's items are a batch of a script
pub work-fit : (number : ℕ) (work : Work) → ScriptUnitsAreFit → IsWork number work → IsFit 100000 (Batch work.items)
work-fit number work fit is =
    let all : All (IsFit 100000) (script_units 100000 (script_text number)) = fit 100000 (script_text number) (lit≤ tt) in
    All-head (IsFit 100000) (Batch work.items) [] (subst (All (IsFit 100000)) is.asked all)

-- what stands of the journal while it is finished
pub recorded-same : (such : List ℕ → Type 0) (name : Text) (m m' m'' : List Made → Type 0) → WroteJournal such name m m' → SameMade m' m'' → WroteJournal such name m m''
recorded-same such name m m' m'' wrote same = record {
  journal = wrote.journal;
  are = wrote.are;
  created = λ none. same (record { name = name; bytes = wrote.journal } ∷ []) (wrote.created none);
}

-- a status other than 0, with its cause, and what stands then
work-other : (number : ℕ) (name : Text) (before after : Seen) (status : Status) → ¬ (status ≡ Ended) → Explains 0 before.outside after.outside status → LeavesWork number name before after status
    → (files_in after).started ≡ (files_in before).started → ServesWorkload number name before after status
work-other number name before after status other cause leaves unread = record {
  ended = λ is. absurd (other is);
  one = λ is. absurd (other is);
  finished = λ is. absurd (other is);
  cause = cause;
  leaves = leaves;
  unread = unread;
}

-- The batch was answered, and its section written.
module _ (number : ℕ) (work : Work) (name : Text) (replies : List Reply) (is : IsWork number work) (script : SourceState) (n n' : ℕ) (w w' : List ℕ → Type 0) (m m' : List Made → Type 0)
    (recorded : WroteJournal (session.IsWork (setup_of_work work) work.items replies) name m m') (old mid : FilesState) (none : old.started ≡ 0) (begun : mid ≡ with_file old) where
  -- what is seen before all of it, and where the files are these
  abbrev before : Seen
  before = record { outside = outside_at script n old; written = w; made = m }

  abbrev after : FilesState → Seen
  after new = record { outside = outside_at script n' new; written = w'; made = m' }

  -- the line was not written
  pub line-untold : (stop : LineStop) → IsLineCut (work_line number replies) stop n w n' w' → ServesWorkload number name before (after mid) (of_line stop)
  line-untold lines.Unwritten told =
      work-other number name before (after mid) (WriteFault outputs.Replies) (λ e. cc) told.0
      (record { work = work; is_work = is; holds = record { replies = replies; recorded = recorded; line = told.1 } }) (ap (λ (s : FilesState). s.started) begun)
  line-untold lines.OutOfMemory told =
      work-other number name before (after mid) OutOfMemory (λ e. cc) tt
      (inr (inr (record {
        unreplied = told.1;
        recorded = record { work = work; is_work = is; holds = record { journal = recorded.journal; are = (replies, recorded.are); created = recorded.created } };
      }))) (ap (λ (s : FilesState). s.started) begun)

  -- it was
  module _ (same : n' ≡ n) (line : Grows w w' (work_line number replies)) (new : FilesState) where
    served : IsWorkServed number name before (after new)
    served = record { work = work; is_work = is; holds = record { replies = replies; recorded = recorded; line = line } }

    -- and the journal finished
    pub work-done : old.created ≡ 0 → Places old.created old.unfinished → new ≡ record mid { unfinished = list_without mid.unfinished 0 } → ServesWorkload number name before (after new) Ended
    work-done created places ends =
        let finished = work-finished old mid new created places begun ends in
        record {
          ended = λ is. served;
          one = λ is. ap (λ (s : FilesState). s.created) finished ∙ ap (λ k. k + 1) created;
          finished = λ is. ap (λ (s : FilesState). s.unfinished) finished ∙ none-unfinished old.created old.unfinished created places;
          cause = record {
            script = refl;
            replies = same;
            file = ap (λ (s : FilesState). s.file_faults) finished;
            read = ap (λ (s : FilesState). s.read_faults) finished;
            write = ap (λ (s : FilesState). s.write_faults) finished;
          };
          leaves = tt;
          unread = ap (λ (s : FilesState). s.started) finished;
        }

    -- or not
    pub work-unfinished : FileFaultOf mid new → ServesWorkload number name before (after new) (FileFault named.Journal)
    work-unfinished fault =
        let started = ap (λ (s : FilesState). s.started) fault.same ∙ ap (λ (s : FilesState). s.started) begun in
        work-other number name before (after new) (FileFault named.Journal) (λ e. cc)
        (subst (λ (s : FilesState). Rose s.file_faults new.file_faults) begun fault.rises.1, started ∙ none) (inr served) started

  -- each way in which it ends
  pub work-ends : (new : FilesState) (status : Status) → old.created ≡ 0 → Places old.created old.unfinished → EndsWork (work_line number replies) mid new n w n' w' status
      → ServesWorkload number name before (after new) status
  work-ends new status created places (inl (stop, told, same, cut)) =
      subst (ServesWorkload number name before (after new)) (sym told)
      (subst (λ files. ServesWorkload number name before (after files) (of_line stop)) (sym same) (line-untold stop cut))
  work-ends new status created places (inr (same, line, inl (is, ends))) =
      subst (ServesWorkload number name before (after new)) (sym is) (work-done same line new created places ends)
  work-ends new status created places (inr (same, line, inr (is, fault))) =
      subst (ServesWorkload number name before (after new)) (sym is) (work-unfinished same line new fault)

-- The session of the batch halted.
pub work-halted : (number : ℕ) (work : Work) (name : Text) (is : IsWork number work) (script : SourceState) (n : ℕ) (w : List ℕ → Type 0) (m m' : List Made → Type 0) (old new : FilesState) (halt : JournalHalt)
    → old.started ≡ 0 → JournalHalts old new halt → IsWorkHalted (setup_of_work work) work.items name m m' halt
    → ServesWorkload number name (record { outside = outside_at script n old; written = w; made = m }) (record { outside = outside_at script n new; written = w; made = m' }) (of_work halt)
work-halted number work name is script n w m m' old new Unmade none fault halted =
    work-other number name _ _ (FileFault named.Journal) (λ e. cc) (fault.rises.1, ap (λ (s : FilesState). s.started) fault.same ∙ none)
    (inl (record { unreplied = λ start h. h; same_files = halted; no_file = ap (λ (s : FilesState). s.created) fault.same })) (ap (λ (s : FilesState). s.started) fault.same)
work-halted number work name is script n w m m' old new (Stopped journals.Unwritten) none fault halted =
    work-other number name _ _ (WriteFault outputs.Journal) (λ e. cc) fault.rises.1
    (record { unreplied = λ start h. h; recorded = record { work = work; is_work = is; holds = halted } }) (ap (λ (s : FilesState). s.started) fault.same)
work-halted number work name is script n w m m' old new (Stopped journals.OutOfMemory) none same halted =
    work-other number name _ _ OutOfMemory (λ e. cc) tt
    (inr (inl (record { unreplied = λ start h. h; recorded = record { work = work; is_work = is; holds = halted } }))) (ap (λ (s : FilesState). s.started) same)

-- there is no memory for the workload
pub no-work : (number : ℕ) (journal : Text) (before : Seen) → ServesWorkload number journal before before OutOfMemory
no-work number journal before =
    work-other number journal before before OutOfMemory (λ e. cc) tt (inl (record { unreplied = λ start h. h; same_files = λ start h. h; no_file = refl })) refl
