-- What calls change of the outside, one after another.
use Rattle.std.proofs.Common.{◌≡◌, ℕ, ◌+◌, ◌<◌, List, [], ◌∷◌, ◌++◌, Contains, Result, Ok, Err, refl, sym, ap, subst, ◌∙◌, arith}
use Rattle.std.specs.Prelude.{IsErrAnd}
use Rattle.std.proofs.lemmas.List.Elements.{All-head, Contains-append_right}
use Rattle.backsim_io.specs.FilesInMemory.{Places, list_without}
use Rattle.backsim_io.specs.State.{FilesState, SourceState, FileFault, SourceFault, Rises}
use Rattle.session_loop.specs.declared.stop.JournalStop.{JournalStop}
use Rattle.session_loop.specs.declared.stop.JournalStop.TheVariants as journal
use Rattle.session_loop.specs.declared.stop.RepliesStop.{RepliesStop}
use Rattle.session_loop.specs.declared.stop.RepliesStop.TheVariants as replies
use Rattle.session_loop.specs.declared.stop.DumpStop.{DumpStop}
use Rattle.session_loop.specs.declared.stop.DumpStop.TheVariants as dump
use Rattle.session_loop.specs.declared.stop.UnitStop.{UnitStop}
use Rattle.session_loop.specs.declared.stop.UnitStop.TheVariants.{OutOfMemory}
use Rattle.session_loop.specs.declared.stop.ScriptStop.{ScriptStop}
use Rattle.session_loop.specs.declared.halt.JournalHalt.{JournalHalt}
use Rattle.session_loop.specs.declared.halt.JournalHalt.TheVariants.{Unmade, Stopped}
use Rattle.session_loop.specs.declared.halt.Halt.TheVariants.{JournalUnfinished}
use Rattle.session_loop.specs.Stops.{of_replies, of_journal, of_dump, of_begin}
use Rattle.session_loop.specs.Outside.{Outputs, Outside, OfFiles, Dumped, DumpedThenFault, JournalStops, StopsAt, UnitsStop, Served, ServedThenStop, ServedThenUnread, ScriptStops, SessionHalts, JournalHalts, with_file, with_journal}
use Rattle.session_loop.specs.inner.Outside.{RepliesStops, DumpStops}

-- what holds of an error holds of the result that hands it on
pub handed-on : {T E : Type 0} (C : Result T E → Type 0) (was : E) (result : Result T E) → IsErrAnd result (λ e. e ≡ was) → C (Err was) → C result
handed-on C was (Ok x) handed holds = absurd handed
handed-on C was (Err e) handed holds = subst (λ s. C (Err s)) (sym handed) holds

-- Units.

pub dumped-none : (files : FilesState) → Dumped files files
dumped-none files = record { same = refl; grows = omega arith }

pub dumped-one : (old new : FilesState) → new ≡ record old { created = old.created + 1 } → Dumped old new
dumped-one old new is = subst (Dumped old) (sym is) (record { same = refl; grows = omega arith })

pub dumped-more : (a b c : FilesState) → Dumped a b → Dumped b c → Dumped a c
dumped-more a b c first next = record {
  same = next.same ∙ ap (λ (f : FilesState). record f { created = c.created }) first.same;
  grows = omega (arith, first.grows, next.grows);
}

-- a file that wasn't finished isn't
pub still-open : (old new : FilesState) (place : ℕ) → Dumped old new → Contains old.unfinished place → Contains new.unfinished place
still-open old new place dumped holds = subst (λ (f : FilesState). Contains f.unfinished place) (sym dumped.same) holds

-- nothing changed
pub calm : (old new : Outputs) → new ≡ old → OfFiles Dumped old new
calm old new same = subst (OfFiles Dumped old) (sym same) (record { same = refl; changed = dumped-none old.files })

pub outputs-more : (a b c : Outputs) → OfFiles Dumped a b → OfFiles Dumped b c → OfFiles Dumped a c
outputs-more a b c first next = record {
  same = next.same ∙ ap (λ (o : Outputs). record o { files = c.files }) first.same;
  changed = dumped-more a.files b.files c.files first.changed next.changed;
}

-- replies were not written
stops-replies : (files : FilesState) (old new : ℕ) (stop : RepliesStop) → RepliesStops old new stop
    → StopsAt (record { files = files; replies = old }) (record { files = files; replies = new }) (of_replies stop)
stops-replies files old new replies.Unwritten rises = record { same = refl; rises = rises }
stops-replies files old new replies.OutOfMemory same = ap (λ (n : ℕ). record { files = files; replies = n }) same

pub of-replies : (files : FilesState) (old new : ℕ) (stop : RepliesStop) → RepliesStops old new stop
    → UnitsStop (record { files = files; replies = old }) (record { files = files; replies = new }) (of_replies stop)
of-replies files old new stop stops = record { files = files; dumped = dumped-none files; stops = stops-replies files old new stop stops }

stops-journal : (told : ℕ) (old new : FilesState) (stop : JournalStop) → JournalStops old new stop
    → StopsAt (record { files = old; replies = told }) (record { files = new; replies = told }) (of_journal stop)
stops-journal told old new journal.Unwritten fault = record { same = refl; changed = fault }
stops-journal told old new journal.OutOfMemory same = ap (λ (f : FilesState). record { files = f; replies = told }) same

-- the journal was not written, after the replies
pub of-journal : (told new_told : ℕ) (old mid new : FilesState) (stop : JournalStop) → new_told ≡ told → mid ≡ old → JournalStops mid new stop
    → UnitsStop (record { files = old; replies = told }) (record { files = new; replies = new_told }) (of_journal stop)
of-journal told new_told old mid new stop calm same stops =
    subst (λ n. UnitsStop (record { files = old; replies = told }) (record { files = new; replies = n }) (of_journal stop)) (sym calm)
    (record { files = old; dumped = dumped-none old; stops = stops-journal told old new stop (subst (λ f. JournalStops f new stop) same stops) })

-- where the journal was not written, nothing was created
pub journal-created : (old new : FilesState) (stop : JournalStop) → JournalStops old new stop → new.created ≡ old.created
journal-created old new journal.Unwritten fault = ap (λ f. f.created) fault.same
journal-created old new journal.OutOfMemory same = ap (λ f. f.created) same

-- neither changed
pub same-outputs : (a b : Outputs) → a.files ≡ b.files → a.replies ≡ b.replies → a ≡ b
same-outputs a b files replies =
    ap (λ (f : FilesState). record { files = f; replies = a.replies }) files ∙ ap (λ (n : ℕ). record { files = b.files; replies = n }) replies

-- dumps were made, and then units stopped
pub dumped-then : (a b c : Outputs) (stop : UnitStop) → OfFiles Dumped a b → UnitsStop b c stop → UnitsStop a c stop
dumped-then a b c stop first next = record {
  files = next.files;
  dumped = dumped-more a.files b.files next.files first.changed next.dumped;
  stops = subst (λ (o : Outputs). StopsAt (record o { files = next.files }) c stop) first.same next.stops;
}

-- or there was no memory
pub dumped-only : (a b : Outputs) → OfFiles Dumped a b → UnitsStop a b OutOfMemory
dumped-only a b first = record { files = b.files; dumped = first.changed; stops = first.same }

-- A dump.

-- the file was not made, not written or not finished
stops-dump : (told : ℕ) (old new : FilesState) (stop : DumpStop) → DumpStops old new stop
    → StopsAt (record { files = old; replies = told }) (record { files = new; replies = told }) (of_dump stop)
stops-dump told old new dump.Unmade fault = record { same = refl; changed = fault }
stops-dump told old new dump.Unwritten fault = record { same = refl; changed = fault }
stops-dump told old new dump.Unfinished fault = record { same = refl; changed = fault }

pub of-dump : (told : ℕ) (old new : FilesState) (stop : DumpStop) → DumpStops old new stop
    → UnitsStop (record { files = old; replies = told }) (record { files = new; replies = told }) (of_dump stop)
of-dump told old new stop stops = record { files = old; dumped = dumped-none old; stops = stops-dump told old new stop stops }

-- the file was finished, and the reply not written
pub of-reply : (old mid : FilesState) (told new_told : ℕ) (stop : RepliesStop) → mid ≡ record old { created = old.created + 1 } → RepliesStops told new_told stop
    → UnitsStop (record { files = old; replies = told }) (record { files = mid; replies = new_told }) (of_replies stop)
of-reply old mid told new_told stop is stops = record { files = mid; dumped = dumped-one old mid is; stops = stops-replies mid told new_told stop stops }

-- the reply was written too
pub dump-served : (old mid : FilesState) (replies new_replies : ℕ) → mid ≡ record old { created = old.created + 1 } → new_replies ≡ replies
    → OfFiles Dumped (record { files = old; replies = replies }) (record { files = mid; replies = new_replies })
dump-served old mid replies new_replies is same = record {
  same = ap (λ (n : ℕ). record { files = mid; replies = n }) same;
  changed = dumped-one old mid is;
}

-- A script.

-- more was read and served
pub served-more : (a b c : Outside) → Served a b → c.script ≡ record b.script { left = c.script.left } → OfFiles Dumped b.outputs c.outputs → Served a c
served-more a b c first read next = record {
  read = ap (λ (s : SourceState). s.faults) read ∙ first.read;
  outputs = outputs-more a.outputs b.outputs c.outputs first.outputs next;
}

-- more was read, and a unit of it stopped
pub served-then : (a b c : Outside) (stop : UnitStop) → Served a b → c.script ≡ record b.script { left = c.script.left } → UnitsStop b.outputs c.outputs stop → ServedThenStop a c stop
served-then a b c stop first read stops = record {
  read = ap (λ (s : SourceState). s.faults) read ∙ first.read;
  outputs = dumped-then a.outputs b.outputs c.outputs stop first.outputs stops;
}

-- no more could be read
pub served-unread : (a b : Outside) (script : SourceState) → Served a b → SourceFault b.script script → ServedThenUnread a (record b { script = script })
served-unread a b script first fault = record {
  rises = subst (λ n. Rises n script.faults) first.read fault.rises;
  outputs = first.outputs;
}

-- A session.

-- the place of the journal that was just created is one that isn't finished
pub journal-open : (old new : FilesState) → old.created ≡ 0 → new ≡ with_file old → Contains new.unfinished 0
journal-open old new none is = subst (λ (f : FilesState). Contains f.unfinished 0) (sym is) (Contains-append_right old.unfinished (old.created ∷ []) 0 (0, omega arith, none))

-- where no file was created, none is unfinished
pub none-unfinished : (files : ℕ) (unfinished : List ℕ) → files ≡ 0 → Places files unfinished → unfinished ≡ []
none-unfinished files [] none places = refl
none-unfinished files (k ∷ ks) none places = let below : k < files = All-head (λ i. i < files) k ks places.0 in absurd (omega (arith, below, none))

-- once the only unfinished file is finished, none is left
all-finished : (files : FilesState) → files.created ≡ 0 → Places files.created files.unfinished → list_without (files.unfinished ++ files.created ∷ []) 0 ≡ files.unfinished
all-finished files none places =
    let empty = none-unfinished files.created files.unfinished none places in
    ap (λ (l : List ℕ). list_without (l ++ files.created ∷ []) 0) empty ∙ ap (λ (k : ℕ). list_without (k ∷ []) 0) none ∙ sym empty

-- a journal that was created and finished leaves nothing unfinished
pub journal-done : (old mid new : FilesState) → old.created ≡ 0 → Places old.created old.unfinished → Dumped (with_file old) mid
    → new ≡ record mid { unfinished = list_without mid.unfinished 0 } → new ≡ record old { created = mid.created }
journal-done old mid new none places dumped ends =
    ends
    ∙ ap (λ (f : FilesState). record f { unfinished = list_without f.unfinished 0 }) dumped.same
    ∙ ap (λ (l : List ℕ). record old { created = mid.created; unfinished = l }) (all-finished old none places)

-- it could not be finished
dumped-fault : (a b c : FilesState) → Dumped a b → FileFault b c → DumpedThenFault a c
dumped-fault a b c dumped fault =
    let created : c.created ≡ b.created = ap (λ (f : FilesState). f.created) fault.same in
    let faults : b.file_faults ≡ a.file_faults = ap (λ (f : FilesState). f.file_faults) dumped.same in
    record {
      same = fault.same
          ∙ ap (λ (f : FilesState). record f { file_faults = c.file_faults }) dumped.same
          ∙ ap (λ (n : ℕ). record a { created = n; file_faults = c.file_faults }) (sym created);
      grows = omega (arith, dumped.grows, created);
      rises = subst (λ n. Rises n c.file_faults) faults fault.rises;
    }

-- the journal was not begun
pub session-unbegun : (old : Outside) (new : FilesState) (halt : JournalHalt) → JournalHalts old.outputs.files new halt
    → SessionHalts old (record old { outputs = record old.outputs { files = new } }) (of_begin halt)
session-unbegun old new Unmade fault = record { unread = refl; outputs = record { same = refl; changed = fault } }
session-unbegun old new (Stopped stop) stops = record { unread = refl; outputs = record { same = refl; changed = stops } }

-- the script stopped
pub session-stopped : (old new : Outside) (mid : FilesState) (stop : ScriptStop) → mid ≡ with_file old.outputs.files
    → ScriptStops (record old { outputs = record old.outputs { files = mid } }) new stop → ScriptStops (with_journal old) new stop
session-stopped old new mid stop is stops = subst (λ (f : FilesState). ScriptStops (record old { outputs = record old.outputs { files = f } }) new stop) is stops

-- it was served to its end
module _ (old mid : Outside) (begun new : FilesState) (is : begun ≡ with_file old.outputs.files) (all : Served (record old { outputs = record old.outputs { files = begun } }) mid) where
  served : Served (with_journal old) mid
  served = subst (λ (f : FilesState). Served (record old { outputs = record old.outputs { files = f } }) mid) is all

  same : record mid.outputs { files = new } ≡ record old.outputs { files = new }
  same = ap (λ (o : Outputs). record o { files = new }) served.outputs.same

  -- and the journal finished
  pub session-ends : old.outputs.files.created ≡ 0 → Places old.outputs.files.created old.outputs.files.unfinished
      → new ≡ record mid.outputs.files { unfinished = list_without mid.outputs.files.unfinished 0 } → Served old (record mid { outputs = record mid.outputs { files = new } })
  session-ends none places ends =
      let whole = journal-done old.outputs.files mid.outputs.files new none places served.outputs.changed ends in
      let grows = served.outputs.changed.grows in
      record {
        read = served.read;
        outputs = record {
          same = same;
          changed = subst (Dumped old.outputs.files) (sym whole) (record { same = refl; grows = omega (arith, grows) });
        };
      }

  -- or not
  pub session-unfinished : FileFault mid.outputs.files new → SessionHalts old (record mid { outputs = record mid.outputs { files = new } }) JournalUnfinished
  session-unfinished fault = record {
    read = served.read;
    outputs = record { same = same; changed = dumped-fault (with_file old.outputs.files) mid.outputs.files new served.outputs.changed fault };
  }

-- A session of one batch.

-- it was begun, and then finished
pub work-finished : (old mid new : FilesState) → old.created ≡ 0 → Places old.created old.unfinished → mid ≡ with_file old
    → new ≡ record mid { unfinished = list_without mid.unfinished 0 } → new ≡ record old { created = old.created + 1 }
work-finished old mid new none places is ends =
    journal-done old (with_file old) new none places (dumped-none (with_file old)) (ends ∙ ap (λ (f : FilesState). record f { unfinished = list_without f.unfinished 0 }) is)
