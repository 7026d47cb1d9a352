-- What stands where the session's loop ends or halts.
use Rattle.std.proofs.Common.{◌≡◌, ℕ, List, [], ◌++◌, take, drop, Option, Some, Ok, inl, inr, refl, sym, subst, ◌∙◌, append_assoc, length}
use Rattle.std.proofs.lemmas.List.{take-append-drop}
use Rattle.std.specs.Prelude.{⊤, ◌≤◌}
use Rattle.std.specs.Io.KnownBytes.{IsAtEnd}
use Rattle.texts.specs.Made.{Made}
use Rattle.backsim_io.specs.Counts.{Grows, GrowsByPrefix, Stays}
use Rattle.backsim_io.specs.FilesInMemory.{SameMade}
use Rattle.circuit_files.specs.Files.{design_of_files}
use Rattle.design.specs.Joined.{Joined, IsDesign}
use Rattle.session_meaning.specs.Session.{Setup, IsSessionOf}
use Rattle.session_meaning.specs.Laws.{SessionsAreWhole}
use Rattle.session_meaning.specs.Whole.{IsWhole}
use Rattle.session_meaning.specs.Broken.{IsPrefix, IsCutOff}
use Rattle.session_loop.specs.Serving.{IsServedUntil, IsBrokenIn, IsJournalBroken, IsDumpBroken}
use Rattle.session_loop.specs.Halting.{WroteFiles, IsUnbegun, IsHalted}
use Rattle.session_loop.specs.declared.halt.Halt.{Halt}
use Rattle.session_loop.specs.declared.halt.Halt.TheVariants.{JournalUnmade, Unbegun, Stopped, JournalUnfinished}
use Rattle.session_loop.specs.declared.stop.JournalStop.{JournalStop}
use Rattle.session_loop.specs.declared.stop.JournalStop.TheVariants as journal
use Rattle.session_loop.specs.declared.stop.UnitStop.{UnitStop}
use Rattle.session_loop.specs.declared.stop.UnitStop.TheVariants as unit
use Rattle.session_loop.specs.declared.stop.ScriptStop.TheVariants.{Unread, TooLong, Unit}
use Rattle.backsim.specs.Broken.{IsInHeadOr, Leaves, OnFileFault}
use Rattle.backsim.specs.Commands.{Command}
use Rattle.backsim.specs.Refused.{Followed, IsScriptRefused, IsRefused}
use Rattle.backsim.specs.Seen.{Seen, left_in, created_in, IsUntouched}
use Rattle.backsim.specs.Session.{Given, setup_of, OfDesign, Wrote, ServedAll, IsServed}
use Rattle.backsim.specs.Texts.{too_long}
use Rattle.backsim.specs.inner.Statuses.{of_journal, of_unit}
use Rattle.backsim.specs.inner.Stops.{Tells, EndsAs, EndsByHalt}
use Rattle.backsim.specs.declared.status.Input.TheVariants as inputs
use Rattle.backsim.specs.declared.status.Output.TheVariants as outputs
use Rattle.backsim.specs.declared.status.NamedFile.TheVariants as named
use Rattle.backsim.specs.declared.status.Status.{Status}
use Rattle.backsim.specs.declared.status.Status.TheVariants.{Ended, Words, Refused, ReadFault, WriteFault, FileFault, OutOfMemory}
use Rattle.backsim.proofs.Ends.{grows-nothing, tells-all, tells-whole, IsEarly}

-- bytes that were written before a call that writes none, or behind one that creates no file
wrote-between : (such : List ℕ → List ℕ → List Made → Type 0) (name : List ℕ) (w w' w'' : List ℕ → Type 0) (m m' m'' : List Made → Type 0) (n : ℕ)
    → SameMade m m' → WroteFiles such name w w' m' m'' n → Stays w' w'' → WroteFiles such name w w'' m m'' n
wrote-between such name w w' w'' m m' m'' n same wrote stays = record {
  replies = wrote.replies;
  journal = wrote.journal;
  dumps = wrote.dumps;
  are = wrote.are;
  replied = λ before h. stays (before ++ wrote.replies) (wrote.replied before h);
  created = λ none. wrote.created (same [] none);
  count = wrote.count;
}

-- such replies, such a journal and such dumps are others of these
wrote-as : (such other : List ℕ → List ℕ → List Made → Type 0) (name : List ℕ) (w w' : List ℕ → Type 0) (m m' : List Made → Type 0) (n : ℕ)
    → ((replies journal : List ℕ) (dumps : List Made) → such replies journal dumps → other replies journal dumps) → WroteFiles such name w w' m m' n → WroteFiles other name w w' m m' n
wrote-as such other name w w' m m' n as_other wrote = record {
  replies = wrote.replies;
  journal = wrote.journal;
  dumps = wrote.dumps;
  are = as_other wrote.replies wrote.journal wrote.dumps wrote.are;
  replied = wrote.replied;
  created = wrote.created;
  count = wrote.count;
}

-- such replies, and then these bytes
wrote-followed : (such : List ℕ → List ℕ → List Made → Type 0) (name : List ℕ) (w w' w'' : List ℕ → Type 0) (m m' m'' : List Made → Type 0) (n : ℕ) (tail : List ℕ → Type 0) (rest : List ℕ)
    → SameMade m m' → WroteFiles such name w w' m' m'' n → tail rest → Grows w' w'' rest → WroteFiles (Followed such tail) name w w'' m m'' n
wrote-followed such name w w' w'' m m' m'' n tail rest same wrote is grows = record {
  replies = wrote.replies ++ rest;
  journal = wrote.journal;
  dumps = wrote.dumps;
  are = record { before = wrote.replies; rest = rest; are = wrote.are; rest_is = is; replies_are = refl };
  replied = λ before h. subst w'' (append_assoc before wrote.replies rest) (grows (before ++ wrote.replies) (wrote.replied before h));
  created = λ none. wrote.created (same [] none);
  count = wrote.count;
}

-- The status of a halt.

-- a fault that the loop can meet, or a lack of memory
abbrev pub IsOfLoop : Status → Type 0
IsOfLoop (ReadFault inputs.Script) = ⊤
IsOfLoop (WriteFault output) = ⊤
IsOfLoop (FileFault named.Journal) = ⊤
IsOfLoop (FileFault named.Vcd) = ⊤
IsOfLoop OutOfMemory = ⊤
IsOfLoop status = ⊥

journal-of-loop : (stop : JournalStop) → IsOfLoop (of_journal stop)
journal-of-loop journal.Unwritten = tt
journal-of-loop journal.OutOfMemory = tt

unit-of-loop : (stop : UnitStop) → IsOfLoop (of_unit stop)
unit-of-loop unit.RepliesUnwritten = tt
unit-of-loop unit.JournalUnwritten = tt
unit-of-loop unit.DumpUnmade = tt
unit-of-loop unit.DumpUnwritten = tt
unit-of-loop unit.DumpUnfinished = tt
unit-of-loop unit.OutOfMemory = tt

-- what holds of such statuses, and of a script that is too long, holds of the status of a halt
halt-all : (P : Status → Type 0) (halt : Halt) (n n' : ℕ) (w w' : List ℕ → Type 0) (status : Status) → EndsByHalt halt n w n' w' status
    → ((met : Status) → IsOfLoop met → P met) → P Refused → P status
halt-all P JournalUnmade n n' w w' status told of-loop refused = subst P (sym told.0) (of-loop (FileFault named.Journal) tt)
halt-all P (Unbegun stop) n n' w w' status told of-loop refused = subst P (sym told.0) (of-loop (of_journal stop) (journal-of-loop stop))
halt-all P (Stopped Unread) n n' w w' status told of-loop refused = subst P (sym told.0) (of-loop (ReadFault inputs.Script) tt)
halt-all P (Stopped TooLong) n n' w w' status told of-loop refused = tells-all P too_long Refused n n' w w' status told refused (of-loop (WriteFault outputs.Replies) tt) (of-loop OutOfMemory tt)
halt-all P (Stopped (Unit stop)) n n' w w' status told of-loop refused = subst P (sym told.0) (of-loop (of_unit stop) (unit-of-loop stop))
halt-all P JournalUnfinished n n' w w' status told of-loop refused = subst P (sym told.0) (of-loop (FileFault named.Journal) tt)

loop-early : (status : Status) → IsOfLoop status → IsEarly status
loop-early Ended is = absurd is
loop-early Words is = absurd is
loop-early status is = tt

pub halt-early : (halt : Halt) (n n' : ℕ) (w w' : List ℕ → Type 0) (status : Status) → EndsByHalt halt n w n' w' status → IsEarly status
halt-early halt n n' w w' status told = halt-all IsEarly halt n n' w w' status told loop-early tt

-- no halt is a fault of one of the three files
loop-no_file : (says : Type 0) (status : Status) → IsOfLoop status → OnFileFault says status
loop-no_file says (ReadFault (inputs.Circuit file)) is = absurd is
loop-no_file says (FileFault (named.Circuit file)) is = absurd is
loop-no_file says status is = tt

pub halt-no_file : (says : Type 0) (halt : Halt) (n n' : ℕ) (w w' : List ℕ → Type 0) (status : Status) → EndsByHalt halt n w n' w' status → OnFileFault says status
halt-no_file says halt n n' w w' status told = halt-all (OnFileFault says) halt n n' w w' status told (loop-no_file says) tt

-- Behind three files that made a design the loop wrote what it wrote (until the sink holds `w'`, from where the files that were created
-- are `m'`), and the end of the session a refusal at most.
module _ (command : Command) (given : Given) (design : Joined) (accepted : design_of_files given.netlist given.timing given.stimulus ≡ Ok design)
    (before after : Seen) (n n' : ℕ) (w' : List ℕ → Type 0) (m' : List Made → Type 0) (same : SameMade before.made m') where
  -- what the loop wrote
  abbrev LoopWrote : (List ℕ → List ℕ → List Made → Type 0) → Type 0
  LoopWrote such = WroteFiles such command.journal before.written w' m' after.made (created_in after)

  -- what it wrote where it halted
  abbrev LoopHalted : Halt → Type 0
  LoopHalted halt = IsHalted (setup_of command design) command.journal given.script (Some given.script) (left_in after) before.written w' m' after.made (created_in after) halt

  of-design : (says : Setup → Type 0) → says (setup_of command design) → OfDesign command given says
  of-design says is = record { design = design; accepted = accepted; holds = is }

  -- what it wrote stands behind the files, and nothing was written after it
  stands : (such : Setup → List ℕ → List ℕ → List Made → Type 0) → Stays w' after.written → LoopWrote (such (setup_of command design)) → Wrote command given before after such
  stands such stays wrote =
      of-design (λ setup. WroteFiles (such setup) command.journal before.written after.written before.made after.made (created_in after))
      (wrote-between (such (setup_of command design)) command.journal before.written w' after.written before.made m' after.made (created_in after) same wrote stays)

  -- the session of the script
  whole : SessionsAreWhole → IsDesign design → Stays w' after.written → LoopWrote (IsSessionOf (setup_of command design) given.script) → ServedAll command given before after
  whole whole_sessions facts stays wrote =
      stands (λ setup. IsWhole setup given.script) stays
      (wrote-as (IsSessionOf (setup_of command design) given.script) (IsWhole (setup_of command design) given.script) command.journal before.written w' m' after.made (created_in after)
      (whole_sessions (setup_of command design) facts given.script) wrote)

  -- all was served
  pub served-all : SessionsAreWhole → IsDesign design → Stays w' after.written → length given.script ≤ 16777216 → IsAtEnd (left_in after)
      → LoopWrote (IsSessionOf (setup_of command design) given.script) → IsServed command given before after
  served-all whole_sessions facts stays short read wrote = record { short = short; read = read; session = whole whole_sessions facts stays wrote }

  -- of the line of a script that is too long such a part was written
  cut-off : (tail : List ℕ → Type 0) (rest : List ℕ) → LoopWrote (IsCutOff (setup_of command design) given.script) → tail rest → Grows w' after.written rest
      → IsScriptRefused command given tail before after
  cut-off tail rest wrote is grows =
      of-design (λ setup. WroteFiles (Followed (IsCutOff setup given.script) tail) command.journal before.written after.written before.made after.made (created_in after))
      (wrote-followed (IsCutOff (setup_of command design) given.script) command.journal before.written w' after.written before.made m' after.made (created_in after) tail rest same wrote is grows)

  cut-begun : LoopWrote (IsCutOff (setup_of command design) given.script) → GrowsByPrefix w' after.written too_long → IsScriptRefused command given (λ rest. IsPrefix rest too_long) before after
  cut-begun wrote part =
      cut-off (λ rest. IsPrefix rest too_long) (take part.0 too_long) wrote (drop part.0 too_long, sym (take-append-drop part.0 too_long)) part.1

  -- it broke off in the head of its journal
  in-head : (way : Setup → List ℕ → List ℕ → List Made → Type 0) → Stays w' after.written → LoopWrote (IsUnbegun (setup_of command design) (Some given.script) (left_in after))
      → Wrote command given before after (IsInHeadOr way given.script (left_in after))
  in-head way stays wrote =
      stands (IsInHeadOr way given.script (left_in after)) stays
      (wrote-as (IsUnbegun (setup_of command design) (Some given.script) (left_in after)) (IsInHeadOr way given.script (left_in after) (setup_of command design)) command.journal before.written w' m' after.made (created_in after)
      (λ replies journal dumps is. inl (is.unread, is.head)) wrote)

  -- or behind it, in this way
  behind-head : (way : Setup → List ℕ → List ℕ → List Made → Type 0) → Stays w' after.written → LoopWrote (way (setup_of command design))
      → Wrote command given before after (IsInHeadOr way given.script (left_in after))
  behind-head way stays wrote =
      stands (IsInHeadOr way given.script (left_in after)) stays
      (wrote-as (way (setup_of command design)) (IsInHeadOr way given.script (left_in after) (setup_of command design)) command.journal before.written w' m' after.made (created_in after)
      (λ replies journal dumps is. inr is) wrote)

  not-refused : (met status : Status) → IsOfLoop met → EndsAs met n w' n' after.written status → ¬ (status ≡ Refused)
  not-refused met status of-loop told is = subst IsOfLoop (sym told.0 ∙ is) of-loop

  -- under status 2 the script was too long, and its line was written
  pub halt-refused : (halt : Halt) (status : Status) → LoopHalted halt → EndsByHalt halt n w' n' after.written status → status ≡ Refused → IsRefused command given before after
  halt-refused JournalUnmade status halted told is = absurd (not-refused (FileFault named.Journal) status tt told is)
  halt-refused (Unbegun stop) status halted told is = absurd (not-refused (of_journal stop) status (journal-of-loop stop) told is)
  halt-refused (Stopped Unread) status halted told is = absurd (not-refused (ReadFault inputs.Script) status tt told is)
  halt-refused (Stopped TooLong) status halted told is =
      inr (cut-off (λ rest. rest ≡ too_long) too_long halted refl (tells-whole too_long Refused n n' w' after.written status told is (λ e. cc) (λ e. cc)))
  halt-refused (Stopped (Unit stop)) status halted told is = absurd (not-refused (of_unit stop) status (unit-of-loop stop) told is)
  halt-refused JournalUnfinished status halted told is = absurd (not-refused (FileFault named.Journal) status tt told is)

  -- what stands where the line of a script that is too long was told, or was not
  long-leaves : (status : Status) → LoopWrote (IsCutOff (setup_of command design) given.script) → Tells too_long Refused n w' n' after.written status → Leaves command given before after status
  long-leaves status wrote (inl tells) = subst (Leaves command given before after) (sym tells.0) tt
  long-leaves status wrote (inr (inl tells)) = subst (Leaves command given before after) (sym tells.0) (inr (inr (cut-begun wrote tells.2)))
  long-leaves status wrote (inr (inr tells)) =
      subst (Leaves command given before after) (sym tells.0) (inr (inr (inr (cut-begun wrote (grows-nothing w' after.written too_long tells.2)))))

  -- what a halt of the loop leaves
  pub halt-leaves : SessionsAreWhole → IsDesign design → (halt : Halt) (status : Status)
      → (halt ≡ JournalUnmade → Stays w' after.written → IsUntouched before after)
      → LoopHalted halt → EndsByHalt halt n w' n' after.written status → Leaves command given before after status
  halt-leaves whole_sessions facts JournalUnmade status untouched halted told =
      subst (Leaves command given before after) (sym told.0) (inl (untouched refl told.2))
  halt-leaves whole_sessions facts (Unbegun journal.Unwritten) status untouched halted told =
      subst (Leaves command given before after) (sym told.0) (in-head (λ setup. IsJournalBroken setup given.script (left_in after)) told.2 halted)
  halt-leaves whole_sessions facts (Unbegun journal.OutOfMemory) status untouched halted told =
      subst (Leaves command given before after) (sym told.0) (inr (inl (in-head (λ setup. IsBrokenIn setup given.script (left_in after)) told.2 halted)))
  halt-leaves whole_sessions facts (Stopped Unread) status untouched halted told =
      subst (Leaves command given before after) (sym told.0) (stands (λ setup. IsServedUntil setup given.script (left_in after)) told.2 halted)
  halt-leaves whole_sessions facts (Stopped TooLong) status untouched halted told = long-leaves status halted told
  halt-leaves whole_sessions facts (Stopped (Unit unit.RepliesUnwritten)) status untouched halted told =
      subst (Leaves command given before after) (sym told.0) (inl (stands (λ setup. IsBrokenIn setup given.script (left_in after)) told.2 halted))
  halt-leaves whole_sessions facts (Stopped (Unit unit.JournalUnwritten)) status untouched halted told =
      subst (Leaves command given before after) (sym told.0) (behind-head (λ setup. IsJournalBroken setup given.script (left_in after)) told.2 halted)
  halt-leaves whole_sessions facts (Stopped (Unit unit.DumpUnmade)) status untouched halted told =
      subst (Leaves command given before after) (sym told.0) (stands (λ setup. IsDumpBroken setup given.script (left_in after)) told.2 halted)
  halt-leaves whole_sessions facts (Stopped (Unit unit.DumpUnwritten)) status untouched halted told =
      subst (Leaves command given before after) (sym told.0) (stands (λ setup. IsDumpBroken setup given.script (left_in after)) told.2 halted)
  halt-leaves whole_sessions facts (Stopped (Unit unit.DumpUnfinished)) status untouched halted told =
      subst (Leaves command given before after) (sym told.0) (stands (λ setup. IsDumpBroken setup given.script (left_in after)) told.2 halted)
  halt-leaves whole_sessions facts (Stopped (Unit unit.OutOfMemory)) status untouched halted told =
      subst (Leaves command given before after) (sym told.0) (inr (inl (behind-head (λ setup. IsBrokenIn setup given.script (left_in after)) told.2 halted)))
  halt-leaves whole_sessions facts JournalUnfinished status untouched halted told =
      subst (Leaves command given before after) (sym told.0) (inr (served-all whole_sessions facts told.2 halted.0 halted.1 halted.2))

-- what is known of a halt, where the script is told
pub halted-script : (setup : Setup) (name script : List ℕ) (old_left left : Option (List ℕ)) (w w' : List ℕ → Type 0) (m m' : List Made → Type 0) (n : ℕ) (halt : Halt) → old_left ≡ Some script
    → IsHalted setup name script old_left left w w' m m' n halt → IsHalted setup name script (Some script) left w w' m m' n halt
halted-script setup name script old_left left w w' m m' n halt is halted = subst (λ (l : Option (List ℕ)). IsHalted setup name script l left w w' m m' n halt) is halted
