-- What is said of a session is said of the words that ask for it.
use Rattle.std.proofs.Common.{◌≡◌, ℕ, ◌≤◌, ◌<◌, ◌⊎◌, inl, inr, Option, Some, None, Result, Err, Ok, refl, subst, ap, option_map, ◌∙◌, sym, arith, List, length}
use Rattle.texts.specs.Made.{Made}
use Rattle.backsim_io.specs.FilesInMemory.{Places}
use Rattle.backsim_io.specs.State.{FilesState, SourceState}
use Rattle.circuit_files.specs.Files.{netlist_of, first_two, design_of_files}
use Rattle.circuit_files.specs.Stops.{AnswersFirst}
use Rattle.circuit_files.specs.Texts.{refusal_text}
use Rattle.circuit_files.specs.declared.refusal.FileRefusal.{FileRefusal}
use Rattle.design.specs.Joined.{Joined}
use Rattle.command_words.specs.Words.{Text, Form, Session, Workload}
use Rattle.command_words.specs.Answer.{form_in}
use Rattle.command_words.specs.declared.Words.{Words as Asked}
use Rattle.session_loop.specs.Outside.{Outside}
use Rattle.backsim.specs.Broken.{Leaves, LeavesOpen, OnFileFault}
use Rattle.backsim.specs.Cause.{counts_in, NoneRose, Explains}
use Rattle.backsim.specs.Commands.{Command, command_of}
use Rattle.backsim.specs.Refused.{IsRefused, RefusesFiles}
use Rattle.backsim.specs.Seen.{Seen, files_in, bytes_in, IsUntouched}
use Rattle.backsim.specs.Texts.{usage}
use Rattle.backsim.specs.Serves.{ServesSession, ServesWorkload, Serves}
use Rattle.backsim.specs.Session.{Given, AreGiven, IsServed}
use Rattle.backsim.specs.inner.Stops.{Tells}
use Rattle.backsim.proofs.Ends.{grows-nothing, tells-whole, tells-part, ok-first, IsEarly, early-not_ended}
use Rattle.session_loop.proofs.Callers.{none-unfinished}
use Rattle.backsim.proofs.Explained.{outside_at, none-open}
use Rattle.backsim.specs.declared.status.Input.TheVariants as inputs
use Rattle.backsim.specs.declared.status.Output.TheVariants as outputs
use Rattle.backsim.specs.declared.status.NamedFile.TheVariants as named
use Rattle.backsim.specs.declared.status.Status.{Status}
use Rattle.backsim.specs.declared.status.Status.TheVariants.{Ended, Words, Refused, ReadFault, WriteFault, FileFault, OutOfMemory}

-- without a fault and a refusal a session ends, or wants memory
pub ends-well : (files_read : ℕ) (old new : Outside) (status : Status) → Explains files_read old new status → NoneRose (counts_in old) (counts_in new) → (status ≡ Words → ⊥) → (status ≡ Refused → ⊥)
    → (status ≡ Ended) ⊎ (status ≡ OutOfMemory)
ends-well files_read old new Ended e none no_usage refused = inl refl
ends-well files_read old new Words e none no_usage refused = absurd (no_usage refl)
ends-well files_read old new Refused e none no_usage refused = absurd (refused refl)
ends-well files_read old new (ReadFault (inputs.Circuit file)) e none no_usage refused = absurd (none.read e.0)
ends-well files_read old new (ReadFault inputs.Script) e none no_usage refused = absurd (none.script e)
ends-well files_read old new (WriteFault outputs.Replies) e none no_usage refused = absurd (none.replies e)
ends-well files_read old new (WriteFault outputs.Journal) e none no_usage refused = absurd (none.write e)
ends-well files_read old new (WriteFault outputs.Vcd) e none no_usage refused = absurd (none.write e)
ends-well files_read old new (FileFault (named.Circuit file)) e none no_usage refused = absurd (none.file e.0)
ends-well files_read old new (FileFault named.Journal) e none no_usage refused = absurd (none.file e.0)
ends-well files_read old new (FileFault named.Vcd) e none no_usage refused = absurd (none.file e.0)
ends-well files_read old new OutOfMemory e none no_usage refused = inr refl

-- the form that an answer names
pub form-said : (form : Option Asked) (inner given : Asked) (asked : Option Form) → form ≡ Some inner → inner ≡ given → option_map form_in form ≡ asked → Some (form_in given) ≡ asked
form-said form inner given asked is inner_is said = ap (option_map form_in) (sym (is ∙ ap Some inner_is)) ∙ said

-- words that no form was answered to
pub none-said : (form : Option Asked) (asked : Option Form) → form ≡ None → option_map form_in form ≡ asked → None ≡ asked
none-said form asked is said = ap (option_map form_in) (sym is) ∙ said

pub ok-not-err : (said : Result Joined FileRefusal) (design : Joined) (refusal : FileRefusal) → said ≡ Ok design → said ≡ Err refusal → ⊥
ok-not-err said design refusal ok err = let same : Ok design ≡ Err refusal = sym ok ∙ err in cc

-- files that make a design, and a script that is short enough, are not refused
not-refused : (command : Command) (given : Given) (design : Joined) (before after : Seen)
    → design_of_files given.netlist given.timing given.stimulus ≡ Ok design → length given.script ≤ 16777216 → IsRefused command given before after → ⊥
not-refused command given design before after accepted short (inl files) = ok-not-err _ design files.refusal accepted files.refused
not-refused command given design before after accepted short (inr script) =
    let long : 16777216 < length given.script = script.holds.are.are.long in
    omega (arith, long, short)

-- a session without a fault, of files and a script that are accepted
pub session-complete : (command : Command) (before after : Seen) (status : Status) → Explains 3 before.outside after.outside status → (status ≡ Words → ⊥)
    → ((given : Given) → AreGiven before command given → status ≡ Refused → IsRefused command given before after)
    → (given : Given) (design : Joined) → AreGiven before command given
    → design_of_files given.netlist given.timing given.stimulus ≡ Ok design → length given.script ≤ 16777216
    → NoneRose (counts_in before.outside) (counts_in after.outside) → (status ≡ Ended) ⊎ (status ≡ OutOfMemory)
session-complete command before after status explains usage refused given design are accepted short none =
    ends-well 3 before.outside after.outside status explains none usage
    (λ told. not-refused command given design before after accepted short (refused given are told))

-- What is said of a session whose files were accepted: nothing of them is refused.
pub record OfAccepted (command : Command) (before after : Seen) (status : Status) : Type 0 where
  pub ended : (given : Given) → AreGiven before command given → status ≡ Ended → IsServed command given before after
  pub refused : (given : Given) → AreGiven before command given → status ≡ Refused → IsRefused command given before after
  pub script_refused : (given : Given) → AreGiven before command given → 16777216 < length given.script → ¬ (status ≡ Ended)
  pub no_usage : ¬ (status ≡ Words)
  pub cause : Explains 3 before.outside after.outside status
  pub leaves : (given : Given) → AreGiven before command given → Leaves command given before after status
  pub untouched : OnFileFault (IsUntouched before after) status
  pub unfinished : LeavesOpen (files_in after) status

pub of-accepted : (command : Command) (before after : Seen) (status : Status) (design : Joined) (started : ℕ)
    → ((first : List ℕ) → bytes_in before command.netlist ≡ Some first → AnswersFirst {A = Joined} 1 started (Ok design) (netlist_of first))
    → ((first second : List ℕ) → bytes_in before command.netlist ≡ Some first → bytes_in before command.timing ≡ Some second → AnswersFirst {A = Joined} 2 started (Ok design) (first_two first second))
    → ((first second third : List ℕ) → bytes_in before command.netlist ≡ Some first → bytes_in before command.timing ≡ Some second → bytes_in before command.stimulus ≡ Some third
    → design_of_files first second third ≡ Ok design)
    → OfAccepted command before after status → ServesSession command before after status
of-accepted command before after status design started first two all says = record {
  ended = says.ended;
  refused = says.refused;
  netlist_refused = λ refusal one held is. absurd (ok-first 1 design (netlist_of one) refusal started (first one held) is);
  timing_refused = λ refusal one second held held_second is. absurd (ok-first 2 design (first_two one second) refusal started (two one second held held_second) is);
  files_refused = λ refusal one second third held held_second held_third is. absurd (ok-not-err (design_of_files one second third) design refusal (all one second third held held_second held_third) is);
  script_refused = says.script_refused;
  no_usage = says.no_usage;
  cause = says.cause;
  leaves = says.leaves;
  untouched = says.untouched;
  unfinished = says.unfinished;
  complete = session-complete command before after status says.cause says.no_usage says.refused;
}

-- a session that ended early did not end well
pub early-serves : (command : Command) (given : Given) (before after : Seen) (status : Status) → IsEarly status → status ≡ Ended → IsServed command given before after
early-serves command given before after status early is = absurd (early-not_ended status early is)

-- a session that ended
pub ended-no-usage : ¬ (Ended ≡ Words)
ended-no-usage is = let e : Ended ≡ Words = is in cc

pub no-refusal : (command : Command) (given : Given) (before after : Seen) → Ended ≡ Refused → IsRefused command given before after
no-refusal command given before after is = absurd (let e : Ended ≡ Refused = is in cc)

pub short-script : (given : Given) → length given.script ≤ 16777216 → 16777216 < length given.script → ¬ (Ended ≡ Ended)
short-script given short long is = omega (arith, short, long)

-- What holds of the answer that names a form holds of the words.

pub on-session : (before after : Seen) (status : Status) (form : Option Form) (netlist timing stimulus journal : Text) (workers shards cells : ℕ)
    → Some (Session netlist timing stimulus journal workers shards cells) ≡ form → ServesSession (command_of netlist timing stimulus journal workers shards cells) before after status
    → Serves form before after status
on-session before after status form netlist timing stimulus journal workers shards cells is serves = subst (λ (f : Option Form). Serves f before after status) is serves

pub on-workload : (before after : Seen) (status : Status) (form : Option Form) (number : ℕ) (journal : Text) (workers : ℕ)
    → Some (Workload number journal workers) ≡ form → ServesWorkload number journal before after status → Serves form before after status
on-workload before after status form number journal workers is serves = subst (λ (f : Option Form). Serves f before after status) is serves

-- words of no form
pub on-usage : (script : SourceState) (replies new_replies : ℕ) (files : FilesState) (w w' : List ℕ → Type 0) (m : List Made → Type 0) (status : Status) (form : Option Form) → None ≡ form
    → Tells usage Words replies w new_replies w' status
    → Serves form (record { outside = outside_at script replies files; written = w; made = m }) (record { outside = outside_at script new_replies files; written = w'; made = m }) status
on-usage script replies new_replies files w w' m status form is told =
    subst (λ (f : Option Form). Serves f (record { outside = outside_at script replies files; written = w; made = m }) (record { outside = outside_at script new_replies files; written = w'; made = m }) status) is
    (record {
      ends = ends-usage told;
      whole = λ ended. tells-whole usage Words replies new_replies w w' status told ended (λ e. cc) (λ e. cc);
      part = tells-part usage Words replies new_replies w w' status told;
      cause = usage-cause told;
    })
  where
    ends-usage : Tells usage Words replies w new_replies w' status → (status ≡ Words) ⊎ ((status ≡ WriteFault outputs.Replies) ⊎ (status ≡ OutOfMemory))
    ends-usage (inl tells) = inl tells.0
    ends-usage (inr (inl tells)) = inr (inl tells.0)
    ends-usage (inr (inr tells)) = inr (inr tells.0)

    usage-cause : Tells usage Words replies w new_replies w' status → Explains 0 (outside_at script replies files) (outside_at script new_replies files) status
    usage-cause (inl tells) =
        subst (λ (s : Status). Explains 0 (outside_at script replies files) (outside_at script new_replies files) s) (sym tells.0)
        (record { script = refl; replies = tells.1; file = refl; read = refl; write = refl })
    usage-cause (inr (inl tells)) = subst (λ (s : Status). Explains 0 (outside_at script replies files) (outside_at script new_replies files) s) (sym tells.0) tells.1
    usage-cause (inr (inr tells)) = subst (λ (s : Status). Explains 0 (outside_at script replies files) (outside_at script new_replies files) s) (sym tells.0) tt

-- nothing was refused, since nothing was read
none-refused : (before : Seen) (n : ℕ) (refusal : FileRefusal) → (files_in before).started ≡ 0 → RefusesFiles n refusal before before OutOfMemory
none-refused before n refusal none = record {
  ends = omega (arith, none);
  line = λ is. absurd (let e : OutOfMemory ≡ Refused = is in cc);
  part = grows-nothing before.written before.written (refusal_text refusal) (λ start h. h);
  unread = refl;
  same_files = λ start h. h;
  no_file = refl;
}

-- there was no memory to read the words
pub no-memory : (before : Seen) (form : Option Form) → (files_in before).started ≡ 0 → (files_in before).created ≡ 0 → Places (files_in before).created (files_in before).unfinished → Serves form before before OutOfMemory
no-memory before None started created places = record {
  ends = inr (inr refl);
  whole = λ is. absurd (let e : OutOfMemory ≡ Words = is in cc);
  part = grows-nothing before.written before.written usage (λ start h. h);
  cause = tt;
}
no-memory before (Some (Workload number journal workers)) started created places = record {
  ended = λ is. absurd (let e : OutOfMemory ≡ Ended = is in cc);
  one = λ is. absurd (let e : OutOfMemory ≡ Ended = is in cc);
  finished = λ is. absurd (let e : OutOfMemory ≡ Ended = is in cc);
  cause = tt;
  leaves = inl (record { unreplied = λ start h. h; same_files = λ start h. h; no_file = refl });
  unread = refl;
}
no-memory before (Some (Session netlist timing stimulus journal workers shards cells)) started created places =
    let untouched : IsUntouched before before = record { unread = refl; unreplied = λ start h. h; same_files = λ start h. h; no_file = refl } in
    record {
      ended = λ given are is. absurd (let e : OutOfMemory ≡ Ended = is in cc);
      refused = λ given are is. absurd (let e : OutOfMemory ≡ Refused = is in cc);
      netlist_refused = λ refusal first held is. none-refused before 1 refusal started;
      timing_refused = λ refusal first second held_first held_second is. none-refused before 2 refusal started;
      files_refused = λ refusal first second third held_first held_second held_third is. none-refused before 3 refusal started;
      script_refused = λ given are long is. let e : OutOfMemory ≡ Ended = is in cc;
      no_usage = λ is. let e : OutOfMemory ≡ Words = is in cc;
      cause = tt;
      leaves = λ given are. inl untouched;
      untouched = tt;
      unfinished = none-open (files_in before) (none-unfinished (files_in before).created (files_in before).unfinished created places);
      complete = λ given design are accepted short none. inr refl;
    }
