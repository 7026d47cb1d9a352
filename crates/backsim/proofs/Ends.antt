-- What stands where a session stops, and what its end writes.
use Rattle.std.proofs.Common.{◌≡◌, ◌≤◌, ◌<◌, ◌+◌, arith, ap, ℕ, lit≤, List, length, Some, Result, Ok, Err, inl, inr, refl, sym, subst, ◌∙◌, append-nil}
use Rattle.std.specs.Prelude.{⊤}
use Rattle.std.proofs.Math.Seq.{take-length}
use Rattle.backsim_io.specs.Counts.{Grows, GrowsByPrefix, Stays}
use Rattle.backsim_io.specs.FilesInMemory.{SameMade}
use Rattle.backsim_io.specs.State.{FilesState}
use Rattle.design.specs.Joined.{Joined}
use Rattle.circuit_files.specs.Changes.{StopChanges}
use Rattle.circuit_files.specs.Files.{design_of_files}
use Rattle.circuit_files.specs.Stops.{before as files_before, IsAnswerOf, AnswersFirst, RefusesOnly}
use Rattle.circuit_files.specs.Texts.{refusal_text}
use Rattle.circuit_files.specs.declared.refusal.CircuitFile.{CircuitFile}
use Rattle.circuit_files.specs.declared.refusal.CircuitFile.TheVariants as circuit
use Rattle.circuit_files.specs.declared.refusal.FileRefusal.{FileRefusal}
use Rattle.circuit_files.specs.declared.stop.FilesStop.{FilesStop}
use Rattle.circuit_files.specs.declared.stop.FilesStop.TheVariants as files
use Rattle.backsim.specs.Broken.{Leaves, OnFileFault}
use Rattle.backsim.specs.Commands.{Command}
use Rattle.backsim.specs.Seen.{Seen, files_in, left_in, created_in, IsUntouched}
use Rattle.backsim.specs.Refused.{AreRefused, EndsFiles, RefusesFiles}
use Rattle.backsim.specs.Session.{Given}
use Rattle.backsim.specs.inner.Stops.{Tells, EndsByFiles}
use Rattle.backsim.specs.declared.status.Input.TheVariants as inputs
use Rattle.backsim.specs.declared.status.Output.TheVariants as outputs
use Rattle.backsim.specs.declared.status.NamedFile.TheVariants as named
use Rattle.backsim.specs.declared.status.Status.{Status}
use Rattle.backsim.specs.declared.status.Status.TheVariants.{Ended, Words, Refused, ReadFault, WriteFault, FileFault, OutOfMemory}

-- what was written whole was written in part
pub grows-whole : (w w' : List ℕ → Type 0) (text : List ℕ) → Grows w w' text → GrowsByPrefix w w' text
grows-whole w w' text grows = (length text, subst (Grows w w') (sym (take-length text)) grows)

pub grows-nothing : (w w' : List ℕ → Type 0) (text : List ℕ) → Stays w w' → GrowsByPrefix w w' text
grows-nothing w w' text stays = (0, λ before h. subst w' (sym (append-nil before)) (stays before h))

-- what holds of each status that the telling of a text may end with holds of the one that it ended with
pub tells-all : (P : Status → Type 0) (text : List ℕ) (told : Status) (n n' : ℕ) (w w' : List ℕ → Type 0) (status : Status) → Tells text told n w n' w' status
    → P told → P (WriteFault outputs.Replies) → P OutOfMemory → P status
tells-all P text told n n' w w' status (inl tells) whole part none = subst P (sym tells.0) whole
tells-all P text told n n' w w' status (inr (inl tells)) whole part none = subst P (sym tells.0) part
tells-all P text told n n' w w' status (inr (inr tells)) whole part none = subst P (sym tells.0) none

-- under its own status the text was written
pub tells-whole : (text : List ℕ) (told : Status) (n n' : ℕ) (w w' : List ℕ → Type 0) (status : Status) → Tells text told n w n' w' status
    → status ≡ told → ¬ (WriteFault outputs.Replies ≡ told) → ¬ (OutOfMemory ≡ told) → Grows w w' text
tells-whole text told n n' w w' status (inl tells) is not-part not-none = tells.2
tells-whole text told n n' w w' status (inr (inl tells)) is not-part not-none = absurd (not-part (sym tells.0 ∙ is))
tells-whole text told n n' w w' status (inr (inr tells)) is not-part not-none = absurd (not-none (sym tells.0 ∙ is))

-- and else a part of it at most
pub tells-part : (text : List ℕ) (told : Status) (n n' : ℕ) (w w' : List ℕ → Type 0) (status : Status) → Tells text told n w n' w' status → GrowsByPrefix w w' text
tells-part text told n n' w w' status (inl tells) = grows-whole w w' text tells.2
tells-part text told n n' w w' status (inr (inl tells)) = tells.2
tells-part text told n n' w w' status (inr (inr tells)) = grows-nothing w w' text tells.2

-- the statuses that a session that stopped does not end with: 0 and 1
abbrev pub IsEarly : Status → Type 0
IsEarly Ended = ⊥
IsEarly Words = ⊥
IsEarly status = ⊤

pub early-not_ended : (status : Status) → IsEarly status → status ≡ Ended → ⊥
early-not_ended status early is = subst IsEarly is early

pub early-no_usage : (status : Status) → IsEarly status → status ≡ Words → ⊥
early-no_usage status early is = subst IsEarly is early

-- The files made no design.

pub files-early : (stop : FilesStop) (n n' : ℕ) (w w' : List ℕ → Type 0) (status : Status) → EndsByFiles stop n w n' w' status → IsEarly status
files-early (files.Refused refusal) n n' w w' status told = tells-all IsEarly (refusal_text refusal) Refused n n' w w' status told tt tt tt
files-early (files.NotOpened file) n n' w w' status told = subst IsEarly (sym told.0) tt
files-early (files.Unread file) n n' w w' status told = subst IsEarly (sym told.0) tt
files-early files.OutOfMemory n n' w w' status told = subst IsEarly (sym told.0) tt

-- under status 2 their refusal was told
files-told : (stop : FilesStop) (n n' : ℕ) (w w' : List ℕ → Type 0) (status : Status) → EndsByFiles stop n w n' w' status → status ≡ Refused
    → (refusal : FileRefusal) × (stop ≡ files.Refused refusal) × Grows w w' (refusal_text refusal)
files-told (files.Refused refusal) n n' w w' status told is = (refusal, refl, tells-whole (refusal_text refusal) Refused n n' w w' status told is (λ e. cc) (λ e. cc))
files-told (files.NotOpened file) n n' w w' status told is = absurd (let e : FileFault (named.Circuit file) ≡ Refused = sym told.0 ∙ is in cc)
files-told (files.Unread file) n n' w w' status told is = absurd (let e : ReadFault (inputs.Circuit file) ≡ Refused = sym told.0 ∙ is in cc)
files-told files.OutOfMemory n n' w w' status told is = absurd (let e : OutOfMemory ≡ Refused = sym told.0 ∙ is in cc)

-- What stands where the files made no design: no file was created, and the script is unread.
pub record NoneCreated (before after : Seen) : Type 0 where
  pub unread : left_in after ≡ left_in before
  pub same_files : SameMade before.made after.made
  pub no_file : created_in after ≡ created_in before

module _ (before after : Seen) (none : NoneCreated before after) (n n' : ℕ) where
  -- nothing was replied either
  untouched : Stays before.written after.written → IsUntouched before after
  untouched unreplied = record { unread = none.unread; unreplied = unreplied; same_files = none.same_files; no_file = none.no_file }

  pub files-refused : (given : Given) (stop : FilesStop) (status : Status)
      → IsAnswerOf {A = Joined} (Err stop) (design_of_files given.netlist given.timing given.stimulus) → left_in before ≡ Some given.script
      → EndsByFiles stop n before.written n' after.written status → status ≡ Refused → AreRefused given Grows before after
  files-refused given stop status said script told is =
      let r = files-told stop n n' before.written after.written status told is in record {
        refusal = r.0;
        refused = subst (λ (s : FilesStop). IsAnswerOf {A = Joined} (Err s) (design_of_files given.netlist given.timing given.stimulus)) r.1 said;
        line = r.2;
        unread = none.unread ∙ script;
        same_files = none.same_files;
      }

  -- what the end of a refusal of the files leaves
  told-leaves : (command : Command) (given : Given) (refusal : FileRefusal) (status : Status)
      → design_of_files given.netlist given.timing given.stimulus ≡ Err refusal → left_in before ≡ Some given.script
      → Tells (refusal_text refusal) Refused n before.written n' after.written status → Leaves command given before after status
  told-leaves command given refusal status said script (inl tells) = subst (Leaves command given before after) (sym tells.0) tt
  told-leaves command given refusal status said script (inr (inl tells)) =
      subst (Leaves command given before after) (sym tells.0)
      (inr (inl (record { refusal = refusal; refused = said; line = tells.2; unread = none.unread ∙ script; same_files = none.same_files })))
  told-leaves command given refusal status said script (inr (inr tells)) = subst (Leaves command given before after) (sym tells.0) (inl (untouched tells.2))

  pub files-leave : (command : Command) (given : Given) (stop : FilesStop) (status : Status)
      → IsAnswerOf {A = Joined} (Err stop) (design_of_files given.netlist given.timing given.stimulus) → left_in before ≡ Some given.script
      → EndsByFiles stop n before.written n' after.written status → Leaves command given before after status
  files-leave command given (files.Refused refusal) status said script told = told-leaves command given refusal status said script told
  files-leave command given (files.Unread file) status said script told = subst (Leaves command given before after) (sym told.0) (untouched told.2)
  files-leave command given (files.NotOpened file) status said script told = subst (Leaves command given before after) (sym told.0) (untouched told.2)
  files-leave command given files.OutOfMemory status said script told = subst (Leaves command given before after) (sym told.0) (inl (untouched told.2))

  pub files-untouched : (stop : FilesStop) (status : Status) → EndsByFiles stop n before.written n' after.written status → OnFileFault (IsUntouched before after) status
  files-untouched (files.Refused refusal) status told =
      tells-all (OnFileFault (IsUntouched before after)) (refusal_text refusal) Refused n n' before.written after.written status told tt tt tt
  files-untouched (files.Unread file) status told = subst (OnFileFault (IsUntouched before after)) (sym told.0) (untouched told.2)
  files-untouched (files.NotOpened file) status told = subst (OnFileFault (IsUntouched before after)) (sym told.0) (untouched told.2)
  files-untouched files.OutOfMemory status told = subst (OnFileFault (IsUntouched before after)) (sym told.0) tt

-- Where the first n files are refused.

-- none behind them was opened
abbrev pub OpensFirst : ℕ → ℕ → FilesStop → Type 0
OpensFirst n started (files.Refused refusal) = started ≤ n
OpensFirst n started (files.NotOpened file) = started < n
OpensFirst n started (files.Unread file) = started ≤ n
OpensFirst n started files.OutOfMemory = started ≤ n

-- the stop refuses them, or is a fault of one of them or a lack of memory, and none behind them was opened
pub record StopsFirst (n : ℕ) (refusal : FileRefusal) (started : ℕ) (stop : FilesStop) : Type 0 where
  pub only : RefusesOnly refusal stop
  pub order : OpensFirst n started stop

pub first-refuses : {B : Type 0} (n : ℕ) (old new : FilesState) (stop : FilesStop) (said : Result B FileRefusal) (refusal : FileRefusal) → StopChanges old new stop
    → AnswersFirst {A = Joined} n new.started (Err stop) said → said ≡ Err refusal → StopsFirst n refusal new.started stop
first-refuses n old new (files.Refused given) said refusal changes answers is =
    let first = subst (AnswersFirst {A = Joined} n new.started (Err (files.Refused given))) is answers in record { only = first.0; order = first.1 }
first-refuses n old new (files.Unread file) said refusal changes answers is =
    let first = subst (AnswersFirst {A = Joined} n new.started (Err (files.Unread file))) is answers in
    let opened : new.started ≡ files_before file + 1 = ap (λ (s : FilesState). s.started) changes.same in
    record { only = tt; order = omega (arith, first, opened) }
first-refuses n old new (files.NotOpened file) said refusal changes answers is =
    let first = subst (AnswersFirst {A = Joined} n new.started (Err (files.NotOpened file))) is answers in
    let opened : new.started ≡ files_before file = ap (λ (s : FilesState). s.started) changes.same in
    record { only = tt; order = omega (arith, first, opened) }
first-refuses n old new files.OutOfMemory said refusal changes answers is =
    record { only = tt; order = subst (AnswersFirst {A = Joined} n new.started (Err files.OutOfMemory)) is answers }

-- files that make a design are not refused
pub ok-first : {B : Type 0} (n : ℕ) (design : Joined) (said : Result B FileRefusal) (refusal : FileRefusal) (started : ℕ) → AnswersFirst {A = Joined} n started (Ok design) said → said ≡ Err refusal → ⊥
ok-first n design said refusal started answers is = subst (AnswersFirst {A = Joined} n started (Ok design)) is answers

err-same : (said : Result Joined FileRefusal) (a b : FileRefusal) → said ≡ Err a → said ≡ Err b → a ≡ b
err-same said a b p q = cc

place-within : (file : CircuitFile) → files_before file < 3
place-within circuit.Netlist = lit≤ tt
place-within circuit.Timing = lit≤ tt
place-within circuit.Stimulus = lit≤ tt

pub all-refuse : (old new : FilesState) (stop : FilesStop) (said : Result Joined FileRefusal) (refusal : FileRefusal) → StopChanges old new stop
    → IsAnswerOf {A = Joined} (Err stop) said → said ≡ Err refusal → StopsFirst 3 refusal new.started stop
all-refuse old new (files.Refused given) said refusal changes answers is =
    let opened : new.started ≡ changes.many = ap (λ (s : FilesState). s.started) changes.opened in
    record { only = err-same said given refusal answers is; order = omega (arith, opened, changes.within) }
all-refuse old new (files.Unread file) said refusal changes answers is =
    let opened : new.started ≡ files_before file + 1 = ap (λ (s : FilesState). s.started) changes.same in
    record { only = tt; order = omega (arith, opened, place-within file) }
all-refuse old new (files.NotOpened file) said refusal changes answers is =
    let opened : new.started ≡ files_before file = ap (λ (s : FilesState). s.started) changes.same in
    record { only = tt; order = omega (arith, opened, place-within file) }
all-refuse old new files.OutOfMemory said refusal changes answers is =
    let opened : new.started ≡ changes.many = ap (λ (s : FilesState). s.started) changes.opened in
    record { only = tt; order = omega (arith, opened, changes.within) }

files-end : (n started k k' : ℕ) (stop : FilesStop) (w w' : List ℕ → Type 0) (status : Status) → OpensFirst n started stop → EndsByFiles stop k w k' w' status → EndsFiles n started status
files-end n started k k' (files.Refused refusal) w w' status order told = tells-all (EndsFiles n started) (refusal_text refusal) Refused k k' w w' status told order order order
files-end n started k k' (files.Unread file) w w' status order told = subst (EndsFiles n started) (sym told.0) order
files-end n started k k' (files.NotOpened file) w w' status order told = subst (EndsFiles n started) (sym told.0) order
files-end n started k k' files.OutOfMemory w w' status order told = subst (EndsFiles n started) (sym told.0) order

end-part : (stop : FilesStop) (refusal : FileRefusal) (n n' : ℕ) (w w' : List ℕ → Type 0) (status : Status) → RefusesOnly refusal stop → EndsByFiles stop n w n' w' status
    → GrowsByPrefix w w' (refusal_text refusal)
end-part (files.Refused given) refusal n n' w w' status only told = subst (λ (r : FileRefusal). GrowsByPrefix w w' (refusal_text r)) only (tells-part (refusal_text given) Refused n n' w w' status told)
end-part (files.Unread file) refusal n n' w w' status only told = grows-nothing w w' (refusal_text refusal) told.2
end-part (files.NotOpened file) refusal n n' w w' status only told = grows-nothing w w' (refusal_text refusal) told.2
end-part files.OutOfMemory refusal n n' w w' status only told = grows-nothing w w' (refusal_text refusal) told.2

end-line : (stop : FilesStop) (refusal : FileRefusal) (n n' : ℕ) (w w' : List ℕ → Type 0) (status : Status) → RefusesOnly refusal stop → EndsByFiles stop n w n' w' status → status ≡ Refused
    → Grows w w' (refusal_text refusal)
end-line stop refusal n n' w w' status only told is =
    let r = files-told stop n n' w w' status told is in
    let same : r.0 ≡ refusal = subst (RefusesOnly refusal) r.1 only in
    subst (λ (x : FileRefusal). Grows w w' (refusal_text x)) same r.2

pub files-refuse : (before after : Seen) → NoneCreated before after → (k k' n : ℕ) (stop : FilesStop) (refusal : FileRefusal) (status : Status)
    → StopsFirst n refusal (files_in after).started stop → EndsByFiles stop k before.written k' after.written status → RefusesFiles n refusal before after status
files-refuse before after none k k' n stop refusal status first told = record {
  ends = files-end n (files_in after).started k k' stop before.written after.written status first.order told;
  line = end-line stop refusal k k' before.written after.written status first.only told;
  part = end-part stop refusal k k' before.written after.written status first.only told;
  unread = none.unread;
  same_files = none.same_files;
  no_file = none.no_file;
}
