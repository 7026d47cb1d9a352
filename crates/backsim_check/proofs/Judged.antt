-- What judging the four files comes to, and how a call ends.
use Rattle.std.proofs.Common.{◌≡◌, ℕ, List, Option, Result, Ok, Err, length, sym, ap, subst, ◌∙◌, arith, inl, inr, refl, append-nil}
use Rattle.circuit_files.specs.Texts.{refusal_text}
use Rattle.backsim_check.specs.Given.{Names, Given}
use Rattle.backsim_check.specs.Texts.{too_long}
use Rattle.backsim_check.specs.Refused.{IfRefused, EndsRefused, IsAnswer}
use Rattle.backsim_io.specs.State.{FilesState}
use Rattle.design.specs.Joined.{Joined}
use Rattle.circuit_files.specs.Changes.{Opened, OpenedUpTo}
use Rattle.circuit_files.specs.Files.{design_of_files}
use Rattle.backsim_check.specs.Answers.{IsShort, IsYes, WritesNothing, IsProved, IsUnproved, IsCut, EndsAs}
use Rattle.backsim_check.specs.Changes.{ChangesFiles, CountsFaults}
use Rattle.backsim_check.specs.inner.Judged.{ReadsAll, IsOther, Gives, IsJudged, EndsStopped, IsDue, HasLine, Judges}
use Rattle.backsim_check.specs.declared.judging.Verdict.{Verdict}
use Rattle.backsim_check.specs.declared.reading.Inputs.{Inputs}
use Rattle.backsim_check.specs.declared.reading.CheckStop.{CheckStop}
use Rattle.backsim_check.specs.declared.reading.CheckStop.TheVariants as stops
use Rattle.backsim_check.specs.declared.status.CheckStatus.{CheckStatus}
use Rattle.backsim_check.specs.declared.status.CheckStatus.TheVariants.{Yes, Refused, ReadFault, FileFault, OutOfMemory, No, Words, WriteFault}
use Rattle.std.proofs.Math.Seq.{take-length}
use Rattle.texts.specs.Made.{Made}
use Rattle.backsim_io.specs.Counts.{Grows, GrowsByPrefix}
use Rattle.backsim_io.specs.FilesInMemory.{SameMade}
use Rattle.why_proofs.specs.Laws.{VerdictsAreFixed}
use Rattle.backsim_check.specs.Checks.{IsTold, Writes, ChecksProof}
use Rattle.backsim_check.specs.Seen.{Output, Seen}
use Rattle.backsim_check.proofs.Clashes.{proved-not-unproved, proved-not-refused, unproved-not-refused}

-- what follows from what is said of refused files
refused-more : (bytes : List ℕ → Option (List ℕ)) (names : Names) (P Q : ℕ → List ℕ → Type 0) → ((n : ℕ) (line : List ℕ) → P n line → Q n line) → IfRefused bytes names P → IfRefused bytes names Q
refused-more bytes names P Q more h = record {
  netlist = λ refusal first held is. more 1 (refusal_text refusal) (h.netlist refusal first held is);
  timing = λ refusal first second held_first held_second is. more 2 (refusal_text refusal) (h.timing refusal first second held_first held_second is);
  circuit = λ refusal given are is. more 3 (refusal_text refusal) (h.circuit refusal given are is);
  proof = λ design given text are is long. more 4 too_long (h.proof design given text are is long);
}

-- what is given under a status is yes or no
on-given : (P : CheckStatus → Type 0) (d : Joined) (text line : List ℕ) (status : CheckStatus) → P Yes → P No → Gives d text status line → P status
on-given P d text line Yes as_yes as_no gives = as_yes
on-given P d text line No as_yes as_no gives = as_no
on-given P d text line _ as_yes as_no gives = absurd gives

-- it is due for the files that were read
given-due : (given : Given) (proof : List ℕ) (d : Joined) (text line : List ℕ) (status : CheckStatus) → design_of_files given.netlist given.timing given.stimulus ≡ Ok d → text ≡ proof → IsShort text
    → Gives d text status line → IsDue given proof status line
given-due given proof d text line Yes accepted is short gives = (subst IsShort is short, record { design = d; accepted = accepted; holds = subst (λ (l : List ℕ). IsYes d l line) is gives.0 })
given-due given proof d text line No accepted is short gives = (subst IsShort is short, record { design = d; accepted = accepted; holds = subst (λ (l : List ℕ). IsOther d l line) is gives })
given-due given proof d text line _ accepted is short gives = absurd gives

module _ (names : Names) (old new : FilesState) (result : Result Verdict CheckStatus) where
  -- nothing is written
  silent : (status : CheckStatus) → result ≡ Err status → WritesNothing status → ChangesFiles old new status → IfRefused old.bytes names (λ n line. EndsRefused n new.started status) → Judges names old new result
  silent status is nothing changes refused =
      subst (Judges names old new) (sym is) (record { holds = λ given are. tt; due = λ given proof are. tt; ends = nothing; refused = refused; changes = changes })

-- the proof was judged
pub read-judged : (names : Names) (old new : FilesState) (inputs : Inputs) (result : Result Verdict CheckStatus) → ReadsAll names old new (Ok inputs) → IsJudged inputs.design inputs.text.items result → Judges names old new result
read-judged names old new inputs (Err status) reads judged =
    silent names old new (Err status) OutOfMemory (ap Err judged) tt (record { many = 4; within = omega arith; opened = reads.changes }) (refused-more old.bytes names (λ n line. ⊥) _ (λ n line none. absurd none) reads.refused)
read-judged names old new inputs (Ok verdict) reads gives =
    let d = inputs.design in
    let text = inputs.text.items in
    record {
      holds = λ given are yes. record {
        design = d;
        accepted = reads.design given are;
        holds = (let is : Gives d text Yes verdict.line.items = subst (λ (s : CheckStatus). Gives d text s verdict.line.items) yes gives in is.1);
      };
      due = λ given proof are. given-due given proof d text verdict.line.items verdict.status (reads.design given are.circuit) (reads.text proof are.proof_is) reads.short gives;
      ends = on-given HasLine d text verdict.line.items verdict.status tt tt gives;
      refused = refused-more old.bytes names (λ n line. ⊥) _ (λ n line none. absurd none) reads.refused;
      changes = on-given (ChangesFiles old new) d text verdict.line.items verdict.status reads.changes reads.changes gives;
    }

-- it was not
pub stop-judged : (names : Names) (old new : FilesState) (stop : CheckStop) (result : Result Verdict CheckStatus) → ReadsAll names old new (Err stop) → EndsStopped stop result → Judges names old new result
stop-judged names old new (stops.Refused refusal) (Ok verdict) reads ends = record {
  holds = λ given are yes. absurd (let is : Refused ≡ Yes = sym ends.0 ∙ yes in cc);
  due = λ given proof are. rw (ends.0, ends.1) (reads.right given proof are);
  ends = rw ends.0 tt;
  refused = refused-more old.bytes names _ _ (λ n line first. (ends.0, ends.1 ∙ first.0, first.1)) reads.refused;
  changes = rw ends.0 reads.changes;
}
stop-judged names old new (stops.Refused refusal) (Err status) reads ends =
    silent names old new (Err status) OutOfMemory (ap Err ends) tt reads.changes (refused-more old.bytes names _ _ (λ n line first. first.1) reads.refused)
stop-judged names old new stops.NotOpened result reads ends = silent names old new result FileFault ends tt reads.changes reads.refused
stop-judged names old new stops.Unread result reads ends = silent names old new result ReadFault ends tt reads.changes reads.refused
stop-judged names old new stops.OutOfMemory result reads ends = silent names old new result OutOfMemory ends tt reads.changes reads.refused

-- what was written whole was written in part, and so was nothing
grows-whole : (w w' : List ℕ → Type 0) (text : List ℕ) → Grows w w' text → GrowsByPrefix w w' text
grows-whole w w' text grows = (length text, subst (Grows w w') (sym (take-length text)) grows)

grows-nothing : (w : List ℕ → Type 0) (text : List ℕ) → GrowsByPrefix w w text
grows-nothing w text = (0, λ before h. subst w (sym (append-nil before)) h)

-- a status with which a line is written
on-line : (P : CheckStatus → Type 0) → P Yes → P No → P Refused → (status : CheckStatus) → HasLine status → P status
on-line P as_yes as_no as_refused Yes is = as_yes
on-line P as_yes as_no as_refused No is = as_no
on-line P as_yes as_no as_refused Refused is = as_refused
on-line P as_yes as_no as_refused _ is = absurd is

-- one under which nothing is
on-nothing : (P : CheckStatus → Type 0) → P ReadFault → P FileFault → P OutOfMemory → (status : CheckStatus) → WritesNothing status → P status
on-nothing P read file memory ReadFault is = read
on-nothing P read file memory FileFault is = file
on-nothing P read file memory OutOfMemory is = memory
on-nothing P read file memory _ is = absurd is

-- so many files were opened at most
opened-all : (old new : FilesState) → Opened 4 old new → OpenedUpTo 4 old new
opened-all old new opened = record { many = 4; within = omega arith; opened = opened }

-- the line that is due
module _ (given : Given) (proof line : List ℕ) where
  due-written : (out new_out : Output) (status : CheckStatus) → IsDue given proof status line → Grows out.written new_out.written line → Writes given proof out new_out status
  due-written out new_out Yes due grows = record { line = line; is = due; written = grows }
  due-written out new_out No due grows = record { line = line; is = due; written = grows }
  due-written out new_out Refused due grows = record { line = line; is = due; written = grows }
  due-written out new_out _ due grows = absurd due

  due-answer : (status : CheckStatus) → IsDue given proof status line → IsAnswer given proof line
  due-answer Yes due = inl due
  due-answer No due = inr (inl due)
  due-answer Refused due = inr (inr due)
  due-answer _ due = absurd due

  module _ (fixed : VerdictsAreFixed) (other : List ℕ) where
    due-proved : (status : CheckStatus) → IsDue given proof status line → IsProved given proof other → EndsAs Yes status
    due-proved Yes due proved = inl refl
    due-proved No due proved = absurd (proved-not-unproved fixed given proof other line proved due)
    due-proved Refused due proved = absurd (proved-not-refused given proof other line proved due)
    due-proved _ due proved = absurd due

    due-unproved : (status : CheckStatus) → IsDue given proof status line → IsUnproved given proof other → EndsAs No status
    due-unproved Yes due unproved = absurd (proved-not-unproved fixed given proof line other due unproved)
    due-unproved No due unproved = inl refl
    due-unproved Refused due unproved = absurd (unproved-not-refused given proof other line unproved due)
    due-unproved _ due unproved = absurd due

-- a verdict is told
pub verdict-told : VerdictsAreFixed → (names : Names) (before after : Seen) (verdict : Verdict) (status : CheckStatus) → Judges names before.files after.files (Ok verdict) → SameMade before.made after.made
    → IsTold verdict.status verdict.line.items before.out after.out status → ChecksProof names before after status
verdict-told fixed names before after verdict status judges made (inl told) =
    let line = verdict.line.items in
    let due = verdict.status in
    subst (ChecksProof names before after) (sym told.0) (record {
      holds = λ given are yes. record { line = line; is = judges.holds given are yes; written = told.1 };
      writes = λ given proof are. due-written given proof line before.out after.out due (judges.due given proof are) told.1;
      unwritten = λ none. absurd (on-line (λ s. WritesNothing s → ⊥) (λ h. h) (λ h. h) (λ h. h) due judges.ends none);
      no_usage = λ is. subst HasLine is judges.ends;
      proved = λ given proof other are proved. due-proved given proof line fixed other due (judges.due given proof are) proved;
      unproved = λ given proof other are unproved. due-unproved given proof line fixed other due (judges.due given proof are) unproved;
      refused = refused-more before.files.bytes names _ _ (λ n text first. record {
        ends = subst (EndsRefused n after.files.started) (sym first.0) first.2;
        whole = λ is. subst (Grows before.out.written after.out.written) first.1 told.1;
        part = subst (GrowsByPrefix before.out.written after.out.written) first.1 (grows-whole before.out.written after.out.written line told.1);
      }) judges.refused;
      files = judges.changes;
      sink = on-line (CountsFaults before.out after.out) told.2 told.2 told.2 due judges.ends;
      made = made;
    })
verdict-told fixed names before after verdict status judges made (inr cut) =
    let line = verdict.line.items in
    let due = verdict.status in
    subst (ChecksProof names before after) (sym cut.0) (record {
      holds = λ given are yes. absurd (let is : WriteFault ≡ Yes = yes in cc);
      writes = λ given proof are. record { line = line; is = due-answer given proof line due (judges.due given proof are); written = cut.1 };
      unwritten = λ none. absurd none;
      no_usage = λ is. let same : WriteFault ≡ Words = is in cc;
      proved = λ given proof other are proved. inr tt;
      unproved = λ given proof other are unproved. inr tt;
      refused = refused-more before.files.bytes names _ _ (λ n text first. record {
        ends = first.2;
        whole = λ is. absurd (let same : WriteFault ≡ Refused = is in cc);
        part = subst (GrowsByPrefix before.out.written after.out.written) first.1 cut.1;
      }) judges.refused;
      files = on-line (λ s. ChangesFiles before.files after.files s → OpenedUpTo 4 before.files after.files) (opened-all before.files after.files) (opened-all before.files after.files) (λ up. up) due judges.ends judges.changes;
      sink = cut.2;
      made = made;
    })

-- nothing is written
pub nothing-told : (names : Names) (before : Seen) (files : FilesState) (made : List Made → Type 0) (status : CheckStatus) → Judges names before.files files (Err status) → SameMade before.made made
    → ChecksProof names before (record { files = files; made = made; out = before.out }) status
nothing-told names before files made status judges same =
    let none = judges.ends in
    record {
      holds = λ given are yes. absurd (subst WritesNothing yes none);
      writes = λ given proof are. on-nothing (λ s. Writes given proof before.out before.out s) tt tt tt status none;
      unwritten = λ h start was. was;
      no_usage = λ is. subst WritesNothing is none;
      proved = λ given proof line are proved. inr (on-nothing IsCut tt tt tt status none);
      unproved = λ given proof line are unproved. inr (on-nothing IsCut tt tt tt status none);
      refused = refused-more before.files.bytes names _ _ (λ n line ends. record {
        ends = ends;
        whole = λ is. absurd (subst WritesNothing is none);
        part = grows-nothing before.out.written line;
      }) judges.refused;
      files = judges.changes;
      sink = on-nothing (CountsFaults before.out before.out) refl refl refl status none;
      made = same;
    }
