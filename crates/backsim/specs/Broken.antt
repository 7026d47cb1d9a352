-- What stands where a fault or a lack of memory ends a session.
use Rattle.std.specs.Prelude.{◌≡◌, ◌<◌, ◌+◌, ◌⊎◌, ⊤, ℕ, List, [], ◌∷◌, All, Option, Some}
use Rattle.texts.specs.Made.{Made}
use Rattle.backsim_io.specs.Counts.{GrowsByPrefix}
use Rattle.backsim_io.specs.State.{FilesState}
use Rattle.session_meaning.specs.Session.{Setup}
use Rattle.session_meaning.specs.Broken.{IsPrefix, IsHeadBegun}
use Rattle.session_loop.specs.Serving.{IsServedUntil, IsBrokenIn, IsJournalBroken, IsDumpBroken}
use Rattle.backsim.specs.declared.status.Input.TheVariants as inputs
use Rattle.backsim.specs.declared.status.Output.TheVariants as outputs
use Rattle.backsim.specs.declared.status.NamedFile.TheVariants as named
use Rattle.backsim.specs.declared.status.Status.{Status}
use Rattle.backsim.specs.declared.status.Status.TheVariants.{Ended, Words, ReadFault, WriteFault, FileFault, OutOfMemory}
use Rattle.backsim.specs.Commands.{Command}
use Rattle.backsim.specs.Seen.{Seen, left_in, IsUntouched}
use Rattle.backsim.specs.Session.{Given, Wrote, IsServed}
use Rattle.backsim.specs.Refused.{AreRefused, IsScriptRefused}
use Rattle.backsim.specs.Texts.{too_long}

-- a session with these replies, this journal and these dumps broke off before its journal's head was whole, or in this way
abbrev pub IsInHeadOr : (Setup → List ℕ → List ℕ → List Made → Type 0) → List ℕ → Option (List ℕ) → Setup → List ℕ → List ℕ → List Made → Type 0
IsInHeadOr way script left setup replies journal dumps =
    ((left ≡ Some script) × IsHeadBegun setup replies journal dumps) ⊎ way setup replies journal dumps

-- the session broke off
abbrev pub BrokeOff : Command → Given → Seen → Seen → Type 0
BrokeOff command given before after =
    Wrote command given before after (IsInHeadOr (λ setup. IsBrokenIn setup given.script (left_in after)) given.script (left_in after))

-- it broke off in its journal: in the head, or in the sections of a unit, of which all replies stand
abbrev pub BrokeOffInJournal : Command → Given → Seen → Seen → Type 0
BrokeOffInJournal command given before after =
    Wrote command given before after (IsInHeadOr (λ setup. IsJournalBroken setup given.script (left_in after)) given.script (left_in after))

-- it broke off in a unit
abbrev pub BrokeOffIn : Command → Given → Seen → Seen → Type 0
BrokeOffIn command given before after = Wrote command given before after (λ setup. IsBrokenIn setup given.script (left_in after))

-- it broke off in a dump, of which no reply was written
abbrev pub BrokeOffInDump : Command → Given → Seen → Seen → Type 0
BrokeOffInDump command given before after = Wrote command given before after (λ setup. IsDumpBroken setup given.script (left_in after))

-- a refusal was told in part: of the files, or of the script
abbrev pub ToldInPart : Command → Given → Seen → Seen → Type 0
ToldInPart command given before after =
    AreRefused given GrowsByPrefix before after ⊎ IsScriptRefused command given (λ rest. IsPrefix rest too_long) before after

-- every unit completed by the bytes read was served
abbrev pub ServedUntil : Command → Given → Seen → Seen → Type 0
ServedUntil command given before after = Wrote command given before after (λ setup. IsServedUntil setup given.script (left_in after))

-- What a fault or a lack of memory leaves. A session that ended or refused something is told of elsewhere.
abbrev pub Leaves : Command → Given → Seen → Seen → Status → Type 0
Leaves command given before after (ReadFault (inputs.Circuit file)) = IsUntouched before after
Leaves command given before after (ReadFault inputs.Script) = ServedUntil command given before after
Leaves command given before after (WriteFault outputs.Replies) = BrokeOffIn command given before after ⊎ ToldInPart command given before after
Leaves command given before after (WriteFault outputs.Journal) = BrokeOffInJournal command given before after
Leaves command given before after (WriteFault outputs.Vcd) = BrokeOffInDump command given before after
Leaves command given before after (FileFault (named.Circuit file)) = IsUntouched before after
Leaves command given before after (FileFault named.Journal) = IsUntouched before after ⊎ IsServed command given before after
Leaves command given before after (FileFault named.Vcd) = BrokeOffInDump command given before after
Leaves command given before after OutOfMemory =
    IsUntouched before after ⊎ (BrokeOff command given before after ⊎ ToldInPart command given before after)
Leaves command given before after status = ⊤

-- Which created files are not finished at a session's end.

-- the journal at most
abbrev pub JournalAtMost : FilesState → Type 0
JournalAtMost files = All (λ place. place ≡ 0) files.unfinished

-- the journal alone
abbrev pub JournalAlone : FilesState → Type 0
JournalAlone files = files.unfinished ≡ 0 ∷ []

-- the journal and the dump that was created last
pub record JournalAndDump (files : FilesState) : Type 0 where
  pub place : ℕ
  pub behind : 0 < place
  pub last : files.created ≡ place + 1
  pub unfinished : files.unfinished ≡ 0 ∷ place ∷ []

-- none where it ended; a dump only where its own writing or end failed
abbrev pub LeavesOpen : FilesState → Status → Type 0
LeavesOpen files Ended = files.unfinished ≡ []
LeavesOpen files Words = files.unfinished ≡ []
LeavesOpen files (WriteFault outputs.Vcd) = JournalAndDump files
LeavesOpen files (FileFault named.Vcd) = JournalAlone files ⊎ JournalAndDump files
LeavesOpen files status = JournalAtMost files

-- what is known where one of the three files could not be opened or read
abbrev pub OnFileFault : Type 0 → Status → Type 0
OnFileFault says (ReadFault (inputs.Circuit file)) = says
OnFileFault says (FileFault (named.Circuit file)) = says
OnFileFault says status = ⊤
