-- What the writing of replies and of the journal comes to, piece by piece.
use Rattle.std.specs.Prelude.{◌≡◌, ℕ, List, ◌++◌, Result, Ok, Err}
use Rattle.texts.specs.Made.{Made}
use Rattle.backsim_io.specs.Counts.{Grows}
use Rattle.backsim_io.specs.FilesInMemory.{FileGrows}
use Rattle.backsim_io.specs.State.{FilesState}
use Rattle.session_loop.specs.declared.stop.JournalStop.{JournalStop}
use Rattle.session_loop.specs.declared.stop.RepliesStop.{RepliesStop}
use Rattle.session_loop.specs.Outside.{JournalStops}
use Rattle.session_loop.specs.inner.Outside.{RepliesStops}
use Rattle.session_loop.specs.inner.Growing.{GrowsPart, FileGrowsPart, KeepsBack}

-- The journal, which is the file at place 0.

-- these lines were written
pub record Recorded (lines : List ℕ) (old : FilesState) (made : List Made → Type 0) (new : FilesState) (new_made : List Made → Type 0) : Type 0 where
  pub written : FileGrows made new_made 0 lines
  pub state : new ≡ old

-- a part of them was written
pub record RecordedPart (lines : List ℕ) (stop : JournalStop) (old : FilesState) (made : List Made → Type 0) (new : FilesState) (new_made : List Made → Type 0) : Type 0 where
  pub begun : FileGrowsPart made new_made 0 lines
  pub state : JournalStops old new stop

-- these lines come after a text that was kept back, and this text is kept back now
pub record RecordedBehind (before lines left : List ℕ) (old : FilesState) (made : List Made → Type 0) (new : FilesState) (new_made : List Made → Type 0) : Type 0 where
  pub keeps_back : KeepsBack (FileGrows made new_made 0) before lines left
  pub state : new ≡ old

-- what the writing of lines comes to, by the outcome
abbrev pub Records : {A : Type 0} → List ℕ → Result A JournalStop → FilesState → (List Made → Type 0) → FilesState → (List Made → Type 0) → Type 0
Records lines (Ok done) = Recorded lines
Records lines (Err stop) = RecordedPart lines stop

abbrev pub RecordsBehind : {A : Type 0} → List ℕ → List ℕ → List ℕ → Result A JournalStop → FilesState → (List Made → Type 0) → FilesState → (List Made → Type 0) → Type 0
RecordsBehind before lines left (Ok done) = RecordedBehind before lines left
RecordsBehind before lines left (Err stop) = RecordedPart (before ++ lines) stop

-- The sink of the replies.

-- this text was written
pub record Replied (text : List ℕ) (old : ℕ) (out : List ℕ → Type 0) (new : ℕ) (new_out : List ℕ → Type 0) : Type 0 where
  pub written : Grows out new_out text
  pub state : new ≡ old

-- a part of it was written
pub record RepliedPart (text : List ℕ) (stop : RepliesStop) (old : ℕ) (out : List ℕ → Type 0) (new : ℕ) (new_out : List ℕ → Type 0) : Type 0 where
  pub begun : GrowsPart out new_out text
  pub state : RepliesStops old new stop

-- this text comes after one that was kept back, and this one is kept back now
pub record RepliedBehind (before text left : List ℕ) (old : ℕ) (out : List ℕ → Type 0) (new : ℕ) (new_out : List ℕ → Type 0) : Type 0 where
  pub keeps_back : KeepsBack (Grows out new_out) before text left
  pub state : new ≡ old

-- what the writing of replies comes to, by the outcome
abbrev pub Replies : {A : Type 0} → List ℕ → Result A RepliesStop → ℕ → (List ℕ → Type 0) → ℕ → (List ℕ → Type 0) → Type 0
Replies text (Ok done) = Replied text
Replies text (Err stop) = RepliedPart text stop

abbrev pub RepliesBehind : {A : Type 0} → List ℕ → List ℕ → List ℕ → Result A RepliesStop → ℕ → (List ℕ → Type 0) → ℕ → (List ℕ → Type 0) → Type 0
RepliesBehind before text left (Ok done) = RepliedBehind before text left
RepliesBehind before text left (Err stop) = RepliedPart (before ++ text) stop
