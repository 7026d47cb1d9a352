-- Texts that grow, piece by piece.
use Rattle.std.proofs.Common.{◌≡◌, ℕ, List, [], ◌++◌, take, drop, Result, Ok, Err, refl, sym, ap, subst, ◌∙◌, append_assoc, append-nil}
use Rattle.std.specs.Prelude.{IsErrAnd}
use Rattle.std.proofs.lemmas.List.{take-append-drop}
use Rattle.backsim_io.specs.Counts.{Grows, GrowsByPrefix}
use Rattle.texts.specs.Made.{Made}
use Rattle.backsim_io.specs.FilesInMemory.{files_with, FileGrows, FileGrowsByPrefix}
use Rattle.backsim_io.specs.State.{FilesState}
use Rattle.backsim_io.proofs.Callers.{grown_twice, grown_none}
use Rattle.session_meaning.specs.Broken.{IsPrefix}
use Rattle.session_meaning.proofs.Callers.{prefix-again}
use Rattle.session_loop.specs.declared.stop.JournalStop.{JournalStop}
use Rattle.session_loop.specs.declared.stop.RepliesStop.{RepliesStop}
use Rattle.session_loop.specs.Halting.{session_files}
use Rattle.session_loop.specs.Outside.{JournalStops}
use Rattle.session_loop.specs.inner.Outside.{RepliesStops}
use Rattle.session_loop.specs.inner.Pieces.{RecordedPart, Records, RecordsBehind, RepliedPart, Replies, RepliesBehind}
use Rattle.session_loop.specs.inner.Growing.{GoesOn, FilesGoOn, GrowsPart, FileGrowsPart, KeepsBack}

-- the stop that a result hands on
pub handed-part : {A : Type 0} {lines : List ℕ} {old new : FilesState} {made new_made : List Made → Type 0} {was : JournalStop} (result : Result A JournalStop) → IsErrAnd result (λ e. e ≡ was)
    → RecordedPart lines was old made new new_made → Records lines result old made new new_made
handed-part (Ok x) handed part = absurd handed
handed-part {A} {lines} {old} {new} {made} {new_made} (Err e) handed part = subst (λ stop. RecordedPart lines stop old made new new_made) (sym handed) part

pub handed-behind : {A : Type 0} (before lines left : List ℕ) {old new : FilesState} {made new_made : List Made → Type 0} {was : JournalStop} (result : Result A JournalStop) → IsErrAnd result (λ e. e ≡ was)
    → RecordedPart (before ++ lines) was old made new new_made → RecordsBehind before lines left result old made new new_made
handed-behind before lines left (Ok x) handed part = absurd handed
handed-behind {A} before lines left {old} {new} {made} {new_made} (Err e) handed part = subst (λ stop. RecordedPart (before ++ lines) stop old made new new_made) (sym handed) part

pub handed-replies : {A : Type 0} {text : List ℕ} {old new : ℕ} {out new_out : List ℕ → Type 0} {was : RepliesStop} (result : Result A RepliesStop) → IsErrAnd result (λ e. e ≡ was)
    → RepliedPart text was old out new new_out → Replies text result old out new new_out
handed-replies (Ok x) handed part = absurd handed
handed-replies {A} {text} {old} {new} {out} {new_out} (Err e) handed part = subst (λ stop. RepliedPart text stop old out new new_out) (sym handed) part

pub handed-replies-behind : {A : Type 0} (before text left : List ℕ) {old new : ℕ} {out new_out : List ℕ → Type 0} {was : RepliesStop} (result : Result A RepliesStop) → IsErrAnd result (λ e. e ≡ was)
    → RepliedPart (before ++ text) was old out new new_out → RepliesBehind before text left result old out new new_out
handed-replies-behind before text left (Ok x) handed part = absurd handed
handed-replies-behind {A} before text left {old} {new} {out} {new_out} (Err e) handed part = subst (λ stop. RepliedPart (before ++ text) stop old out new new_out) (sym handed) part

pub grows-none : (w : List ℕ → Type 0) → Grows w w []
grows-none w before h = subst w (sym (append-nil before)) h

pub grows-more : (u v w : List ℕ → Type 0) (a b : List ℕ) → Grows u v a → Grows v w b → Grows u w (a ++ b)
grows-more u v w a b f g before h = subst w (append_assoc before a b) (g (before ++ a) (f before h))

pub file-none : (m : List Made → Type 0) (slot : ℕ) → FileGrows m m slot []
file-none m slot before h = subst m (sym (grown_none before slot)) h

pub file-more : (u v w : List Made → Type 0) (slot : ℕ) (a b : List ℕ) → FileGrows u v slot a → FileGrows v w slot b → FileGrows u w slot (a ++ b)
file-more u v w slot a b f g before h = subst w (grown_twice before slot a b) (g (files_with before slot a) (f before h))

-- parts
pub part-of : (u v : List ℕ → Type 0) (whole : List ℕ) → GrowsByPrefix u v whole → GrowsPart u v whole
part-of u v whole g = (take g.0 whole, (drop g.0 whole, sym (take-append-drop g.0 whole)), g.1)

pub part-none : (w : List ℕ → Type 0) (whole : List ℕ) → GrowsPart w w whole
part-none w whole = ([], (whole, refl), grows-none w)

pub part-after : (u v w : List ℕ → Type 0) (done whole : List ℕ) → Grows u v done → GrowsPart v w whole → GrowsPart u w (done ++ whole)
part-after u v w done whole f p = (done ++ p.0, (p.1.0, ap (λ l. done ++ l) p.1.1 ∙ sym (append_assoc done p.0 p.1.0)), grows-more u v w done p.0 f p.2)

pub part-longer : (u v : List ℕ → Type 0) (part whole : List ℕ) → IsPrefix part whole → GrowsPart u v part → GrowsPart u v whole
part-longer u v part whole q p = (p.0, prefix-again p.0 part whole p.1 q, p.2)

pub file-part-of : (u v : List Made → Type 0) (slot : ℕ) (whole : List ℕ) → FileGrowsByPrefix u v slot whole → FileGrowsPart u v slot whole
file-part-of u v slot whole g = (take g.0 whole, (drop g.0 whole, sym (take-append-drop g.0 whole)), g.1)

pub file-part-none : (m : List Made → Type 0) (slot : ℕ) (whole : List ℕ) → FileGrowsPart m m slot whole
file-part-none m slot whole = ([], (whole, refl), file-none m slot)

pub file-part-after : (u v w : List Made → Type 0) (slot : ℕ) (done whole : List ℕ) → FileGrows u v slot done → FileGrowsPart v w slot whole → FileGrowsPart u w slot (done ++ whole)
file-part-after u v w slot done whole f p = (done ++ p.0, (p.1.0, ap (λ l. done ++ l) p.1.1 ∙ sym (append_assoc done p.0 p.1.0)), file-more u v w slot done p.0 f p.2)

pub file-part-longer : (u v : List Made → Type 0) (slot : ℕ) (part whole : List ℕ) → IsPrefix part whole → FileGrowsPart u v slot part → FileGrowsPart u v slot whole
file-part-longer u v slot part whole q p = (p.0, prefix-again p.0 part whole p.1 q, p.2)

-- texts that are kept back
module _ (G : List ℕ → Type 0) (none : G []) where
  pub keeps-none : (before : List ℕ) → KeepsBack G before [] before
  keeps-none before = record { written = []; grows = none; same = sym (append-nil before) }

-- a text is kept back, and then some of it is written
pub keeps-pushed : (G : List ℕ → Type 0) (before more left : List ℕ) → KeepsBack G (before ++ more) [] left → KeepsBack G before more left
keeps-pushed G before more left f = record { written = f.written; grows = f.grows; same = f.same ∙ append-nil (before ++ more) }

module _ (G : List ℕ → Type 0) (a b c d : List ℕ) (f : KeepsBack G a b c) where
  split : f.written ++ (c ++ d) ≡ a ++ (b ++ d)
  split = sym (append_assoc f.written c d) ∙ ap (λ l. l ++ d) f.same ∙ append_assoc a b d

  -- more is written
  module _ (H K : List ℕ → Type 0) (next : (one other : List ℕ) → G one → H other → K (one ++ other)) where
    pub keeps-more : (e : List ℕ) → KeepsBack H c d e → KeepsBack K a (b ++ d) e
    keeps-more e g = record {
      written = f.written ++ g.written;
      grows = next f.written g.written f.grows g.grows;
      same = append_assoc f.written g.written e ∙ ap (λ l. f.written ++ l) g.same ∙ split;
    }

    -- all of it
    pub keeps-whole : H (c ++ d) → K (a ++ (b ++ d))
    keeps-whole g = subst K split (next f.written (c ++ d) f.grows g)

  -- a part of it is written, and nothing of what is left
  module _ (P Q : List ℕ → Type 0) (next : (done whole : List ℕ) → G done → P whole → Q (done ++ whole)) (longer : (part whole : List ℕ) → IsPrefix part whole → Q part → Q whole) where
    pub keeps-part : (left whole : List ℕ) → whole ≡ (b ++ d) ++ left → P (c ++ d) → Q (a ++ whole)
    keeps-part left whole is p = longer (a ++ (b ++ d)) (a ++ whole) (left, ap (λ l. a ++ l) is ∙ sym (append_assoc a (b ++ d) left)) (subst Q split (next f.written (c ++ d) f.grows p))

-- all of it was written
pub left-none : (G : List ℕ → Type 0) (whole left : List ℕ) → KeepsBack G [] whole left → left ≡ [] → G whole
left-none G whole left f none = subst G (sym (append-nil f.written) ∙ ap (λ l. f.written ++ l) (sym none) ∙ f.same) f.grows

-- what was kept back is written at last
module _ {A : Type 0} (a b c d : List ℕ) where
  pub replies-last : (u v w : List ℕ → Type 0) (f : KeepsBack (Grows u v) a b c) (old mid new : ℕ) → mid ≡ old → (result : Result A RepliesStop) → Replies (c ++ d) result mid v new w
      → Replies (a ++ (b ++ d)) result old u new w
  replies-last u v w f old mid new same (Ok x) done = record {
    written = keeps-whole (Grows u v) a b c d f (Grows v w) (Grows u w) (grows-more u v w) done.written;
    state = done.state ∙ same;
  }
  replies-last u v w f old mid new same (Err stop) part = record {
    begun = subst (GrowsPart u w) (split (Grows u v) a b c d f) (part-after u v w f.written (c ++ d) f.grows part.begun);
    state = subst (λ n. RepliesStops n new stop) same part.state;
  }

  pub records-last : (u v w : List Made → Type 0) (f : KeepsBack (FileGrows u v 0) a b c) (old mid new : FilesState) → mid ≡ old → (result : Result A JournalStop) → Records (c ++ d) result mid v new w
      → Records (a ++ (b ++ d)) result old u new w
  records-last u v w f old mid new same (Ok x) done = record {
    written = keeps-whole (FileGrows u v 0) a b c d f (FileGrows v w 0) (FileGrows u w 0) (file-more u v w 0) done.written;
    state = done.state ∙ same;
  }
  records-last u v w f old mid new same (Err stop) part = record {
    begun = subst (FileGrowsPart u w 0) (split (FileGrows u v 0) a b c d f) (file-part-after u v w 0 f.written (c ++ d) f.grows part.begun);
    state = subst (λ n. JournalStops n new stop) same part.state;
  }

-- what is left to be written of a whole: at first all of it
module _ (u : List Made → Type 0) (slot : ℕ) (whole : List ℕ) where
  pub left-all : KeepsBack (FileGrows u u slot) [] whole whole
  left-all = record { written = []; grows = file-none u slot; same = refl }

  -- less once more is written
  module _ (v w : List Made → Type 0) (left part rest : List ℕ) (f : KeepsBack (FileGrows u v slot) [] whole left) (parts : left ≡ part ++ rest) where
    pub left-less : FileGrows v w slot part → KeepsBack (FileGrows u w slot) [] whole rest
    left-less g = record {
      written = f.written ++ part;
      grows = file-more u v w slot f.written part f.grows g;
      same = append_assoc f.written part rest ∙ ap (λ l. f.written ++ l) (sym parts) ∙ f.same;
    }

    -- and where that breaks off, a part of the whole is written
    pub left-part : FileGrowsPart v w slot part → FileGrowsPart u w slot whole
    left-part p =
        file-part-longer u w slot (f.written ++ part) whole (rest, sym f.same ∙ ap (λ l. f.written ++ l) parts ∙ sym (append_assoc f.written part rest)) (file-part-after u v w slot f.written part f.grows p)

-- a first part of the lines is kept back already
pub records-pushed : {A : Type 0} (old new : FilesState) (made new_made : List Made → Type 0) (before first rest left : List ℕ) {more : List ℕ} → more ≡ before ++ first → (result : Result A JournalStop)
    → RecordsBehind more rest left result old made new new_made → RecordsBehind before (first ++ rest) left result old made new new_made
records-pushed old new made new_made before first rest left is (Ok x) done = record {
  keeps_back = record { written = done.keeps_back.written; grows = done.keeps_back.grows; same = done.keeps_back.same ∙ ap (λ l. l ++ rest) is ∙ append_assoc before first rest };
  state = done.state;
}
records-pushed old new made new_made before first rest left is (Err stop) part = record {
  begun = subst (FileGrowsPart made new_made 0) (ap (λ l. l ++ rest) is ∙ append_assoc before first rest) part.begun;
  state = part.state;
}

-- what was kept back is written, and then all that comes after it
pub records-after : {A : Type 0} (u v w : List Made → Type 0) (before more left : List ℕ) (old mid new : FilesState) → mid ≡ old → FileGrows u v 0 before → left ≡ [] → (result : Result A JournalStop)
    → Records more result mid v new w → RecordsBehind before more left result old u new w
records-after u v w before more left old mid new same f none (Ok x) done = record {
  keeps_back = record { written = before ++ more; grows = file-more u v w 0 before more f done.written; same = ap (λ l. (before ++ more) ++ l) none ∙ append-nil (before ++ more) };
  state = done.state ∙ same;
}
records-after u v w before more left old mid new same f none (Err stop) part = record {
  begun = file-part-after u v w 0 before more f part.begun;
  state = subst (λ n. JournalStops n new stop) same part.state;
}

-- texts that go on
pub goes-none : (w : List ℕ → Type 0) (before : List ℕ) → GoesOn w w before before
goes-none w before = ([], sym (append-nil before), grows-none w)

pub goes-trans : (u v w : List ℕ → Type 0) (a b c : List ℕ) → GoesOn u v a b → GoesOn v w b c → GoesOn u w a c
goes-trans u v w a b c f g = (f.0 ++ g.0, g.1 ∙ ap (λ l. l ++ g.0) f.1 ∙ append_assoc a f.0 g.0, grows-more u v w f.0 g.0 f.2 g.2)

-- the files of a session that go on
pub files-none : (m : List Made → Type 0) (journal : List ℕ) (dumps : List Made) → FilesGoOn m m journal dumps journal dumps
files-none m journal dumps name h = h

pub files-trans : (u v w : List Made → Type 0) (a b c : List ℕ) (p q r : List Made) → FilesGoOn u v a p b q → FilesGoOn v w b q c r → FilesGoOn u w a p c r
files-trans u v w a b c p q r f g name h = g name (f name h)

-- the journal is the first of them
pub journal-grows : (u v : List Made → Type 0) (journal more : List ℕ) (dumps : List Made) → FileGrows u v 0 more → FilesGoOn u v journal dumps (journal ++ more) dumps
journal-grows u v journal more dumps grows name h = grows (session_files name journal dumps) h
