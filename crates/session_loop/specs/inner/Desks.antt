-- What a session keeps from one unit to the next.
use Rattle.std.specs.Prelude.{◌≡◌, ⊤, ℕ, ◌+◌, ◌<◌, List, [], ◌∷◌, length, map, filter, sum_by, nat_le, ◌||◌, if◌then◌else◌, Option, Some, None, Contains, IfSome}
use Rattle.std.specs.List.{list_any}
use Rattle.std.specs.Str.{bytes_eq}
use Rattle.backsim_io.specs.State.{FilesState}
use Rattle.journal_meaning.specs.declared.Entry.{Entry}
use Rattle.journal_meaning.specs.Sections.{SectionEntries, cells_after}
use Rattle.journal_meaning.specs.Counts.{count}
use Rattle.journal_text.specs.declared.sections.SectionKind.{SectionKind}
use Rattle.journal_text.specs.declared.sections.SectionKind.TheVariants.{Batch, Trim, Held}
use Rattle.session_meaning.specs.Session.{Setup, Course, is_batch, is_fill, is_eviction, entries_that}
use Rattle.design.specs.Joined.{Joined}
use Rattle.reply_lines.specs.declared.reply.VcdReply.{VcdReply}
use Rattle.reply_lines.specs.declared.reply.VcdReply.TheVariants as replies
use Rattle.vcd_answers.specs.Wires.{Wire}
use Rattle.session_meaning.specs.Dumps.{wires_of}
use Rattle.unit_answers.specs.Stores.{cells_of, AreStores}
use Rattle.unit_answers.specs.Dumps.{AreReplied}
use Rattle.session_loop.specs.declared.desk.Counts.{Counts}
use Rattle.session_loop.specs.declared.desk.Desk.{Desk}
use Rattle.session_loop.specs.declared.desk.Dumps.{Dumps}
use Rattle.session_loop.specs.declared.desk.LastBatch.{LastBatch}

-- the counts are those of the sections
pub record IsCount (counts : Counts) (sections : List SectionEntries) : Type 0 where
  pub sections_are : counts.sections ≡ length sections
  pub batches : counts.batches ≡ length (filter (λ section. is_batch section.purpose) sections)
  pub fills : counts.fills ≡ entries_that is_fill sections
  pub evictions : counts.evictions ≡ entries_that is_eviction sections

-- as a session begins
abbrev pub no_counts : Counts
no_counts = record { sections = 0; batches = 0; fills = 0; evictions = 0 }

abbrev pub batches_in : SectionKind → ℕ
batches_in Batch = 1
batches_in Trim = 0
batches_in Held = 0

-- the lists of a section whose entries are counted: those of the session's own memo
abbrev pub counted_lists : SectionKind → List (List Entry) → List (List Entry)
counted_lists Batch lists = lists
counted_lists Trim lists = lists
counted_lists Held lists = []

-- one section more was counted
pub record IsCounted (old : Counts) (kind : SectionKind) (lists : List (List Entry)) (new : Counts) : Type 0 where
  pub sections : new.sections ≡ old.sections + 1
  pub batches : new.batches ≡ old.batches + batches_in kind
  pub fills : new.fills ≡ old.fills + sum_by (count is_fill) (counted_lists kind lists)
  pub evictions : new.evictions ≡ old.evictions + sum_by (count is_eviction) (counted_lists kind lists)

-- the section of a memo of its own was counted, if a question had one
abbrev pub IsHeldCounted : Counts → List (List Entry) → Counts → Type 0
IsHeldCounted old [] new = new ≡ old
IsHeldCounted old (es ∷ lists) new = IsCounted old Held (es ∷ lists) new

-- these are the waves of the last batch, if there was one
abbrev pub Shows : Joined → Option LastBatch → Option (List Wire) → Type 0
Shows d None None = ⊤
Shows d None (Some wires) = ⊥
Shows d (Some last) None = ⊥
Shows d (Some last) (Some wires) = wires ≡ wires_of d last.items last.replies.items

-- what is kept for dumps is what the session has come to
pub record KeepsDumps (setup : Setup) (dumps : Dumps) (now : Course) : Type 0 where
  pub shows : Shows setup.design dumps.last now.waves
  pub own : dumps.own.items ≡ setup.names
  pub made : dumps.made.items ≡ map (λ dump. dump.name) now.dumps

-- why no dump is made under this name, if none is
abbrev pub refused_last : Option LastBatch → ℕ → Option VcdReply
refused_last None made = Some replies.NoBatch
refused_last (Some last) made = if nat_le 3 made then Some replies.Full else None

abbrev pub refused_reply : Dumps → List ℕ → Option VcdReply
refused_reply dumps file = if list_any (bytes_eq file) dumps.own.items || list_any (bytes_eq file) dumps.made.items
    then Some replies.Taken
    else refused_last dumps.last (length dumps.made.items)

-- the waves of the last batch can be shown, if there was one
abbrev pub IsShowable : Joined → Option LastBatch → Type 0
IsShowable d None = ⊤
IsShowable d (Some last) = AreReplied d last.items last.replies.items

-- what the next unit can be served over: stores for the shards, a last batch that can be shown, and a last site of the design, if there is one
pub record IsDesk (setup : Setup) (desk : Desk) : Type 0 where
  pub stores : AreStores setup desk.stores.items
  pub shown : IsShowable setup.design desk.dumps.last
  pub site : IfSome desk.last_site (λ last. last ≡ setup.design)

-- Units can be served over this desk and these files: the journal, which isn't finished, and the dumps are the files that were created.
pub record IsReady (setup : Setup) (d : Desk) (files : FilesState) : Type 0 where
  pub desk : IsDesk setup d
  pub count : files.created ≡ length d.dumps.made.items + 1
  pub unfinished : Contains files.unfinished 0

-- what is kept is what the session has come to
pub record Keeps (setup : Setup) (desk : Desk) (now : Course) : Type 0 where
  pub cells : (shard : ℕ) → shard < setup.shards → cells_of desk.stores.items shard ≡ cells_after shard now.sections
  pub counts : IsCount desk.counts now.sections
  pub dumps : KeepsDumps setup desk.dumps now
