-- A session: the replies to the units of a script, and the sections of its journal. Each kind of unit is a case.
use Rattle.std.specs.Prelude.{◌≡◌, ℕ, ◌<◌, Bool, true, false, nat_lt, List, [], ◌∷◌, ◌++◌, length, slice_index_or, map, drop, reverse, filter, sum_by, Option, Some, None, if◌then◌else◌}
use Rattle.std.specs.List.{AllZip, list_any, range_with_len}
use Rattle.std.specs.Str.{bytes_eq}
use Rattle.texts.specs.Made.{Made}
use Rattle.valid_intervals.specs.declared.SignalCell.{SignalCell}
use Rattle.journal_meaning.specs.declared.Entry.{Entry}
use Rattle.journal_meaning.specs.declared.Entry.TheVariants.{Filled, Evicted}
use Rattle.journal_meaning.specs.States.{fresh}
use Rattle.journal_meaning.specs.Batches.{Batch, Site}
use Rattle.journal_meaning.specs.Replay.{IsLegalBatch, IsLegalTrim}
use Rattle.journal_meaning.specs.Sections.{Purpose, Asks, Trims, Forces, SectionEntries, own_entries, cells_after, of_batch}
use Rattle.journal_meaning.specs.Counts.{count}
use Rattle.query_lines.specs.declared.unit.Question.{Question}
use Rattle.query_lines.specs.declared.unit.Item.{Item}
use Rattle.query_lines.specs.declared.unit.Unit.{Unit as ScriptUnit}
use Rattle.query_lines.specs.declared.unit.Unit.TheVariants as units
use Rattle.reply_lines.specs.declared.reply.QuestionReply.{QuestionReply}
use Rattle.reply_lines.specs.declared.reply.Reply.{Reply}
use Rattle.reply_lines.specs.declared.reply.VcdReply.TheVariants as dumps
use Rattle.query_lines.specs.Reading.{script_units}
use Rattle.reply_lines.specs.Replies.{question_lines, vcd_line, trimmed_line, stats_line}
use Rattle.design.specs.Joined.{Joined}
use Rattle.vcd_answers.specs.Wires.{Wire}
use Rattle.vcd_answers.specs.Dumps.{vcd_of}
use Rattle.session_meaning.specs.Verdicts.{verdict_of, queries_of, question_verdict, site_of}
use Rattle.session_meaning.specs.Replies.{IsReply, replies_text}
use Rattle.session_meaning.specs.Dumps.{wires_of}
use Rattle.session_meaning.specs.Questions.{question_queries, IsRightReply, IsOwnMemo}
use Rattle.session_meaning.specs.StuckSignals.{held_batch}
use Rattle.session_meaning.specs.declared.Verdict.{Verdict}
use Rattle.session_meaning.specs.declared.Verdict.TheVariants.{Ask}
use Rattle.session_meaning.specs.Written.{journal_text}

-- the setup of a session: the design, the number of the memo's shards, the number of cells for which each has room, and the names of the
-- session's other files
pub record Setup : Type 0 where
  pub design : Joined
  pub shards : ℕ
  pub capacity : ℕ
  pub names : List (List ℕ)

-- the state of a session: the sections of its journal, the text of its replies, the waves of its last batch, if there was one, and its
-- dumps
pub record Course : Type 0 where
  pub sections : List SectionEntries
  pub out : List ℕ
  pub waves : Option (List Wire)
  pub dumps : List Made

-- the state at the beginning
abbrev pub first_course : Course
first_course = record { sections = []; out = []; waves = None; dumps = [] }

-- one more reply
abbrev pub with_reply : Course → List ℕ → Course
with_reply now text = record now { out = now.out ++ text }

-- one more section, and its replies
abbrev pub with_section : Course → Purpose → List (List Entry) → List ℕ → Course
with_section now purpose lists text =
    record now { sections = now.sections ++ record { purpose = purpose; lists = lists } ∷ []; out = now.out ++ text }

-- more sections, without replies
abbrev pub with_sections : Course → List SectionEntries → Course
with_sections now more = record now { sections = now.sections ++ more }

-- these waves replace those of the last batch
abbrev pub with_waves : Course → List Wire → Course
with_waves now wires = record now { waves = Some wires }

-- A batch of items.

abbrev pub batch_of : Setup → List Item → Batch
batch_of setup items = record {
  circuit = setup.design.circuit;
  shards = setup.shards;
  capacity = setup.capacity;
  queries = queries_of setup.design items;
  site = None;
}

-- Each shard has a list of entries, legal from the cells that the earlier sections leave, and each item has a right reply.
pub record IsBatchServed (setup : Setup) (now next : Course) (items : List Item) : Type 0 where
  pub lists : List (List Entry)
  pub replies : List Reply
  pub count : length lists ≡ setup.shards
  pub legal : (shard : ℕ) → shard < setup.shards
      → IsLegalBatch (batch_of setup items) shard (cells_after shard now.sections) (slice_index_or lists shard [])
  pub right : AllZip (λ item reply. IsReply setup.design.circuit (of_batch lists) (verdict_of setup.design item) reply) items replies
  pub leads : next ≡ with_waves (with_section now (Asks (batch_of setup items)) lists (replies_text items replies)) (wires_of setup.design items replies)

-- A question.

-- its batch: with a stuck signal, it asks only for what is free of that
abbrev pub question_batch : Setup → Question → Batch
question_batch setup question = record {
  circuit = setup.design.circuit;
  shards = setup.shards;
  capacity = setup.capacity;
  queries = question_queries setup.design question;
  site = site_of setup.design question.asks;
}

-- the section of the second memo for a stuck signal, if a query is asked
abbrev pub held_sections : Setup → Option Site → Verdict → List (List Entry) → List SectionEntries
held_sections setup (Some site) (Ask query) lists = record { purpose = Forces (held_batch setup.design.circuit site query); lists = lists } ∷ []
held_sections setup site verdict lists = []

-- the sections of a second memo; a question without a stuck signal has none
abbrev pub own_sections : Setup → Question → List (List Entry) → List SectionEntries
own_sections setup question own_lists =
    held_sections setup (site_of setup.design question.asks) (question_verdict setup.design question) own_lists

-- Each shard has a list of entries, legal from the cells that the earlier sections leave, and so has the second memo, if there is one. The
-- reply is right.
pub record IsQuestionServed (setup : Setup) (now next : Course) (question : Question) : Type 0 where
  pub lists : List (List Entry)
  pub own_lists : List (List Entry)
  pub reply : QuestionReply
  pub count : length lists ≡ setup.shards
  pub legal : (shard : ℕ) → shard < setup.shards
      → IsLegalBatch (question_batch setup question) shard (cells_after shard now.sections) (slice_index_or lists shard [])
  pub memo : IsOwnMemo setup.design question own_lists
  pub right : IsRightReply setup.design question (of_batch lists) (of_batch own_lists) reply
  pub leads : next ≡ with_sections
      (with_section now (Asks (question_batch setup question)) lists (question_lines question reply))
      (own_sections setup question own_lists)

-- A trim.

-- the evictions of the least recent cells, until this many are left
abbrev pub trim_entries : ℕ → List SignalCell → List Entry
trim_entries most cells = map (λ x. Evicted x.signal x.cell.span.start) (reverse (drop most cells))

-- In each shard the last cells are evicted until few enough are left.
pub record IsTrimServed (setup : Setup) (now next : Course) (most : ℕ) : Type 0 where
  pub lists : List (List Entry)
  pub count : length lists ≡ setup.shards
  pub legal : (shard : ℕ) → shard < setup.shards → IsLegalTrim (fresh (cells_after shard now.sections)) (slice_index_or lists shard [])
  pub evicts : (shard : ℕ) → shard < setup.shards → slice_index_or lists shard [] ≡ trim_entries most (cells_after shard now.sections)
  pub leads : next ≡ with_section now Trims lists (trimmed_line (sum_by length lists))

-- A dump.

-- whether the name is that of a file in the setup or of a dump
abbrev pub is_taken : Setup → Course → List ℕ → Bool
is_taken setup now file = list_any (bytes_eq file) (setup.names ++ map (λ dump. dump.name) now.dumps)

-- one more dump
abbrev pub with_dump : Course → List ℕ → List Wire → Course
with_dump now file wires = record now {
  out = now.out ++ vcd_line file (dumps.Made (length wires));
  dumps = now.dumps ++ record { name = file; bytes = vcd_of wires } ∷ [];
}

-- a dump of the last batch's waves, if there was a batch and fewer than three dumps were made
abbrev pub with_last : Course → List ℕ → Option (List Wire) → Course
with_last now file None = with_reply now (vcd_line file dumps.NoBatch)
with_last now file (Some wires) = if nat_lt (length now.dumps) 3 then with_dump now file wires else with_reply now (vcd_line file dumps.Full)

-- the state after a request for a dump under this name
abbrev pub with_vcd : Setup → Course → List ℕ → Course
with_vcd setup now file = if is_taken setup now file then with_reply now (vcd_line file dumps.Taken) else with_last now file now.waves

-- The counts.

abbrev pub is_batch : Purpose → Bool
is_batch (Asks batch) = true
is_batch purpose = false

abbrev pub is_fill : Entry → Bool
is_fill (Filled q p cell) = true
is_fill entry = false

abbrev pub is_eviction : Entry → Bool
is_eviction (Evicted signal start) = true
is_eviction entry = false

-- how many entries of the session's memo pass the test
abbrev pub entries_that : (Entry → Bool) → List SectionEntries → ℕ
entries_that test sections = sum_by (λ section. sum_by (λ entries. count test (own_entries section.purpose entries)) section.lists) sections

-- the number of cells stored in all shards
abbrev pub cells_stored : ℕ → List SectionEntries → ℕ
cells_stored shards sections = sum_by (λ shard. length (cells_after shard sections)) (range_with_len 0 shards)

abbrev pub counts_line : Setup → List SectionEntries → List ℕ
counts_line setup sections = stats_line
    (length (filter (λ section. is_batch section.purpose) sections))
    (entries_that is_fill sections)
    (entries_that is_eviction sections)
    (cells_stored setup.shards sections)

-- One more unit. A new kind of unit is one more case.
abbrev pub IsServed : Setup → Course → ScriptUnit → Course → Type 0
IsServed setup now (units.Batch items) next = IsBatchServed setup now next items
IsServed setup now (units.Trim most) next = IsTrimServed setup now next most
IsServed setup now units.Stats next = next ≡ with_reply now (counts_line setup now.sections)
IsServed setup now (units.Question question) next = IsQuestionServed setup now next question
IsServed setup now (units.Vcd file) next = next ≡ with_vcd setup now file

-- The state of a session after these units, one after another.
pub data Session (setup : Setup) : List ScriptUnit → Course → Type 0 where
  Opened : Session setup [] first_course
  Served : {units : List ScriptUnit} {now next : Course} (unit : ScriptUnit)
      → Session setup units now → IsServed setup now unit next → Session setup (units ++ unit ∷ []) next

-- The session of these units has these replies, this journal, which begins with its head, and these dumps.
pub record IsSession (setup : Setup) (units : List ScriptUnit) (out journal : List ℕ) (dumps : List Made) : Type 0 where
  pub course : Course
  pub served : Session setup units course
  pub out_is : out ≡ course.out
  pub journal_is : journal ≡ journal_text setup.shards setup.capacity course.sections
  pub dumps_are : dumps ≡ course.dumps

-- The same for the units of a whole script.
abbrev pub IsSessionOf : Setup → List ℕ → List ℕ → List ℕ → List Made → Type 0
IsSessionOf setup script out journal dumps = IsSession setup (script_units setup.design.circuit.horizon script) out journal dumps
