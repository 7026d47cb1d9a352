-- The text of a journal. Words are divided by one space, and every line ends with a line feed.
use Rattle.std.specs.Prelude.{ℕ, ◌+◌, List, [], ◌∷◌, ◌++◌, flat_map, codes}
use Rattle.gate_values.specs.Spelling.{byte_of_value}
use Rattle.valid_intervals.specs.declared.Cell.{Cell}
use Rattle.valid_intervals.specs.declared.Point.{Point}
use Rattle.journal_meaning.specs.declared.Entry.{Entry}
use Rattle.journal_meaning.specs.declared.Entry.TheVariants.{Told, Claimed, Filled, Evicted, Dropped, Spent}
use Rattle.texts.specs.fields.Spelling.{field}
use Rattle.journal_text.specs.declared.sections.SectionKind.{SectionKind}
use Rattle.journal_text.specs.declared.sections.SectionKind.TheVariants.{Batch, Trim, Held}
use Rattle.journal_text.specs.declared.sections.Section.{Section}

-- SIGNAL TIME
abbrev pub point : Point → List ℕ
point p = field p.signal ++ field p.time

-- START END VALUE
abbrev pub cell : Cell → List ℕ
cell c = field c.span.start ++ (field c.span.stop ++ 32 ∷ byte_of_value c.value ∷ [])

abbrev pub line_feed : List ℕ
line_feed = 10 ∷ []

-- the line of an entry
abbrev pub entry_line : Entry → List ℕ
entry_line (Told q p c) = codes "told" ++ (field q ++ (point p ++ (cell c ++ line_feed)))
entry_line (Claimed q p) = codes "claim" ++ (field q ++ (point p ++ line_feed))
entry_line (Filled q p c) = codes "fill" ++ (field q ++ (point p ++ (cell c ++ line_feed)))
entry_line (Evicted signal start) = codes "evict" ++ (field signal ++ (field start ++ line_feed))
entry_line (Dropped q p) = codes "drop" ++ (field q ++ (point p ++ line_feed))
entry_line (Spent q p claims) = codes "spent" ++ (field q ++ (point p ++ (field claims ++ line_feed)))

-- for each shard, from this number on, a line with its number, and its entries
abbrev pub shard_lines : ℕ → List (List Entry) → List ℕ
shard_lines i [] = []
shard_lines i (entries ∷ rest) = codes "shard" ++ (field i ++ (line_feed ++ (flat_map entry_line entries ++ shard_lines (i + 1) rest)))

abbrev pub kind_word : SectionKind → List ℕ
kind_word Batch = codes "batch"
kind_word Trim = codes "trim"
kind_word Held = codes "held"

-- the text of a section
abbrev pub section_lines : Section → List ℕ
section_lines s = kind_word s.kind ++ (field s.number ++ (line_feed ++ (shard_lines 0 s.shards ++ (codes "end" ++ line_feed))))

-- the first line of a journal: how many shards there are, and how many cells each may store
abbrev pub head_line : ℕ → ℕ → List ℕ
head_line shards cells = codes "journal shards" ++ (field shards ++ (codes " cells" ++ (field cells ++ line_feed)))

-- the text of a journal
abbrev pub journal_lines : ℕ → ℕ → List Section → List ℕ
journal_lines shards cells sections = head_line shards cells ++ flat_map section_lines sections
