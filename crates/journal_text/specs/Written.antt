-- Which sections have a text.
use Rattle.std.specs.Prelude.{ℕ, ◌<◌, ◌≤◌, length}
use Rattle.std.specs.List.{AllByRecursion}
use Rattle.valid_intervals.specs.declared.Cell.{Cell}
use Rattle.valid_intervals.specs.declared.Point.{Point}
use Rattle.valid_intervals.specs.Spans.{IsSpan}
use Rattle.journal_meaning.specs.declared.Entry.{Entry}
use Rattle.journal_meaning.specs.declared.Entry.TheVariants.{Told, Claimed, Filled, Evicted, Dropped, Spent}
use Rattle.texts.specs.fields.Spelling.{IsNumber}
use Rattle.journal_text.specs.declared.sections.SectionKind.{SectionKind}
use Rattle.journal_text.specs.declared.sections.SectionKind.TheVariants.{Batch, Trim, Held}
use Rattle.journal_text.specs.declared.sections.Section.{Section}

abbrev pub IsPoint : Point → Type 0
IsPoint p = IsNumber p.signal × IsNumber p.time

abbrev pub IsCell : Cell → Type 0
IsCell c = IsSpan c.span

-- the numbers of an entry are within their limits
abbrev pub IsEntry : Entry → Type 0
IsEntry (Told q p c) = IsNumber q × IsPoint p × IsCell c
IsEntry (Claimed q p) = IsNumber q × IsPoint p
IsEntry (Filled q p c) = IsNumber q × IsPoint p × IsCell c
IsEntry (Evicted signal start) = IsNumber signal × IsNumber start
IsEntry (Dropped q p) = IsNumber q × IsPoint p
IsEntry (Spent q p claims) = IsNumber q × IsPoint p × IsNumber claims

-- a held section has one shard, another one at most 64
abbrev pub most_shards : SectionKind → ℕ
most_shards Batch = 64
most_shards Trim = 64
most_shards Held = 1

-- a section has a number from 1 on, and from 1 shard on
pub record IsNumbered (s : Section) : Type 0 where
  pub number : 0 < s.number
  pub some : 0 < length s.shards
  pub most : length s.shards ≤ most_shards s.kind

-- a section whose numbers are all within their limits
pub record IsSection (s : Section) : Type 0 where
  pub numbered : IsNumbered s
  pub number : IsNumber s.number
  pub entries : AllByRecursion (AllByRecursion IsEntry) s.shards
