-- How a text is read: each function gives what stands at the front of the bytes, and the bytes after it.
use Rattle.std.specs.Prelude.{ℕ, zero, suc, ◌+◌, ◌&&◌, nat_lt, nat_le, ◌==◌, List, [], ◌∷◌, length, codes, Option, Some, None, if◌then◌else◌}
use Rattle.texts.specs.fields.Reading.{◌>>=◌, after_word, field_at, items_at, value_at}
use Rattle.valid_intervals.specs.declared.Cell.{Cell}
use Rattle.valid_intervals.specs.declared.Point.{Point}
use Rattle.valid_intervals.specs.Spans.{from_to}
use Rattle.journal_meaning.specs.declared.Entry.{Entry}
use Rattle.journal_meaning.specs.declared.Entry.TheVariants.{Told, Claimed, Filled, Evicted, Dropped, Spent}
use Rattle.journal_text.specs.declared.sections.SectionKind.{SectionKind}
use Rattle.journal_text.specs.declared.sections.SectionKind.TheVariants.{Batch, Trim, Held}
use Rattle.journal_text.specs.declared.sections.Section.{Section}
use Rattle.journal_text.specs.Written.{most_shards}

unfoldable pub point_at : List ℕ → Option (Point × List ℕ)
point_at text = do
  signal ← field_at text
  time ← field_at signal.1
  Some (record { signal = signal.0; time = time.0 }, time.1)

unfoldable pub cell_at : List ℕ → Option (Cell × List ℕ)
cell_at text = do
  start ← field_at text
  stop ← field_at start.1
  blank ← after_word (32 ∷ []) stop.1
  value ← value_at blank
  if nat_lt start.0 stop.0 && nat_le stop.0 2000002 then Some (record { span = from_to start.0 stop.0; value = value.0 }, value.1) else None

unfoldable pub told_at : List ℕ → Option (Entry × List ℕ)
told_at text = do
  q ← field_at text
  p ← point_at q.1
  c ← cell_at p.1
  rest ← after_word (10 ∷ []) c.1
  Some (Told q.0 p.0 c.0, rest)

unfoldable pub claimed_at : List ℕ → Option (Entry × List ℕ)
claimed_at text = do
  q ← field_at text
  p ← point_at q.1
  rest ← after_word (10 ∷ []) p.1
  Some (Claimed q.0 p.0, rest)

unfoldable pub filled_at : List ℕ → Option (Entry × List ℕ)
filled_at text = do
  q ← field_at text
  p ← point_at q.1
  c ← cell_at p.1
  rest ← after_word (10 ∷ []) c.1
  Some (Filled q.0 p.0 c.0, rest)

unfoldable pub evicted_at : List ℕ → Option (Entry × List ℕ)
evicted_at text = do
  signal ← field_at text
  start ← field_at signal.1
  rest ← after_word (10 ∷ []) start.1
  Some (Evicted signal.0 start.0, rest)

unfoldable pub dropped_at : List ℕ → Option (Entry × List ℕ)
dropped_at text = do
  q ← field_at text
  p ← point_at q.1
  rest ← after_word (10 ∷ []) p.1
  Some (Dropped q.0 p.0, rest)

unfoldable pub spent_at : List ℕ → Option (Entry × List ℕ)
spent_at text = do
  q ← field_at text
  p ← point_at q.1
  claims ← field_at p.1
  rest ← after_word (10 ∷ []) claims.1
  Some (Spent q.0 p.0 claims.0, rest)

-- by the word at the front
abbrev pub behind : {A : Type 0} → Option (List ℕ) → (List ℕ → Option A) → Option A → Option A
behind (Some rest) read other = read rest
behind None read other = other

unfoldable pub entry_at : List ℕ → Option (Entry × List ℕ)
entry_at text =
    behind (after_word (codes "told") text) told_at (
    behind (after_word (codes "claim") text) claimed_at (
    behind (after_word (codes "fill") text) filled_at (
    behind (after_word (codes "evict") text) evicted_at (
    behind (after_word (codes "drop") text) dropped_at (
    behind (after_word (codes "spent") text) spent_at None)))))

-- the entries at the front, at most so many
abbrev pub entries_at : ℕ → List ℕ → List Entry × List ℕ
entries_at most text = items_at entry_at most text

-- the rest of the line of the shard of this number, and its entries
unfoldable pub shard_at : ℕ → List ℕ → Option (List Entry × List ℕ)
shard_at i text = do
  number ← field_at text
  rest ← after_word (10 ∷ []) number.1
  if number.0 == i then Some (entries_at (length rest) rest) else None

-- the shards at the front from this number on, at most so many
abbrev pub shards_at : ℕ → ℕ → List ℕ → Option (List (List Entry) × List ℕ)
shards_at zero i text = Some ([], text)
shards_at (suc most) i text = behind (after_word (codes "shard") text)
    (λ rest. shard_at i rest >>= (λ shard. shards_at most (i + 1) shard.1 >>= (λ more. Some (shard.0 ∷ more.0, more.1))))
    (Some ([], text))

unfoldable pub kind_at : List ℕ → Option (SectionKind × List ℕ)
kind_at text =
    behind (after_word (codes "batch") text) (λ rest. Some (Batch, rest)) (
    behind (after_word (codes "trim") text) (λ rest. Some (Trim, rest)) (
    behind (after_word (codes "held") text) (λ rest. Some (Held, rest)) None))

unfoldable pub section_at : List ℕ → Option (Section × List ℕ)
section_at text = do
  kind ← kind_at text
  number ← field_at kind.1
  first ← after_word (10 ∷ []) number.1
  shards ← shards_at (most_shards kind.0) 0 first
  rest ← after_word (codes "end\n") shards.1
  if nat_lt 0 number.0 && nat_lt 0 (length shards.0) then Some (record { kind = kind.0; number = number.0; shards = shards.0 }, rest) else None
