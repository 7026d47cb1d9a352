-- How often the points of a session are evaluated.
use Rattle.std.specs.Prelude.{◌≡◌, ⊤, ℕ, ◌+◌, ◌<◌, List, ◌∷◌, ◌++◌, sum_by, All, Contains}
use Rattle.std.specs.List.{range_with_len}
use Rattle.valid_intervals.specs.declared.Cell.{Cell}
use Rattle.valid_intervals.specs.declared.Point.{Point}
use Rattle.journal_meaning.specs.Batches.{shard_number}
use Rattle.journal_meaning.specs.declared.Entry.{Entry}
use Rattle.journal_meaning.specs.declared.Entry.TheVariants.{Filled, Evicted}
use Rattle.journal_meaning.specs.Sections.{Purpose, Asks, Trims, Forces, SectionEntries, joined_entries}
use Rattle.journal_meaning.specs.Counts.{evaluations, distinct, again}
use Rattle.session_meaning.specs.Session.{is_fill, entries_that}

-- between two evaluations of a point its cell was evicted
abbrev pub IsEvictedBetween : List Entry → Type 0
IsEvictedBetween es = (q r : ℕ) (p : Point) (x y : Cell) (before between behind : List Entry)
    → es ≡ before ++ Filled q p x ∷ between ++ Filled r p y ∷ behind
    → Contains between (Evicted p.signal y.span.start)

-- The evaluations in the entries are those of different points and repeated ones. Each repeated
-- one comes after an eviction of the point's cell.
pub record IsFrugal (es : List Entry) : Type 0 where
  pub sum : evaluations es ≡ distinct es + again es
  pub evicted : IsEvictedBetween es

-- a shard evaluates only its points, so no other shard evaluates them
abbrev pub AreOfShard : ℕ → ℕ → List Entry → Type 0
AreOfShard shards shard es = (q : ℕ) (p : Point) (x : Cell) → Contains es (Filled q p x)
    → shard_number p.signal shards ≡ shard

-- a second memo, for a stuck signal, is about another circuit and is counted alone
abbrev pub IsFrugalMemo : Purpose → List (List Entry) → Type 0
IsFrugalMemo (Asks batch) lists = ⊤
IsFrugalMemo Trims lists = ⊤
IsFrugalMemo (Forces batch) lists = All IsFrugal lists

-- Each shard is frugal over all sections of the session's memo. The evaluations of the shards are
-- the fills that the session counts. Each second memo is frugal too.
pub record AreFrugal (shards : ℕ) (sections : List SectionEntries) : Type 0 where
  pub own : (shard : ℕ) → shard < shards → IsFrugal (joined_entries shard sections)
  pub home : (shard : ℕ) → shard < shards → AreOfShard shards shard (joined_entries shard sections)
  pub fills : entries_that is_fill sections
      ≡ sum_by (λ shard. evaluations (joined_entries shard sections)) (range_with_len 0 shards)
  pub apart : All (λ section. IsFrugalMemo section.purpose section.lists) sections
