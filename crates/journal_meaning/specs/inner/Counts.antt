-- Definitions for proofs and private functions, beside `Counts`.
use Rattle.std.specs.Prelude.{ℕ, ◌+◌, ◌&&◌, if◌then◌else◌, List, [], ◌∷◌, flat_map}
use Rattle.std.specs.List.{range_with_len}
use Rattle.journal_meaning.specs.declared.Entry.{Entry}
use Rattle.journal_meaning.specs.Sections.{SectionEntries, joined_entries}

-- the entries of the session's memo, shard by shard
abbrev pub all_joined : ℕ → List SectionEntries → List Entry
all_joined shards sections = flat_map (λ shard. joined_entries shard sections) (range_with_len 0 shards)
