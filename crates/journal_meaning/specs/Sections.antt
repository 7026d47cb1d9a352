-- The sections of a journal: one for each batch and each trim, and one for each memo of a circuit with a forced signal.
use Rattle.std.specs.Prelude.{ℕ, ⊤, List, [], ◌∷◌, slice_index_or, flat_map, fold}
use Rattle.valid_intervals.specs.declared.SignalCell.{SignalCell}
use Rattle.journal_meaning.specs.declared.Entry.{Entry}
use Rattle.journal_meaning.specs.States.{fresh}
use Rattle.journal_meaning.specs.Batches.{Batch}
use Rattle.journal_meaning.specs.Replay.{replay, IsLegalBatch, IsLegalTrim}

-- The purpose of a section. The section of a forced signal is that of a second memo, which begins and ends with the section.
pub data Purpose : Type 0 where
  Asks : Batch → Purpose
  Trims : Purpose
  Forces : Batch → Purpose

-- the entries of each shard
pub record SectionEntries : Type 0 where
  pub purpose : Purpose
  pub lists : List (List Entry)

-- the entries of all shards in a batch, one shard after another
abbrev pub of_batch : List (List Entry) → List Entry
of_batch lists = flat_map (λ es. es) lists

abbrev pub list_of : SectionEntries → ℕ → List Entry
list_of section shard = slice_index_or section.lists shard []

-- the entries of a shard are legal from these cells
abbrev pub IsLegalIn : Purpose → ℕ → List SignalCell → List Entry → Type 0
IsLegalIn (Asks b) shard cells es = IsLegalBatch b shard cells es
IsLegalIn Trims shard cells es = IsLegalTrim (fresh cells) es
IsLegalIn (Forces b) shard cells es = IsLegalBatch b shard [] es

-- the entries of a section that belong to the session's memo
abbrev pub own_entries : Purpose → List Entry → List Entry
own_entries (Forces b) es = []
own_entries purpose es = es

-- the cells that a section leaves in a shard that had these cells
abbrev pub cells_left : ℕ → List SignalCell → SectionEntries → List SignalCell
cells_left shard cells section = (replay (fresh cells) (own_entries section.purpose (list_of section shard))).cells

-- each section is legal from the cells that the sections before it leave
abbrev pub AreLegal : ℕ → List SignalCell → List SectionEntries → Type 0
AreLegal shard cells [] = ⊤
AreLegal shard cells (section ∷ rest) = IsLegalIn section.purpose shard cells (list_of section shard) × AreLegal shard (cells_left shard cells section) rest

-- the entries of a shard in all sections of the session's memo
abbrev pub joined_entries : ℕ → List SectionEntries → List Entry
joined_entries shard sections = flat_map (λ section. own_entries section.purpose (list_of section shard)) sections

-- the cells that the sections of a session leave in a shard; the shard begins empty
abbrev pub cells_after : ℕ → List SectionEntries → List SignalCell
cells_after shard sections = fold (cells_left shard) [] sections
