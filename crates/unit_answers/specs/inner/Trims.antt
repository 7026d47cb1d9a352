-- What a trim leaves of one store.
use Rattle.std.specs.Prelude.{ℕ, List, take}
use Rattle.cell_store.specs.declared.Key.{Key}
use Rattle.cell_store.specs.Recency.{Contents, with_cells}
use Rattle.journal_meaning.specs.declared.Entry.{Entry}
use Rattle.journal_meaning.specs.declared.Entry.TheVariants.{Evicted}
use Rattle.session_meaning.specs.Session.{trim_entries}

abbrev pub eviction_of : Key → Entry
eviction_of key = Evicted key.signal key.start

-- the first cells of the store are left
abbrev pub trimmed_store : ℕ → Contents → Contents
trimmed_store most store = with_cells store (take most store.cells)

-- the entries that evict the others
abbrev pub entries_at : ℕ → Contents → List Entry
entries_at most store = trim_entries most store.cells
