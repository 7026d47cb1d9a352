-- The entries of a trim.
use Rattle.std.specs.Prelude.{ℕ, List, [], ◌∷◌, ◌++◌, drop}
use Rattle.valid_intervals.specs.declared.SignalCell.{SignalCell}
use Rattle.journal_meaning.specs.declared.Entry.{Entry}
use Rattle.journal_meaning.specs.declared.Entry.TheVariants.{Evicted}

-- the evictions of these cells, the last cell first
abbrev pub evictions_back : List SignalCell → List Entry
evictions_back [] = []
evictions_back (x ∷ cells) = evictions_back cells ++ Evicted x.signal x.cell.span.start ∷ []

-- the evictions of all but the first n cells
abbrev pub trim_evictions : ℕ → List SignalCell → List Entry
trim_evictions n cells = evictions_back (drop n cells)
