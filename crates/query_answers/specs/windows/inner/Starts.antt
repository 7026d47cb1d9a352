-- The start of a strand for a piece of a window.
use Rattle.std.specs.Prelude.{ℕ}
use Rattle.journal_meaning.specs.declared.batch.Query.{Query}
use Rattle.journal_meaning.specs.Pieces.{Start}

abbrev pub piece_start : Query → ℕ → ℕ → ℕ → Start
piece_start q from to budget = record { query = q; start = from; stop = to; budget = budget; charged = 0 }
