-- The lines that are left come after those read so far.
use Rattle.std.proofs.Common.{◌≡◌, length}
use Rattle.why_proofs.specs.inner.Reading.{cells_at}
use Rattle.texts.proofs.Callers.{put_all}
use Rattle.why_proofs.proofs.reading.cells_of.Given as goal

abbrev pub invariant-loop-cell : goal.invariant-loop-cell
invariant-loop-cell l = put_all l.cells.items (cells_at (length l.rest) l.rest) ≡ cells_at (length l.text) l.text

abbrev pub decreases-loop-cell : goal.decreases-loop-cell
decreases-loop-cell l = length l.rest
