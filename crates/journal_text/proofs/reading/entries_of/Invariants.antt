-- The entries that are left come after those read so far.
use Rattle.std.proofs.Common.{◌≡◌, length}
use Rattle.journal_text.specs.inner.Reading.{entries_at}
use Rattle.texts.proofs.Callers.{put_all}
use Rattle.journal_text.proofs.reading.entries_of.Given as goal

abbrev pub invariant-loop-entry : goal.invariant-loop-entry
invariant-loop-entry l = put_all l.entries.items (entries_at (length l.rest) l.rest) ≡ entries_at (length l.text) l.text

abbrev pub decreases-loop-entry : goal.decreases-loop-entry
decreases-loop-entry l = length l.rest
