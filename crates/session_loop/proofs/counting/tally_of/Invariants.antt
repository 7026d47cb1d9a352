use Rattle.std.proofs.Common.{◌≡◌, ◌≤◌, take}
use Rattle.journal_meaning.specs.Counts.{count}
use Rattle.session_meaning.specs.Session.{is_fill, is_eviction}
use Rattle.session_loop.proofs.counting.tally_of.Given as goal

abbrev pub invariant-loop-entry : goal.invariant-loop-entry
invariant-loop-entry l = (l.fills ≡ count is_fill (take l.entry-index l.entries)) × (l.evictions ≡ count is_eviction (take l.entry-index l.entries)) × (l.fills ≤ l.entry-index) × (l.evictions ≤ l.entry-index)
