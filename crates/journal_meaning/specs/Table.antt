-- The table of legal entries: what each needs of the state of its shard, and what it changes.
use Rattle.std.specs.Prelude.{◌≡◌, ℕ, ◌<◌, true, false, ◌∷◌, length, Some, None}
use Rattle.valid_intervals.specs.Cells.{cell_for, covers, to_front, all_but_last, is_stored}
use Rattle.journal_meaning.specs.declared.Entry.{Entry}
use Rattle.journal_meaning.specs.declared.Entry.TheVariants.{Told, Claimed, Filled, Evicted, Dropped, Spent}
use Rattle.journal_meaning.specs.States.{State, is_covered, holder, without_point, IsLeastRecent}

-- what an entry needs, in a shard of this capacity
abbrev pub Needs : ℕ → State → Entry → Type 0
Needs capacity s (Told q p x) = (s.made ≡ false) × (is_stored (cell_for p x) s.cells ≡ true) × (covers p (cell_for p x) ≡ true)
Needs capacity s (Claimed q p) = (s.made ≡ false) × (is_covered s p ≡ false) × (holder s.claims p ≡ None)
Needs capacity s (Filled q p x) = (holder s.claims p ≡ Some q) × (s.made ≡ true → is_stored (cell_for p x) s.cells ≡ false) × (is_stored (cell_for p x) s.cells ≡ false → length s.cells < capacity)
Needs capacity s (Evicted signal start) = (s.made ≡ false) × (length s.cells ≡ capacity) × IsLeastRecent s.cells signal start
Needs capacity s (Dropped q p) = (s.made ≡ false) × (holder s.claims p ≡ Some q)
Needs capacity s (Spent q p claims) = (s.made ≡ false) × (is_covered s p ≡ false) × (holder s.claims p ≡ None)

-- what an entry changes
abbrev pub after : State → Entry → State
after s (Told q p x) = record s { cells = to_front (cell_for p x) s.cells }
after s (Claimed q p) = record s { claims = record { query = q; point = p } ∷ s.claims }
after s (Filled q p x) = record { cells = to_front (cell_for p x) s.cells; claims = without_point s.claims p; made = false }
after s (Evicted signal start) = record s { cells = all_but_last s.cells; made = true }
after s (Dropped q p) = record s { claims = without_point s.claims p }
after s (Spent q p claims) = s
