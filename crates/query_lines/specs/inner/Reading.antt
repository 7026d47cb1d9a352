-- Definitions for proofs and private functions, beside `Readers`.
use Rattle.std.specs.Prelude.{◌≡◌, ℕ, ◌+◌, List}
use Rattle.query_lines.specs.declared.unit.Unit.{Unit as ScriptUnit}
use Rattle.query_lines.specs.Lines.{line_of}
use Rattle.query_lines.specs.Units.{given_by, left_by}
use Rattle.query_lines.specs.Readers.{Reader}

-- The reader reads one more line, and gives these units.
pub record ReadsLine (line : List ℕ) (old new : Reader) (units : List ScriptUnit) : Type 0 where
  pub cutter_stays : new.cutter ≡ old.cutter
  pub lines_end : new.lines ≡ old.lines + 1
  pub units_are : units ≡ given_by old.pending (old.lines + 1) (line_of line)
  pub pending_are : new.pending ≡ left_by old.pending (old.lines + 1) (line_of line)
