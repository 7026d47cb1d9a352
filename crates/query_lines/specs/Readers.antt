-- A script read byte by byte.
use Rattle.std.specs.Prelude.{◌≡◌, ℕ, ◌+◌, ◌≤◌, true, not, List, ◌++◌, length}
use Rattle.std.specs.List.{list_all}
use Rattle.texts.specs.Text.{is_feed}
use Rattle.query_lines.specs.declared.unit.Unit.{Unit as ScriptUnit}
use Rattle.query_lines.specs.Cutting.{Cutter, IsUnderWay}
use Rattle.query_lines.specs.Units.{Pending, units_from}
use Rattle.query_lines.specs.Reading.{numbered_lines, script_units}

-- the state of a reader: the current line, the pending items, and the number of ended lines
pub record Reader : Type 0 where
  pub cutter : Cutter
  pub pending : Pending
  pub lines : ℕ

-- The reader has taken these bytes and given these units. Whatever bytes follow, the units of the whole are
-- those given, and then those that the current line and all that follows make with the pending items.
pub record HasRead (horizon : ℕ) (script : List ℕ) (given : List ScriptUnit) (reader : Reader) : Type 0 where
  pub line : List ℕ
  pub under_way : list_all (λ byte. not (is_feed byte)) line ≡ true
  pub holds : IsUnderWay line reader.cutter
  pub horizon_is : reader.pending.horizon ≡ horizon
  pub lines_end : reader.lines ≤ length script
  pub goes_on : (rest : List ℕ) → script_units horizon (script ++ rest)
      ≡ given ++ units_from horizon reader.pending.items (numbered_lines (reader.lines + 1) (line ++ rest))
