-- The units of a script, and those of the lines ended in its first bytes.
use Rattle.std.specs.Prelude.{ℕ, List, [], ◌∷◌, map}
use Rattle.std.specs.List.{enumerate_from, slice_split}
use Rattle.texts.specs.Text.{is_feed, lines}
use Rattle.query_lines.specs.declared.line.Line.{Line}
use Rattle.query_lines.specs.declared.unit.Unit.{Unit as ScriptUnit}
use Rattle.query_lines.specs.Lines.{line_of}
use Rattle.query_lines.specs.Units.{completed_from, units_of}

-- the lines of a text with their numbers, from this number on
abbrev pub numbered_lines : ℕ → List ℕ → List (ℕ × Line)
numbered_lines first text = enumerate_from first (map line_of (lines text))

-- the units of a script, whose lines are numbered from 1
unfoldable pub script_units : ℕ → List ℕ → List ScriptUnit
script_units horizon script = units_of horizon (numbered_lines 1 script)

-- all parts except the last
abbrev pub less_last : List (List ℕ) → List (List ℕ)
less_last [] = []
less_last (part ∷ []) = []
less_last (part ∷ next ∷ parts) = part ∷ less_last (next ∷ parts)

-- the lines ended in a text: what is before each of its line feeds, and nothing after the last
unfoldable pub ended_lines : List ℕ → List (List ℕ)
ended_lines text = less_last (slice_split is_feed text)

-- the units that the lines ended in these first bytes of a script complete
unfoldable pub completed_units : ℕ → List ℕ → List ScriptUnit
completed_units horizon bytes = completed_from horizon [] (enumerate_from 1 (map line_of (ended_lines bytes)))
