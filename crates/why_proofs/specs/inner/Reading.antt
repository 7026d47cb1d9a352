-- How a text is read: each function gives what stands at the front of the bytes, and the bytes after it.
use Rattle.std.specs.Prelude.{ℕ, Bool, ◌==◌, List, [], ◌∷◌, take, drop, position, codes, Option, Some, None, if◌then◌else◌}
use Rattle.std.specs.Borrow.{Bor}
use Rattle.gate_values.specs.declared.Value.{Value}
use Rattle.texts.specs.fields.Reading.{◌>>=◌, after_word, field_at, items_at, value_at}
use Rattle.texts.specs.Text.{is_name}
use Rattle.valid_intervals.specs.declared.SignalCell.{SignalCell}
use Rattle.valid_intervals.specs.Spans.{from_to}

abbrev pub line_of : ℕ → ℕ → ℕ → Value → SignalCell
line_of s a b v = record { signal = s; cell = record { span = from_to a b; value = v } }

-- a value after a blank, and the end of the line
unfoldable pub last_field_at : List ℕ → Option (Value × List ℕ)
last_field_at text = do
  blank ← after_word (32 ∷ []) text
  value ← value_at blank
  rest ← after_word (10 ∷ []) value.1
  Some (value.0, rest)

-- the bytes up to the first blank, which are a name
abbrev pub is_space : ℕ → Bool
is_space b = b == 32

abbrev pub name_before : List ℕ → ℕ → Option (List ℕ × List ℕ)
name_before text n = if is_name (take n text) then Some (take n text, drop n text) else None

unfoldable pub name_at : List ℕ → Option (List ℕ × List ℕ)
name_at text = position is_space text >>= name_before text

abbrev pub words_are : Option (Bor (List ℕ) × Bor (List ℕ)) → Option (List ℕ × List ℕ)
words_are (Some read) = Some (read.0.now, read.1.now)
words_are None = None

-- name, time and value
abbrev pub Claim : Type 0
Claim = List ℕ × ℕ × Value

abbrev pub claim_is : Option (Bor (List ℕ) × ℕ × Value × Bor (List ℕ)) → Option (Claim × List ℕ)
claim_is (Some read) = Some ((read.0.now, read.1, read.2), read.3.now)
claim_is None = None

-- the first line
unfoldable pub claim_at : List ℕ → Option (Claim × List ℕ)
claim_at text = do
  word ← after_word (codes "why ") text
  name ← name_at word
  time ← field_at name.1
  value ← last_field_at time.1
  Some ((name.0, time.0, value.0), value.1)

-- a cell line
unfoldable pub cell_at : List ℕ → Option (SignalCell × List ℕ)
cell_at text = do
  word ← after_word (codes "cell") text
  signal ← field_at word
  start ← field_at signal.1
  stop ← field_at start.1
  value ← last_field_at stop.1
  Some (line_of signal.0 start.0 stop.0 value.0, value.1)

-- the cell lines at the front, at most so many
abbrev pub cells_at : ℕ → List ℕ → List SignalCell × List ℕ
cells_at most text = items_at cell_at most text
