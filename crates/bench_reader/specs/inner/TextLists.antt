-- Texts, each in a place of its own or in one list of bytes.
use Rattle.std.specs.Prelude.{ℕ, ◌≤◌, List, length, take, slice_range}
use Rattle.std.specs.List.{All}
use Rattle.bench_reader.specs.declared.text_list.Place.{Place}
use Rattle.bench_reader.specs.declared.text_list.Place.TheVariants.{Short, Long}

-- the text that is kept there
abbrev pub text_at : List ℕ → Place → List ℕ
text_at bytes (Short len short) = take len short
text_at bytes (Long start end) = slice_range bytes start end

-- a part of so many bytes
pub record IsSpan (many start end : ℕ) : Type 0 where
  pub ordered : start ≤ end
  pub within : end ≤ many

-- a place that has its text, with a list of so many bytes
abbrev pub IsPlace : ℕ → Place → Type 0
IsPlace many (Short len short) = len ≤ 11
IsPlace many (Long start end) = IsSpan many start end

-- each text has its place
abbrev pub LieWithin : List ℕ → List Place → Type 0
LieWithin bytes places = All (IsPlace (length bytes)) places
