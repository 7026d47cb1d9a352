-- Cutting a stream of bytes into lines.
use Rattle.std.specs.Prelude.{◌≡◌, ℕ, ◌<◌, ◌≤◌, Bool, true, false, nat_le, List, [], length, if◌then◌else◌}
use Rattle.query_lines.specs.declared.cutter.Cut.{Cut}
use Rattle.query_lines.specs.declared.cutter.Cut.TheVariants.{Whole, Long}

-- the state of a cutter: the kept bytes of the current line, whether that line is too long, and the line that just
-- ended
pub record Cutter : Type 0 where
  pub kept : List ℕ
  pub is_long : Bool
  pub ended : List ℕ

-- the text of an ended line, empty if the line is too long; and the answer at its end
abbrev pub kept_of : List ℕ → List ℕ
kept_of line = if nat_le (length line) 4096 then line else []

abbrev pub cut_of : List ℕ → Cut
cut_of line = if nat_le (length line) 4096 then Whole else Long

-- the bytes since the end of the last line are these
pub record IsUnderWay (line : List ℕ) (c : Cutter) : Type 0 where
  pub bound : length c.kept ≤ 4096
  pub whole : c.is_long ≡ false → c.kept ≡ line
  pub long : c.is_long ≡ true → (4096 < length line) × (length c.kept ≡ 4096)

-- this line has ended
pub record LineEnds (line : List ℕ) (answer : Cut) (c : Cutter) : Type 0 where
  pub cut : answer ≡ cut_of line
  pub text : c.ended ≡ kept_of line
  pub next : IsUnderWay [] c
