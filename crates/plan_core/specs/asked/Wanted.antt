-- The points that are going to be asked for.
use Rattle.std.specs.Prelude.{ℕ, ◌%◌, nat_le, nat_lt, Bool, false, ◌&&◌, List, slice_index_or}
use Rattle.valid_intervals.specs.declared.Point.{Point}

-- the marks of signals by their numbers modulo 1,024, the first time, and the time after the last one
pub record Marked : Type 0 where
  pub marks : List Bool
  pub from : ℕ
  pub to : ℕ

-- the point's signal is marked, and its time is one of these
abbrev pub is_wanted : Marked → Point → Bool
is_wanted m p = nat_le m.from p.time && (nat_lt p.time m.to && slice_index_or m.marks (p.signal % 1024) false)
