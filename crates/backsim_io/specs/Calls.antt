-- The calls of an object in memory, some of which fail.
use Rattle.std.specs.Prelude.{ℕ, ◌+◌, ◌==◌, List, Bool, min}
use Rattle.std.specs.List.{list_any}

-- the numbers of the calls that fail, and the number of the next call
pub record CallsState : Type 0 where
  pub failing : List ℕ
  pub next : ℕ

-- the next call fails
abbrev pub is_listed : CallsState → Bool
is_listed calls = list_any (λ number. number == calls.next) calls.failing

-- one more call was made; the greatest `u64` stands for that call and all later ones
abbrev pub after_call : CallsState → CallsState
after_call calls = record calls { next = min (calls.next + 1) 18446744073709551615 }
