-- Intervals of times.
use Rattle.std.specs.Prelude.{ℕ, ◌+◌, ◌≤◌, ◌<◌, ◌↔◌, min, max}

-- the times [start, stop)
pub record Span : Type 0 where
  pub start : ℕ
  pub stop : ℕ

pub record IsIn (span : Span) (t : ℕ) : Type 0 where
  pub low : span.start ≤ t
  pub high : t < span.stop

abbrev pub from_to : ℕ → ℕ → Span
from_to a b = record { start = a; stop = b }

-- the times in both
abbrev pub meet : Span → Span → Span
meet a b = from_to (max a.start b.start) (min a.stop b.stop)

-- the same times, each later by d
abbrev pub moved_span : ℕ → Span → Span
moved_span d a = from_to (a.start + d) (a.stop + d)

-- the times below the limit
abbrev pub cut_at : ℕ → Span → Span
cut_at limit a = from_to a.start (min a.stop limit)

-- it is nonempty, and ends no later than the greatest horizon and delay allow
pub record IsSpan (a : Span) : Type 0 where
  pub some : a.start < a.stop
  pub within : a.stop ≤ 2000002

-- a time is in the meet exactly when it is in both
abbrev pub MeetsAreIntersections : Type 0
MeetsAreIntersections = (a b : Span) (t : ℕ) → (IsIn (meet a b) t) ↔ (IsIn a t × IsIn b t)

-- a time plus d is in the span moved by d and cut at the limit, exactly when the time is in the span and the sum is below the
-- limit
abbrev pub MovedIsLater : Type 0
MovedIsLater = (d limit : ℕ) (a : Span) (t : ℕ) → (IsIn (cut_at limit (moved_span d a)) (t + d)) ↔ (IsIn a t × (t + d < limit))
