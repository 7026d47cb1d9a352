-- The cells that need no evaluation, from what is kept of a signal.
use Rattle.std.specs.Prelude.{ℕ, zero, suc, List, Option, Some, None, slice_get}
use Rattle.std.specs.Option.{option_map_or}
use Rattle.valid_intervals.specs.Spans.{Span, from_to, moved_span}
use Rattle.circuit_meaning.specs.declared.Setting.{Setting}

-- the last of the first n settings
abbrev pub last_of : List Setting → ℕ → Option Setting
last_of settings zero = None
last_of settings (suc n) = slice_get settings n

-- the time of the setting after the first n; if there is none, the limit
abbrev pub next_of : List Setting → ℕ → ℕ → ℕ
next_of settings n limit = option_map_or (λ (s : Setting). s.time) (slice_get settings n) limit

-- what a pin with this delay sees, from the interval of its source
abbrev pub later_of : ℕ → Option Span → Span
later_of delay None = from_to 0 delay
later_of delay (Some heard) = moved_span delay heard
