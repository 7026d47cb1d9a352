-- The edges of a clock, and what a flip-flop shows of them.
use Rattle.std.specs.Prelude.{◌≡◌, ℕ, ◌+◌, ◌-◌, ◌*◌, ◌/◌, ◌≤◌, ◌<◌, nat_lt, min, if◌then◌else◌, Option, Some, None, MatchOption}
use Rattle.valid_intervals.specs.Spans.{Span, from_to}
use Rattle.circuit_meaning.specs.declared.flip_flop.Clock.{Clock}

-- the numbers of a clock are within the limits of a timing file
pub record IsClock (clock : Clock) : Type 0 where
  pub first : clock.first ≤ 1000000
  pub some : 1 ≤ clock.period
  pub period : clock.period ≤ 1000000

-- the greatest edge e with e + delay at most t
unfoldable pub last_edge : Clock → ℕ → ℕ → Option ℕ
last_edge clock delay t =
    let shown = clock.first + delay in
    if nat_lt t shown then None else Some (clock.first + (t - shown) / clock.period * clock.period)

-- the edge that a flip-flop with this clock shows at t; without a clock there is no edge
abbrev pub shown_edge : Option Clock → ℕ → ℕ → Option ℕ
shown_edge None delay t = None
shown_edge (Some clock) delay t = last_edge clock delay t

-- the interval of a flip-flop that shows this edge, cut at the limit
abbrev pub flop_span : ℕ → ℕ → Option Clock → Option ℕ → Span
flop_span limit delay None shown = from_to 0 limit
flop_span limit delay (Some clock) None = from_to 0 (min (clock.first + delay) limit)
flop_span limit delay (Some clock) (Some e) = from_to (e + delay) (min (e + delay + clock.period) limit)

-- the shown edge is an edge, and no later one is shown
pub record IsLastEdge (clock : Clock) (delay t e : ℕ) : Type 0 where
  pub edge : (k : ℕ) × (e ≡ clock.first + k * clock.period)
  pub shown : e + delay ≤ t
  pub last : (k : ℕ) → clock.first + k * clock.period + delay ≤ t → clock.first + k * clock.period ≤ e

-- no edge is shown yet
abbrev pub ShowsNone : Clock → ℕ → ℕ → Type 0
ShowsNone clock delay t = (k : ℕ) → t < clock.first + k * clock.period + delay

-- last_edge is the last shown edge, or none if none is shown
abbrev pub EdgesAreLast : Type 0
EdgesAreLast = (clock : Clock) (delay t : ℕ) → 1 ≤ clock.period → MatchOption (last_edge clock delay t) (ShowsNone clock delay t) (IsLastEdge clock delay t)
