-- How often points are evaluated and cells evicted.
use Rattle.std.specs.Prelude.{ℕ, ◌+◌, nat_eq, Bool, true, false, not, ◌&&◌, if◌then◌else◌, List, [], ◌∷◌, length, filter, filter_map, Option, Some, None}
use Rattle.std.specs.List.{list_any}
use Rattle.valid_intervals.specs.declared.Point.{Point}
use Rattle.journal_meaning.specs.declared.Entry.{Entry}
use Rattle.journal_meaning.specs.declared.Entry.TheVariants.{Claimed, Filled, Evicted}
use Rattle.valid_intervals.specs.Cells.{same_point}

-- how many entries pass the test
abbrev pub count : (Entry → Bool) → List Entry → ℕ
count test es = length (filter test es)

abbrev pub evaluated_point : Entry → Option Point
evaluated_point (Filled q p x) = Some p
evaluated_point e = None

-- the points that entries say were evaluated
abbrev pub points_of : List Entry → List Point
points_of es = filter_map evaluated_point es

-- the points, each once
abbrev pub different : List Point → List Point
different [] = []
different (p ∷ rest) = p ∷ filter (λ x. not (same_point p x)) (different rest)

-- how many of the points occurred before, in the list or among these earlier ones
abbrev pub repeat_count : List Point → List Point → ℕ
repeat_count earlier [] = 0
repeat_count earlier (p ∷ rest) = (if list_any (same_point p) earlier then 1 else 0) + repeat_count (p ∷ earlier) rest

abbrev pub evaluations : List Entry → ℕ
evaluations es = length (points_of es)

abbrev pub distinct : List Entry → ℕ
distinct es = length (different (points_of es))

abbrev pub again : List Entry → ℕ
again es = repeat_count [] (points_of es)

-- whether the entry fills the point
abbrev pub is_fill_at : Point → Entry → Bool
is_fill_at p (Filled q r x) = same_point p r
is_fill_at p e = false

-- how often the entries fill the point
abbrev pub fills_at : List Entry → Point → ℕ
fills_at es p = length (filter (is_fill_at p) es)

-- whether the entry evicts the cell with this signal and start
abbrev pub is_eviction_of : ℕ → ℕ → Entry → Bool
is_eviction_of signal start (Evicted s t) = nat_eq signal s && nat_eq start t
is_eviction_of signal start e = false

-- how often the entries evict the cell with this signal and start
abbrev pub evictions_of : List Entry → ℕ → ℕ → ℕ
evictions_of es signal start = length (filter (is_eviction_of signal start) es)

-- whether the entry begins a claim or fills a point
abbrev pub is_booked : Entry → Bool
is_booked (Claimed q p) = true
is_booked (Filled q p x) = true
is_booked e = false

-- how many entries begin a claim or fill a point
abbrev pub booked_count : List Entry → ℕ
booked_count es = length (filter is_booked es)
