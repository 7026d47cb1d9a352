-- The pieces of a query's window, cut at the multiples of 65,536 inside it, each with a part of the budget.
use Rattle.std.specs.Prelude.{◌≡◌, ℕ, zero, suc, ◌+◌, ◌*◌, ◌/◌, ◌%◌, ◌≤◌, ◌<◌, nat_lt, if◌then◌else◌, List, [], ◌∷◌, length, sum_by, Contains, None}
use Rattle.std.specs.List.{AllByRecursion}
use Rattle.valid_intervals.specs.Spans.{Span}
use Rattle.circuit_meaning.specs.declared.Window.{Window}
use Rattle.circuit_meaning.specs.Need.{IsRoot}
use Rattle.journal_meaning.specs.declared.batch.Query.{Query}
use Rattle.journal_meaning.specs.Batches.{Batch, window_of}
use Rattle.journal_meaning.specs.Lawful.{IsQueryOf}

-- the start of a strand: the times [start, stop) of its query's window, and what it may charge
pub record Start : Type 0 where
  pub query : Query
  pub start : ℕ
  pub stop : ℕ
  pub budget : ℕ
  pub charged : ℕ

abbrev pub piece : Start → Window
piece a = record { signal = a.query.signal; start = a.start; stop = a.stop }

pub record IsStart (b : Batch) (a : Start) : Type 0 where
  pub known : IsQueryOf b a.query
  pub root : a.start < a.stop → IsRoot b.circuit (window_of a.query) a.start
  pub stop : a.stop ≤ a.query.to
  pub charge : a.charged ≤ a.budget
  pub budget : a.budget ≤ a.query.budget

abbrev pub span_at : ℕ → ℕ → Span
span_at t u = record { start = t; stop = u }

-- the least multiple of 65,536 above t
abbrev pub next_cut : ℕ → ℕ
next_cut t = (t / 65536 + 1) * 65536

-- the pieces of [t, stop), in at most n cuts
abbrev pub cuts : ℕ → ℕ → ℕ → List Span
cuts zero t stop = span_at t stop ∷ []
cuts (suc n) t stop = if nat_lt (next_cut t) stop then span_at t (next_cut t) ∷ cuts n (next_cut t) stop else span_at t stop ∷ []

abbrev pub spans_of : Query → List Span
spans_of q = cuts (q.to / 65536 + 1) q.from q.to

-- the first piece has one budget, the others another
abbrev pub starts_of : Query → ℕ → ℕ → List Span → List Start
starts_of q first each [] = []
starts_of q first each (w ∷ ws) = record { query = q; start = w.start; stop = w.stop; budget = first; charged = 0 } ∷ starts_of q each each ws

-- each piece has an equal part of the budget, and the first also the remainder
abbrev pub pieces : Query → List Start
pieces q = let m = length (spans_of q) in starts_of q (q.budget / m + q.budget % m) (q.budget / m) (spans_of q)

-- each begins where the one before it ends
abbrev pub IsJoined : ℕ → List Start → ℕ → Type 0
IsJoined t [] stop = t ≡ stop
IsJoined t (a ∷ more) stop = (a.start ≡ t) × IsJoined a.stop more stop

-- each piece is a lawful start of a strand
abbrev pub PiecesAreStarts : Type 0
PiecesAreStarts = (b : Batch) → b.site ≡ None → (q : Query) → Contains b.queries q → AllByRecursion (IsStart b) (pieces q)

-- the pieces make up the window, one after another
abbrev pub PiecesFollow : Type 0
PiecesFollow = (q : Query) → IsJoined q.from (pieces q) q.to

-- the pieces share the budget
abbrev pub PiecesShare : Type 0
PiecesShare = (q : Query) → sum_by (λ a. a.budget) (pieces q) ≡ q.budget
