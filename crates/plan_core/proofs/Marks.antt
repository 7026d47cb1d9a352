-- Points whose signals are marked.
use Rattle.std.proofs.Common.{◌≡◌, ℕ, zero, suc, ◌%◌, ◌<◌, ◌≤◌, true, false, get_or, replicate, refl, arith}
use Rattle.valid_intervals.specs.declared.Point.{Point}
use Rattle.plan_core.specs.asked.Wanted.{Marked, is_wanted}

-- each of so many is marked
pub marked-all : (n i : ℕ) → i < n → get_or (replicate n true) i false ≡ true
marked-all zero i low = absurd (omega arith)
marked-all (suc n) zero low = refl
marked-all (suc n) (suc i) low = marked-all n i (omega arith)

-- a point of a marked signal at one of the times
pub within-marked : (m : Marked) (p : Point) → m.from ≤ p.time → p.time < m.to → get_or m.marks (p.signal % 1024) false ≡ true → is_wanted m p ≡ true
within-marked m p from to marked = grind arith
