-- The order of points: by signal, then by time.
use Rattle.std.proofs.Common.{◌≡◌, ℕ, ◌≤◌, ◌&&◌, nat_eq, true, false, sym, ap₂, ◌∙◌, eqb-true, arith}
use Rattle.std.proofs.lemmas.Bool.{and_parts}
use Rattle.std.proofs.lemmas.Bool.Decides.{nat_tests}
use Rattle.std.specs.Ordering.{is_eq, is_gt, is_lt}
use Rattle.valid_intervals.specs.declared.Point.{Point}
use Rattle.valid_intervals.specs.Cells.{point_cmp}

pub point-is : (a b : Point) → a.signal ≡ b.signal → a.time ≡ b.time → a ≡ b
point-is a b e f = let at : ℕ → ℕ → Point = λ s t. record { signal = s; time = t } in ap₂ at e f

pub same-place : (a b : Point) → is_eq (point_cmp a b) ≡ true → a ≡ b
same-place a b h =
    let e : is_eq (point_cmp a b) ≡ (nat_eq a.signal b.signal && nat_eq a.time b.time) = grind (arith, nat_tests) in
    let k = and_parts (nat_eq a.signal b.signal) (nat_eq a.time b.time) (sym e ∙ h) in
    point-is a b (eqb-true a.signal b.signal k.0) (eqb-true a.time b.time k.1)

pub itself : (a : Point) → is_eq (point_cmp a a) ≡ true
itself a = grind (arith, nat_tests)

pub not-behind : (a b : Point) → a.signal ≡ b.signal → a.time ≤ b.time → is_gt (point_cmp a b) ≡ false
not-behind a b e l = grind (arith, nat_tests)

pub signal-up : (a b : Point) → is_gt (point_cmp a b) ≡ false → a.signal ≤ b.signal
signal-up a b h = grind (arith, nat_tests)

pub signal-down : (a b : Point) → is_lt (point_cmp a b) ≡ false → b.signal ≤ a.signal
signal-down a b h = grind (arith, nat_tests)

pub time-up : (a b : Point) → is_gt (point_cmp a b) ≡ false → a.signal ≡ b.signal → a.time ≤ b.time
time-up a b h e = grind (arith, nat_tests)

pub time-down : (a b : Point) → is_lt (point_cmp a b) ≡ false → a.signal ≡ b.signal → b.time ≤ a.time
time-down a b h e = grind (arith, nat_tests)
