-- What the tests on keys and points say in numbers.
use Rattle.std.proofs.Common.{◌≡◌, ◌⊎◌, ℕ, ◌<◌, ◌≤◌, Bool, true, false, ◌&&◌, nat_eq, nat_lt, nat_le, refl, sym, ap, ap₂, subst, ◌∙◌, true≢false, eqb-true, eq-eqb, arith}
use Rattle.std.proofs.lemmas.Bool.{and_parts, and_from, leb-true, ltb-true, le-leb, lt-ltb, false_from_ne_true}
use Rattle.std.proofs.lemmas.Bool.Decides.{nat_tests}
use Rattle.std.specs.Ordering.{is_eq, is_gt, is_lt}
use Rattle.valid_intervals.specs.Spans.{IsSpan}
use Rattle.valid_intervals.specs.declared.Point.{Point}
use Rattle.valid_intervals.specs.declared.SignalCell.{SignalCell}
use Rattle.valid_intervals.specs.Cells.{same_stored, covers}
use Rattle.cell_store.specs.declared.Key.{Key}
use Rattle.cell_store.specs.Recency.{key_of, IsApart}
use Rattle.cell_store.specs.inner.Index.{key_cmp, has_key}
use Rattle.valid_intervals.proofs.Callers.{same_stored-true}

pub record IsCovered (p : Point) (x : SignalCell) : Type 0 where
  pub signal : x.signal ≡ p.signal
  pub low : x.cell.span.start ≤ p.time
  pub high : p.time < x.cell.span.stop

pub covers_true : (p : Point) (x : SignalCell) → covers p x ≡ true → IsCovered p x
covers_true p x h =
    let a = and_parts (nat_eq x.signal p.signal && nat_le x.cell.span.start p.time) (nat_lt p.time x.cell.span.stop) h in
    let b = and_parts (nat_eq x.signal p.signal) (nat_le x.cell.span.start p.time) a.0 in
    record {
      signal = eqb-true x.signal p.signal b.0;
      low = leb-true x.cell.span.start p.time b.1;
      high = ltb-true p.time x.cell.span.stop a.1;
    }

pub covers_from : (p : Point) (x : SignalCell) → IsCovered p x → covers p x ≡ true
covers_from p x c =
    and_from (nat_eq x.signal p.signal && nat_le x.cell.span.start p.time) (nat_lt p.time x.cell.span.stop)
    (and_from (nat_eq x.signal p.signal) (nat_le x.cell.span.start p.time) (eq-eqb x.signal p.signal c.signal) (le-leb x.cell.span.start p.time c.low))
    (lt-ltb p.time x.cell.span.stop c.high)

-- the first point of a cell
abbrev pub first_point : SignalCell → Point
first_point x = record { signal = x.signal; time = x.cell.span.start }

pub covers_first : (x : SignalCell) → IsSpan x.cell.span → covers (first_point x) x ≡ true
covers_first x s = covers_from (first_point x) x (record { signal = refl; low = omega arith; high = s.some })

abbrev key : ℕ → ℕ → Key
key signal start = record { signal = signal; start = start }

pub has_key-true : (k : Key) (x : SignalCell) → has_key k x ≡ true → k ≡ key_of x
has_key-true k x h =
    let a = and_parts (nat_eq k.signal x.signal) (nat_eq k.start x.cell.span.start) h in
    ap₂ key (eqb-true k.signal x.signal a.0) (eqb-true k.start x.cell.span.start a.1)

pub has_key-itself : (x : SignalCell) → has_key (key_of x) x ≡ true
has_key-itself x = and_from (nat_eq x.signal x.signal) (nat_eq x.cell.span.start x.cell.span.start) (eq-eqb x.signal x.signal refl) (eq-eqb x.cell.span.start x.cell.span.start refl)

-- two cells of one key have the first point of each in common
pub shares_first : (x y : SignalCell) → IsSpan x.cell.span → IsSpan y.cell.span → has_key (key_of x) y ≡ true → covers (first_point x) y ≡ true
shares_first x y s t h =
    let same : key_of x ≡ key_of y = has_key-true (key_of x) y h in
    let signal : x.signal ≡ y.signal = ap (λ (k : Key). k.signal) same in
    let start : x.cell.span.start ≡ y.cell.span.start = ap (λ (k : Key). k.start) same in
    covers_from (first_point x) y (record { signal = sym signal; low = let i = start in omega arith; high = let i = start in let j = t.some in omega arith })

pub keys_differ : (x y : SignalCell) → IsSpan x.cell.span → IsSpan y.cell.span → IsApart x y → has_key (key_of x) y ≡ false
keys_differ x y s t apart = false_from_ne_true (has_key (key_of x) y) (λ h. apart (first_point x) (covers_first x s) (shares_first x y s t h))

-- cells that are apart are not the same
pub differs : (x y : SignalCell) → IsSpan x.cell.span → IsApart x y → same_stored x y ≡ false
differs x y s apart =
    false_from_ne_true (same_stored x y) (λ h. apart (first_point x) (covers_first x s) (subst (λ (z : SignalCell). covers (first_point x) z ≡ true) (same_stored-true x y h) (covers_first x s)))

-- nor are those of which a test tells only one
pub told_apart : (f : SignalCell → Bool) (x y : SignalCell) → f x ≡ true → f y ≡ false → same_stored x y ≡ false
told_apart f x y told missed = false_from_ne_true (same_stored x y) (λ h. true≢false (sym told ∙ ap f (same_stored-true x y h) ∙ missed))

-- what the order of keys says
abbrev pub AtMost : Key → Key → Type 0
AtMost a b = (a.signal < b.signal) ⊎ ((a.signal ≡ b.signal) × (a.start ≤ b.start))

pub key_le-numbers : (a b : Key) → is_gt (key_cmp a b) ≡ false → AtMost a b
key_le-numbers a b h = grind (arith, nat_tests)

pub numbers-key_le : (a b : Key) → AtMost a b → is_gt (key_cmp a b) ≡ false
numbers-key_le a b h = grind (arith, nat_tests)

pub key_not_lt-numbers : (a b : Key) → is_lt (key_cmp a b) ≡ false → AtMost b a
key_not_lt-numbers a b h = grind (arith, nat_tests)

pub key_eq-is : (k : Key) (x : SignalCell) → is_eq (key_cmp (key_of x) k) ≡ has_key k x
key_eq-is k x = grind (arith, nat_tests)

pub equal_keys : (a b : Key) → is_eq (key_cmp a b) ≡ true → a ≡ b
equal_keys a b h =
    let both : (a.signal ≡ b.signal) × (a.start ≡ b.start) = grind (arith, nat_tests) in
    ap₂ key both.0 both.1
