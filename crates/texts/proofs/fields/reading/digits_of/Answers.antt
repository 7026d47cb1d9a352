use Rattle.std.proofs.Common.{rules, ◌≡◌, ◌+◌, ◌*◌, ℕ, List, ap, arith}
use Rattle.texts.specs.fields.inner.Reading.{digit_at}
use Rattle.texts.proofs.Numbers.{digit_read, digits_next, digits_at_ge}
use Rattle.texts.proofs.fields.reading.digits_of.Goals as goal

-- further digits only raise a value that is too great
pub returns-in_default-checked_mul-clause-none : goal.returns-in_default-checked_mul-clause-none
returns-in_default-checked_mul-clause-none c =
    let found : digit_at c.loop-digit.rest.now ≡ digit_read c.in-Some.digit c.in-Some.more.now = search rules in
    let next = digits_next c.loop-digit.number c.in-Some.digit c.loop-digit.rest.now c.in-Some.more.now found in
    omega (arith, ap (λ (r : ℕ × List ℕ). r.0) c.loop-digit.invariant, ap (λ (r : ℕ × List ℕ). r.0) next, digits_at_ge (10 * c.loop-digit.number + c.in-Some.digit) c.in-Some.more.now, c.in_default-checked_mul.ensures)

pub returns-in_default-checked_add-clause-none : goal.returns-in_default-checked_add-clause-none
returns-in_default-checked_add-clause-none c =
    let found : digit_at c.loop-digit.rest.now ≡ digit_read c.in-Some.digit c.in-Some.more.now = search rules in
    let next = digits_next c.loop-digit.number c.in-Some.digit c.loop-digit.rest.now c.in-Some.more.now found in
    omega (arith, ap (λ (r : ℕ × List ℕ). r.0) c.loop-digit.invariant, ap (λ (r : ℕ × List ℕ). r.0) next, digits_at_ge (10 * c.loop-digit.number + c.in-Some.digit) c.in-Some.more.now, c.in-Some-checked_mul.ensures, c.in_default-checked_add.ensures)
