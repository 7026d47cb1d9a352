use Rattle.std.proofs.Common.{rules, ℕ, List, length, ap, arith}
use Rattle.texts.proofs.Numbers.{digits_shorter, number_wide, number_empty, number_zero, number_read}
use Rattle.texts.proofs.fields.reading.number_of.Goals.{else-len-gt1-via-then-len-gt1+else-text-eq48, else-len-gt1-via-else-len-gt1}
use Rattle.texts.proofs.fields.reading.number_of.Goals as goal

pub returns-in_default : goal.returns-in_default
returns-in_default c = number_wide c.args.text.now (search rules)

pub overflow_sub-len : goal.overflow_sub-len
overflow_sub-len c = omega (arith, digits_shorter 0 c.args.text.now, ap (λ (r : ℕ × List ℕ). length r.1) c.in-Some.ensures.some)

pub returns-then-len-eq0 : goal.returns-then-len-eq0
returns-then-len-eq0 c = number_empty c.args.text.now c.in-Some.rest.now c.in-Some.number (search rules) (omega (arith, c.if-len-eq0.true))

pub returns-then-text-eq48 : goal.returns-then-text-eq48
returns-then-text-eq48 c = number_zero c.args.text.now c.in-Some.rest.now c.in-Some.number (search rules) (search rules) (omega (arith, c.if-len-gt1.true))

pub returns : goal.returns
returns c = number_read c.args.text.now c.in-Some.rest.now c.in-Some.number (search rules) (search rules) (omega (arith, c.if-len-eq0.false)) (λ zero. elim c.else-len-gt1.branch [
  | else-len-gt1-via-then-len-gt1+else-text-eq48 w ↦ absurd (search (rules, zero, w.if-text-eq48.false))
  | else-len-gt1-via-else-len-gt1 w ↦ omega (arith, w.if-len-gt1.false)
])
