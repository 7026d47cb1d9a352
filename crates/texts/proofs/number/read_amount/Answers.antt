use Rattle.std.proofs.Common.{◌≡◌, ◌∙◌, ◌&&◌, ◌+◌, drop, get_or, min, true, sym, ap, arith}
use Rattle.std.specs.List.{fold, list_all}
use Rattle.texts.specs.Text.{is_digit}
use Rattle.texts.proofs.Digits.{with_digit, digit_then, next_digit}
use Rattle.texts.proofs.number.read_amount.Goals as goal

pub loop-digit-preserved : goal.loop-digit-preserved
loop-digit-preserved c =
    let word = c.args.word.now in
    let above = c.args.limit + 1 in
    let i = c.loop-digit.digit-index in
    let lt = c.loop-digit-test.true in
    let digit : is_digit (get_or word i 0) ≡ true = sym c.is_digit.ensures ∙ c.if-not-is_digit.false in
    let value : c.min-value.result ≡ min (with_digit c.loop-digit.value (get_or word i 0)) above = omega (arith, c.min-value.ensures) in
    record {
      below = omega (arith, c.min-value.ensures);
      digits = sym (digit_then word i lt ∙ ap (λ b. b && list_all is_digit (drop (i + 1) word)) digit) ∙ c.loop-digit.invariant.digits;
      so_far = ap (λ n. min (fold with_digit n (drop (i + 1) word)) above) value ∙ next_digit word above c.loop-digit.value i lt ∙ c.loop-digit.invariant.so_far;
    }
