-- The digits that are left go on with the value so far, up to the cap.
use Rattle.std.proofs.Common.{◌≡◌, ◌≤◌, drop, min}
use Rattle.std.specs.List.{fold, list_all}
use Rattle.texts.specs.Text.{is_digit, decimal_value}
use Rattle.texts.proofs.Digits.{with_digit}
use Rattle.texts.proofs.number.read_amount.Given as goal

abbrev pub invariant-loop-digit : goal.invariant-loop-digit
invariant-loop-digit l = record {
  below : l.value ≤ l.above;
  digits : list_all is_digit (drop l.digit-index l.word) ≡ list_all is_digit l.word;
  so_far : min (fold with_digit l.value (drop l.digit-index l.word)) l.above ≡ min (decimal_value l.word) l.above;
}
