-- The digits that are left go on with the number so far.
use Rattle.std.proofs.Common.{◌≡◌, length}
use Rattle.texts.specs.fields.Reading.{digits_at}
use Rattle.texts.proofs.fields.reading.digits_of.Given as goal

abbrev pub invariant-loop-digit : goal.invariant-loop-digit
invariant-loop-digit l = digits_at l.number l.rest ≡ digits_at 0 l.text

abbrev pub decreases-loop-digit : goal.decreases-loop-digit
decreases-loop-digit l = length l.rest
