use Rattle.std.proofs.Common.{◌≡◌, ◌≤◌, [], length}
use Rattle.plan_core.specs.asked.inner.Places.{points_of, numbers_before, HasNoted, AreLinked, AreEnough}
use Rattle.plan_core.proofs.asked.places.Places.read.Given as goal

abbrev pub invariant-loop-place : goal.invariant-loop-place
invariant-loop-place l = record {
  none : l.places.last.items ≡ [];
  few : length l.places.noted.items ≤ l.place;
  noted : HasNoted l.journal l.wanted l.place (points_of l.journal l.places.noted.items);
}

abbrev pub invariant-loop-index : goal.invariant-loop-index
invariant-loop-index l = record {
  count : length l.places.noted.items ≡ l.count;
  noted : HasNoted l.journal l.wanted (length l.journal) (points_of l.journal l.places.noted.items);
  chains : AreEnough (length l.places.noted.items) (length l.places.last.items);
  linked : AreLinked (points_of l.journal l.places.noted.items) l.index l.places.last.items (numbers_before l.places.noted.items);
}
