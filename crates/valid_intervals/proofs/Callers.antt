-- The lemmas of this crate for callers: what proofs of other crates cite, and nothing else.
pub use Rattle.valid_intervals.proofs.Same.{same_point-itself, same_point-true, same_stored-itself, same_stored-true}
pub use Rattle.valid_intervals.proofs.PointOrder.{itself, not-behind, point-is, same-place, signal-down, signal-up, time-down, time-up}
