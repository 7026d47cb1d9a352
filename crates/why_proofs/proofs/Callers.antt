-- The lemmas of this crate for callers: what proofs of other crates cite, and nothing else.
pub use Rattle.why_proofs.proofs.Fixed.{verdict-fixed}
pub use Rattle.why_proofs.proofs.Sound.{AreRight, answer-right, covers-from, each-true, rule-right, steady}
pub use Rattle.why_proofs.proofs.Sources.{known-all}
