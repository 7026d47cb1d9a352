-- The lemmas of this crate for callers: what proofs of other crates cite, and nothing else.
pub use Rattle.unit_answers.proofs.Dumping.{done-waves}
