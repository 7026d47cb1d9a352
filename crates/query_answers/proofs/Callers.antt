-- The lemmas of this crate for callers: what proofs of other crates cite, and nothing else.
pub use Rattle.query_answers.proofs.Lawful.{first-lawful}
