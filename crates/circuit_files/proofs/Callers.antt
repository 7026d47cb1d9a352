-- The lemmas of this crate for callers: what proofs of other crates cite, and nothing else.
pub use Rattle.circuit_files.proofs.Changed.{held-same, missing-later, opened-later, unread-later}
