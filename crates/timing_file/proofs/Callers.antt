-- The lemmas of this crate for callers: what proofs of other crates cite, and nothing else.
pub use Rattle.timing_file.proofs.Within.{default-within}
