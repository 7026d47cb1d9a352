-- The lemmas of this crate for callers: what proofs of other crates cite, and nothing else.
pub use Rattle.session_loop.proofs.Changes.{none-unfinished, work-finished}
