-- The lemmas of this crate for callers: what proofs of other crates cite, and nothing else.
pub use Rattle.cell_store.proofs.Keys.{IsCovered, covers_true}
