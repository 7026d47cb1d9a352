-- The lemmas of this crate for callers: what proofs of other crates cite, and nothing else.
pub use Rattle.backsim_io.proofs.Grown.{grown_none, grown_twice}
