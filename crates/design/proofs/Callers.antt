-- The lemmas of this crate for callers: what proofs of other crates cite, and nothing else.
pub use Rattle.design.proofs.Rereads.{taken-at}
pub use Rattle.design.proofs.PinWalkLemmas.{looking-below, next-among, take-none}
