-- The lemmas of this crate for callers: what proofs of other crates cite, and nothing else.
pub use Rattle.claim_waiters.proofs.Tables.{at-back, at-inserted, at-same, each-at, each-inserted, each-removed, each-waited, holder-claimed, holder-waited, holder-without, length-inserted, length-removed, length-waited, removed-inserted, waiters-waited, waiters-without}
