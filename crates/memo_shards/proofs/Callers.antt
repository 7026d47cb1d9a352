-- The lemmas of this crate for callers: what proofs of other crates cite, and nothing else.
pub use Rattle.memo_shards.proofs.Seen.{changed, homes-seen, none-here, none-other, waiting-seen, waits-here, waits-other, zip-seen}
