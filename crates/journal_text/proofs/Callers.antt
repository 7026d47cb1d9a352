-- The lemmas of this crate for callers: what proofs of other crates cite, and nothing else.
pub use Rattle.journal_text.proofs.WholeSections.{one_journal}
