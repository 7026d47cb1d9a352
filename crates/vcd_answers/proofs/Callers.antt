-- The lemmas of this crate for callers: what proofs of other crates cite, and nothing else.
pub use Rattle.vcd_answers.proofs.ReadBack.{one_dump}
pub use Rattle.vcd_answers.proofs.Sound.{are_sound}
