-- The lemmas of this crate for callers: what proofs of other crates cite, and nothing else.
pub use Rattle.gate_values.proofs.Looked.{cut_alike, gate_value-looked, map-up_to_first}
pub use Rattle.gate_values.proofs.Unknown.{gate_value-not_z, gate_value-unknown}
pub use Rattle.gate_values.proofs.Pins.{allows-few, allows-one, allows-some}
pub use Rattle.gate_values.proofs.Same.{other_is, same-sym, same_is, same_itself}
