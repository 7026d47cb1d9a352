-- The lemmas of this crate for callers: what proofs of other crates cite, and nothing else.
pub use Rattle.session_meaning.proofs.Asked.{asks-signal, asks-within, queries-apart, queries-signals, queries-within, window-asks}
pub use Rattle.session_meaning.proofs.Dumps.{begun-less, begun-one, begun-same, vcd-journal, vcd-longer, vcd-replies}
pub use Rattle.session_meaning.proofs.Held.{wires-few}
pub use Rattle.session_meaning.proofs.Journals.{journal-more, prefix-again, prefix-behind, prefix-more, prefix-same}
pub use Rattle.session_meaning.proofs.Narrow.{evaluable-low}
