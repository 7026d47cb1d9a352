-- The lemmas of this crate for callers: what proofs of other crates cite, and nothing else.
pub use Rattle.query_lines.proofs.Requests.{told-units}
pub use Rattle.query_lines.proofs.OwnLines.{first-part, given-fit, last-fit, later-part, units-fit}
pub use Rattle.query_lines.proofs.Completed.{given-completed}
