-- The lemmas of this crate for callers: what proofs of other crates cite, and nothing else.
pub use Rattle.circuit_meaning.proofs.Table.{at_all_times}
pub use Rattle.circuit_meaning.proofs.Equations.{all_imply, driver_fits, map_same, span_is, value_is}
pub use Rattle.circuit_meaning.proofs.Points.{children-earlier, needed-in_cone}
pub use Rattle.circuit_meaning.proofs.Inputs.{last-steady, next-here, next-passed}
pub use Rattle.circuit_meaning.proofs.Steady.{all_map, cell-steady, gate_span-early, gate_span-late, in_all, in_meet, least, map_all, pin_span-early, pin_span-late, seen-early, seen-late}
pub use Rattle.circuit_meaning.proofs.Cover.{cell-covers}
pub use Rattle.circuit_meaning.proofs.Alike.{cone-step, free-alike, held-fits}
pub use Rattle.circuit_meaning.proofs.Roots.{needed-alone, needed-before}
pub use Rattle.circuit_meaning.proofs.Free.{needed-alike}
pub use Rattle.circuit_meaning.proofs.BaseCells.{base-answers}
pub use Rattle.circuit_meaning.proofs.Walk.{cells-fix}
pub use Rattle.circuit_meaning.proofs.Closed.{held-need-closed, need-closed}
pub use Rattle.circuit_meaning.proofs.Meets.{gate-span, met-all}
pub use Rattle.circuit_meaning.proofs.Looking.{children-somes, cut-ends, cut-more, cut-sources, cut-take, cut-whole, looked-value, sees-source}
pub use Rattle.circuit_meaning.proofs.EdgeLemmas.{shown_edge-le}
