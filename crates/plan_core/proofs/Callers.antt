-- The lemmas of this crate for callers: what proofs of other crates cite, and nothing else.
pub use Rattle.plan_core.proofs.InTurn.{lawful-known}
pub use Rattle.plan_core.proofs.AskedLists.{each-from, map-item}
pub use Rattle.plan_core.proofs.Entries.{entries-append, entries-item, shard-at}
pub use Rattle.plan_core.proofs.RunsAlone.{none-of, numbered, some-of}
pub use Rattle.plan_core.proofs.AskedCells.{root-covered}
pub use Rattle.plan_core.proofs.Unused.{unused-freed}
pub use Rattle.plan_core.proofs.Asking.{asks-then}
pub use Rattle.plan_core.proofs.Pins.{needed-evaluable, pins-visited, somes-has}
pub use Rattle.plan_core.proofs.Counted.{both-counted, freed-counted, none-counted}
