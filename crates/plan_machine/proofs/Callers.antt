-- The lemmas of this crate for callers: what proofs of other crates cite, and nothing else.
pub use Rattle.plan_machine.proofs.Shards.{booked-filled, claimed-shard, claims-within, dropped-shard, filled-claims, filled-keeps, found, spent-shard, told-keeps}
pub use Rattle.plan_machine.proofs.Links.{map-get, set-here, set-other}
pub use Rattle.plan_machine.proofs.Steps.{wanted-time}
pub use Rattle.plan_machine.proofs.Turns.{turn-sound}
pub use Rattle.plan_machine.proofs.Ready.{has-ended, ready-moves}
pub use Rattle.plan_machine.proofs.Measure.{claimed-less, finished-less, told-less, turn-less}
pub use Rattle.plan_machine.proofs.Facts.{IsTurn, claimed-turn, done-turn, dropped-turn, filled-turn, spent-turn, told-turn, waiting-turn, waits-turn}
pub use Rattle.plan_machine.proofs.Parts.{heard-fits, set-low}
pub use Rattle.plan_machine.proofs.Kept.{kept-is, kept-put, kept-step, kept-wait, kept-wake}
pub use Rattle.plan_machine.proofs.Journals.{evictions-each, room-journal, turn-tasks}
pub use Rattle.plan_machine.proofs.Underway.{IsNoFill, children-covered, contains-cases, contains-none, each-contains, evaluable-is, goes-claimed, goes-heard, goes-more, goes-popped, none-refused, roots-covered}
pub use Rattle.plan_machine.proofs.GivingUp.{asked-apart, differ-left, goes-dropped, gone-last, refused-filled, refused-last, refused-once, refused-own, stack-differ}
pub use Rattle.plan_machine.proofs.Alone.{says-cell, shard-sound, turns-alone}
pub use Rattle.plan_machine.proofs.AloneRuns.{alone-start}
pub use Rattle.plan_machine.proofs.Settle.{all-kept, all-push, asked, asked-reaches, begins, begins-query, child-asked, child-needed, child-start, ends-query, evaluable-signal, one-root, open-kept, opens-kept, right-of, root-asked, settled-kept, settles-closed, stays, then, visited-kept, window-step}
pub use Rattle.plan_machine.proofs.Settling.{fills-each, fills-has, needed-by}
pub use Rattle.plan_machine.proofs.Freed.{all-before, all-freed, settled-answered}
pub use Rattle.plan_machine.proofs.Stacks.{IsTop, asks-first, asks-unspent, claimed-keeps, drop-top, earlier, evaluable-true, fill-heard, fill-top, finished-keeps, first-askable, heard-held, heard-keeps, held-heard, held-rest, length-heard, length-rest, rest-held, top-held, top-once}
pub use Rattle.plan_machine.proofs.Wanted.{asks-needed, held-within, within-of}
pub use Rattle.plan_machine.proofs.Started.{query-within, started-right}
