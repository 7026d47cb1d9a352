-- What only the proofs and the private functions of this crate speak of, beside `Ends`.
use Rattle.std.specs.Prelude.{List, [], ◌∷◌, ◌++◌, Option, Some, None}
use Rattle.valid_intervals.specs.declared.Point.{Point}
use Rattle.cell_store.specs.declared.Key.{Key}
use Rattle.journal_meaning.specs.declared.Entry.{Entry}
use Rattle.journal_meaning.specs.declared.Entry.TheVariants as entry
use Rattle.claim_waiters.specs.Claims.{WaitedClaim}
use Rattle.demand_points.specs.Demands.{Demand}

-- the entries that code makes
abbrev pub after_eviction : Option Key → List Entry → List Entry
after_eviction None es = es
after_eviction (Some k) es = es ++ (entry.Evicted k.signal k.start) ∷ []

abbrev pub drop_of : Point × WaitedClaim Demand → Entry
drop_of e = entry.Dropped e.1.q e.0
