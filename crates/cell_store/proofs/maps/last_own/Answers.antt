use Rattle.std.proofs.lemmas.Option.{IfSome_then}
use Rattle.cell_store.proofs.Starts.{last_of_signal}
use Rattle.cell_store.proofs.maps.last_own.Goals as goal

pub returns-clause-last : goal.returns-clause-last
returns-clause-last c = IfSome_then c.last_at.result c.last_at.ensures.last (λ last begun. last_of_signal c.args.cells.now c.args.p last.0 last.1 begun)
