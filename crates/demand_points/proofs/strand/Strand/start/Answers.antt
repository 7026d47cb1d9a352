use Rattle.std.proofs.lemmas.Bool.{false≢true}
use Rattle.demand_points.proofs.Keeps.{new-demand}
use Rattle.demand_points.proofs.strand.Strand.start.Goals as goal

pub invariant_of-result : goal.invariant_of-result
invariant_of-result g c = (new-demand g.B.BatchName.batch c.requires.lawful c.args.number c.args.query c.args.from c.args.to c.args.budget c.args.charged c.requires.known c.requires.root c.requires.window c.requires.charge c.requires.budget c.new.result c.new.ensures, λ h. absurd (false≢true h))
