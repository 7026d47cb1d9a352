use Rattle.journal_meaning.proofs.Fills.{one-fill-per_eviction}
use Rattle.journal_meaning.proofs.one_fill_per_eviction.Goals as goal

pub returns : goal.returns
returns g = λ b ok shard cells es l p. one-fill-per_eviction b ok shard p cells es l
