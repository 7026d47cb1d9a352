use Rattle.std.proofs.Common.{[], ◌∷◌, None}
use Rattle.plan_core.proofs.tests.play_on.Given as goal

abbrev pub ghosts-play_in : goal.ghosts-play_in
ghosts-play_in a = record {
  batch = record { circuit = a.design.now.circuit; shards = 2; capacity = 8; queries = a.first ∷ a.second ∷ []; site = None };
  opening = λ _. [];
}
