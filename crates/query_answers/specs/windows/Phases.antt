-- Settlement in two phases: first the fills of each query are visited, and then each window is
-- walked.
use Rattle.std.specs.Prelude.{◌≡◌, Bool, List, [], ◌∷◌, map}
use Rattle.circuit_meaning.specs.declared.Run.{Run}
use Rattle.circuit_meaning.specs.Circuit.{Circuit}
use Rattle.circuit_meaning.specs.Forward.{wave}
use Rattle.journal_meaning.specs.declared.batch.Query.{Query}
use Rattle.reply_lines.specs.declared.reply.Outcome.{Outcome}
use Rattle.reply_lines.specs.declared.reply.Outcome.TheVariants.{Answer, Budget}
use Rattle.reply_lines.specs.Replies.{is_budget}

-- the outcome is the query's waveform, or its budget
abbrev pub IsOutcomeFor : Circuit → Query → Outcome (List Run) → Type 0
IsOutcomeFor c q (Answer runs) = runs ≡ wave c q.signal q.from q.to
IsOutcomeFor c q (Budget n) = n ≡ q.budget
IsOutcomeFor c q o = ⊥

abbrev pub AreOutcomes : Circuit → List Query → List (Outcome (List Run)) → Type 0
AreOutcomes c [] [] = Unit {0}
AreOutcomes c (q ∷ qs) (o ∷ os) = IsOutcomeFor c q o × AreOutcomes c qs os
AreOutcomes c qs os = ⊥

-- which queries were refused
abbrev pub refused_of : List (Outcome (List Run)) → List Bool
refused_of os = map is_budget os
