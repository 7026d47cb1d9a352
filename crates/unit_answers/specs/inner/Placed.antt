-- The outcomes of the queries of a batch, at the places of its items.
use Rattle.std.specs.Prelude.{List, [], ◌∷◌, Option, Some, None}
use Rattle.circuit_meaning.specs.declared.Run.{Run}
use Rattle.reply_lines.specs.declared.reply.Outcome.{Outcome}
use Rattle.reply_lines.specs.declared.reply.Outcome.TheVariants as outcomes
use Rattle.reply_lines.specs.declared.reply.Reply.{Reply}
use Rattle.reply_lines.specs.declared.reply.Reply.TheVariants.{Window, BadLine}
use Rattle.session_meaning.specs.declared.Verdict.{Verdict}
use Rattle.session_meaning.specs.declared.Verdict.TheVariants.{Ask, Unknown, Past}

-- the outcome of a window that has no answer
abbrev pub no_answer : {T : Type 0} → Verdict → Outcome T
no_answer (Ask query) = outcomes.Budget query.budget
no_answer Unknown = outcomes.Unknown
no_answer Past = outcomes.Past

-- The reply to an item. If the item asks, this is the next outcome of the queries.
abbrev pub reply_to : Option Verdict → List (Outcome (List Run)) → Reply
reply_to (Some (Ask query)) (outcome ∷ rest) = Window outcome
reply_to (Some verdict) rest = Window (no_answer verdict)
reply_to None rest = BadLine

-- the outcomes that are left for the items after it
abbrev pub left_by : Option Verdict → List (Outcome (List Run)) → List (Outcome (List Run))
left_by (Some (Ask query)) (outcome ∷ rest) = rest
left_by verdict rest = rest

abbrev pub placed_replies : List (Option Verdict) → List (Outcome (List Run)) → List Reply
placed_replies [] rest = []
placed_replies (verdict ∷ verdicts) rest = reply_to verdict rest ∷ placed_replies verdicts (left_by verdict rest)
