-- A right reply to a question for a wave with a stuck signal is of its kind.
use Rattle.std.proofs.Common.{ℕ, List, Option, Some, None}
use Rattle.circuit_meaning.specs.Circuit.{Circuit}
use Rattle.journal_meaning.specs.Batches.{Site}
use Rattle.journal_meaning.specs.declared.Entry.{Entry}
use Rattle.reply_lines.specs.declared.reply.Explanation.{Explanation}
use Rattle.reply_lines.specs.declared.reply.Outcome.{Outcome}
use Rattle.reply_lines.specs.declared.reply.QuestionReply.TheVariants as told
use Rattle.session_meaning.specs.declared.Verdict.{Verdict}
use Rattle.session_meaning.specs.StuckSignals.{IsStuckReply}

module _ {A : Type 0} (c : Circuit) (es own : List Entry) (verdict : Verdict) where
  pub no-first : (site : Option Site) (outcome : Outcome (Option ℕ)) → IsStuckReply c es own verdict site (told.First outcome) → A
  no-first None outcome right = absurd right
  no-first (Some site) outcome right = absurd right

  pub no-why : (site : Option Site) (outcome : Outcome Explanation) → IsStuckReply c es own verdict site (told.Why outcome) → A
  no-why None outcome right = absurd right
  no-why (Some site) outcome right = absurd right
