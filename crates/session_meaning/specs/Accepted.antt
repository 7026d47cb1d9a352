-- An explanation in a reply is a proof that the checker accepts.
use Rattle.std.specs.Prelude.{◌≡◌, ⊤, ℕ, ◌≤◌, List, length}
use Rattle.design.specs.Joined.{Joined}
use Rattle.query_lines.specs.declared.line.Window.{Window}
use Rattle.query_lines.specs.declared.unit.Unit.{Unit as ScriptUnit}
use Rattle.query_lines.specs.declared.unit.Unit.TheVariants as units
use Rattle.reply_lines.specs.Replies.{explanation_lines}
use Rattle.reply_lines.specs.declared.reply.Outcome.TheVariants.{Answer}
use Rattle.reply_lines.specs.declared.reply.QuestionReply.{QuestionReply}
use Rattle.reply_lines.specs.declared.reply.QuestionReply.TheVariants as told
use Rattle.why_proofs.specs.Spelling.{Proof}
use Rattle.why_proofs.specs.Justified.{IsJustifiedProof}
use Rattle.why_proofs.specs.Verdicts.{IsTextOf, IsVerdict}
use Rattle.why_proofs.specs.declared.checker.Checked.{Checked}
use Rattle.why_proofs.specs.declared.checker.Checked.TheVariants.{Yes}
use Rattle.session_meaning.specs.Explanations.{proof_of}
use Rattle.session_meaning.specs.Session.{Setup, Course, IsServed, Session, Opened, Served}

-- The text is that of this proof, and the proof is justified. If the text is not too long for
-- the checker, every verdict that the checker may give is yes, with the proof's claim.
pub record IsAccepted (d : Joined) (text : List ℕ) (p : Proof) : Type 0 where
  pub spelled : IsTextOf text p
  pub signal : ℕ
  pub justified : IsJustifiedProof d p signal
  pub answered : length text ≤ 268435456
      → (answer : Checked) → IsVerdict d text answer → answer ≡ Yes signal p.time p.value

-- the same for a reply that is an explanation
abbrev pub IsAcceptedReply : Joined → Window → QuestionReply → Type 0
IsAcceptedReply d window (told.Why (Answer found)) = IsAccepted d (explanation_lines window found) (proof_of window found)
IsAcceptedReply d window reply = ⊤

-- the same for a unit that asks for an explanation
abbrev pub IsAcceptedUnit : (setup : Setup) (now next : Course) (unit : ScriptUnit)
    → IsServed setup now unit next → Type 0
IsAcceptedUnit setup now next (units.Batch items) served = ⊤
IsAcceptedUnit setup now next (units.Trim most) served = ⊤
IsAcceptedUnit setup now next units.Stats served = ⊤
IsAcceptedUnit setup now next (units.Question question) served =
    IsAcceptedReply setup.design question.window served.reply
IsAcceptedUnit setup now next (units.Vcd file) served = ⊤

-- the same for every unit of a session
abbrev pub AreAccepted : (setup : Setup) (all : List ScriptUnit) (course : Course)
    → Session setup all course → Type 0
AreAccepted setup all course Opened = ⊤
AreAccepted setup all course
    (Served {units = before} {now = now} {next = next} unit session served) =
    AreAccepted setup before now session × IsAcceptedUnit setup now next unit served
