-- Each explanation of a session is a proof that its checker accepts.
use Rattle.std.proofs.Common.{◌≡◌, true, ℕ, suc, ◌<◌, List, [], ◌∷◌, length, take, slice_get, Option, Some, None, IfSome, refl, ap, arith}
use Rattle.std.specs.List.{AllByRecursion}
use Rattle.std.proofs.lemmas.List.Elements.{All-head}
use Rattle.valid_intervals.specs.declared.Cell.{Cell}
use Rattle.valid_intervals.specs.declared.SignalCell.{SignalCell}
use Rattle.circuit_meaning.specs.Circuit.{Circuit, IsCircuit, AreLimits}
use Rattle.circuit_meaning.proofs.Callers.{cell-covers}
use Rattle.texts.specs.Text.{is_name}
use Rattle.query_lines.specs.declared.line.Asks.{Asks}
use Rattle.query_lines.specs.declared.line.Asks.TheVariants as kinds
use Rattle.query_lines.specs.declared.line.Window.{Window}
use Rattle.query_lines.specs.declared.unit.Unit.{Unit as ScriptUnit}
use Rattle.query_lines.specs.declared.unit.Unit.TheVariants as units
use Rattle.query_lines.specs.Fit.{IsFit}
use Rattle.query_lines.proofs.Callers.{first-part, later-part}
use Rattle.design.specs.Joined.{Joined, IsDesign}
use Rattle.reply_lines.specs.declared.reply.QuestionReply.{QuestionReply}
use Rattle.reply_lines.specs.declared.reply.QuestionReply.TheVariants as told
use Rattle.reply_lines.specs.declared.reply.Explanation.{Explanation}
use Rattle.reply_lines.specs.declared.reply.Outcome.{Outcome}
use Rattle.reply_lines.specs.declared.reply.Outcome.TheVariants as outcomes
use Rattle.reply_lines.specs.declared.reply.Outcome.TheVariants.{Answer, Budget}
use Rattle.why_proofs.specs.Spelling.{Proof, text_of, IsProof, IsLine}
use Rattle.why_proofs.specs.Justified.{IsJustified, AreJustified, IsJustifiedProof}
use Rattle.why_proofs.specs.Laws.{IsTrueLine}
use Rattle.why_proofs.specs.Verdicts.{IsTextOf}
use Rattle.why_proofs.specs.declared.checker.Checked.TheVariants.{Yes}
use Rattle.why_proofs.proofs.Callers.{each-true, verdict-fixed}
use Rattle.journal_meaning.specs.declared.Entry.{Entry}
use Rattle.journal_meaning.specs.Sections.{of_batch}
use Rattle.session_meaning.specs.declared.Verdict.{Verdict}
use Rattle.session_meaning.specs.declared.Verdict.TheVariants.{Ask, Unknown, Past}
use Rattle.session_meaning.specs.Verdicts.{question_verdict, site_of}
use Rattle.session_meaning.specs.Explanations.{proof_of, IsWhyOutcome}
use Rattle.session_meaning.specs.Questions.{IsRightBy}
use Rattle.session_meaning.specs.Session.{Setup, Course, IsServed, Opened, Served}
use Rattle.session_meaning.specs.Accepted.{IsAccepted, IsAcceptedReply, IsAcceptedUnit}
use Rattle.session_meaning.specs.Laws.{ExplanationsAreAccepted}
use Rattle.session_meaning.proofs.StuckReplies.{no-why}

-- ---- the numbers of justified lines

each-of : {A : Type 0} (P : A → Type 0) (xs : List A) → ((k : ℕ) → k < length xs → IfSome (slice_get xs k) P) → AllByRecursion P xs
each-of P [] f = tt
each-of P (x ∷ xs) f = (f 0 (omega arith), each-of P xs (λ k l. f (suc k) (omega (arith, l))))

some-both : {A : Type 0} (P Q R : A → Type 0) (o : Option A) → ((x : A) → P x → Q x → R x) → IfSome o P → IfSome o Q → IfSome o R
some-both P Q R None f p q = tt
some-both P Q R (Some x) f p q = f x p q

module _ (c : Circuit) (ok : IsCircuit c) (limits : AreLimits c) where
  -- a line that is justified and so true has a signal of the circuit, and its cell ends just after the horizon at the latest
  line-fits : (lines : List SignalCell) (x : SignalCell) → IsJustified c lines x → IsTrueLine c x → IsLine x
  line-fits lines x just true_is =
      let stop = (cell-covers c ok x.cell.span.start x.signal just.time).within in
      record {
        signal = omega (arith, just.signal, limits.signals);
        start = omega (arith, just.time, limits.horizon);
        stop = omega (arith, ap (λ (cell : Cell). cell.span.stop) true_is, stop, limits.horizon);
      }

  lines-fit : (lines : List SignalCell) → AreJustified c lines (length lines) → AllByRecursion IsLine lines
  lines-fit lines just = each-of IsLine lines (λ k l.
      some-both (IsJustified c (take k lines)) (IsTrueLine c) IsLine (slice_get lines k) (λ x a b. line-fits (take k lines) x a b) (just k l) (each-true c ok lines (length lines) just k l))

-- ---- a proof that is justified can be written down

module _ (d : Joined) (facts : IsDesign d) (p : Proof) (signal : ℕ) (named : is_name p.name ≡ true) (just : IsJustifiedProof d p signal) where
  written : IsProof p
  written = record {
    name = named;
    time = omega (arith, just.claim.time, facts.limits.horizon);
    cells = lines-fit d.circuit facts.circuit facts.limits p.cells just.cells;
  }

  -- and its text is accepted
  accepted : IsAccepted d (text_of p) p
  accepted =
      let spelled : IsTextOf (text_of p) p = record { proof = written; spelled = refl } in
      record {
        spelled = spelled;
        signal = signal;
        justified = just;
        answered = λ short answer right. verdict-fixed d (text_of p) answer (Yes signal p.time p.value) right (record { yes = (p, spelled, just, refl, refl); no = tt; bad = tt });
      }

-- ---- the replies of a session

module _ (d : Joined) (facts : IsDesign d) (es own : List Entry) (window : Window) (named : is_name window.name ≡ true) where
  why-accepted : (verdict : Verdict) (outcome : Outcome Explanation) → IsWhyOutcome d es window verdict outcome → IsAcceptedReply d window (told.Why outcome)
  why-accepted (Ask query) (Answer found) right = accepted d facts (proof_of window found) query.signal named right.justified
  why-accepted Unknown (Answer found) right = absurd right
  why-accepted Past (Answer found) right = absurd right
  why-accepted verdict (Budget budget) right = tt
  why-accepted verdict outcomes.Unknown right = tt
  why-accepted verdict outcomes.Past right = tt

  reply-accepted : (verdict : Verdict) (asks : Asks) (reply : QuestionReply) → IsRightBy d es own window verdict asks reply → IsAcceptedReply d window reply
  reply-accepted verdict asks (told.First outcome) right = tt
  reply-accepted verdict (kinds.First value) (told.Why outcome) right = absurd right
  reply-accepted verdict kinds.Why (told.Why outcome) right = why-accepted verdict outcome right
  reply-accepted verdict (kinds.Stuck site value) (told.Why outcome) right = no-why d.circuit es own verdict (site_of d (kinds.Stuck site value)) outcome right
  reply-accepted verdict asks (told.Stuck outcome) right = tt
  reply-accepted verdict asks told.UnknownSite right = tt

unit-accepted : (setup : Setup) → IsDesign setup.design → (now next : Course) (unit : ScriptUnit) → IsFit setup.design.circuit.horizon unit → (served : IsServed setup now unit next) → IsAcceptedUnit setup now next unit served
unit-accepted setup facts now next (units.Batch items) fit served = tt
unit-accepted setup facts now next (units.Trim most) fit served = tt
unit-accepted setup facts now next units.Stats fit served = tt
unit-accepted setup facts now next (units.Question question) fit served =
    reply-accepted setup.design facts (of_batch served.lists) (of_batch served.own_lists) question.window fit.named.0 (question_verdict setup.design question) question.asks served.reply served.right
unit-accepted setup facts now next (units.Vcd file) fit served = tt

pub explanations-accepted : ExplanationsAreAccepted
explanations-accepted setup facts us fit course Opened = tt
explanations-accepted setup facts us fit course (Served {units = before} {now = now} {next = next} unit session served) = (
  explanations-accepted setup facts before (first-part (IsFit setup.design.circuit.horizon) before (unit ∷ []) fit) now session,
  unit-accepted setup facts now next unit (All-head (IsFit setup.design.circuit.horizon) unit [] (later-part (IsFit setup.design.circuit.horizon) before (unit ∷ []) fit)) served,
)
