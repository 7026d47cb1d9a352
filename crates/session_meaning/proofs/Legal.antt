-- The lists of a session are legal.
use Rattle.std.proofs.Common.{ℕ, zero, suc, ◌<◌, List, [], ◌∷◌, ◌++◌, fold, get_or, Option, Some, None, refl, sym, ap, subst, ◌∙◌, append-nil}
use Rattle.valid_intervals.specs.declared.SignalCell.{SignalCell}
use Rattle.journal_meaning.specs.declared.batch.Query.{Query}
use Rattle.journal_meaning.specs.Batches.{Site}
use Rattle.journal_meaning.specs.declared.Entry.{Entry}
use Rattle.journal_meaning.specs.Replay.{IsLegalBatch}
use Rattle.journal_meaning.specs.Sections.{SectionEntries, Asks, Trims, Forces, IsLegalIn, list_of, cells_left, AreLegal}
use Rattle.query_lines.specs.declared.unit.Unit.{Unit as ScriptUnit}
use Rattle.query_lines.specs.declared.unit.Unit.TheVariants as units
use Rattle.session_meaning.specs.declared.Verdict.{Verdict}
use Rattle.session_meaning.specs.declared.Verdict.TheVariants.{Ask, Unknown, Past}
use Rattle.session_meaning.specs.StuckSignals.{held_batch, IsHeldMemo}
use Rattle.session_meaning.specs.Verdicts.{question_verdict, site_of}
use Rattle.session_meaning.specs.Session.{Setup, Course, IsServed, Session, Opened, Served, batch_of, question_batch, held_sections}
use Rattle.session_meaning.proofs.Dumps.{vcd-sections}

-- one section more
legal-more : (shard : ℕ) (cells : List SignalCell) (sections : List SectionEntries) (section : SectionEntries) → AreLegal shard cells sections
    → IsLegalIn section.purpose shard (fold (cells_left shard) cells sections) (list_of section shard) → AreLegal shard cells (sections ++ section ∷ [])
legal-more shard cells [] section legal more = (more, tt)
legal-more shard cells (s ∷ sections) section legal more = (legal.0, legal-more shard (cells_left shard cells s) sections section legal.1 more)

-- the section of a memo of its own, if there is one
module _ (setup : Setup) (shard : ℕ) (sections : List SectionEntries) (legal : AreLegal shard [] sections) where
  with-none : AreLegal shard [] (sections ++ [])
  with-none = subst (AreLegal shard []) (sym (append-nil sections)) legal

  one-list : (site : Site) (query : Query) (own : List Entry) → IsLegalBatch (held_batch setup.design.circuit site query) 0 [] own → (n : ℕ) → IsLegalBatch (held_batch setup.design.circuit site query) n [] (get_or (own ∷ []) n [])
  one-list site query own h zero = h
  one-list site query own h (suc n) = record { legal = tt; ended = record { claims = refl; made = refl } }

  with-held : (site : Option Site) (verdict : Verdict) (own : List (List Entry)) → IsHeldMemo setup.design.circuit site verdict own → AreLegal shard [] (sections ++ held_sections setup site verdict own)
  with-held (Some site) (Ask query) own memo =
      legal-more shard [] sections (record { purpose = Forces (held_batch setup.design.circuit site query); lists = own }) legal
      (subst (λ lists. IsLegalBatch (held_batch setup.design.circuit site query) shard [] (get_or lists shard [])) (sym memo.1) (one-list site query memo.0 memo.2.legal shard))
  with-held (Some site) Unknown own memo = with-none
  with-held (Some site) Past own memo = with-none
  with-held None (Ask query) own memo = with-none
  with-held None Unknown own memo = with-none
  with-held None Past own memo = with-none

unit-legal : (setup : Setup) (now next : Course) (unit : ScriptUnit) → IsServed setup now unit next → (shard : ℕ) → shard < setup.shards → AreLegal shard [] now.sections → AreLegal shard [] next.sections
unit-legal setup now next (units.Batch items) served shard h legal =
    subst (λ (c : Course). AreLegal shard [] c.sections) (sym served.leads) (legal-more shard [] now.sections (record { purpose = Asks (batch_of setup items); lists = served.lists }) legal (served.legal shard h))
unit-legal setup now next (units.Trim most) served shard h legal =
    subst (λ (c : Course). AreLegal shard [] c.sections) (sym served.leads) (legal-more shard [] now.sections (record { purpose = Trims; lists = served.lists }) legal (served.legal shard h))
unit-legal setup now next (units.Question question) served shard h legal =
    let batch = question_batch setup question in
    subst (λ (c : Course). AreLegal shard [] c.sections) (sym served.leads)
    (with-held setup shard _ (legal-more shard [] now.sections (record { purpose = Asks batch; lists = served.lists }) legal (served.legal shard h))
    (site_of setup.design question.asks) (question_verdict setup.design question) served.own_lists served.memo)
unit-legal setup now next units.Stats served shard h legal = subst (λ (c : Course). AreLegal shard [] c.sections) (sym served) legal
unit-legal setup now next (units.Vcd file) served shard h legal =
    subst (λ s. AreLegal shard [] s) (sym (ap (λ (c : Course). c.sections) served ∙ vcd-sections setup now file)) legal

-- it is so in all of a session
pub session-legal : (setup : Setup) (us : List ScriptUnit) (course : Course) → Session setup us course → (shard : ℕ) → shard < setup.shards → AreLegal shard [] course.sections
session-legal setup us course Opened shard h = tt
session-legal setup us course (Served {units = before} {now = now} {next = next} unit session served) shard h = unit-legal setup now next unit served shard h (session-legal setup before now session shard h)
