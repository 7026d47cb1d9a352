-- In a session a point is evaluated again only after the eviction of its cell.
use Rattle.std.proofs.Common.{◌≡◌, ℕ, List, [], ◌∷◌, ◌++◌, length, All, Option, Some, None, refl, sym, ap, subst, ◌∙◌, append-nil}
use Rattle.std.proofs.lemmas.List.Elements.{All-nil, All-cons, All-push, All-weaker, recursion_from_All}
use Rattle.circuit_meaning.specs.Circuit.{Circuit, IsCircuit}
use Rattle.circuit_meaning.proofs.Callers.{held-fits}
use Rattle.journal_meaning.specs.Batches.{Batch, Site}
use Rattle.journal_meaning.specs.declared.Entry.{Entry}
use Rattle.journal_meaning.specs.Replay.{IsLegalBatch}
use Rattle.journal_meaning.specs.Sections.{Asks, Trims, Forces, SectionEntries, AreLegal, joined_entries}
use Rattle.journal_meaning.specs.Laws.{OfCircuit}
use Rattle.journal_meaning.proofs.Callers.{counts-add}
use Rattle.journal_meaning.proofs.Callers as between_fills
use Rattle.query_lines.specs.declared.unit.Unit.{Unit as ScriptUnit}
use Rattle.query_lines.specs.declared.unit.Unit.TheVariants as units
use Rattle.session_meaning.specs.declared.Verdict.{Verdict}
use Rattle.session_meaning.specs.declared.Verdict.TheVariants.{Ask, Unknown, Past}
use Rattle.session_meaning.specs.StuckSignals.{held_batch, IsHeldMemo}
use Rattle.session_meaning.specs.Verdicts.{question_verdict, site_of}
use Rattle.session_meaning.specs.Session.{Setup, Course, IsServed, Session, Opened, Served, batch_of, question_batch, held_sections}
use Rattle.session_meaning.specs.Again.{IsFrugal, IsFrugalMemo}
use Rattle.session_meaning.specs.Laws.{SessionsAreFrugal}
use Rattle.session_meaning.proofs.Dumps.{vcd-sections}
use Rattle.session_meaning.proofs.Legal.{session-legal}
use Rattle.session_meaning.proofs.Spread.{IsSpread, fills-home, fills-spread}

-- legal sections of one circuit
frugal : (c : Circuit) → IsCircuit c → (shard : ℕ) (sections : List SectionEntries) → All (OfCircuit c) sections → AreLegal shard [] sections → IsFrugal (joined_entries shard sections)
frugal c ok shard sections same legal = record {
  sum = counts-add (joined_entries shard sections);
  evicted = λ q r p x y before between behind e. between_fills.again_after_eviction c ok shard sections same legal q r p x y before between behind e;
}

asks-same : (a b : Batch) → Asks a ≡ Asks b → a ≡ b
asks-same a b is = cc

of-asked : (c : Circuit) (batch : Batch) (lists : List (List Entry)) → batch.circuit ≡ c → OfCircuit c (record { purpose = Asks batch; lists = lists })
of-asked c batch lists is b e = ap (λ (x : Batch). x.circuit) (sym (asks-same batch b e)) ∙ is

-- one legal list of a memo that begins with no cell
frugal-alone : (batch : Batch) → IsCircuit batch.circuit → (own : List Entry) → IsLegalBatch batch 0 [] own → IsFrugal own
frugal-alone batch ok own legal =
    let section : SectionEntries = record { purpose = Asks batch; lists = own ∷ [] } in
    subst IsFrugal (append-nil own) (frugal batch.circuit ok 0 (section ∷ []) (All-cons (OfCircuit batch.circuit) section [] (of-asked batch.circuit batch (own ∷ []) refl) (All-nil (OfCircuit batch.circuit))) (legal, tt))

-- what holds of each section
abbrev IsFine : Setup → SectionEntries → Type 0
IsFine setup section = OfCircuit setup.design.circuit section × IsSpread setup.shards section.purpose section.lists × IsFrugalMemo section.purpose section.lists

abbrev AreFine : Setup → List SectionEntries → Type 0
AreFine setup sections = All (IsFine setup) sections

module _ (setup : Setup) (sections : List SectionEntries) (fine : AreFine setup sections) where
  fine-asked : (batch : Batch) (lists : List (List Entry)) → batch.circuit ≡ setup.design.circuit → batch.shards ≡ setup.shards → length lists ≡ setup.shards
      → AreFine setup (sections ++ record { purpose = Asks batch; lists = lists } ∷ [])
  fine-asked batch lists is shards count =
      All-push (IsFine setup) sections (record { purpose = Asks batch; lists = lists }) fine (of-asked setup.design.circuit batch lists is, (count, shards), tt)

  fine-trimmed : (lists : List (List Entry)) → length lists ≡ setup.shards → AreFine setup (sections ++ record { purpose = Trims; lists = lists } ∷ [])
  fine-trimmed lists count = All-push (IsFine setup) sections (record { purpose = Trims; lists = lists }) fine ((λ b e. absurd cc), count, tt)

  fine-forced : (batch : Batch) (own : List Entry) → IsCircuit batch.circuit → IsLegalBatch batch 0 [] own → AreFine setup (sections ++ record { purpose = Forces batch; lists = own ∷ [] } ∷ [])
  fine-forced batch own ok legal =
      All-push (IsFine setup) sections (record { purpose = Forces batch; lists = own ∷ [] }) fine
      ((λ b e. absurd cc), tt, All-cons IsFrugal own [] (frugal-alone batch ok own legal) (All-nil IsFrugal))

  fine-none : AreFine setup (sections ++ [])
  fine-none = subst (AreFine setup) (sym (append-nil sections)) fine

  -- the section of a memo of its own, if there is one
  fine-held : IsCircuit setup.design.circuit → (site : Option Site) (verdict : Verdict) (lists : List (List Entry)) → IsHeldMemo setup.design.circuit site verdict lists
      → AreFine setup (sections ++ held_sections setup site verdict lists)
  fine-held ok (Some site) (Ask query) lists memo =
      let batch = held_batch setup.design.circuit site query in
      subst (λ l. AreFine setup (sections ++ record { purpose = Forces batch; lists = l } ∷ [])) (sym memo.1)
      (fine-forced batch memo.0 (held-fits setup.design.circuit site.signal site.value ok) memo.2.legal)
  fine-held ok (Some site) Unknown lists memo = fine-none
  fine-held ok (Some site) Past lists memo = fine-none
  fine-held ok None (Ask query) lists memo = fine-none
  fine-held ok None Unknown lists memo = fine-none
  fine-held ok None Past lists memo = fine-none

abbrev FineIn : Setup → Course → Type 0
FineIn setup course = AreFine setup course.sections

module _ (setup : Setup) (ok : IsCircuit setup.design.circuit) where
  unit-fine : (now next : Course) (unit : ScriptUnit) → IsServed setup now unit next → FineIn setup now → FineIn setup next
  unit-fine now next (units.Batch items) served fine = subst (FineIn setup) (sym served.leads) (fine-asked setup now.sections fine (batch_of setup items) served.lists refl refl served.count)
  unit-fine now next (units.Trim most) served fine = subst (FineIn setup) (sym served.leads) (fine-trimmed setup now.sections fine served.lists served.count)
  unit-fine now next units.Stats served fine = subst (FineIn setup) (sym served) fine
  unit-fine now next (units.Vcd file) served fine = subst (AreFine setup) (sym (ap (λ (c : Course). c.sections) served ∙ vcd-sections setup now file)) fine
  unit-fine now next (units.Question question) served fine =
      let batch = question_batch setup question in
      subst (FineIn setup) (sym served.leads)
      (fine-held setup _ (fine-asked setup now.sections fine batch served.lists refl refl served.count) ok
      (site_of setup.design question.asks) (question_verdict setup.design question) served.own_lists served.memo)

  session-fine : (us : List ScriptUnit) (course : Course) → Session setup us course → FineIn setup course
  session-fine us course Opened = All-nil (IsFine setup)
  session-fine us course (Served {units = before} {now = now} {next = next} unit session served) = unit-fine now next unit served (session-fine before now session)

-- it is so in each shard of every session, and in each memo of its own
pub sessions-frugal : SessionsAreFrugal
sessions-frugal setup ok us course session =
    let c = setup.design.circuit in
    let fine = session-fine setup ok us course session in
    let spread : SectionEntries → Type 0 = λ section. IsSpread setup.shards section.purpose section.lists in
    let are = recursion_from_All spread course.sections (All-weaker (IsFine setup) spread (λ section is. is.1) course.sections fine) in
    let legal = session-legal setup us course session in
    record {
      own = λ shard l. frugal c ok shard course.sections (All-weaker (IsFine setup) (OfCircuit c) (λ section is. is.0) course.sections fine) (legal shard l);
      home = λ shard l. fills-home setup.shards shard course.sections are (legal shard l);
      fills = fills-spread setup.shards course.sections are;
      apart = All-weaker (IsFine setup) (λ section. IsFrugalMemo section.purpose section.lists) (λ section is. is.2) course.sections fine;
    }
