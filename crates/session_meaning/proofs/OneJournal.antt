-- The journal of a session is the text of its sections alone.
use Rattle.std.proofs.Common.{◌≡◌, ℕ, ◌+◌, ◌*◌, ◌<◌, ◌≤◌, List, [], ◌∷◌, ◌++◌, length, map, get_or, All, Contains, Option, Some, None, length-set, refl, sym, ap, subst, ◌∙◌, length-append, arith}
use Rattle.std.specs.Prelude.{sum_by}
use Rattle.std.specs.List.{AllByRecursion}
use Rattle.std.proofs.lemmas.List.Elements.{All-get_or, All-from_get_or, All-from_recursion, All-weaker, All-contains_itself, recursion_from_All}
use Rattle.std.proofs.lemmas.List.Sums.{get_or-le-sum_by}
use Rattle.gate_values.specs.declared.Value.{Value}
use Rattle.valid_intervals.specs.declared.SignalCell.{SignalCell}
use Rattle.circuit_meaning.specs.Circuit.{Circuit, Input}
use Rattle.circuit_meaning.proofs.Callers.{held-fits}
use Rattle.journal_meaning.specs.declared.batch.Query.{Query}
use Rattle.journal_meaning.specs.Batches.{Site}
use Rattle.journal_meaning.specs.declared.Entry.{Entry}
use Rattle.journal_meaning.specs.States.{fresh}
use Rattle.journal_meaning.specs.Replay.{replay}
use Rattle.journal_meaning.specs.Sections.{Purpose, Asks, Trims, Forces, SectionEntries, IsLegalIn, AreLegal, own_entries, list_of, cells_left}
use Rattle.journal_meaning.proofs.Callers.{Each, each-append, each-left, each-right}
use Rattle.texts.specs.fields.Spelling.{IsNumber}
use Rattle.journal_text.specs.Written.{IsEntry, IsSection}
use Rattle.journal_text.proofs.Callers.{one_journal}
use Rattle.query_lines.specs.declared.line.What.{What}
use Rattle.query_lines.specs.declared.line.What.TheVariants as whats
use Rattle.query_lines.specs.declared.unit.Item.{Item}
use Rattle.query_lines.specs.declared.line.Asks.{Asks as QuestionAsks}
use Rattle.query_lines.specs.declared.line.Asks.TheVariants as kinds
use Rattle.query_lines.specs.declared.line.Window.{Window}
use Rattle.query_lines.specs.declared.unit.Question.{Question}
use Rattle.query_lines.specs.declared.unit.Unit.{Unit as ScriptUnit}
use Rattle.query_lines.specs.declared.unit.Unit.TheVariants as units
use Rattle.query_lines.specs.Units.{asked_window, budget_weight}
use Rattle.query_lines.specs.Laws.{IsWithinLimits}
use Rattle.query_lines.specs.Fit.{IsFit, ScriptUnitsAreFit}
use Rattle.query_lines.specs.Reading.{script_units}
use Rattle.design.specs.Joined.{Joined, IsDesign}
use Rattle.session_meaning.specs.declared.Verdict.{Verdict}
use Rattle.session_meaning.specs.declared.Verdict.TheVariants.{Ask, Unknown, Past}
use Rattle.session_meaning.specs.Verdicts.{question_verdict, site_of, asked_queries, queries_of}
use Rattle.session_meaning.specs.FirstTimes.{up_to_first}
use Rattle.session_meaning.specs.StuckSignals.{held_batch, IsHeldMemo}
use Rattle.session_meaning.specs.Questions.{queries_at, kind_queries, question_queries, IsOwnMemo}
use Rattle.session_meaning.specs.Session.{Setup, Course, IsServed, Session, Opened, Served, batch_of, question_batch, held_sections, own_sections}
use Rattle.session_meaning.specs.Written.{kind_of, numbered_from}
use Rattle.session_meaning.specs.Laws.{SessionsHaveOneJournal}
use Rattle.session_meaning.proofs.Asked.{IsOfWindow, window-asks, item-asks, asked-in}
use Rattle.session_meaning.proofs.Dumps.{vcd-sections}
use Rattle.session_meaning.proofs.Legal.{session-legal}
use Rattle.session_meaning.proofs.Narrow.{IsStored, IsNarrow, batch-narrow, trim-narrow}
use Rattle.session_meaning.proofs.Numbered.{HasLinesTo, script-to}

-- ---- the numbers of queries

abbrev IsSmall : Query → Type 0
IsSmall q = IsNumber q.number × IsNumber q.budget

window-small : (d : Joined) (line : ℕ) (window : Window) (q : Query) → IsNumber line → IsNumber window.budget → IsOfWindow d line window q → IsSmall q
window-small d line window q l b of = (omega (arith, of.line_is, l), omega (arith, of.budget_is, b))

weight-is : (what : What) (window : Window) → asked_window what ≡ Some window → budget_weight what ≡ window.budget
weight-is (whats.Window other tell) window is = let same : other ≡ window = cc in ap (λ (w : Window). w.budget) same
weight-is whats.Bad window is = absurd cc

asked-small : (verdict : Verdict) → ((q : Query) → verdict ≡ Ask q → IsSmall q) → Each IsSmall (asked_queries verdict)
asked-small (Ask q) f = (f q refl, tt)
asked-small Unknown f = tt
asked-small Past f = tt

site-small : (site : Option Site) (qs : List Query) → Each IsSmall qs → Each IsSmall (queries_at site qs)
site-small None qs h = tt
site-small (Some site) qs h = h

first-small : (c : Circuit) (value : Value) (qs : List Query) → Each IsSmall qs → Each IsSmall (map (λ query. up_to_first c query value) qs)
first-small c value [] h = tt
first-small c value (q ∷ qs) h = (h.0, first-small c value qs h.1)

kind-small : (d : Joined) (asks : QuestionAsks) (qs : List Query) → Each IsSmall qs → Each IsSmall (kind_queries d asks qs)
kind-small d (kinds.First value) qs h = first-small d.circuit value qs h
kind-small d kinds.Why qs h = h
kind-small d (kinds.Stuck site value) qs h = site-small (site_of d (kinds.Stuck site value)) qs h

module _ (d : Joined) (question : Question) (l : IsNumber question.line) (b : question.window.budget ≤ 500000) where
  verdict-small : (q : Query) → question_verdict d question ≡ Ask q → IsSmall q
  verdict-small q is = window-small d question.line question.window q l (omega (arith, b)) (window-asks d question.line question.window q is)

  question-small : Each IsSmall (question_queries d question)
  question-small = kind-small d question.asks (asked_queries (question_verdict d question)) (asked-small (question_verdict d question) verdict-small)

module _ (d : Joined) (n : ℕ) (small : IsNumber n) (items : List Item) (lines : Each (λ (item : Item). item.line ≤ n) items) (fit : sum_by (λ (item : Item). budget_weight item.what) items ≤ 1000000) where
  items-small : All IsSmall (queries_of d items)
  items-small = All-weaker (Contains (queries_of d items)) IsSmall asked (queries_of d items) (All-contains_itself (queries_of d items))
    where
      asked : (q : Query) → Contains (queries_of d items) q → IsSmall q
      asked q has =
          let f = asked-in d items q has in
          let weight = λ (item : Item). budget_weight item.what in
          let to : Item → Type 0 = λ item. item.line ≤ n in
          let line : f.item.line ≤ n = subst to (f.there f.item) (All-get_or to items f.place f.item f.low (All-from_recursion to items lines)) in
          let budget : budget_weight f.item.what ≤ 1000000 = omega (arith, fit, get_or-le-sum_by weight items f.place f.item f.low, ap weight (f.there f.item)) in
          let of = item-asks d f.item.line (asked_window f.item.what) q f.asks in
          window-small d f.item.line of.0 q (omega (arith, line, small)) (omega (arith, budget, weight-is f.item.what of.0 of.1)) of.2

-- ---- sections

-- how many lists a section has, and what its batch is
abbrev IsFine : ℕ → Purpose → List (List Entry) → Type 0
IsFine shards (Asks b) lists = (length lists ≡ shards) × IsNarrow b
IsFine shards Trims lists = length lists ≡ shards
IsFine shards (Forces b) lists = (length lists ≡ 1) × IsNarrow b

abbrev AreFine : ℕ → List SectionEntries → Type 0
AreFine shards sections = Each (λ (section : SectionEntries). IsFine shards section.purpose section.lists) sections

-- the entries of a shard in a section, and the cells that it leaves
one-shard : (shards shard : ℕ) (purpose : Purpose) (lists : List (List Entry)) (es : List Entry) (cells : List SignalCell) → Each IsStored cells → IsFine shards purpose lists → IsLegalIn purpose shard cells es
    → Each IsEntry es × Each IsStored (replay (fresh cells) (own_entries purpose es)).cells
one-shard shards shard (Asks b) lists es cells k fine legal = batch-narrow b fine.1 shard es cells k legal.legal
one-shard shards shard Trims lists es cells k fine legal = trim-narrow es (fresh cells) k legal
one-shard shards shard (Forces b) lists es cells k fine legal = ((batch-narrow b fine.1 shard es [] tt legal.legal).0, k)

shard-entries : (shards shard : ℕ) (sections : List SectionEntries) (cells : List SignalCell) → Each IsStored cells → AreFine shards sections → AreLegal shard cells sections
    → Each (λ (section : SectionEntries). Each IsEntry (list_of section shard)) sections
shard-entries shards shard [] cells k fine legal = tt
shard-entries shards shard (section ∷ rest) cells k fine legal =
    let here = one-shard shards shard section.purpose section.lists (list_of section shard) cells k fine.0 legal.0 in
    (here.0, shard-entries shards shard rest (cells_left shard cells section) here.1 fine.1 legal.1)

-- what holds of each shard in each section holds of each section in all shards
of-shards : (P : ℕ → SectionEntries → Type 0) (shards : ℕ) (sections : List SectionEntries) → ((shard : ℕ) → shard < shards → Each (P shard) sections) → Each (λ (section : SectionEntries). (shard : ℕ) → shard < shards → P shard section) sections
of-shards P shards [] f = tt
of-shards P shards (section ∷ rest) f = ((λ shard l. (f shard l).0), of-shards P shards rest (λ shard l. (f shard l).1))

module _ (shards : ℕ) (some : 0 < shards) (most : shards ≤ 64) where
  lists-written : (lists : List (List Entry)) → length lists ≤ shards → ((shard : ℕ) → shard < shards → Each IsEntry (get_or lists shard [])) → AllByRecursion (AllByRecursion IsEntry) lists
  lists-written lists few f = recursion_from_All (Each IsEntry) lists (All-from_get_or (Each IsEntry) lists [] (λ i l. f i (omega (arith, l, few))))

  section-written : (k : ℕ) → 0 < k → IsNumber k → (purpose : Purpose) (lists : List (List Entry)) → IsFine shards purpose lists → ((shard : ℕ) → shard < shards → Each IsEntry (get_or lists shard []))
      → IsSection (record { kind = kind_of purpose; number = k; shards = lists })
  section-written k first small (Asks b) lists fine f = record {
    numbered = record { number = first; some = omega (arith, fine.0, some); most = omega (arith, fine.0, most) };
    number = small;
    entries = lists-written lists (omega (arith, fine.0)) f;
  }
  section-written k first small Trims lists fine f = record {
    numbered = record { number = first; some = omega (arith, fine, some); most = omega (arith, fine, most) };
    number = small;
    entries = lists-written lists (omega (arith, fine)) f;
  }
  section-written k first small (Forces b) lists fine f = record {
    numbered = record { number = first; some = omega (arith, fine.0); most = omega (arith, fine.0) };
    number = small;
    entries = lists-written lists (omega (arith, fine.0, some)) f;
  }

  sections-written : (k : ℕ) (sections : List SectionEntries) → 0 < k → IsNumber (k + length sections) → AreFine shards sections
      → Each (λ (section : SectionEntries). (shard : ℕ) → shard < shards → Each IsEntry (list_of section shard)) sections → AllByRecursion IsSection (numbered_from k sections)
  sections-written k [] first small fine entries = tt
  sections-written k (section ∷ rest) first small fine entries = (
    section-written k first (omega (arith, small)) section.purpose section.lists fine.0 entries.0,
    sections-written (k + 1) rest (omega arith) (omega (arith, small)) fine.1 entries.1,
  )

-- ---- a session

-- the sections so far are fine, and each unit has added at most two
record IsFineTo (setup : Setup) (count : ℕ) (now : Course) : Type 0 where
  fine : AreFine setup.shards now.sections
  few : length now.sections ≤ 2 * count

module _ (setup : Setup) (design : IsDesign setup.design) (n : ℕ) (small : IsNumber n) where
  with-one : (sections : List SectionEntries) (purpose : Purpose) (lists : List (List Entry)) → AreFine setup.shards sections → IsFine setup.shards purpose lists → AreFine setup.shards (sections ++ record { purpose = purpose; lists = lists } ∷ [])
  with-one sections purpose lists fine more =
      each-append (λ (section : SectionEntries). IsFine setup.shards section.purpose section.lists) sections (record { purpose = purpose; lists = lists } ∷ []) fine (more, tt)

  held-fine : (site : Site) (query : Query) → IsSmall query → IsNarrow (held_batch setup.design.circuit site query)
  held-fine site query is =
      let c = setup.design.circuit in
      let same = length-set c.drivers site.signal (Input (record { time = 0; value = site.value } ∷ [])) in
      record {
        circuit = held-fits c site.signal site.value design.circuit;
        horizon = design.limits.horizon;
        signals = omega (arith, same, design.limits.signals);
        queries = All-from_recursion IsSmall (query ∷ []) (is, tt);
      }

  -- the section of a second memo, if there is one
  held-fine-all : (site : Option Site) (verdict : Verdict) (lists : List (List Entry)) → ((q : Query) → verdict ≡ Ask q → IsSmall q) → IsHeldMemo setup.design.circuit site verdict lists
      → AreFine setup.shards (held_sections setup site verdict lists) × (length (held_sections setup site verdict lists) ≤ 1)
  held-fine-all (Some site) (Ask query) lists f memo = (((ap length memo.1, held-fine site query (f query refl)), tt), omega arith)
  held-fine-all (Some site) Unknown lists f memo = (tt, omega arith)
  held-fine-all (Some site) Past lists f memo = (tt, omega arith)
  held-fine-all None (Ask query) lists f memo = (tt, omega arith)
  held-fine-all None Unknown lists f memo = (tt, omega arith)
  held-fine-all None Past lists f memo = (tt, omega arith)

  own-fine : (question : Question) (lists : List (List Entry)) → IsNumber question.line → question.window.budget ≤ 500000 → IsOwnMemo setup.design question lists
      → AreFine setup.shards (own_sections setup question lists) × (length (own_sections setup question lists) ≤ 1)
  own-fine question lists l b memo =
      held-fine-all (site_of setup.design question.asks) (question_verdict setup.design question) lists (verdict-small setup.design question l b) memo

  unit-fine : (count : ℕ) (now next : Course) (unit : ScriptUnit) → HasLinesTo n unit → IsWithinLimits setup.design.circuit.horizon unit → IsServed setup now unit next → IsFineTo setup count now → IsFineTo setup (count + 1) next
  unit-fine count now next (units.Batch items) lines within served so =
      let batch = batch_of setup items in
      let narrow : IsNarrow batch = record { circuit = design.circuit; horizon = design.limits.horizon; signals = design.limits.signals; queries = items-small setup.design n small items lines within.budgets_fit } in
      let section : SectionEntries = record { purpose = Asks batch; lists = served.lists } in
      subst (IsFineTo setup (count + 1)) (sym served.leads)
      (record { fine = with-one now.sections (Asks batch) served.lists so.fine (served.count, narrow); few = omega (arith, so.few, length-append now.sections (section ∷ [])) })
  unit-fine count now next (units.Trim most) lines within served so =
      let section : SectionEntries = record { purpose = Trims; lists = served.lists } in
      subst (IsFineTo setup (count + 1)) (sym served.leads)
      (record { fine = with-one now.sections Trims served.lists so.fine served.count; few = omega (arith, so.few, length-append now.sections (section ∷ [])) })
  unit-fine count now next units.Stats lines within served so = subst (IsFineTo setup (count + 1)) (sym served) (record { fine = so.fine; few = omega (arith, so.few) })
  unit-fine count now next (units.Vcd file) lines within served so =
      let same = ap (λ (c : Course). c.sections) served ∙ vcd-sections setup now file in
      record { fine = subst (AreFine setup.shards) (sym same) so.fine; few = omega (arith, so.few, ap length same) }
  unit-fine count now next (units.Question question) lines within served so =
      let d = setup.design in
      let batch = question_batch setup question in
      let line : IsNumber question.line = omega (arith, lines, small) in
      let narrow : IsNarrow batch = record {
        circuit = design.circuit;
        horizon = design.limits.horizon;
        signals = design.limits.signals;
        queries = All-from_recursion IsSmall batch.queries (question-small d question line within.0);
      } in
      let section : SectionEntries = record { purpose = Asks batch; lists = served.lists } in
      let first = now.sections ++ section ∷ [] in
      let own = own_sections setup question served.own_lists in
      let more = own-fine question served.own_lists line within.0 served.memo in
      subst (IsFineTo setup (count + 1)) (sym served.leads) (record {
        fine = each-append (λ (section : SectionEntries). IsFine setup.shards section.purpose section.lists) first own (with-one now.sections (Asks batch) served.lists so.fine (served.count, narrow)) more.0;
        few = omega (arith, so.few, more.1, length-append now.sections (section ∷ []), length-append first own);
      })

  session-fine : (us : List ScriptUnit) (course : Course) → Each (HasLinesTo n) us → Each (IsWithinLimits setup.design.circuit.horizon) us → Session setup us course → IsFineTo setup (length us) course
  session-fine us course lines within Opened = record { fine = tt; few = omega arith }
  session-fine us course lines within (Served {units = before} {now = now} {next = next} unit session served) =
      let horizon = setup.design.circuit.horizon in
      let so = session-fine before now (each-left (HasLinesTo n) before (unit ∷ []) lines) (each-left (IsWithinLimits horizon) before (unit ∷ []) within) session in
      let to = unit-fine (length before) now next unit (each-right (HasLinesTo n) before (unit ∷ []) lines).0 (each-right (IsWithinLimits horizon) before (unit ∷ []) within).0 served so in
      subst (λ k. IsFineTo setup k next) (sym (length-append before (unit ∷ []))) to

pub one-journal : ScriptUnitsAreFit → SessionsHaveOneJournal
one-journal fit setup design memo script out journal dumps short is =
    let horizon = setup.design.circuit.horizon in
    let us = script_units horizon script in
    let within : All (IsWithinLimits horizon) us = All-weaker (IsFit horizon) (IsWithinLimits horizon) (λ unit (f : IsFit horizon unit). f.within) us (fit horizon script design.limits.horizon) in
    let lines = script-to horizon script within in
    let course = is.course in
    let n = length script + 1 in
    let so = session-fine setup design n (omega (arith, short)) us course lines.0 (recursion_from_All (IsWithinLimits horizon) us within) is.served in
    let entries = of-shards (λ shard section. Each IsEntry (list_of section shard)) setup.shards course.sections
    (λ shard l. shard-entries setup.shards shard course.sections [] tt so.fine (session-legal setup us course is.served shard l)) in
    let written = sections-written setup.shards memo.some memo.most 1 course.sections (omega arith) (omega (arith, short, so.few, lines.1)) so.fine entries in
    record {
      written = written;
      one = λ shards cells sections s c are same.
          one_journal shards cells setup.shards setup.capacity sections (numbered_from 1 course.sections) s c (omega (arith, memo.most)) memo.capacity are written same;
    }
