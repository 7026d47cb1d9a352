-- A unit that its parts served is a unit of the session; where a part failed, the session breaks off in it.
use Rattle.std.proofs.Common.{◌≡◌, ℕ, Bool, suc, ◌+◌, ◌<◌, List, [], ◌∷◌, ◌++◌, length, get_or, map, filter, sum_by, Option, Some, Result, Ok, Err, refl, sym, ap, subst, ◌∙◌, append_assoc, append-nil, length-append, arith, ◌⊎◌, inl, inr}
use Rattle.std.specs.Prelude.{All, IfSome, IsErrAnd}
use Rattle.std.proofs.Math.ListN.{length-map}
use Rattle.std.proofs.lemmas.List.Sums.{fold-append, sum_by-append, sum_by-cons}
use Rattle.std.specs.List.{AllZip, range_with_len}
use Rattle.std.proofs.lemmas.List.Elements.{filter-append}
use Rattle.valid_intervals.specs.declared.SignalCell.{SignalCell}
use Rattle.cell_store.specs.Recency.{Contents}
use Rattle.backsim_io.specs.Counts.{Grows}
use Rattle.texts.specs.Made.{Made}
use Rattle.backsim_io.specs.FilesInMemory.{FileGrows}
use Rattle.backsim_io.specs.State.{FilesState}
use Rattle.journal_meaning.specs.declared.Entry.{Entry}
use Rattle.journal_meaning.specs.States.{fresh}
use Rattle.journal_meaning.specs.Replay.{IsLegalBatch, IsLegalTrim}
use Rattle.journal_meaning.specs.Sections.{Purpose, Asks, Trims, Forces, SectionEntries, own_entries, cells_left, cells_after}
use Rattle.journal_meaning.specs.Counts.{count}
use Rattle.journal_text.specs.Spelling.{section_lines}
use Rattle.query_lines.specs.Fit.{AsksByName}
use Rattle.query_lines.specs.Laws.{IsWithin}
use Rattle.query_lines.specs.declared.unit.Item.{Item}
use Rattle.query_lines.specs.declared.unit.Unit.{Unit as ScriptUnit}
use Rattle.query_lines.specs.declared.unit.Unit.TheVariants as units
use Rattle.reply_lines.specs.declared.reply.Reply.{Reply}
use Rattle.reply_lines.specs.Replies.{trimmed_line, stats_line}
use Rattle.journal_text.specs.declared.sections.SectionKind.TheVariants.{Batch, Trim}
use Rattle.session_meaning.specs.Replies.{replies_text}
use Rattle.session_meaning.specs.Written.{kind_of, numbered_section}
use Rattle.session_meaning.specs.Session.{Setup, Course, IsServed, Session, Served, batch_of, with_section, with_reply, counts_line, cells_stored, trim_entries, is_batch, is_fill, is_eviction, entries_that}
use Rattle.session_meaning.specs.Verdicts.{verdict_of}
use Rattle.session_meaning.specs.Broken.{IsPrefix, journal_of, IsBroken, IsBrokenInJournal}
use Rattle.session_meaning.specs.Dumps.{wires_of}
use Rattle.session_meaning.proofs.Callers.{journal-more, prefix-same, prefix-more, prefix-behind, begun-same}
use Rattle.vcd_answers.specs.Wires.{Wire}
use Rattle.session_loop.specs.declared.desk.Counts.{Counts}
use Rattle.session_loop.specs.declared.desk.Desk.{Desk}
use Rattle.session_loop.specs.declared.desk.Dumps.{Dumps}
use Rattle.session_loop.specs.declared.desk.LastBatch.{LastBatch}
use Rattle.session_loop.specs.declared.service.Service.{Service}
use Rattle.session_loop.specs.declared.stop.JournalStop.{JournalStop}
use Rattle.session_loop.specs.declared.stop.RepliesStop.{RepliesStop}
use Rattle.session_loop.specs.declared.stop.RepliesStop.TheVariants as replies_stops
use Rattle.session_loop.specs.declared.stop.UnitStop.{UnitStop}
use Rattle.session_loop.specs.declared.stop.UnitStop.TheVariants.{OutOfMemory}
use Rattle.session_loop.specs.Outside.{Outputs, Seen, seen, JournalStops}
use Rattle.session_loop.specs.Serving.{BreaksAt, memo_of, session_of}
use Rattle.session_loop.specs.Stops.{of_replies, of_journal}
use Rattle.session_loop.specs.inner.Outside.{RepliesStops}
use Rattle.session_loop.specs.inner.Growing.{FilesGoOn, GrowsPart, FileGrowsPart}
use Rattle.unit_answers.specs.Stores.{AreStores, cells_of}
use Rattle.unit_answers.specs.Done.{IsBatchDone, IsTrimDone}
use Rattle.unit_answers.specs.Dumps.{IsOwnWave}
use Rattle.unit_answers.proofs.Callers.{done-waves}
use Rattle.session_loop.specs.inner.Desks.{IsCount, IsCounted, batches_in, counted_lists, Shows, KeepsDumps, IsShowable, IsDesk, IsReady, Keeps}
use Rattle.session_loop.specs.inner.Telling.{OfReplies, OfJournal, WritesAll, WritesPart, Tells, TellsBatch}
use Rattle.session_loop.specs.inner.Serving.{ServedTo, Within, StoppedIn, Serves, Stops, StopsAfter, UnitsServed, UnitsStopped, ServesUnits, ServesInPlace}
use Rattle.session_loop.proofs.Breaking.{within-front, within-longer, within-map, within-none, broken-none, broken-at, breaks-longer, breaks-in-reply, breaks-in-journal}
use Rattle.session_loop.proofs.Changes.{calm, dumped-only, of-replies, of-journal, journal-created, same-outputs}
use Rattle.session_loop.proofs.Growing.{goes-none, goes-trans, part-none, file-none, files-none, files-trans, journal-grows}

-- no entry of a memo of its own is counted
none-counted : (lists : List (List Entry)) → sum_by (λ (entries : List Entry). 0) lists ≡ 0
none-counted [] = refl
none-counted (es ∷ lists) = let first = sum_by-cons (λ (entries : List Entry). 0) es lists in let rest = none-counted lists in omega (arith, first, rest)

counted-own : (test : Entry → Bool) (purpose : Purpose) (lists : List (List Entry)) → sum_by (λ entries. count test (own_entries purpose entries)) lists ≡ sum_by (count test) (counted_lists (kind_of purpose) lists)
counted-own test (Asks b) lists = refl
counted-own test Trims lists = refl
counted-own test (Forces b) lists = none-counted lists

entries-more : (test : Entry → Bool) (sections : List SectionEntries) (section : SectionEntries)
    → entries_that test (sections ++ section ∷ []) ≡ entries_that test sections + sum_by (count test) (counted_lists (kind_of section.purpose) section.lists)
entries-more test sections section =
    sum_by-append (λ (s : SectionEntries). sum_by (λ entries. count test (own_entries s.purpose entries)) s.lists) sections (section ∷ [])
    ∙ ap (λ n. entries_that test sections + n) (omega (arith, counted-own test section.purpose section.lists))

batches-more : (sections : List SectionEntries) (section : SectionEntries) → length (filter (λ s. is_batch s.purpose) (sections ++ section ∷ [])) ≡ length (filter (λ s. is_batch s.purpose) sections) + batches_in (kind_of section.purpose)
batches-more sections section =
    ap length (filter-append (λ (s : SectionEntries). is_batch s.purpose) sections (section ∷ []))
    ∙ length-append (filter (λ s. is_batch s.purpose) sections) (filter (λ s. is_batch s.purpose) (section ∷ []))
    ∙ ap (λ n. length (filter (λ s. is_batch s.purpose) sections) + n) (one section.purpose section.lists)
  where
    one : (p : Purpose) (lists : List (List Entry)) → length (filter (λ (s : SectionEntries). is_batch s.purpose) (record { purpose = p; lists = lists } ∷ [])) ≡ batches_in (kind_of p)
    one (Asks b) lists = refl
    one Trims lists = refl
    one (Forces b) lists = refl

-- the counts are those of one section more
pub counts-more : (counts later : Counts) (sections : List SectionEntries) (section : SectionEntries) → IsCount counts sections → IsCounted counts (kind_of section.purpose) section.lists later → IsCount later (sections ++ section ∷ [])
counts-more counts later sections section c more = record {
  sections_are = more.sections ∙ ap (λ n. n + 1) c.sections_are ∙ sym (length-append sections (section ∷ []));
  batches = more.batches ∙ ap (λ n. n + batches_in (kind_of section.purpose)) c.batches ∙ sym (batches-more sections section);
  fills = more.fills ∙ ap (λ n. n + sum_by (count is_fill) (counted_lists (kind_of section.purpose) section.lists)) c.fills ∙ sym (entries-more is_fill sections section);
  evictions = more.evictions ∙ ap (λ n. n + sum_by (count is_eviction) (counted_lists (kind_of section.purpose) section.lists)) c.evictions ∙ sym (entries-more is_eviction sections section);
}

-- the cells are those that one section more leaves
pub cells-more : (shard : ℕ) (cells left : List SignalCell) (sections : List SectionEntries) (section : SectionEntries) → cells ≡ cells_after shard sections → left ≡ cells_left shard cells section
    → left ≡ cells_after shard (sections ++ section ∷ [])
cells-more shard cells left sections section was leaves =
    leaves ∙ ap (λ l. cells_left shard l section) was ∙ sym (fold-append (cells_left shard) [] sections (section ∷ []))

module _ (before : Seen) (text lines : List ℕ) where
  pub all-written : (files : FilesState) (made : List Made → Type 0) (replies : ℕ) (written : List ℕ → Type 0) → files ≡ before.outputs.files → replies ≡ before.outputs.replies
      → Grows before.written written text → FileGrows before.made made 0 lines → WritesAll before (seen files made replies written) text lines
  all-written files made replies written same calm replied recorded = record {
    replied = replied;
    recorded = recorded;
    calm = same-outputs (record { files = files; replies = replies }) before.outputs same calm;
  }

  -- the text was begun
  pub text-begun : (replies : ℕ) (written : List ℕ → Type 0) (stop : RepliesStop) → RepliesStops before.outputs.replies replies stop → GrowsPart before.written written text
      → WritesPart before (seen before.outputs.files before.made replies written) text lines (of_replies stop)
  text-begun replies written stop cause replied = record {
    replied = replied;
    recorded = ([], (lines, refl), file-none before.made 0);
    first = inr refl;
    cause = inl (stop, refl);
    created = refl;
    state = of-replies before.outputs.files before.outputs.replies replies stop cause;
  }

  -- the lines were begun
  pub lines-begun : (files mid : FilesState) (made : List Made → Type 0) (replies : ℕ) (written : List ℕ → Type 0) (stop : JournalStop) → replies ≡ before.outputs.replies → mid ≡ before.outputs.files
      → JournalStops mid files stop → Grows before.written written text → FileGrowsPart before.made made 0 lines → WritesPart before (seen files made replies written) text lines (of_journal stop)
  lines-begun files mid made replies written stop calm same cause replied recorded = record {
    replied = (text, prefix-same text, replied);
    recorded = recorded;
    first = inl refl;
    cause = inr ((stop, refl), refl);
    created = journal-created mid files stop cause ∙ ap (λ f. f.created) same;
    state = of-journal before.outputs.replies replies before.outputs.files mid files stop calm same cause;
  }

module _ (setup : Setup) where
  -- what is kept for dumps, where no dump is made
  pub kept-dumps : (dumps later : Dumps) (now next : Course) → later ≡ dumps → next.waves ≡ now.waves → next.dumps ≡ now.dumps → KeepsDumps setup dumps now → KeepsDumps setup later next
  kept-dumps dumps later now next same waves made keeps = record {
    shows = subst (Shows setup.design later.last) (sym waves) (ap-shows (sym same));
    own = ap (λ d. d.own.items) same ∙ keeps.own;
    made = ap (λ d. d.made.items) same ∙ keeps.made ∙ ap (map (λ (dump : Made). dump.name)) (sym made);
  }
    where
      ap-shows : dumps ≡ later → Shows setup.design later.last now.waves
      ap-shows e = subst (λ (d : Dumps). Shows setup.design d.last now.waves) e keeps.shows

  -- how many files are created: the journal, and the dumps
  pub count-of : (desk : Desk) (now : Course) (files : ℕ) → Keeps setup desk now → files ≡ length desk.dumps.made.items + 1 → files ≡ length now.dumps + 1
  count-of desk now files keeps many = many ∙ ap (λ n. n + 1) (ap length keeps.dumps.made ∙ length-map now.dumps (λ (dump : Made). dump.name))

  module _ (units : List ScriptUnit) (unit : ScriptUnit) (now : Course) (desk : Desk) (session : Session setup units now) (keeps : Keeps setup desk now) (before after : Seen) where
    module _ (sections : List SectionEntries) (text : List ℕ) (waves : Option (List Wire)) (lines : List ℕ) where
      -- with these sections, this text more, and these waves
      abbrev pub leads-to : Course
      leads-to = record { sections = sections; out = now.out ++ text; waves = waves; dumps = now.dumps }

      -- the sections have these lines more
      module _ (served : IsServed setup now unit leads-to) (journal-is : journal_of setup leads-to ≡ journal_of setup now ++ lines) where
        -- all was written
        pub sections-served : (later : Desk) → Keeps setup later leads-to → WritesAll before after text lines → ServedTo setup (units ++ unit ∷ []) now later before after
        sections-served later holds wrote = record {
          next = leads-to;
          session = Served unit session served;
          keeps = holds;
          replied = (text, refl, wrote.replied);
          recorded = subst (λ j. FilesGoOn before.made after.made (journal_of setup now) now.dumps j now.dumps) (sym journal-is) (journal-grows before.made after.made (journal_of setup now) lines now.dumps wrote.recorded);
        }

        -- a part of the text and a part of the lines
        module _ (stop : UnitStop) (wrote : WritesPart before after text lines stop) where
          abbrev replies : List ℕ
          replies = now.out ++ wrote.replied.0

          abbrev journal : List ℕ
          journal = journal_of setup now ++ wrote.recorded.0

          within-lines : IsPrefix journal (journal_of setup leads-to)
          within-lines = subst (λ j. IsPrefix journal j) (sym journal-is) (prefix-behind (journal_of setup now) wrote.recorded.0 lines wrote.recorded.1)

          replies-first : (wrote.replied.0 ≡ text) ⊎ (wrote.recorded.0 ≡ []) → (replies ≡ now.out ++ text) ⊎ (journal ≡ journal_of setup now)
          replies-first (inl whole) = inl (ap (λ l. now.out ++ l) whole)
          replies-first (inr none) = inr (ap (λ l. journal_of setup now ++ l) none ∙ append-nil (journal_of setup now))

          in-unit : Within units (unit ∷ []) (λ done later. IsBroken setup done later replies journal now.dumps)
          in-unit =
              broken-at setup units unit now leads-to replies journal now.dumps session served
              (prefix-more now.out wrote.replied.0) (prefix-more (journal_of setup now) wrote.recorded.0) (prefix-behind now.out wrote.replied.0 text wrote.replied.1) within-lines
              ([], sym (append-nil now.dumps)) (begun-same now.dumps) (replies-first wrote.first) (inr refl) (λ _ _. refl)

          in-journal : wrote.replied.0 ≡ text → IsBrokenInJournal setup units (unit ∷ []) replies journal now.dumps
          in-journal whole = record {
            unit = unit;
            rest = [];
            later_is = refl;
            now = now;
            served = session;
            next = leads-to;
            answered = served;
            out_is = ap (λ l. now.out ++ l) whole;
            dumps_are = refl;
            recorded = prefix-more (journal_of setup now) wrote.recorded.0;
            begun = within-lines;
          }

          by-cause : OfReplies stop ⊎ (OfJournal stop × (wrote.replied.0 ≡ text)) → Within units (unit ∷ []) (BreaksAt setup replies journal now.dumps stop)
          by-cause (inl (given, is)) =
              subst (λ s. Within units (unit ∷ []) (BreaksAt setup replies journal now.dumps s)) (sym is)
              (within-map units (unit ∷ []) (λ done later. IsBroken setup done later replies journal now.dumps) (BreaksAt setup replies journal now.dumps (of_replies given))
              (breaks-in-reply setup replies journal now.dumps given) in-unit)
          by-cause (inr ((given, is), whole)) =
              subst (λ s. Within units (unit ∷ []) (BreaksAt setup replies journal now.dumps s)) (sym is)
              (breaks-in-journal setup units (unit ∷ []) replies journal now.dumps given (in-journal whole) in-unit)

          pub sections-stopped : before.outputs.files.created ≡ length desk.dumps.made.items + 1 → StoppedIn setup units (unit ∷ []) now before after stop
          sections-stopped many = record {
            replies = replies;
            journal = journal;
            dumps = now.dumps;
            broken = by-cause wrote.cause;
            replied = (wrote.replied.0, refl, wrote.replied.2);
            recorded = journal-grows before.made after.made (journal_of setup now) wrote.recorded.0 now.dumps wrote.recorded.2;
            count = count-of desk now after.outputs.files.created keeps (wrote.created ∙ many);
          }

    module _ (purpose : Purpose) (lists : List (List Entry)) (text : List ℕ) (waves : Option (List Wire)) where
      abbrev section : SectionEntries
      section = record { purpose = purpose; lists = lists }

      -- a section more, and these waves
      abbrev pub next : Course
      next = record (with_section now purpose lists text) { waves = waves }

      module _ (served : IsServed setup now unit next) (number : ℕ) (is : number ≡ desk.counts.sections + 1) where
        abbrev pub section-text : List ℕ
        section-text = section_lines (numbered_section number section)

        journal-is : journal_of setup next ≡ journal_of setup now ++ section-text
        journal-is = journal-more setup now purpose lists text number (is ∙ ap (λ n. n + 1) keeps.counts.sections_are)

        -- with a section of its own
        pub section-served : (later : Desk) → IsCounted desk.counts (kind_of purpose) lists later.counts
            → ((shard : ℕ) → shard < setup.shards → cells_of later.stores.items shard ≡ cells_left shard (cells_of desk.stores.items shard) section)
            → KeepsDumps setup later.dumps next → WritesAll before after text section-text → ServedTo setup (units ++ unit ∷ []) now later before after
        section-served later counted leaves dumps =
            sections-served (now.sections ++ section ∷ []) text waves section-text served journal-is later (record {
              cells = λ shard h. cells-more shard (cells_of desk.stores.items shard) (cells_of later.stores.items shard) now.sections section (keeps.cells shard h) (leaves shard h);
              counts = counts-more desk.counts later.counts now.sections section keeps.counts counted;
              dumps = dumps;
            })

        -- a part of its replies and a part of its section
        pub section-stopped : (stop : UnitStop) → WritesPart before after text section-text stop → before.outputs.files.created ≡ length desk.dumps.made.items + 1 → StoppedIn setup units (unit ∷ []) now before after stop
        section-stopped stop wrote = sections-stopped (now.sections ++ section ∷ []) text waves section-text served journal-is stop wrote

    -- a reply alone
    module _ (text : List ℕ) (served : IsServed setup now unit (with_reply now text)) where
      pub reply-served : WritesAll before after text [] → ServedTo setup (units ++ unit ∷ []) now desk before after
      reply-served = sections-served now.sections text now.waves [] served (sym (append-nil (journal_of setup now))) desk (record {
        cells = keeps.cells;
        counts = keeps.counts;
        dumps = kept-dumps desk.dumps desk.dumps now (with_reply now text) refl refl refl keeps.dumps;
      })

      pub reply-stopped : (stop : UnitStop) → WritesPart before after text [] stop → before.outputs.files.created ≡ length desk.dumps.made.items + 1 → StoppedIn setup units (unit ∷ []) now before after stop
      reply-stopped stop wrote = sections-stopped now.sections text now.waves [] served (sym (append-nil (journal_of setup now))) stop wrote

  -- nothing of the next units was written
  pub stops-none : (desk : Desk) (more : List ScriptUnit) (before : Seen) → before.outputs.files.created ≡ length desk.dumps.made.items + 1 → Stops setup desk more before before OutOfMemory
  stops-none desk more before many units now session keeps = record {
    replies = now.out;
    journal = journal_of setup now;
    dumps = now.dumps;
    broken = within-none units more (BreaksAt setup now.out (journal_of setup now) now.dumps OutOfMemory) (broken-none setup units more now session);
    replied = goes-none before.written now.out;
    recorded = files-none before.made (journal_of setup now) now.dumps;
    count = count-of desk now before.outputs.files.created keeps many;
  }

  -- One unit after another.
  pub serves-none : (desk : Desk) (before : Seen) → Serves setup desk desk [] before before
  serves-none desk before units now session keeps = record {
    next = now;
    session = subst (λ us. Session setup us now) (sym (append-nil units)) session;
    keeps = keeps;
    replied = goes-none before.written now.out;
    recorded = files-none before.made (journal_of setup now) now.dumps;
  }

  pub serves-more : (a b c : Desk) (us vs : List ScriptUnit) (before mid after : Seen)
      → Serves setup a b us before mid → Serves setup b c vs mid after → Serves setup a c (us ++ vs) before after
  serves-more a b c us vs before mid after first then units now session keeps =
      let f = first units now session keeps in
      let g = then (units ++ us) f.next f.session f.keeps in
      record {
        next = g.next;
        session = subst (λ l. Session setup l g.next) (append_assoc units us vs) g.session;
        keeps = g.keeps;
        replied = goes-trans before.written mid.written after.written now.out f.next.out g.next.out f.replied g.replied;
        recorded = files-trans before.made mid.made after.made (journal_of setup now) (journal_of setup f.next) (journal_of setup g.next) now.dumps f.next.dumps g.next.dumps f.recorded g.recorded;
      }

  -- a stop after units that were served
  pub stops-after : (a b : Desk) (us vs : List ScriptUnit) (before mid after : Seen) (stop : UnitStop)
      → Serves setup a b us before mid → Stops setup b vs mid after stop → StopsAfter setup a us vs before after stop
  stops-after a b us vs before mid after stop first then units now session keeps =
      let f = first units now session keeps in
      let g = then (units ++ us) f.next f.session f.keeps in
      record {
        replies = g.replies;
        journal = g.journal;
        dumps = g.dumps;
        broken = g.broken;
        replied = goes-trans before.written mid.written after.written now.out f.next.out g.replies f.replied g.replied;
        recorded = files-trans before.made mid.made after.made (journal_of setup now) (journal_of setup f.next) g.journal now.dumps f.next.dumps g.dumps f.recorded g.recorded;
        count = g.count;
      }

  -- no unit was served before
  pub stops-now : (desk : Desk) (more : List ScriptUnit) (before after : Seen) (stop : UnitStop)
      → Stops setup desk more before after stop → StopsAfter setup desk [] more before after stop
  stops-now desk more before after stop stopped units now session keeps =
      subst (λ l. StoppedIn setup l more now before after stop) (sym (append-nil units)) (stopped units now session keeps)

  pub stops-more : (a b : Desk) (us vs : List ScriptUnit) (before mid after : Seen) (stop : UnitStop)
      → Serves setup a b us before mid → Stops setup b vs mid after stop → Stops setup a (us ++ vs) before after stop
  stops-more a b us vs before mid after stop first then units now session keeps =
      let g = stops-after a b us vs before mid after stop first then units now session keeps in
      record {
        replies = g.replies;
        journal = g.journal;
        dumps = g.dumps;
        broken = within-front units us vs (BreaksAt setup g.replies g.journal g.dumps stop) g.broken;
        replied = g.replied;
        recorded = g.recorded;
        count = g.count;
      }

  -- a stop in the first of these units
  pub stops-longer : (desk : Desk) (us more : List ScriptUnit) (before after : Seen) (stop : UnitStop)
      → Stops setup desk us before after stop → Stops setup desk (us ++ more) before after stop
  stops-longer desk us more before after stop stopped units now session keeps =
      let s = stopped units now session keeps in
      record {
        replies = s.replies;
        journal = s.journal;
        dumps = s.dumps;
        broken = within-longer units us more (BreaksAt setup s.replies s.journal s.dumps stop) (λ done later. breaks-longer setup s.replies s.journal s.dumps stop done later more) s.broken;
        replied = s.replied;
        recorded = s.recorded;
        count = s.count;
      }

-- The counts.
stored-from : (stores : List Contents) (first : ℕ) (cells : ℕ → List SignalCell) → ((i : ℕ) → i < length stores → cells_of stores i ≡ cells (first + i))
    → sum_by (λ s. length s.cells) stores ≡ sum_by (λ shard. length (cells shard)) (range_with_len first (length stores))
stored-from [] first cells same = refl
stored-from (x ∷ stores) first cells same =
    let here : length x.cells ≡ length (cells first) = ap length (same 0 (omega arith)) ∙ ap (λ n. length (cells n)) (omega arith) in
    let rest = stored-from stores (first + 1) cells (λ i h. same (suc i) (omega (arith, h)) ∙ ap cells (omega arith)) in
    sum_by-cons (λ (s : Contents). length s.cells) x stores ∙ omega (arith, here, rest) ∙ sym (sum_by-cons (λ shard. length (cells shard)) first (range_with_len (first + 1) (length stores)))

-- A unit that makes no dump, with all that is promised of it.

-- the stop that a result hands on
pub handed-stop : {service : Service} {desk : Desk} {units : List ScriptUnit} {before after : Seen} {was : UnitStop} (result : Result Desk UnitStop) → IsErrAnd result (λ e. e ≡ was)
    → UnitsStopped service desk units before after was → ServesUnits service desk units result before after
handed-stop (Ok later) handed stopped = absurd handed
handed-stop {service} {desk} {units} {before} {after} (Err stop) handed stopped = subst (UnitsStopped service desk units before after) (sym handed) stopped

-- and where the desk is changed in place
pub handed-in-place : {A : Type 0} {service : Service} {desk : Desk} {units : List ScriptUnit} {before after : Seen} {was : UnitStop} (later : Desk) (result : Result A UnitStop) → IsErrAnd result (λ e. e ≡ was)
    → UnitsStopped service desk units before after was → ServesInPlace service desk later units result before after
handed-in-place later (Ok done) handed stopped = absurd handed
handed-in-place {A} {service} {desk} {units} {before} {after} later (Err stop) handed stopped = subst (UnitsStopped service desk units before after) (sym handed) stopped

-- the stop of a text and its lines that a result hands on
pub handed-part : {A : Type 0} {text lines : List ℕ} {before after : Seen} {was : UnitStop} (result : Result A UnitStop) → IsErrAnd result (λ e. e ≡ was)
    → WritesPart before after text lines was → Tells text lines result before after
handed-part (Ok done) handed wrote = absurd handed
handed-part {A} {text} {lines} {before} {after} (Err stop) handed wrote = subst (WritesPart before after text lines) (sym handed) wrote

-- where there is no memory, nothing is told
pub nothing-told : (before : Seen) (text lines : List ℕ) → WritesPart before before text lines OutOfMemory
nothing-told before text lines = text-begun before text lines before.outputs.replies before.written replies_stops.OutOfMemory refl (part-none before.written text)

-- nor where the sections are too many to count
pub batch-untold : (counts : Counts) (text : List ℕ) (lists : List (List Entry)) (before : Seen) → TellsBatch counts text lists (Err OutOfMemory) before before
batch-untold counts text lists before = record {
  counts = record {
    sections = counts.sections + 1;
    batches = counts.batches + 1;
    fills = counts.fills + sum_by (count is_fill) lists;
    evictions = counts.evictions + sum_by (count is_eviction) lists;
  };
  counted = record { sections = refl; batches = refl; fills = refl; evictions = refl };
  same = tt;
  told = nothing-told before text (section_lines (record { kind = Batch; number = counts.sections + 1; shards = lists }));
}

-- a batch whose section was counted stopped
pub batch-part : (old counts : Counts) (text : List ℕ) (lists : List (List Entry)) (before after : Seen) {was : UnitStop} (result : Result Counts UnitStop) → IsErrAnd result (λ e. e ≡ was) → IsCounted old Batch lists counts
    → WritesPart before after text (section_lines (record { kind = Batch; number = counts.sections; shards = lists })) was → TellsBatch old text lists result before after
batch-part old counts text lists before after (Ok later) handed counted wrote = absurd handed
batch-part old counts text lists before after (Err stop) handed counted wrote = record {
  counts = counts;
  counted = counted;
  same = tt;
  told = handed-part {A = Counts} (Err stop) handed wrote;
}

-- nothing of the next units was written
pub units-none : {service : Service} {desk : Desk} {more : List ScriptUnit} (before : Seen) → IsReady (memo_of service) desk before.outputs.files → UnitsStopped service desk more before before OutOfMemory
units-none {service} {desk} {more} before ready = record {
  stopped = λ names. stops-none (session_of service names) desk more before ready.count;
  state = dumped-only before.outputs before.outputs (calm before.outputs before.outputs refl);
}

module _ (service : Service) (desk : Desk) (before after : Seen) (ready : IsReady (memo_of service) desk before.outputs.files) where
  -- all was written
  pub unit-served : (later : Desk) (unit : ScriptUnit) (text lines : List ℕ) → IsDesk (memo_of service) later → later.dumps.made.items ≡ desk.dumps.made.items → WritesAll before after text lines
      → ((names : List (List ℕ)) → Serves (session_of service names) desk later (unit ∷ []) before after) → UnitsServed service desk later (unit ∷ []) before after
  unit-served later unit text lines is made wrote served = record {
    ready = subst (IsReady (memo_of service) later) (ap (λ (o : Outputs). o.files) (sym wrote.calm)) (record {
      desk = is;
      count = ready.count ∙ ap (λ l. length l + 1) (sym made);
      unfinished = ready.unfinished;
    });
    served = served;
    state = calm before.outputs after.outputs wrote.calm;
  }

  -- what is kept for dumps stays
  pub kept-desk : (later : Desk) (left : List Contents) → AreStores (memo_of service) left → later.stores.items ≡ left → later.dumps ≡ desk.dumps → IfSome later.last_site (λ last. last ≡ service.design.now)
      → IsDesk (memo_of service) later
  kept-desk later left are stores dumps site = record {
    stores = subst (AreStores (memo_of service)) (sym stores) are;
    shown = subst (λ (d : Dumps). IsShowable service.design.now d.last) (sym dumps) ready.desk.shown;
    site = site;
  }

  -- A batch.
  module _ (items asked : List Item) (same : asked ≡ items) (replies : List Reply) (lists : List (List Entry)) (left : List Contents) (done : IsBatchDone (memo_of service) asked desk.stores.items replies lists left)
      (counts : Counts) (counted : IsCounted desk.counts Batch lists counts) where
    answered : IsBatchDone (memo_of service) items desk.stores.items replies lists left
    answered = subst (λ l. IsBatchDone (memo_of service) l desk.stores.items replies lists left) same done

    abbrev shown : Option (List Wire)
    shown = Some (wires_of service.design.now items replies)

    abbrev pub batch-lines : List ℕ
    batch-lines = section_lines (record { kind = Batch; number = counts.sections; shards = lists })

    is-served : (names : List (List ℕ)) (now : Course) → Keeps (session_of service names) desk now
        → IsServed (session_of service names) now (units.Batch items) (record (with_section now (Asks (batch_of (memo_of service) items)) lists (replies_text items replies)) { waves = shown })
    is-served names now keeps = record {
      lists = lists;
      replies = replies;
      count = answered.count;
      legal = λ shard h. subst (λ cells. IsLegalBatch (batch_of (memo_of service) items) shard cells (get_or lists shard [])) (keeps.cells shard h) (answered.legal shard h);
      right = answered.right;
      leads = refl;
    }

    -- its items and its replies are the last ones, and their waves can be shown
    pub batch-served : (later : Desk) (last : LastBatch) → later.counts ≡ counts → later.stores.items ≡ left → last.items ≡ items → last.replies.items ≡ replies
        → later.dumps ≡ record { last = Some last; own = desk.dumps.own; made = desk.dumps.made } → IfSome later.last_site (λ last. last ≡ service.design.now)
        → IsWithin service.design.now.circuit.horizon items → All (λ item. AsksByName item.what) items
        → WritesAll before after (replies_text items replies) batch-lines → UnitsServed service desk later (units.Batch items ∷ []) before after
    batch-served later last counts-are stores asks answers dumps site within by-name wrote =
        unit-served later (units.Batch items) (replies_text items replies) batch-lines
        (record {
          stores = subst (AreStores (memo_of service)) (sym stores) answered.stores;
          shown = subst (λ (d : Dumps). IsShowable service.design.now d.last) (sym dumps) (record {
            within = subst (IsWithin service.design.now.circuit.horizon) (sym asks) within;
            named = subst (All (λ item. AsksByName item.what)) (sym asks) by-name;
            waves = subst (λ l. AllZip (λ item reply. IsOwnWave service.design.now.circuit (verdict_of service.design.now item) reply) l last.replies.items) (sym asks)
                (subst (AllZip (λ item reply. IsOwnWave service.design.now.circuit (verdict_of service.design.now item) reply) items) (sym answers)
                (done-waves (memo_of service) items desk.stores.items replies lists left answered));
          });
          site = site;
        })
        (ap (λ (d : Dumps). d.made.items) dumps) wrote
        (λ names us now session keeps.
        section-served (session_of service names) us (units.Batch items) now desk session keeps before after (Asks (batch_of (memo_of service) items)) lists (replies_text items replies) shown
        (is-served names now keeps) counts.sections counted.sections
        later (subst (λ c. IsCounted desk.counts Batch lists c) (sym counts-are) counted) (λ shard h. ap (λ l. cells_of l shard) stores ∙ answered.leaves shard h)
        (record {
          shows = subst (λ (d : Dumps). Shows service.design.now d.last shown) (sym dumps)
              (ap (λ l. wires_of service.design.now l replies) (sym asks) ∙ ap (wires_of service.design.now last.items) (sym answers));
          own = ap (λ d. d.own.items) dumps ∙ keeps.dumps.own;
          made = ap (λ d. d.made.items) dumps ∙ keeps.dumps.made;
        })
        wrote)

    pub batch-stopped : (stop : UnitStop) → WritesPart before after (replies_text items replies) batch-lines stop → UnitsStopped service desk (units.Batch items ∷ []) before after stop
    batch-stopped stop wrote = record {
      stopped = λ names us now session keeps.
          section-stopped (session_of service names) us (units.Batch items) now desk session keeps before after (Asks (batch_of (memo_of service) items)) lists (replies_text items replies) shown
          (is-served names now keeps) counts.sections counted.sections stop wrote ready.count;
      state = wrote.state;
    }

  -- A trim.
  module _ (most : ℕ) (lists : List (List Entry)) (left : List Contents) (done : IsTrimDone (memo_of service) most desk.stores.items lists left) (counts : Counts) (counted : IsCounted desk.counts Trim lists counts) where
    abbrev pub trim-text : List ℕ
    trim-text = trimmed_line (sum_by length lists)

    abbrev pub trim-lines : List ℕ
    trim-lines = section_lines (record { kind = Trim; number = counts.sections; shards = lists })

    is-trimmed : (names : List (List ℕ)) (now : Course) → Keeps (session_of service names) desk now → IsServed (session_of service names) now (units.Trim most) (with_section now Trims lists trim-text)
    is-trimmed names now keeps = record {
      lists = lists;
      count = done.count;
      legal = λ shard h. subst (λ cells. IsLegalTrim (fresh cells) (get_or lists shard [])) (keeps.cells shard h) (done.legal shard h);
      evicts = λ shard h. done.evicts shard h ∙ ap (trim_entries most) (keeps.cells shard h);
      leads = refl;
    }

    pub trim-served : (later : Desk) → later.counts ≡ counts → later.stores.items ≡ left → later.dumps ≡ desk.dumps → IfSome later.last_site (λ last. last ≡ service.design.now) → WritesAll before after trim-text trim-lines
        → UnitsServed service desk later (units.Trim most ∷ []) before after
    trim-served later counts-are stores dumps site wrote =
        unit-served later (units.Trim most) trim-text trim-lines
        (kept-desk later left done.stores stores dumps site)
        (ap (λ (d : Dumps). d.made.items) dumps) wrote
        (λ names us now session keeps.
        section-served (session_of service names) us (units.Trim most) now desk session keeps before after Trims lists trim-text now.waves (is-trimmed names now keeps) counts.sections counted.sections
        later (subst (λ c. IsCounted desk.counts Trim lists c) (sym counts-are) counted) (λ shard h. ap (λ l. cells_of l shard) stores ∙ done.leaves shard h)
        (kept-dumps (session_of service names) desk.dumps later.dumps now (with_section now Trims lists trim-text) dumps refl refl keeps.dumps) wrote)

    pub trim-stopped : (stop : UnitStop) → WritesPart before after trim-text trim-lines stop → UnitsStopped service desk (units.Trim most ∷ []) before after stop
    trim-stopped stop wrote = record {
      stopped = λ names us now session keeps.
          section-stopped (session_of service names) us (units.Trim most) now desk session keeps before after Trims lists trim-text now.waves (is-trimmed names now keeps) counts.sections counted.sections
          stop wrote ready.count;
      state = wrote.state;
    }

  -- The counts.
  abbrev pub told : List ℕ
  told = stats_line desk.counts.batches desk.counts.fills desk.counts.evictions (sum_by (λ s. length s.cells) desk.stores.items)

  told-is : (names : List (List ℕ)) (now : Course) → Keeps (session_of service names) desk now → told ≡ counts_line (session_of service names) now.sections
  told-is names now keeps =
      let shards = service.sizes.shards in
      let many : length desk.stores.items ≡ shards = ready.desk.stores.count in
      let below : (i : ℕ) → i < length desk.stores.items → i < shards = λ i h. omega (arith, h, many) in
      let cells = stored-from desk.stores.items 0 (λ shard. cells_after shard now.sections) (λ i h. keeps.cells i (below i h) ∙ ap (λ n. cells_after n now.sections) (omega arith)) in
      ap (λ n. stats_line desk.counts.batches desk.counts.fills desk.counts.evictions n) (cells ∙ ap (λ n. sum_by (λ shard. length (cells_after shard now.sections)) (range_with_len 0 n)) many)
      ∙ ap (λ n. stats_line n desk.counts.fills desk.counts.evictions (cells_stored shards now.sections)) keeps.counts.batches
      ∙ ap (λ n. stats_line (length (filter (λ s. is_batch s.purpose) now.sections)) n desk.counts.evictions (cells_stored shards now.sections)) keeps.counts.fills
      ∙ ap (λ n. stats_line (length (filter (λ s. is_batch s.purpose) now.sections)) (entries_that is_fill now.sections) n (cells_stored shards now.sections)) keeps.counts.evictions

  pub counts-tell : (names : List (List ℕ)) (now : Course) → Keeps (session_of service names) desk now → IsServed (session_of service names) now units.Stats (with_reply now told)
  counts-tell names now keeps = ap (with_reply now) (told-is names now keeps)

  -- A reply alone, whatever it tells.
  module _ (unit : ScriptUnit) (text : List ℕ) (tells : (names : List (List ℕ)) (now : Course) → Keeps (session_of service names) desk now → IsServed (session_of service names) now unit (with_reply now text)) where
    pub told-served : WritesAll before after text [] → UnitsServed service desk desk (unit ∷ []) before after
    told-served wrote =
        unit-served desk unit text [] ready.desk refl wrote
        (λ names us now session keeps. reply-served (session_of service names) us unit now desk session keeps before after text (tells names now keeps) wrote)

    pub told-stopped : (stop : UnitStop) → WritesPart before after text [] stop → UnitsStopped service desk (unit ∷ []) before after stop
    told-stopped stop wrote = record {
      stopped = λ names us now session keeps. reply-stopped (session_of service names) us unit now desk session keeps before after text (tells names now keeps) stop wrote ready.count;
      state = wrote.state;
    }
