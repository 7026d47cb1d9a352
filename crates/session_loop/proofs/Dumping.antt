-- What a line that asks for a dump leads to, and how the file of a dump stands.
use Rattle.std.proofs.Common.{◌≡◌, ℕ, zero, suc, ◌+◌, ◌<◌, Bool, true, false, cond, not, ◌&&◌, ◌||◌, ◌==◌, nat_lt, nat_le, List, [], ◌∷◌, ◌++◌, length, map, length-append, Option, Some, None, Result, Ok, Err, All, Contains, refl, sym, ap, ap₂, subst, ◌∙◌, append-nil, arith, ◌⊎◌, inl, inr}
use Rattle.std.specs.Prelude.{IsErrAnd, OnErr, OnOk, IfSome, is_err}
use Rattle.std.specs.List.{list_any, list_all}
use Rattle.std.specs.Str.{bytes_eq, IsUtf8, IsAscii}
use Rattle.std.proofs.lemmas.Bool.{and_parts, leb-true, ne_eqb, eq-eqb, true≢false, false≢true}
use Rattle.std.proofs.lemmas.Bool.Decides.{nat_tests}
use Rattle.std.proofs.lemmas.List.{map-append, length-map}
use Rattle.std.proofs.lemmas.List.Elements.{Contains-append_right, All-head, All-tail, filter-append}
use Rattle.std.proofs.lemmas.List.Folds.{list_any-append}
use Rattle.std.proofs.lemmas.Str.{IsUtf8-from_ascii}
use Rattle.backsim_io.specs.Counts.{Grows}
use Rattle.texts.specs.Made.{Made}
use Rattle.backsim_io.specs.FilesInMemory.{files_with, CreatesIn, FileGrows, SameMade, Places, list_without}
use Rattle.backsim_io.specs.State.{FilesState}
use Rattle.texts.specs.Text.{is_mark, is_hash, is_name, is_name_byte}
use Rattle.query_lines.specs.declared.unit.Unit.TheVariants.{Vcd}
use Rattle.reply_lines.specs.declared.reply.VcdReply.{VcdReply}
use Rattle.reply_lines.specs.declared.reply.VcdReply.TheVariants as replies
use Rattle.reply_lines.specs.Replies.{vcd_line}
use Rattle.vcd_answers.specs.Wires.{Wire}
use Rattle.vcd_answers.specs.Dumps.{vcd_of}
use Rattle.session_meaning.specs.Dumps.{wires_of}
use Rattle.session_meaning.specs.Session.{Setup, Course, IsServed, Served, is_taken, with_reply, with_dump, with_last, with_vcd}
use Rattle.session_meaning.specs.Broken.{IsPrefix, journal_of, AreBegun, IsBroken, IsBrokenInDump}
use Rattle.session_meaning.proofs.Callers.{prefix-same, prefix-more, prefix-behind, begun-same, begun-one, begun-less}
use Rattle.session_loop.specs.declared.desk.Desk.{Desk}
use Rattle.session_loop.specs.declared.desk.Dumps.{Dumps}
use Rattle.session_loop.specs.declared.desk.LastBatch.{LastBatch}
use Rattle.session_loop.specs.declared.stop.RepliesStop.{RepliesStop}
use Rattle.session_loop.specs.declared.stop.DumpStop.{DumpStop}
use Rattle.session_loop.specs.declared.stop.UnitStop.{UnitStop}
use Rattle.session_loop.specs.declared.service.Service.{Service}
use Rattle.unit_answers.specs.Stores.{cells_of, AreStores}
use Rattle.session_loop.specs.Halting.{session_files}
use Rattle.session_loop.specs.Serving.{BreaksAt, memo_of, session_of}
use Rattle.session_loop.specs.Stops.{of_replies, of_dump}
use Rattle.session_loop.specs.Outside.{Seen, seen, UnitsStop, with_file}
use Rattle.session_loop.specs.inner.Desks.{IsCount, IsReady, IsShowable, Keeps, KeepsDumps, Shows, refused_reply, refused_last}
use Rattle.session_loop.specs.inner.Outside.{RepliesStops, DumpStops}
use Rattle.session_loop.specs.inner.Growing.{Adds, GrowsPart, IsDumpPart}
use Rattle.session_loop.specs.inner.Serving.{UnitsServed, UnitsStopped, ServesInPlace}
use Rattle.session_loop.specs.inner.Telling.{MakesFile, WritesDumpPart, WritesDumpReplyPart, TellsDump}
use Rattle.session_loop.proofs.Breaking.{within-map, broken-at, dump-broken-at, breaks-in-reply, breaks-in-dump}
use Rattle.session_loop.proofs.Changes.{of-dump, of-reply, dump-served as dump-changes}

-- ---- calls

-- what a failed call ensures
pub when-failed : {T E X : Type 0} (result : Result T E) → is_err result ≡ true → OnErr result X → X
when-failed (Ok x) is h = absurd (false≢true is)
when-failed (Err e) is h = h

-- what a call ensures that did not fail
pub when-passed : {T E X : Type 0} (result : Result T E) → is_err result ≡ false → OnOk result X → X
when-passed (Ok x) is h = h
when-passed (Err e) is h = absurd (true≢false is)

-- ---- a file more

-- what is written to the last of the files
grown-last : (before : List Made) (name bytes : List ℕ)
    → files_with (before ++ record { name = name; bytes = [] } ∷ []) (length before) bytes ≡ before ++ record { name = name; bytes = bytes } ∷ []
grown-last [] name bytes = refl
grown-last (file ∷ before) name bytes = ap (λ l. file ∷ l) (grown-last before name bytes)

-- a file was created, and these bytes were written to it
pub adds-file : (u v w : List Made → Type 0) (count slot : ℕ) (name bytes : List ℕ) → slot ≡ count → CreatesIn u v name → FileGrows v w slot bytes
    → Adds u w count (record { name = name; bytes = bytes } ∷ [])
adds-file u v w count slot name bytes is creates grows before long was =
    let made : List Made = before ++ record { name = name; bytes = [] } ∷ [] in
    subst w (ap (λ k. files_with made k bytes) (is ∙ sym long) ∙ grown-last before name bytes) (grows made (creates before was))

-- and nothing since
pub adds-then : (u v w : List Made → Type 0) (count : ℕ) (more : List Made) → Adds u v count more → SameMade v w → Adds u w count more
adds-then u v w count more adds same before long was = same (before ++ more) (adds before long was)

-- the place of a file that was just created is one that isn't finished
pub holds-last : (before after : List ℕ) (place slot : ℕ) → after ≡ before ++ place ∷ [] → slot ≡ place → Contains after slot
holds-last before after place slot is same = subst (λ l. Contains l slot) (sym is) (Contains-append_right before (place ∷ []) slot (0, omega arith, sym same))

others-stay : (places : List ℕ) (slot : ℕ) → All (λ k. k < slot) places → list_without places slot ≡ places
others-stay [] slot below = refl
others-stay (k ∷ places) slot below =
    let less : k < slot = All-head (λ i. i < slot) k places below in
    let apart : (k == slot) ≡ false = ne_eqb k slot (λ e. omega arith) in
    rw apart (ap (λ l. k ∷ l) (others-stay places slot (All-tail (λ i. i < slot) k places below)))

last-goes : (slot : ℕ) → list_without (slot ∷ []) slot ≡ []
last-goes slot = let same : (slot == slot) ≡ true = eq-eqb slot slot refl in rw same refl

-- once the file that was created last is finished, those are left that were before
others-left : (places : List ℕ) (count : ℕ) → Places count places → list_without (places ++ count ∷ []) count ≡ places
others-left places count are =
    filter-append (λ k. not (k == count)) places (count ∷ [])
    ∙ ap₂ (λ (a b : List ℕ). a ++ b) (others-stay places count are.0) (last-goes count)
    ∙ append-nil places

-- a file that was created, written and finished leaves nothing unfinished
pub dump-done : (old created written new : FilesState) (slot : ℕ) → Places old.created old.unfinished → slot ≡ old.created → created ≡ with_file old → written ≡ created
    → new ≡ record written { unfinished = list_without written.unfinished slot } → new ≡ record old { created = old.created + 1 }
dump-done old created written new slot places is creates same ends =
    ends
    ∙ ap (λ (f : FilesState). record f { unfinished = list_without f.unfinished slot }) (same ∙ creates)
    ∙ ap (λ (k : ℕ). record old { created = old.created + 1; unfinished = list_without (old.unfinished ++ old.created ∷ []) k }) is
    ∙ ap (λ (l : List ℕ). record old { created = old.created + 1; unfinished = l }) (others-left old.unfinished old.created places)

-- ---- names

name-byte : (b : ℕ) → is_name_byte b ≡ true → b < 128
name-byte b is =
    let unhashed = (and_parts (nat_le 33 b && nat_le b 126 && not (is_mark b)) (not (is_hash b)) is).0 in
    let visible = (and_parts (nat_le 33 b && nat_le b 126) (not (is_mark b)) unhashed).0 in
    let most = leb-true b 126 (and_parts (nat_le 33 b) (nat_le b 126) visible).1 in
    omega (arith, most)

names-are-ascii : (word : List ℕ) → list_all is_name_byte word ≡ true → IsAscii word
names-are-ascii [] is i = omega arith
names-are-ascii (b ∷ word) is zero = name-byte b (and_parts _ _ is).0
names-are-ascii (b ∷ word) is (suc i) = names-are-ascii word (and_parts _ _ is).1 i

-- a name is text
pub names-are-text : (word : List ℕ) → is_name word ≡ true → IsUtf8 word
names-are-text word is = IsUtf8-from_ascii word (names-are-ascii word (and_parts _ _ is).1)

-- ---- what the line leads to

module _ (setup : Setup) where
  -- three dumps are the most
  room-or-full : (n : ℕ) → nat_lt n 3 ≡ not (nat_le 3 n)
  room-or-full n = grind (arith, nat_tests)

  module _ (now : Course) (file : List ℕ) where
    told-room : (wires : List Wire) (full room : Bool) (reply : VcdReply) → room ≡ not full → cond full (Some replies.Full) None ≡ Some reply
        → cond room (with_dump now file wires) (with_reply now (vcd_line file replies.Full)) ≡ with_reply now (vcd_line file reply)
    told-room wires true room reply other is = let same : replies.Full ≡ reply = cc in rw other (ap (λ r. with_reply now (vcd_line file r)) same)
    told-room wires false room reply other is = absurd (cc)

    told-last : (last : Option LastBatch) (waves : Option (List Wire)) (reply : VcdReply) → Shows setup.design last waves → refused_last last (length now.dumps) ≡ Some reply
        → with_last now file waves ≡ with_reply now (vcd_line file reply)
    told-last None None reply shows is = let same : replies.NoBatch ≡ reply = cc in ap (λ r. with_reply now (vcd_line file r)) same
    told-last None (Some wires) reply shows is = absurd shows
    told-last (Some last) None reply shows is = absurd shows
    told-last (Some last) (Some wires) reply shows is =
        told-room wires (nat_le 3 (length now.dumps)) (nat_lt (length now.dumps) 3) reply (room-or-full (length now.dumps)) is

    told-name : (taken : Bool) (last : Option LastBatch) (reply : VcdReply) → Shows setup.design last now.waves
        → cond taken (Some replies.Taken) (refused_last last (length now.dumps)) ≡ Some reply
        → cond taken (with_reply now (vcd_line file replies.Taken)) (with_last now file now.waves) ≡ with_reply now (vcd_line file reply)
    told-name true last reply shows is = let same : replies.Taken ≡ reply = cc in ap (λ r. with_reply now (vcd_line file r)) same
    told-name false last reply shows is = told-last last now.waves reply shows is

    made-room : (wires : List Wire) (full room : Bool) → room ≡ not full → cond full (Some replies.Full) None ≡ None
        → cond room (with_dump now file wires) (with_reply now (vcd_line file replies.Full)) ≡ with_dump now file wires
    made-room wires true room other is = absurd (cc)
    made-room wires false room other is = rw other refl

    made-last : (last : LastBatch) (waves : Option (List Wire)) → Shows setup.design (Some last) waves → refused_last (Some last) (length now.dumps) ≡ None
        → with_last now file waves ≡ with_dump now file (wires_of setup.design last.items last.replies.items)
    made-last last None shows is = absurd shows
    made-last last (Some wires) shows is =
        made-room wires (nat_le 3 (length now.dumps)) (nat_lt (length now.dumps) 3) (room-or-full (length now.dumps)) is
        ∙ ap (with_dump now file) shows

    made-name : (taken : Bool) (last : LastBatch) → Shows setup.design (Some last) now.waves
        → cond taken (Some replies.Taken) (refused_last (Some last) (length now.dumps)) ≡ None
        → cond taken (with_reply now (vcd_line file replies.Taken)) (with_last now file now.waves) ≡ with_dump now file (wires_of setup.design last.items last.replies.items)
    made-name true last shows is = absurd (cc)
    made-name false last shows is = made-last last now.waves shows is

    module _ (dumps : Dumps) (keeps : KeepsDumps setup dumps now) where
      as-many : length dumps.made.items ≡ length now.dumps
      as-many = ap length keeps.made ∙ length-map now.dumps (λ dump. dump.name)

      taken-is : (list_any (bytes_eq file) dumps.own.items || list_any (bytes_eq file) dumps.made.items) ≡ is_taken setup now file
      taken-is =
          ap₂ (λ (a b : List (List ℕ)). list_any (bytes_eq file) a || list_any (bytes_eq file) b) keeps.own keeps.made
          ∙ sym (list_any-append (bytes_eq file) setup.names (map (λ (dump : Made). dump.name) now.dumps))

      refused-is : refused_reply dumps file ≡ cond (is_taken setup now file) (Some replies.Taken) (refused_last dumps.last (length now.dumps))
      refused-is = ap₂ (λ (b : Bool) (n : ℕ). cond b (Some replies.Taken) (refused_last dumps.last n)) taken-is as-many

      -- no dump is made, and the reply says why
      line-refused : (reply : VcdReply) → refused_reply dumps file ≡ Some reply → with_vcd setup now file ≡ with_reply now (vcd_line file reply)
      line-refused reply is = told-name (is_taken setup now file) dumps.last reply keeps.shows (sym refused-is ∙ is)

      -- a dump is made
      line-makes : (last : LastBatch) → dumps.last ≡ Some last → refused_reply dumps file ≡ None
          → with_vcd setup now file ≡ with_dump now file (wires_of setup.design last.items last.replies.items)
      line-makes last has is =
          made-name (is_taken setup now file) last (subst (λ l. Shows setup.design l now.waves) has keeps.shows)
          (ap (λ l. cond (is_taken setup now file) (Some replies.Taken) (refused_last l (length now.dumps))) (sym has) ∙ sym refused-is ∙ is)

-- ---- units

module _ (service : Service) (desk : Desk) (before : Seen) (ready : IsReady (memo_of service) desk before.outputs.files) (file : List ℕ) where
  -- no dump is made, and the reply says why
  pub refusal-tells : (reply : VcdReply) → refused_reply desk.dumps file ≡ Some reply → (names : List (List ℕ)) (now : Course) → Keeps (session_of service names) desk now
      → IsServed (session_of service names) now (Vcd file) (with_reply now (vcd_line file reply))
  refusal-tells reply is names now keeps = sym (line-refused (session_of service names) now file desk.dumps keeps.dumps reply is)

  count-is : (names : List (List ℕ)) (now : Course) → Keeps (session_of service names) desk now → before.outputs.files.created ≡ length now.dumps + 1
  count-is names now keeps = ready.count ∙ ap (λ n. n + 1) (as-many (session_of service names) now [] desk.dumps keeps.dumps)

  -- a dump is made
  module _ (last : LastBatch) (has : desk.dumps.last ≡ Some last) (free : refused_reply desk.dumps file ≡ None)
      (text : List ℕ) (text-is : text ≡ vcd_of (wires_of service.design.now last.items last.replies.items)) where
    abbrev wires : List Wire
    wires = wires_of service.design.now last.items last.replies.items

    abbrev dump : Made
    dump = record { name = file; bytes = text }

    leads : (names : List (List ℕ)) (now : Course) → Keeps (session_of service names) desk now → with_dump now file wires ≡ with_vcd (session_of service names) now file
    leads names now keeps = sym (line-makes (session_of service names) now file desk.dumps keeps.dumps last has free)

    dump-added : (now : Course) → now.dumps ++ dump ∷ [] ≡ (with_dump now file wires).dumps
    dump-added now = ap (λ bytes. now.dumps ++ record { name = file; bytes = bytes } ∷ []) text-is

    go-on : (made : List Made → Type 0) (names : List (List ℕ)) (now : Course) (more : List Made) → Keeps (session_of service names) desk now → Adds before.made made before.outputs.files.created more → (name journal : List ℕ)
        → before.made (session_files name journal now.dumps) → made (session_files name journal (now.dumps ++ more))
    go-on made names now more keeps adds name journal was =
        let stand = count-is names now keeps in
        adds (session_files name journal now.dumps) (omega (arith, stand)) was

    -- the file couldn't be created, written or finished
    dump-stopped : (files : FilesState) (made : List Made → Type 0) (faults : ℕ) (written : List ℕ → Type 0) (more : List Made) (stop : DumpStop) → DumpStops before.outputs.files files stop → IsDumpPart file text more
        → Adds before.made made before.outputs.files.created more → files.created ≡ before.outputs.files.created + length more → Grows before.written written [] → faults ≡ before.outputs.replies
        → UnitsStopped service desk (Vcd file ∷ []) before (seen files made faults written) (of_dump stop)
    dump-stopped files made faults written more stop kind part adds created unreplied calm = record {
      stopped = λ names units now session keeps.
          let setup : Setup = session_of service names in
          record {
            replies = now.out;
            journal = journal_of setup now;
            dumps = now.dumps ++ more;
            broken = within-map units (Vcd file ∷ []) (λ done later. IsBrokenInDump setup done later now.out (journal_of setup now) (now.dumps ++ more)) (BreaksAt setup now.out (journal_of setup now) (now.dumps ++ more) (of_dump stop))
                (breaks-in-dump setup now.out (journal_of setup now) (now.dumps ++ more) stop)
                (dump-broken-at setup units file now (now.dumps ++ more) session (more, refl) (subst (λ (c : Course). AreBegun (now.dumps ++ more) c.dumps) (leads names now keeps) (begun now)));
            replied = ([], sym (append-nil now.out), unreplied);
            recorded = λ name. go-on made names now more keeps adds name (journal_of setup now);
            count = let stand = count-is names now keeps in omega (arith, stand, created, length-append now.dumps more);
          };
      state = subst (λ n. UnitsStop before.outputs (record { files = files; replies = n }) (of_dump stop)) (sym calm) (of-dump before.outputs.replies before.outputs.files files stop kind);
    }
      where
        begun : (now : Course) → AreBegun (now.dumps ++ more) (with_dump now file wires).dumps
        begun now = elim part [
          | inl none ↦ subst (λ l. AreBegun l (now.dumps ++ record { name = file; bytes = vcd_of wires } ∷ [])) (sym (append-nil now.dumps) ∙ ap (λ l. now.dumps ++ l) (sym none))
              (begun-less now.dumps (record { name = file; bytes = vcd_of wires } ∷ []))
          | inr one ↦ subst (λ l. AreBegun (now.dumps ++ l) (now.dumps ++ record { name = file; bytes = vcd_of wires } ∷ [])) (sym one.2)
              (begun-one now.dumps file one.0 (vcd_of wires) (subst (IsPrefix one.0) text-is one.1))
        ]

    -- the file was finished, and the reply is written
    module _ (line : List ℕ) (line-is : line ≡ vcd_line file (replies.Made (length wires))) (files : FilesState) (made : List Made → Type 0) (faults : ℕ) (written : List ℕ → Type 0)
        (adds : Adds before.made made before.outputs.files.created (dump ∷ [])) (is : files ≡ record before.outputs.files { created = before.outputs.files.created + 1 }) where
      -- all of it
      dump-served : (later : Desk) → later.stores ≡ desk.stores → later.counts ≡ desk.counts → later.dumps.last ≡ desk.dumps.last → later.dumps.own ≡ desk.dumps.own
          → later.dumps.made.items ≡ desk.dumps.made.items ++ file ∷ [] → later.last_site ≡ desk.last_site → Grows before.written written line → faults ≡ before.outputs.replies
          → UnitsServed service desk later (Vcd file ∷ []) before (seen files made faults written)
      dump-served later stores counts same own names-are site replied calm = record {
        ready = subst (IsReady (memo_of service) later) (sym is) (record {
          desk = record {
            stores = subst (λ s. AreStores (memo_of service) s.items) (sym stores) ready.desk.stores;
            shown = subst (IsShowable service.design.now) (sym same) ready.desk.shown;
            site = subst (λ s. IfSome s (λ at. at ≡ service.design.now)) (sym site) ready.desk.site;
          };
          count = omega (arith, ready.count, ap length names-are, length-append desk.dumps.made.items (file ∷ []));
          unfinished = ready.unfinished;
        });
        served = λ names units now session keeps.
            let setup : Setup = session_of service names in
            record {
              next = with_dump now file wires;
              session = Served (Vcd file) session (leads names now keeps);
              keeps = record {
                cells = λ shard h. ap (λ l. cells_of l shard) (ap (λ s. s.items) stores) ∙ keeps.cells shard h;
                counts = subst (λ c. IsCount c now.sections) (sym counts) keeps.counts;
                dumps = record {
                  shows = subst (λ l. Shows setup.design l now.waves) (sym same) keeps.dumps.shows;
                  own = ap (λ s. s.items) own ∙ keeps.dumps.own;
                  made = names-are ∙ ap (λ l. l ++ file ∷ []) keeps.dumps.made
                      ∙ sym (map-append (λ (d : Made). d.name) now.dumps (record { name = file; bytes = vcd_of wires } ∷ []));
                };
              };
              replied = (line, ap (λ l. now.out ++ l) (sym line-is), replied);
              recorded = λ name was. subst (λ l. made (session_files name (journal_of setup now) l)) (dump-added now) (go-on made names now (dump ∷ []) keeps adds name (journal_of setup now) was);
            };
        state = dump-changes before.outputs.files files before.outputs.replies faults is calm;
      }

      -- or a part of it
      reply-stopped : (stop : RepliesStop) → RepliesStops before.outputs.replies faults stop → GrowsPart before.written written line → UnitsStopped service desk (Vcd file ∷ []) before (seen files made faults written) (of_replies stop)
      reply-stopped stop cause replied = record {
        stopped = λ names units now session keeps.
            let setup : Setup = session_of service names in
            let next : Course = with_dump now file wires in
            let journal : List ℕ = journal_of setup now in
            let all : List Made = now.dumps ++ dump ∷ [] in
            let stand = count-is names now keeps in
            let created = ap (λ (f : FilesState). f.created) is in
            record {
              replies = now.out ++ replied.0;
              journal = journal;
              dumps = all;
              broken = within-map units (Vcd file ∷ []) (λ done later. IsBroken setup done later (now.out ++ replied.0) journal all) (BreaksAt setup (now.out ++ replied.0) journal all (of_replies stop))
                  (breaks-in-reply setup (now.out ++ replied.0) journal all stop)
                  (broken-at setup units (Vcd file) now next (now.out ++ replied.0) journal all session (leads names now keeps)
                  (prefix-more now.out replied.0) (prefix-same journal)
                  (prefix-behind now.out replied.0 (vcd_line file (replies.Made (length wires))) (subst (IsPrefix replied.0) line-is replied.1)) (prefix-same journal)
                  (dump ∷ [], refl) (subst (AreBegun all) (dump-added now) (begun-same all)) (inr refl) (inr (dump-added now)) (λ o j. dump-added now));
              replied = (replied.0, refl, replied.2);
              recorded = λ name. go-on made names now (dump ∷ []) keeps adds name journal;
              count = omega (arith, stand, created, length-append now.dumps (dump ∷ []));
            };
        state = of-reply before.outputs.files files before.outputs.replies faults stop is cause;
      }

    -- what was told of it, with a desk on which its name is taken
    pub dump-told : {A : Type 0} (line : List ℕ) → line ≡ vcd_line file (replies.Made (length wires)) → (later : Desk) → later.stores ≡ desk.stores → later.counts ≡ desk.counts
        → later.dumps.last ≡ desk.dumps.last → later.dumps.own ≡ desk.dumps.own → later.dumps.made.items ≡ desk.dumps.made.items ++ file ∷ [] → later.last_site ≡ desk.last_site
        → (after : Seen) (result : Result A UnitStop) → TellsDump file text line result before after → ServesInPlace service desk later (Vcd file ∷ []) result before after
    dump-told line line-is later stores counts same own names-are site after (Ok done) wrote =
        dump-served line line-is after.outputs.files after.made after.outputs.replies after.written wrote.makes.added wrote.makes.files later stores counts same own names-are site wrote.replied wrote.calm
    dump-told line line-is later stores counts same own names-are site after (Err stop) (inl wrote) =
        subst (UnitsStopped service desk (Vcd file ∷ []) before after) (sym wrote.is)
        (dump-stopped after.outputs.files after.made after.outputs.replies after.written wrote.more wrote.given wrote.state wrote.begun wrote.added wrote.created wrote.unreplied wrote.calm)
    dump-told line line-is later stores counts same own names-are site after (Err stop) (inr wrote) =
        subst (UnitsStopped service desk (Vcd file ∷ []) before after) (sym wrote.is)
        (reply-stopped line line-is after.outputs.files after.made after.outputs.replies after.written wrote.makes.added wrote.makes.files wrote.given wrote.state wrote.replied)

-- ---- what is written of a dump

module _ (before after : Seen) where
  -- its file was made under a name and with a text that are these
  pub makes-file : (name bytes file text : List ℕ) → name ≡ file → bytes ≡ text → Adds before.made after.made before.outputs.files.created (record { name = name; bytes = bytes } ∷ [])
      → after.outputs.files ≡ record before.outputs.files { created = before.outputs.files.created + 1 } → MakesFile before after file text
  makes-file name bytes file text named same added files = record {
    added = subst (λ (dump : Made). Adds before.made after.made before.outputs.files.created (dump ∷ [])) (ap₂ (λ n b. record { name = n; bytes = b }) named same) added;
    files = files;
  }

-- the stop that a result hands on
pub handed-dump : {A : Type 0} {was : UnitStop} (file text line : List ℕ) (before after : Seen) (result : Result A UnitStop) → IsErrAnd result (λ e. e ≡ was)
    → WritesDumpPart before after file text was ⊎ WritesDumpReplyPart before after file text line was → TellsDump file text line result before after
handed-dump file text line before after (Ok done) handed wrote = absurd handed
handed-dump file text line before after (Err stop) handed wrote = subst (λ s. WritesDumpPart before after file text s ⊎ WritesDumpReplyPart before after file text line s) (sym handed) wrote
