-- Where a session breaks off.
use Rattle.std.proofs.Common.{◌≡◌, ℕ, ◌+◌, ◌<◌, List, [], ◌∷◌, ◌++◌, length, refl, sym, ap, subst, ◌∙◌, append_assoc, append-nil, length-append, arith, ◌⊎◌, inl, inr}
use Rattle.texts.specs.Made.{Made}
use Rattle.query_lines.specs.declared.unit.Unit.{Unit as ScriptUnit}
use Rattle.query_lines.specs.declared.unit.Unit.TheVariants.{Vcd}
use Rattle.reply_lines.specs.Replies.{vcd_line}
use Rattle.session_meaning.specs.Session.{Setup, Course, IsServed, Session, Served, with_vcd}
use Rattle.session_meaning.specs.Broken.{IsPrefix, journal_of, AreBegun, IsUntouched, IsFirstBegun, IsBroken, IsBrokenInJournal, IsBrokenInDump}
use Rattle.session_meaning.proofs.Callers.{prefix-same, vcd-replies, vcd-journal, vcd-longer}
use Rattle.session_loop.specs.declared.stop.JournalStop.{JournalStop}
use Rattle.session_loop.specs.declared.stop.JournalStop.TheVariants as journal
use Rattle.session_loop.specs.declared.stop.RepliesStop.{RepliesStop}
use Rattle.session_loop.specs.declared.stop.RepliesStop.TheVariants as replies
use Rattle.session_loop.specs.declared.stop.DumpStop.{DumpStop}
use Rattle.session_loop.specs.declared.stop.DumpStop.TheVariants as dump
use Rattle.session_loop.specs.declared.stop.UnitStop.{UnitStop}
use Rattle.session_loop.specs.declared.stop.UnitStop.TheVariants.{RepliesUnwritten, JournalUnwritten, DumpUnmade, DumpUnwritten, DumpUnfinished, OutOfMemory}
use Rattle.session_loop.specs.Stops.{of_replies, of_journal, of_dump}
use Rattle.session_loop.specs.Serving.{BreaksAt}
use Rattle.session_loop.specs.inner.Serving.{Within}

-- ---- within units

-- the first `us` of more units were done
pub within-front : (units us vs : List ScriptUnit) (says : List ScriptUnit → List ScriptUnit → Type 0) → Within (units ++ us) vs says → Within units (us ++ vs) says
within-front units us vs says w = record {
  done = us ++ w.done;
  later = w.later;
  split = ap (λ l. us ++ l) w.split ∙ sym (append_assoc us w.done w.later);
  broken = subst (λ l. says l w.later) (append_assoc units us w.done) w.broken;
}

-- further units come behind them
pub within-longer : (units us more : List ScriptUnit) (says : List ScriptUnit → List ScriptUnit → Type 0)
    → ((done later : List ScriptUnit) → says done later → says done (later ++ more)) → Within units us says → Within units (us ++ more) says
within-longer units us more says longer w = record {
  done = w.done;
  later = w.later ++ more;
  split = ap (λ l. l ++ more) w.split ∙ append_assoc w.done w.later more;
  broken = longer (units ++ w.done) w.later w.broken;
}

pub within-map : (units more : List ScriptUnit) (says such : List ScriptUnit → List ScriptUnit → Type 0) → ((done later : List ScriptUnit) → says done later → such done later)
    → Within units more says → Within units more such
within-map units more says such to w = record { done = w.done; later = w.later; split = w.split; broken = to (units ++ w.done) w.later w.broken }

-- none of them was done
pub within-none : (units more : List ScriptUnit) (says : List ScriptUnit → List ScriptUnit → Type 0) → says units more → Within units more says
within-none units more says holds = record { done = []; later = more; split = refl; broken = subst (λ l. says l more) (sym (append-nil units)) holds }

module _ (setup : Setup) where
  -- ---- a session that breaks off in a unit, or between two

  none-begun : (now : Course) (later : List ScriptUnit) (out journal : List ℕ) (dumps : List Made) → IsUntouched setup now out journal dumps → IsFirstBegun setup now later out journal dumps
  none-begun now [] out journal dumps h = h
  none-begun now (unit ∷ later) out journal dumps h = inl h

  -- nothing of the later units stands
  pub broken-none : (units later : List ScriptUnit) (now : Course) → Session setup units now → IsBroken setup units later now.out (journal_of setup now) now.dumps
  broken-none units later now session = record {
    now = now;
    served = session;
    replied = prefix-same now.out;
    recorded = prefix-same (journal_of setup now);
    dumped = ([], sym (append-nil now.dumps));
    begun = none-begun now later now.out (journal_of setup now) now.dumps (record { out_is = refl; journal_is = refl; dumps_are = refl });
  }

  begun-more : (now : Course) (later more : List ScriptUnit) (out journal : List ℕ) (dumps : List Made) → IsFirstBegun setup now later out journal dumps → IsFirstBegun setup now (later ++ more) out journal dumps
  begun-more now [] more out journal dumps h = none-begun now more out journal dumps h
  begun-more now (unit ∷ later) more out journal dumps h = h

  -- A part of what a unit writes was written. Where all of its replies and of its sections stands, so does its dump.
  pub broken-at : (units : List ScriptUnit) (unit : ScriptUnit) (now next : Course) (out journal : List ℕ) (dumps : List Made) → Session setup units now → IsServed setup now unit next
      → IsPrefix now.out out → IsPrefix (journal_of setup now) journal → IsPrefix out next.out → IsPrefix journal (journal_of setup next)
      → ((more : List Made) × (dumps ≡ now.dumps ++ more)) → AreBegun dumps next.dumps
      → (out ≡ next.out) ⊎ (journal ≡ journal_of setup now) → (out ≡ now.out) ⊎ (dumps ≡ next.dumps)
      → (length out ≡ length next.out → length journal ≡ length (journal_of setup next) → dumps ≡ next.dumps)
      → Within units (unit ∷ []) (λ done later. IsBroken setup done later out journal dumps)
  broken-at units unit now next out journal dumps session served before above replied recorded dumped begun replies_first dumps_first whole = cases replied.0 recorded.0 replied.1 recorded.1
    where
      part : length out + length journal < length next.out + length (journal_of setup next) → Within units (unit ∷ []) (λ done later. IsBroken setup done later out journal dumps)
      part cut = within-none units (unit ∷ []) (λ done later. IsBroken setup done later out journal dumps) (record {
        now = now;
        served = session;
        replied = before;
        recorded = above;
        dumped = dumped;
        begun = inr (record { next = next; served = served; replied = replied; recorded = recorded; dumped = begun; replies_first = replies_first; dumps_first = dumps_first; cut = cut });
      })

      cases : (r s : List ℕ) → next.out ≡ out ++ r → journal_of setup next ≡ journal ++ s → Within units (unit ∷ []) (λ done later. IsBroken setup done later out journal dumps)
      cases [] [] e f =
          let all = e ∙ append-nil out in
          let told = f ∙ append-nil journal in
          record {
            done = unit ∷ [];
            later = [];
            split = refl;
            broken =
                subst (λ o. IsBroken setup (units ++ unit ∷ []) [] o journal dumps) all
                (subst (λ j. IsBroken setup (units ++ unit ∷ []) [] next.out j dumps) told
                (subst (λ d. IsBroken setup (units ++ unit ∷ []) [] next.out (journal_of setup next) d) (sym (whole (sym (ap length all)) (sym (ap length told))))
                (broken-none (units ++ unit ∷ []) [] next (Served unit session served))));
          }
      cases (x ∷ r) s e f = part (omega (arith, ap length e, ap length f, length-append out (x ∷ r), length-append journal s))
      cases [] (x ∷ s) e f = part (omega (arith, ap length e, ap length f, length-append out [], length-append journal (x ∷ s)))

  -- ---- a session that breaks off in a dump

  -- A beginning of the dump that a line asks for stands, and nothing else of what the line writes.
  pub dump-broken-at : (units : List ScriptUnit) (file : List ℕ) (now : Course) (dumps : List Made) → Session setup units now
      → ((more : List Made) × (dumps ≡ now.dumps ++ more)) → AreBegun dumps (with_vcd setup now file).dumps
      → Within units (Vcd file ∷ []) (λ done later. IsBrokenInDump setup done later now.out (journal_of setup now) dumps)
  dump-broken-at units file now dumps session dumped begun =
      let is = vcd-replies setup now file in
      let same = vcd-journal setup now file in
      within-none units (Vcd file ∷ []) (λ done later. IsBrokenInDump setup done later now.out (journal_of setup now) dumps) (record {
        file = file;
        rest = [];
        later_is = refl;
        now = now;
        served = session;
        out_is = refl;
        journal_is = refl;
        dumped = dumped;
        begun = record {
          next = with_vcd setup now file;
          served = refl;
          replied = (vcd_line file is.reply, is.out_is);
          recorded = ([], same ∙ sym (append-nil (journal_of setup now)));
          dumped = begun;
          replies_first = inr refl;
          dumps_first = inl refl;
          cut = omega (arith, vcd-longer setup now file, ap length same);
        };
      })

  -- ---- by the stop

  broken-longer : (replies journal : List ℕ) (dumps : List Made) (done later further : List ScriptUnit) → IsBroken setup done later replies journal dumps → IsBroken setup done (later ++ further) replies journal dumps
  broken-longer replies journal dumps done later further b = record {
    now = b.now;
    served = b.served;
    replied = b.replied;
    recorded = b.recorded;
    dumped = b.dumped;
    begun = begun-more b.now later further replies journal dumps b.begun;
  }

  journal-longer : (replies journal : List ℕ) (dumps : List Made) (done later further : List ScriptUnit) → IsBrokenInJournal setup done later replies journal dumps
      → IsBrokenInJournal setup done (later ++ further) replies journal dumps
  journal-longer replies journal dumps done later further b = record {
    unit = b.unit;
    rest = b.rest ++ further;
    later_is = ap (λ l. l ++ further) b.later_is;
    now = b.now;
    served = b.served;
    next = b.next;
    answered = b.answered;
    out_is = b.out_is;
    dumps_are = b.dumps_are;
    recorded = b.recorded;
    begun = b.begun;
  }

  dump-longer : (replies journal : List ℕ) (dumps : List Made) (done later further : List ScriptUnit) → IsBrokenInDump setup done later replies journal dumps
      → IsBrokenInDump setup done (later ++ further) replies journal dumps
  dump-longer replies journal dumps done later further b = record {
    file = b.file;
    rest = b.rest ++ further;
    later_is = ap (λ l. l ++ further) b.later_is;
    now = b.now;
    served = b.served;
    out_is = b.out_is;
    journal_is = b.journal_is;
    dumped = b.dumped;
    begun = b.begun;
  }

  -- further units come behind those in which it breaks off
  pub breaks-longer : (replies journal : List ℕ) (dumps : List Made) (stop : UnitStop) (done later further : List ScriptUnit) → BreaksAt setup replies journal dumps stop done later
      → BreaksAt setup replies journal dumps stop done (later ++ further)
  breaks-longer replies journal dumps RepliesUnwritten done later further broken = broken-longer replies journal dumps done later further broken
  breaks-longer replies journal dumps JournalUnwritten done later further broken = journal-longer replies journal dumps done later further broken
  breaks-longer replies journal dumps DumpUnmade done later further broken = dump-longer replies journal dumps done later further broken
  breaks-longer replies journal dumps DumpUnwritten done later further broken = dump-longer replies journal dumps done later further broken
  breaks-longer replies journal dumps DumpUnfinished done later further broken = dump-longer replies journal dumps done later further broken
  breaks-longer replies journal dumps OutOfMemory done later further broken = broken-longer replies journal dumps done later further broken

  -- a stop of the replies breaks off in any unit
  pub breaks-in-reply : (out journal : List ℕ) (dumps : List Made) (stop : RepliesStop) (done later : List ScriptUnit) → IsBroken setup done later out journal dumps
      → BreaksAt setup out journal dumps (of_replies stop) done later
  breaks-in-reply out journal dumps replies.Unwritten done later broken = broken
  breaks-in-reply out journal dumps replies.OutOfMemory done later broken = broken

  -- a stop of the journal breaks off behind all replies of a unit, and a lack of memory in any place
  pub breaks-in-journal : (units more : List ScriptUnit) (out text : List ℕ) (dumps : List Made) (stop : JournalStop)
      → IsBrokenInJournal setup units more out text dumps → Within units more (λ done later. IsBroken setup done later out text dumps)
      → Within units more (BreaksAt setup out text dumps (of_journal stop))
  breaks-in-journal units more out text dumps journal.Unwritten late broken = within-none units more (BreaksAt setup out text dumps JournalUnwritten) late
  breaks-in-journal units more out text dumps journal.OutOfMemory late broken =
      within-map units more (λ done later. IsBroken setup done later out text dumps) (BreaksAt setup out text dumps OutOfMemory) (λ done later b. b) broken

  -- a stop of a dump breaks off before its reply
  pub breaks-in-dump : (replies journal : List ℕ) (dumps : List Made) (stop : DumpStop) (done later : List ScriptUnit)
      → IsBrokenInDump setup done later replies journal dumps → BreaksAt setup replies journal dumps (of_dump stop) done later
  breaks-in-dump replies journal dumps dump.Unmade done later broken = broken
  breaks-in-dump replies journal dumps dump.Unwritten done later broken = broken
  breaks-in-dump replies journal dumps dump.Unfinished done later broken = broken
