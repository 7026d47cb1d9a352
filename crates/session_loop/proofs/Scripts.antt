-- A script that was served, or in which the session stopped.
use Rattle.std.proofs.Common.{◌≡◌, ℕ, ◌+◌, ◌<◌, ◌≤◌, List, [], ◌++◌, length, take, drop, Option, Some, None, refl, sym, ap, subst, ◌∙◌, append_assoc, append-nil, length-append, length-take, arith, ◌⊎◌, inl, inr}
use Rattle.std.specs.Prelude.{Vec}
use Rattle.std.specs.Global.{Global}
use Rattle.std.proofs.lemmas.List.{take-append-drop, take-append-le, take-take, take_all}
use Rattle.std.specs.Io.KnownBytes.{Consumes, IsAtEnd}
use Rattle.std.proofs.KnownBytes.{Consumes-trans}
use Rattle.texts.specs.Made.{Made}
use Rattle.backsim_io.specs.FilesInMemory.{ConsumesUpTo}
use Rattle.query_lines.specs.declared.unit.Unit.{Unit as ScriptUnit}
use Rattle.query_lines.specs.Reading.{script_units, completed_units}
use Rattle.query_lines.specs.Readers.{HasRead}
use Rattle.query_lines.proofs.Callers.{given-completed}
use Rattle.session_meaning.specs.Session.{Setup, Opened, first_course, IsSession}
use Rattle.session_meaning.specs.Broken.{journal_of, IsCutOff}
use Rattle.session_loop.specs.declared.desk.Desk.{Desk}
use Rattle.session_loop.specs.declared.script.Script.{Script}
use Rattle.session_loop.specs.declared.service.Service.{Service}
use Rattle.session_loop.specs.declared.stop.UnitStop.{UnitStop}
use Rattle.session_loop.specs.declared.stop.ScriptStop.TheVariants.{Unit}
use Rattle.cell_store.specs.Recency.{Contents}
use Rattle.unit_answers.specs.Stores.{cells_of}
use Rattle.session_loop.specs.inner.Desks.{IsReady, Keeps as KeepsDesk, no_counts}
use Rattle.session_loop.specs.Outside.{Seen}
use Rattle.session_loop.specs.inner.Scripts.{HasTaken, BytesServed, BytesStopped, EndServed, EndStopped, HasServed, Wrote, ScriptServed}
use Rattle.session_loop.specs.inner.Serving.{Within, StopsAfter, UnitsServed}
use Rattle.session_loop.specs.Serving.{BreaksAt, BreaksIn, IsServedUntil, IsStopped, memo_of, session_of}
use Rattle.session_loop.proofs.Growing.{goes-trans, files-trans}
use Rattle.session_loop.proofs.Served.{count-of, stops-now}
use Rattle.session_loop.proofs.Units.{units-first, units-more}

-- the source is at its end, and gave nothing more
took-none : (script : List ℕ) (first left next : Option (List ℕ)) (bytes into : List ℕ) (n : ℕ) → first ≡ Some script → Consumes first left bytes → Consumes left next (take n into) → n ≡ 0 → Consumes (Some script) next (bytes ++ [])
took-none script first left next bytes into n is took took_none none =
    Consumes-trans (Some script) left next bytes [] (subst (λ (f : Option (List ℕ)). Consumes f left bytes) is took) (subst (λ (k : ℕ). Consumes left next (take k into)) none took_none)

-- all of a script was taken
all-taken : (script : List ℕ) (first left next : Option (List ℕ)) (bytes into : List ℕ) (n : ℕ) → first ≡ Some script → Consumes first left bytes → Consumes left next (take n into) → n ≡ 0 → IsAtEnd next → script ≡ bytes
all-taken script first left next bytes into n is took took_none none end =
    of_next next (subst (λ (l : List ℕ). Consumes (Some script) next l) (append-nil bytes) (took-none script first left next bytes into n is took took_none none)) end
  where
    of_next : (o : Option (List ℕ)) → Consumes (Some script) o bytes → IsAtEnd o → script ≡ bytes
    of_next None gone end = absurd gone
    of_next (Some rest) all end = all ∙ ap (λ (l : List ℕ). bytes ++ l) end ∙ append-nil bytes

-- a source that had the script gave these bytes, and has the rest
split-script : (script : List ℕ) (first left next : Option (List ℕ)) (bytes more : List ℕ) → first ≡ Some script → Consumes first left bytes → Consumes left next more → (rest : List ℕ) × (script ≡ (bytes ++ more) ++ rest)
split-script script first left next bytes more is took took_more = of_next next (Consumes-trans (Some script) left next bytes more (subst (λ (f : Option (List ℕ)). Consumes f left bytes) is took) took_more)
  where
    of_next : (o : Option (List ℕ)) → Consumes (Some script) o (bytes ++ more) → (rest : List ℕ) × (script ≡ (bytes ++ more) ++ rest)
    of_next None gone = absurd gone
    of_next (Some rest) all = (rest, all)

-- what was taken of a block is the front of what was read
block-front : (n m : ℕ) (into rest : List ℕ) → m ≤ n → n ≤ length into → take n into ≡ take m (into ++ rest) ++ drop m (take n into)
block-front n m into rest small within =
    sym (take-append-drop m (take n into)) ∙ ap (λ (l : List ℕ). l ++ drop m (take n into)) (take-take m n into small ∙ sym (take-append-le m into rest (omega (arith, small, within))))

-- where a session breaks off within the units that a byte completes, or the end, the units before them being whole
breaks-there : (setup : Setup) (script : List ℕ) (left : Option (List ℕ)) (before last ahead : List ℕ) (units more : List ScriptUnit) (says : List ScriptUnit → List ScriptUnit → Type 0)
    → Consumes (Some script) left (before ++ (last ++ ahead)) → length last ≤ 1 → length (last ++ ahead) ≤ 4096 → units ≡ completed_units setup.design.circuit.horizon before
    → (units ++ more ≡ completed_units setup.design.circuit.horizon (before ++ last)) ⊎ ((script ≡ before) × (units ++ more ≡ script_units setup.design.circuit.horizon script))
    → Within units more says → BreaksIn setup script left says
breaks-there setup script left before last ahead units more says read one block whole completed w = record {
  before = before;
  last = last;
  ahead = ahead;
  read = read;
  one = one;
  block = block;
  done = units ++ w.done;
  later = w.later;
  completed = subst (λ l. (l ≡ completed_units setup.design.circuit.horizon (before ++ last)) ⊎ ((script ≡ before) × (l ≡ script_units setup.design.circuit.horizon script)))
      (ap (λ l. units ++ l) w.split ∙ sym (append_assoc units w.done w.later)) completed;
  whole = (w.done, ap (λ l. l ++ w.done) whole);
  broken = w.broken;
}

-- a session begins
abbrev pub first-desk : Vec Contents Global → Vec (List ℕ) Global → Vec (List ℕ) Global → Desk
first-desk stores names none = record { stores = stores; counts = no_counts; dumps = record { last = None; own = names; made = none }; last_site = None }

fresh-desk : (service : Service) (stores : Vec Contents Global) (names none : Vec (List ℕ) Global) → ((shard : ℕ) → shard < service.sizes.shards → cells_of stores.items shard ≡ []) → none.items ≡ []
    → KeepsDesk (session_of service names.items) (first-desk stores names none) first_course
fresh-desk service stores names none empty made = record {
  cells = empty;
  counts = record { sections_are = refl; batches = refl; fills = refl; evictions = refl };
  dumps = record { shows = tt; own = refl; made = made };
}

module _ (service : Service) where
  abbrev horizon : ℕ
  horizon = service.design.now.circuit.horizon

  -- nothing was read
  pub has-none : (first : Option (List ℕ)) (at : Script) (desk : Desk) (before : Seen) → at.taken ≡ 0 → HasRead horizon [] [] at.reader → IsReady (memo_of service) desk before.outputs.files
      → HasServed service first first at desk desk before before
  has-none first at desk before none-taken read ready = record {
    bytes = [];
    long = sym none-taken;
    took = none first;
    units = [];
    read = read;
    served = units-first desk before ready;
  }
    where
      none : (o : Option (List ℕ)) → Consumes o o []
      none None = tt
      none (Some xs) = refl

  module _ (first left : Option (List ℕ)) (at : Script) (desk x : Desk) (before mid : Seen) (so_far : HasServed service first left at desk x before mid) where
    -- what was read so far
    pub has-taken : HasTaken horizon at.taken at.reader
    has-taken = (so_far.bytes, so_far.units, so_far.read, so_far.long)

    -- a block more was taken and served
    pub has-more : (next : Option (List ℕ)) (b : Script) (y : Desk) (n m : ℕ) (into rest : List ℕ) (after : Seen) → Consumes left next (take n into) → m ≡ n → n ≤ length into
        → BytesServed service at b (take m (into ++ rest)) x y mid after → HasServed service first next b desk y before after
    has-more next b y n m into rest after took same within takes =
        let bytes : take m (into ++ rest) ≡ take n into = ap (λ (k : ℕ). take k (into ++ rest)) same ∙ take-append-le n into rest within in
        record {
          bytes = so_far.bytes ++ take m (into ++ rest);
          long = length-append so_far.bytes (take m (into ++ rest)) ∙ ap (λ k. k + length (take m (into ++ rest))) so_far.long ∙ sym takes.taken;
          took = Consumes-trans first left next so_far.bytes (take m (into ++ rest)) so_far.took (subst (Consumes left next) (sym bytes) took);
          units = so_far.units ++ takes.units;
          read = takes.reads horizon so_far.bytes so_far.units so_far.read;
          served = units-more desk x y so_far.units takes.units before mid after so_far.served takes.served;
        }

    -- how much was read
    pub read-some : (script : List ℕ) (next : Option (List ℕ)) (more : List ℕ) (most : ℕ) → first ≡ Some script → Consumes left next more → at.taken + length more ≤ most → ConsumesUpTo (Some script) next most
    read-some script next more most is took small =
        (so_far.bytes ++ more, Consumes-trans (Some script) left next so_far.bytes more (subst (λ f. Consumes f left so_far.bytes) is so_far.took) took, omega (arith, length-append so_far.bytes more, so_far.long, small))

wrote-map : (setup : Setup) (are such : List ℕ → List ℕ → List Made → Type 0) (before after : Seen) → ((replies journal : List ℕ) (dumps : List Made) → are replies journal dumps → such replies journal dumps)
    → Wrote setup are before after → Wrote setup such before after
wrote-map setup are such before after f w =
    record { replies = w.replies; journal = w.journal; dumps = w.dumps; are = f w.replies w.journal w.dumps w.are; replied = w.replied; recorded = w.recorded; count = w.count }

module _ (service : Service) (stores : Vec Contents Global) (names none : Vec (List ℕ) Global) (empty : (shard : ℕ) → shard < service.sizes.shards → cells_of stores.items shard ≡ []) (none-is : none.items ≡ []) where
  abbrev setup : Setup
  setup = session_of service names.items

  abbrev desk : Desk
  desk = first-desk stores names none

  -- units were served from the session's start
  wrote-session : (units : List ScriptUnit) (later : Desk) (before after : Seen) → UnitsServed service desk later units before after → Wrote setup (IsSession setup units) before after
  wrote-session units later before after served =
      let s = served.served names.items [] first_course Opened (fresh-desk service stores names none empty none-is) in
      record {
        replies = s.next.out;
        journal = journal_of setup s.next;
        dumps = s.next.dumps;
        are = record { course = s.next; served = s.session; out_is = refl; journal_is = refl; dumps_are = refl };
        replied = s.replied;
        recorded = s.recorded;
        count = count-of setup later s.next after.outputs.files.created s.keeps served.ready.count;
      }

  -- units were served, and further ones, and then the session broke off
  wrote-broken : (x : Desk) (units first more : List ScriptUnit) (before mid after : Seen) (stop : UnitStop) → UnitsServed service desk x units before mid → StopsAfter setup x first more mid after stop
      → Wrote setup (λ replies journal dumps. Within (units ++ first) more (λ done later. BreaksAt setup replies journal dumps stop done later)) before after
  wrote-broken x units first more before mid after stop served stopped =
      let s = served.served names.items [] first_course Opened (fresh-desk service stores names none empty none-is) in
      let g = stopped units s.next s.session s.keeps in
      record {
        replies = g.replies;
        journal = g.journal;
        dumps = g.dumps;
        are = g.broken;
        replied = goes-trans before.written mid.written after.written [] s.next.out g.replies s.replied g.replied;
        recorded = files-trans before.made mid.made after.made (journal_of setup first_course) (journal_of setup s.next) g.journal [] s.next.dumps g.dumps s.recorded g.recorded;
        count = g.count;
      }

  module _ (first left next : Option (List ℕ)) (at : Script) (x : Desk) (before mid : Seen) (so_far : HasServed service first left at desk x before mid) (script : List ℕ) (is : first ≡ Some script) where
    -- the script ended, and what was left of it was served
    pub all-served : (n : ℕ) (into : List ℕ) (y : Desk) (after : Seen) → Consumes left next (take n into) → n ≡ 0 → IsAtEnd next → at.taken ≤ 16777216 → EndServed service at.reader x y mid after
        → ScriptServed setup script next before after
    all-served n into y after took at-none end most ends =
        let all = all-taken script first left next so_far.bytes into n is so_far.took took at-none end in
        record {
          short = omega (arith, ap length all, so_far.long, most);
          read = end;
          wrote = subst (λ us. Wrote setup (IsSession setup us) before after) (sym (ap (script_units (horizon service)) all ∙ ends.whole (horizon service) so_far.bytes so_far.units so_far.read))
              (wrote-session (so_far.units ++ ends.units) y before after (units-more desk x y so_far.units ends.units before mid after so_far.served ends.served));
        }

    module _ (bound : horizon service ≤ 1000000) where
      -- the script ended, and the session broke off in what was left of it
      pub end-stopped : (n : ℕ) (into : List ℕ) (after : Seen) (stop : UnitStop) → Consumes left next (take n into) → n ≡ 0 → IsAtEnd next → EndStopped service at.reader x mid after stop
          → Wrote setup (IsStopped setup script next (Unit stop)) before after
      end-stopped n into after stop took at-none end ends =
          let all = all-taken script first left next so_far.bytes into n is so_far.took took at-none end in
          let given = given-completed (horizon service) so_far.bytes so_far.units at.reader so_far.read bound in
          wrote-map setup (λ replies journal dumps. Within (so_far.units ++ []) ends.units (λ done later. BreaksAt setup replies journal dumps stop done later)) (IsStopped setup script next (Unit stop)) before after
          (λ replies journal dumps within. breaks-there setup script next so_far.bytes [] [] (so_far.units ++ []) ends.units (λ done later. BreaksAt setup replies journal dumps stop done later)
          (took-none script first left next so_far.bytes into n is so_far.took took at-none) (omega arith) (omega arith) (append-nil so_far.units ∙ given)
          (elim ends.whole [
            | inl whole ↦ inr (all, ap (λ l. l ++ ends.units) (append-nil so_far.units) ∙ sym (ap (script_units (horizon service)) all ∙ whole (horizon service) so_far.bytes so_far.units so_far.read))
            | inr empty ↦ inl (ap (λ us. (so_far.units ++ []) ++ us) empty ∙ append-nil (so_far.units ++ []) ∙ append-nil so_far.units ∙ given ∙ ap (completed_units (horizon service)) (sym (append-nil so_far.bytes)))
          ]) within)
          (wrote-broken x so_far.units [] ends.units before mid after stop so_far.served (stops-now setup x ends.units mid after stop (ends.stopped.stopped names.items)))

      -- the session broke off in a block
      pub block-stopped : (n m : ℕ) (into rest : List ℕ) (after : Seen) (stop : UnitStop) → Consumes left next (take n into) → m ≤ n → n ≤ length into → n ≤ 4096
          → BytesStopped service at.reader (take m (into ++ rest)) x mid after stop → Wrote setup (IsStopped setup script next (Unit stop)) before after
      block-stopped n m into rest after stop took small within block stops =
          let unused = drop m (take n into) in
          let ahead = stops.front_is.0 ++ unused in
          let given : take n into ≡ ((stops.front ++ stops.last) ++ stops.front_is.0) ++ unused =
          block-front n m into rest small within ∙ ap (λ (l : List ℕ). l ++ unused) stops.front_is.1 in
          let gave = stops.gave (horizon service) so_far.bytes so_far.units so_far.read in
          wrote-map setup (λ replies journal dumps. Within (so_far.units ++ stops.first) stops.units (λ done later. BreaksAt setup replies journal dumps stop done later)) (IsStopped setup script next (Unit stop)) before after
          (λ replies journal dumps within. breaks-there setup script next (so_far.bytes ++ stops.front) stops.last ahead (so_far.units ++ stops.first) stops.units (λ done later. BreaksAt setup replies journal dumps stop done later)
          (subst (λ (l : List ℕ). Consumes (Some script) next l) (ap (λ (l : List ℕ). so_far.bytes ++ l) given ∙ regroup so_far.bytes stops.front stops.last stops.front_is.0 unused)
          (Consumes-trans (Some script) left next so_far.bytes (take n into) (subst (λ (f : Option (List ℕ)). Consumes f left so_far.bytes) is so_far.took) took))
          stops.one (few stops.front stops.last stops.front_is.0 unused given)
          (given-completed (horizon service) (so_far.bytes ++ stops.front) (so_far.units ++ stops.first) stops.middle gave bound)
          (inl (given-completed (horizon service) ((so_far.bytes ++ stops.front) ++ stops.last) ((so_far.units ++ stops.first) ++ stops.units) stops.later (stops.reads (horizon service) (so_far.bytes ++ stops.front) (so_far.units ++ stops.first) gave) bound))
          within)
          (wrote-broken x so_far.units stops.first stops.units before mid after stop so_far.served (stops.stopped names.items))
        where
          regroup : (a b c d e : List ℕ) → a ++ (((b ++ c) ++ d) ++ e) ≡ (a ++ b) ++ (c ++ (d ++ e))
          regroup a b c d e = simp append_assoc

          few : (a b c d : List ℕ) → take n into ≡ ((a ++ b) ++ c) ++ d → length (b ++ (c ++ d)) ≤ 4096
          few a b c d whole =
              omega (arith, ap length whole, length-take n into, length-append b (c ++ d), length-append c d, length-append ((a ++ b) ++ c) d, length-append (a ++ b) c, length-append a b, within, block)

      -- the next block was not read
      pub unread : next ≡ left → Wrote setup (IsServedUntil setup script next) before mid
      unread same =
          wrote-map setup (IsSession setup so_far.units) (IsServedUntil setup script next) before mid
          (λ replies journal dumps session. record {
            taken = so_far.bytes;
            took = subst (λ o. Consumes (Some script) o so_far.bytes) (sym same) (subst (λ f. Consumes f left so_far.bytes) is so_far.took);
            served = subst (λ us. IsSession setup us replies journal dumps) (given-completed (horizon service) so_far.bytes so_far.units at.reader so_far.read bound) session;
          })
          (wrote-session so_far.units x before mid so_far.served)

      -- more bytes were read than a script may have
      pub cut-off : (b : Script) (y : Desk) (n m : ℕ) (into rest : List ℕ) (after : Seen) → Consumes left next (take n into) → m < n → n ≤ length into → at.taken + m ≡ 16777216
          → BytesServed service at b (take m (into ++ rest)) x y mid after → Wrote setup (IsCutOff setup script) before after
      cut-off b y n m into rest after took more within limit takes =
          let split = split-script script first left next so_far.bytes (take n into) is so_far.took took in
          let cut = take m (into ++ rest) in
          let script-is : script ≡ (so_far.bytes ++ cut) ++ (drop m (take n into) ++ split.0) =
          split.1 ∙ ap (λ (l : List ℕ). (so_far.bytes ++ l) ++ split.0) (block-front n m into rest (omega (arith, more)) within)
          ∙ regroup so_far.bytes cut (drop m (take n into)) split.0 in
          let long : length cut ≡ m = length-take m (into ++ rest) ∙ omega (arith, more, within, length-append into rest) in
          let whole : length (so_far.bytes ++ cut) ≡ 16777216 = length-append so_far.bytes cut ∙ omega (arith, long, so_far.long, limit) in
          let front : take 16777216 script ≡ so_far.bytes ++ cut =
          ap (take 16777216) script-is ∙ take-append-le 16777216 (so_far.bytes ++ cut) (drop m (take n into) ++ split.0) (omega (arith, whole)) ∙ take-whole (so_far.bytes ++ cut) 16777216 whole in
          let units = so_far.units ++ takes.units in
          let completed : units ≡ completed_units (horizon service) (take 16777216 script) =
          given-completed (horizon service) (so_far.bytes ++ cut) units b.reader (takes.reads (horizon service) so_far.bytes so_far.units so_far.read) bound ∙ ap (completed_units (horizon service)) (sym front) in
          wrote-map setup (IsSession setup units) (IsCutOff setup script) before after
          (λ replies journal dumps session. record {
            long = longer split.0 split.1;
            served = subst (λ us. IsSession setup us replies journal dumps) completed session;
          })
          (wrote-session units y before after (units-more desk x y so_far.units takes.units before mid after so_far.served takes.served))
        where
          regroup : (x y z t : List ℕ) → (x ++ (y ++ z)) ++ t ≡ (x ++ y) ++ (z ++ t)
          regroup x y z t = simp append_assoc

          take-whole : (xs : List ℕ) (k : ℕ) → length xs ≡ k → take k xs ≡ xs
          take-whole xs k h = take_all k xs (omega (arith, h))

          longer : (tail : List ℕ) → script ≡ (so_far.bytes ++ take n into) ++ tail → 16777216 < length script
          longer tail all = omega (arith, ap length all, length-append (so_far.bytes ++ take n into) tail, length-append so_far.bytes (take n into), length-take n into, so_far.long, limit, more, within)
