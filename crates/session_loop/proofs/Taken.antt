-- The bytes of a script are taken and served.
use Rattle.std.proofs.Common.{◌≡◌, ℕ, ◌+◌, ◌<◌, ◌≤◌, List, [], ◌∷◌, ◌++◌, length, get_or, take, drop, Result, Ok, Err, refl, sym, ap, subst, ◌∙◌, append_assoc, append-nil, length-append, arith, inl, inr}
use Rattle.std.specs.Prelude.{All, IsErrAnd}
use Rattle.std.proofs.lemmas.List.Elements.{All-same}
use Rattle.std.proofs.lemmas.List.{take_more, take_all, take-append-drop}
use Rattle.query_lines.specs.declared.unit.Unit.{Unit as ScriptUnit}
use Rattle.query_lines.specs.Readers.{Reader, HasRead}
use Rattle.query_lines.specs.Fit.{IsFit}
use Rattle.query_lines.proofs.Callers.{units-fit, given-fit, last-fit}
use Rattle.session_loop.specs.declared.desk.Desk.{Desk}
use Rattle.session_loop.specs.declared.script.Script.{Script}
use Rattle.session_loop.specs.declared.service.Service.{Service}
use Rattle.session_loop.specs.declared.stop.UnitStop.{UnitStop}
use Rattle.session_loop.specs.declared.stop.UnitStop.TheVariants.{OutOfMemory}
use Rattle.session_loop.specs.Outside.{Seen}
use Rattle.session_loop.specs.Serving.{memo_of, session_of}
use Rattle.session_loop.specs.inner.Desks.{IsReady}
use Rattle.session_loop.specs.inner.Scripts.{HasTaken, Reads, Ends, BytesServed, BytesStopped, ServesBytes, EndStopped, ServesEnd}
use Rattle.session_loop.specs.inner.Serving.{UnitsServed, UnitsStopped, ServesUnits}
use Rattle.session_loop.proofs.Changes.{dumped-only, dumped-then}
use Rattle.session_loop.proofs.Served.{stops-none, stops-after, units-none}
use Rattle.session_loop.proofs.Units.{units-first, units-more}

-- more bytes were taken
pub taken-more : (horizon : ℕ) (reader later : Reader) (taken : ℕ) (bytes : List ℕ) (units : List ScriptUnit) → Reads reader later bytes units → HasTaken horizon taken reader
    → HasTaken horizon (taken + length bytes) later
taken-more horizon reader later taken bytes units reads (script, given, read, long) =
    (script ++ bytes, given ++ units, reads horizon script given read, omega (arith, long, length-append script bytes))

-- the units that a byte completes are fit to be served
pub taken-fit : (horizon : ℕ) (reader later : Reader) (taken byte : ℕ) (units : List ScriptUnit) → horizon ≤ 1000000 → Reads reader later (byte ∷ []) units → HasTaken horizon taken reader → All (IsFit horizon) units
taken-fit horizon reader later taken byte units bound reads (script, given, read, long) =
    last-fit horizon given units (given-fit horizon (script ++ byte ∷ []) (given ++ units) later (reads horizon script given read) bound)

-- so are those that are left at the script's end
pub left-fit : (horizon : ℕ) (reader : Reader) (taken : ℕ) (units : List ScriptUnit) → horizon ≤ 1000000 → Ends reader units → HasTaken horizon taken reader → All (IsFit horizon) units
left-fit horizon reader taken units bound whole (script, given, read, long) =
    last-fit horizon given units (All-same (IsFit horizon) _ _ (sym (whole horizon script given read)) (units-fit horizon script bound))

pub reads-none : (reader : Reader) → Reads reader reader [] []
reads-none reader horizon script given read = subst (λ l. HasRead horizon l (given ++ []) reader) (sym (append-nil script)) (subst (λ l. HasRead horizon script l reader) (sym (append-nil given)) read)

pub reads-more : (a b c : Reader) (xs ys : List ℕ) (us vs : List ScriptUnit) → Reads a b xs us → Reads b c ys vs → Reads a c (xs ++ ys) (us ++ vs)
reads-more a b c xs ys us vs first next horizon script given read =
    subst (λ l. HasRead horizon l (given ++ (us ++ vs)) c) (append_assoc script xs ys)
    (subst (λ l. HasRead horizon (script ++ xs ++ ys) l c) (append_assoc given us vs)
    (next horizon (script ++ xs) (given ++ us) (first horizon script given read)))

-- the stop that a result hands on
pub handed-bytes : {service : Service} (old new : Script) {bytes : List ℕ} {desk : Desk} {before after : Seen} {was : UnitStop} (result : Result Desk UnitStop) → IsErrAnd result (λ e. e ≡ was)
    → BytesStopped service old.reader bytes desk before after was → ServesBytes service old new bytes desk result before after
handed-bytes old new (Ok later) handed stopped = absurd handed
handed-bytes {service} old new {bytes} {desk} {before} {after} (Err stop) handed stopped = subst (BytesStopped service old.reader bytes desk before after) (sym handed) stopped

module _ (service : Service) where
  pub takes-none : (script : Script) (desk : Desk) (before : Seen) → IsReady (memo_of service) desk before.outputs.files → BytesServed service script script [] desk desk before before
  takes-none script desk before ready = record { taken = omega arith; units = []; reads = reads-none script.reader; served = units-first desk before ready }

  module _ (a b : Script) (bytes : List ℕ) (i : ℕ) (x y : Desk) (before mid : Seen) (first : BytesServed service a b (take i bytes) x y before mid) where
    -- the reader takes the next byte, and its units are served
    pub takes-next : (c : Script) (units : List ScriptUnit) (z : Desk) (after : Seen) → i < length bytes → c.taken ≡ b.taken + 1 → Reads b.reader c.reader (get_or bytes i 0 ∷ []) units
        → UnitsServed service y z units mid after → BytesServed service a c (take (i + 1) bytes) x z before after
    takes-next c units z after within one reads served =
        subst (λ l. BytesServed service a c l x z before after) (sym (take_more bytes i 0 within)) (record {
          taken = omega (arith, one, first.taken, length-append (take i bytes) (get_or bytes i 0 ∷ []));
          units = first.units ++ units;
          reads = reads-more a.reader b.reader c.reader (take i bytes) (get_or bytes i 0 ∷ []) first.units units first.reads reads;
          served = units-more x y z first.units units before mid after first.served served;
        })

    -- all bytes were taken
    pub takes-all : length bytes ≤ i → BytesServed service a b bytes x y before mid
    takes-all all = subst (λ l. BytesServed service a b l x y before mid) (take_all i bytes all) first

    -- no further unit was given
    pub takes-rest : BytesStopped service a.reader bytes x before mid OutOfMemory
    takes-rest = record {
      front = take i bytes;
      last = [];
      one = omega arith;
      front_is = (drop i bytes, sym (take-append-drop i bytes) ∙ ap (λ l. l ++ drop i bytes) (sym (append-nil (take i bytes))));
      middle = b.reader;
      later = b.reader;
      first = first.units;
      units = [];
      gave = first.reads;
      reads = reads-none b.reader;
      stopped = λ names. let setup = session_of service names in
          stops-after setup x y first.units [] before mid mid OutOfMemory (first.served.served names) (stops-none setup y [] mid first.served.ready.count);
      state = dumped-only before.outputs mid.outputs first.served.state;
    }

    -- the session broke off in the units that a byte gave
    pub takes-stop : (later : Reader) (units : List ScriptUnit) (after : Seen) (stop : UnitStop) → i < length bytes → Reads b.reader later (get_or bytes i 0 ∷ []) units
        → UnitsStopped service y units mid after stop → BytesStopped service a.reader bytes x before after stop
    takes-stop later units after stop within reads stopped = record {
      front = take i bytes;
      last = get_or bytes i 0 ∷ [];
      one = omega arith;
      front_is = (drop (i + 1) bytes, sym (take-append-drop (i + 1) bytes) ∙ ap (λ l. l ++ drop (i + 1) bytes) (take_more bytes i 0 within));
      middle = b.reader;
      later = later;
      first = first.units;
      units = units;
      gave = first.reads;
      reads = reads;
      stopped = λ names. stops-after (session_of service names) x y first.units units before mid after stop (first.served.served names) (stopped.stopped names);
      state = dumped-then before.outputs mid.outputs after.outputs stop first.served.state stopped.state;
    }

  pub ends-so : (reader : Reader) (units : List ScriptUnit) (x : Desk) (before after : Seen) (result : Result Desk UnitStop) → Ends reader units → ServesUnits service x units result before after
      → ServesEnd service reader x result before after
  ends-so reader units x before after (Ok y) whole served = record { units = units; whole = whole; served = served }
  ends-so reader units x before after (Err stop) whole stopped = record { units = units; whole = inl whole; stopped = stopped }

  pub ends-none : (reader : Reader) (x : Desk) (before : Seen) → IsReady (memo_of service) x before.outputs.files → EndStopped service reader x before before OutOfMemory
  ends-none reader x before ready = record { units = []; whole = inr refl; stopped = units-none before ready }
