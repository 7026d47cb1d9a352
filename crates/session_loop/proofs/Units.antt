-- Units are served one after another, with all that is promised of them.
use Rattle.std.proofs.Common.{◌≡◌, ℕ, ◌+◌, List, [], ◌∷◌, ◌++◌, length, refl, sym, ap, subst, ◌∙◌, append_assoc, append-nil, arith}
use Rattle.std.specs.Prelude.{All}
use Rattle.std.proofs.lemmas.List.Elements.{All-head, All-tail, All-same}
use Rattle.query_lines.specs.declared.unit.Unit.{Unit as ScriptUnit}
use Rattle.session_loop.specs.declared.desk.Desk.{Desk}
use Rattle.session_loop.specs.declared.service.Service.{Service}
use Rattle.session_loop.specs.declared.stop.UnitStop.{UnitStop}
use Rattle.session_loop.specs.Outside.{Seen}
use Rattle.session_loop.specs.Serving.{memo_of, session_of}
use Rattle.session_loop.specs.inner.Desks.{IsReady}
use Rattle.session_loop.specs.inner.Serving.{UnitsServed, UnitsStopped}
use Rattle.session_loop.proofs.Changes.{calm, outputs-more, dumped-then}
use Rattle.session_loop.proofs.Served.{serves-none, serves-more, stops-more, stops-longer}

pub units-first : {service : Service} (desk : Desk) (before : Seen) → IsReady (memo_of service) desk before.outputs.files → UnitsServed service desk desk [] before before
units-first {service} desk before ready = record {
  ready = ready;
  served = λ names. serves-none (session_of service names) desk before;
  state = calm before.outputs before.outputs refl;
}

pub units-more : {service : Service} (a b c : Desk) (us vs : List ScriptUnit) (before mid after : Seen) → UnitsServed service a b us before mid → UnitsServed service b c vs mid after
    → UnitsServed service a c (us ++ vs) before after
units-more {service} a b c us vs before mid after first next = record {
  ready = next.ready;
  served = λ names. serves-more (session_of service names) a b c us vs before mid after (first.served names) (next.served names);
  state = outputs-more before.outputs mid.outputs after.outputs first.state next.state;
}

pub units-then-stop : {service : Service} (a b : Desk) (us vs : List ScriptUnit) (before mid after : Seen) (stop : UnitStop) → UnitsServed service a b us before mid → UnitsStopped service b vs mid after stop
    → UnitsStopped service a (us ++ vs) before after stop
units-then-stop {service} a b us vs before mid after stop first next = record {
  stopped = λ names. stops-more (session_of service names) a b us vs before mid after stop (first.served names) (next.stopped names);
  state = dumped-then before.outputs mid.outputs after.outputs stop first.state next.state;
}

-- Some first units of all were served, and these are left.
pub record ServesSome (service : Service) (all left : List ScriptUnit) (many : ℕ) (desk later : Desk) (before after : Seen) : Type 0 where
  pub done : List ScriptUnit
  pub all_are : all ≡ done ++ left
  pub count : many ≡ length left
  pub served : UnitsServed service desk later done before after

later-part : (P : ScriptUnit → Type 0) (front last : List ScriptUnit) → All P (front ++ last) → All P last
later-part P [] last all = all
later-part P (unit ∷ front) last all = later-part P front last (All-tail P unit (front ++ last) all)

-- no unit was served
pub some-first : (service : Service) (all left : List ScriptUnit) (many : ℕ) (desk : Desk) (before : Seen) → left ≡ all → many ≡ length all → IsReady (memo_of service) desk before.outputs.files
    → ServesSome service all left many desk desk before before
some-first service all left many desk before same long ready = record {
  done = [];
  all_are = sym same;
  count = long ∙ ap length (sym same);
  served = units-first desk before ready;
}

module _ {service : Service} {all left : List ScriptUnit} {many : ℕ} {a b : Desk} {before mid : Seen} (so_far : ServesSome service all left many a b before mid) where
  -- what holds of all units holds of the next one
  pub some-unit : (P : ScriptUnit → Type 0) (unit : ScriptUnit) (rest : List ScriptUnit) → left ≡ unit ∷ rest → All P all → P unit
  some-unit P unit rest next holds = All-head P unit rest (later-part P so_far.done (unit ∷ rest) (All-same P _ _ (sym (so_far.all_are ∙ ap (λ l. so_far.done ++ l) next)) holds))

  -- the next one was served
  pub some-more : (c : Desk) (unit : ScriptUnit) (rest : List ScriptUnit) (fewer : ℕ) (after : Seen) → left ≡ unit ∷ rest → fewer + 1 ≡ many
      → UnitsServed service b c (unit ∷ []) mid after → ServesSome service all rest fewer a c before after
  some-more c unit rest fewer after next less served = record {
    done = so_far.done ++ unit ∷ [];
    all_are = so_far.all_are ∙ ap (λ l. so_far.done ++ l) next ∙ sym (append_assoc so_far.done (unit ∷ []) rest);
    count = (let long : many ≡ length (unit ∷ rest) = so_far.count ∙ ap length next in omega (arith, long, less));
    served = units-more a b c so_far.done (unit ∷ []) before mid after so_far.served served;
  }

  -- the session broke off in the next one
  pub some-stop : (unit : ScriptUnit) (rest : List ScriptUnit) (after : Seen) (stop : UnitStop) → left ≡ unit ∷ rest → UnitsStopped service b (unit ∷ []) mid after stop → UnitsStopped service a all before after stop
  some-stop unit rest after stop next stopped =
      let at = units-then-stop a b so_far.done (unit ∷ []) before mid after stop so_far.served stopped in
      subst (λ l. UnitsStopped service a l before after stop) (append_assoc so_far.done (unit ∷ []) rest ∙ ap (λ l. so_far.done ++ l) (sym next) ∙ sym so_far.all_are) (record {
        stopped = λ names. stops-longer (session_of service names) a (so_far.done ++ unit ∷ []) rest before after stop (at.stopped names);
        state = at.state;
      })

  -- none is left
  pub some-all : many ≡ 0 → UnitsServed service a b all before mid
  some-all none =
      let done : so_far.done ≡ all = sym (append-nil so_far.done) ∙ ap (λ l. so_far.done ++ l) (sym (empty left (sym so_far.count ∙ none))) ∙ sym so_far.all_are in
      subst (λ l. UnitsServed service a b l before mid) done so_far.served
    where
      empty : (us : List ScriptUnit) → length us ≡ 0 → us ≡ []
      empty [] e = refl
      empty (u ∷ us) e = absurd (omega (arith, e))
