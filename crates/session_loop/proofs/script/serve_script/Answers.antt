use Rattle.std.proofs.Common.{ℕ, ◌+◌, ◌≤◌, [], length, refl, sym, ap, subst, ◌∙◌, take, drop, arith, length-append, length-drop, length-take}
use Rattle.query_lines.specs.Readers.{HasRead}
use Rattle.session_loop.specs.declared.stop.ScriptStop.TheVariants.{Unit}
use Rattle.session_loop.specs.Serving.{session_of}
use Rattle.session_loop.specs.Outside.{Seen, seen, outside}
use Rattle.session_loop.specs.inner.Outside.{ScriptChanges}
use Rattle.session_loop.specs.inner.Scripts.{ServesScript}
use Rattle.session_loop.proofs.Changes.{handed-on, served-more, served-then, served-unread}
use Rattle.session_loop.proofs.Scripts.{first-desk, has-none, has-taken, has-more, all-served, end-stopped, block-stopped, unread, cut-off, read-some}
use Rattle.session_loop.proofs.script.serve_script.Goals as goal

pub loop-n-init : goal.loop-n-init
loop-n-init g c = record {
  block = refl;
  most = omega arith;
  calm = refl;
  served = has-none c.args.service.now (g.Q.Source.state c.args.queries.now).left (record { reader = c.new.result; taken = 0 }) (first-desk c.args.stores c.args.names c.new-2.result)
      (seen (g.F.Files.state c.args.files.now) (g.F.Files.made c.args.files.now) (g.S.Sink.faults c.args.out.now) (g.S.Sink.written c.args.out.now)) refl
      (subst (λ h. HasRead h [] [] c.new.result) c.horizon.ensures.horizon c.new.ensures)
      (record {
        desk = record { stores = c.requires.fresh.stores; shown = tt; site = tt };
        count = c.requires.fresh.count ∙ ap (λ l. length l + 1) (sym c.new-2.ensures.items);
        unfinished = c.requires.fresh.unfinished;
      });
}

pub serve_bytes-requires-clause-script : goal.serve_bytes-requires-clause-script
serve_bytes-requires-clause-script g c = λ κs w.
    let held = c.loop-n.invariant in
    record {
      limit = omega (arith, held.most, c.min.ensures, length-take {A = ℕ});
      horizon = subst (λ h. h ≤ 1000000) c.horizon.ensures.horizon c.horizon.ensures.limit;
      read = has-taken c.args.service.now (g.Q.Source.state c.args.queries.now).left (g.Q.Source.state c.loop-n.queries).left c.loop-n.script (first-desk c.args.stores c.args.names c.new-2.result) c.loop-n.desk _ _ held.served;
    }

pub serve_bytes-requires-clause-ready : goal.serve_bytes-requires-clause-ready
serve_bytes-requires-clause-ready g c = λ κs w. c.loop-n.invariant.served.served.ready

pub serve_end-requires-clause-script : goal.serve_end-requires-clause-script
serve_end-requires-clause-script g c = λ κs w.
    let held = c.loop-n.invariant in
    record {
      limit = omega (arith, held.most);
      horizon = subst (λ h. h ≤ 1000000) c.horizon.ensures.horizon c.horizon.ensures.limit;
      read = has-taken c.args.service.now (g.Q.Source.state c.args.queries.now).left (g.Q.Source.state c.loop-n.queries).left c.loop-n.script (first-desk c.args.stores c.args.names c.new-2.result) c.loop-n.desk _ _ held.served;
    }

pub serve_end-requires-clause-ready : goal.serve_end-requires-clause-ready
serve_end-requires-clause-ready g c = λ κs w. c.loop-n.invariant.served.served.ready

-- a block more was taken and served
pub loop-n-preserved : goal.loop-n-preserved
loop-n-preserved g c =
    let held = c.loop-n.invariant in
    let read = c.in-Ok.ensures in
    let served = c.in_ok-desk.ensures in
    record {
      block = omega (arith, held.block, length-append {A = ℕ}, length-drop {A = ℕ}, length-take {A = ℕ}, c.min-room.ensures);
      most = omega (arith, held.most, served.taken, c.min.ensures, length-take {A = ℕ});
      calm = ap (λ s. s.faults) read.bytes.0 ∙ held.calm;
      served = has-more c.args.service.now (g.Q.Source.state c.args.queries.now).left (g.Q.Source.state c.loop-n.queries).left c.loop-n.script (first-desk c.args.stores c.args.names c.new-2.result) c.loop-n.desk _ _ held.served (g.Q.Source.state c.read.new.self).left c.serve_bytes.new.self c.in_ok-desk.desk
          c.in-Ok.n c.min.result c.read.new.into (drop c.min-room.result c.loop-n.block) (seen (g.F.Files.state c.serve_bytes.new.files) (g.F.Files.made c.serve_bytes.new.files) (g.S.Sink.faults c.serve_bytes.new.out) (g.S.Sink.written c.serve_bytes.new.out))
          read.bytes.1 (omega (arith, c.min.ensures, c.if-n-left.false)) read.bound.0 served;
    }

-- the next block was not read
pub returns-in_default-clause-served : goal.returns-in_default-clause-served
returns-in_default-clause-served g c script is =
    let before : Seen = seen (g.F.Files.state c.args.files.now) (g.F.Files.made c.args.files.now) (g.S.Sink.faults c.args.out.now) (g.S.Sink.written c.args.out.now) in
    let mid : Seen = seen (g.F.Files.state c.loop-n.files) (g.F.Files.made c.loop-n.files) (g.S.Sink.faults c.loop-n.out) (g.S.Sink.written c.loop-n.out) in
    let small = subst (λ h. h ≤ 1000000) c.horizon.ensures.horizon c.horizon.ensures.limit in
    unread c.args.service.now c.args.stores c.args.names c.new-2.result c.requires.fresh.empty c.new-2.ensures.items (g.Q.Source.state c.args.queries.now).left (g.Q.Source.state c.loop-n.queries).left (g.Q.Source.state c.read.new.self).left c.loop-n.script c.loop-n.desk before mid c.loop-n.invariant.served script is small (ap (λ s. s.left) c.in_default.ensures.failed.same)

-- the script ended, and the session broke off in what was left of it
pub returns-in_err-last-clause-served : goal.returns-in_err-last-clause-served
returns-in_err-last-clause-served g c =
    let before : Seen = seen (g.F.Files.state c.args.files.now) (g.F.Files.made c.args.files.now) (g.S.Sink.faults c.args.out.now) (g.S.Sink.written c.args.out.now) in
    let mid : Seen = seen (g.F.Files.state c.loop-n.files) (g.F.Files.made c.loop-n.files) (g.S.Sink.faults c.loop-n.out) (g.S.Sink.written c.loop-n.out) in
    let after : Seen = seen (g.F.Files.state c.serve_end.new.files) (g.F.Files.made c.serve_end.new.files) (g.S.Sink.faults c.serve_end.new.out) (g.S.Sink.written c.serve_end.new.out) in
    let small = subst (λ h. h ≤ 1000000) c.horizon.ensures.horizon c.horizon.ensures.limit in
    let read = c.in-Ok.ensures in
    handed-on (λ result. ServesScript (session_of c.args.service.now c.args.names.items) (g.Q.Source.state c.args.queries.now).left (g.Q.Source.state c.read.new.self).left result before after) (Unit c.in_err-last.field-0.0) c.from_residual.result c.from_residual.ensures.1
    (λ script is. end-stopped c.args.service.now c.args.stores c.args.names c.new-2.result c.requires.fresh.empty c.new-2.ensures.items (g.Q.Source.state c.args.queries.now).left (g.Q.Source.state c.loop-n.queries).left (g.Q.Source.state c.read.new.self).left c.loop-n.script c.loop-n.desk before mid c.loop-n.invariant.served script is small c.in-Ok.n c.read.new.into after c.in_err-last.field-0.0 read.bytes.1 c.if-n-eq0.true (read.end c.if-n-eq0.true (omega (arith, c.min-room.ensures, c.loop-n.invariant.block, length-take {A = ℕ}))) c.in_err-last.ensures)

-- the script ended, and what was left of it was served
pub returns-then-n-eq0-clause-served : goal.returns-then-n-eq0-clause-served
returns-then-n-eq0-clause-served g c script is =
    let before : Seen = seen (g.F.Files.state c.args.files.now) (g.F.Files.made c.args.files.now) (g.S.Sink.faults c.args.out.now) (g.S.Sink.written c.args.out.now) in
    let mid : Seen = seen (g.F.Files.state c.loop-n.files) (g.F.Files.made c.loop-n.files) (g.S.Sink.faults c.loop-n.out) (g.S.Sink.written c.loop-n.out) in
    let after : Seen = seen (g.F.Files.state c.serve_end.new.files) (g.F.Files.made c.serve_end.new.files) (g.S.Sink.faults c.serve_end.new.out) (g.S.Sink.written c.serve_end.new.out) in
    let read = c.in-Ok.ensures in
    all-served c.args.service.now c.args.stores c.args.names c.new-2.result c.requires.fresh.empty c.new-2.ensures.items (g.Q.Source.state c.args.queries.now).left (g.Q.Source.state c.loop-n.queries).left (g.Q.Source.state c.read.new.self).left c.loop-n.script c.loop-n.desk before mid c.loop-n.invariant.served script is c.in-Ok.n c.read.new.into c.in_ok-last.last after read.bytes.1 c.if-n-eq0.true (read.end c.if-n-eq0.true (omega (arith, c.min-room.ensures, c.loop-n.invariant.block, length-take {A = ℕ}))) c.loop-n.invariant.most c.in_ok-last.ensures

pub returns-then-n-eq0-clause-stores : goal.returns-then-n-eq0-clause-stores
returns-then-n-eq0-clause-stores g c = c.in_ok-last.ensures.served.ready.desk.stores

pub returns-then-n-eq0-clause-at_most : goal.returns-then-n-eq0-clause-at_most
returns-then-n-eq0-clause-at_most g c script is =
    let read = c.in-Ok.ensures in
    read-some c.args.service.now (g.Q.Source.state c.args.queries.now).left (g.Q.Source.state c.loop-n.queries).left c.loop-n.script (first-desk c.args.stores c.args.names c.new-2.result) c.loop-n.desk _ _ c.loop-n.invariant.served script (g.Q.Source.state c.read.new.self).left (take c.in-Ok.n c.read.new.into) 16777217 is read.bytes.1
    (omega (arith, c.min-room.ensures, c.loop-n.invariant.block, c.loop-n.invariant.most, length-take {A = ℕ}, read.bound))

-- the session broke off in a block
pub returns-in_err-desk-clause-served : goal.returns-in_err-desk-clause-served
returns-in_err-desk-clause-served g c =
    let before : Seen = seen (g.F.Files.state c.args.files.now) (g.F.Files.made c.args.files.now) (g.S.Sink.faults c.args.out.now) (g.S.Sink.written c.args.out.now) in
    let mid : Seen = seen (g.F.Files.state c.loop-n.files) (g.F.Files.made c.loop-n.files) (g.S.Sink.faults c.loop-n.out) (g.S.Sink.written c.loop-n.out) in
    let after : Seen = seen (g.F.Files.state c.serve_bytes.new.files) (g.F.Files.made c.serve_bytes.new.files) (g.S.Sink.faults c.serve_bytes.new.out) (g.S.Sink.written c.serve_bytes.new.out) in
    let small = subst (λ h. h ≤ 1000000) c.horizon.ensures.horizon c.horizon.ensures.limit in
    let read = c.in-Ok.ensures in
    handed-on (λ result. ServesScript (session_of c.args.service.now c.args.names.items) (g.Q.Source.state c.args.queries.now).left (g.Q.Source.state c.read.new.self).left result before after) (Unit c.in_err-desk.field-0.0) c.from_residual-in_err-desk.result c.from_residual-in_err-desk.ensures.1
    (λ script is. block-stopped c.args.service.now c.args.stores c.args.names c.new-2.result c.requires.fresh.empty c.new-2.ensures.items (g.Q.Source.state c.args.queries.now).left (g.Q.Source.state c.loop-n.queries).left (g.Q.Source.state c.read.new.self).left c.loop-n.script c.loop-n.desk before mid c.loop-n.invariant.served script is small c.in-Ok.n c.min.result c.read.new.into (drop c.min-room.result c.loop-n.block) after c.in_err-desk.field-0.0
    read.bytes.1 (omega (arith, c.min.ensures)) read.bound.0 (omega (arith, c.min-room.ensures, c.loop-n.invariant.block, length-take {A = ℕ}, read.bound)) c.in_err-desk.ensures)

pub returns-in_err-desk-clause-at_most : goal.returns-in_err-desk-clause-at_most
returns-in_err-desk-clause-at_most g c script is =
    let read = c.in-Ok.ensures in
    read-some c.args.service.now (g.Q.Source.state c.args.queries.now).left (g.Q.Source.state c.loop-n.queries).left c.loop-n.script (first-desk c.args.stores c.args.names c.new-2.result) c.loop-n.desk _ _ c.loop-n.invariant.served script (g.Q.Source.state c.read.new.self).left (take c.in-Ok.n c.read.new.into) 16777217 is read.bytes.1
    (omega (arith, c.min-room.ensures, c.loop-n.invariant.block, c.loop-n.invariant.most, length-take {A = ℕ}, read.bound))

-- the script is too long
pub returns-then-n-left-clause-served : goal.returns-then-n-left-clause-served
returns-then-n-left-clause-served g c script is =
    let before : Seen = seen (g.F.Files.state c.args.files.now) (g.F.Files.made c.args.files.now) (g.S.Sink.faults c.args.out.now) (g.S.Sink.written c.args.out.now) in
    let mid : Seen = seen (g.F.Files.state c.loop-n.files) (g.F.Files.made c.loop-n.files) (g.S.Sink.faults c.loop-n.out) (g.S.Sink.written c.loop-n.out) in
    let after : Seen = seen (g.F.Files.state c.serve_bytes.new.files) (g.F.Files.made c.serve_bytes.new.files) (g.S.Sink.faults c.serve_bytes.new.out) (g.S.Sink.written c.serve_bytes.new.out) in
    let small = subst (λ h. h ≤ 1000000) c.horizon.ensures.horizon c.horizon.ensures.limit in
    let read = c.in-Ok.ensures in
    cut-off c.args.service.now c.args.stores c.args.names c.new-2.result c.requires.fresh.empty c.new-2.ensures.items (g.Q.Source.state c.args.queries.now).left (g.Q.Source.state c.loop-n.queries).left (g.Q.Source.state c.read.new.self).left c.loop-n.script c.loop-n.desk before mid c.loop-n.invariant.served script is small c.serve_bytes.new.self c.in_ok-desk.desk c.in-Ok.n c.min.result c.read.new.into (drop c.min-room.result c.loop-n.block) after
    read.bytes.1 (omega (arith, c.min.ensures, c.if-n-left.true)) read.bound.0 (omega (arith, c.min.ensures, c.if-n-left.true, c.loop-n.invariant.most)) c.in_ok-desk.ensures

pub returns-then-n-left-clause-at_most : goal.returns-then-n-left-clause-at_most
returns-then-n-left-clause-at_most g c script is =
    let read = c.in-Ok.ensures in
    read-some c.args.service.now (g.Q.Source.state c.args.queries.now).left (g.Q.Source.state c.loop-n.queries).left c.loop-n.script (first-desk c.args.stores c.args.names c.new-2.result) c.loop-n.desk _ _ c.loop-n.invariant.served script (g.Q.Source.state c.read.new.self).left (take c.in-Ok.n c.read.new.into) 16777217 is read.bytes.1
    (omega (arith, c.min-room.ensures, c.loop-n.invariant.block, c.loop-n.invariant.most, length-take {A = ℕ}, read.bound))

-- What it changes of the outside.

pub returns-in_default-clause-state : goal.returns-in_default-clause-state
returns-in_default-clause-state g c = served-unread (outside (g.F.Files.state c.args.files.now) (g.S.Sink.faults c.args.out.now) (g.Q.Source.state c.args.queries.now)) (outside (g.F.Files.state c.loop-n.files) (g.S.Sink.faults c.loop-n.out) (g.Q.Source.state c.loop-n.queries)) (g.Q.Source.state c.read.new.self) (record { read = c.loop-n.invariant.calm; outputs = c.loop-n.invariant.served.served.state }) c.in_default.ensures.failed

pub returns-in_err-last-clause-state : goal.returns-in_err-last-clause-state
returns-in_err-last-clause-state g c =
    handed-on (ScriptChanges (outside (g.F.Files.state c.args.files.now) (g.S.Sink.faults c.args.out.now) (g.Q.Source.state c.args.queries.now)) (outside (g.F.Files.state c.serve_end.new.files) (g.S.Sink.faults c.serve_end.new.out) (g.Q.Source.state c.read.new.self))) (Unit c.in_err-last.field-0.0) c.from_residual.result c.from_residual.ensures.1
    (served-then (outside (g.F.Files.state c.args.files.now) (g.S.Sink.faults c.args.out.now) (g.Q.Source.state c.args.queries.now)) (outside (g.F.Files.state c.loop-n.files) (g.S.Sink.faults c.loop-n.out) (g.Q.Source.state c.loop-n.queries)) (outside (g.F.Files.state c.serve_end.new.files) (g.S.Sink.faults c.serve_end.new.out) (g.Q.Source.state c.read.new.self)) c.in_err-last.field-0.0 (record { read = c.loop-n.invariant.calm; outputs = c.loop-n.invariant.served.served.state }) c.in-Ok.ensures.bytes.0 c.in_err-last.ensures.stopped.state)

pub returns-then-n-eq0-clause-state : goal.returns-then-n-eq0-clause-state
returns-then-n-eq0-clause-state g c = served-more (outside (g.F.Files.state c.args.files.now) (g.S.Sink.faults c.args.out.now) (g.Q.Source.state c.args.queries.now)) (outside (g.F.Files.state c.loop-n.files) (g.S.Sink.faults c.loop-n.out) (g.Q.Source.state c.loop-n.queries)) (outside (g.F.Files.state c.serve_end.new.files) (g.S.Sink.faults c.serve_end.new.out) (g.Q.Source.state c.read.new.self)) (record { read = c.loop-n.invariant.calm; outputs = c.loop-n.invariant.served.served.state }) c.in-Ok.ensures.bytes.0 c.in_ok-last.ensures.served.state

pub returns-in_err-desk-clause-state : goal.returns-in_err-desk-clause-state
returns-in_err-desk-clause-state g c =
    handed-on (ScriptChanges (outside (g.F.Files.state c.args.files.now) (g.S.Sink.faults c.args.out.now) (g.Q.Source.state c.args.queries.now)) (outside (g.F.Files.state c.serve_bytes.new.files) (g.S.Sink.faults c.serve_bytes.new.out) (g.Q.Source.state c.read.new.self))) (Unit c.in_err-desk.field-0.0) c.from_residual-in_err-desk.result c.from_residual-in_err-desk.ensures.1
    (served-then (outside (g.F.Files.state c.args.files.now) (g.S.Sink.faults c.args.out.now) (g.Q.Source.state c.args.queries.now)) (outside (g.F.Files.state c.loop-n.files) (g.S.Sink.faults c.loop-n.out) (g.Q.Source.state c.loop-n.queries)) (outside (g.F.Files.state c.serve_bytes.new.files) (g.S.Sink.faults c.serve_bytes.new.out) (g.Q.Source.state c.read.new.self)) c.in_err-desk.field-0.0 (record { read = c.loop-n.invariant.calm; outputs = c.loop-n.invariant.served.served.state }) c.in-Ok.ensures.bytes.0 c.in_err-desk.ensures.state)

pub returns-then-n-left-clause-state : goal.returns-then-n-left-clause-state
returns-then-n-left-clause-state g c = served-more (outside (g.F.Files.state c.args.files.now) (g.S.Sink.faults c.args.out.now) (g.Q.Source.state c.args.queries.now)) (outside (g.F.Files.state c.loop-n.files) (g.S.Sink.faults c.loop-n.out) (g.Q.Source.state c.loop-n.queries)) (outside (g.F.Files.state c.serve_bytes.new.files) (g.S.Sink.faults c.serve_bytes.new.out) (g.Q.Source.state c.read.new.self)) (record { read = c.loop-n.invariant.calm; outputs = c.loop-n.invariant.served.served.state }) c.in-Ok.ensures.bytes.0 c.in_ok-desk.ensures.served.state
