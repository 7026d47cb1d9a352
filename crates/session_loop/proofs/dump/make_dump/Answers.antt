use Rattle.std.proofs.Common.{refl}
use Rattle.session_loop.specs.declared.desk.Desk.{Desk}
use Rattle.session_loop.specs.Outside.{Seen, seen}
use Rattle.session_loop.proofs.Dumping.{dump-told}
use Rattle.session_loop.proofs.Served.{handed-in-place, units-none}
use Rattle.session_loop.proofs.dump.make_dump.Goals as goal

-- there is no memory, and nothing was written
pub returns-in_err-dump : goal.returns-in_err-dump
returns-in_err-dump g c =
    handed-in-place _ c.from_residual.result c.from_residual.ensures.1
    (units-none (seen (g.F.Files.state c.args.files.now) (g.F.Files.made c.args.files.now) (g.S.Sink.faults c.args.out.now) (g.S.Sink.written c.args.out.now)) c.requires.ready)

pub returns-in_err-push_copy : goal.returns-in_err-push_copy
returns-in_err-push_copy g c =
    handed-in-place _ c.from_residual-in_err-push_copy.result c.from_residual-in_err-push_copy.ensures.1
    (units-none (seen (g.F.Files.state c.args.files.now) (g.F.Files.made c.args.files.now) (g.S.Sink.faults c.args.out.now) (g.S.Sink.written c.args.out.now)) c.requires.ready)

-- its file and its reply
pub returns : goal.returns
returns g c =
    let desk = c.args.desk.now in
    let later : Desk = record { stores = desk.stores; counts = desk.counts; dumps = record { last = desk.dumps.last; own = desk.dumps.own; made = c.push_copy.new.names }; last_site = desk.last_site } in
    let before : Seen = seen (g.F.Files.state c.args.files.now) (g.F.Files.made c.args.files.now) (g.S.Sink.faults c.args.out.now) (g.S.Sink.written c.args.out.now) in
    let after : Seen = seen (g.F.Files.state c.tell_dump.new.files) (g.F.Files.made c.tell_dump.new.files) (g.S.Sink.faults c.tell_dump.new.out) (g.S.Sink.written c.tell_dump.new.out) in
    let dump = c.in_ok-dump.dump in
    dump-told c.args.service.now desk before c.requires.ready c.args.file.now c.in-Some.last c.in-Some.is c.requires.free dump.file.items c.in_ok-dump.ensures.file
    dump.reply.items c.in_ok-dump.ensures.reply later refl refl refl refl c.in_ok-push_copy.ensures refl after c.tell_dump.result c.tell_dump.ensures
