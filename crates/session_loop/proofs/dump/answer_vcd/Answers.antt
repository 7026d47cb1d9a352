use Rattle.std.proofs.Common.{refl, [], sym}
use Rattle.query_lines.specs.declared.unit.Unit.TheVariants.{Vcd}
use Rattle.reply_lines.specs.Replies.{vcd_line}
use Rattle.session_loop.specs.Stops.{of_replies}
use Rattle.session_loop.specs.Outside.{Seen, seen}
use Rattle.session_loop.proofs.Dumping.{refusal-tells}
use Rattle.session_loop.proofs.Growing.{file-none}
use Rattle.session_loop.proofs.Served.{all-written, text-begun, handed-in-place, told-served, told-stopped}
use Rattle.session_loop.proofs.dump.answer_vcd.Goals as goal

-- a part of the reply was written
pub returns-in_err-refuse_dump-in-Some : goal.returns-in_err-refuse_dump-in-Some
returns-in_err-refuse_dump-in-Some g c =
    let file = c.args.file.now in
    let reply = c.in-Some.reply in
    let before : Seen = seen (g.F.Files.state c.args.files.now) (g.F.Files.made c.args.files.now) (g.S.Sink.faults c.args.out.now) (g.S.Sink.written c.args.out.now) in
    let after : Seen = seen (g.F.Files.state c.args.files.now) (g.F.Files.made c.args.files.now) (g.S.Sink.faults c.refuse_dump.new.out) (g.S.Sink.written c.refuse_dump.new.out) in
    handed-in-place _ c.from_residual.result c.from_residual.ensures.1
    (told-stopped c.args.service.now c.args.desk.now before after c.requires.ready (Vcd file) (vcd_line file reply) (refusal-tells c.args.service.now c.args.desk.now before c.requires.ready file reply (sym c.in-Some.ensures))
    (of_replies c.in_err-refuse_dump-in-Some.field-0.0)
    (text-begun before (vcd_line file reply) [] _ _ c.in_err-refuse_dump-in-Some.field-0.0 c.in_err-refuse_dump-in-Some.ensures.state c.in_err-refuse_dump-in-Some.ensures.begun))

-- the reply says why no dump is made
pub returns-in_ok-refuse_dump-in-Some : goal.returns-in_ok-refuse_dump-in-Some
returns-in_ok-refuse_dump-in-Some g c =
    let file = c.args.file.now in
    let reply = c.in-Some.reply in
    let before : Seen = seen (g.F.Files.state c.args.files.now) (g.F.Files.made c.args.files.now) (g.S.Sink.faults c.args.out.now) (g.S.Sink.written c.args.out.now) in
    let after : Seen = seen (g.F.Files.state c.args.files.now) (g.F.Files.made c.args.files.now) (g.S.Sink.faults c.refuse_dump.new.out) (g.S.Sink.written c.refuse_dump.new.out) in
    told-served c.args.service.now c.args.desk.now before after c.requires.ready (Vcd file) (vcd_line file reply) (refusal-tells c.args.service.now c.args.desk.now before c.requires.ready file reply (sym c.in-Some.ensures))
    (all-written before (vcd_line file reply) [] _ _ _ _ refl c.in_ok-refuse_dump-in-Some.ensures.state c.in_ok-refuse_dump-in-Some.ensures.written (file-none (g.F.Files.made c.args.files.now) 0))
