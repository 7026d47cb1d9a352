use Rattle.std.proofs.Common.{refl, []}
use Rattle.query_lines.specs.declared.unit.Unit.TheVariants.{Stats}
use Rattle.session_loop.specs.Stops.{of_replies}
use Rattle.session_loop.specs.Outside.{Seen, seen}
use Rattle.session_loop.proofs.Growing.{file-none}
use Rattle.session_loop.proofs.Served.{all-written, text-begun, handed-stop, told, counts-tell, told-served, told-stopped}
use Rattle.session_loop.proofs.unit.serve_stats.Goals as goal

-- the reply was begun
pub returns-in_err-tell_stats : goal.returns-in_err-tell_stats
returns-in_err-tell_stats g c =
    let service = c.args.service.now in
    let desk = c.args.desk in
    let ready = c.requires.ready in
    let W = g.S.Sink.written in
    let before : Seen = seen (g.F.Files.state c.args.files.now) (g.F.Files.made c.args.files.now) (g.S.Sink.faults c.args.out.now) (W c.args.out.now) in
    let after : Seen = seen (g.F.Files.state c.args.files.now) (g.F.Files.made c.args.files.now) (g.S.Sink.faults c.tell_stats.new.out) (W c.tell_stats.new.out) in
    let text = told service desk before after ready in
    handed-stop c.from_residual.result c.from_residual.ensures.1
    (told-stopped service desk before after ready Stats text (counts-tell service desk before after ready) (of_replies c.in_err-tell_stats.field-0.0)
    (text-begun before text [] _ _ c.in_err-tell_stats.field-0.0 c.in_err-tell_stats.ensures.state c.in_err-tell_stats.ensures.begun))

pub returns : goal.returns
returns g c =
    let service = c.args.service.now in
    let desk = c.args.desk in
    let ready = c.requires.ready in
    let W = g.S.Sink.written in
    let before : Seen = seen (g.F.Files.state c.args.files.now) (g.F.Files.made c.args.files.now) (g.S.Sink.faults c.args.out.now) (W c.args.out.now) in
    let after : Seen = seen (g.F.Files.state c.args.files.now) (g.F.Files.made c.args.files.now) (g.S.Sink.faults c.tell_stats.new.out) (W c.tell_stats.new.out) in
    let text = told service desk before after ready in
    told-served service desk before after ready Stats text (counts-tell service desk before after ready)
    (all-written before text [] _ _ _ _ refl c.in_ok-tell_stats.ensures.state c.in_ok-tell_stats.ensures.written (file-none (g.F.Files.made c.args.files.now) 0))
