use Rattle.std.proofs.Common.{refl}
use Rattle.journal_text.specs.Spelling.{section_lines}
use Rattle.journal_text.specs.declared.sections.SectionKind.TheVariants.{Trim}
use Rattle.session_loop.specs.Outside.{Seen, seen}
use Rattle.session_loop.proofs.Served.{all-written, text-begun, lines-begun, handed-part}
use Rattle.session_loop.proofs.tell.tell_trim.Goals as goal

-- the reply was begun
pub returns-in_err-write_reply : goal.returns-in_err-write_reply
returns-in_err-write_reply g c =
    let W = g.S.Sink.written in
    let before : Seen = seen (g.F.Files.state c.args.files.now) (g.F.Files.made c.args.files.now) (g.S.Sink.faults c.args.out.now) (W c.args.out.now) in
    handed-part c.from_residual.result c.from_residual.ensures.1
    (text-begun before c.args.text.now (section_lines (record { kind = Trim; number = c.args.number; shards = c.args.lists.now })) _ _ c.in_err-write_reply.field-0.0
    c.in_err-write_reply.ensures.state c.in_err-write_reply.ensures.begun)

-- the section was begun
pub returns-in_err-write_section : goal.returns-in_err-write_section
returns-in_err-write_section g c =
    let W = g.S.Sink.written in
    let before : Seen = seen (g.F.Files.state c.args.files.now) (g.F.Files.made c.args.files.now) (g.S.Sink.faults c.args.out.now) (W c.args.out.now) in
    handed-part c.from_residual-in_err-write_section.result c.from_residual-in_err-write_section.ensures.1
    (lines-begun before c.args.text.now (section_lines (record { kind = Trim; number = c.args.number; shards = c.args.lists.now })) _ _ _ _ _ c.in_err-write_section.field-0.0
    c.in_ok-write_reply.ensures.state refl c.in_err-write_section.ensures.state c.in_ok-write_reply.ensures.written c.in_err-write_section.ensures.begun)

-- all was written
pub returns : goal.returns
returns g c =
    let W = g.S.Sink.written in
    let before : Seen = seen (g.F.Files.state c.args.files.now) (g.F.Files.made c.args.files.now) (g.S.Sink.faults c.args.out.now) (W c.args.out.now) in
    all-written before c.args.text.now (section_lines (record { kind = Trim; number = c.args.number; shards = c.args.lists.now })) _ _ _ _ c.in_ok-write_section.ensures.state c.in_ok-write_reply.ensures.state
    c.in_ok-write_reply.ensures.written c.in_ok-write_section.ensures.written
