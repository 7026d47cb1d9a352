use Rattle.std.proofs.Common.{◌≡◌, refl, sym, subst, inl, inr, ◌∙◌}
use Rattle.std.specs.Str.{IsUtf8}
use Rattle.backsim_io.specs.Counts.{Grows}
use Rattle.session_loop.specs.Outside.{Seen, seen}
use Rattle.session_loop.specs.inner.Growing.{GrowsPart, IsDumpPart}
use Rattle.session_loop.proofs.Dumping.{names-are-text, makes-file, handed-dump}
use Rattle.session_loop.proofs.Growing.{grows-none}
use Rattle.session_loop.proofs.dump.tell_dump.Goals as goal

-- a name is text
pub unreachable-requires : goal.unreachable-requires
unreachable-requires g c = c.in_default.ensures.cases.0 (subst IsUtf8 (sym c.bytes.ensures) (names-are-text c.args.file.now c.requires.named))

-- a beginning of the file at most was made
pub returns-in_err-write_dump : goal.returns-in_err-write_dump
returns-in_err-write_dump g c =
    let file = c.args.file.now in
    let dump = c.args.dump.now in
    let same : c.in-Ok.name.now ≡ file = c.in-Ok.ensures.cases.0 ∙ c.bytes.ensures in
    let begun = c.in_err-write_dump.ensures.begun in
    let before : Seen = seen (g.F.Files.state c.args.files.now) (g.F.Files.made c.args.files.now) (g.S.Sink.faults c.args.out.now) (g.S.Sink.written c.args.out.now) in
    let after : Seen = seen (g.F.Files.state c.write_dump.new.files) (g.F.Files.made c.write_dump.new.files) (g.S.Sink.faults c.args.out.now) (g.S.Sink.written c.args.out.now) in
    handed-dump file dump.file.items dump.reply.items before after c.from_residual.result c.from_residual.ensures.1 (inl (record {
      more = begun.0;
      begun = subst (λ text. IsDumpPart file text begun.0) c.deref.ensures.value (subst (λ name. IsDumpPart name c.deref.result.now begun.0) same begun.1);
      added = begun.2;
      created = begun.3;
      given = c.in_err-write_dump.field-0.0;
      is = refl;
      state = c.in_err-write_dump.ensures.state;
      unreplied = grows-none (g.S.Sink.written c.args.out.now);
      calm = refl;
    }))

-- the file stands, and a part of the reply was written
pub returns-in_err-write_reply : goal.returns-in_err-write_reply
returns-in_err-write_reply g c =
    let file = c.args.file.now in
    let dump = c.args.dump.now in
    let same : c.in-Ok.name.now ≡ file = c.in-Ok.ensures.cases.0 ∙ c.bytes.ensures in
    let made = g.F.Files.made c.write_dump.new.files in
    let before : Seen = seen (g.F.Files.state c.args.files.now) (g.F.Files.made c.args.files.now) (g.S.Sink.faults c.args.out.now) (g.S.Sink.written c.args.out.now) in
    let after : Seen = seen (g.F.Files.state c.write_dump.new.files) made (g.S.Sink.faults c.write_reply.new.out) (g.S.Sink.written c.write_reply.new.out) in
    handed-dump file dump.file.items dump.reply.items before after c.from_residual-in_err-write_reply.result c.from_residual-in_err-write_reply.ensures.1 (inr (record {
      makes = makes-file before after c.in-Ok.name.now c.deref.result.now file dump.file.items same c.deref.ensures.value c.in_ok-write_dump.ensures.written c.in_ok-write_dump.ensures.state;
      replied = subst (GrowsPart (g.S.Sink.written c.args.out.now) (g.S.Sink.written c.write_reply.new.out)) c.deref-2.ensures.value c.in_err-write_reply.ensures.begun;
      given = c.in_err-write_reply.field-0.0;
      is = refl;
      state = c.in_err-write_reply.ensures.state;
    }))

-- all was written
pub returns : goal.returns
returns g c =
    let file = c.args.file.now in
    let dump = c.args.dump.now in
    let same : c.in-Ok.name.now ≡ file = c.in-Ok.ensures.cases.0 ∙ c.bytes.ensures in
    let before : Seen = seen (g.F.Files.state c.args.files.now) (g.F.Files.made c.args.files.now) (g.S.Sink.faults c.args.out.now) (g.S.Sink.written c.args.out.now) in
    let after : Seen = seen (g.F.Files.state c.write_dump.new.files) (g.F.Files.made c.write_dump.new.files) (g.S.Sink.faults c.write_reply.new.out) (g.S.Sink.written c.write_reply.new.out) in
    record {
      makes = makes-file before after c.in-Ok.name.now c.deref.result.now file dump.file.items same c.deref.ensures.value c.in_ok-write_dump.ensures.written c.in_ok-write_dump.ensures.state;
      replied = subst (Grows (g.S.Sink.written c.args.out.now) (g.S.Sink.written c.write_reply.new.out)) c.deref-2.ensures.value c.in_ok-write_reply.ensures.written;
      calm = c.in_ok-write_reply.ensures.state;
    }
