use Rattle.std.proofs.Common.{List, refl, subst, ◌∙◌}
use Rattle.journal_meaning.specs.declared.Entry.{Entry}
use Rattle.journal_text.specs.Spelling.{section_lines}
use Rattle.journal_text.specs.declared.sections.SectionKind.TheVariants.{Trim}
use Rattle.session_loop.specs.declared.desk.Desk.{Desk}
use Rattle.session_loop.specs.Outside.{Seen, seen}
use Rattle.session_loop.specs.inner.Telling.{WritesAll, WritesPart}
use Rattle.session_loop.proofs.Served.{handed-stop, units-none, trim-served, trim-stopped}
use Rattle.session_loop.proofs.unit.serve_trim.Goals as goal

-- the stores were not trimmed
pub returns-in_err-done : goal.returns-in_err-done
returns-in_err-done g c =
    handed-stop c.from_residual.result c.from_residual.ensures.1
    (units-none (seen (g.F.Files.state c.args.files.now) (g.F.Files.made c.args.files.now) (g.S.Sink.faults c.args.out.now) (g.S.Sink.written c.args.out.now)) c.requires.ready)

-- what was told of it was begun
pub returns-in_err-tell_trim : goal.returns-in_err-tell_trim
returns-in_err-tell_trim g c =
    let done = c.in_ok-done.field-0.done in
    let lists = done.lists.items in
    let counts = c.in_ok-done.field-0.counts in
    let stop = c.in_err-tell_trim.field-0.0 in
    let before : Seen = seen (g.F.Files.state c.args.files.now) (g.F.Files.made c.args.files.now) (g.S.Sink.faults c.args.out.now) (g.S.Sink.written c.args.out.now) in
    let after : Seen = seen (g.F.Files.state c.tell_trim.new.files) (g.F.Files.made c.tell_trim.new.files) (g.S.Sink.faults c.tell_trim.new.out) (g.S.Sink.written c.tell_trim.new.out) in
    let lines : List (List Entry) → List _ = λ l. section_lines (record { kind = Trim; number = counts.sections; shards = l }) in
    handed-stop c.from_residual-in_err-tell_trim.result c.from_residual-in_err-tell_trim.ensures.1
    (trim-stopped c.args.service.now c.args.desk before after c.requires.ready c.args.most lists done.stores.items c.in_ok-done.ensures.done counts c.in_ok-done.ensures.counted
    stop (subst (λ t. WritesPart before after t (lines lists) stop) (c.deref.ensures.value ∙ c.in_ok-done.ensures.text)
    (subst (λ l. WritesPart before after c.deref.result.now (lines l) stop) c.deref-2.ensures.value c.in_err-tell_trim.ensures)))

-- all was told
pub returns : goal.returns
returns g c =
    let done = c.in_ok-done.field-0.done in
    let lists = done.lists.items in
    let counts = c.in_ok-done.field-0.counts in
    let before : Seen = seen (g.F.Files.state c.args.files.now) (g.F.Files.made c.args.files.now) (g.S.Sink.faults c.args.out.now) (g.S.Sink.written c.args.out.now) in
    let after : Seen = seen (g.F.Files.state c.tell_trim.new.files) (g.F.Files.made c.tell_trim.new.files) (g.S.Sink.faults c.tell_trim.new.out) (g.S.Sink.written c.tell_trim.new.out) in
    let lines : List (List Entry) → List _ = λ l. section_lines (record { kind = Trim; number = counts.sections; shards = l }) in
    let later : Desk = record { stores = done.stores; counts = counts; dumps = c.args.desk.dumps; last_site = c.args.desk.last_site } in
    trim-served c.args.service.now c.args.desk before after c.requires.ready c.args.most lists done.stores.items c.in_ok-done.ensures.done counts c.in_ok-done.ensures.counted
    later refl refl refl c.requires.ready.desk.site
    (subst (λ t. WritesAll before after t (lines lists)) (c.deref.ensures.value ∙ c.in_ok-done.ensures.text)
    (subst (λ l. WritesAll before after c.deref.result.now (lines l)) c.deref-2.ensures.value c.in_ok-tell_trim.ensures))
