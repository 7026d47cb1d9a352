use Rattle.std.proofs.Common.{Some, List, ℕ, length, refl, ap, sym, subst, ◌∙◌}
use Rattle.std.proofs.lemmas.Slice.Zip.{AllZip-long}
use Rattle.journal_meaning.specs.Sections.{of_batch}
use Rattle.journal_text.specs.Spelling.{section_lines}
use Rattle.journal_text.specs.declared.sections.SectionKind.TheVariants.{Batch}
use Rattle.session_meaning.specs.Replies.{IsReply, replies_text}
use Rattle.session_meaning.specs.Verdicts.{verdict_of}
use Rattle.session_loop.specs.declared.desk.Desk.{Desk}
use Rattle.session_loop.specs.declared.desk.LastBatch.{LastBatch}
use Rattle.session_loop.specs.Outside.{Seen, seen}
use Rattle.session_loop.specs.inner.Telling.{WritesAll, WritesPart}
use Rattle.session_loop.proofs.Served.{handed-stop, units-none, batch-served, batch-stopped}
use Rattle.session_loop.proofs.unit.serve_batch.Goals as goal

-- the batch was not answered
pub returns-in_err-done : goal.returns-in_err-done
returns-in_err-done g c =
    handed-stop c.from_residual.result c.from_residual.ensures.1
    (units-none (seen (g.F.Files.state c.args.files.now) (g.F.Files.made c.args.files.now) (g.S.Sink.faults c.args.out.now) (g.S.Sink.written c.args.out.now)) c.requires.ready)

-- there are as many replies as items
pub tell_batch-requires-clause-replies : goal.tell_batch-requires-clause-replies
tell_batch-requires-clause-replies g c = λ κs w.
    let d = c.args.service.now.design.now in
    let done = c.in_ok-done.done in
    c.in_ok-done.done.replies.ok.0
    ∙ AllZip-long (λ item reply. IsReply d.circuit (of_batch done.lists.items) (verdict_of d item) reply) c.as_slice.result.now done.replies.items c.in_ok-done.ensures.done.right
    ∙ ap length (c.as_slice.ensures ∙ sym c.as_slice-2.ensures)

-- what was told of it was begun
pub returns-in_err-counts : goal.returns-in_err-counts
returns-in_err-counts g c =
    let done = c.in_ok-done.done in
    let items = c.args.items in
    let lists = done.lists.items in
    let told = c.in_err-counts.ensures in
    let lines : List ℕ = section_lines (record { kind = Batch; number = told.counts.sections; shards = lists }) in
    let stop = c.in_err-counts.field-0.0 in
    let before : Seen = seen (g.F.Files.state c.args.files.now) (g.F.Files.made c.args.files.now) (g.S.Sink.faults c.args.out.now) (g.S.Sink.written c.args.out.now) in
    let after : Seen = seen (g.F.Files.state c.tell_batch.new.files) (g.F.Files.made c.tell_batch.new.files) (g.S.Sink.faults c.tell_batch.new.out) (g.S.Sink.written c.tell_batch.new.out) in
    handed-stop c.from_residual-in_err-counts.result c.from_residual-in_err-counts.ensures.1
    (batch-stopped c.args.service.now c.args.desk before after c.requires.ready items c.as_slice.result.now c.as_slice.ensures done.replies.items lists done.stores.items c.in_ok-done.ensures.done told.counts told.counted
    stop (subst (λ l. WritesPart before after (replies_text l done.replies.items) lines stop) c.as_slice-2.ensures told.told))

-- all was told
pub returns : goal.returns
returns g c =
    let done = c.in_ok-done.done in
    let items = c.args.items in
    let lists = done.lists.items in
    let told = c.in_ok-counts.ensures in
    let lines : List ℕ = section_lines (record { kind = Batch; number = told.counts.sections; shards = lists }) in
    let before : Seen = seen (g.F.Files.state c.args.files.now) (g.F.Files.made c.args.files.now) (g.S.Sink.faults c.args.out.now) (g.S.Sink.written c.args.out.now) in
    let after : Seen = seen (g.F.Files.state c.tell_batch.new.files) (g.F.Files.made c.tell_batch.new.files) (g.S.Sink.faults c.tell_batch.new.out) (g.S.Sink.written c.tell_batch.new.out) in
    let last : LastBatch = record { items = items; replies = done.replies } in
    let later : Desk = record { stores = done.stores; counts = c.in_ok-counts.counts; dumps = record { last = Some last; own = c.args.desk.dumps.own; made = c.args.desk.dumps.made }; last_site = c.args.desk.last_site } in
    batch-served c.args.service.now c.args.desk before after c.requires.ready items c.as_slice.result.now c.as_slice.ensures done.replies.items lists done.stores.items c.in_ok-done.ensures.done told.counts told.counted
    later last told.same refl refl refl refl c.requires.ready.desk.site c.requires.within c.requires.named
    (subst (λ l. WritesAll before after (replies_text l done.replies.items) lines) c.as_slice-2.ensures told.told)
