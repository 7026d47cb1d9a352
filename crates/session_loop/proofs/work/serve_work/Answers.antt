use Rattle.std.proofs.Common.{subst, ◌∙◌}
use Rattle.std.proofs.lemmas.Result.{err_from_is_err_and}
use Rattle.backsim_io.specs.FilesInMemory.{FileGrows}
use Rattle.journal_text.specs.Spelling.{section_lines}
use Rattle.journal_text.specs.declared.sections.SectionKind.TheVariants.{Batch}
use Rattle.session_loop.specs.Serving.{memo_of}
use Rattle.session_loop.specs.inner.Growing.{FileGrowsPart}
use Rattle.session_loop.specs.declared.halt.JournalHalt.TheVariants.{Stopped}
use Rattle.session_loop.specs.declared.stop.JournalStop.TheVariants.{OutOfMemory}
use Rattle.session_loop.specs.Outside.{JournalStops, JournalChanges}
use Rattle.session_loop.proofs.Changes.{handed-on, journal-open}
use Rattle.session_loop.proofs.EmptyStores.{empty-are-stores, empty-cells}
use Rattle.session_loop.proofs.WorkDone.{work-head-halted, worked, work-stopped}
use Rattle.session_loop.proofs.work.serve_work.Goals as goal

-- the journal was not begun
pub returns-in_err-begin_journal-clause-halted : goal.returns-in_err-begin_journal-clause-halted
returns-in_err-begin_journal-clause-halted g c =
    let p = err_from_is_err_and c.from_residual.result c.from_residual.ensures.1 in
    let F = g.F.Files.state in
    let M = g.F.Files.made in
    rw (p.1, p.2)
    (work-head-halted (memo_of c.args.service.now) c.args.items.now c.args.journal.now (M c.args.files.now) (M c.begin_journal.new.files) (F c.args.files.now).created (F c.begin_journal.new.files).created c.in_err-begin_journal.field-0.0 c.in_err-begin_journal.ensures.halted)

pub answer_batch-requires-clause-stores : goal.answer_batch-requires-clause-stores
answer_batch-requires-clause-stores g c = λ κs w. empty-are-stores c.args.service.now c.in_ok-stores.stores.items (record { some = c.requires.shards.0; most = c.requires.shards.1; room = c.requires.cells.0 }) c.in_ok-stores.ensures

pub write_section-requires-clause-unfinished : goal.write_section-requires-clause-unfinished
write_section-requires-clause-unfinished g c = λ κs w.
    journal-open (g.F.Files.state c.args.files.now) (g.F.Files.state c.begin_journal.new.files) c.requires.files c.in_ok-begin_journal.ensures.state

-- the section was begun
pub returns-in_err-write_section-clause-halted : goal.returns-in_err-write_section-clause-halted
returns-in_err-write_section-clause-halted g c =
    let p = err_from_is_err_and c.from_residual-in_err-write_section.result c.from_residual-in_err-write_section.ensures.1 in
    let done = c.in_ok-done.done in
    let M = g.F.Files.made in
    rw (p.1, p.2)
    (work-stopped (memo_of c.args.service.now) c.args.items.now c.args.journal.now c.in_ok-stores.stores.items done.stores.items
    (λ shard within. empty-cells c.args.service.now.sizes.shards c.args.service.now.sizes.cells c.in_ok-stores.stores.items shard c.in_ok-stores.ensures within) done.replies.items done.lists.items c.in_ok-done.ensures.done
    (M c.args.files.now) (M c.begin_journal.new.files) (M c.write_section.new.files) c.in_ok-begin_journal.ensures.begun
    (subst (λ l. FileGrowsPart (M c.begin_journal.new.files) (M c.write_section.new.files) 0 (section_lines (record { kind = Batch; number = 1; shards = l }))) c.deref.ensures.value c.in_err-write_section.ensures.begun))

pub returns-clause-worked : goal.returns-clause-worked
returns-clause-worked g c =
    let done = c.in_ok-done.done in
    let M = g.F.Files.made in
    worked (memo_of c.args.service.now) c.args.items.now c.args.journal.now c.in_ok-stores.stores.items done.stores.items
    (λ shard within. empty-cells c.args.service.now.sizes.shards c.args.service.now.sizes.cells c.in_ok-stores.stores.items shard c.in_ok-stores.ensures within) done.replies.items done.lists.items c.in_ok-done.ensures.done
    (M c.args.files.now) (M c.begin_journal.new.files) (M c.write_section.new.files) c.in_ok-begin_journal.ensures.begun
    (subst (λ l. FileGrows (M c.begin_journal.new.files) (M c.write_section.new.files) 0 (section_lines (record { kind = Batch; number = 1; shards = l }))) c.deref.ensures.value c.in_ok-write_section.ensures.written)

-- What it changes of the outside.

pub returns-in_err-begin_journal-clause-state : goal.returns-in_err-begin_journal-clause-state
returns-in_err-begin_journal-clause-state g c =
    let F = g.F.Files.state in
    handed-on (JournalChanges (F c.args.files.now) (F c.begin_journal.new.files)) c.in_err-begin_journal.field-0.0 c.from_residual.result c.from_residual.ensures.1 c.in_err-begin_journal.ensures.state

pub returns-in_err-stores-clause-state : goal.returns-in_err-stores-clause-state
returns-in_err-stores-clause-state g c =
    let F = g.F.Files.state in
    handed-on (JournalChanges (F c.args.files.now) (F c.begin_journal.new.files)) (Stopped OutOfMemory) c.from_residual-in_err-stores.result c.from_residual-in_err-stores.ensures.1
    c.in_ok-begin_journal.ensures.state

pub returns-in_err-done-clause-state : goal.returns-in_err-done-clause-state
returns-in_err-done-clause-state g c =
    let F = g.F.Files.state in
    handed-on (JournalChanges (F c.args.files.now) (F c.begin_journal.new.files)) (Stopped OutOfMemory) c.from_residual-in_err-done.result c.from_residual-in_err-done.ensures.1
    c.in_ok-begin_journal.ensures.state

pub returns-in_err-write_section-clause-state : goal.returns-in_err-write_section-clause-state
returns-in_err-write_section-clause-state g c =
    let F = g.F.Files.state in
    let stop = c.in_err-write_section.field-0.0 in
    handed-on (JournalChanges (F c.args.files.now) (F c.write_section.new.files)) (Stopped stop) c.from_residual-in_err-write_section.result c.from_residual-in_err-write_section.ensures.1
    (subst (λ f. JournalStops f (F c.write_section.new.files) stop) c.in_ok-begin_journal.ensures.state c.in_err-write_section.ensures.state)

pub returns-clause-state : goal.returns-clause-state
returns-clause-state g c = c.in_ok-write_section.ensures.state ∙ c.in_ok-begin_journal.ensures.state
