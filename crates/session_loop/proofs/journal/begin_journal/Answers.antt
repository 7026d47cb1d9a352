use Rattle.std.proofs.Common.{sym, subst, ◌∙◌}
use Rattle.session_loop.specs.declared.halt.JournalHalt.TheVariants.{Stopped}
use Rattle.session_loop.specs.declared.stop.JournalStop.TheVariants.{OutOfMemory}
use Rattle.session_loop.specs.Outside.{JournalStops, JournalChanges}
use Rattle.session_loop.proofs.Dumping.{when-passed}
use Rattle.session_loop.proofs.Changes.{handed-on, journal-open}
use Rattle.session_loop.proofs.journal.begin_journal.Goals as goal

-- the head has no text
pub returns-in_err-head-clause-state : goal.returns-in_err-head-clause-state
returns-in_err-head-clause-state g c =
    let F = g.F.Files.state in
    let passed = sym c.is_err.ensures.value ∙ c.if-is_err.false in
    handed-on (JournalChanges (F c.args.files.now) (F c.create.new.self)) (Stopped OutOfMemory) c.from_residual.result c.from_residual.ensures.1
    (when-passed c.create.result passed c.create.ensures.creates)

-- the journal that was created is not finished
pub write_piece-requires : goal.write_piece-requires
write_piece-requires g c =
    let F = g.F.Files.state in
    let passed = sym c.is_err.ensures.value ∙ c.if-is_err.false in
    record { unfinished = journal-open (F c.args.files.now) (F c.create.new.self) c.requires (when-passed c.create.result passed c.create.ensures.creates) }

-- the head was begun
pub returns-in_err-write_piece-clause-state : goal.returns-in_err-write_piece-clause-state
returns-in_err-write_piece-clause-state g c =
    let F = g.F.Files.state in
    let stop = c.in_err-write_piece.field-0.0 in
    let passed = sym c.is_err.ensures.value ∙ c.if-is_err.false in
    handed-on (JournalChanges (F c.args.files.now) (F c.write_piece.new.files)) (Stopped stop) c.from_residual-in_err-write_piece.result c.from_residual-in_err-write_piece.ensures.1
    (subst (λ f. JournalStops f (F c.write_piece.new.files) stop) (when-passed c.create.result passed c.create.ensures.creates) c.in_err-write_piece.ensures.state)

-- it was written
pub returns-clause-state : goal.returns-clause-state
returns-clause-state g c =
    let passed = sym c.is_err.ensures.value ∙ c.if-is_err.false in
    c.in_ok-write_piece.ensures.state ∙ when-passed c.create.result passed c.create.ensures.creates
