use Rattle.std.proofs.Common.{ℕ, ◌+◌, List, [], ◌∷◌, ◌++◌, map, ap, subst, ◌∙◌, refl}
use Rattle.journal_text.specs.Spelling.{head_line}
use Rattle.session_meaning.specs.Session.{IsSessionOf}
use Rattle.session_meaning.proofs.Callers.{prefix-same}
use Rattle.session_loop.specs.Serving.{session_of, IsStopped}
use Rattle.session_loop.specs.inner.Scripts.{Wrote}
use Rattle.session_loop.specs.declared.stop.JournalStop.TheVariants.{OutOfMemory}
use Rattle.session_loop.specs.declared.halt.Halt.TheVariants.{Unbegun, Stopped, JournalUnfinished}
use Rattle.session_loop.specs.Stops.{of_begin}
use Rattle.session_loop.specs.Outside.{Seen, seen, Outside, outside, SessionChanges}
use Rattle.session_loop.proofs.Changes.{handed-on, still-open, journal-open, session-unbegun, session-stopped, session-ends, session-unfinished}
use Rattle.session_loop.proofs.Files.{handed-halt, unbegun-later, stopped-later, unfinished-later, head-untouched, wrote-files, wrote-same, unbegun, head-halted}
use Rattle.session_loop.proofs.EmptyStores.{empty-are-stores, empty-cells}
use Rattle.session_loop.proofs.session.serve_session.Goals as goal

-- the journal was not begun
pub returns-in_err-begin_journal-clause-served : goal.returns-in_err-begin_journal-clause-served
returns-in_err-begin_journal-clause-served g c =
    let F = g.F.Files.state in
    let halt = c.in_err-begin_journal.field-0.0 in
    handed-halt c.from_residual.result c.from_residual.ensures.1 (record {
      halted = λ script is. head-halted (session_of c.args.service.now (map (λ name. name.now) c.args.inputs.now ++ c.args.journal.now ∷ [])) c.args.journal.now script (g.Q.Source.state c.args.queries.now).left (g.S.Sink.written c.args.out.now)
          (g.F.Files.made c.args.files.now) (g.F.Files.made c.begin_journal.new.files) (F c.args.files.now).created (F c.begin_journal.new.files).created halt c.requires.files c.in_err-begin_journal.ensures.halted;
      untouched = head-untouched c.args.journal.now (head_line c.args.service.now.sizes.shards c.args.service.now.sizes.cells) (g.Q.Source.state c.args.queries.now).left (g.S.Sink.written c.args.out.now)
          (g.F.Files.made c.args.files.now) (g.F.Files.made c.begin_journal.new.files) (F c.args.files.now).created (F c.begin_journal.new.files).created halt c.in_err-begin_journal.ensures.halted;
    })

-- there are no stores
pub returns-in_err-stores-clause-served : goal.returns-in_err-stores-clause-served
returns-in_err-stores-clause-served g c =
    let setup = session_of c.args.service.now (map (λ name. name.now) c.args.inputs.now ++ c.args.journal.now ∷ []) in
    let head = head_line c.args.service.now.sizes.shards c.args.service.now.sizes.cells in
    handed-halt c.from_residual-in_err-stores.result c.from_residual-in_err-stores.ensures.1 (record {
      halted = λ script is. unbegun setup c.args.journal.now (g.Q.Source.state c.args.queries.now).left head (g.S.Sink.written c.args.out.now) (g.F.Files.made c.args.files.now) (g.F.Files.made c.begin_journal.new.files)
          (g.F.Files.state c.begin_journal.new.files).created (prefix-same head) c.in_ok-begin_journal.ensures.begun
          (ap (λ f. f.created) c.in_ok-begin_journal.ensures.state ∙ ap (λ n. n + 1) c.requires.files);
      untouched = λ is. absurd (unbegun-later OutOfMemory is);
    })

-- there are no names
pub returns-in_err-names-clause-served : goal.returns-in_err-names-clause-served
returns-in_err-names-clause-served g c =
    let setup = session_of c.args.service.now (map (λ name. name.now) c.args.inputs.now ++ c.args.journal.now ∷ []) in
    let head = head_line c.args.service.now.sizes.shards c.args.service.now.sizes.cells in
    handed-halt c.from_residual-in_err-names.result c.from_residual-in_err-names.ensures.1 (record {
      halted = λ script is. unbegun setup c.args.journal.now (g.Q.Source.state c.args.queries.now).left head (g.S.Sink.written c.args.out.now) (g.F.Files.made c.args.files.now) (g.F.Files.made c.begin_journal.new.files)
          (g.F.Files.state c.begin_journal.new.files).created (prefix-same head) c.in_ok-begin_journal.ensures.begun
          (ap (λ f. f.created) c.in_ok-begin_journal.ensures.state ∙ ap (λ n. n + 1) c.requires.files);
      untouched = λ is. absurd (unbegun-later OutOfMemory is);
    })

pub serve_script-requires-clause-fresh : goal.serve_script-requires-clause-fresh
serve_script-requires-clause-fresh g c = λ κs w. record {
  stores = empty-are-stores c.args.service.now c.in_ok-stores.stores.items (record { some = c.requires.shards.0; most = c.requires.shards.1; room = c.requires.cells.0 }) c.in_ok-stores.ensures;
  empty = λ shard within. empty-cells c.args.service.now.sizes.shards c.args.service.now.sizes.cells c.in_ok-stores.stores.items shard c.in_ok-stores.ensures within;
  count = ap (λ f. f.created) c.in_ok-begin_journal.ensures.state ∙ ap (λ n. n + 1) c.requires.files;
  unfinished = journal-open (g.F.Files.state c.args.files.now) (g.F.Files.state c.begin_journal.new.files) c.requires.files c.in_ok-begin_journal.ensures.state;
}

-- the script was not served to its end
pub returns-in_err-left-clause-served : goal.returns-in_err-left-clause-served
returns-in_err-left-clause-served g c =
    let begun : Seen = seen (g.F.Files.state c.begin_journal.new.files) (g.F.Files.made c.begin_journal.new.files) (g.S.Sink.faults c.args.out.now) (g.S.Sink.written c.args.out.now) in
    let served : Seen = seen (g.F.Files.state c.serve_script.new.files) (g.F.Files.made c.serve_script.new.files) (g.S.Sink.faults c.serve_script.new.out) (g.S.Sink.written c.serve_script.new.out) in
    let left = (g.Q.Source.state c.serve_script.new.queries).left in
    let stop = c.in_err-left.field-0.0 in
    let setup = session_of c.args.service.now (map (λ name. name.now) c.args.inputs.now ++ c.args.journal.now ∷ []) in
    handed-halt c.from_residual-in_err-left.result c.from_residual-in_err-left.ensures.1 (record {
      halted = λ script is. wrote-files setup c.args.journal.now (IsStopped setup script left stop) (g.F.Files.made c.args.files.now) begun served c.in_ok-begin_journal.ensures.begun
          (subst (λ (ns : List (List ℕ)). Wrote (session_of c.args.service.now ns) (IsStopped (session_of c.args.service.now ns) script left stop) begun served) c.in_ok-names.ensures (c.in_err-left.ensures.served script is));
      untouched = λ is. absurd (stopped-later stop is);
    })

pub finish_journal-requires : goal.finish_journal-requires
finish_journal-requires g c =
    still-open (g.F.Files.state c.begin_journal.new.files) (g.F.Files.state c.serve_script.new.files) 0 c.in_ok-left.ensures.state.outputs.changed
    (journal-open (g.F.Files.state c.args.files.now) (g.F.Files.state c.begin_journal.new.files) c.requires.files c.in_ok-begin_journal.ensures.state)

pub returns-clause-served : goal.returns-clause-served
returns-clause-served g c script is =
    let begun : Seen = seen (g.F.Files.state c.begin_journal.new.files) (g.F.Files.made c.begin_journal.new.files) (g.S.Sink.faults c.args.out.now) (g.S.Sink.written c.args.out.now) in
    let served : Seen = seen (g.F.Files.state c.serve_script.new.files) (g.F.Files.made c.serve_script.new.files) (g.S.Sink.faults c.serve_script.new.out) (g.S.Sink.written c.serve_script.new.out) in
    let M = g.F.Files.made in
    let F = g.F.Files.state in
    let setup = session_of c.args.service.now (map (λ name. name.now) c.args.inputs.now ++ c.args.journal.now ∷ []) in
    record {
      short = (c.in_ok-left.ensures.served script is).short;
      read = (c.in_ok-left.ensures.served script is).read;
      wrote = wrote-same setup c.args.journal.now (IsSessionOf setup script) begun.written served.written (M c.args.files.now) served.made (M c.finish_journal.new.files) (F c.serve_script.new.files).created (F c.finish_journal.new.files).created
          (wrote-files setup c.args.journal.now (IsSessionOf setup script) (M c.args.files.now) begun served c.in_ok-begin_journal.ensures.begun
          (subst (λ (ns : List (List ℕ)). Wrote (session_of c.args.service.now ns) (IsSessionOf (session_of c.args.service.now ns) script) begun served) c.in_ok-names.ensures (c.in_ok-left.ensures.served script is).wrote))
          c.finish_journal.ensures.made (ap (λ f. f.created) c.in_ok-finish_journal.ensures.state);
    }

-- the journal was not finished
pub returns-in_err-finish_journal-clause-served : goal.returns-in_err-finish_journal-clause-served
returns-in_err-finish_journal-clause-served g c =
    let begun : Seen = seen (g.F.Files.state c.begin_journal.new.files) (g.F.Files.made c.begin_journal.new.files) (g.S.Sink.faults c.args.out.now) (g.S.Sink.written c.args.out.now) in
    let served : Seen = seen (g.F.Files.state c.serve_script.new.files) (g.F.Files.made c.serve_script.new.files) (g.S.Sink.faults c.serve_script.new.out) (g.S.Sink.written c.serve_script.new.out) in
    let M = g.F.Files.made in
    let F = g.F.Files.state in
    let setup = session_of c.args.service.now (map (λ name. name.now) c.args.inputs.now ++ c.args.journal.now ∷ []) in
    handed-halt c.from_residual-in_err-finish_journal.result c.from_residual-in_err-finish_journal.ensures.1 (record {
      halted = λ script is. (
        (c.in_ok-left.ensures.served script is).short,
        (c.in_ok-left.ensures.served script is).read,
        wrote-same setup c.args.journal.now (IsSessionOf setup script) begun.written served.written (M c.args.files.now) served.made (M c.finish_journal.new.files) (F c.serve_script.new.files).created (F c.finish_journal.new.files).created
            (wrote-files setup c.args.journal.now (IsSessionOf setup script) (M c.args.files.now) begun served c.in_ok-begin_journal.ensures.begun
            (subst (λ (ns : List (List ℕ)). Wrote (session_of c.args.service.now ns) (IsSessionOf (session_of c.args.service.now ns) script) begun served) c.in_ok-names.ensures (c.in_ok-left.ensures.served script is).wrote))
            c.finish_journal.ensures.made (ap (λ f. f.created) c.in_err-finish_journal.ensures.state.same),
      );
      untouched = λ is. absurd (unfinished-later is);
    })

-- What it changes of the outside.

pub returns-in_err-begin_journal-clause-state : goal.returns-in_err-begin_journal-clause-state
returns-in_err-begin_journal-clause-state g c =
    let F = g.F.Files.state in
    let N = g.S.Sink.faults in
    let Q = g.Q.Source.state in
    let old : Outside = outside (F c.args.files.now) (N c.args.out.now) (Q c.args.queries.now) in
    let new : Outside = outside (F c.begin_journal.new.files) (N c.args.out.now) (Q c.args.queries.now) in
    let halt = c.in_err-begin_journal.field-0.0 in
    handed-on (SessionChanges old new) (of_begin halt) c.from_residual.result c.from_residual.ensures.1
    (session-unbegun old (F c.begin_journal.new.files) halt c.in_err-begin_journal.ensures.state)

pub returns-in_err-stores-clause-state : goal.returns-in_err-stores-clause-state
returns-in_err-stores-clause-state g c =
    let F = g.F.Files.state in
    let N = g.S.Sink.faults in
    let Q = g.Q.Source.state in
    let old : Outside = outside (F c.args.files.now) (N c.args.out.now) (Q c.args.queries.now) in
    let new : Outside = outside (F c.begin_journal.new.files) (N c.args.out.now) (Q c.args.queries.now) in
    handed-on (SessionChanges old new) (Unbegun OutOfMemory) c.from_residual-in_err-stores.result c.from_residual-in_err-stores.ensures.1
    (record { unread = refl; outputs = record { same = refl; changed = c.in_ok-begin_journal.ensures.state } })

pub returns-in_err-names-clause-state : goal.returns-in_err-names-clause-state
returns-in_err-names-clause-state g c =
    let F = g.F.Files.state in
    let N = g.S.Sink.faults in
    let Q = g.Q.Source.state in
    let old : Outside = outside (F c.args.files.now) (N c.args.out.now) (Q c.args.queries.now) in
    let new : Outside = outside (F c.begin_journal.new.files) (N c.args.out.now) (Q c.args.queries.now) in
    handed-on (SessionChanges old new) (Unbegun OutOfMemory) c.from_residual-in_err-names.result c.from_residual-in_err-names.ensures.1
    (record { unread = refl; outputs = record { same = refl; changed = c.in_ok-begin_journal.ensures.state } })

pub returns-in_err-left-clause-state : goal.returns-in_err-left-clause-state
returns-in_err-left-clause-state g c =
    let F = g.F.Files.state in
    let N = g.S.Sink.faults in
    let Q = g.Q.Source.state in
    let old : Outside = outside (F c.args.files.now) (N c.args.out.now) (Q c.args.queries.now) in
    let new : Outside = outside (F c.serve_script.new.files) (N c.serve_script.new.out) (Q c.serve_script.new.queries) in
    let stop = c.in_err-left.field-0.0 in
    handed-on (SessionChanges old new) (Stopped stop) c.from_residual-in_err-left.result c.from_residual-in_err-left.ensures.1
    (session-stopped old new (F c.begin_journal.new.files) stop c.in_ok-begin_journal.ensures.state c.in_err-left.ensures.state)

pub returns-in_err-finish_journal-clause-state : goal.returns-in_err-finish_journal-clause-state
returns-in_err-finish_journal-clause-state g c =
    let F = g.F.Files.state in
    let N = g.S.Sink.faults in
    let Q = g.Q.Source.state in
    let old : Outside = outside (F c.args.files.now) (N c.args.out.now) (Q c.args.queries.now) in
    let mid : Outside = outside (F c.serve_script.new.files) (N c.serve_script.new.out) (Q c.serve_script.new.queries) in
    let new : Outside = outside (F c.finish_journal.new.files) (N c.serve_script.new.out) (Q c.serve_script.new.queries) in
    handed-on (SessionChanges old new) JournalUnfinished c.from_residual-in_err-finish_journal.result c.from_residual-in_err-finish_journal.ensures.1
    (session-unfinished old mid (F c.begin_journal.new.files) (F c.finish_journal.new.files) c.in_ok-begin_journal.ensures.state c.in_ok-left.ensures.state c.in_err-finish_journal.ensures.state)

pub returns-clause-state : goal.returns-clause-state
returns-clause-state g c =
    let F = g.F.Files.state in
    let N = g.S.Sink.faults in
    let Q = g.Q.Source.state in
    let old : Outside = outside (F c.args.files.now) (N c.args.out.now) (Q c.args.queries.now) in
    let mid : Outside = outside (F c.serve_script.new.files) (N c.serve_script.new.out) (Q c.serve_script.new.queries) in
    session-ends old mid (F c.begin_journal.new.files) (F c.finish_journal.new.files) c.in_ok-begin_journal.ensures.state c.in_ok-left.ensures.state
    c.requires.files (g.met.F.Files.places c.args.files.now) c.in_ok-finish_journal.ensures.state
