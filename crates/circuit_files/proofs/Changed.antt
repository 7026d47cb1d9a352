-- What reading one file after another changes.
use Rattle.std.proofs.Common.{◌≡◌, ℕ, ◌+◌, ◌≤◌, List, Option, Result, Ok, Err, IfErr, sym, subst, ap, ◌∙◌, arith}
use Rattle.backsim_io.specs.State.{FilesState, FileFault, Rises}
use Rattle.circuit_files.specs.Changes.{Opened, OpenedThenMissing, OpenedThenUnread, StopChanges, DesignChanges}
use Rattle.circuit_files.specs.Stops.{before, IsQuiet}
use Rattle.circuit_files.specs.inner.Reading.{IsAt, TextStops}
use Rattle.circuit_files.specs.declared.refusal.CircuitFile.{CircuitFile}
use Rattle.circuit_files.specs.declared.refusal.CircuitFile.TheVariants.{Netlist, Timing, Stimulus}
use Rattle.circuit_files.specs.declared.stop.FilesStop.{FilesStop}
use Rattle.circuit_files.specs.declared.stop.FilesStop.TheVariants.{Refused, NotOpened, Unread, OutOfMemory}

pub opened-none : (s : FilesState) → s.started ≡ 0 → Opened 0 s s
opened-none s none = ap (λ (n : ℕ). record s { started = n; left = s.left }) none

pub opened-later : (m n : ℕ) (first old new : FilesState) → Opened m first old → Opened n old new → Opened n first new
opened-later m n first old new was then = then ∙ ap (λ (s : FilesState). record s { started = n; left = new.left }) was

-- the files hold what they held
pub held-same : (n : ℕ) (old new : FilesState) → Opened n old new → (name : List ℕ) → new.bytes name ≡ old.bytes name
held-same n old new opened name = ap (λ (s : FilesState). s.bytes name) opened

pub missing-later : (n : ℕ) (first old new : FilesState) → Opened n first old → FileFault old new → OpenedThenMissing n first new
missing-later n first old new was fault =
    let still : old.left ≡ new.left = sym (ap (λ (s : FilesState). s.left) fault.same) in
    record {
      same = fault.same ∙ ap (λ (s : FilesState). record s { file_faults = new.file_faults }) was ∙ ap (λ (l : Option (List ℕ)). record first { started = n; left = l; file_faults = new.file_faults }) still;
      rises = subst (λ (k : ℕ). Rises k new.file_faults) (ap (λ (s : FilesState). s.file_faults) was) fault.rises;
    }

pub unread-later : (m n : ℕ) (first old new : FilesState) → Opened m first old → OpenedThenUnread n old new → OpenedThenUnread n first new
unread-later m n first old new was fault = record {
  same = fault.same ∙ ap (λ (s : FilesState). record s { started = n; left = new.left; read_faults = new.read_faults }) was;
  rises = subst (λ (k : ℕ). Rises k new.read_faults) (ap (λ (s : FilesState). s.read_faults) was) fault.rises;
}

one-more : (file : CircuitFile) → before file + 1 ≤ 3
one-more Netlist = omega arith
one-more Timing = omega arith
one-more Stimulus = omega arith

-- a stop at the file whose turn it is
pub stop-later : (file : CircuitFile) (first old new : FilesState) (stop : FilesStop) → Opened (before file) first old → IsAt file stop → TextStops file old new stop → StopChanges first new stop
stop-later file first old new (Refused refusal) was at then =
    record { many = before file + 1; within = one-more file; opened = opened-later (before file) (before file + 1) first old new was then }
stop-later file first old new (NotOpened met) was at fault = subst (λ (f : CircuitFile). OpenedThenMissing (before f) first new) (sym at) (missing-later (before file) first old new was fault)
stop-later file first old new (Unread met) was at fault =
    subst (λ (f : CircuitFile). OpenedThenUnread (before f + 1) first new) (sym at) (unread-later (before file) (before file + 1) first old new was fault)
stop-later file first old new OutOfMemory was at then =
    record { many = before file + 1; within = one-more file; opened = opened-later (before file) (before file + 1) first old new was then }

-- all three were read, and what followed met no fault
stop-quiet : (old new : FilesState) (stop : FilesStop) → IsQuiet stop → Opened 3 old new → StopChanges old new stop
stop-quiet old new (Refused refusal) quiet opened = record { many = 3; within = omega arith; opened = opened }
stop-quiet old new (NotOpened file) quiet opened = absurd quiet
stop-quiet old new (Unread file) quiet opened = absurd quiet
stop-quiet old new OutOfMemory quiet opened = record { many = 3; within = omega arith; opened = opened }

pub joined-state : {A : Type 0} (old new : FilesState) (result : Result A FilesStop) → IfErr result IsQuiet → Opened 3 old new → DesignChanges old new result
joined-state old new (Ok design) quiet opened = opened
joined-state old new (Err stop) quiet opened = stop-quiet old new stop quiet opened
