-- What reading the four files comes to, and what is said of the first of them where they are refused.
use Rattle.std.proofs.Common.{◌≡◌, ℕ, ◌+◌, ◌<◌, List, Result, Ok, Err, refl, ap, subst, ◌∙◌, arith, inl, inr, length}
use Rattle.backsim_io.specs.State.{FilesState}
use Rattle.backsim_io.specs.Outcomes as io
use Rattle.backsim_io.specs.declared.transfer.ReadFile.{ReadFile}
use Rattle.backsim_io.specs.declared.transfer.ReadFile.TheVariants as reads
use Rattle.design.specs.Joined.{Joined}
use Rattle.circuit_files.specs.Changes.{Opened}
use Rattle.circuit_files.specs.Changes as circuit
use Rattle.circuit_files.specs.Stops.{before, AnswersFirst, IsAnswerOf}
use Rattle.circuit_files.specs.Texts.{refusal_text}
use Rattle.circuit_files.specs.declared.refusal.CircuitFile.{CircuitFile}
use Rattle.circuit_files.specs.declared.refusal.CircuitFile.TheVariants.{Netlist, Timing, Stimulus}
use Rattle.circuit_files.specs.declared.refusal.FileRefusal.{FileRefusal}
use Rattle.circuit_files.specs.declared.stop.FilesStop.{FilesStop}
use Rattle.circuit_files.specs.declared.stop.FilesStop.TheVariants as files
use Rattle.circuit_files.proofs.Callers.{opened-later, missing-later, unread-later}
use Rattle.backsim_check.specs.Texts.{too_long}
use Rattle.backsim_check.specs.inner.Judged.{stop_of, proof_stop, StopChanges, StopsFirst, RefusesRight}
use Rattle.backsim_check.proofs.Clashes.{ok-not-err}
use Rattle.circuit_files.specs.Files.{design_of_files}
use Rattle.backsim_check.specs.Given.{Given}

below-three : (file : CircuitFile) → before file < 3
below-three Netlist = omega arith
below-three Timing = omega arith
below-three Stimulus = omega arith

many-opened : (n : ℕ) (old new : FilesState) → Opened n old new → new.started ≡ n
many-opened n old new opened = ap (λ (s : FilesState). s.started) opened

-- a stop of the three files
pub design-stops : (old new : FilesState) (stop : FilesStop) → circuit.StopChanges old new stop → StopChanges old new (stop_of stop)
design-stops old new (files.Refused refusal) is = record { many = is.many; within = omega (arith, is.within); opened = is.opened }
design-stops old new (files.NotOpened file) is = record { many = before file; within = omega (arith, below-three file); missing = is }
design-stops old new (files.Unread file) is = record { many = before file + 1; within = omega (arith, below-three file); unread = is }
design-stops old new files.OutOfMemory is = record { many = is.many; within = omega (arith, is.within); opened = is.opened }

-- the proof was opened behind them
opened-fourth : (first old new : FilesState) → Opened 3 first old → io.Opened old new → Opened 4 first new
opened-fourth first old new was then =
    opened-later 3 4 first old new was (then ∙ ap (λ (n : ℕ). record old { started = n + 1; left = new.left }) (many-opened 3 first old was))

-- a stop of the proof
pub proof-stops : (A : Type 0) (first old new : FilesState) (why : ReadFile) → Opened 3 first old → io.ReadFileChanges {A = A} old new (Err why) → StopChanges first new (proof_stop why)
proof-stops A first old new reads.NotOpened was fault = record { many = 3; within = omega arith; missing = missing-later 3 first old new was fault }
proof-stops A first old new reads.Failed was fault =
    let fourth = ap (λ (n : ℕ). record old { started = n + 1; left = new.left; read_faults = new.read_faults }) (many-opened 3 first old was) in
    record { many = 4; within = omega arith; unread = unread-later 3 4 first old new was (record { same = fault.same ∙ fourth; rises = fault.rises }) }
proof-stops A first old new reads.TooLong was then = record { many = 4; within = omega arith; opened = opened-fourth first old new was then }
proof-stops A first old new reads.OutOfMemory was then = record { many = 4; within = omega arith; opened = opened-fourth first old new was then }

pub proof-refused : (old new : FilesState) (why : ReadFile) → StopChanges old new (proof_stop why) → StopsFirst 4 too_long new.started (proof_stop why)
proof-refused old new reads.NotOpened changes = omega (arith, changes.within, ap (λ (s : FilesState). s.started) changes.missing.same)
proof-refused old new reads.Failed changes = omega (arith, changes.within, ap (λ (s : FilesState). s.started) changes.unread.same)
proof-refused old new reads.TooLong changes = (refl, omega (arith, changes.within, many-opened changes.many old new changes.opened))
proof-refused old new reads.OutOfMemory changes = omega (arith, changes.within, many-opened changes.many old new changes.opened)

-- the first files are refused
answers-first : (B : Type 0) (n : ℕ) (old new : FilesState) (stop : FilesStop) (refusal : FileRefusal) → AnswersFirst {A = Joined} {B = B} n new.started (Err stop) (Err refusal)
    → circuit.StopChanges old new stop → StopsFirst n (refusal_text refusal) new.started (stop_of stop)
answers-first B n old new (files.Refused given) refusal answers changes = (ap refusal_text answers.0, answers.1)
answers-first B n old new (files.NotOpened file) refusal answers changes = omega (arith, answers, ap (λ (s : FilesState). s.started) changes.same)
answers-first B n old new (files.Unread file) refusal answers changes = omega (arith, answers, ap (λ (s : FilesState). s.started) changes.same)
answers-first B n old new files.OutOfMemory refusal answers changes = answers

pub first-refused : {B : Type 0} (n : ℕ) (old new : FilesState) (stop : FilesStop) (said : Result B FileRefusal) (refusal : FileRefusal) → said ≡ Err refusal
    → AnswersFirst {A = Joined} n new.started (Err stop) said → circuit.StopChanges old new stop → StopsFirst n (refusal_text refusal) new.started (stop_of stop)
first-refused {B = B} n old new stop said refusal is answers changes = answers-first B n old new stop refusal (subst (AnswersFirst {A = Joined} n new.started (Err stop)) is answers) changes

pub third-refused : (old new : FilesState) (stop : FilesStop) (said : Result Joined FileRefusal) (refusal : FileRefusal) → said ≡ Err refusal
    → IsAnswerOf {A = Joined} (Err stop) said → circuit.StopChanges old new stop → StopsFirst 3 (refusal_text refusal) new.started (stop_of stop)
third-refused old new (files.Refused given) said refusal is answers changes =
    let same : given ≡ refusal = cc in
    (ap refusal_text same, omega (arith, changes.within, many-opened changes.many old new changes.opened))
third-refused old new (files.NotOpened file) said refusal is answers changes = omega (arith, below-three file, ap (λ (s : FilesState). s.started) changes.same)
third-refused old new (files.Unread file) said refusal is answers changes = omega (arith, below-three file, ap (λ (s : FilesState). s.started) changes.same)
third-refused old new files.OutOfMemory said refusal is answers changes = omega (arith, changes.within, many-opened changes.many old new changes.opened)

-- where they are not, a stop at them is no refusal
pub fourth-refused : (old new : FilesState) (stop : FilesStop) (said : Result Joined FileRefusal) (design : Joined) → said ≡ Ok design
    → IsAnswerOf {A = Joined} (Err stop) said → circuit.StopChanges old new stop → StopsFirst 4 too_long new.started (stop_of stop)
fourth-refused old new (files.Refused refusal) said design is answers changes = absurd (ok-not-err said design refusal is answers)
fourth-refused old new (files.NotOpened file) said design is answers changes = omega (arith, below-three file, ap (λ (s : FilesState). s.started) changes.same)
fourth-refused old new (files.Unread file) said design is answers changes = omega (arith, below-three file, ap (λ (s : FilesState). s.started) changes.same)
fourth-refused old new files.OutOfMemory said design is answers changes = omega (arith, changes.within, many-opened changes.many old new changes.opened)

-- the refusal of the three files is right
pub files-right : (given : Given) (proof : List ℕ) (stop : FilesStop) → IsAnswerOf {A = Joined} (Err stop) (design_of_files given.netlist given.timing given.stimulus) → RefusesRight given proof (stop_of stop)
files-right given proof (files.Refused refusal) is = inl (record { refusal = refusal; refused = is; line_is = refl })
files-right given proof (files.NotOpened file) is = tt
files-right given proof (files.Unread file) is = tt
files-right given proof files.OutOfMemory is = tt

-- that of the proof is
pub proof-right : (given : Given) (proof : List ℕ) (d : Joined) (why : ReadFile) → design_of_files given.netlist given.timing given.stimulus ≡ Ok d → (why ≡ reads.TooLong → 268435456 < length proof) → RefusesRight given proof (proof_stop why)
proof-right given proof d reads.TooLong accepted long = inr (record { accepted = record { design = d; accepted = accepted; holds = tt }; long = long refl; line_is = refl })
proof-right given proof d reads.NotOpened accepted long = tt
proof-right given proof d reads.Failed accepted long = tt
proof-right given proof d reads.OutOfMemory accepted long = tt
