-- What the first files refuse comes before all that is behind.
use Rattle.std.proofs.Common.{◌≡◌, ◌<◌, ◌≤◌, ◌+◌, ℕ, arith, List, Result, Ok, Err, refl, sym, subst}
use Rattle.design.specs.Joined.{Joined}
use Rattle.bench_reader.specs.Netlists as netlists
use Rattle.timing_file.specs.Timing as timings
use Rattle.circuit_files.specs.declared.refusal.CircuitFile.{CircuitFile}
use Rattle.circuit_files.specs.declared.refusal.FileRefusal.{FileRefusal}
use Rattle.circuit_files.specs.declared.stop.FilesStop.{FilesStop}
use Rattle.circuit_files.specs.declared.stop.FilesStop.TheVariants.{Refused, NotOpened, Unread, OutOfMemory}
use Rattle.circuit_files.specs.Files.{netlist_of, delays_of, first_two}
use Rattle.circuit_files.specs.Stops.{before, IsAnswerOf, AnswersFirst}
use Rattle.circuit_files.specs.inner.Reading.{IsAt}

-- what is not refused asks nothing
pub passes : {B : Type 0} (n started : ℕ) (result : Result Joined FilesStop) (said : Result B FileRefusal) (b : B) → said ≡ Ok b → AnswersFirst n started result said
passes n started result said b is = subst (AnswersFirst n started result) (sym is) tt

-- a stop at a file, or one that no fault made, that answers it
pub stops_first : {B : Type 0} (n started : ℕ) (file : CircuitFile) (stop : FilesStop) (said : Result B FileRefusal) → before file < n → started ≤ before file + 1 → IsAt file stop
    → IsAnswerOf {A = B} (Err stop) said → AnswersFirst {A = Joined} n started (Err stop) said
stops_first n started file (Refused refusal) (Ok b) early opened at is = tt
stops_first n started file (Refused refusal) (Err given) early opened at is = (let same : given ≡ refusal = cc in sym same, omega (arith, early, opened))
stops_first n started file (NotOpened met) (Ok b) early opened at is = tt
stops_first n started file (NotOpened met) (Err given) early opened at is = subst (λ (f : CircuitFile). before f < n) (sym at) early
stops_first n started file (Unread met) (Ok b) early opened at is = tt
stops_first n started file (Unread met) (Err given) early opened at is = subst (λ (f : CircuitFile). before f < n) (sym at) early
stops_first n started file OutOfMemory (Ok b) early opened at is = tt
stops_first n started file OutOfMemory (Err given) early opened at is = omega (arith, early, opened)

-- both files
pub two_stop : (a b : List ℕ) (stop : FilesStop) → IsAnswerOf {A = netlists.Content} (Err stop) (netlist_of a) → IsAnswerOf {A = timings.Content} (Err stop) (first_two a b)
two_stop a b (Refused refusal) says = rw says refl
two_stop a b (NotOpened file) says = tt
two_stop a b (Unread file) says = tt
two_stop a b OutOfMemory says = tt

pub behind_netlist : (a b : List ℕ) (content : netlists.Content) → netlist_of a ≡ Ok content → first_two a b ≡ delays_of b
behind_netlist a b content is = rw is refl
