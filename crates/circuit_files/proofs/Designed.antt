-- The design of three files, and what is refused in its place.
use Rattle.std.proofs.Common.{◌≡◌, ℕ, ◌⊎◌, inl, inr, List, Ok, Err, refl, ap}
use Rattle.bench_reader.specs.Netlists as netlists
use Rattle.timing_file.specs.Timing as timings
use Rattle.stimulus_file.specs.Stimulus as stimuli
use Rattle.design.specs.Join.{design_of, AnswersDesign}
use Rattle.design.specs.declared.fault.JoinFault.{JoinFault}
use Rattle.design.specs.Causes as join
use Rattle.circuit_files.specs.declared.stop.FilesStop.{FilesStop}
use Rattle.circuit_files.specs.declared.stop.FilesStop.TheVariants.{Refused, NotOpened, Unread, OutOfMemory}
use Rattle.circuit_files.specs.Files.{or_refusal, refused_join, netlist_of, delays_of, settings_of, design_of_files}
use Rattle.circuit_files.specs.Stops.{IsAnswerOf}

-- what the first file that is refused makes of all three
pub files_stop_netlist : (a b d : List ℕ) (stop : FilesStop) → IsAnswerOf (Err stop) (netlist_of a) → IsAnswerOf (Err stop) (design_of_files a b d)
unfolding design_of_files
files_stop_netlist a b d (Refused refusal) says = rw says refl
files_stop_netlist a b d (Unread file) says = tt
files_stop_netlist a b d (NotOpened file) says = tt
files_stop_netlist a b d OutOfMemory says = tt

pub files_stop_timing : (a b d : List ℕ) (content : netlists.Content) (stop : FilesStop) → netlist_of a ≡ Ok content → IsAnswerOf (Err stop) (delays_of b) → IsAnswerOf (Err stop) (design_of_files a b d)
unfolding design_of_files
files_stop_timing a b d content (Refused refusal) e says = rw (e, says) refl
files_stop_timing a b d content (Unread file) e says = tt
files_stop_timing a b d content (NotOpened file) e says = tt
files_stop_timing a b d content OutOfMemory e says = tt

pub files_stop_stimulus : (a b d : List ℕ) (content : netlists.Content) (delays : timings.Content) (stop : FilesStop) → netlist_of a ≡ Ok content → delays_of b ≡ Ok delays → IsAnswerOf (Err stop) (settings_of d) → IsAnswerOf (Err stop) (design_of_files a b d)
unfolding design_of_files
files_stop_stimulus a b d content delays (Refused refusal) e f says = rw (e, f, says) refl
files_stop_stimulus a b d content delays (Unread file) e f says = tt
files_stop_stimulus a b d content delays (NotOpened file) e f says = tt
files_stop_stimulus a b d content delays OutOfMemory e f says = tt

-- all are read, and joined
pub files_joined : (a b d : List ℕ) (content : netlists.Content) (delays : timings.Content) (settings : stimuli.Content) → netlist_of a ≡ Ok content → delays_of b ≡ Ok delays → settings_of d ≡ Ok settings
    → design_of_files a b d ≡ or_refusal refused_join (design_of content delays settings)
unfolding design_of_files
files_joined a b d content delays settings e f h = rw (e, f, h) refl

-- a row that does not join
pub join_refused : (content : netlists.Content) (delays : timings.Content) (settings : stimuli.Content) (fault : JoinFault) → AnswersDesign (Err fault) (design_of content delays settings)
    → (fault ≡ join.out_of_memory) ⊎ (or_refusal refused_join (design_of content delays settings) ≡ Err (refused_join fault))
join_refused content delays settings fault (inl gone) = inl gone
join_refused content delays settings fault (inr says) = inr (ap (or_refusal refused_join) says)
