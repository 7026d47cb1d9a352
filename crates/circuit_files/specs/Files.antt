-- The design of three files, or the refusal.
use Rattle.std.specs.Prelude.{ℕ, ◌+◌, nat_le, List, length, Result, Ok, Err, if◌then◌else◌}
use Rattle.texts.specs.declared.line_faults.causes.LineFault.{LineFault}
use Rattle.bench_reader.specs.Netlists as netlists
use Rattle.bench_reader.specs.Netlists.{bench_of}
use Rattle.bench_reader.specs.Causes.{cause_number}
use Rattle.bench_reader.specs.declared.fault.BenchCause.{BenchCause}
use Rattle.timing_file.specs.Timing as timings
use Rattle.timing_file.specs.Timing.{timing_of}
use Rattle.timing_file.specs.Causes as timing
use Rattle.timing_file.specs.declared.TimingCause.{TimingCause}
use Rattle.stimulus_file.specs.Stimulus as stimuli
use Rattle.stimulus_file.specs.Stimulus.{stimulus_of}
use Rattle.stimulus_file.specs.Causes as stimulus
use Rattle.stimulus_file.specs.declared.StimulusCause.{StimulusCause}
use Rattle.design.specs.Join.{design_of}
use Rattle.design.specs.Joined.{Joined}
use Rattle.design.specs.Causes as join
use Rattle.design.specs.declared.fault.JoinFault.{JoinFault}
use Rattle.design.specs.declared.fault.JoinFile.{JoinFile}
use Rattle.design.specs.declared.fault.JoinFile.TheVariants as files
use Rattle.circuit_files.specs.declared.refusal.CircuitFile.{CircuitFile}
use Rattle.circuit_files.specs.declared.refusal.CircuitFile.TheVariants.{Netlist, Timing, Stimulus}
use Rattle.circuit_files.specs.declared.refusal.FileRefusal.{FileRefusal}
use Rattle.circuit_files.specs.declared.refusal.FileRefusal.TheVariants.{TooLong, Line}

-- the refusal of a fault: the line, and the number of its cause
abbrev pub refused_netlist : LineFault BenchCause → FileRefusal
refused_netlist fault = Line Netlist fault.line (cause_number fault.cause)

abbrev pub refused_timing : LineFault TimingCause → FileRefusal
refused_timing fault = Line Timing fault.line (timing.number_of fault.cause)

abbrev pub refused_stimulus : LineFault StimulusCause → FileRefusal
refused_stimulus fault = Line Stimulus fault.line (stimulus.number_of fault.cause)

abbrev pub file_of : JoinFile → CircuitFile
file_of files.Timing = Timing
file_of files.Stimulus = Stimulus

-- the causes of the join are numbered from 11 on
abbrev pub refused_join : JoinFault → FileRefusal
refused_join fault = Line (file_of fault.file) fault.line (join.number_of fault.cause + 10)

-- the result, or the refusal of its fault
abbrev pub or_refusal : {A E : Type 0} → (E → FileRefusal) → Result A E → Result A FileRefusal
or_refusal refusal (Ok a) = Ok a
or_refusal refusal (Err fault) = Err (refusal fault)

-- a refusal ends the chain
infixl 10 ◌>>=◌
abbrev pub ◌>>=◌ : {A B : Type 0} → Result A FileRefusal → (A → Result B FileRefusal) → Result B FileRefusal
Ok a >>= next = next a
Err refusal >>= next = Err refusal

-- a file has at most 67,108,864 bytes
abbrev pub within_limit : CircuitFile → List ℕ → Result (List ℕ) FileRefusal
within_limit file bytes = if nat_le (length bytes) 67108864 then Ok bytes else Err (TooLong file)

-- the content of each file: its length is checked first, then its lines
unfoldable pub netlist_of : List ℕ → Result netlists.Content FileRefusal
netlist_of bytes = within_limit Netlist bytes >>= λ text. or_refusal refused_netlist (bench_of text)

unfoldable pub delays_of : List ℕ → Result timings.Content FileRefusal
delays_of bytes = within_limit Timing bytes >>= λ text. or_refusal refused_timing (timing_of text)

unfoldable pub settings_of : List ℕ → Result stimuli.Content FileRefusal
settings_of bytes = within_limit Stimulus bytes >>= λ text. or_refusal refused_stimulus (stimulus_of text)

-- the design of a netlist, a timing file and a stimulus file, read in this order and joined: the refusal of a file comes before all of the
-- later files
unfoldable pub design_of_files : List ℕ → List ℕ → List ℕ → Result Joined FileRefusal
design_of_files netlist timing stimulus = do
  content ← netlist_of netlist
  delays ← delays_of timing
  settings ← settings_of stimulus
  or_refusal refused_join (design_of content delays settings)

-- the netlist and then the timing file
abbrev pub first_two : List ℕ → List ℕ → Result timings.Content FileRefusal
first_two netlist timing = netlist_of netlist >>= λ content. delays_of timing
