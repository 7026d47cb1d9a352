-- A circuit with the drawn inputs of a workload.
use Rattle.std.specs.Prelude.{◌≡◌, ℕ, Ok}
use Rattle.bench_reader.specs.Netlists as netlists
use Rattle.timing_file.specs.Timing as timings
use Rattle.timing_file.specs.Timing.{timing_of}
use Rattle.stimulus_file.specs.Stimulus as stimuli
use Rattle.stimulus_file.specs.Stimulus.{stimulus_of}
use Rattle.design.specs.Joined.{Joined}
use Rattle.design.specs.Join.{design_of}
use Rattle.workload.specs.Texts.{timing_text, stimulus_text}

-- the design of this netlist under the timing and the stimulus of workload number n
pub record HasInputs (n : ℕ) (netlist : netlists.Content) (design : Joined) : Type 0 where
  pub timing : timings.Content
  pub stimulus : stimuli.Content
  pub timing_says : timing_of timing_text ≡ Ok timing
  pub stimulus_says : stimulus_of (stimulus_text n) ≡ Ok stimulus
  pub joined : design_of netlist timing stimulus ≡ Ok design
