-- What a workload is: the design and the items of its four texts.
use Rattle.std.specs.Prelude.{◌≡◌, ℕ, [], ◌∷◌, Ok}
use Rattle.bench_reader.specs.Netlists as netlists
use Rattle.bench_reader.specs.Netlists.{bench_of}
use Rattle.timing_file.specs.Timing as timings
use Rattle.timing_file.specs.Timing.{timing_of}
use Rattle.stimulus_file.specs.Stimulus as stimuli
use Rattle.stimulus_file.specs.Stimulus.{stimulus_of}
use Rattle.design.specs.Join.{design_of}
use Rattle.query_lines.specs.Reading.{script_units}
use Rattle.query_lines.specs.declared.unit.Unit.TheVariants.{Batch}
use Rattle.workload.specs.declared.Work.{Work}
use Rattle.workload.specs.Texts.{netlist_text, timing_text, stimulus_text, script_text}

-- workload number n: what its texts say
pub record IsWork (n : ℕ) (work : Work) : Type 0 where
  pub netlist : netlists.Content
  pub timing : timings.Content
  pub stimulus : stimuli.Content
  pub netlist_says : bench_of (netlist_text n) ≡ Ok netlist
  pub timing_says : timing_of timing_text ≡ Ok timing
  pub stimulus_says : stimulus_of (stimulus_text n) ≡ Ok stimulus
  pub joined : design_of netlist timing stimulus ≡ Ok work.design
  -- the whole script is one batch
  pub asked : script_units 100000 (script_text n) ≡ Batch work.items ∷ []
