-- The ranges of what a stimulus file says.
use Rattle.std.specs.Prelude.{◌≤◌, All}
use Rattle.stimulus_file.specs.Stimulus.{Content}

-- no time is above the greatest
pub record IsStimulus (c : Content) : Type 0 where
  pub horizon : c.horizon ≤ 1000000
  pub sets : All (λ row. row.time ≤ 1000000) c.sets
