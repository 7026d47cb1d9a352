use Rattle.std.proofs.Common.{◌≡◌, drop}
use Rattle.timing_file.specs.Timing as timings
use Rattle.timing_file.proofs.content.TimingContent.default_of_kind.Given as goal

abbrev pub invariant-loop-stated : goal.invariant-loop-stated
invariant-loop-stated l = timings.kind_delay l.kind (drop l.stated-index l.self.kinds) ≡ timings.kind_delay l.kind l.self.kinds
