use Rattle.std.proofs.Common.{◌≡◌, take, map}
use Rattle.unit_answers.specs.inner.Trims.{eviction_of}
use Rattle.unit_answers.proofs.trim.evictions.Given as goal

abbrev pub invariant-loop-key : goal.invariant-loop-key
invariant-loop-key l = l.entries.items ≡ map eviction_of (take l.key-index l.keys)
