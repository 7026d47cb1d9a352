-- The shards that are left come after those read so far.
use Rattle.std.proofs.Common.{◌≡◌, ◌-◌}
use Rattle.journal_text.specs.inner.Reading.{shards_at}
use Rattle.journal_text.proofs.Shards.{put_shards}
use Rattle.journal_text.proofs.reading.shards_of.Given as goal

abbrev pub invariant-loop-number : goal.invariant-loop-number
invariant-loop-number l = put_shards l.shards.items (shards_at (l.most - l.number) l.number l.rest) ≡ shards_at l.most 0 l.text
