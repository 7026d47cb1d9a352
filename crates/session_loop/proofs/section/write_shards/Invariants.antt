-- The lines of the shards so far were written or are kept back, and no fault was met.
use Rattle.std.proofs.Common.{◌≡◌, take}
use Rattle.backsim_io.specs.FilesInMemory.{FileGrows}
use Rattle.journal_text.specs.Spelling.{shard_lines}
use Rattle.session_loop.specs.inner.Growing.{KeepsBack}
use Rattle.session_loop.proofs.section.write_shards.Given as goal

abbrev pub invariant-loop-list : goal.invariant-loop-list
invariant-loop-list g l = record {
  number : l.number ≡ l.list-index;
  keeps_back : KeepsBack (FileGrows (g.F.Files.made l.initial.files) (g.F.Files.made l.files) 0) l.initial.text.items (shard_lines 0 (take l.list-index l.lists)) l.text.items;
  same : g.F.Files.state l.files ≡ g.F.Files.state l.initial.files;
}
