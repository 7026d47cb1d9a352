-- The blocks from the next one on are left, and no fault was met.
use Rattle.std.proofs.Common.{◌≡◌, []}
use Rattle.std.specs.Prelude.{flat_map}
use Rattle.std.specs.Slice.Iter.{chunks_rest}
use Rattle.backsim_io.specs.FilesInMemory.{FileGrows}
use Rattle.journal_text.specs.Spelling.{entry_line}
use Rattle.session_loop.specs.inner.Growing.{KeepsBack}
use Rattle.session_loop.proofs.section.write_blocks.Given as goal

abbrev pub invariant-loop-block : goal.invariant-loop-block
invariant-loop-block g l = record {
  next : (goal.iterator-loop-block g).can_next l.block-iterator;
  finite : (goal.iterator-loop-block g).is_finite l.block-iterator;
  left : KeepsBack (FileGrows (g.F.Files.made l.initial.files) (g.F.Files.made l.files) 0) [] (flat_map entry_line l.fn.entries) (flat_map entry_line (chunks_rest l.block-iterator));
  same : g.F.Files.state l.files ≡ g.F.Files.state l.initial.files;
}
