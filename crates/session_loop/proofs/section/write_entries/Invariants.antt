-- The lines of the entries so far were written or are kept back, and no fault was met.
use Rattle.std.proofs.Common.{◌≡◌, take}
use Rattle.std.specs.Prelude.{flat_map}
use Rattle.backsim_io.specs.FilesInMemory.{FileGrows}
use Rattle.journal_text.specs.Spelling.{entry_line}
use Rattle.session_loop.specs.inner.Growing.{KeepsBack}
use Rattle.session_loop.proofs.section.write_entries.Given as goal

abbrev pub invariant-loop-entry : goal.invariant-loop-entry
invariant-loop-entry g l = record {
  keeps_back : KeepsBack (FileGrows (g.F.Files.made l.initial.files) (g.F.Files.made l.files) 0) l.initial.text.items (flat_map entry_line (take l.entry-index l.entries)) l.text.items;
  same : g.F.Files.state l.files ≡ g.F.Files.state l.initial.files;
}
