-- The texts from this one on are left, and no fault was met.
use Rattle.std.proofs.Common.{◌≡◌, [], drop}
use Rattle.std.specs.Prelude.{flat_map}
use Rattle.backsim_io.specs.FilesInMemory.{FileGrows}
use Rattle.session_loop.specs.inner.Growing.{KeepsBack}
use Rattle.session_loop.proofs.section.write_texts.Given as goal

abbrev pub invariant-loop-text : goal.invariant-loop-text
invariant-loop-text g l = record {
  left : KeepsBack (FileGrows (g.F.Files.made l.initial.files) (g.F.Files.made l.files) 0) [] (flat_map (λ text. text.items) l.texts) (flat_map (λ text. text.items) (drop l.text-index l.texts));
  same : g.F.Files.state l.files ≡ g.F.Files.state l.initial.files;
}
