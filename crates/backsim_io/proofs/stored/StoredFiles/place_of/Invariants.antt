-- No file before this place has the name.
use Rattle.std.proofs.Common.{◌≡◌, drop}
use Rattle.backsim_io.specs.FilesInMemory.{bytes_under}
use Rattle.backsim_io.proofs.stored.StoredFiles.place_of.Given as goal

abbrev pub invariant-loop-place : goal.invariant-loop-place
invariant-loop-place l = bytes_under l.self.files.items l.name ≡ bytes_under (drop l.place l.self.files.items) l.name
