use Rattle.std.proofs.Common.{◌≡◌, All, vec_len}
use Rattle.backsim_io.specs.inner.SureFiles.{IsBlank}
use Rattle.backsim_io.proofs.sure_files.blank_files.Given as goal

abbrev pub invariant-loop : goal.invariant-loop
invariant-loop l = (vec_len l.files ≡ l.counter) × All (IsBlank l.room) l.files.items
