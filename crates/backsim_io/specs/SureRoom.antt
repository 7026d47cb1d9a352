-- How many bytes of each created file sure files keep.
use Rattle.std.specs.Prelude.{ℕ}
use Rattle.backsim_io.specs.declared.sure_files.SureFiles.{SureFiles}

abbrev pub room_of : SureFiles → ℕ
room_of files = files.room
