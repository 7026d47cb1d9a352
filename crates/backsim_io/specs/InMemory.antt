-- The state of the objects in memory: their content and faults, and which of their calls fail.
use Rattle.std.specs.Prelude.{ℕ, ◌+◌, ◌≤◌, ◌≡◌, List, Some, drop, vec_len, vec_capacity}
use Rattle.texts.specs.Made.{Made}
use Rattle.backsim_io.specs.Calls.{CallsState}
use Rattle.backsim_io.specs.FilesInMemory.{bytes_under}
use Rattle.backsim_io.specs.State.{SourceState, FilesState}
use Rattle.backsim_io.specs.inner.FilesInMemory.{bytes_at, files_of, HasRoomAt}
use Rattle.backsim_io.specs.declared.memory.MemSource.{MemSource}
use Rattle.backsim_io.specs.declared.memory.MemSink.{MemSink}
use Rattle.backsim_io.specs.declared.memory_files.MemFiles.{MemFiles}

abbrev pub source_state : MemSource → SourceState
source_state source = record { left = Some (drop source.at source.bytes.items); faults = source.faults }

abbrev pub source_calls : MemSource → CallsState
source_calls source = source.calls

-- the greatest number of bytes that a read gives
abbrev pub source_piece : MemSource → ℕ
source_piece source = source.piece

abbrev pub sink_written : MemSink → List ℕ → Type 0
sink_written sink bytes = bytes ≡ sink.bytes.items

abbrev pub sink_faults : MemSink → ℕ
sink_faults sink = sink.faults

abbrev pub sink_calls : MemSink → CallsState
sink_calls sink = sink.calls

-- the greatest number of bytes that a write takes
abbrev pub sink_piece : MemSink → ℕ
sink_piece sink = sink.piece

-- the sink has memory for this many more bytes
abbrev pub SinkHasRoom : MemSink → ℕ → Type 0
SinkHasRoom sink more = vec_len sink.bytes + more ≤ vec_capacity sink.bytes

abbrev pub files_state : MemFiles → FilesState
files_state files = record {
  bytes = bytes_under files.stored.files.items;
  left = Some (drop files.stored.at (bytes_at files.stored.files.items files.stored.reading));
  started = files.stored.started;
  created = files.slots.files;
  unfinished = files.slots.unfinished;
  file_faults = files.file_faults;
  read_faults = files.read_faults;
  write_faults = files.write_faults;
}

abbrev pub files_made : MemFiles → List Made → Type 0
files_made files made = made ≡ files_of files.created.items

abbrev pub files_calls : MemFiles → CallsState
files_calls files = files.calls

-- the created file at this place has memory for this many more bytes
abbrev pub FileHasRoom : MemFiles → ℕ → ℕ → Type 0
FileHasRoom files slot more = HasRoomAt files.created.items slot more
