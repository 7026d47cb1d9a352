-- What a `SlotHasher` computes.
use Rattle.std.specs.Prelude.{ℕ, ◌+◌, ◌*◌, ◌/◌, ◌%◌, ◌^◌, ◌==◌, List, length, slice_index, if◌then◌else◌}
use Rattle.cell_store.specs.declared.slots.SlotHasher.{SlotHasher}

abbrev pub initial : SlotHasher
initial = record { state = 0 }

-- four bytes as a number, the lowest first
abbrev pub read_u32 : List ℕ → ℕ
read_u32 bytes = slice_index bytes 0 + slice_index bytes 1 * 256 + slice_index bytes 2 * 65536 + slice_index bytes 3 * 16777216

-- four bytes replace the state, and others leave it
abbrev pub write : SlotHasher → List ℕ → SlotHasher
write h bytes = record { state = if length bytes == 4 then read_u32 bytes else h.state }

abbrev pub finish : SlotHasher → ℕ
finish h = h.state / 9 + (h.state % 9 + 1) * 2 ^ 24
