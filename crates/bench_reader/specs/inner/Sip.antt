-- SipHash-2-4 with the key 0.
use Rattle.std.specs.Prelude.{ℕ, ◌+◌, ◌-◌, ◌*◌, ◌/◌, ◌%◌, ◌^◌, List, ◌++◌, length, drop, set, replicate, fold, bit_xor}
use Rattle.std.specs.Int.{w64, rotate_left, from_le_bytes}
use Rattle.std.specs.Simd.{first_chunks}
use Rattle.bench_reader.specs.declared.sip.State.{State}

abbrev pub round : State → State
round s =
    let v0 = (s.v0 + s.v1) % 2 ^ 64 in
    let v1 = bit_xor (rotate_left w64 s.v1 13) v0 in
    let v2 = (s.v2 + s.v3) % 2 ^ 64 in
    let v3 = bit_xor (rotate_left w64 s.v3 16) v2 in
    let mixed0 = (rotate_left w64 v0 32 + v3) % 2 ^ 64 in
    let mixed2 = (v2 + v1) % 2 ^ 64 in
    record {
      v0 = mixed0;
      v1 = bit_xor (rotate_left w64 v1 17) mixed2;
      v2 = rotate_left w64 mixed2 32;
      v3 = bit_xor (rotate_left w64 v3 21) mixed0;
    }

-- the state with one more word
abbrev pub with_word : State → ℕ → State
with_word s word =
    let mixed = round (round (record { v0 = s.v0; v1 = s.v1; v2 = s.v2; v3 = bit_xor s.v3 word })) in
    record { v0 = bit_xor mixed.v0 word; v1 = mixed.v1; v2 = mixed.v2; v3 = mixed.v3 }

-- the hash, once all words are in
abbrev pub finish : State → ℕ
finish s =
    let mixed = round (round (round (round (record { v0 = s.v0; v1 = s.v1; v2 = bit_xor s.v2 255; v3 = s.v3 })))) in
    bit_xor (bit_xor (bit_xor mixed.v0 mixed.v1) mixed.v2) mixed.v3

-- the state that the key 0 begins with
abbrev pub start : State
start = record { v0 = 0x736f6d6570736575; v1 = 0x646f72616e646f6d; v2 = 0x6c7967656e657261; v3 = 0x7465646279746573 }

-- the bytes that fill no word, zeros, and how many bytes there are in all
abbrev pub last_word : List ℕ → ℕ → ℕ
last_word rest len = from_le_bytes w64 (set (rest ++ replicate (8 - length rest) 0) 7 (len % 256))

abbrev pub with_bytes : State → List ℕ → State
with_bytes s bytes = with_word s (from_le_bytes w64 bytes)

unfoldable pub sip_hash : List ℕ → ℕ
sip_hash bytes =
    let words = first_chunks 8 (length bytes / 8) bytes in
    finish (with_word (fold with_bytes start words) (last_word (drop (length bytes / 8 * 8) bytes) (length bytes)))
