-- Names in buckets, by a hash, and in chains through each bucket.
use Rattle.std.specs.Prelude.{◌≡◌, ℕ, zero, suc, ◌+◌, ◌-◌, ◌*◌, ◌/◌, ◌%◌, ◌^◌, ◌<◌, ◌≤◌, ◌==◌, nat_lt, nat_le, List, [], length, take, drop, slice_index_or, fold, bit_xor, if◌then◌else◌}
use Rattle.std.specs.Int.{w32, w64, from_le_bytes}
use Rattle.bench_reader.specs.Netlists.{place}

-- the hash with one more word
abbrev pub mixed_hash : ℕ → ℕ → ℕ
mixed_hash hash word = (bit_xor hash word * 11400714819323198485) % 2 ^ 64

-- by the first four bytes and the last four
abbrev pub by_fours : List ℕ → ℕ
by_fours name = mixed_hash (mixed_hash 0 (from_le_bytes w32 (take 4 name))) (from_le_bytes w32 (drop (length name - 4) name))

-- by the first eight bytes and the last eight
abbrev pub by_eights : List ℕ → ℕ
by_eights name = mixed_hash (mixed_hash 0 (from_le_bytes w64 (take 8 name))) (from_le_bytes w64 (drop (length name - 8) name))

-- the hash of what stands before a name's last two bytes
unfoldable pub stem_hash : List ℕ → ℕ
stem_hash stem =
    if nat_lt (length stem) 4 then fold mixed_hash 0 stem else (
    if nat_le (length stem) 8 then by_fours stem else (
    if nat_le (length stem) 16 then by_eights stem else fold mixed_hash 0 stem))

-- two bytes, read as two digits
abbrev pub digits_of : List ℕ → ℕ
digits_of bytes = 10 * slice_index_or bytes 0 0 + slice_index_or bytes 1 0

-- the hash of a name: its stem's in the upper half, its last two digits in the lower
unfoldable pub hash_of : List ℕ → ℕ
hash_of name =
    if nat_lt (length name) 2 then fold mixed_hash 0 name
    else stem_hash (take (length name - 2) name) / 4294967296 * 4294967296 + digits_of (drop (length name - 2) name)

-- the bucket with this number, of so many, counted on around the end
abbrev pub around : ℕ → ℕ → ℕ
around count bucket = if nat_lt bucket count then bucket else bucket % count

-- the bucket of a hash, of so many
unfoldable pub bucket_in : ℕ → ℕ → ℕ
bucket_in count hash = around count (hash / 4294967296 * count / 4294967296 + hash % 4294967296)

-- the bucket of a name, of so many
abbrev pub bucket_of : ℕ → List ℕ → ℕ
bucket_of count name = bucket_in count (hash_of name)

-- the bucket of the name with this number
abbrev pub bucket_at : (List ℕ → ℕ) → List (List ℕ) → ℕ → ℕ
bucket_at bucket names number = bucket (slice_index_or names number [])

-- of the first n names the last that lies in this bucket, numbered from 1; 0 where none does
abbrev pub last_in : (ℕ → ℕ) → ℕ → ℕ → ℕ
last_in bucket b zero = 0
last_in bucket b (suc n) = if bucket n == b then suc n else last_in bucket b n

-- for each of the first n names the one before it in its bucket
abbrev pub AreLinked : (ℕ → ℕ) → ℕ → List ℕ → Type 0
AreLinked bucket n earlier = (i : ℕ) → i < n → slice_index_or earlier i 0 ≡ last_in bucket (bucket i) i

-- for each bucket its last name, and for each name the one before it there, of the first n
pub record IsChained (bucket : ℕ → ℕ) (n : ℕ) (latest earlier : List ℕ) : Type 0 where
  pub heads : (b : ℕ) → b < length latest → slice_index_or latest b 0 ≡ last_in bucket b n
  pub links : AreLinked bucket n earlier

-- all these names are in chains
pub record AreChained (names : List (List ℕ)) (latest earlier : List ℕ) : Type 0 where
  pub chained : IsChained (bucket_at (bucket_of (length latest)) names) (length names) latest earlier
  pub room : length names ≤ length latest
  pub same : length earlier ≡ length latest
  pub few : length latest < 4294967296

-- by some buckets, the chain of a name's bucket begins here
pub record BeginsChain (names : List (List ℕ)) (earlier : List ℕ) (name : List ℕ) (last : ℕ) : Type 0 where
  pub bucket : List ℕ → ℕ
  pub begins : last ≡ last_in (bucket_at bucket names) (bucket name) (length names)
  pub links : AreLinked (bucket_at bucket names) (length names) earlier
  pub room : length names ≤ length earlier

-- no name has this number and these bytes
abbrev pub IsNowhere : List (List ℕ) → List ℕ → Type 0
IsNowhere names name = (i : ℕ) → i < length names → slice_index_or names i [] ≡ name → ⊥

-- the name has this number
pub record HasNumber (names : List (List ℕ)) (name : List ℕ) (number : ℕ) : Type 0 where
  pub within : number < length names
  pub there : slice_index_or names number [] ≡ name

-- no name stands twice
abbrev pub AreDistinct : List (List ℕ) → Type 0
AreDistinct names = (i : ℕ) → i < length names → place names (slice_index_or names i []) ≡ i

-- all names are in chains, each once
pub record IsEachOnce (names : List (List ℕ)) (latest earlier : List ℕ) : Type 0 where
  pub chains : AreChained names latest earlier
  pub distinct : AreDistinct names
