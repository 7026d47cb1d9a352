-- Names by a strong hash, and in chains through the names of each hash.
use Rattle.std.specs.Prelude.{◌≡◌, ℕ, ◌≤◌, List, length, unwrap_or}
use Rattle.std.specs.Ordering.{nat_cmp}
use Rattle.std.specs.BTreeMap.{BTreeMap, get}
use Rattle.bench_reader.specs.inner.Chains.{AreDistinct, AreLinked, bucket_at, last_in}
use Rattle.bench_reader.specs.inner.Sip.{sip_hash}

-- the last name of this hash, numbered from 1, as the map tells it; 0 is none
abbrev pub last_of : BTreeMap ℕ ℕ → ℕ → ℕ
last_of latest hash = unwrap_or (get nat_cmp latest hash) 0

-- for each hash its last name, and for each name the one before it there, of the first n
pub record IsKeyed (hash : ℕ → ℕ) (n : ℕ) (latest : BTreeMap ℕ ℕ) (earlier : List ℕ) : Type 0 where
  pub heads : (h : ℕ) → last_of latest h ≡ last_in hash h n
  pub links : AreLinked hash n earlier

-- all these names are found by their hashes
pub record AreKeyed (names : List (List ℕ)) (latest : BTreeMap ℕ ℕ) (earlier : List ℕ) : Type 0 where
  pub keyed : IsKeyed (bucket_at sip_hash names) (length names) latest earlier
  pub room : length names ≤ length earlier

-- and no name stands twice
pub record IsEachKeyed (names : List (List ℕ)) (latest : BTreeMap ℕ ℕ) (earlier : List ℕ) : Type 0 where
  pub all : AreKeyed names latest earlier
  pub distinct : AreDistinct names
