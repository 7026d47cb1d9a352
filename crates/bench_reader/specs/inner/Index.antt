-- By what names are found.
use Rattle.std.specs.Prelude.{ℕ, ◌<◌, List, length}
use Rattle.bench_reader.specs.declared.index.Index.{Index}
use Rattle.bench_reader.specs.declared.index.Index.TheVariants.{Chains, Keyed}
use Rattle.bench_reader.specs.inner.Chains.{IsEachOnce}
use Rattle.bench_reader.specs.inner.Keyed.{IsEachKeyed}

-- by this all names are found
abbrev pub IsIndex : List (List ℕ) → Index → Type 0
IsIndex names (Chains chains) = IsEachOnce names chains.latest.items chains.earlier.items
IsIndex names (Keyed keyed) = IsEachKeyed names keyed.latest keyed.earlier.items

-- and one name more can be
abbrev pub HasRoom : List (List ℕ) → Index → Type 0
HasRoom names (Chains chains) = length names < length chains.latest.items
HasRoom names (Keyed keyed) = length names < length keyed.earlier.items
