-- Readers kept as links, each with the number of the link before it.
use Rattle.std.specs.Prelude.{ℕ, zero, suc, ◌<◌, ◌≤◌, nat_eq, List, [], ◌∷◌, length, map, slice_index_or, if◌then◌else◌}
use Rattle.design.specs.declared.readers.Link.{Link}

-- the links are numbered from 1 on
abbrev pub link_at : List Link → ℕ → Link
link_at links n = slice_index_or links n (record { reader = 0; before = 0 })

-- the readers from link k back, if only the first n links count
abbrev pub readers_from : List Link → ℕ → ℕ → List ℕ
readers_from links zero k = []
readers_from links (suc n) k = if nat_eq k (suc n) then (link_at links n).reader ∷ readers_from links n (link_at links n).before else readers_from links n k

abbrev pub lists_of : List Link → List ℕ → List (List ℕ)
lists_of links last = map (readers_from links (length links)) last

-- each link leads to an earlier one, and the last link of each signal is in the list
pub record AreLinks (links : List Link) (last : List ℕ) : Type 0 where
  pub earlier : (k : ℕ) → k < length links → (link_at links k).before ≤ k
  pub within : (s : ℕ) → s < length last → slice_index_or last s 0 ≤ length links
