-- Settings whose names are places in a list of names.
use Rattle.std.specs.Prelude.{◌<◌, ℕ, List, [], length, map, slice_index_or, All}
use Rattle.stimulus_file.specs.declared.NumberedSet.{NumberedSet}
use Rattle.stimulus_file.specs.Stimulus.{SetRow}

-- the setting, with the name at its place
abbrev pub with_name : List (List ℕ) → NumberedSet → SetRow
with_name names set = record { line = set.line; name = slice_index_or names set.name []; time = set.time; value = set.value }

abbrev pub named_rows : List (List ℕ) → List NumberedSet → List SetRow
named_rows names sets = map (with_name names) sets

-- the name of each setting is a place in the list
abbrev pub HavePlaces : List (List ℕ) → List NumberedSet → Type 0
HavePlaces names sets = All (λ set. set.name < length names) sets
