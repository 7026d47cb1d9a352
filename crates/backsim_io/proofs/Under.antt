-- The bytes under a name are those of the first file of that name.
use Rattle.std.proofs.Common.{◌≡◌, ℕ, zero, suc, ◌<◌, List, [], ◌∷◌, length, drop, get_or, arith, refl, Bool, cond, Some, Vec, Global}
use Rattle.std.proofs.lemmas.Grind.{common_steps}
use Rattle.std.specs.Str.{bytes_eq}
use Rattle.backsim_io.specs.FilesInMemory.{bytes_under}
use Rattle.backsim_io.specs.inner.FilesInMemory.{bytes_at}

-- the file at place i either has the name, or those after it are searched
pub under_from : (files : List (List ℕ × Vec ℕ Global)) (name : List ℕ) (i : ℕ) (d : List ℕ × Vec ℕ Global) → i < length files → bytes_under (drop i files) name ≡ cond (bytes_eq (get_or files i d).0 name) (Some (get_or files i d).1.items) (bytes_under (drop (suc i) files) name)
under_from [] name i d within = absurd (omega arith)
under_from (file ∷ files) name zero d within = first (bytes_eq file.0 name)
  where
    first : (same : Bool) → bytes_under (file ∷ files) name ≡ cond (bytes_eq file.0 name) (Some file.1.items) (bytes_under files name)
    first same = grind (arith, common_steps)
under_from (file ∷ files) name (suc i) d within = under_from files name i d (omega arith)

pub bytes_at_place : (files : List (List ℕ × Vec ℕ Global)) (i : ℕ) (d : List ℕ × Vec ℕ Global) → i < length files → bytes_at files (Some i) ≡ (get_or files i d).1.items
bytes_at_place [] i d within = absurd (omega arith)
bytes_at_place (file ∷ files) zero d within = refl
bytes_at_place (file ∷ files) (suc i) d within = bytes_at_place files i d (omega arith)
