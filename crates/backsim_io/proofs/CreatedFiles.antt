-- A write into one of the created files.
use Rattle.std.proofs.Common.{◌≡◌, ℕ, zero, suc, ◌<◌, List, [], ◌∷◌, ◌++◌, length, get_or, set, arith, ap, ◌∙◌, Vec, Global, vec_len, vec_capacity, ◌+◌, ◌≤◌, subst, sym, Bool, true, false, cond}
use Rattle.std.specs.Bool.{OnTrue, OnFalse}
use Rattle.texts.specs.Made.{Made}
use Rattle.backsim_io.specs.FilesInMemory.{files_with}
use Rattle.backsim_io.specs.inner.FilesInMemory.{files_of, HasRoomAt}

-- the file whose bytes are more has grown
pub files_of-set : (files : List (List ℕ × Vec ℕ Global)) (place : ℕ) (old new : List ℕ × Vec ℕ Global) (more : List ℕ) → place < length files → old ≡ get_or files place old → new.0 ≡ old.0 → new.1.items ≡ old.1.items ++ more → files_of (set files place new) ≡ files_with (files_of files) place more
files_of-set [] place old new more within at name bytes = absurd (omega arith)
files_of-set (file ∷ files) zero old new more within at name bytes =
    let named : new.0 ≡ file.0 = name ∙ ap (λ (f : List ℕ × Vec ℕ Global). f.0) at in
    let written : new.1.items ≡ file.1.items ++ more = bytes ∙ ap (λ (f : List ℕ × Vec ℕ Global). f.1.items ++ more) at in
    ap (λ (l : List ℕ). record { name = l; bytes = new.1.items } ∷ files_of files) named ∙ ap (λ (l : List ℕ). record { name = file.0; bytes = l } ∷ files_of files) written
files_of-set (file ∷ files) (suc place) old new more within at name bytes = ap (λ (l : List Made). record { name = file.0; bytes = file.1.items } ∷ l) (files_of-set files place old new more (omega arith) at name bytes)

-- a file that took nothing is as it was
pub files_of-set_same : (files : List (List ℕ × Vec ℕ Global)) (place : ℕ) (old new : List ℕ × Vec ℕ Global) → place < length files → old ≡ get_or files place old → new.0 ≡ old.0 → new.1.items ≡ old.1.items → files_of (set files place new) ≡ files_of files
files_of-set_same [] place old new within at name bytes = absurd (omega arith)
files_of-set_same (file ∷ files) zero old new within at name bytes =
    let named : new.0 ≡ file.0 = name ∙ ap (λ (f : List ℕ × Vec ℕ Global). f.0) at in
    let written : new.1.items ≡ file.1.items = bytes ∙ ap (λ (f : List ℕ × Vec ℕ Global). f.1.items) at in
    ap (λ (l : List ℕ). record { name = l; bytes = new.1.items } ∷ files_of files) named ∙ ap (λ (l : List ℕ). record { name = file.0; bytes = l } ∷ files_of files) written
files_of-set_same (file ∷ files) (suc place) old new within at name bytes = ap (λ (l : List Made). record { name = file.0; bytes = file.1.items } ∷ l) (files_of-set_same files place old new (omega arith) at name bytes)

pub grown_if : (ok : Bool) (files : List (List ℕ × Vec ℕ Global)) (place : ℕ) (old new : List ℕ × Vec ℕ Global) (more : List ℕ) → place < length files → old ≡ get_or files place old → new.0 ≡ old.0 → new.1.items ≡ cond ok (old.1.items ++ more) old.1.items → OnTrue ok (files_of (set files place new) ≡ files_with (files_of files) place more)
grown_if true files place old new more within at name bytes = files_of-set files place old new more within at name bytes
grown_if false files place old new more within at name bytes = tt

pub same_if : (ok : Bool) (files : List (List ℕ × Vec ℕ Global)) (place : ℕ) (old new : List ℕ × Vec ℕ Global) (more : List ℕ) → place < length files → old ≡ get_or files place old → new.0 ≡ old.0 → new.1.items ≡ cond ok (old.1.items ++ more) old.1.items → OnFalse ok (files_of (set files place new) ≡ files_of files)
same_if true files place old new more within at name bytes = tt
same_if false files place old new more within at name bytes = files_of-set_same files place old new within at name bytes

-- the file that is at a place has room where the place has
pub room-here : (files : List (List ℕ × Vec ℕ Global)) (place more : ℕ) (file : List ℕ × Vec ℕ Global) → place < length files → file ≡ get_or files place file → HasRoomAt files place more → vec_len file.1 + more ≤ vec_capacity file.1
room-here [] place more file within at room = absurd (omega arith)
room-here (first ∷ files) zero more file within at room = subst (λ (f : List ℕ × Vec ℕ Global). vec_len f.1 + more ≤ vec_capacity f.1) (sym at) room
room-here (first ∷ files) (suc place) more file within at room = room-here files place more file (omega arith) at room
