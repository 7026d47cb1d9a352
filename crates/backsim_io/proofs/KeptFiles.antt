-- Created files of which only the first bytes are kept, against the files that were written.
use Rattle.std.proofs.Common.{◌≡◌, ℕ, zero, suc, ◌<◌, ◌≤◌, List, [], ◌∷◌, ◌++◌, length, map, take, get_or, set, arith, refl, ap, ◌∙◌, sym, Some, None, option_map, slice_get, All, subst, length-append}
use Rattle.std.proofs.Math.Nat.{sub_self}
use Rattle.std.proofs.lemmas.List.{get_or_append_left, get_or-append_right, map-append}
use Rattle.texts.specs.Made.{Made}
use Rattle.backsim_io.specs.FilesInMemory.{files_with}
use Rattle.backsim_io.specs.KeptBytes.{kept_more}
use Rattle.backsim_io.specs.inner.SureFiles.{KeptFile, IsBlank, kept_file, front_of}
use Rattle.backsim_io.proofs.Room.{kept_after}

-- the first file of two equal lists
same_first : (a b : Made) (xs ys : List Made) → a ∷ xs ≡ b ∷ ys → a ≡ b
same_first a b xs ys same = cc

same_rest : (a b : Made) (xs ys : List Made) → a ∷ xs ≡ b ∷ ys → xs ≡ ys
same_rest a b xs ys same = cc

-- what is kept at a place is the front of the file there
pub kept_at : (room : ℕ) (files : List Made) (created : List KeptFile) (slot : ℕ) (d : KeptFile) → slot < length created → map (front_of room) files ≡ map kept_file created → Some (get_or created slot d).bytes.bytes ≡ option_map (λ file. take room file.bytes) (slice_get files slot)
kept_at room files [] slot d within told = absurd (omega arith)
kept_at room [] (k ∷ ks) slot d within told = cc
kept_at room (f ∷ fs) (k ∷ ks) zero d within told = ap (λ (m : Made). Some m.bytes) (sym (same_first _ _ _ _ told))
kept_at room (f ∷ fs) (k ∷ ks) (suc slot) d within told = kept_at room fs ks slot d (omega arith) (same_rest _ _ _ _ told)

-- where nothing is kept no file is
pub kept_past : (room : ℕ) (files : List Made) (created : List KeptFile) (slot : ℕ) → length created ≤ slot → map (front_of room) files ≡ map kept_file created → None ≡ option_map (λ file. take room file.bytes) (slice_get files slot)
kept_past room [] created slot past told = refl
kept_past room (f ∷ fs) [] slot past told = cc
kept_past room (f ∷ fs) (k ∷ ks) zero past told = absurd (omega arith)
kept_past room (f ∷ fs) (k ∷ ks) (suc slot) past told = kept_past room fs ks slot (omega arith) (same_rest _ _ _ _ told)

-- a write into a file, of which is kept what there is room for
pub kept-grown : (room : ℕ) (files : List Made) (created : List KeptFile) (slot : ℕ) (old new : KeptFile) (piece : List ℕ) → slot < length created → old ≡ get_or created slot old → old.bytes.room ≡ room → new ≡ record old { bytes = kept_more old.bytes piece } → map (front_of room) files ≡ map kept_file created → map (front_of room) (files_with files slot piece) ≡ map kept_file (set created slot new)
kept-grown room files [] slot old new piece within at fits is told = absurd (omega arith)
kept-grown room [] (k ∷ ks) slot old new piece within at fits is told = cc
kept-grown room (f ∷ fs) (k ∷ ks) zero old new piece within at fits is told =
    let first = same_first (front_of room f) (kept_file k) (map (front_of room) fs) (map kept_file ks) told in
    let rest = same_rest (front_of room f) (kept_file k) (map (front_of room) fs) (map kept_file ks) told in
    let name : take 255 f.name ≡ old.name = ap (λ (m : Made). m.name) first ∙ ap (λ (l : KeptFile). l.name) (sym at) in
    let before : take room f.bytes ≡ old.bytes.bytes = ap (λ (m : Made). m.bytes) first ∙ ap (λ (l : KeptFile). l.bytes.bytes) (sym at) in
    let after : take room (f.bytes ++ piece) ≡ take old.bytes.room (old.bytes.bytes ++ piece) = kept_after room f.bytes old.bytes.bytes piece before ∙ ap (λ n. take n (old.bytes.bytes ++ piece)) (sym fits) in
    let file : front_of room (record f { bytes = f.bytes ++ piece }) ≡ kept_file new =
    ap (λ (l : List ℕ). record { name = l; bytes = take room (f.bytes ++ piece) }) name ∙ ap (λ (l : List ℕ). record { name = old.name; bytes = l }) after ∙ ap kept_file (sym is) in
    ap (λ (l : Made). l ∷ map (front_of room) fs) file ∙ ap (λ (l : List Made). kept_file new ∷ l) rest
kept-grown room (f ∷ fs) (k ∷ ks) (suc slot) old new piece within at fits is told =
    let first = same_first (front_of room f) (kept_file k) (map (front_of room) fs) (map kept_file ks) told in
    let rest = same_rest (front_of room f) (kept_file k) (map (front_of room) fs) (map kept_file ks) told in
    ap (λ (l : Made). l ∷ map (front_of room) (files_with fs slot piece)) first ∙ ap (λ (l : List Made). kept_file k ∷ l) (kept-grown room fs ks slot old new piece (omega arith) at fits is rest)

take-nil : (n : ℕ) → take {A = ℕ} n [] ≡ []
take-nil zero = refl
take-nil (suc n) = refl

-- the places that are left are blank too
pub blank_front : (room : ℕ) (xs ys all : List KeptFile) → all ≡ xs ++ ys → All (IsBlank room) all → All (IsBlank room) xs
blank_front room xs ys all is blank = λ k d within.
    let there : get_or all k d ≡ get_or xs k d = ap (λ (l : List KeptFile). get_or l k d) is ∙ get_or_append_left xs ys d k within in
    subst (IsBlank room) there (blank k d (omega (arith, length-append xs ys, ap length is)))

pub blank_last : (room : ℕ) (xs : List KeptFile) (x : KeptFile) (all : List KeptFile) → all ≡ xs ++ x ∷ [] → All (IsBlank room) all → IsBlank room x
blank_last room xs x all is blank =
    let there : get_or all (length xs) x ≡ x = ap (λ (l : List KeptFile). get_or l (length xs) x) is ∙ get_or-append_right xs (x ∷ []) (length xs) (length xs) x refl (omega arith) ∙ ap (λ n. get_or (x ∷ []) n x) (sub_self (length xs)) in
    subst (IsBlank room) there (blank (length xs) x (omega (arith, length-append xs (x ∷ []), ap length is)))

-- a new file after the others, of whose name the front is kept
pub kept-created : (room : ℕ) (files : List Made) (created : List KeptFile) (file : KeptFile) (name : List ℕ) → file.name ≡ take 255 name → file.bytes.bytes ≡ [] → map (front_of room) files ≡ map kept_file created → map (front_of room) (files ++ record { name = name; bytes = [] } ∷ []) ≡ map kept_file (created ++ file ∷ [])
kept-created room files created file name named empty told =
    let new : front_of room (record { name = name; bytes = [] }) ≡ kept_file file =
    ap (λ (l : List ℕ). record { name = l; bytes = take room [] }) (sym named) ∙ ap (λ (l : List ℕ). record { name = file.name; bytes = l }) (take-nil room ∙ sym empty) in
    map-append (front_of room) files _ ∙ ap (λ (l : List Made). l ++ front_of room (record { name = name; bytes = [] }) ∷ []) told ∙ ap (λ (m : Made). map kept_file created ++ m ∷ []) new ∙ sym (map-append kept_file created (file ∷ []))
