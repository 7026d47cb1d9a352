-- What holds of two lists place by place.
use Rattle.std.proofs.Common.{ℕ, zero, suc, ◌<◌, List, [], ◌∷◌, length, get_or, arith}
use Rattle.std.specs.List.{AllZip}

-- it holds of what stands at a place
pub zip-get : {A B : Type 0} (P : A → B → Type 0) (xs : List A) (ys : List B) (i : ℕ) (a : A) (b : B) → AllZip P xs ys → i < length xs → P (get_or xs i a) (get_or ys i b)
zip-get P [] [] i a b h l = absurd (omega (arith, l))
zip-get P (x ∷ xs) [] i a b h l = absurd h
zip-get P [] (y ∷ ys) i a b h l = absurd h
zip-get P (x ∷ xs) (y ∷ ys) zero a b h l = h.0
zip-get P (x ∷ xs) (y ∷ ys) (suc i) a b h l = zip-get P xs ys i a b h.1 (omega (arith, l))

-- so does what follows from it
pub zip-weaker : {A B : Type 0} (P Q : A → B → Type 0) → ((a : A) (b : B) → P a b → Q a b) → (xs : List A) (ys : List B) → AllZip P xs ys → AllZip Q xs ys
zip-weaker P Q f [] [] h = h
zip-weaker P Q f (x ∷ xs) [] h = absurd h
zip-weaker P Q f [] (y ∷ ys) h = absurd h
zip-weaker P Q f (x ∷ xs) (y ∷ ys) h = (f x y h.0, zip-weaker P Q f xs ys h.1)
