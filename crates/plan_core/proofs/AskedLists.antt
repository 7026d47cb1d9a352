-- Lists, one element after another.
use Rattle.std.proofs.Common.{◌≡◌, ℕ, zero, suc, ◌+◌, ◌<◌, List, [], ◌∷◌, ◌++◌, length, get_or, take, map, Contains, sym, ap, subst, ◌∙◌, arith}
use Rattle.std.proofs.lemmas.List.{map_more}
use Rattle.std.proofs.lemmas.List.Elements.{All-weaker, All-contains_itself, recursion_from_All}
use Rattle.journal_meaning.proofs.Callers.{Each}

-- what holds of each element holds of the one at a place
pub each-at : {X : Type 0} (P : X → Type 0) (xs : List X) → Each P xs → (i : ℕ) (d : X) → i < length xs → P (get_or xs i d)
each-at P [] h i d low = absurd (omega arith)
each-at P (x ∷ xs) h zero d low = h.0
each-at P (x ∷ xs) h (suc i) d low = each-at P xs h.1 i d (omega arith)

-- and of the one of a loop's step
pub each-item : {X : Type 0} (P : X → Type 0) (xs : List X) → Each P xs → (n : ℕ) (x : X) → n < length xs → x ≡ get_or xs n x → P x
each-item P xs h n x low is = subst P (sym is) (each-at P xs h n x low)

-- what holds of every element by its being one holds of each
pub each-from : {X : Type 0} (P : X → Type 0) (xs : List X) → ((x : X) → Contains xs x → P x) → Each P xs
each-from P xs f = recursion_from_All P xs (All-weaker (Contains xs) P f xs (All-contains_itself xs))

-- what becomes of the first elements, with the one of a loop's step
pub map-item : {X Y : Type 0} (f : X → Y) (xs : List X) (n : ℕ) (x : X) → n < length xs → x ≡ get_or xs n x → map f (take (n + 1) xs) ≡ map f (take n xs) ++ f x ∷ []
map-item f xs n x low is = map_more f xs n x low ∙ ap (λ y. map f (take n xs) ++ f y ∷ []) (sym is)
