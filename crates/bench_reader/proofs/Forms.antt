-- Names, read one by one, and the form of a line.
use Rattle.std.proofs.Common.{◌≡◌, ℕ, Bool, true, false, List, [], ◌∷◌, ◌++◌, Option, Some, None, refl, sym, ap, ◌∙◌, append_assoc}
use Rattle.std.specs.Borrow.{Bor}
use Rattle.std.proofs.lemmas.List.{map-append}
use Rattle.texts.specs.Text.{is_name, line_tokens}
use Rattle.bench_reader.specs.Lines.{is_the, with_front, pin_list, by_tokens, line_of}
use Rattle.bench_reader.specs.Views.{each_now}
use Rattle.bench_reader.proofs.Places.{same_bytes, same_names}

-- a token is a mark, or it is not
is_yes : (mark b : ℕ) → b ≡ mark → is_the mark (b ∷ []) ≡ true
is_yes mark b e = rw e (same_bytes (mark ∷ []))

is_no : (mark b : ℕ) → (b ≡ mark → ⊥) → is_the mark (b ∷ []) ≡ false
is_no mark b h = cases (is_the mark (b ∷ [])) refl
  where
    cases : (v : Bool) → is_the mark (b ∷ []) ≡ v → v ≡ false
    cases false e = refl
    cases true e = let same : b ∷ [] ≡ mark ∷ [] = same_names (b ∷ []) (mark ∷ []) e in absurd (h cc)

-- a list, behind the names that were read
abbrev pub behind : List (List ℕ) → Option (List (List ℕ)) → Option (List (List ℕ))
behind front None = None
behind front (Some ns) = Some (front ++ ns)

pub list_begun : (items : List (Bor (List ℕ))) (o : Option (List (List ℕ))) → items ≡ [] → behind (each_now items) o ≡ o
list_begun items None is = refl
list_begun items (Some ns) is = ap (λ (l : List (Bor (List ℕ))). Some (each_now l ++ ns)) is

push-now : (items new : List (Bor (List ℕ))) (x : Bor (List ℕ)) → new ≡ items ++ x ∷ [] → each_now new ≡ each_now items ++ x.now ∷ []
push-now items new x is = ap each_now is ∙ map-append (λ (p : Bor (List ℕ)). p.now) items (x ∷ [])

behind-push : (front : List (List ℕ)) (n : List ℕ) (o : Option (List (List ℕ))) → behind (front ++ n ∷ []) o ≡ behind front (with_front n o)
behind-push front n None = refl
behind-push front n (Some ns) = ap Some (append_assoc front (n ∷ []) ns)

pub list_longer : (items new : List (Bor (List ℕ))) (x : Bor (List ℕ)) (ts us more : List (List ℕ)) (b : ℕ) (total : Option (List (List ℕ))) → new ≡ items ++ x ∷ []
    → behind (each_now items) (pin_list ts) ≡ total → ts ≡ x.now ∷ us → is_name x.now ≡ true → us ≡ (b ∷ []) ∷ more → (b ≡ 41 → ⊥) → b ≡ 44 → behind (each_now new) (pin_list more) ≡ total
list_longer items new x ts us more b total new-is so_far is named us-is close comma =
    let step : pin_list (x.now ∷ (b ∷ []) ∷ more) ≡ with_front x.now (pin_list more) = rw (named, is_no 41 b close, is_yes 44 b comma) refl in
    let all : pin_list ts ≡ with_front x.now (pin_list more) = ap pin_list (is ∙ ap (λ (l : List (List ℕ)). x.now ∷ l) us-is) ∙ step in
    ap (λ (f : List (List ℕ)). behind f (pin_list more)) (push-now items new x new-is) ∙ behind-push (each_now items) x.now (pin_list more) ∙ ap (behind (each_now items)) (sym all) ∙ so_far

-- the form of a line is that of its tokens
pub line_is : (line : List ℕ) → by_tokens (line_tokens line) ≡ line_of line
unfolding line_of line_tokens
line_is line = refl
