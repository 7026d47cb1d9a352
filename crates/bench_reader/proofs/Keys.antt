-- The numbers of names, one after another.
use Rattle.std.proofs.Common.{◌≡◌, ℕ, ◌+◌, ◌<◌, ◌≤◌, List, [], ◌∷◌, ◌++◌, length, map, take, get_or, refl, sym, ap, subst, ◌∙◌, append_assoc}
use Rattle.std.specs.Str.{bytes_eq}
use Rattle.std.specs.Borrow.{Bor}
use Rattle.std.proofs.lemmas.List.{append-nil, map-append, take_more, take_all}
use Rattle.indexmap.specs.IndexSet.{insert_key, insert_all}
use Rattle.bench_reader.specs.Netlists.{place}
use Rattle.bench_reader.specs.inner.Reading.{Numbered}
use Rattle.bench_reader.proofs.Places.{number_step}

-- the list is this front with the numbers of these names
pub record Adds (ks : List (List ℕ)) (front all : List ℕ) (named : List (List ℕ)) : Type 0 where
  pub ids : List ℕ
  pub split : all ≡ front ++ ids
  pub numbered : Numbered ks ids named

pub adds_none : (ks : List (List ℕ)) (front : List ℕ) → Adds ks front front []
adds_none ks front = record { ids = []; split = sym (append-nil front); numbered = record { ids_are = refl; there = refl } }

pub adds_all : (ks : List (List ℕ)) (front all : List ℕ) (listed : List (Bor (List ℕ))) (i : ℕ) → length listed ≤ i → Adds ks front all (map (λ p. p.now) (take i listed)) → all ≡ front ++ map (place ks) (map (λ p. p.now) listed)
adds_all ks front all listed i le h = h.split ∙ ap (λ (l : List ℕ). front ++ l) (h.numbered.ids_are ∙ ap (λ (l : List (Bor (List ℕ))). map (place ks) (map (λ p. p.now) l)) (take_all i listed le))

insert_all-push : (ks xs : List (List ℕ)) (x : List ℕ) → insert_all bytes_eq ks (xs ++ x ∷ []) ≡ insert_key bytes_eq (insert_all bytes_eq ks xs) x
insert_all-push ks [] x = refl
insert_all-push ks (y ∷ xs) x = insert_all-push (insert_key bytes_eq ks y) xs x

pub all_step : (first keys new : List (List ℕ)) (front all new_all : List ℕ) (listed : List (Bor (List ℕ))) (i : ℕ) (d : Bor (List ℕ)) (id : ℕ) → i < length listed
    → keys ≡ insert_all bytes_eq first (map (λ p. p.now) (take i listed)) → Adds keys front all (map (λ p. p.now) (take i listed))
    → new ≡ insert_key bytes_eq keys (get_or listed i d).now → id ≡ place new (get_or listed i d).now → new_all ≡ all ++ id ∷ []
    → (new ≡ insert_all bytes_eq first (map (λ p. p.now) (take (i + 1) listed))) × Adds new front new_all (map (λ p. p.now) (take (i + 1) listed))
all_step first keys new front all new_all listed i d id lt keys-are adds new-is id-is all-is =
    let f : Bor (List ℕ) → List ℕ = λ p. p.now in
    let x = (get_or listed i d).now in
    let named : map f (take (i + 1) listed) ≡ map f (take i listed) ++ x ∷ [] = ap (map f) (take_more listed i d lt) ∙ map-append f (take i listed) (get_or listed i d ∷ []) in
    let after = insert_key bytes_eq keys x in
    let step = number_step keys adds.ids (map f (take i listed)) x adds.numbered in
    let id-after : id ≡ place after x = id-is ∙ ap (λ (l : List (List ℕ)). place l x) new-is in
    let split : new_all ≡ front ++ (adds.ids ++ place after x ∷ []) = all-is ∙ ap (λ (l : List ℕ). l ++ id ∷ []) adds.split ∙ append_assoc front adds.ids (id ∷ []) ∙ ap (λ (n : ℕ). front ++ (adds.ids ++ n ∷ [])) id-after in
    let grown : Adds after front new_all (map f (take i listed) ++ x ∷ []) = record { ids = adds.ids ++ place after x ∷ []; split = split; numbered = step } in (
      new-is ∙ ap (λ (l : List (List ℕ)). insert_key bytes_eq l x) keys-are ∙ sym (ap (insert_all bytes_eq first) named ∙ insert_all-push first (map f (take i listed)) x),
      subst (λ (l : List (List ℕ)). Adds l front new_all (map f (take (i + 1) listed))) (sym new-is) (subst (λ (l : List (List ℕ)). Adds after front new_all l) (sym named) grown),
    )
