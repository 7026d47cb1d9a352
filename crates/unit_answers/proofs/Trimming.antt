-- Stores that are trimmed one after another.
use Rattle.std.proofs.Common.{◌≡◌, ℕ, zero, suc, ◌+◌, ◌<◌, ◌≤◌, List, [], ◌∷◌, ◌++◌, length, get_or, set, map, reverse, drop, take, refl, sym, ap, subst, ◌∙◌, arith, add-one}
use Rattle.std.proofs.lemmas.List.{map-append, reverse-append, take_more, take_all, drop_all, append-nil}
use Rattle.valid_intervals.specs.declared.SignalCell.{SignalCell}
use Rattle.cell_store.specs.Recency.{Contents, key_of}
use Rattle.journal_meaning.specs.declared.Entry.{Entry}
use Rattle.journal_meaning.specs.declared.Entry.TheVariants.{Evicted}
use Rattle.journal_meaning.specs.States.{fresh}
use Rattle.journal_meaning.specs.Replay.{replay, IsLegalTrim}
use Rattle.journal_meaning.specs.Trims.{evictions_back}
use Rattle.journal_meaning.proofs.Callers.{trim-legal, trim-leaves}
use Rattle.session_meaning.specs.Session.{trim_entries}
use Rattle.unit_answers.specs.inner.Trims.{eviction_of, trimmed_store, entries_at}

abbrev eviction : SignalCell → Entry
eviction x = Evicted x.signal x.cell.span.start

-- the last first
back-first : (cells : List SignalCell) → map eviction (reverse cells) ≡ evictions_back cells
back-first [] = refl
back-first (x ∷ cells) = ap (map eviction) (reverse-append (x ∷ []) cells) ∙ map-append eviction (reverse cells) (x ∷ []) ∙ ap (λ l. l ++ eviction x ∷ []) (back-first cells)

keys-first : (cells : List SignalCell) → map eviction_of (reverse (map key_of cells)) ≡ evictions_back cells
keys-first [] = refl
keys-first (x ∷ cells) = ap (map eviction_of) (reverse-append (key_of x ∷ []) (map key_of cells)) ∙ map-append eviction_of (reverse (map key_of cells)) (key_of x ∷ []) ∙ ap (λ l. l ++ eviction x ∷ []) (keys-first cells)

-- the entries of a trim are those of the keys that it removes
pub trim-keys : (most : ℕ) (cells : List SignalCell) → map eviction_of (reverse (map key_of (drop most cells))) ≡ trim_entries most cells
trim-keys most cells = keys-first (drop most cells) ∙ sym (back-first (drop most cells))

-- they are legal
pub trims-legal : (most : ℕ) (cells : List SignalCell) → IsLegalTrim (fresh cells) (trim_entries most cells)
trims-legal most cells = subst (IsLegalTrim (fresh cells)) (sym (back-first (drop most cells))) (trim-legal most cells)

-- and leave the first cells
pub trims-leave : (most : ℕ) (cells : List SignalCell) → (replay (fresh cells) (trim_entries most cells)).cells ≡ take most cells
trims-leave most cells = ap (λ es. (replay (fresh cells) es).cells) (back-first (drop most cells)) ∙ trim-leaves most cells

-- the first so many changed
abbrev pub changed : {X : Type 0} → (X → X) → ℕ → List X → List X
changed f zero xs = xs
changed f (suc n) [] = []
changed f (suc n) (x ∷ xs) = f x ∷ changed f n xs

module _ {X : Type 0} (f : X → X) where
  changed-at : (xs : List X) (n : ℕ) (d : X) → get_or (changed f n xs) n d ≡ get_or xs n d
  changed-at xs zero d = refl
  changed-at [] (suc n) d = refl
  changed-at (x ∷ xs) (suc n) d = changed-at xs n d

  changed-more : (xs : List X) (n : ℕ) (d : X) → n < length xs → set (changed f n xs) n (f (get_or xs n d)) ≡ changed f (suc n) xs
  changed-more [] n d low = absurd (omega arith)
  changed-more (x ∷ xs) zero d low = refl
  changed-more (x ∷ xs) (suc n) d low = ap (λ l. f x ∷ l) (changed-more xs n d (omega arith))

  changed-all : (xs : List X) (n : ℕ) → length xs ≤ n → changed f n xs ≡ map f xs
  changed-all [] zero low = refl
  changed-all [] (suc n) low = refl
  changed-all (x ∷ xs) zero low = absurd (omega arith)
  changed-all (x ∷ xs) (suc n) low = ap (λ l. f x ∷ l) (changed-all xs n (omega arith))

-- the first so many of the stores are trimmed
pub record AreTrimmed (most n : ℕ) (old now : List Contents) (lists : List (List Entry)) : Type 0 where
  pub stores : now ≡ changed (trimmed_store most) n old
  pub entries : lists ≡ map (entries_at most) (take n old)

-- one store more
pub trims-more : (most n : ℕ) (old now : List Contents) (lists more : List (List Entry)) (d y : Contents) (es : List Entry) → AreTrimmed most n old now lists
    → n < length old → y ≡ trimmed_store most (get_or now n d) → es ≡ entries_at most (get_or now n d) → more ≡ lists ++ es ∷ [] → AreTrimmed most (n + 1) old (set now n y) more
trims-more most n old now lists more d y es h within left is push =
    let f : Contents → Contents = trimmed_store most in
    let g : Contents → List Entry = entries_at most in
    let here : get_or now n d ≡ get_or old n d = ap (λ l. get_or l n d) h.stores ∙ changed-at f old n d in
    record {
      stores = ap (λ l. set l n y) h.stores ∙ ap (set (changed f n old) n) (left ∙ ap f here) ∙ changed-more f old n d within ∙ ap (λ k. changed f k old) (sym (add-one n));
      entries = push ∙ ap (λ l. l ++ es ∷ []) h.entries ∙ ap (λ e. map g (take n old) ++ e ∷ []) (is ∙ ap g here)
          ∙ sym (map-append g (take n old) (get_or old n d ∷ [])) ∙ sym (ap (map g) (take_more old n d within));
    }

-- all stores
pub trims-stores : (most n : ℕ) (old now : List Contents) (lists : List (List Entry)) → AreTrimmed most n old now lists → length old ≤ n → now ≡ map (trimmed_store most) old
trims-stores most n old now lists h low = h.stores ∙ changed-all (trimmed_store most) old n low

pub trims-entries : (most n : ℕ) (old now : List Contents) (lists : List (List Entry)) → AreTrimmed most n old now lists → length old ≤ n → lists ≡ map (entries_at most) old
trims-entries most n old now lists h low = h.entries ∙ ap (map (entries_at most)) (take_all n old low)

-- what is written back into a vector is all of it
pub written-back : {X : Type 0} (old now : List X) (n : ℕ) → n ≡ length old → length now ≡ length old → take n (now ++ drop (length now) old) ≡ now
written-back old now n many same = ap (λ l. take n (now ++ l)) (drop_all (length now) old (omega arith)) ∙ ap (take n) (append-nil now) ∙ take_all n now (omega arith)
