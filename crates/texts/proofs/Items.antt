-- Items that are spelled one after another are read again, up to what is none.
use Rattle.std.proofs.Common.{◌≡◌, ℕ, zero, suc, ◌<◌, ◌≤◌, List, [], ◌∷◌, ◌++◌, length, Option, Some, None, refl, sym, ap, ◌∙◌, append_assoc, append-nil, length-append, arith}
use Rattle.std.specs.Prelude.{flat_map}
use Rattle.std.specs.List.{AllByRecursion}
use Rattle.std.specs.Option.{option_map_or}
use Rattle.texts.specs.fields.Reading.{put_first, items_at}

-- the items have these lines: what is read is spelled so, what is spelled so is read, and a line has a byte
pub record AreSpelled {A : Type 0} (item_at : List ℕ → Option (A × List ℕ)) (item_line : A → List ℕ) (IsItem : A → Type 0) : Type 0 where
  pub takes : (text : List ℕ) (x : A) (rest : List ℕ) → item_at text ≡ Some (x, rest) → (text ≡ item_line x ++ rest) × IsItem x
  pub again : (x : A) (rest : List ℕ) → IsItem x → item_at (item_line x ++ rest) ≡ Some (x, rest)
  pub some : (x : A) → 0 < length (item_line x)

-- what was read of a text, up to what is none
pub record AreRead {A : Type 0} (item_at : List ℕ → Option (A × List ℕ)) (item_line : A → List ℕ) (IsItem : A → Type 0) (text : List ℕ) (read : List A × List ℕ) : Type 0 where
  pub spelled : text ≡ flat_map item_line read.0 ++ read.1
  pub items : AllByRecursion IsItem read.0
  pub stop : item_at read.1 ≡ None

-- the items that were read, in front of those that are read next
abbrev pub put_all : {A : Type 0} → List A → List A × List ℕ → List A × List ℕ
put_all xs read = (xs ++ read.0, read.1)

module _ {A : Type 0} {item_at : List ℕ → Option (A × List ℕ)} {item_line : A → List ℕ} {IsItem : A → Type 0} (spelling : AreSpelled item_at item_line IsItem) where
  -- what stands after an item is shorter
  pub shorter : (text : List ℕ) (x : A) (rest : List ℕ) → item_at text ≡ Some (x, rest) → length rest < length text
  shorter text x rest is = omega (arith, spelling.some x, ap length (spelling.takes text x rest is).0, length-append (item_line x) rest)

  abbrev next : ℕ → List ℕ → Option (A × List ℕ) → List A × List ℕ
  next most text found = option_map_or (λ read. put_first read.0 (items_at item_at most read.1)) found ([], text)

  none_empty : (found : Option (A × List ℕ)) → item_at [] ≡ found → item_at [] ≡ None
  none_empty None is = is
  none_empty (Some (x, rest)) is = absurd (omega (arith, shorter [] x rest is))

  read_next : (most : ℕ) (text : List ℕ) (found : Option (A × List ℕ)) → item_at text ≡ found → length text ≤ suc most → ((rest : List ℕ) → length rest ≤ most → AreRead item_at item_line IsItem rest (items_at item_at most rest)) → AreRead item_at item_line IsItem text (next most text found)
  read_next most text None is fits more = record { spelled = refl; items = tt; stop = is }
  read_next most text (Some (x, rest)) is fits more =
      let first = spelling.takes text x rest is in
      let others = more rest (omega (arith, shorter text x rest is)) in
      let read = items_at item_at most rest in
      record {
        spelled = first.0 ∙ ap (λ (l : List ℕ). item_line x ++ l) others.spelled ∙ sym (append_assoc (item_line x) (flat_map item_line read.0) read.1);
        items = (first.1, others.items);
        stop = others.stop;
      }

  pub items_take : (most : ℕ) (text : List ℕ) → length text ≤ most → AreRead item_at item_line IsItem text (items_at item_at most text)
  items_take zero [] fits = record { spelled = refl; items = tt; stop = none_empty (item_at []) refl }
  items_take zero (b ∷ text) fits = absurd (omega arith)
  items_take (suc most) text fits = read_next most text (item_at text) refl fits (items_take most)

  pub items_again : (most : ℕ) (xs : List A) (rest : List ℕ) → AllByRecursion IsItem xs → item_at rest ≡ None → length (flat_map item_line xs ++ rest) ≤ most → items_at item_at most (flat_map item_line xs ++ rest) ≡ (xs, rest)
  items_again zero [] rest are stop fits = refl
  items_again (suc most) [] rest are stop fits = ap (next most rest) stop
  items_again zero (x ∷ xs) rest are stop fits = absurd (omega (arith, spelling.some x, length-append (item_line x ++ flat_map item_line xs) rest, length-append (item_line x) (flat_map item_line xs)))
  items_again (suc most) (x ∷ xs) rest are stop fits =
      let text : List ℕ = flat_map item_line xs ++ rest in
      let apart : (item_line x ++ flat_map item_line xs) ++ rest ≡ item_line x ++ text = append_assoc (item_line x) (flat_map item_line xs) rest in
      let found : item_at (item_line x ++ text) ≡ Some (x, text) = spelling.again x text are.0 in
      let more : items_at item_at most text ≡ (xs, rest) = items_again most xs rest are.1 stop (omega (arith, spelling.some x, ap length apart, length-append (item_line x) text)) in
      ap (items_at item_at (suc most)) apart ∙ ap (next most (item_line x ++ text)) found ∙ ap (put_first x) more

  pub items_count : (most : ℕ) (text : List ℕ) → length (items_at item_at most text).0 ≤ most
  items_count zero text = omega arith
  items_count (suc most) text = go (item_at text) (items_count most)
    where
      go : (found : Option (A × List ℕ)) → ((rest : List ℕ) → length (items_at item_at most rest).0 ≤ most) → length (next most text found).0 ≤ suc most
      go None more = omega arith
      go (Some (x, rest)) more = let m = more rest in omega (arith, m)

  same_next : (j k : ℕ) (text : List ℕ) (found : Option (A × List ℕ)) → item_at text ≡ found → length text ≤ suc j → length text ≤ suc k → ((rest : List ℕ) → length rest ≤ j → length rest ≤ k → items_at item_at j rest ≡ items_at item_at k rest) → next j text found ≡ next k text found
  same_next j k text None is a b more = refl
  same_next j k text (Some (x, rest)) is a b more =
      let less = shorter text x rest is in
      ap (put_first x) (more rest (omega (arith, less)) (omega (arith, less)))

  stop_next : (k : ℕ) (text : List ℕ) (found : Option (A × List ℕ)) → item_at text ≡ found → length text ≤ 0 → ([], text) ≡ next k text found
  stop_next k text None is a = refl
  stop_next k text (Some (x, rest)) is a = absurd (omega (arith, shorter text x rest is))

  -- no more are read than there are
  items_enough : (j k : ℕ) (text : List ℕ) → length text ≤ j → length text ≤ k → items_at item_at j text ≡ items_at item_at k text
  items_enough zero zero text a b = refl
  items_enough zero (suc k) text a b = stop_next k text (item_at text) refl a
  items_enough (suc j) zero text a b = sym (stop_next j text (item_at text) refl b)
  items_enough (suc j) (suc k) text a b = same_next j k text (item_at text) refl a b (items_enough j k)

  next_is : (most : ℕ) (text : List ℕ) (x : A) (rest : List ℕ) → length text ≡ most → item_at text ≡ Some (x, rest) → items_at item_at most text ≡ put_first x (items_at item_at (length rest) rest)
  next_is zero text x rest is found = absurd (omega (arith, shorter text x rest found))
  next_is (suc most) text x rest is found = ap (next most text) found ∙ ap (put_first x) (items_enough most (length rest) rest (omega (arith, shorter text x rest found)) (omega arith))

  pub put_next : (xs : List A) (text : List ℕ) (x : A) (rest : List ℕ) → item_at text ≡ Some (x, rest) → put_all (xs ++ x ∷ []) (items_at item_at (length rest) rest) ≡ put_all xs (items_at item_at (length text) text)
  put_next xs text x rest found =
      let read = items_at item_at (length rest) rest in
      ap (λ (l : List A). (l, read.1)) (append_assoc xs (x ∷ []) read.0) ∙ sym (ap (put_all xs) (next_is (length text) text x rest refl found))

  pub put_last : (xs : List A) (text : List ℕ) → item_at text ≡ None → put_all xs (items_at item_at (length text) text) ≡ (xs, text)
  put_last xs text stop = last (length text) ∙ ap (λ (l : List A). (l, text)) (append-nil xs)
    where
      last : (most : ℕ) → put_all xs (items_at item_at most text) ≡ (xs ++ [], text)
      last zero = refl
      last (suc most) = ap (λ found. put_all xs (next most text found)) stop
