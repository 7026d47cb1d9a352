-- Names with places, and what is known of each.
use Rattle.std.proofs.Common.{◌≡◌, ℕ, zero, suc, ◌+◌, ◌<◌, ◌≤◌, ◌&&◌, ◌||◌, Bool, true, false, cond, eqb, ltb, eqb-true, eq-eqb, List, [], ◌∷◌, ◌++◌, length, get_or, set, Option, Some, None, refl, sym, ap, ap₂, subst, ◌∙◌, arith, inl, inr, length-append}
use Rattle.std.specs.List.{list_any}
use Rattle.std.specs.Str.{bytes_eq}
use Rattle.std.specs.Borrow.{Bor}
use Rattle.std.specs.Cmp.{both_ways}
use Rattle.std.proofs.lemmas.Bool.{false_from_ne_true, and_parts, cases_eq, cases_lt, ltb-true, ltb-false, lt-ltb}
use Rattle.std.proofs.lemmas.List.{get_or_append_left, get_or_push, get_or-set_same, get_or-set_other, length-set}
use Rattle.std.proofs.lemmas.List.Elements.{All-head, All-tail, All-weaker}
use Rattle.std.proofs.lemmas.List.Folds.{list_any-append}
use Rattle.std.proofs.lemmas.Slice.Eq.{bytes_eq-Decides}
use Rattle.texts.specs.line_faults.Rows.{rows_from}
use Rattle.stimulus_file.specs.declared.NumberedSet.{NumberedSet}
use Rattle.stimulus_file.specs.Forms.{Line, Blank, Other, Horizon, Setting}
use Rattle.stimulus_file.specs.Stimulus.{SetRow, sets, row_of}
use Rattle.stimulus_file.specs.Named.{named_rows, HavePlaces}
use Rattle.stimulus_file.specs.inner.KeptSettings.{is_at, AreLatest, IsPlace, StandsAt}

pub swapped : (a b : ℕ) → eqb a b ≡ eqb b a
swapped a b = both_ways (eqb a b) (eqb b a) (λ h. eq-eqb b a (sym (eqb-true a b h))) (λ h. eq-eqb a b (sym (eqb-true b a h)))

other_name : (a b : List ℕ) → bytes_eq a b ≡ false → a ≡ b → ⊥
other_name a b h e = let t : bytes_eq a b ≡ true = (bytes_eq-Decides a b).1 e in absurd cc

-- whether a setting is of this name and at this time
abbrev pub sets_at : List ℕ → ℕ → SetRow → Bool
sets_at name time row = bytes_eq row.name name && eqb row.time time

pub rows_set : (name : List ℕ) (time n : ℕ) (all : List Line) → list_any (sets name time) all ≡ list_any (sets_at name time) (rows_from row_of n all)
rows_set name time n [] = refl
rows_set name time n (Blank ∷ all) = rows_set name time (n + 1) all
rows_set name time n (Other ∷ all) = rows_set name time (n + 1) all
rows_set name time n (Horizon h ∷ all) = rows_set name time (n + 1) all
rows_set name time n (Setting other None value ∷ all) = rows_set name time (n + 1) all
rows_set name time n (Setting other (Some t) value ∷ all) = ap (λ (b : Bool). (bytes_eq other name && eqb t time) || b) (rows_set name time (n + 1) all)

module _ (names : List (List ℕ)) where
  -- the name at a place is the one that has that place
  place_test : (i : ℕ) (name : List ℕ) (place : ℕ) → i < length names → IsPlace names name place → bytes_eq (get_or names i []) name ≡ eqb place i
  place_test i name place lt p =
      both_ways (bytes_eq (get_or names i []) name) (eqb place i) (λ h. eq-eqb place i (sym (p.only i lt ((bytes_eq-Decides (get_or names i []) name).0 h))))
      (λ h. (bytes_eq-Decides (get_or names i []) name).1 (ap (λ (k : ℕ). get_or names k []) (sym (eqb-true place i h)) ∙ p.there))

  -- a name is set at a time as its place is
  pub named_any : (xs : List NumberedSet) (name : List ℕ) (place time : ℕ) → HavePlaces names xs → IsPlace names name place → list_any (sets_at name time) (named_rows names xs) ≡ list_any (is_at place time) xs
  named_any [] name place time h p = refl
  named_any (x ∷ xs) name place time h p =
      let lt : x.name < length names = All-head (λ (s : NumberedSet). s.name < length names) x xs h in
      ap₂ (λ (a b : Bool). a || b) (ap₂ (λ (a b : Bool). a && b) (place_test x.name name place lt p) (swapped x.time time))
      (named_any xs name place time (All-tail (λ (s : NumberedSet). s.name < length names) x xs h) p)

  -- no setting is at the place after the last
  pub beyond : (xs : List NumberedSet) (time : ℕ) → HavePlaces names xs → list_any (is_at (length names) time) xs ≡ false
  beyond [] time h = refl
  beyond (x ∷ xs) time h =
      let lt : x.name < length names = All-head (λ (s : NumberedSet). s.name < length names) x xs h in
      let never : eqb (length names) x.name ≡ false = false_from_ne_true (eqb (length names) x.name) (λ t. let e = eqb-true (length names) x.name t in absurd (omega (arith, e))) in
      let rest : list_any (is_at (length names) time) xs ≡ false = beyond xs time (All-tail (λ (s : NumberedSet). s.name < length names) x xs h) in
      rw (never, rest) refl

  -- a name more keeps the names of the settings
  pub named_more : (name : List ℕ) (xs : List NumberedSet) → HavePlaces names xs → named_rows (names ++ name ∷ []) xs ≡ named_rows names xs
  named_more name [] h = refl
  named_more name (x ∷ xs) h =
      ap₂ (λ (n : List ℕ) (rows : List SetRow). record { line = x.line; name = n; time = x.time; value = x.value } ∷ rows)
      (get_or_append_left names (name ∷ []) [] x.name (All-head (λ (s : NumberedSet). s.name < length names) x xs h)) (named_more name xs (All-tail (λ (s : NumberedSet). s.name < length names) x xs h))

  longer : (name : List ℕ) → length (names ++ name ∷ []) ≡ length names + 1
  longer name = length-append names (name ∷ [])

  pub places_more : (name : List ℕ) (xs : List NumberedSet) → HavePlaces names xs → HavePlaces (names ++ name ∷ []) xs
  places_more name xs h = let long = longer name in All-weaker (λ (s : NumberedSet). s.name < length names) (λ (s : NumberedSet). s.name < length (names ++ name ∷ [])) (λ s lt. omega (arith, long, lt)) xs h

  -- the place of a name that is new
  pub place_new : (name : List ℕ) → ((i : ℕ) → i < length names → get_or names i [] ≡ name → ⊥) → IsPlace (names ++ name ∷ []) name (length names)
  place_new name never = record {
    within = let long = longer name in omega (arith, long);
    there = get_or_push names name [] (length names) refl;
    only = λ i lt e. elim (cases_lt i (length names)) [
      | inl early ↦ absurd (never i early (sym (get_or_append_left names (name ∷ []) [] i early) ∙ e))
      | inr late ↦ let long = longer name in omega (arith, long, lt, late)
    ];
  }

  place_other : (name other : List ℕ) (place : ℕ) → bytes_eq name other ≡ false → IsPlace names other place → IsPlace (names ++ name ∷ []) other place
  place_other name other place differ p = record {
    within = let long = longer name in let lt = p.within in omega (arith, long, lt);
    there = get_or_append_left names (name ∷ []) [] place p.within ∙ p.there;
    only = λ i lt e. elim (cases_lt i (length names)) [
      | inl early ↦ p.only i early (sym (get_or_append_left names (name ∷ []) [] i early) ∙ e)
      | inr late ↦
          let long = longer name in
          let i-is : length names ≡ i = omega (arith, long, lt, late) in
          absurd (other_name name other differ (sym (get_or_push names name [] i i-is) ∙ e))
    ];
  }

  none_other : (name other : List ℕ) → bytes_eq name other ≡ false → ((i : ℕ) → i < length names → get_or names i [] ≡ other → ⊥) → (i : ℕ) → i < length (names ++ name ∷ []) → get_or (names ++ name ∷ []) i [] ≡ other → ⊥
  none_other name other differ never i lt e = elim (cases_lt i (length names)) [
    | inl early ↦ never i early (sym (get_or_append_left names (name ∷ []) [] i early) ∙ e)
    | inr late ↦
        let long = longer name in
        let i-is : length names ≡ i = omega (arith, long, lt, late) in
        other_name name other differ (sym (get_or_push names name [] i i-is) ∙ e)
  ]

module _ (names : List (List ℕ)) (q : Bor (List ℕ)) (f : Bor (List ℕ) → Option ℕ) (known : (p : Bor (List ℕ)) → StandsAt names p.now (f p)) where
  -- a name that stands at a place is the one that the map has there
  pub is_place : (place : ℕ) → place < length names → get_or names place [] ≡ q.now → IsPlace names q.now place
  is_place place lt e = at (f q) (known q)
    where
      at : (o : Option ℕ) → StandsAt names q.now o → IsPlace names q.now place
      at None never = absurd (never place lt e)
      at (Some p) is = subst (IsPlace names q.now) (sym (is.only place lt e)) is

  -- the places after a name that is new
  pub places_first : (g : Bor (List ℕ) → Option ℕ) → StandsAt names q.now None → ((p : Bor (List ℕ)) → g p ≡ cond (bytes_eq q.now p.now) (Some (length names)) (f p)) → (p : Bor (List ℕ)) → StandsAt (names ++ q.now ∷ []) p.now (g p)
  places_first g never gives p = subst (StandsAt (names ++ q.now ∷ []) p.now) (sym (gives p)) (either (bytes_eq q.now p.now) refl)
    where
      others : bytes_eq q.now p.now ≡ false → (o : Option ℕ) → StandsAt names p.now o → StandsAt (names ++ q.now ∷ []) p.now o
      others differ None h = none_other names q.now p.now differ h
      others differ (Some i) h = place_other names q.now p.now i differ h

      either : (b : Bool) → bytes_eq q.now p.now ≡ b → StandsAt (names ++ q.now ∷ []) p.now (cond b (Some (length names)) (f p))
      either true same = subst (λ (n : List ℕ). IsPlace (names ++ q.now ∷ []) n (length names)) ((bytes_eq-Decides q.now p.now).0 same) (place_new names q.now never)
      either false differ = others differ (f p) (known p)

-- ---- the latest times

-- after one setting more
pub latest_push : (latest after : List ℕ) (xs : List NumberedSet) (x : NumberedSet) → AreLatest latest xs → ((i : ℕ) → get_or latest i 0 ≤ get_or after i 0) → x.time ≤ get_or after x.name 0 → AreLatest after (xs ++ x ∷ [])
latest_push latest after xs x old grows new place time lt =
    let le = grows place in
    let before : list_any (is_at place time) xs ≡ false = old place time (omega (arith, le, lt)) in
    let last : is_at place time x ≡ false = false_from_ne_true (is_at place time x) (λ t. apart (and_parts (eqb place x.name) (eqb time x.time) t)) in
    list_any-append (is_at place time) xs (x ∷ []) ∙ ap₂ (λ (a b : Bool). a || (b || false)) before last
  where
    apart : (eqb place x.name ≡ true) × (eqb time x.time ≡ true) → ⊥
    apart h =
        let late : time ≤ get_or after place 0 = subst (λ (i : ℕ). time ≤ get_or after i 0) (sym (eqb-true place x.name h.0)) (subst (λ (t : ℕ). t ≤ get_or after x.name 0) (sym (eqb-true time x.time h.1)) new) in
        omega (arith, late, lt)

-- a time more
pub grows_more : (latest : List ℕ) (time i : ℕ) → get_or latest i 0 ≤ get_or (latest ++ time ∷ []) i 0
grows_more [] time zero = omega arith
grows_more [] time (suc i) = omega arith
grows_more (t ∷ latest) time zero = omega arith
grows_more (t ∷ latest) time (suc i) = grows_more latest time i

-- a time that is kept where it is later
abbrev pub is_later : List ℕ → ℕ → ℕ → Bool
is_later latest place time = ltb place (length latest) && ltb (get_or latest place 0) time

module _ (latest : List ℕ) (place time : ℕ) where
  abbrev pub with_time : Bool → List ℕ
  with_time b = cond b (set latest place time) latest

  pub grows_at : (b : Bool) → is_later latest place time ≡ b → (i : ℕ) → get_or latest i 0 ≤ get_or (with_time b) i 0
  grows_at false e i = omega arith
  grows_at true e i = elim (cases_eq i place) [
    | inl same ↦
        let two = and_parts (ltb place (length latest)) (ltb (get_or latest place 0) time) e in
        let less = ltb-true (get_or latest place 0) time two.1 in
        subst (λ (k : ℕ). get_or latest k 0 ≤ get_or (set latest place time) k 0) (sym same) (rw (get_or-set_same latest place time 0 (ltb-true place (length latest) two.0)) (omega (arith, less)))
    | inr other ↦ rw (get_or-set_other latest place i time 0 other) (omega arith)
  ]

  pub reaches : (b : Bool) → is_later latest place time ≡ b → place < length latest → time ≤ get_or (with_time b) place 0
  reaches true e lt = rw (get_or-set_same latest place time 0 lt) (omega arith)
  reaches false e lt =
      let late : ltb (get_or latest place 0) time ≡ false = sym (ap (λ (b : Bool). b && ltb (get_or latest place 0) time) (lt-ltb place (length latest) lt)) ∙ e in
      omega (arith, ltb-false (get_or latest place 0) time late)

  pub long_as : (b : Bool) → length (with_time b) ≡ length latest
  long_as true = length-set latest place time
  long_as false = refl
