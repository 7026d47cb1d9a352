-- What a name that is found tells of the settings.
use Rattle.std.proofs.Common.{◌≡◌, ℕ, ◌<◌, ◌&&◌, ◌||◌, Bool, true, false, not, cond, eqb, ltb, List, [], ◌∷◌, ◌++◌, length, map, get_or, Some, None, refl, sym, ap, ap₂, subst, ◌∙◌, arith, length-append}
use Rattle.std.specs.List.{list_any}
use Rattle.std.specs.Str.{bytes_eq}
use Rattle.std.specs.Borrow.{Bor}
use Rattle.std.specs.Ordering.{nat_cmp, is_eq, eq_by_cmp}
use Rattle.std.specs.Cmp.{tied_then, unsigned_tied}
use Rattle.std.specs.BTreeMap.{get}
use Rattle.std.specs.BTreeSet.{BTreeSet, contains, IsFromIterResult}
use Rattle.std.proofs.lemmas.Bool.{and_parts, ltb-true}
use Rattle.std.proofs.lemmas.List.{get_or_push}
use Rattle.std.proofs.lemmas.List.Elements.{All-push}
use Rattle.std.proofs.lemmas.List.Folds.{list_any-append}
use Rattle.gate_values.specs.declared.Value.{Value}
use Rattle.stimulus_file.specs.declared.NumberedSet.{NumberedSet}
use Rattle.stimulus_file.specs.declared.names.Names.{Names}
use Rattle.stimulus_file.specs.Named.{named_rows, HavePlaces}
use Rattle.stimulus_file.specs.inner.KeptSettings.{is_at, key_cmp, name_cmp, AreLatest, ArePlaces, IsPlace, StandsAt, HasNames, HasSeen, Finds, Tells}
use Rattle.stimulus_file.proofs.Naming.{swapped, beyond, named_more, places_more, place_new, places_first, latest_push, grows_more, grows_at, reaches, long_as, with_time, is_later as later_at}

module _ (old new : Names) (sets : List NumberedSet) (q : Bor (List ℕ)) (time : ℕ) (has : HasNames old sets) where
  -- a name that is known
  pub finds_again : (place : ℕ) (is_later : Bool) → new.texts.items ≡ old.texts.items → ArePlaces new → IsPlace old.texts.items q.now place → is_later ≡ later_at old.latest.items place time
      → new.latest.items ≡ with_time old.latest.items place time is_later → Finds old new sets q.now time (record { place = place; is_later = is_later })
  finds_again place is_later texts places is later latest = record {
    same = ap (λ (t : List (List ℕ)). named_rows t sets) texts;
    placed = subst (λ (t : List (List ℕ)). HavePlaces t sets) (sym texts) has.placed;
    place = subst (λ (t : List (List ℕ)). IsPlace t q.now place) (sym texts) is;
    later = λ l. has.latest place time (ltb-true (get_or old.latest.items place 0) time (and_parts (ltb place (length old.latest.items)) _ (sym later ∙ l)).1);
    next = λ line value. next line value;
  }
    where
      within : place < length old.latest.items
      within = let lt = is.within in let each = has.each in omega (arith, lt, each)

      next : (line : ℕ) (value : Value) → HasNames new (sets ++ record { line = line; name = place; time = time; value = value } ∷ [])
      next line value =
          let x : NumberedSet = record { line = line; name = place; time = time; value = value } in
          record {
            placed = subst (λ (t : List (List ℕ)). HavePlaces t (sets ++ x ∷ [])) (sym texts) (All-push (λ (s : NumberedSet). s.name < length old.texts.items) sets x has.placed is.within);
            each = ap length latest ∙ long_as old.latest.items place time is_later ∙ has.each ∙ ap length (sym texts);
            latest = subst (λ (l : List ℕ). AreLatest l (sets ++ x ∷ [])) (sym latest)
                (latest_push old.latest.items _ sets x has.latest (grows_at old.latest.items place time is_later (sym later)) (reaches old.latest.items place time is_later (sym later) within));
            places = places;
          }

  -- a name that is new
  pub finds_new : (place : ℕ) → place ≡ length old.texts.items → new.texts.items ≡ old.texts.items ++ q.now ∷ [] → new.latest.items ≡ old.latest.items ++ time ∷ [] → StandsAt old.texts.items q.now None
      → ((p : Bor (List ℕ)) → get name_cmp new.places p ≡ cond (bytes_eq q.now p.now) (Some place) (get name_cmp old.places p))
      → Finds old new sets q.now time (record { place = place; is_later = true })
  finds_new place is texts latest never gives = record {
    same = ap (λ (t : List (List ℕ)). named_rows t sets) texts ∙ named_more old.texts.items q.now sets has.placed;
    placed = subst (λ (t : List (List ℕ)). HavePlaces t sets) (sym texts) (places_more old.texts.items q.now sets has.placed);
    place = subst (λ (t : List (List ℕ)). IsPlace t q.now place) (sym texts) (subst (IsPlace (old.texts.items ++ q.now ∷ []) q.now) (sym is) (place_new old.texts.items q.now never));
    later = λ _. subst (λ (n : ℕ). list_any (is_at n time) sets ≡ false) (sym is) (beyond old.texts.items sets time has.placed);
    next = λ line value. next line value;
  }
    where
      next : (line : ℕ) (value : Value) → HasNames new (sets ++ record { line = line; name = place; time = time; value = value } ∷ [])
      next line value =
          let x : NumberedSet = record { line = line; name = place; time = time; value = value } in
          let long = length-append old.texts.items (q.now ∷ []) in
          let times = length-append old.latest.items (time ∷ []) in
          let each = has.each in
          let within : place < length (old.texts.items ++ q.now ∷ []) = omega (arith, long, is) in
          let here : get_or (old.latest.items ++ time ∷ []) place 0 ≡ time = get_or_push old.latest.items time 0 place (omega (arith, each, is)) in
          record {
            placed = subst (λ (t : List (List ℕ)). HavePlaces t (sets ++ x ∷ [])) (sym texts)
                (All-push (λ (s : NumberedSet). s.name < length (old.texts.items ++ q.now ∷ [])) sets x (places_more old.texts.items q.now sets has.placed) within);
            each = ap length latest ∙ (let same : length (old.latest.items ++ time ∷ []) ≡ length (old.texts.items ++ q.now ∷ []) = omega (arith, long, times, each) in same) ∙ ap length (sym texts);
            latest = subst (λ (l : List ℕ). AreLatest l (sets ++ x ∷ [])) (sym latest)
                (latest_push old.latest.items (old.latest.items ++ time ∷ []) sets x has.latest (grows_more old.latest.items time) (omega (arith, here)));
            places = λ p. subst (λ (t : List (List ℕ)). StandsAt t p.now (get name_cmp new.places p)) (sym texts)
                (places_first old.texts.items q (get name_cmp old.places) has.places (get name_cmp new.places) never (λ r. gives r ∙ ap (λ (n : ℕ). cond (bytes_eq q.now r.now) (Some n) (get name_cmp old.places r)) is) p);
          }

joined : (a b : Bool) → cond a true b ≡ (b || (a || false))
joined true true = refl
joined true false = refl
joined false true = refl
joined false false = refl

-- two pairs that the order does not tell apart
same_keys : (a b : ℕ × ℕ) → is_eq (key_cmp a b) ≡ (eqb a.0 b.0 && eqb a.1 b.1)
same_keys a b = sym (tied_then (nat_cmp a.0 b.0) (nat_cmp a.1 b.1)) ∙ ap₂ (λ (p q : Bool). p && q) (unsigned_tied a.0 b.0) (unsigned_tied a.1 b.1)

-- one setting more is seen
pub seen_more : (old new : BTreeSet (ℕ × ℕ)) (sets : List NumberedSet) (x : NumberedSet) → HasSeen (Some old) sets
    → ((q : ℕ × ℕ) → contains key_cmp new q ≡ cond (is_eq (key_cmp (x.name, x.time) q)) true (contains key_cmp old q)) → HasSeen (Some new) (sets ++ x ∷ [])
seen_more old new sets x has puts q =
    puts q ∙ ap₂ (λ (a b : Bool). cond a true b) (same_keys (x.name, x.time) q ∙ ap₂ (λ (a b : Bool). a && b) (swapped x.name q.0) (swapped x.time q.1)) (has q) ∙ joined (is_at q.0 q.1 x) (list_any (is_at q.0 q.1) sets)
    ∙ sym (list_any-append (is_at q.0 q.1) sets (x ∷ []))

-- a set of the places and times of the settings
pub seen_all : (seen : BTreeSet (ℕ × ℕ)) (sets : List NumberedSet) → IsFromIterResult key_cmp (map (λ (set : NumberedSet). (set.name, set.time)) sets) seen → HasSeen (Some seen) sets
seen_all seen sets is q = is.0 q ∙ each sets
  where
    each : (xs : List NumberedSet) → list_any (eq_by_cmp key_cmp q) (map (λ (set : NumberedSet). (set.name, set.time)) xs) ≡ list_any (is_at q.0 q.1) xs
    each [] = refl
    each (x ∷ xs) = ap₂ (λ (a b : Bool). a || b) (same_keys q (x.name, x.time)) (each xs)

-- what inserting a place and a time tells
pub tells_more : (old new : BTreeSet (ℕ × ℕ)) (sets : List NumberedSet) (place time : ℕ) (is_new : Bool) → HasSeen (Some old) sets
    → is_new ≡ not (contains key_cmp old (place, time)) → ((q : ℕ × ℕ) → contains key_cmp new q ≡ cond (is_eq (key_cmp (place, time) q)) true (contains key_cmp old q))
    → Tells (Some new) sets place time is_new
tells_more old new sets place time is_new has added puts = record {
  tells = added ∙ ap not (has (place, time));
  next = λ line value. seen_more old new sets (record { line = line; name = place; time = time; value = value }) has puts;
}
