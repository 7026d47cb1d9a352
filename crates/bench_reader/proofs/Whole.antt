-- What holds of each netlist that is read.
use Rattle.std.proofs.Common.{◌≡◌, ℕ, ◌+◌, ◌<◌, ◌≤◌, Bool, true, false, ltb, cond, nat_eq, IsTrue, List, [], ◌∷◌, ◌++◌, length, map, take, drop, get_or, Some, refl, sym, ap, subst, ◌∙◌, arith, length-drop}
use Rattle.std.specs.List.{All, sum, sum_by, list_any, list_all, position}
use Rattle.std.specs.Str.{bytes_eq}
use Rattle.std.proofs.lemmas.Bool.{and_parts, lt-ltb}
use Rattle.std.proofs.lemmas.List.{length-map, length-take-le}
use Rattle.std.proofs.lemmas.List.Sums.{sum-map}
use Rattle.std.proofs.lemmas.List.Elements.{All-nil, All-cons, All-head, All-tail, All-append, All-take, All-drop, All-map, All-weaker}
use Rattle.indexmap.specs.IndexSet.{insert_key, insert_all}
use Rattle.gate_values.specs.Gates.{allows}
use Rattle.bench_reader.specs.declared.netlist.Definition.{Definition}
use Rattle.bench_reader.specs.declared.netlist.Definition.TheVariants.{Missing, Input, Gate}
use Rattle.bench_reader.specs.declared.reader.Reader.{Reader}
use Rattle.bench_reader.specs.Lines.{Line}
use Rattle.bench_reader.specs.Netlists.{is_among, place, NetlistDriver, pins_of, IsNetlistDriver}
use Rattle.bench_reader.specs.inner.KeptNetlists.{driver, pin_count, FitsRows, IsKeptName}
use Rattle.bench_reader.specs.inner.Reading.{HasRead, IsSoundReading, Numbered}
use Rattle.bench_reader.proofs.Places.{present_lt}
use Rattle.bench_reader.proofs.Rows.{distinct}

-- numbers of names are below the count of names
numbers_below : (ks : List (List ℕ)) (named : List (List ℕ)) → list_all (is_among ks) named ≡ true → All (λ p. p < length ks) (map (place ks) named)
numbers_below ks [] h = All-nil (λ p. p < length ks)
numbers_below ks (n ∷ named) h =
    let parts = and_parts (is_among ks n) (list_all (is_among ks) named) h in
    All-cons (λ p. p < length ks) (place ks n) (map (place ks) named) (present_lt n ks parts.0) (numbers_below ks named parts.1)

numbered_below : (ks : List (List ℕ)) (ids : List ℕ) (named : List (List ℕ)) → Numbered ks ids named → All (λ p. p < length ks) ids
numbered_below ks ids named h = subst (All (λ p. p < length ks)) (sym h.ids_are) (numbers_below ks named h.there)

inserted_below : (n : ℕ) (ks xs : List ℕ) → All (λ p. p < n) ks → All (λ p. p < n) xs → All (λ p. p < n) (insert_all nat_eq ks xs)
inserted_below n ks [] h g = h
inserted_below n ks (x ∷ xs) h g = inserted_below n (insert_key nat_eq ks x) xs (cases (list_any (nat_eq x) ks)) (All-tail (λ p. p < n) x xs g)
  where
    cases : (b : Bool) → All (λ p. p < n) (cond b ks (ks ++ x ∷ []))
    cases true = h
    cases false = All-append (λ p. p < n) ks (x ∷ []) h (All-cons (λ p. p < n) x [] (All-head (λ p. p < n) x xs g) (All-nil (λ p. p < n)))

piece_len : (pins : List ℕ) (start count : ℕ) → start + count ≤ length pins → length (take count (drop start pins)) ≡ count
piece_len pins start count h = length-take-le count (drop start pins) (omega (arith, length-drop start pins))

driver_fits : (signals : ℕ) (pins : List ℕ) (d : Definition) → All (λ p. p < signals) pins → FitsRows (length pins) d → IsNetlistDriver signals (driver pins d)
driver_fits signals pins (Missing line) below h = tt
driver_fits signals pins Input below h = tt
driver_fits signals pins (Gate kind count start) below h =
    let len = piece_len pins start count h.within in
    record {
      count = subst (λ n. IsTrue (allows kind n)) (sym len) h.counted;
      signal = All-take (λ p. p < signals) count (drop start pins) (All-drop (λ p. p < signals) start pins below);
    }

drivers_fit : (signals : ℕ) (pins : List ℕ) (rows : List Definition) → All (λ p. p < signals) pins → All (FitsRows (length pins)) rows → All (IsNetlistDriver signals) (map (driver pins) rows)
drivers_fit signals pins rows below fits = All-map (IsNetlistDriver signals) (driver pins) rows (All-weaker (FitsRows (length pins)) (λ d. IsNetlistDriver signals (driver pins d)) (λ d h. driver_fits signals pins d below h) rows fits)

-- the pins of all rows
count_is : (pins : List ℕ) (d : Definition) → FitsRows (length pins) d → length (pins_of (driver pins d)) ≡ pin_count d
count_is pins (Missing line) h = refl
count_is pins Input h = refl
count_is pins (Gate kind count start) h = piece_len pins start count h.within

counts_are : (pins : List ℕ) (rows : List Definition) → All (FitsRows (length pins)) rows → map (λ d. length (pins_of d)) (map (driver pins) rows) ≡ map pin_count rows
counts_are pins [] h = refl
counts_are pins (d ∷ rows) h =
    let rest = counts_are pins rows (All-tail (FitsRows (length pins)) d rows h) in
    ap (λ (n : ℕ). n ∷ map (λ (x : NetlistDriver). length (pins_of x)) (map (driver pins) rows)) (count_is pins d (All-head (FitsRows (length pins)) d rows h)) ∙ ap (λ (l : List ℕ). pin_count d ∷ l) rest

pins_total : (pins : List ℕ) (rows : List Definition) → All (FitsRows (length pins)) rows → sum_by (λ d. length (pins_of d)) (map (driver pins) rows) ≡ sum_by pin_count rows
pins_total pins rows h = sym (sum-map (λ (d : NetlistDriver). length (pins_of d)) (map (driver pins) rows)) ∙ ap sum (counts_are pins rows h) ∙ sum-map pin_count rows

pub held : (all : List Line) (r : Reader) → IsSoundReading r → HasRead all r → IsKeptName r.names r.rows.items r.pins.items r.outputs
held all r sound read =
    let ks = r.names in
    let pins_below = numbered_below ks r.pins.items _ read.pins_are in
    let outputs_below = inserted_below (length ks) [] read.ids (All-nil (λ p. p < length ks)) (numbered_below ks read.ids _ read.ids_are) in
    record {
      kept = sound;
      netlist = record {
        rows = length-map r.rows.items (driver r.pins.items) ∙ sound.rows_len;
        few = sound.few;
        fits = drivers_fit (length ks) r.pins.items r.rows.items pins_below sound.fits;
        pins = omega (arith, pins_total r.pins.items r.rows.items sound.fits, sound.total, sound.room);
        outputs = subst (All (λ o. o < length ks)) (sym read.outputs_are) outputs_below;
        distinct = λ id lt. apart ks id lt (distinct all ks read.names_are id lt);
      };
    }
  where
    apart : (ks : List (List ℕ)) (id : ℕ) → id < length ks → place ks (get_or ks id []) ≡ id → position (bytes_eq (get_or ks id [])) ks ≡ Some id
    apart ks id lt at = let less : place ks (get_or ks id []) < length ks = omega (arith, at) in let within : ltb (place ks (get_or ks id [])) (length ks) ≡ true = lt-ltb _ _ less in rw within (ap Some at)
