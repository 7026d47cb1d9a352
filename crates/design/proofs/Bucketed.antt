-- The settings of each signal, one row after another.
use Rattle.std.proofs.Common.{◌≡◌, ℕ, zero, suc, ◌<◌, ◌≤◌, Bool, true, false, cond, eqb-true, eq-eqb, le-leb, List, [], ◌∷◌, ◌++◌, length, get_or, set, map, filter, Option, Some, None, refl, sym, ap, ap₂, ◌∙◌, arith, length-set}
use Rattle.std.specs.Prelude.{nat_eq, replicate}
use Rattle.std.specs.Global.{Vec}
use Rattle.std.proofs.lemmas.List.{map-append, append-nil, map-set, get_or-set_same, get_or-set_other, length-map, length-replicate, get_or_default}
use Rattle.std.proofs.Math.ListN.{get_or-map}
use Rattle.circuit_meaning.specs.declared.Setting.{Setting}
use Rattle.bench_reader.specs.Netlists as netlists
use Rattle.stimulus_file.specs.Stimulus.{SetRow}
use Rattle.design.specs.declared.fault.JoinFile.TheVariants as file
use Rattle.design.specs.declared.fault.JoinCause.TheVariants.{NotInput, PastHorizon}
use Rattle.design.specs.Join.{number, driver_at, is_input, is_signal, setting_of, stated_settings, fault_of, cause_of_set, set_fault, unless}
use Rattle.design.specs.inner.Said.{inputs_of, lists_in, HasSets}
use Rattle.design.proofs.Places.{places-differ}

filter-push : {A : Type 0} (p : A → Bool) (xs : List A) (x : A) → filter p (xs ++ x ∷ []) ≡ filter p xs ++ cond (p x) (x ∷ []) []
filter-push p [] x = refl
filter-push {A} p (y ∷ ys) x = go (p y) (filter-push p ys x)
  where
    go : (b : Bool) → filter p (ys ++ x ∷ []) ≡ filter p ys ++ cond (p x) (x ∷ []) []
        → ◌≡◌ {A = List A} (cond b (y ∷ filter p (ys ++ x ∷ [])) (filter p (ys ++ x ∷ []))) (cond b (y ∷ filter p ys) (filter p ys) ++ cond (p x) (x ∷ []) [])
    go true h = ap (λ r. y ∷ r) h
    go false h = h

-- nothing is set at first
pub sets-none : (netlist : netlists.Content) (buckets : List (Vec Setting)) (inputs : ℕ) → inputs ≡ length (inputs_of netlist) → lists_in buckets ≡ replicate inputs [] → HasSets netlist [] buckets
sets-none netlist buckets inputs count e = record {
  long = sym (length-map buckets (λ (b : Vec Setting). b.items)) ∙ ap length e ∙ length-replicate inputs [] ∙ count;
  each = λ k l. ap (λ xs. get_or xs k []) e ∙ nothing inputs k;
}
  where
    nothing : (n s : ℕ) → get_or {A = List Setting} (replicate n []) s [] ≡ []
    nothing zero s = refl
    nothing (suc n) zero = refl
    nothing (suc n) (suc s) = nothing n s

module _ (netlist : netlists.Content) (before : List SetRow) (row : SetRow) (n : ℕ) (is-number : number netlist row.name ≡ Some n) where
  more : (s : ℕ) → stated_settings netlist (before ++ row ∷ []) s ≡ stated_settings netlist before s ++ cond (nat_eq n s) (setting_of row ∷ []) []
  more s =
      ap (map setting_of) (filter-push (λ (r : SetRow). is_signal s (number netlist r.name)) before row)
      ∙ map-append setting_of (filter (λ (r : SetRow). is_signal s (number netlist r.name)) before) (cond (is_signal s (number netlist row.name)) (row ∷ []) [])
      ∙ ap (λ (o : Option ℕ). stated_settings netlist before s ++ map setting_of (cond (is_signal s o) (row ∷ []) [])) is-number
      ∙ ap (λ r. stated_settings netlist before s ++ r) (inner (nat_eq n s))
    where
      inner : (b : Bool) → map setting_of (cond b (row ∷ []) []) ≡ cond b (setting_of row ∷ []) []
      inner true = refl
      inner false = refl

  -- one setting more, of the input at this place
  pub sets-more : (place : ℕ) (old : List (Vec Setting)) (w b : Vec Setting) → place < length (inputs_of netlist) → get_or (inputs_of netlist) place 0 ≡ n → w ≡ get_or old place w → b.items ≡ w.items ++ setting_of row ∷ [] → HasSets netlist before old
      → HasSets netlist (before ++ row ∷ []) (set old place b)
  sets-more place old w b l placed at put has = record {
    long = length-set old place b ∙ has.long;
    each = λ k m. go k m (nat_eq place k) refl;
  }
    where
      input : ℕ → ℕ
      input k = get_or (inputs_of netlist) k 0

      mapped : lists_in (set old place b) ≡ set (lists_in old) place b.items
      mapped = map-set (λ (v : Vec Setting). v.items) old place b

      inside : place < length (lists_in old)
      inside = let e = length-map old (λ (v : Vec Setting). v.items) in let k = has.long in omega (arith, e, k, l)

      was : w.items ≡ get_or (lists_in old) place []
      was = ap (λ (v : Vec Setting). v.items) at ∙ sym (get_or_default (lists_in old) place [] w.items inside ∙ get_or-map (λ (v : Vec Setting). v.items) old place w)

      -- another place is that of another input
      differs : (k : ℕ) → k < length (inputs_of netlist) → nat_eq place k ≡ false → nat_eq n (input k) ≡ false
      differs k m h = elim (nat_eq n (input k)) as (λ c. nat_eq n (input k) ≡ c → c ≡ false) [
        | true ↦ λ e.
            let same : place ≡ k = places-differ netlist (length netlist.names) place k l m (placed ∙ eqb-true n (input k) e) in
            absurd (let f = sym h ∙ eq-eqb place k same in cc f)
        | false ↦ λ e. refl
      ] refl

      go : (k : ℕ) → k < length (inputs_of netlist) → (c : Bool) → nat_eq place k ≡ c → get_or (lists_in (set old place b)) k [] ≡ stated_settings netlist (before ++ row ∷ []) (input k)
      go k m true h =
          let same : place ≡ k = eqb-true place k h in
          let is : nat_eq n (input k) ≡ true = eq-eqb n (input k) (sym placed ∙ ap input same) in
          ap (λ xs. get_or xs k []) mapped ∙ ap (λ p. get_or (set (lists_in old) place b.items) p []) (sym same) ∙ get_or-set_same (lists_in old) place b.items [] inside
          ∙ put ∙ ap (λ r. r ++ setting_of row ∷ []) (was ∙ ap (λ p. get_or (lists_in old) p []) same ∙ has.each k m)
          ∙ sym (more (input k) ∙ ap (λ c. stated_settings netlist before (input k) ++ cond c (setting_of row ∷ []) []) is)
      go k m false h =
          ap (λ xs. get_or xs k []) mapped ∙ get_or-set_other (lists_in old) place k b.items [] (λ e. absurd (let f = sym h ∙ eq-eqb place k (sym e) in cc f)) ∙ has.each k m
          ∙ sym (more (input k) ∙ ap (λ c. stated_settings netlist before (input k) ++ cond c (setting_of row ∷ []) []) (differs k m h) ∙ append-nil (stated_settings netlist before (input k)))

  -- a setting of an input within the horizon
  pub set-passes : (horizon : ℕ) → is_input (driver_at netlist n) ≡ true → row.time ≤ horizon → set_fault netlist horizon row ≡ None
  set-passes horizon input l =
      ap (λ (o : Option ℕ). fault_of file.Stimulus row.line (cause_of_set netlist horizon o row.time)) is-number
      ∙ ap₂ (λ (a : Bool) (b : Bool). fault_of file.Stimulus row.line (unless a NotInput (unless b PastHorizon None))) input (le-leb row.time horizon l)
