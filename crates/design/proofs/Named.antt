-- The settings of names that were looked up once each.
use Rattle.std.proofs.Common.{◌≡◌, ℕ, ◌+◌, ◌<◌, Bool, true, false, cond, List, [], ◌∷◌, ◌++◌, length, map, get_or, take, drop, Option, Some, None, Result, Ok, Err, refl, sym, ap, ap₂, subst, ◌∙◌, arith, ◌⊎◌}
use Rattle.std.specs.Prelude.{IfOk, All, nat_le}
use Rattle.std.specs.Str.{bytes_eq}
use Rattle.std.specs.Option.{ok_or}
use Rattle.std.proofs.lemmas.Bool.{lt-leb}
use Rattle.std.proofs.lemmas.List.{length-map, get_or_default}
use Rattle.std.proofs.lemmas.List.Elements.{All-from_get_or}
use Rattle.std.proofs.lemmas.List.Quantifiers.{position-Some}
use Rattle.std.proofs.Math.ListN.{get_or-map}
use Rattle.bench_reader.specs.Netlists as netlists
use Rattle.stimulus_file.specs.declared.NumberedSet.{NumberedSet}
use Rattle.stimulus_file.specs.Stimulus.{SetRow}
use Rattle.stimulus_file.specs.Named.{named_rows, with_name}
use Rattle.design.specs.declared.fault.JoinCause.{JoinCause}
use Rattle.design.specs.declared.fault.JoinCause.TheVariants.{UnknownName, NotInput, PastHorizon}
use Rattle.design.specs.declared.fault.JoinFault.{JoinFault}
use Rattle.design.specs.declared.fault.JoinFile.TheVariants as file
use Rattle.design.specs.Causes.{out_of_memory}
use Rattle.design.specs.Join.{number, driver_at, is_input, unless, cause_of_set, fault_of, set_fault, first_fault}
use Rattle.design.specs.inner.Said.{input_at, inputs_in, inputs_of, input_numbered, input_of}
use Rattle.design.proofs.Places.{one-within, one-stands, alone-at}
use Rattle.design.proofs.Rereads.{refused-at, passed-at, taken-at}

module _ (netlist : netlists.Content) where
  abbrev all : List ℕ
  all = inputs_of netlist

  -- an input among all, at its place
  abbrev pub IsInputAt : ℕ → ℕ → Type 0
  IsInputAt place s = (place < length all) × (get_or all place 0 ≡ s) × (is_input (driver_at netlist s) ≡ true)

  input-at-place : (o : Option ℕ) (place : ℕ) → ((s : ℕ) → o ≡ Some s → s < length netlist.names) → input_numbered netlist o ≡ Ok place → (o ≡ Some (get_or all place 0)) × IsInputAt place (get_or all place 0)
  input-at-place None place below h = absurd cc
  input-at-place (Some s) place below h = go (is_input (driver_at netlist s)) refl h
    where
      go : (b : Bool) → is_input (driver_at netlist s) ≡ b → ok_or (cond b (Some (length (inputs_in netlist s))) None) NotInput ≡ Ok place
          → (◌≡◌ {A = Option ℕ} (Some s) (Some (get_or all place 0))) × IsInputAt place (get_or all place 0)
      go true e h =
          let here : length (inputs_in netlist s) ≡ place = cc in
          let l = below s refl in
          let alone = alone-at netlist s e in
          let at : get_or all place 0 ≡ s = ap (λ p. get_or all p 0) (sym here) ∙ one-stands (input_at netlist) (length netlist.names) s l s alone 0 in
          let room = one-within (input_at netlist) (length netlist.names) s l s alone in
          (ap Some (sym at), (omega (arith, room, here), refl, ap (λ (k : ℕ). is_input (driver_at netlist k)) at ∙ e))
      go false e h = absurd cc

  -- the input that was found for a name
  pub input-known : (name : List ℕ) (place : ℕ) → input_of netlist name ≡ Ok place → (number netlist name ≡ Some (get_or all place 0)) × IsInputAt place (get_or all place 0)
  input-known name place h = input-at-place (number netlist name) place (λ s e. (position-Some (bytes_eq name) netlist.names s [] e).0) h

  pub input-refused : (o : Option ℕ) (cause : JoinCause) (horizon time : ℕ) → input_numbered netlist o ≡ Err cause → cause_of_set netlist horizon o time ≡ Some cause
  input-refused None cause horizon time h = let same : UnknownName ≡ cause = cc in ap Some same
  input-refused (Some n) cause horizon time h = go (is_input (driver_at netlist n)) refl h
    where
      go : (b : Bool) → is_input (driver_at netlist n) ≡ b → ok_or (cond b (Some (length (inputs_in netlist n))) None) NotInput ≡ Err cause → cause_of_set netlist horizon (Some n) time ≡ Some cause
      go true e h = absurd cc
      go false e h = let same : NotInput ≡ cause = cc in rw e (ap Some same)

  -- each input that was found has a place
  pub inputs-within : (names : List (List ℕ)) (lists : ℕ) → lists ≡ length all → All (λ input. IfOk input (λ place. place < lists)) (map (input_of netlist) names)
  inputs-within names lists long =
      All-from_get_or (λ (input : Result ℕ JoinCause). IfOk input (λ (place : ℕ). place < lists)) (map (input_of netlist) names) (input_of netlist [])
      (λ i l. subst (λ (input : Result ℕ JoinCause). IfOk input (λ (place : ℕ). place < lists)) (sym (get_or-map (input_of netlist) names i [])) (at (input_of netlist (get_or names i [])) (get_or names i []) refl))
    where
      at : (input : Result ℕ JoinCause) (name : List ℕ) → input_of netlist name ≡ input → IfOk input (λ (place : ℕ). place < lists)
      at (Err cause) name h = tt
      at (Ok place) name h = let lt = (input-known name place h).1.0 in omega (arith, lt, long)

-- what was found for the name of a row
pub input-at : (netlist : netlists.Content) (names : List (List ℕ)) (inputs : List (Result ℕ JoinCause)) (row : NumberedSet) (d : Result ℕ JoinCause) → inputs ≡ map (input_of netlist) names → row.name < length inputs
    → get_or inputs row.name d ≡ input_of netlist (with_name names row).name
input-at netlist names inputs row d e l =
    get_or_default inputs row.name d (input_of netlist []) l ∙ ap (λ (l : List (Result ℕ JoinCause)). get_or l row.name (input_of netlist [])) e ∙ get_or-map (input_of netlist) names row.name []

-- an input that was found has a list
pub input-within : (inputs : List (Result ℕ JoinCause)) (name : ℕ) (d : Result ℕ JoinCause) (place lists : ℕ) → All (λ input. IfOk input (λ p. p < lists)) inputs → name < length inputs → get_or inputs name d ≡ Ok place → place < lists
input-within inputs name d place lists every l is = subst (λ (input : Result ℕ JoinCause). IfOk input (λ (p : ℕ). p < lists)) is (every name d l)

module _ (netlist : netlists.Content) (horizon : ℕ) (row : SetRow) where
  -- a row whose name is no input
  pub set-refused : (cause : JoinCause) → input_of netlist row.name ≡ Err cause → set_fault netlist horizon row ≡ Some (record { cause = cause; file = file.Stimulus; line = row.line })
  set-refused cause h = ap (fault_of file.Stimulus row.line) (input-refused netlist (number netlist row.name) cause horizon row.time h)

  -- a row after the horizon
  pub set-late : (place : ℕ) → input_of netlist row.name ≡ Ok place → horizon < row.time → set_fault netlist horizon row ≡ Some (record { cause = PastHorizon; file = file.Stimulus; line = row.line })
  set-late place h l =
      let known = input-known netlist row.name place h in
      let late : nat_le row.time horizon ≡ false = lt-leb row.time horizon l in
      ap (λ (o : Option ℕ). fault_of file.Stimulus row.line (cause_of_set netlist horizon o row.time)) known.0
      ∙ ap₂ (λ (a : Bool) (b : Bool). fault_of file.Stimulus row.line (unless a NotInput (unless b PastHorizon None))) known.1.2 late

module _ (names : List (List ℕ)) (sets : List NumberedSet) (i : ℕ) (d : NumberedSet) (within : i < length sets) where
  in-range : i < length (named_rows names sets)
  in-range = let long = length-map sets (with_name names) in omega (arith, long, within)

  -- a row at its place
  at-place : with_name names (get_or sets i d) ≡ get_or (named_rows names sets) i (with_name names (get_or sets i d))
  at-place = sym (get_or-map (with_name names) sets i d) ∙ get_or_default (named_rows names sets) i (with_name names d) (with_name names (get_or sets i d)) in-range

  pub named-refused : (fault : SetRow → Option JoinFault) (f : JoinFault) → first_fault fault (named_rows names sets) ≡ first_fault fault (drop i (named_rows names sets))
      → (f ≡ out_of_memory) ⊎ (fault (with_name names (get_or sets i d)) ≡ Some f) → (f ≡ out_of_memory) ⊎ (first_fault fault (named_rows names sets) ≡ Some f)
  named-refused fault f e h = refused-at fault (named_rows names sets) i (with_name names (get_or sets i d)) f in-range at-place e h

  pub named-passed : (fault : SetRow → Option JoinFault) → first_fault fault (named_rows names sets) ≡ first_fault fault (drop i (named_rows names sets))
      → fault (with_name names (get_or sets i d)) ≡ None → first_fault fault (named_rows names sets) ≡ first_fault fault (drop (i + 1) (named_rows names sets))
  named-passed fault e none = passed-at fault (named_rows names sets) i (with_name names (get_or sets i d)) in-range at-place e none

  pub named-taken : take i (named_rows names sets) ++ with_name names (get_or sets i d) ∷ [] ≡ take (i + 1) (named_rows names sets)
  named-taken = taken-at (named_rows names sets) i (with_name names (get_or sets i d)) in-range at-place

pub below-same : (a m n : ℕ) → m ≡ n → a < n → a < m
below-same a m n e l = omega (arith, e, l)
