-- The rows of a netlist, and what is kept of them.
use Rattle.std.proofs.Common.{◌≡◌, ℕ, ◌+◌, ◌<◌, Bool, true, false, cond, List, [], ◌∷◌, ◌++◌, length, get_or, Some, None, refl, sym, ap, ap₂, ◌∙◌, arith}
use Rattle.std.specs.Prelude.{slice_get}
use Rattle.std.proofs.lemmas.List.{length-append, append-nil}
use Rattle.std.proofs.lemmas.List.FromFn.{length-map-range_with_len, get_or-map-range_with_len, map-range_with_len_more}
use Rattle.std.proofs.lemmas.Option.{get_or_from_slice_get}
use Rattle.gate_values.specs.declared.Kind.{Kind}
use Rattle.bench_reader.specs.Netlists as netlists
use Rattle.bench_reader.specs.Netlists.{NetlistDriver, Primary, Driven, IsNetlist}
use Rattle.timing_file.specs.Timing as timings
use Rattle.design.specs.declared.rows.Row.{Row}
use Rattle.design.specs.declared.rows.Row.TheVariants as row
use Rattle.design.specs.declared.signal_timing.Rows.{Rows}
use Rattle.design.specs.Join.{driver_at, is_dff, is_input, flop_of, pin_delays}
use Rattle.design.specs.inner.Said.{input_at, inputs_in, place_in, least_of, gate_delays, delays_of, delays_at, flops_of, flops_at, gate_row, row_of, row_at, KnowsInputs, KeepsRows}
use Rattle.design.proofs.Places.{first-more}

pub row-is : (netlist : netlists.Content) (s : ℕ) (d : NetlistDriver) → slice_get netlist.rows s ≡ Some d → d ≡ driver_at netlist s
row-is netlist s d e = sym (get_or_from_slice_get netlist.rows s d Primary e)

pub row-sound : (netlist : netlists.Content) → IsNetlist netlist → (s : ℕ) → s < length netlist.names → netlists.IsNetlistDriver (length netlist.names) (driver_at netlist s)
row-sound netlist ok s l = ok.fits s Primary (let e = ok.rows in omega (arith, e, l))

module _ (netlist : netlists.Content) (timing : timings.Content) where
  place-told : (s : ℕ) (d : NetlistDriver) → place_in (row_of netlist timing s d) ≡ cond (is_input d) (Some (length (inputs_in netlist s))) None
  place-told s Primary = refl
  place-told s (Driven kind pins) = go (is_dff kind)
    where
      go : (b : Bool) → place_in (gate_row netlist timing s b kind pins) ≡ None
      go true = refl
      go false = refl

  -- the rows that are kept tell the inputs
  pub knows-inputs : (kept : Rows) → KeepsRows netlist timing (length netlist.names) kept → KnowsInputs netlist kept.rows.items
  knows-inputs kept keeps = record {
    long = ap length keeps.rows ∙ length-map-range_with_len (row_at netlist timing) 0 (length netlist.names);
    each = λ s l.
        ap (λ rows. place_in (get_or rows s (row.Input 0))) keeps.rows ∙ ap place_in (get_or-map-range_with_len (row_at netlist timing) 0 (length netlist.names) s s (row.Input 0) l (omega arith))
        ∙ place-told s (driver_at netlist s);
  }

  module _ (n : ℕ) (old new : Rows) (kept : KeepsRows netlist timing n old) (is : Row) (rows : new.rows.items ≡ old.rows.items ++ is ∷ []) where
    keeps-more : is ≡ row_at netlist timing n → new.inputs ≡ old.inputs + length (input_at netlist n) → new.delays.items ≡ old.delays.items ++ delays_at netlist timing n
        → new.flops.items ≡ old.flops.items ++ flops_at netlist timing n → KeepsRows netlist timing (n + 1) new
    keeps-more at inputs delays flops = record {
      inputs =
          let long = ap length (first-more (input_at netlist) n) ∙ length-append (inputs_in netlist n) (input_at netlist n) in
          let before = kept.inputs in
          omega (arith, inputs, before, long);
      rows = rows ∙ ap₂ (λ (xs : List Row) (x : Row). xs ++ x ∷ []) kept.rows at ∙ sym (map-range_with_len_more (row_at netlist timing) 0 n n (omega arith));
      delays = delays ∙ ap (λ xs. xs ++ delays_at netlist timing n) kept.delays ∙ sym (first-more (delays_at netlist timing) n);
      flops = flops ∙ ap (λ xs. xs ++ flops_at netlist timing n) kept.flops ∙ sym (first-more (flops_at netlist timing) n);
    }

    -- an input more
    pub keeps-input : driver_at netlist n ≡ Primary → is ≡ row.Input old.inputs → new.inputs ≡ old.inputs + 1 → new.delays.items ≡ old.delays.items → new.flops.items ≡ old.flops.items → KeepsRows netlist timing (n + 1) new
    keeps-input d e inputs delays flops =
        keeps-more (e ∙ ap row.Input kept.inputs ∙ sym (ap (row_of netlist timing n) d))
        (let one = ap (λ x. length (cond (is_input x) (n ∷ []) [])) d in omega (arith, inputs, one))
        (delays ∙ sym (append-nil old.delays.items) ∙ ap (λ xs. old.delays.items ++ xs) (sym (ap (delays_of netlist timing n) d)))
        (flops ∙ sym (append-nil old.flops.items) ∙ ap (λ xs. old.flops.items ++ xs) (sym (ap (flops_of netlist timing n) d)))

    module _ (kind : Kind) (pins : List ℕ) (d : driver_at netlist n ≡ Driven kind pins) (inputs : new.inputs ≡ old.inputs) where
      none : new.inputs ≡ old.inputs + length (input_at netlist n)
      none = let zero = ap (λ x. length (cond (is_input x) (n ∷ []) [])) d in omega (arith, inputs, zero)

      -- a flip-flop more
      pub keeps-flop : is_dff kind ≡ true → (place : ℕ) → is ≡ row.Flop place → place ≡ length old.flops.items → new.delays.items ≡ old.delays.items → new.flops.items ≡ old.flops.items ++ flop_of netlist timing n pins ∷ []
          → KeepsRows netlist timing (n + 1) new
      keeps-flop dff place e last delays flops =
          keeps-more (e ∙ ap row.Flop (last ∙ ap length kept.flops) ∙ sym (ap (row_of netlist timing n) d ∙ ap (λ b. gate_row netlist timing n b kind pins) dff)) none
          (delays ∙ sym (append-nil old.delays.items) ∙ ap (λ xs. old.delays.items ++ xs) (sym (ap (delays_of netlist timing n) d ∙ ap (λ b. gate_delays netlist timing n b kind pins) dff)))
          (flops ∙ ap (λ xs. old.flops.items ++ xs) (sym (ap (flops_of netlist timing n) d ∙ ap (λ b. cond b (flop_of netlist timing n pins ∷ []) []) dff)))

      -- a gate more
      pub keeps-gate : is_dff kind ≡ false → is ≡ row.Gate kind (least_of (pin_delays netlist timing n kind pins)) (length old.delays.items) → new.delays.items ≡ old.delays.items ++ pin_delays netlist timing n kind pins
          → new.flops.items ≡ old.flops.items → KeepsRows netlist timing (n + 1) new
      keeps-gate dff e delays flops =
          keeps-more
          (e ∙ ap (λ start. row.Gate kind (least_of (pin_delays netlist timing n kind pins)) start) (ap length kept.delays) ∙ sym (ap (row_of netlist timing n) d ∙ ap (λ b. gate_row netlist timing n b kind pins) dff)) none
          (delays ∙ ap (λ xs. old.delays.items ++ xs) (sym (ap (delays_of netlist timing n) d ∙ ap (λ b. gate_delays netlist timing n b kind pins) dff)))
          (flops ∙ sym (append-nil old.flops.items) ∙ ap (λ xs. old.flops.items ++ xs) (sym (ap (flops_of netlist timing n) d ∙ ap (λ b. cond b (flop_of netlist timing n pins ∷ []) []) dff)))
