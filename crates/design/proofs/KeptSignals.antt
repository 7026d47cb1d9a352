-- What is kept of a signal stands for its driver.
use Rattle.std.proofs.Common.{◌≡◌, ℕ, ◌+◌, ◌<◌, ◌≤◌, List, [], ◌∷◌, length, get_or, map, drop, sym, ap, ◌∙◌, subst, arith}
use Rattle.std.specs.Borrow.{Bor}
use Rattle.std.specs.Global.{Vec}
use Rattle.std.proofs.lemmas.List.{get_or-map, get_or_read, length-take-le, length-drop}
use Rattle.std.proofs.lemmas.List.FromFn.{length-map-range_with_len, get_or-map-range_with_len}
use Rattle.gate_values.specs.declared.Kind.{Kind}
use Rattle.circuit_meaning.specs.declared.FlipFlop.{FlipFlop}
use Rattle.circuit_meaning.specs.declared.Setting.{Setting}
use Rattle.circuit_meaning.specs.Circuit.{Input, Gate, Flop, driver, IsDriver, AreDriverLimits}
use Rattle.circuit_meaning.specs.Cells.{least_delay}
use Rattle.circuit_meaning.proofs.Callers.{driver_fits}
use Rattle.design.specs.declared.rows.Row.{Row}
use Rattle.design.specs.declared.rows.Row.TheVariants as row
use Rattle.design.specs.declared.rows.SignalView.{SignalView as View}
use Rattle.design.specs.declared.rows.SignalView.TheVariants as view
use Rattle.design.specs.Joined.{Joined}
use Rattle.design.specs.KeptDesigns.{pins_with}
use Rattle.design.specs.inner.KeptDesigns.{KeptDesign, IsKeptDesign, joined_of, circuit_of, driver_at, driver_of, delays_at, flop_at, settings_at, signals_of, row_at, driver_seen, InTimeOrder, FitsFrom, FitsRow, IsViewOf}

module _ (k : KeptDesign) (ok : IsKeptDesign k) (s : ℕ) where
  here : s < length (circuit_of k).drivers → s < length k.netlist.names
  here l = subst (λ m. s < m) (length-map-range_with_len (driver_at k) 0 (length k.netlist.names)) l

  at : s < length (circuit_of k).drivers → driver (circuit_of k) s ≡ driver_at k s
  at l = get_or-map-range_with_len (driver_at k) 0 (length k.netlist.names) s s (Input []) (here l) (omega arith)

  kept-view : s < length (circuit_of k).drivers → (r : View) → driver_at k s ≡ driver_seen r → FitsFrom r → IsViewOf (circuit_of k) s r
  kept-view l r e fits =
      let c = circuit_of k in
      let is = at l ∙ e in
      record {
        driver = is;
        sound = subst (IsDriver (length c.drivers) c.horizon) is (driver_fits c ok.design.circuit s);
        within = subst AreDriverLimits is (ok.design.limits.drivers s (Input []) l);
        fits = fits;
      }

-- a list that was read, among the lists
pub list-read : (lists : List (Vec Setting)) (place : ℕ) (list : Vec Setting) → place < length lists → list ≡ get_or lists place list → list.items ≡ get_or (map (λ (v : Vec Setting). v.items) lists) place []
list-read lists place list l at = ap (λ (v : Vec Setting). v.items) at ∙ sym (get_or-map (λ (v : Vec Setting). v.items) lists place list [] l)

in_range : (k : KeptDesign) (d : Joined) → joined_of k ≡ d → (s : ℕ) → s < length d.circuit.drivers → s < length k.netlist.names
in_range k d e s l = subst (λ m. s < m) (length-map-range_with_len (driver_at k) 0 (length k.netlist.names)) (subst (λ (x : Joined). s < length x.circuit.drivers) (sym e) l)

module _ (k : KeptDesign) (ok : IsKeptDesign k) (d : Joined) (e : joined_of k ≡ d) (s : ℕ) (l : s < length d.circuit.drivers) (x : Row) (read : x ≡ get_or k.rows s x) where
  view-is : (r : View) → driver_at k s ≡ driver_seen r → FitsFrom r → IsViewOf d.circuit s r
  view-is r is fits = subst (λ (j : Joined). s < length j.circuit.drivers → IsViewOf j.circuit s r) e (λ h. kept-view k ok s h r is fits) l

  row-is : (y : Row) → x ≡ y → row_at k s ≡ y
  row-is y is = sym (get_or_read k.rows s x (let h = in_range k d e s l in omega (arith, h, ok.rows)) read (row.Input 0)) ∙ is

  row-fits : (y : Row) → x ≡ y → FitsRow k (signals_of k s) y
  row-fits y is = subst (FitsRow k (signals_of k s)) (row-is y is) (ok.fits s (in_range k d e s l))

  driver-is : (y : Row) → x ≡ y → driver_at k s ≡ driver_of k (signals_of k s) y
  driver-is y is = ap (driver_of k (signals_of k s)) (row-is y is)

  module _ (place : ℕ) (is : x ≡ row.Input place) where
    pub input-within : place < length k.settings
    input-within = (row-fits (row.Input place) is).0

    pub input-view : (xs : Bor (List Setting)) → xs.now ≡ settings_at k place → IsViewOf d.circuit s (view.Input xs)
    input-view xs at = view-is (view.Input xs) (driver-is (row.Input place) is ∙ ap Input (sym at)) (subst InTimeOrder (sym at) (row-fits (row.Input place) is).1)

  module _ (kind : Kind) (least start : ℕ) (is : x ≡ row.Gate kind least start) (signals : Bor (List ℕ)) (reads : signals.now ≡ signals_of k s) where
    gate-fits : FitsRow k signals.now (row.Gate kind least start)
    gate-fits = subst (λ xs. FitsRow k xs (row.Gate kind least start)) (sym reads) (row-fits (row.Gate kind least start) is)

    pub gate-within : start + length signals.now ≤ length k.delays
    gate-within = gate-fits.0

    pub gate-view : (delays : Bor (List ℕ)) → delays.now ≡ delays_at k start (length signals.now) → IsViewOf d.circuit s (view.Gate kind signals delays least)
    gate-view delays at =
        let room = gate-within in
        let left = length-drop start k.delays in
        view-is (view.Gate kind signals delays least)
        (driver-is (row.Gate kind least start) is ∙ ap (λ xs. driver_of k xs (row.Gate kind least start)) (sym reads) ∙ ap (λ ds. Gate kind (pins_with signals.now ds)) (sym at))
        (ap length at ∙ length-take-le (length signals.now) (drop start k.delays) (omega (arith, room, left)), gate-fits.1 ∙ ap (λ ds. least_delay (pins_with signals.now ds)) (sym at))

  module _ (place : ℕ) (is : x ≡ row.Flop place) where
    pub flop-within : place < length k.flops
    flop-within = (row-fits (row.Flop place) is).0

    pub flop-view : (f : FlipFlop) (signals : Bor (List ℕ)) → f ≡ get_or k.flops place f → signals.now ≡ signals_of k s → IsViewOf d.circuit s (view.Flop f signals)
    flop-view f signals at reads =
        let same : flop_at k place ≡ f = sym (get_or_read k.flops place f flop-within at _) in
        view-is (view.Flop f signals) (driver-is (row.Flop place) is ∙ ap Flop same) (reads ∙ (row-fits (row.Flop place) is).1 ∙ ap (λ (g : FlipFlop). g.pin ∷ []) same)
