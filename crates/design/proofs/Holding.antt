-- A design with signals held, over the design as it was joined.
use Rattle.std.proofs.Common.{◌≡◌, ℕ, ◌<◌, Bool, true, false, ◌&&◌, ◌||◌, cond, List, [], ◌∷◌, length, get_or, set, filter, Option, Some, None, option_map, find, refl, sym, ap, ◌∙◌, subst, arith, inl, inr, get_or-set_other, get_or-set_same, length-set, eqb-true, eq-eqb}
use Rattle.std.specs.Prelude.{nat_eq, is_none}
use Rattle.std.specs.Borrow.{Bor}
use Rattle.std.proofs.Math.Bool.{and-false}
use Rattle.std.proofs.lemmas.Bool.{cases_lt}
use Rattle.std.proofs.lemmas.List.{get_or_past}
use Rattle.std.proofs.lemmas.List.Elements.{All-set}
use Rattle.std.proofs.lemmas.List.Sums.{sum_by-set}
use Rattle.gate_values.specs.declared.Value.{Value}
use Rattle.circuit_meaning.specs.declared.Setting.{Setting}
use Rattle.circuit_meaning.specs.Circuit.{Input, Driver, Circuit, IsDriver, AreLimits, AreDriverLimits, pin_count, driver, read_by}
use Rattle.circuit_meaning.specs.Forced.{forced_circuit}
use Rattle.circuit_meaning.proofs.Callers.{held-fits, driver_fits}
use Rattle.design.specs.declared.held.HeldSignal.{HeldSignal}
use Rattle.design.specs.declared.rows.SignalView.{SignalView as View}
use Rattle.design.specs.declared.rows.SignalView.TheVariants as view
use Rattle.design.specs.Joined.{IsDesign, Joined}
use Rattle.design.specs.inner.KeptDesigns.{IsViewOf, InTimeOrder, FitsFrom, driver_seen}
use Rattle.design.specs.inner.HeldSignals.{held_settings, held_circuit, value_of, held_design, open_readers, AreOpenReaders, IsHeldDesign}
use Rattle.design.specs.inner.Walk.{has, list_at, AreReaders}
use Rattle.design.proofs.Reading.{read-it}

-- the limits of a circuit do not depend on a signal being held
held-limits : (c : Circuit) (s : ℕ) (w : Value) → s < length c.drivers → AreLimits c → AreLimits (forced_circuit c s w)
held-limits c s w l h =
    let d : Driver = Input (held_settings w) in
    record {
      horizon = h.horizon;
      signals = rw (length-set c.drivers s d) h.signals;
      pins = (let e = sum_by-set pin_count c.drivers s d d l in let p = h.pins in omega (arith, e, p));
      drivers = All-set AreDriverLimits c.drivers s d tt h.drivers;
    }

has-filter : (p : ℕ → Bool) (xs : List ℕ) (x : ℕ) → has (filter p xs) x ≡ (p x && has xs x)
has-filter p [] x = sym (and-false (p x))
has-filter p (y ∷ ys) x = go (has-filter p ys x) (p y) refl (nat_eq x y) refl
  where
    go : has (filter p ys) x ≡ (p x && has ys x) → (a : Bool) → p y ≡ a → (b : Bool) → nat_eq x y ≡ b → has (cond a (y ∷ filter p ys) (filter p ys)) x ≡ (p x && (b || has ys x))
    go rest true e true f = ap (λ q. q || has (filter p ys) x) f ∙ sym (ap (λ q. q && (true || has ys x)) (ap p (eqb-true x y f) ∙ e))
    go rest true e false f = ap (λ q. q || has (filter p ys) x) f ∙ rest
    go rest false e true f =
        let no : p x ≡ false = ap p (eqb-true x y f) ∙ e in
        rest ∙ ap (λ q. q && has ys x) no ∙ sym (ap (λ q. q && (true || has ys x)) no)
    go rest false e false f = rest

module _ (c : Circuit) where
  pub held-long : (held : List HeldSignal) → length (held_circuit c held).drivers ≡ length c.drivers
  held-long [] = refl
  held-long (h ∷ held) = length-set (held_circuit c held).drivers h.site (Input (held_settings h.value)) ∙ held-long held

  pub held-horizon : (held : List HeldSignal) → (held_circuit c held).horizon ≡ c.horizon
  held-horizon [] = refl
  held-horizon (h ∷ held) = held-horizon held

  -- what drives a signal, by the value at which it is held
  abbrev driver_where : Driver → Option Value → Driver
  driver_where d None = d
  driver_where d (Some w) = Input (held_settings w)

  held-driver : (held : List HeldSignal) (s : ℕ) → s < length c.drivers → driver (held_circuit c held) s ≡ driver_where (driver c s) (value_of held s)
  held-driver [] s l = refl
  held-driver (h ∷ held) s l = go (held-driver held s l) (nat_eq h.site s) refl
    where
      go : driver (held_circuit c held) s ≡ driver_where (driver c s) (value_of held s) → (b : Bool) → nat_eq h.site s ≡ b → get_or (set (held_circuit c held).drivers h.site (Input (held_settings h.value))) s (Input []) ≡ driver_where (driver c s) (option_map (λ (x : HeldSignal). x.value) (cond b (Some h) (find (λ (x : HeldSignal). nat_eq x.site s) held)))
      go rest true e =
          let same : h.site ≡ s = eqb-true h.site s e in
          ap (λ k. get_or (set (held_circuit c held).drivers h.site (Input (held_settings h.value))) k (Input [])) (sym same)
          ∙ get_or-set_same (held_circuit c held).drivers h.site (Input (held_settings h.value)) (Input []) (let n = held-long held in omega (arith, n, l, same))
      go rest false e =
          get_or-set_other (held_circuit c held).drivers h.site s (Input (held_settings h.value)) (Input []) (λ k. absurd (let q = sym e ∙ eq-eqb h.site s (sym k) in cc q)) ∙ rest

  -- a signal that is not held is driven as before
  pub driver-open : (held : List HeldSignal) (s : ℕ) → s < length c.drivers → value_of held s ≡ None → driver (held_circuit c held) s ≡ driver c s
  driver-open held s l e = held-driver held s l ∙ ap (driver_where (driver c s)) e

  pub driver-held : (held : List HeldSignal) (s : ℕ) (w : Value) → s < length c.drivers → value_of held s ≡ Some w → driver (held_circuit c held) s ≡ Input (held_settings w)
  driver-held held s w l e = held-driver held s l ∙ ap (driver_where (driver c s)) e

  -- a signal that is held reads nothing
  reads-open : (held : List HeldSignal) (lists : List (List ℕ)) (u : ℕ) → AreReaders c lists → u < length c.drivers
      → (x : ℕ) → (is_none (value_of held x) && has (list_at lists u) x) ≡ has (read_by (driver (held_circuit c held) x)) u
  reads-open held lists u r l x = elim (cases_lt x (length c.drivers)) [
    | inl m ↦ within m (value_of held x) refl
    | inr m ↦
        let none : driver c x ≡ Input [] = get_or_past c.drivers x (Input []) m in
        let none' : driver (held_circuit c held) x ≡ Input [] = get_or_past (held_circuit c held).drivers x (Input []) (let n = held-long held in omega (arith, n, m)) in
        ap (λ q. is_none (value_of held x) && q) (r.each u x l ∙ ap (λ d. has (read_by d) u) none) ∙ and-false (is_none (value_of held x)) ∙ sym (ap (λ d. has (read_by d) u) none')
  ]
    where
      within : x < length c.drivers → (o : Option Value) → value_of held x ≡ o → (is_none o && has (list_at lists u) x) ≡ has (read_by (driver (held_circuit c held) x)) u
      within m None e = r.each u x l ∙ sym (ap (λ d. has (read_by d) u) (driver-open held x m e))
      within m (Some w) e = sym (ap (λ d. has (read_by d) u) (driver-held held x w m e))

  -- those readers of a signal that are not held
  pub open-readers : (held : List HeldSignal) (lists : List (List ℕ)) → AreReaders c lists → AreOpenReaders (held_circuit c held) lists held
  open-readers held lists r = record {
    long = r.long ∙ sym (held-long held);
    each = λ u l.
        read-it (held_circuit c held) u (open_readers lists held u) (λ x. has-filter (λ y. is_none (value_of held y)) (list_at lists u) x
        ∙ reads-open held lists u r (let n = held-long held in omega (arith, n, l)) x);
  }

module _ (j : Joined) (made : Option (List (List ℕ))) (held : List HeldSignal) (ok : IsHeldDesign j made held) (d : Joined) (e : held_design j held ≡ d) where
  abbrev c : Circuit
  c = held_circuit j.circuit held

  pub signals-are : length d.circuit.drivers ≡ length j.circuit.drivers
  signals-are = ap (λ (k : Joined). length k.circuit.drivers) (sym e) ∙ held-long j.circuit held

  pub horizon-is : j.circuit.horizon ≡ d.circuit.horizon
  horizon-is = sym (held-horizon j.circuit held) ∙ ap (λ (k : Joined). k.circuit.horizon) e

  pub netlist-is : j.netlist ≡ d.netlist
  netlist-is = ap (λ (k : Joined). k.netlist) e

  pub is-design : IsDesign d
  is-design = subst IsDesign e ok.design

  -- the readers that are not held
  pub readers-are : (lists : List (List ℕ)) → AreReaders j.circuit lists → AreOpenReaders d.circuit lists held
  readers-are lists r = subst (λ (k : Joined). AreOpenReaders k.circuit lists held) e (open-readers j.circuit held lists r)

  module _ (s : ℕ) (l : s < length d.circuit.drivers) where
    pub below : s < length j.circuit.drivers
    below = let n = signals-are in omega (arith, n, l)

    seen : (r : View) → driver c s ≡ driver_seen r → AreDriverLimits (driver_seen r) → FitsFrom r → IsViewOf d.circuit s r
    seen r is within fits = subst (λ (k : Joined). IsViewOf k.circuit s r) e (record {
      driver = is;
      sound = subst (IsDriver (length c.drivers) c.horizon) is (driver_fits c ok.design.circuit s);
      within = within;
      fits = fits;
    })

    -- what is seen of a signal that is held
    pub held-view : (w : Value) (xs : Bor (List Setting)) → value_of held s ≡ Some w → xs.now ≡ held_settings w → IsViewOf d.circuit s (view.Input xs)
    held-view w xs h is =
        seen (view.Input xs) (driver-held j.circuit held s w below h ∙ ap Input (sym is)) tt (subst InTimeOrder (sym is) (λ a b x y m. absurd (omega arith)))

    -- and of one that is not
    pub open-view : (r : View) → value_of held s ≡ None → IsViewOf j.circuit s r → IsViewOf d.circuit s r
    open-view r h src = seen r (driver-open j.circuit held s below h ∙ src.driver) src.within src.fits

  module _ (s : ℕ) (w : Value) (l : s < length d.circuit.drivers) where
    here : s < length c.drivers
    here = let n = held-long j.circuit held in let b = below s l in omega (arith, n, b)

    -- the same with one signal more
    pub held-more : IsHeldDesign j made (record { site = s; value = w } ∷ held)
    held-more = record {
      design = record {
        circuit = held-fits c s w ok.design.circuit;
        limits = held-limits c s w here ok.design.limits;
        signals = ok.design.signals ∙ sym (length-set c.drivers s (Input (held_settings w)));
      };
      readers = ok.readers;
    }

    pub circuit-more : held_circuit j.circuit (record { site = s; value = w } ∷ held) ≡ forced_circuit d.circuit s w
    circuit-more = ap (λ (k : Joined). forced_circuit k.circuit s w) e
