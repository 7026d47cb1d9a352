-- What is kept of the three files is a design.
use Rattle.std.proofs.Common.{◌≡◌, ℕ, zero, suc, ◌+◌, ◌<◌, ◌≤◌, ◌≢◌, Bool, true, false, cond, min, List, [], ◌∷◌, length, get_or, map, filter, fold, take, drop, Option, Some, None, refl, sym, ap, ◌∙◌, subst, arith, leb-true, eqb-true}
use Rattle.std.specs.Prelude.{All, IfSome, IsTrue, sum_by, nat_eq, nat_le, unwrap_or}
use Rattle.std.specs.Global.{Vec}
use Rattle.std.specs.List.{range_with_len, AllByRecursion}
use Rattle.std.specs.Str.{bytes_eq}
use Rattle.std.proofs.lemmas.List.{length-map, get_or-map, ext_get_or}
use Rattle.std.proofs.lemmas.Option.{IfSome_then}
use Rattle.std.proofs.lemmas.List.Elements.{recursion_from_All}
use Rattle.std.proofs.lemmas.List.FromFn.{length-map-range_with_len, get_or-map-range_with_len, fill_by_all}
use Rattle.gate_values.specs.declared.Kind.{Kind}
use Rattle.gate_values.specs.declared.Kind.TheVariants.{And, Nand, Or, Nor, Xor, Xnor, Not, Buff, Dff}
use Rattle.gate_values.specs.declared.Value.{Value}
use Rattle.gate_values.specs.declared.Value.TheVariants.{X, Z}
use Rattle.gate_values.specs.Gates.{allows, is_unary}
use Rattle.gate_values.proofs.Callers.{allows-one, allows-some}
use Rattle.circuit_meaning.specs.declared.flip_flop.Clock.{Clock}
use Rattle.circuit_meaning.specs.Edges.{IsClock}
use Rattle.circuit_meaning.specs.declared.Setting.{Setting}
use Rattle.circuit_meaning.specs.declared.Pin.{Pin}
use Rattle.circuit_meaning.specs.declared.FlipFlop.{FlipFlop}
use Rattle.circuit_meaning.specs.Circuit as circuits
use Rattle.circuit_meaning.specs.Circuit.{Circuit, IsCircuit, IsDriver, AreDriverLimits, pin_count, read_by}
use Rattle.circuit_meaning.specs.Cells.{least_delay}
use Rattle.bench_reader.specs.Netlists as netlists
use Rattle.bench_reader.specs.Netlists.{NetlistDriver, Primary, Driven, pins_of, IsNetlist}
use Rattle.timing_file.specs.Timing as timings
use Rattle.timing_file.specs.Timing.{default_of}
use Rattle.timing_file.specs.Ranges.{IsTiming, IsDelay, IsWithin}
use Rattle.timing_file.specs.declared.TimingRow.{TimingRow}
use Rattle.timing_file.proofs.Callers.{default-within}
use Rattle.timing_file.specs.declared.ClockRow.{ClockRow}
use Rattle.timing_file.specs.declared.TimingWhat.{TimingWhat}
use Rattle.timing_file.specs.declared.TimingWhat.TheVariants as what
use Rattle.stimulus_file.specs.Stimulus as stimuli
use Rattle.stimulus_file.specs.Stimulus.{SetRow}
use Rattle.design.specs.declared.rows.Row.{Row}
use Rattle.design.specs.declared.rows.Row.TheVariants as row
use Rattle.design.specs.Joined.{IsDesign}
use Rattle.design.specs.inner.KeptDesigns.{KeptDesign, IsKeptDesign, joined_of, driver_of, flop_at, InTimeOrder, FitsRow}
use Rattle.design.specs.KeptDesigns.{pins_with}
use Rattle.design.specs.inner.KeptDesigns as kept
use Rattle.design.specs.Join.{number, driver_at, is_dff, or_else, last_said, when, said_of, rows_say, delay_said, pin_said, initial_said, clock_said, clock_named, clock_of_row, flop_of, delay_of, pin_delay, pin_delays, joined_driver, joined_gate, circuit_from, settings_of, is_signal, setting_of, is_input, fault_of, cause_of_set, set_fault, unless, first_fault, changes_of, stated_settings}
use Rattle.design.specs.inner.Said.{least_of, of_first, input_at, inputs_in, inputs_of, delays_of, delays_at, gate_delays, flops_of, flops_at, row_of, row_at, gate_row, HasSets, lists_in}
use Rattle.design.specs.declared.fault.JoinFault.{JoinFault}
use Rattle.design.specs.declared.fault.JoinFile.TheVariants as file
use Rattle.design.specs.declared.fault.JoinCause.TheVariants.{NotInput, PastHorizon}
use Rattle.stimulus_file.specs.Ranges.{IsStimulus}
use Rattle.design.proofs.Answered.{length-pins_with, get_or-pins_with}
use Rattle.design.proofs.Places.{within, stands, one-within, one-stands, alone-at}
use Rattle.design.proofs.Rowed.{row-sound}
use Rattle.design.proofs.SortedSettings.{order-differs}
use Rattle.design.proofs.ChangedSettings.{changed-order, changed-all}

-- the least delay of pins with these delays
fold-least : (m : ℕ) (signals delays : List ℕ) → length delays ≡ length signals → fold (λ (n : ℕ) (p : Pin). min n p.delay) m (pins_with signals delays) ≡ fold min m delays
fold-least m [] [] e = refl
fold-least m [] (d ∷ delays) e = absurd (omega arith)
fold-least m (s ∷ signals) [] e = absurd (omega arith)
fold-least m (s ∷ signals) (d ∷ delays) e = fold-least (min m d) signals delays (omega arith)

pub least-is : (signals delays : List ℕ) → length delays ≡ length signals → least_of delays ≡ least_delay (pins_with signals delays)
unfolding least_delay
least-is [] [] e = refl
least-is [] (d ∷ delays) e = absurd (omega arith)
least-is (s ∷ signals) [] e = absurd (omega arith)
least-is (s ∷ signals) (d ∷ delays) e = sym (fold-least d signals delays (omega arith))

length-pin_delays : (netlist : netlists.Content) (timing : timings.Content) (s : ℕ) (kind : Kind) (pins : List ℕ) → length (pin_delays netlist timing s kind pins) ≡ length pins
length-pin_delays netlist timing s kind pins = length-map-range_with_len (pin_delay netlist timing s kind) 0 (length pins)

dff-unary : (kind : Kind) → is_dff kind ≡ true → IsTrue (is_unary kind)
dff-unary Dff h = refl
dff-unary And h = absurd (cc h)
dff-unary Nand h = absurd (cc h)
dff-unary Or h = absurd (cc h)
dff-unary Nor h = absurd (cc h)
dff-unary Xor h = absurd (cc h)
dff-unary Xnor h = absurd (cc h)
dff-unary Not h = refl
dff-unary Buff h = refl

single : (pins : List ℕ) → length pins ≡ 1 → pins ≡ get_or pins 0 0 ∷ []
single [] h = absurd (omega arith)
single (p ∷ []) h = refl
single (p ∷ q ∷ more) h = absurd (omega arith)

-- sums whose terms are equal
same-sums : {A B : Type 0} (f : A → ℕ) (g : B → ℕ) (a : A) (b : B) (m : ℕ) (xs : List A) (ys : List B) → length xs ≡ length ys → ((k : ℕ) → k < length xs → f (get_or xs k a) ≡ g (get_or ys k b))
    → fold (λ n x. n + f x) m xs ≡ fold (λ n y. n + g y) m ys
same-sums f g a b m [] [] e h = refl
same-sums f g a b m [] (y ∷ ys) e h = absurd (omega arith)
same-sums f g a b m (x ∷ xs) [] e h = absurd (omega arith)
same-sums f g a b m (x ∷ xs) (y ∷ ys) e h =
    ap (λ n. fold (λ n x. n + f x) (m + n) xs) (h 0 (omega arith)) ∙ same-sums f g a b (m + g y) xs ys (omega arith) (λ k l. h (suc k) (omega arith))

kept-same : (netlist : netlists.Content) (h h' : ℕ) (rows rows' : List Row) (delays delays' : List ℕ) (flops flops' : List FlipFlop) (settings settings' : List (List Setting)) → h ≡ h' → rows ≡ rows' → delays ≡ delays' → flops ≡ flops'
    → settings ≡ settings' → ◌≡◌ {A = KeptDesign} (record { horizon = h; netlist = netlist; rows = rows; delays = delays; flops = flops; settings = settings })
    (record { horizon = h'; netlist = netlist; rows = rows'; delays = delays'; flops = flops'; settings = settings' })
kept-same netlist h h' rows rows' delays delays' flops flops' settings settings' a b c d e = cc (a, b, c, d, e)

-- what rows say is in range
module _ {A : Type 0} (P : A → Type 0) where
  or-some : (a b : Option A) → IfSome a P → IfSome b P → IfSome (or_else a b) P
  or-some None b h k = k
  or-some (Some x) b h k = h

  when-some : (b : Bool) (a : Option A) → IfSome a P → IfSome (when b a) P
  when-some true a h = h
  when-some false a h = tt

  last-some : {R : Type 0} (says : R → Option A) (rows : List R) → AllByRecursion (λ r. IfSome (says r) P) rows → IfSome (last_said says rows) P
  last-some says [] h = tt
  last-some says (r ∷ rows) h = or-some (last_said says rows) (says r) (last-some says rows h.1) h.0

  unwrap-some : (a : Option A) (d : A) → IfSome a P → P d → P (unwrap_or a d)
  unwrap-some None d h k = k
  unwrap-some (Some x) d h k = h

  pub rows-some : (netlist : netlists.Content) (rows : List TimingRow) (s : ℕ) (says : TimingWhat → Option A) → ((w : TimingWhat) → IsWithin w → IfSome (says w) P)
      → AllByRecursion (λ (r : TimingRow). IsWithin r.what) rows → IfSome (rows_say netlist rows s says) P
  rows-some netlist rows s says each h = last-some (said_of netlist s says) rows (every rows h)
    where
      every : (rows : List TimingRow) → AllByRecursion (λ (r : TimingRow). IsWithin r.what) rows → AllByRecursion (λ r. IfSome (said_of netlist s says r) P) rows
      every [] h = tt
      every (r ∷ rows) h = (when-some (is_signal s (number netlist r.name)) (says r.what) (each r.what h.0), every rows h.1)

module _ (netlist : netlists.Content) (timing : timings.Content) (ok : IsTiming timing) where
  ranges : AllByRecursion (λ (r : TimingRow). IsWithin r.what) timing.rows
  ranges = recursion_from_All (λ (r : TimingRow). IsWithin r.what) timing.rows ok.rows

  delay-in : (w : TimingWhat) → IsWithin w → IfSome (delay_said w) IsDelay
  delay-in (what.Delay d) h = h
  delay-in (what.Init v) h = tt
  delay-in (what.Pin k d) h = tt
  delay-in (what.Clocked c) h = tt

  pin-in : (k : ℕ) (w : TimingWhat) → IsWithin w → IfSome (pin_said k w) IsDelay
  pin-in k (what.Delay d) h = tt
  pin-in k (what.Init v) h = tt
  pin-in k (what.Pin place d) h = when-some IsDelay (nat_eq place k) (Some d) h.1
  pin-in k (what.Clocked c) h = tt

  named-in : (name : List ℕ) → IfSome (clock_named timing name) IsClock
  named-in name = last-some IsClock (clock_of_row name) timing.clocks (every timing.clocks (recursion_from_All (λ (r : ClockRow). IsClock r.clock) timing.clocks ok.clocks))
    where
      every : (rows : List ClockRow) → AllByRecursion (λ (r : ClockRow). IsClock r.clock) rows → AllByRecursion (λ r. IfSome (clock_of_row name r) IsClock) rows
      every [] h = tt
      every (r ∷ rows) h = (elim (bytes_eq name r.name) as (λ b. IfSome (cond b (Some r.clock) None) IsClock) [ true ↦ h.0 | false ↦ tt ], every rows h.1)

  clock-in : (w : TimingWhat) → IsWithin w → IfSome (clock_said timing w) IsClock
  clock-in (what.Delay d) h = tt
  clock-in (what.Init v) h = tt
  clock-in (what.Pin k d) h = tt
  clock-in (what.Clocked name) h = named-in name

  initial-in : (w : TimingWhat) → IsWithin w → IfSome (initial_said w) (λ v. v ≢ Z)
  initial-in (what.Delay d) h = tt
  initial-in (what.Init v) h = h
  initial-in (what.Pin k d) h = tt
  initial-in (what.Clocked c) h = tt

  pub initial-range : (s : ℕ) → unwrap_or (rows_say netlist timing.rows s initial_said) X ≢ Z
  initial-range s = unwrap-some (λ (v : Value). v ≢ Z) (rows_say netlist timing.rows s initial_said) X (rows-some (λ (v : Value). v ≢ Z) netlist timing.rows s initial_said initial-in ranges) (λ e. cc e)

  pub delay-range : (s : ℕ) (kind : Kind) → IsDelay (delay_of netlist timing s kind)
  delay-range s kind = unwrap-some IsDelay (rows_say netlist timing.rows s delay_said) (default_of timing kind) (rows-some IsDelay netlist timing.rows s delay_said delay-in ranges) (default-within timing kind ok)

  pub pin-range : (s : ℕ) (kind : Kind) (k : ℕ) → IsDelay (pin_delay netlist timing s kind k)
  pin-range s kind k = unwrap-some IsDelay (rows_say netlist timing.rows s (pin_said k)) (delay_of netlist timing s kind) (rows-some IsDelay netlist timing.rows s (pin_said k) (pin-in k) ranges) (delay-range s kind)

  pub clock-range : (s : ℕ) → IfSome (or_else (rows_say netlist timing.rows s (clock_said timing)) timing.clock) IsClock
  clock-range s = or-some IsClock (rows_say netlist timing.rows s (clock_said timing)) timing.clock (rows-some IsClock netlist timing.rows s (clock_said timing) clock-in ranges) ok.clock

-- the settings of a signal are not after the horizon
module _ (netlist : netlists.Content) (s : ℕ) where
  signal-is : (o : Option ℕ) → is_signal s o ≡ true → o ≡ Some s
  signal-is None h = absurd (cc h)
  signal-is (Some n) h = ap Some (eqb-true n s h)

  kept-all : (P : Setting → Type 0) (sets : List SetRow) → AllByRecursion (λ (r : SetRow). is_signal s (number netlist r.name) ≡ true → P (setting_of r)) sets
      → AllByRecursion P (map setting_of (filter (λ (r : SetRow). is_signal s (number netlist r.name)) sets))
  kept-all P [] h = tt
  kept-all P (r ∷ sets) h = go (is_signal s (number netlist r.name)) refl (kept-all P sets h.1)
    where
      go : (b : Bool) → is_signal s (number netlist r.name) ≡ b → AllByRecursion P (map setting_of (filter (λ (r : SetRow). is_signal s (number netlist r.name)) sets))
          → AllByRecursion P (map setting_of (cond b (r ∷ filter (λ (r : SetRow). is_signal s (number netlist r.name)) sets) (filter (λ (r : SetRow). is_signal s (number netlist r.name)) sets)))
      go true e k = (h.0 e, k)
      go false e k = k

  within-bucket : (horizon : ℕ) (sets : List SetRow) → AllByRecursion (λ r. set_fault netlist horizon r ≡ None) sets → AllByRecursion (λ y. y.time ≤ horizon) (stated_settings netlist sets s)
  within-bucket horizon sets h = kept-all (λ y. y.time ≤ horizon) sets (every sets h)
    where
      in-time : (r : SetRow) → set_fault netlist horizon r ≡ None → number netlist r.name ≡ Some s → r.time ≤ horizon
      in-time r none e = leb-true r.time horizon (passed (is_input (driver_at netlist s)) (nat_le r.time horizon) (ap (λ o. fault_of file.Stimulus r.line (cause_of_set netlist horizon o r.time)) (sym e) ∙ none))
        where
          passed : (a b : Bool) → fault_of file.Stimulus r.line (unless a NotInput (unless b PastHorizon None)) ≡ None → b ≡ true
          passed true true h = refl
          passed true false h = absurd (cc h)
          passed false true h = refl
          passed false false h = absurd (cc h)

      every : (sets : List SetRow) → AllByRecursion (λ r. set_fault netlist horizon r ≡ None) sets → AllByRecursion (λ (r : SetRow). is_signal s (number netlist r.name) ≡ true → (setting_of r).time ≤ horizon) sets
      every [] h = tt
      every (r ∷ sets) h = ((λ k. in-time r h.0 (signal-is (number netlist r.name) k)), every sets h.1)

no-faults : {R : Type 0} (fault : R → Option JoinFault) (rows : List R) → first_fault fault rows ≡ None → AllByRecursion (λ r. fault r ≡ None) rows
no-faults fault [] h = tt
no-faults {R} fault (r ∷ rows) h = go (λ k. no-faults fault rows k) (fault r) refl h
  where
    go : (first_fault fault rows ≡ None → AllByRecursion (λ r. fault r ≡ None) rows) → (o : Option JoinFault) → fault r ≡ o → or_else o (first_fault fault rows) ≡ None → (fault r ≡ None) × AllByRecursion (λ r. fault r ≡ None) rows
    go again None e k = (e, again k)
    go again (Some f) e k = absurd (cc k)

module _ (netlist : netlists.Content) (timing : timings.Content) (stimulus : stimuli.Content) (n-ok : IsNetlist netlist) (t-ok : IsTiming timing) (s-ok : IsStimulus stimulus)
    (none : first_fault (set_fault netlist stimulus.horizon) stimulus.sets ≡ None) where
  abbrev n : ℕ
  n = length netlist.names

  abbrev joined : ℕ → circuits.Driver
  joined s = joined_driver netlist timing stimulus.sets s (driver_at netlist s)

  in-order : (s : ℕ) → InTimeOrder (settings_of netlist stimulus.sets s)
  in-order s = changed-order (stated_settings netlist stimulus.sets s)

  settings-sound : (s : ℕ) → circuits.AreSettings stimulus.horizon (settings_of netlist stimulus.sets s)
  settings-sound s = record {
    within = changed-all (λ (y : Setting). y.time ≤ stimulus.horizon) (stated_settings netlist stimulus.sets s)
        (within-bucket netlist s stimulus.horizon stimulus.sets (no-faults (set_fault netlist stimulus.horizon) stimulus.sets none));
    different = order-differs (settings_of netlist stimulus.sets s) (in-order s);
  }

  gate-sound : (s : ℕ) (b : Bool) (kind : Kind) (pins : List ℕ) → netlists.ArePins n kind pins → IsDriver n stimulus.horizon (joined_gate netlist timing s b kind pins)
  gate-sound s true kind pins ok = record {
    pin = ok.signal 0 0 (let some = allows-some kind (length pins) ok.count in omega (arith, some));
    delay = (delay-range netlist timing t-ok s Dff).0;
    period = IfSome_then (or_else (rows_say netlist timing.rows s (clock_said timing)) timing.clock) (clock-range netlist timing t-ok s) (λ (clock : Clock) k. k.some);
    initial = initial-range netlist timing t-ok s;
  }
  gate-sound s false kind pins ok =
      let delays = pin_delays netlist timing s kind pins in
      let long = length-pin_delays netlist timing s kind pins in
      let same = length-pins_with pins delays long in
      record {
        count = subst (λ n. IsTrue (allows kind n)) (sym same) ok.count;
        signal = λ k d l. subst (λ (p : Pin). p.signal < n) (sym (get_or-pins_with pins delays k d long (omega (arith, same, l)))) (ok.signal k 0 (omega (arith, same, l)));
        delay = λ k d l. subst (λ (p : Pin). 1 ≤ p.delay) (sym (get_or-pins_with pins delays k d long (omega (arith, same, l))))
            (subst (λ x. 1 ≤ x) (sym (get_or-map-range_with_len (pin_delay netlist timing s kind) 0 (length pins) k k 0 (omega (arith, same, l)) (omega arith))) (pin-range netlist timing t-ok s kind k).0);
      }

  joined-sound : (s : ℕ) (d : NetlistDriver) → netlists.IsNetlistDriver n d → IsDriver n stimulus.horizon (joined_driver netlist timing stimulus.sets s d)
  joined-sound s Primary ok = settings-sound s
  joined-sound s (Driven kind pins) ok = gate-sound s (is_dff kind) kind pins ok

  gate-within : (s : ℕ) (b : Bool) (kind : Kind) (pins : List ℕ) → AreDriverLimits (joined_gate netlist timing s b kind pins)
  gate-within s true kind pins = ((delay-range netlist timing t-ok s Dff).1, clock-range netlist timing t-ok s)
  gate-within s false kind pins =
      let delays = pin_delays netlist timing s kind pins in
      let long = length-pin_delays netlist timing s kind pins in
      let same = length-pins_with pins delays long in
      λ k d l. subst (λ (p : Pin). p.delay ≤ 1000000) (sym (get_or-pins_with pins delays k d long (omega (arith, same, l))))
      (subst (λ x. x ≤ 1000000) (sym (get_or-map-range_with_len (pin_delay netlist timing s kind) 0 (length pins) k k 0 (omega (arith, same, l)) (omega arith))) (pin-range netlist timing t-ok s kind k).1)

  joined-within : (s : ℕ) (d : NetlistDriver) → AreDriverLimits (joined_driver netlist timing stimulus.sets s d)
  joined-within s Primary = tt
  joined-within s (Driven kind pins) = gate-within s (is_dff kind) kind pins

  -- a joined driver has the pins of its row
  gate-count : (s : ℕ) (b : Bool) (kind : Kind) (pins : List ℕ) → is_dff kind ≡ b → netlists.ArePins n kind pins → pin_count (joined_gate netlist timing s b kind pins) ≡ length pins
  gate-count s true kind pins e ok = sym (allows-one kind (length pins) ok.count (dff-unary kind e))
  gate-count s false kind pins e ok =
      let delays = pin_delays netlist timing s kind pins in
      length-map (pins_with pins delays) (λ p. p.signal) ∙ length-pins_with pins delays (length-pin_delays netlist timing s kind pins)

  joined-count : (s : ℕ) (d : NetlistDriver) → netlists.IsNetlistDriver n d → pin_count (joined_driver netlist timing stimulus.sets s d) ≡ length (pins_of d)
  joined-count s Primary ok = refl
  joined-count s (Driven kind pins) ok = gate-count s (is_dff kind) kind pins refl ok

  all-count : sum_by pin_count (map joined (range_with_len 0 n)) ≡ sum_by (λ d. length (pins_of d)) netlist.rows
  all-count =
      let long = length-map-range_with_len joined 0 n in
      same-sums pin_count (λ d. length (pins_of d)) (circuits.Input []) Primary 0 (map joined (range_with_len 0 n)) netlist.rows (long ∙ sym n-ok.rows)
      (λ k l. let m : k < n = omega (arith, long, l) in
      ap pin_count (get_or-map-range_with_len joined 0 n k k (circuits.Input []) m (omega arith)) ∙ joined-count k (driver_at netlist k) (row-sound netlist n-ok k m))

  all-range : (P : circuits.Driver → Type 0) → ((s : ℕ) → s < n → P (joined s)) → All P (map joined (range_with_len 0 n))
  all-range P h i d l =
      let m : i < n = let e = length-map-range_with_len joined 0 n in omega (arith, e, l) in
      subst P (sym (get_or-map-range_with_len joined 0 n i i d m (omega arith))) (h i m)

  from-design : IsDesign (record { netlist = netlist; circuit = circuit_from netlist timing stimulus })
  from-design =
      let long = length-map-range_with_len joined 0 n in
      record {
        circuit = all-range (IsDriver (length (map joined (range_with_len 0 n))) stimulus.horizon)
            (λ s l. subst (λ m. IsDriver m stimulus.horizon (joined s)) (sym long) (joined-sound s (driver_at netlist s) (row-sound netlist n-ok s l)));
        limits = record {
          signals = omega (arith, long, n-ok.few);
          horizon = s-ok.horizon;
          pins = omega (arith, all-count, n-ok.pins);
          drivers = all-range AreDriverLimits (λ s l. joined-within s (driver_at netlist s));
        };
        signals = sym long;
      }

  -- what is made of the three files
  abbrev made : KeptDesign
  made = record {
    horizon = stimulus.horizon;
    netlist = netlist;
    rows = map (row_at netlist timing) (range_with_len 0 n);
    delays = of_first (delays_at netlist timing) n;
    flops = of_first (flops_at netlist timing) n;
    settings = map (settings_of netlist stimulus.sets) (inputs_of netlist);
  }

  -- a row stands for the joined driver
  gate-stands : (s : ℕ) → s < n → (b : Bool) (kind : Kind) (pins : List ℕ) → is_dff kind ≡ b → driver_at netlist s ≡ Driven kind pins → netlists.ArePins n kind pins
      → (driver_of made pins (gate_row netlist timing s b kind pins) ≡ joined_gate netlist timing s b kind pins) × FitsRow made pins (gate_row netlist timing s b kind pins)
  gate-stands s l true kind pins dff is ok =
      let f = flop_of netlist timing s pins in
      let alone : flops_at netlist timing s ≡ f ∷ [] = ap (flops_of netlist timing s) is ∙ ap (λ b. cond b (f ∷ []) []) dff in
      let at : flop_at made (length (of_first (flops_at netlist timing) s)) ≡ f = one-stands (flops_at netlist timing) n s l f alone _ in
      (ap circuits.Flop at, (one-within (flops_at netlist timing) n s l f alone, single pins (allows-one kind (length pins) ok.count (dff-unary kind dff)) ∙ ap (λ (g : FlipFlop). g.pin ∷ []) (sym at)))
  gate-stands s l false kind pins dff is ok =
      let delays = pin_delays netlist timing s kind pins in
      let start = length (of_first (delays_at netlist timing) s) in
      let are : delays_at netlist timing s ≡ delays = ap (delays_of netlist timing s) is ∙ ap (λ b. gate_delays netlist timing s b kind pins) dff in
      let long : length (delays_at netlist timing s) ≡ length pins = ap length are ∙ length-pin_delays netlist timing s kind pins in
      let at : take (length pins) (drop start made.delays) ≡ delays = ap (λ m. take m (drop start made.delays)) (sym long) ∙ stands (delays_at netlist timing) n s l ∙ are in
      let room = within (delays_at netlist timing) n s l in (
        ap (λ ds. circuits.Gate kind (pins_with pins ds)) at,
        (omega (arith, room, long), least-is pins delays (length-pin_delays netlist timing s kind pins) ∙ ap (λ ds. least_delay (pins_with pins ds)) (sym at)),
      )

  row-stands : (s : ℕ) → s < n → (d : NetlistDriver) → driver_at netlist s ≡ d → netlists.IsNetlistDriver n d
      → (driver_of made (pins_of d) (row_of netlist timing s d) ≡ joined_driver netlist timing stimulus.sets s d) × FitsRow made (pins_of d) (row_of netlist timing s d)
  row-stands s l Primary is ok =
      let all = inputs_of netlist in
      let place = length (inputs_in netlist s) in
      let alone = alone-at netlist s (ap is_input is) in
      let room = one-within (input_at netlist) n s l s alone in
      let at : get_or made.settings place [] ≡ settings_of netlist stimulus.sets s =
      get_or-map (settings_of netlist stimulus.sets) all place 0 [] room ∙ ap (settings_of netlist stimulus.sets) (one-stands (input_at netlist) n s l s alone 0) in
      let long = length-map all (settings_of netlist stimulus.sets) in
      (ap circuits.Input at, (omega (arith, long, room), subst InTimeOrder (sym at) (in-order s)))
  row-stands s l (Driven kind pins) is ok = gate-stands s l (is_dff kind) kind pins refl is ok

  stands-at : (s : ℕ) → s < n → (driver_of made (pins_of (driver_at netlist s)) (row_at netlist timing s) ≡ joined s) × FitsRow made (pins_of (driver_at netlist s)) (row_at netlist timing s)
  stands-at s l = row-stands s l (driver_at netlist s) refl (row-sound netlist n-ok s l)

  at-row : (s : ℕ) → s < n → get_or made.rows s (row.Input 0) ≡ row_at netlist timing s
  at-row s l = get_or-map-range_with_len (row_at netlist timing) 0 n s s (row.Input 0) l (omega arith)

  at-driver : (s : ℕ) → s < n → kept.driver_at made s ≡ joined s
  at-driver s l = ap (driver_of made (pins_of (driver_at netlist s))) (at-row s l) ∙ (stands-at s l).0

  drivers-are : map (kept.driver_at made) (range_with_len 0 n) ≡ map joined (range_with_len 0 n)
  drivers-are = fill_by_all joined (map (kept.driver_at made) (range_with_len 0 n)) n (circuits.Input []) (length-map-range_with_len (kept.driver_at made) 0 n)
      (λ s l. get_or-map-range_with_len (kept.driver_at made) 0 n s s (circuits.Input []) l (omega arith) ∙ at-driver s l)

  made-joined : joined_of made ≡ record { netlist = netlist; circuit = circuit_from netlist timing stimulus }
  made-joined = ap (λ (ds : List circuits.Driver). record { netlist = netlist; circuit = record { horizon = stimulus.horizon; drivers = ds } }) drivers-are

  made-kept : IsKeptDesign made
  made-kept = record {
    design = subst IsDesign (sym made-joined) from-design;
    shapes = n-ok.rows;
    rows = length-map-range_with_len (row_at netlist timing) 0 n;
    fits = λ s l. subst (FitsRow made (pins_of (driver_at netlist s))) (sym (at-row s l)) (stands-at s l).1;
  }

  module _ (h : ℕ) (rows : List Row) (delays : List ℕ) (flops : List FlipFlop) (settings : List (List Setting)) (hh : h ≡ made.horizon) (rr : rows ≡ made.rows) (dd : delays ≡ made.delays) (ff : flops ≡ made.flops)
      (ss : settings ≡ made.settings) where
    abbrev keeps : KeptDesign
    keeps = record { horizon = h; netlist = netlist; rows = rows; delays = delays; flops = flops; settings = settings }

    same : keeps ≡ made
    same = kept-same netlist h stimulus.horizon rows made.rows delays made.delays flops made.flops settings made.settings hh rr dd ff ss

    -- what is kept is the design of the three files
    pub joined-is : joined_of keeps ≡ record { netlist = netlist; circuit = circuit_from netlist timing stimulus }
    joined-is = ap joined_of same ∙ made-joined

    pub is-kept : IsKeptDesign keeps
    is-kept = subst IsKeptDesign (sym same) made-kept

-- the settings of all inputs, put in order
pub ordered-are : (netlist : netlists.Content) (sets : List SetRow) (buckets : List (Vec Setting)) (lists : List (List Setting)) → HasSets netlist sets buckets
    → lists ≡ map (λ (b : Vec Setting). changes_of b.items) buckets → lists ≡ map (settings_of netlist sets) (inputs_of netlist)
ordered-are netlist sets buckets lists has e =
    let all = inputs_of netlist in
    let long = ap length e ∙ length-map buckets (λ (b : Vec Setting). changes_of b.items) ∙ has.long in
    ext_get_or [] lists (map (settings_of netlist sets) all) (long ∙ sym (length-map all (settings_of netlist sets)))
    (λ k l. let m : k < length all = omega (arith, l, long) in ap (λ xs. get_or xs k []) e ∙ at buckets k ∙ ap changes_of (has.each k m) ∙ sym (get_or-map (settings_of netlist sets) all k 0 [] m))
  where
    at : (buckets : List (Vec Setting)) (k : ℕ) → get_or (map (λ (b : Vec Setting). changes_of b.items) buckets) k [] ≡ changes_of (get_or (lists_in buckets) k [])
    at [] k = refl
    at (b ∷ buckets) zero = refl
    at (b ∷ buckets) (suc k) = at buckets k
