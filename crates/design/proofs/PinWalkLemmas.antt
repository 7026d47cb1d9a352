-- A walk that looks at its pins one after another comes to the cell of its point.
use Rattle.std.proofs.Common.{◌≡◌, ℕ, zero, suc, ◌+◌, ◌-◌, ◌<◌, ◌≤◌, ◌||◌, Bool, true, false, IsTrue, List, [], ◌∷◌, ◌++◌, length, map, take, get_or, fold, refl, ap, sym, ◌∙◌, subst, arith, inl, inr, Option, Some, None, IsSome, nat_eq, slice_get, option_map, IfSome}
use Rattle.std.specs.List.{AllByRecursion, list_any, range_with_len}
use Rattle.std.proofs.lemmas.Bool.{cases_Bool, cases_lt, eq-eqb, ne_eqb}
use Rattle.std.proofs.lemmas.Bool.Decides.{eqb_tells}
use Rattle.std.proofs.lemmas.Option.{get_or_from_slice_get}
use Rattle.std.proofs.lemmas.List.{map-append, take_more, take_all, get_or-take, get_or_past}
use Rattle.std.proofs.lemmas.List.Folds.{list_any-append}
use Rattle.std.proofs.lemmas.List.Sums.{fold-append}
use Rattle.std.proofs.lemmas.List.FromFn.{length-map-range_with_len, take-map-range_with_len, get_or-map-range_with_len}
use Rattle.std.proofs.Math.Nat.{ne_of_lt}
use Rattle.std.proofs.Math.ListN.{get_or-map, length-map}
use Rattle.gate_values.specs.declared.Value.{Value}
use Rattle.gate_values.specs.declared.Evaluation.{Evaluation}
use Rattle.gate_values.specs.Gates.{gate_value, decides, is_unary, up_to_first}
use Rattle.gate_values.proofs.Callers.{allows-few, allows-one, allows-some}
use Rattle.valid_intervals.specs.declared.Point.{Point}
use Rattle.valid_intervals.specs.Spans.{Span, IsIn, from_to, meet, cut_at}
use Rattle.circuit_meaning.specs.Edges.{shown_edge}
use Rattle.circuit_meaning.specs.declared.Pin.{Pin}
use Rattle.circuit_meaning.specs.Circuit.{Circuit, Driver, Input, Gate, Flop, driver, read_by, IsCircuit, IsDriver}
use Rattle.circuit_meaning.specs.Forward.{value}
use Rattle.circuit_meaning.specs.Cells.{span, pin_span, cell_at}
use Rattle.circuit_meaning.specs.Need.{HasChildren, IsEvaluable}
use Rattle.circuit_meaning.specs.Looks.{kind_of, pin_point, flop_points, pin_points_at, sees, interval_at, pin_interval, met_interval, no_pin}
use Rattle.circuit_meaning.proofs.Callers.{driver_fits, in_meet, pin_span-early, pin_span-late, cell-covers, looked-value, cut-take, cut-ends, cut-whole, cut-more}
use Rattle.valid_intervals.specs.declared.Cell.{Cell}
use Rattle.design.specs.Pins.{pin_at, heard_of}
use Rattle.design.specs.declared.pin_walk.PinWalk.{PinWalk}
use Rattle.design.specs.PinWalks.{cell_there, kind_at, all_points, looked_at, next_point, IsPoint, IsPinWalk, IsLooking, LooksOn}
use Rattle.design.specs.inner.HeardCells.{value_there, span_there}

pub cut-get : {A : Type 0} (test : A → Bool) (xs : List A) (n : ℕ) (d : A) → n < length (up_to_first test xs) → get_or (up_to_first test xs) n d ≡ get_or xs n d
cut-get test xs n d h =
    let same : take (n + 1) (up_to_first test xs) ≡ take (n + 1) xs = cut-take test xs (n + 1) (omega arith) in
    sym (get_or-take (n + 1) (up_to_first test xs) n d (omega arith)) ∙ ap (λ l. get_or l n d) same ∙ get_or-take (n + 1) xs n d (omega arith)

-- the numbers of sources and of pins
pub sources-count : (t : ℕ) (d : Driver) → HasChildren t d → length (pin_points_at t d) ≡ length (read_by d)
sources-count t (Input settings) h = absurd h
sources-count t (Gate kind pins) h = length-map pins (pin_point t) ∙ sym (length-map pins (λ p. p.signal))
sources-count t (Flop f) h = go (shown_edge f.clock f.delay t) h
  where
    go : (o : Option ℕ) → IsSome o → length (flop_points f.pin o) ≡ 1
    go None h = absurd (cc h)
    go (Some e) h = refl

unary-sources : (n h t : ℕ) (d : Driver) → IsDriver n h d → IsTrue (is_unary (kind_of d)) → length (pin_points_at t d) ≤ 1
unary-sources n h t (Input settings) ok u = omega arith
unary-sources n h t (Gate kind pins) ok u = let e = allows-one kind (length pins) ok.count u in let l = length-map pins (pin_point t) in omega arith
unary-sources n h t (Flop f) ok u = go (shown_edge f.clock f.delay t)
  where
    go : (o : Option ℕ) → length (flop_points f.pin o) ≤ 1
    go None = omega arith
    go (Some e) = omega arith

some-pin : (n h t : ℕ) (d : Driver) → IsDriver n h d → HasChildren t d → 1 ≤ length (pin_points_at t d)
some-pin n h t (Input settings) ok e = absurd e
some-pin n h t (Gate kind pins) ok e = let l = length-map pins (pin_point t) in let k = allows-some kind (length pins) ok.count in omega arith
some-pin n h t (Flop f) ok e = let k = sources-count t (Flop f) e in omega arith

few-pins : (n h : ℕ) (d : Driver) → IsDriver n h d → length (read_by d) ≤ 64
few-pins n h (Input settings) ok = omega arith
few-pins n h (Gate kind pins) ok = let l = length-map pins (λ p. p.signal) in let k = allows-few kind (length pins) ok.count in omega arith
few-pins n h (Flop f) ok = omega arith

reads-within : (n h : ℕ) (d : Driver) (k : ℕ) → IsDriver n h d → k < length (read_by d) → get_or (read_by d) k 0 < n
reads-within n h (Input settings) k ok below = absurd (omega arith)
reads-within n h (Gate kind pins) k ok below =
    let l = length-map pins (λ p. p.signal) in
    let at : get_or (map (λ p. p.signal) pins) k 0 ≡ (get_or pins k no_pin).signal = get_or-map (λ p. p.signal) pins k no_pin in
    let fits : (get_or pins k no_pin).signal < n = ok.signal k no_pin (omega arith) in
    omega arith
reads-within n h (Flop f) zero ok below = ok.pin
reads-within n h (Flop f) (suc k) ok below = absurd (omega arith)

apart-below : (a b n : ℕ) → a ≤ b → b ≡ n → (a ≡ n → ⊥) → a < b
apart-below a b n le e ne = elim (cases_lt a b) [ inl l ↦ l | inr l ↦ absurd (ne (omega arith)) ]

-- what is heard of a source is what is seen there
pub heard-value : (c : Circuit) (o : Option Point) (h : Option Cell) → h ≡ cell_there c o → value_there h ≡ sees c o
heard-value c None h e = rw e refl
heard-value c (Some p) h e = rw e refl

pub heard-span : (c : Circuit) (o : Option Point) (h : Option Cell) → h ≡ cell_there c o → span_there h ≡ option_map (λ p. span c p.signal p.time) o
heard-span c None h e = rw e refl
heard-span c (Some p) h e = rw e refl

pub take-none : {A : Type 0} (xs : List A) → take 0 xs ≡ []
take-none [] = refl
take-none (x ∷ xs) = refl

or-last : (a b : Bool) → a ≡ false → (a || (b || false)) ≡ b
or-last true b h = absurd (cc h)
or-last false true h = refl
or-last false false h = refl

-- one number more
range-more : {A : Type 0} (f : ℕ → A) (n : ℕ) → map f (range_with_len 0 (n + 1)) ≡ map f (range_with_len 0 n) ++ f n ∷ []
range-more f n =
    let ys = map f (range_with_len 0 (n + 1)) in
    let count : length ys ≡ n + 1 = length-map-range_with_len f 0 (n + 1) in
    let last : get_or ys n (f n) ≡ f n = get_or-map-range_with_len f 0 (n + 1) n n (f n) (omega arith) (omega arith) in
    sym (take_all (n + 1) ys (omega arith)) ∙ take_more ys n (f n) (omega arith)
    ∙ ap (λ l. l ++ get_or ys n (f n) ∷ []) (take-map-range_with_len f 0 (n + 1) n (omega arith)) ∙ ap (λ y. map f (range_with_len 0 n) ++ y ∷ []) last

pub met-more : (c : Circuit) (s t n : ℕ) → met_interval c s t (n + 1) ≡ meet (met_interval c s t n) (pin_interval c s t n)
met-more c s t n = ap (fold meet (from_to 0 2000002)) (range-more (pin_interval c s t) n) ∙ fold-append meet (from_to 0 2000002) (map (pin_interval c s t) (range_with_len 0 n)) (pin_interval c s t n ∷ [])

module _ (c : Circuit) (ok : IsCircuit c) (s t : ℕ) (within : t ≤ c.horizon) where
  gate-has : (pins : List Pin) (k : ℕ) → IsIn (cut_at (c.horizon + 1) (pin_span (span c) t (get_or pins k no_pin))) t
  gate-has pins k =
      let p = get_or pins k no_pin in
      elim (cases_lt t p.delay) [
        | inl l ↦ rw (pin_span-early (span c) t p l) (record { low = omega arith; high = omega arith })
        | inr l ↦
            let inside : IsIn (span c p.signal (t - p.delay)) (t - p.delay) = (cell-covers c ok (t - p.delay) p.signal (omega arith)).inside in
            let low = inside.low in
            let high = inside.high in
            rw (pin_span-late (span c) t p l) (record { low = omega arith; high = omega arith })
      ]

  at-has : (d : Driver) (k : ℕ) → IsIn (interval_at c s t d k) t
  at-has (Input settings) k = (cell-covers c ok t s within).inside
  at-has (Gate kind pins) k = gate-has pins k
  at-has (Flop f) k = (cell-covers c ok t s within).inside

  -- the interval of each pin has the time
  pub interval-has : (k : ℕ) → IsIn (pin_interval c s t k) t
  interval-has k = at-has (driver c s) k

  all-have : (ks : List ℕ) → AllByRecursion (λ x. IsIn x t) (map (pin_interval c s t) ks)
  all-have [] = tt
  all-have (k ∷ ks) = (interval-has k, all-have ks)

  pub met-has : (n : ℕ) → t < 2000002 → IsIn (met_interval c s t n) t
  met-has n small = in_meet (from_to 0 2000002) (map (pin_interval c s t) (range_with_len 0 n)) t (record { low = omega arith; high = small }) (all-have (range_with_len 0 n))

module _ (c : Circuit) (ok : IsCircuit c) (f : PinWalk) (is : IsPinWalk c f) where
  none-decides : IsLooking c f → list_any (λ o. decides (kind_at c f.point) (sees c o)) (take f.looked (all_points c f.point)) ≡ false
  none-decides looking =
      let test : Option Point → Bool = λ o. decides (kind_at c f.point) (sees c o) in
      elim (cases_Bool (list_any test (take f.looked (all_points c f.point)))) [
        | inl t ↦ let e : f.looked ≡ length (looked_at c f.point) = cut-ends test (all_points c f.point) f.looked is.looked t in absurd (omega arith)
        | inr h ↦ h
      ]

  pub looking-below : IsLooking c f → f.looked < length (all_points c f.point)
  looking-below looking = let k = cut-whole (λ o. decides (kind_at c f.point) (sees c o)) (all_points c f.point) in omega arith

  -- the next source, among all sources
  pub next-among : IsLooking c f → next_point c f ≡ get_or (all_points c f.point) f.looked None
  next-among looking = cut-get (λ o. decides (kind_at c f.point) (sees c o)) (all_points c f.point) f.looked None looking

  -- a unary gate has looked at nothing before its one pin
  pub unary-first : IsLooking c f → IsTrue (is_unary f.evaluation.kind) → map (sees c) (take f.looked (all_points c f.point)) ≡ []
  unary-first looking u =
      let few : length (all_points c f.point) ≤ 1 = unary-sources (length c.drivers) c.horizon f.point.time (driver c f.point.signal) (driver_fits c ok f.point.signal) (subst (λ k. IsTrue (is_unary k)) is.kind u) in
      let below = looking-below looking in
      let zero : f.looked ≡ 0 = omega arith in
      rw zero (ap (map (sees c)) (take-none (all_points c f.point)))

  -- one of the pins up to the next decides exactly where the next one does
  any-decides : IsLooking c f → (v : Value) → v ≡ sees c (next_point c f) → list_any (λ o. decides (kind_at c f.point) (sees c o)) (take (f.looked + 1) (all_points c f.point)) ≡ decides f.evaluation.kind v
  any-decides looking v seen =
      let xs = all_points c f.point in
      let n = f.looked in
      let K = kind_at c f.point in
      let test : Option Point → Bool = λ o. decides K (sees c o) in
      let o = get_or xs n None in
      ap (list_any test) (take_more xs n None (looking-below looking)) ∙ list_any-append test (take n xs) (o ∷ []) ∙ or-last (list_any test (take n xs)) (test o) (none-decides looking)
      ∙ ap (decides K) (sym (seen ∙ ap (sees c) (next-among looking))) ∙ ap (λ k. decides k v) (sym is.kind)

  -- after the next pin, the look is over exactly where that one has decided or none is left
  pub ends-here : IsLooking c f → (v : Value) → v ≡ sees c (next_point c f) → decides f.evaluation.kind v ≡ true → f.looked + 1 ≡ length (looked_at c f.point)
  ends-here looking v seen h = cut-ends (λ o. decides (kind_at c f.point) (sees c o)) (all_points c f.point) (f.looked + 1) (omega arith) (any-decides looking v seen ∙ h)

  ends-last : IsLooking c f → f.looked + 1 ≡ length (all_points c f.point) → f.looked + 1 ≡ length (looked_at c f.point)
  ends-last looking h = let k = cut-whole (λ o. decides (kind_at c f.point) (sees c o)) (all_points c f.point) in omega arith

  goes-on : IsLooking c f → (v : Value) → v ≡ sees c (next_point c f) → decides f.evaluation.kind v ≡ false → f.looked + 1 < length (all_points c f.point) → f.looked + 1 < length (looked_at c f.point)
  goes-on looking v seen h below = cut-more (λ o. decides (kind_at c f.point) (sees c o)) (all_points c f.point) (f.looked + 1) below (any-decides looking v seen ∙ h)

  pub done-first : IsLooking c f → (v : Value) → v ≡ sees c (next_point c f) → decides f.evaluation.kind v ≡ true → true ≡ nat_eq (f.looked + 1) (length (looked_at c f.point))
  done-first looking v seen h = sym (eq-eqb (f.looked + 1) (length (looked_at c f.point)) (ends-here looking v seen h))

  pub done-last : IsLooking c f → (v : Value) → v ≡ sees c (next_point c f) → decides f.evaluation.kind v ≡ false → (n : ℕ) → n ≡ length (read_by (driver c f.point.signal)) → nat_eq (f.looked + 1) n ≡ nat_eq (f.looked + 1) (length (looked_at c f.point))
  done-last looking v seen h n e =
      let count : n ≡ length (all_points c f.point) = e ∙ sym (sources-count f.point.time (driver c f.point.signal) is.evaluable) in
      elim (eqb_tells (f.looked + 1) n) [
        | inl t ↦ t.0 ∙ sym (eq-eqb (f.looked + 1) (length (looked_at c f.point)) (ends-last looking (t.1 ∙ count)))
        | inr t ↦
            let k = looking-below looking in
            let below : f.looked + 1 < length (all_points c f.point) = apart-below (f.looked + 1) (length (all_points c f.point)) n (omega arith) (sym count) t.1 in
            t.0 ∙ sym (ne_eqb (f.looked + 1) (length (looked_at c f.point)) (ne_of_lt (goes-on looking v seen h below)))
      ]

  -- whether it is over, and the source after the next one
  pub over : IsLooking c f → (d : Bool) → d ≡ nat_eq (f.looked + 1) (length (looked_at c f.point)) → d ≡ true → None ≡ get_or (looked_at c f.point) (f.looked + 1) None
  over looking d e t =
      let xs = looked_at c f.point in
      elim (eqb_tells (f.looked + 1) (length xs)) [
        | inl k ↦ sym (get_or_past xs (f.looked + 1) None (omega arith))
        | inr k ↦ absurd (cc (k.0, e, t))
      ]

  pub on : IsLooking c f → (d : Bool) → d ≡ nat_eq (f.looked + 1) (length (looked_at c f.point)) → d ≡ false → f.looked + 1 < length (looked_at c f.point)
  on looking d e t =
      let xs = looked_at c f.point in
      elim (eqb_tells (f.looked + 1) (length xs)) [
        | inl k ↦ absurd (cc (k.0, e, t))
        | inr k ↦ apart-below (f.looked + 1) (length xs) (length xs) (omega arith) refl k.1
      ]

  pub on-below : f.looked + 1 < length (looked_at c f.point) → f.looked + 1 < length (read_by (driver c f.point.signal))
  on-below below = let k = cut-whole (λ o. decides (kind_at c f.point) (sees c o)) (all_points c f.point) in let e = sources-count f.point.time (driver c f.point.signal) is.evaluable in omega arith

  pub on-source : f.looked + 1 < length (looked_at c f.point) → get_or (all_points c f.point) (f.looked + 1) None ≡ get_or (looked_at c f.point) (f.looked + 1) None
  on-source below = sym (cut-get (λ o. decides (kind_at c f.point) (sees c o)) (all_points c f.point) (f.looked + 1) None below)

  -- one pin more
  pub looks-on : IsLooking c f → (e : Evaluation) (v : Value) (x : Span) (d : Bool) (o : Option Point) → v ≡ sees c (next_point c f) → e.kind ≡ f.evaluation.kind
      → e.value ≡ gate_value e.kind (map (sees c) (take f.looked (all_points c f.point)) ++ v ∷ []) → x ≡ meet f.interval (pin_interval c f.point.signal f.point.time f.looked)
      → d ≡ nat_eq (f.looked + 1) (length (looked_at c f.point)) → o ≡ get_or (looked_at c f.point) (f.looked + 1) None → IfSome o (IsPoint c)
      → LooksOn c f (record { point = f.point; interval = x; source = o; looked = f.looked + 1; evaluation = e; done = d })
  looks-on looking e v x d o seen kind value met done source reads =
      let xs = all_points c f.point in
      let n = f.looked in
      let K = kind_at c f.point in
      let more : take (n + 1) xs ≡ take n xs ++ get_or xs n None ∷ [] = take_more xs n None (looking-below looking) in
      let same : v ≡ sees c (get_or xs n None) = seen ∙ ap (sees c) (next-among looking) in
      let kinds : e.kind ≡ K = kind ∙ is.kind in
      let values : map (sees c) (take (n + 1) xs) ≡ map (sees c) (take n xs) ++ v ∷ [] =
      ap (map (sees c)) more ∙ map-append (sees c) (take n xs) (get_or xs n None ∷ []) ∙ ap (λ y. map (sees c) (take n xs) ++ y ∷ []) (sym same) in
      record {
        walk = record {
          point = is.point;
          evaluable = is.evaluable;
          looked = omega arith;
          kind = kinds;
          value = value ∙ ap (λ k. gate_value k (map (sees c) (take n xs) ++ v ∷ [])) kinds ∙ ap (gate_value K) (sym values);
          interval = met ∙ ap (λ a. meet a (pin_interval c f.point.signal f.point.time n)) is.interval ∙ sym (met-more c f.point.signal f.point.time n);
          done = done;
          source = source;
          reads = reads;
        };
        point = refl;
        looked = refl;
      }

  -- at its end it has the value of its point
  pub done-value : f.looked ≡ length (looked_at c f.point) → f.evaluation.value ≡ value c f.point.signal f.point.time
  done-value h =
      let test : Option Point → Bool = λ o. decides (kind_at c f.point) (sees c o) in
      let all : take f.looked (all_points c f.point) ≡ looked_at c f.point =
      sym (cut-take test (all_points c f.point) f.looked is.looked) ∙ take_all f.looked (looked_at c f.point) (omega arith) in
      is.value ∙ ap (λ xs. gate_value (kind_at c f.point) (map (sees c) xs)) all ∙ looked-value c f.point.signal f.point.time ok is.evaluable

  -- the next pin is a pin of the point
  pub pin-below : IsLooking c f → f.looked < length (read_by (driver c f.point.signal))
  pin-below looking = let k = looking-below looking in let e = sources-count f.point.time (driver c f.point.signal) is.evaluable in omega arith

  pub few-looked : IsLooking c f → f.looked < 64
  few-looked looking = let k = pin-below looking in let l = few-pins (length c.drivers) c.horizon (driver c f.point.signal) (driver_fits c ok f.point.signal) in omega arith

  -- the intervals share the time of the point
  pub shares : c.horizon ≤ 1000000 → IsIn (meet f.interval (pin_interval c f.point.signal f.point.time f.looked)) f.point.time
  shares small =
      let t = f.point.time in
      let within = is.point.time in
      let a : IsIn f.interval t = subst (λ x. IsIn x t) (sym is.interval) (met-has c ok f.point.signal t within f.looked (omega arith)) in
      let b : IsIn (pin_interval c f.point.signal t f.looked) t = interval-has c ok f.point.signal t within f.looked in
      let al = a.low in let ah = a.high in let bl = b.low in let bh = b.high in
      record { low = omega arith; high = omega arith }

  pub heard-there : IsLooking c f → (h : Option Cell) → h ≡ cell_there c (next_point c f) → span_there h ≡ heard_of c f.point.signal f.point.time f.looked
  heard-there looking h e = heard-span c (next_point c f) h e ∙ ap (option_map (λ p. span c p.signal p.time)) (next-among looking)

  pub some-time : c.horizon ≤ 1000000 → (x : Span) → x ≡ pin_interval c f.point.signal f.point.time f.looked → (meet f.interval x).start < (meet f.interval x).stop
  some-time small x e = let h = shares small in let low = h.low in let high = h.high in subst (λ y. (meet f.interval y).start < (meet f.interval y).stop) (sym e) (omega arith)

  -- what was seen with the value that is seen now
  pub sees-more : IsLooking c f → (e : Evaluation) (v : Value) → ((seen : List Value) → (IsTrue (is_unary f.evaluation.kind) → seen ≡ []) → f.evaluation.value ≡ gate_value f.evaluation.kind seen → e.value ≡ gate_value e.kind (seen ++ v ∷ []))
      → e.value ≡ gate_value e.kind (map (sees c) (take f.looked (all_points c f.point)) ++ v ∷ [])
  sees-more looking e v h = let seen = map (sees c) (take f.looked (all_points c f.point)) in h seen (unary-first looking) (is.value ∙ ap (λ k. gate_value k seen) (sym is.kind))

  pub done-cell : f.looked ≡ length (looked_at c f.point) → (a : Span) → a ≡ span c f.point.signal f.point.time → ◌≡◌ {A = Cell} (record { span = a; value = f.evaluation.value }) (cell_at c f.point)
  done-cell h a e = let at : Span → Value → Cell = λ x v. record { span = x; value = v } in ap (λ x. at x f.evaluation.value) e ∙ ap (at (span c f.point.signal f.point.time)) (done-value h)

-- what a point reads by a pin
module _ (c : Circuit) (ok : IsCircuit c) (p : Point) (here : IsPoint c p) (pin : ℕ) where
  pub read-is : (o : Option ℕ) → slice_get (all_points c p) pin ≡ Some (option_map (pin_at c p.signal pin) o) → option_map (pin_at c p.signal pin) o ≡ get_or (all_points c p) pin None
  read-is o e = sym (get_or_from_slice_get (all_points c p) pin (option_map (pin_at c p.signal pin) o) None e)

  pub read-among : (xs : List ℕ) (t : ℕ) → xs ≡ read_by (driver c p.signal) → slice_get (all_points c p) pin ≡ Some (option_map (pin_at c p.signal pin) (Some t))
      → Some (record { signal = get_or xs pin 0; time = t }) ≡ get_or (all_points c p) pin None
  read-among xs t e k = let at : ℕ → Option Point = λ s. Some (record { signal = s; time = t }) in ap (λ l. at (get_or l pin 0)) e ∙ read-is (Some t) k

  pub read-point : (xs : List ℕ) (t : ℕ) → xs ≡ read_by (driver c p.signal) → pin < length xs → t < p.time → IsPoint c (record { signal = get_or xs pin 0; time = t })
  read-point xs t e below early =
      let within = here.time in
      let within-read : pin < length (read_by (driver c p.signal)) = subst (λ l. pin < length l) e below in
      record { signal = subst (λ l. get_or l pin 0 < length c.drivers) (sym e) (reads-within (length c.drivers) c.horizon (driver c p.signal) pin (driver_fits c ok p.signal) within-read); time = omega arith }

pub first-pin : (c : Circuit) → IsCircuit c → (p : Point) → IsEvaluable c p.signal p.time → 0 < length (all_points c p)
first-pin c ok p evaluable = let k = some-pin (length c.drivers) c.horizon p.time (driver c p.signal) (driver_fits c ok p.signal) evaluable in omega arith

cut-some : {A : Type 0} (test : A → Bool) (xs : List A) → 0 < length xs → 0 < length (up_to_first test xs)
cut-some test [] h = absurd (omega arith)
cut-some test (x ∷ xs) h = omega arith

-- a walk that has looked at nothing
pub new-walk : (c : Circuit) → IsCircuit c → (p : Point) (e : Evaluation) (o : Option Point) → IsPoint c p → IsEvaluable c p.signal p.time → e.kind ≡ kind_at c p → e.value ≡ gate_value e.kind []
    → o ≡ get_or (all_points c p) 0 None → IfSome o (IsPoint c)
    → IsPinWalk c (record { point = p; interval = from_to 0 2000002; source = o; looked = 0; evaluation = e; done = false })
new-walk c ok p e o here evaluable kind value source reads =
    let none : take 0 (all_points c p) ≡ [] = take-none (all_points c p) in
    let test : Option Point → Bool = λ s. decides (kind_at c p) (sees c s) in
    let some : 0 < length (looked_at c p) = cut-some test (all_points c p) (first-pin c ok p evaluable) in
    record {
      point = here;
      evaluable = evaluable;
      looked = omega arith;
      kind = kind;
      value = value ∙ ap (λ k. gate_value k []) kind ∙ ap (λ xs. gate_value (kind_at c p) (map (sees c) xs)) (sym none);
      interval = refl;
      done = sym (ne_eqb 0 (length (looked_at c p)) (ne_of_lt some));
      source = source ∙ sym (cut-get test (all_points c p) 0 None some);
      reads = reads;
    }
