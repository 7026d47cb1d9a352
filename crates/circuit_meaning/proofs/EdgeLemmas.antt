-- The edge that is shown is the last one, and for how long.
use Rattle.std.proofs.Common.{◌≡◌, ℕ, ◌+◌, ◌-◌, ◌*◌, ◌/◌, ◌<◌, ◌≤◌, Bool, true, false, if◌then◌else◌, nat_lt, Option, Some, None, MatchOption, refl, sym, ap, ◌∙◌, arith, ltb-false, ltb-true, lt-ltb, le-ltb, inl, inr, div-lt_iff_lt-mul, le-div_iff_mul-le, div-mul-le_self, mul-le-mul_right}
use Rattle.std.proofs.lemmas.Bool.{cases_lt}
use Rattle.circuit_meaning.specs.declared.flip_flop.Clock.{Clock}
use Rattle.circuit_meaning.specs.Edges.{last_edge, shown_edge, IsLastEdge, ShowsNone}

-- a shown edge is at least the delay back
pub last_edge-le : (clock : Clock) (delay t e : ℕ) → last_edge clock delay t ≡ Some e → e + delay ≤ t
unfolding last_edge
last_edge-le clock delay t e = go (nat_lt t (clock.first + delay)) refl
  where
    at : ℕ
    at = clock.first + (t - (clock.first + delay)) / clock.period * clock.period

    go : (b : Bool) → nat_lt t (clock.first + delay) ≡ b → (if b then None else Some at) ≡ Some e → e + delay ≤ t
    go true h k = absurd (cc)
    go false h k =
        let e_is : at ≡ e = cc in
        let low : clock.first + delay ≤ t = ltb-false t (clock.first + delay) h in
        omega (arith, div-mul-le_self (t - (clock.first + delay)) clock.period)

pub shown_edge-le : (clock : Option Clock) (delay t e : ℕ) → shown_edge clock delay t ≡ Some e → e + delay ≤ t
shown_edge-le None delay t e h = absurd (cc)
shown_edge-le (Some clock) delay t e h = last_edge-le clock delay t e h

-- the quotient of what lies in the same block
div-same : (x y p : ℕ) → 1 ≤ p → y / p * p ≤ x → x < y / p * p + p → x / p ≡ y / p
div-same x y p pos low high =
    let a : y / p ≤ x / p = (le-div_iff_mul-le pos).1 low in
    let b : x / p < y / p + 1 = (div-lt_iff_lt-mul pos).1 (omega arith) in
    omega arith

module _ (clock : Clock) (delay t : ℕ) where
  -- before the first shown edge
  pub edge-none : last_edge clock delay t ≡ None → t < clock.first + delay
  unfolding last_edge
  edge-none = go (nat_lt t (clock.first + delay)) refl
    where
      at : ℕ
      at = clock.first + (t - (clock.first + delay)) / clock.period * clock.period

      go : (b : Bool) → nat_lt t (clock.first + delay) ≡ b → (if b then None else Some at) ≡ None → t < clock.first + delay
      go true h k = ltb-true _ _ h
      go false h k = cc

  pub edge-some : (e : ℕ) → last_edge clock delay t ≡ Some e → (clock.first + delay ≤ t) × (e ≡ clock.first + (t - (clock.first + delay)) / clock.period * clock.period)
  unfolding last_edge
  edge-some e = go (nat_lt t (clock.first + delay)) refl
    where
      at : ℕ
      at = clock.first + (t - (clock.first + delay)) / clock.period * clock.period

      go : (b : Bool) → nat_lt t (clock.first + delay) ≡ b → (if b then None else Some at) ≡ Some e → (clock.first + delay ≤ t) × (e ≡ at)
      go true h k = cc
      go false h k = (ltb-false _ _ h, cc)

  pub none-edge : t < clock.first + delay → last_edge clock delay t ≡ None
  unfolding last_edge
  none-edge h = rw (lt-ltb _ _ h)

  pub some-edge : clock.first + delay ≤ t → last_edge clock delay t ≡ Some (clock.first + (t - (clock.first + delay)) / clock.period * clock.period)
  unfolding last_edge
  some-edge h = rw (le-ltb _ _ h)

-- the next edge comes a period later
pub edge-next : (clock : Clock) (delay t e : ℕ) → 1 ≤ clock.period → last_edge clock delay t ≡ Some e → t < e + delay + clock.period
edge-next clock delay t e pos h =
    let k = edge-some clock delay t e h in
    let a : (t - (clock.first + delay)) / clock.period < (t - (clock.first + delay)) / clock.period + 1 = omega arith in
    let b : t - (clock.first + delay) < ((t - (clock.first + delay)) / clock.period + 1) * clock.period = (div-lt_iff_lt-mul pos).0 a in
    omega arith

-- the same edge is shown for a period
pub edge-steady : (clock : Clock) (delay t u e : ℕ) → 1 ≤ clock.period → last_edge clock delay t ≡ Some e → e + delay ≤ u → u < e + delay + clock.period → last_edge clock delay u ≡ Some e
edge-steady clock delay t u e pos h low high =
    let k = edge-some clock delay t e h in
    let q : (u - (clock.first + delay)) / clock.period ≡ (t - (clock.first + delay)) / clock.period = div-same _ _ clock.period pos (omega arith) (omega arith) in
    some-edge clock delay u (omega arith) ∙ ap Some (rw q (sym k.1))

-- it is the greatest edge whose delay has passed
pub last-edge : (clock : Clock) (delay t : ℕ) → 1 ≤ clock.period → MatchOption (last_edge clock delay t) (ShowsNone clock delay t) (IsLastEdge clock delay t)
last-edge clock delay t pos = go (last_edge clock delay t) refl
  where
    go : (o : Option ℕ) → last_edge clock delay t ≡ o → MatchOption o (ShowsNone clock delay t) (IsLastEdge clock delay t)
    go None h = λ k. let l = edge-none clock delay t h in omega arith
    go (Some e) h =
        let l = edge-some clock delay t e h in
        let high = edge-next clock delay t e pos h in
        let q = (t - (clock.first + delay)) / clock.period in
        record {
          edge = (q, l.1);
          shown = last_edge-le clock delay t e h;
          last = λ k low. elim (cases_lt q k) [
            | inl m ↦
                let n : (q + 1) * clock.period ≤ k * clock.period = mul-le-mul_right clock.period (omega arith) in
                absurd (omega arith)
            | inr m ↦ let n : k * clock.period ≤ q * clock.period = mul-le-mul_right clock.period m in omega arith
          ];
        }
