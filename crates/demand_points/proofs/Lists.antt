-- What is left of the children of a claimed point, and of the roots of a window.
use Rattle.std.proofs.Common.{◌≡◌, ℕ, zero, suc, ◌+◌, ◌-◌, ◌<◌, ◌≤◌, true, false, cond, List, [], ◌∷◌, length, filter, drop, refl, ap, sym, ◌∙◌, arith, inl, inr, Option, Some, None, le-leb, lt-ltb, le-ltb}
use Rattle.std.proofs.lemmas.Bool.{cases_Bool, cases_lt}
use Rattle.std.proofs.lemmas.List.{drop_all}
use Rattle.std.proofs.Math.Seq.{drop-cons}
use Rattle.valid_intervals.specs.declared.Point.{Point}
use Rattle.circuit_meaning.specs.declared.Window.{Window}
use Rattle.circuit_meaning.specs.Circuit.{Circuit, Driver, Input, Gate, Flop, driver, IsCircuit}
use Rattle.circuit_meaning.specs.Cells.{span}
use Rattle.circuit_meaning.specs.Need.{HasChildren, IsEvaluable}
use Rattle.circuit_meaning.specs.Looks.{somes}
use Rattle.circuit_meaning.proofs.Callers.{cell-covers, children-somes}
use Rattle.plan_machine.specs.Strands.{has_children, is_evaluable, asked_children, roots_from}
use Rattle.plan_machine.proofs.Callers.{evaluable-true}
use Rattle.design.specs.declared.pin_walk.PinWalk.{PinWalk}
use Rattle.design.specs.PinWalks.{looked_at, next_point, IsPinWalk, IsLooking, LooksOn}
use Rattle.demand_points.specs.inner.Bases.{left_after, HearsBases, HearsBase}
use Rattle.demand_points.specs.Demands.{roots_left}

evaluable-bool : (t : ℕ) (d : Driver) → HasChildren t d → has_children t d ≡ true
evaluable-bool t (Input settings) h = absurd h
evaluable-bool t (Gate kind pins) h = le-leb _ _ h
evaluable-bool t (Flop f) h = h

pub is-evaluable : (c : Circuit) (p : Point) → IsEvaluable c p.signal p.time → is_evaluable c p ≡ true
is-evaluable c p h = evaluable-bool p.time (driver c p.signal) h

pub not-evaluable : (c : Circuit) (p : Point) → (IsEvaluable c p.signal p.time → ⊥) → is_evaluable c p ≡ false
not-evaluable c p h = elim (cases_Bool (is_evaluable c p)) [ inl t ↦ absurd (h (evaluable-true c p.time (driver c p.signal) t)) | inr f ↦ f ]

drop-none : {A : Type 0} (xs : List A) → drop 0 xs ≡ xs
drop-none [] = refl
drop-none (x ∷ xs) = refl

-- nothing is left once all is looked at, and everything before
pub left-done : (c : Circuit) (f : PinWalk) → f.looked ≡ length (looked_at c f.point) → left_after c f.point f.looked ≡ []
left-done c f h = ap (λ os. filter (is_evaluable c) (somes os)) (drop_all f.looked (looked_at c f.point) (omega arith))

pub left-all : (c : Circuit) (p : Point) → left_after c p 0 ≡ asked_children c p
unfolding asked_children
left-all c p = ap (λ os. filter (is_evaluable c) (somes os)) (drop-none (looked_at c p)) ∙ ap (filter (is_evaluable c)) (sym (children-somes c p.signal p.time))

module _ (c : Circuit) (f : PinWalk) (looking : IsLooking c f) where
  after : List Point
  after = left_after c f.point (f.looked + 1)

  next-left : (o : Option Point) → next_point c f ≡ o → left_after c f.point f.looked ≡ filter (is_evaluable c) (somes (o ∷ drop (f.looked + 1) (looked_at c f.point)))
  next-left o e =
      let one : suc f.looked ≡ f.looked + 1 = omega arith in
      ap (λ os. filter (is_evaluable c) (somes os)) (drop-cons (looked_at c f.point) f.looked None looking ∙ ap (λ x. x ∷ drop (suc f.looked) (looked_at c f.point)) e ∙ ap (λ k. o ∷ drop k (looked_at c f.point)) one)

  pub left-early : next_point c f ≡ None → left_after c f.point f.looked ≡ left_after c f.point (f.looked + 1)
  left-early e = next-left None e

  pub left-base : (p : Point) → next_point c f ≡ Some p → (IsEvaluable c p.signal p.time → ⊥) → left_after c f.point f.looked ≡ left_after c f.point (f.looked + 1)
  left-base p e h = next-left (Some p) e ∙ ap (λ b. cond b (p ∷ left_after c f.point (f.looked + 1)) (left_after c f.point (f.looked + 1))) (not-evaluable c p h)

  pub left-ask : (p : Point) → next_point c f ≡ Some p → IsEvaluable c p.signal p.time → left_after c f.point f.looked ≡ p ∷ left_after c f.point (f.looked + 1)
  left-ask p e h = next-left (Some p) e ∙ ap (λ b. cond b (p ∷ left_after c f.point (f.looked + 1)) (left_after c f.point (f.looked + 1))) (is-evaluable c p h)

  module _ (g : PinWalk) (l : LooksOn c f g) where
    pub looked-left : left_after c g.point g.looked ≡ left_after c f.point (f.looked + 1)
    looked-left = ap (λ p. left_after c p g.looked) l.point ∙ ap (left_after c f.point) l.looked

    pub hears-early : next_point c f ≡ None → HearsBase c f g
    hears-early e = record { looks = l; left = looked-left ∙ sym (left-early e) }

    pub hears-base : (p : Point) → next_point c f ≡ Some p → (IsEvaluable c p.signal p.time → ⊥) → HearsBase c f g
    hears-base p e h = record { looks = l; left = looked-left ∙ sym (left-base p e h) }

pub hears-none : (c : Circuit) (f : PinWalk) → IsPinWalk c f → HearsBases c f f
hears-none c f is = record { walk = is; point = refl; left = refl }

pub hears-more : (c : Circuit) (f g h : PinWalk) → HearsBases c f g → HearsBase c g h → HearsBases c f h
hears-more c f g h a s = record { walk = s.looks.walk; point = s.looks.point ∙ a.point; left = s.left ∙ a.left }

-- it comes nearer to its end
pub hears-nearer : (c : Circuit) (g h : PinWalk) → HearsBase c g h → length (looked_at c h.point) - h.looked < length (looked_at c g.point) - g.looked
hears-nearer c g h s =
    let same : length (looked_at c h.point) ≡ length (looked_at c g.point) = ap (λ p. length (looked_at c p)) s.looks.point in
    let more = s.looks.looked in
    let within = s.looks.walk.looked in
    omega arith

-- the roots that are left
module _ (c : Circuit) (ok : IsCircuit c) (w : Window) (within : w.stop ≤ c.horizon + 1) where
  point : ℕ → Point
  point t = record { signal = w.signal; time = t }

  end : ℕ → ℕ
  end t = (span c w.signal t).stop

  later : (t : ℕ) → t < w.stop → t < (span c w.signal t).stop
  later t h = (cell-covers c ok t w.signal (omega arith)).inside.high

  roots-fuel : (n m t : ℕ) → w.stop ≤ t + n → w.stop ≤ t + m → roots_from c w n t ≡ roots_from c w m t
  unfolding roots_from
  roots-fuel zero zero t h k = refl
  roots-fuel zero (suc m) t h k = rw (le-ltb t w.stop (omega arith)) refl
  roots-fuel (suc n) zero t h k = rw (le-ltb t w.stop (omega arith)) refl
  roots-fuel (suc n) (suc m) t h k = elim (cases_lt t w.stop) [
    | inl l ↦ let f = later t l in rw (lt-ltb t w.stop l) (ap (λ r. record { signal = w.signal; time = t } ∷ r) (roots-fuel n m (span c w.signal t).stop (omega arith) (omega arith)))
    | inr l ↦ rw (le-ltb t w.stop l) refl
  ]

  roots-one : (n t : ℕ) → t < w.stop → roots_from c w (suc n) t ≡ record { signal = w.signal; time = t } ∷ roots_from c w n (span c w.signal t).stop
  unfolding roots_from
  roots-one n t l = rw (lt-ltb t w.stop l) refl

  roots-first : (t : ℕ) → t < w.stop → roots_from c w (w.stop - t) t ≡ record { signal = w.signal; time = t } ∷ roots_from c w (w.stop - (span c w.signal t).stop) (span c w.signal t).stop
  roots-first t l =
      let f = later t l in
      let n = w.stop - t - 1 in
      let some : w.stop - t ≡ suc n = omega arith in
      ap (λ k. roots_from c w k t) some ∙ roots-one n t l ∙ ap (λ r. record { signal = w.signal; time = t } ∷ r) (roots-fuel n (w.stop - (span c w.signal t).stop) (span c w.signal t).stop (omega arith) (omega arith))

  roots-none : (t : ℕ) → w.stop ≤ t → roots_from c w (w.stop - t) t ≡ []
  unfolding roots_from
  roots-none t h = let none : w.stop - t ≡ 0 = omega arith in rw none refl

  pub no-roots : (t : ℕ) → w.stop ≤ t → roots_left c w t ≡ []
  no-roots t h = ap (filter (is_evaluable c)) (roots-none t h)

  pub root-base : (t : ℕ) → t < w.stop → (IsEvaluable c w.signal t → ⊥) → roots_left c w t ≡ roots_left c w (span c w.signal t).stop
  root-base t l h =
      let rest = roots_left c w (span c w.signal t).stop in
      ap (filter (is_evaluable c)) (roots-first t l) ∙ ap (λ b. cond b (record { signal = w.signal; time = t } ∷ rest) rest) (not-evaluable c (record { signal = w.signal; time = t }) h)

  pub root-ask : (t : ℕ) → t < w.stop → IsEvaluable c w.signal t → roots_left c w t ≡ record { signal = w.signal; time = t } ∷ roots_left c w (span c w.signal t).stop
  root-ask t l h =
      let rest = roots_left c w (span c w.signal t).stop in
      ap (filter (is_evaluable c)) (roots-first t l) ∙ ap (λ b. cond b (record { signal = w.signal; time = t } ∷ rest) rest) (is-evaluable c (record { signal = w.signal; time = t }) h)
