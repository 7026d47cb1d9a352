-- A strand that has made no step is a strand.
use Rattle.std.proofs.Common.{◌≡◌, ℕ, zero, suc, ◌+◌, ◌-◌, ◌<◌, ◌≤◌, nat_lt, Bool, true, false, cond, List, [], ◌∷◌, filter, refl, ap, sym, subst, arith, inl, inr, length}
use Rattle.std.specs.List.{AllByRecursion}
use Rattle.std.proofs.lemmas.Bool.{cases_Bool, ltb-true}
use Rattle.valid_intervals.specs.declared.Point.{Point}
use Rattle.circuit_meaning.specs.declared.Window.{Window}
use Rattle.circuit_meaning.specs.Circuit.{Circuit, driver}
use Rattle.circuit_meaning.specs.Cells.{span}
use Rattle.circuit_meaning.specs.Need.{IsRoot, Next}
use Rattle.journal_meaning.specs.declared.batch.Query.{Query}
use Rattle.journal_meaning.specs.Batches.{Batch, window_of}
use Rattle.journal_meaning.specs.Lawful.{IsLawful, IsQueryOf}
use Rattle.journal_meaning.specs.Pieces.{Start, piece, IsStart}
use Rattle.plan_machine.specs.Strands.{started_strand, is_evaluable, roots_from, IsRootPoint, IsStrand}
use Rattle.plan_machine.proofs.Stacks.{evaluable-true}

record IsRootAt (c : Circuit) (w : Window) (p : Point) : Type 0 where
  signal : p.signal ≡ w.signal
  root : IsRoot c w p.time

module _ (c : Circuit) (w q : Window) (same : w.signal ≡ q.signal) (within : w.stop ≤ q.stop) where
  roots-are : (n t : ℕ) → (t < w.stop → IsRoot c q t) → AllByRecursion (IsRootAt c q) (roots_from c w n t)
  unfolding roots_from
  roots-are zero t root = tt
  roots-are (suc n) t root = elim (cases_Bool (nat_lt t w.stop)) [
    | inl k ↦
        let low = ltb-true t w.stop k in
        let e : (span c w.signal t).stop ≡ (span c q.signal t).stop = ap (λ s. (span c s t).stop) same in
        rw k (
          record { signal = same; root = root low },
          roots-are n (span c w.signal t).stop (λ l. subst (IsRoot c q) (sym e) (Next (root low) (omega arith))),
        )
    | inr k ↦ rw k tt
  ]

roots-evaluable : (c : Circuit) (q : Window) (xs : List Point) → AllByRecursion (IsRootAt c q) xs → AllByRecursion (IsRootPoint c q) (filter (is_evaluable c) xs)
roots-evaluable c q [] h = tt
roots-evaluable c q (x ∷ xs) h = go (is_evaluable c x) refl (roots-evaluable c q xs h.1)
  where
    go : (b : Bool) → is_evaluable c x ≡ b → AllByRecursion (IsRootPoint c q) (filter (is_evaluable c) xs) → AllByRecursion (IsRootPoint c q) (cond b (x ∷ filter (is_evaluable c) xs) (filter (is_evaluable c) xs))
    go true e k = (record { signal = h.0.signal; root = h.0.root; evaluable = evaluable-true c x.time (driver c x.signal) e }, k)
    go false e k = k

pub started-right : (b : Batch) (a : Start) → IsStart b a → IsStrand b (started_strand b.circuit a)
started-right b a is =
    let c = b.circuit in
    record {
      known = is.known;
      roots = roots-evaluable c (window_of a.query) (roots_from c (piece a) (a.stop - a.start) a.start) (roots-are c (piece a) (window_of a.query) refl is.stop (a.stop - a.start) a.start is.root);
      chain = tt;
      charge = is.charge;
      claims = omega arith;
      budget = is.budget;
    }

-- every query that is served asks a signal of the circuit, within the horizon
pub record IsWithin (b : Batch) (q : Query) : Type 0 where
  pub signal : q.signal < length b.circuit.drivers
  pub window : q.to ≤ b.circuit.horizon + 1

pub query-within : (b : Batch) → IsLawful b → (q : Query) → IsQueryOf b q → IsWithin b q
query-within b l q (inl (site, (k, h, e))) = subst (IsWithin b) e (record { signal = l.signals k q h; window = l.windows k q h })
query-within b l q (inr s) = record { signal = s.signal; window = s.within }
