-- The queries that the verdicts of items ask.
use Rattle.std.proofs.Common.{◌≡◌, ◌≢◌, ℕ, zero, suc, ◌+◌, ◌<◌, ◌≤◌, Bool, true, false, cond, nat_le, List, [], ◌∷◌, ◌++◌, length, get_or, All, AllPairs, Contains, Option, Some, None, option_map, refl, sym, ap, subst, ◌∙◌, arith, inl, inr}
use Rattle.std.proofs.lemmas.List.Elements.{Contains-append_cases, Contains-append_left, Contains-append_right, All-weaker, All-contains_itself}
use Rattle.std.proofs.lemmas.List.Kept.{AllPairs-cons}
use Rattle.std.proofs.lemmas.List.Quantifiers.{position-Some}
use Rattle.std.proofs.lemmas.Bool.{leb-true}
use Rattle.std.specs.Str.{bytes_eq}
use Rattle.journal_meaning.specs.declared.batch.Query.{Query}
use Rattle.query_lines.specs.declared.line.Window.{Window}
use Rattle.query_lines.specs.declared.unit.Item.{Item}
use Rattle.query_lines.specs.Units.{asked_window}
use Rattle.design.specs.Joined.{Joined}
use Rattle.design.specs.Join.{number}
use Rattle.session_meaning.specs.declared.Verdict.{Verdict}
use Rattle.session_meaning.specs.declared.Verdict.TheVariants.{Ask, Unknown, Past}
use Rattle.session_meaning.specs.Verdicts.{window_verdict, verdict, verdict_of, item_queries, queries_of}

-- the query of a window
pub record IsOfWindow (d : Joined) (line : ℕ) (window : Window) (q : Query) : Type 0 where
  pub line_is : q.number ≡ line
  pub within : q.to ≤ d.circuit.horizon + 1
  pub budget_is : q.budget ≡ window.budget
  pub signal_is : number d.netlist window.name ≡ Some q.signal

pub window-asks : (d : Joined) (line : ℕ) (window : Window) (q : Query) → verdict d line window ≡ Ask q → IsOfWindow d line window q
window-asks d line window q is = by (number d.netlist window.name) refl is
  where
    cases : (s : ℕ) (low : Bool) → number d.netlist window.name ≡ Some s → nat_le window.to (d.circuit.horizon + 1) ≡ low
        → cond low (Ask (record { number = line; signal = s; from = window.from; to = window.to; budget = window.budget })) Past ≡ Ask q → IsOfWindow d line window q
    cases s true found low h =
        let same : record { number = line; signal = s; from = window.from; to = window.to; budget = window.budget } ≡ q = cc in
        subst (IsOfWindow d line window) same (record { line_is = refl; within = leb-true window.to (d.circuit.horizon + 1) low; budget_is = refl; signal_is = found })
    cases s false found low h = absurd cc

    by : (signal : Option ℕ) → number d.netlist window.name ≡ signal → window_verdict d.circuit.horizon line window signal ≡ Ask q → IsOfWindow d line window q
    by None found h = absurd cc
    by (Some s) found h = cases s (nat_le window.to (d.circuit.horizon + 1)) found refl h

-- what an item asks is asked of its window
pub item-asks : (d : Joined) (line : ℕ) (window : Option Window) (q : Query) → option_map (verdict d line) window ≡ Some (Ask q)
    → (asked : Window) × (window ≡ Some asked) × IsOfWindow d line asked q
item-asks d line None q is = absurd cc
item-asks d line (Some window) q is = let asks : verdict d line window ≡ Ask q = cc in (window, refl, window-asks d line window q asks)

module _ (d : Joined) (item : Item) (q : Query) (is : verdict_of d item ≡ Some (Ask q)) where
  asks-of : (asked : Window) × (asked_window item.what ≡ Some asked) × IsOfWindow d item.line asked q
  asks-of = item-asks d item.line (asked_window item.what) q is

  -- a query has the number of its line
  pub asks-line : q.number ≡ item.line
  asks-line = asks-of.2.line_is

  -- its window ends by the horizon
  pub asks-within : q.to ≤ d.circuit.horizon + 1
  asks-within = asks-of.2.within

  -- it asks for a signal of the netlist, which is one of the circuit
  pub asks-signal : length d.netlist.names ≡ length d.circuit.drivers → q.signal < length d.circuit.drivers
  asks-signal signals =
      let low = (position-Some (bytes_eq asks-of.0.name) d.netlist.names q.signal [] asks-of.2.signal_is).0 in
      omega arith

asked-has : (v : Option Verdict) (r : Query) → Contains (item_queries v) r → v ≡ Some (Ask r)
asked-has None r (k, l, is) = absurd (omega (arith, l))
asked-has (Some (Ask q)) r (zero, l, is) = ap (λ x. Some (Ask x)) is
asked-has (Some (Ask q)) r (suc k, l, is) = absurd (omega (arith, l))
asked-has (Some Unknown) r (k, l, is) = absurd (omega (arith, l))
asked-has (Some Past) r (k, l, is) = absurd (omega (arith, l))

has-asked : (v : Option Verdict) (r : Query) → v ≡ Some (Ask r) → Contains (item_queries v) r
has-asked v r is = subst (λ v. Contains (item_queries v) r) (sym is) (0, omega arith, refl)

-- the item at this place asks the query
pub record IsAskedIn (d : Joined) (items : List Item) (q : Query) : Type 0 where
  pub place : ℕ
  pub low : place < length items
  pub item : Item
  pub there : (z : Item) → get_or items place z ≡ item
  pub asks : verdict_of d item ≡ Some (Ask q)

module _ (d : Joined) where
  -- each query of a batch is asked by one of its items
  pub asked-in : (items : List Item) (q : Query) → Contains (queries_of d items) q → IsAskedIn d items q
  asked-in [] q (k, l, is) = absurd (omega (arith, l))
  asked-in (item ∷ items) q has = elim (Contains-append_cases (item_queries (verdict_of d item)) (queries_of d items) q has) [
    | inl here ↦ record { place = 0; low = omega arith; item = item; there = λ z. refl; asks = asked-has (verdict_of d item) q here }
    | inr later ↦ let f = asked-in items q later in record { place = suc f.place; low = (let l = f.low in omega arith); item = f.item; there = λ z. f.there z; asks = f.asks }
  ]

  -- and what an item asks is one of them
  pub in-asked : (items : List Item) (k : ℕ) (item : Item) (q : Query) → k < length items → ((z : Item) → get_or items k z ≡ item) → verdict_of d item ≡ Some (Ask q) → Contains (queries_of d items) q
  in-asked [] k item q l at is = absurd (omega (arith, l))
  in-asked (x ∷ items) zero item q l at is = Contains-append_left (item_queries (verdict_of d x)) (queries_of d items) q (has-asked (verdict_of d x) q (ap (verdict_of d) (at x) ∙ is))
  in-asked (x ∷ items) (suc k) item q l at is = Contains-append_right (item_queries (verdict_of d x)) (queries_of d items) q (in-asked items k item q (omega (arith, l)) at is)

  each-asked : (P : Query → Type 0) (items : List Item) → ((q : Query) → IsAskedIn d items q → P q) → All P (queries_of d items)
  each-asked P items f = All-weaker (Contains (queries_of d items)) P (λ q has. f q (asked-in items q has)) (queries_of d items) (All-contains_itself (queries_of d items))

  -- the queries of a batch ask for signals of the circuit
  pub queries-signals : (items : List Item) → length d.netlist.names ≡ length d.circuit.drivers → All (λ q. q.signal < length d.circuit.drivers) (queries_of d items)
  queries-signals items signals = each-asked (λ q. q.signal < length d.circuit.drivers) items (λ q f. asks-signal d f.item q f.asks signals)

  -- their windows end by the horizon
  pub queries-within : (items : List Item) → All (λ q. q.to ≤ d.circuit.horizon + 1) (queries_of d items)
  queries-within items = each-asked (λ q. q.to ≤ d.circuit.horizon + 1) items (λ q f. asks-within d f.item q f.asks)

  -- they have numbers of their own where the items have lines of their own
  pub queries-apart : (items : List Item) → AllPairs (λ a b. a.line ≢ b.line) items → AllPairs (λ q r. q.number ≢ r.number) (queries_of d items)
  queries-apart [] apart = λ i j z l m. absurd (omega arith)
  queries-apart (item ∷ items) apart = by (verdict_of d item) refl (queries-apart items (λ i j z l m. apart (suc i) (suc j) z (omega arith) (omega arith)))
    where
      others : (q : Query) → verdict_of d item ≡ Some (Ask q) → All (λ r. q.number ≢ r.number) (queries_of d items)
      others q is = each-asked (λ r. q.number ≢ r.number) items (λ r f same.
          let low = f.low in
          let lines : item.line ≡ (get_or items f.place item).line = sym (asks-line d item q is) ∙ same ∙ asks-line d f.item r f.asks ∙ ap (λ (x : Item). x.line) (sym (f.there item)) in
          apart 0 (suc f.place) item (omega arith) (omega arith) lines)

      by : (v : Option Verdict) → verdict_of d item ≡ v → AllPairs (λ q r. q.number ≢ r.number) (queries_of d items) → AllPairs (λ q r. q.number ≢ r.number) (item_queries v ++ queries_of d items)
      by None is rest = rest
      by (Some (Ask q)) is rest = AllPairs-cons (λ (q r : Query). q.number ≢ r.number) q (queries_of d items) (others q is) rest
      by (Some Unknown) is rest = rest
      by (Some Past) is rest = rest
