-- Lines that were gathered, once none waits: each follows from those above it, and the value from all of them.
use Rattle.std.proofs.Common.{◌≡◌, ℕ, eq-eqb, le-leb, lt-ltb, true≢false, ◌<◌, ◌⊎◌, Bool, true, false, cond, List, [], ◌∷◌, length, take, get_or, slice_get, All, Contains, Option, Some, None, IsSome, MatchOption, option_map, refl, sym, ap, subst, ◌∙◌, arith, inl, inr}
use Rattle.std.specs.Prelude.{find}
use Rattle.std.specs.List.{AllByRecursion}
use Rattle.std.proofs.lemmas.Bool.{and_from, cases_lt}
use Rattle.std.proofs.lemmas.List.{get_or-take, length-take-le}
use Rattle.std.proofs.lemmas.List.Elements.{All-contains_itself, All-contains, All-take, recursion_from_All}
use Rattle.std.proofs.lemmas.Option.{slice_get_within, get_or_from_slice_get}
use Rattle.valid_intervals.specs.declared.Cell.{Cell}
use Rattle.valid_intervals.specs.declared.Point.{Point}
use Rattle.valid_intervals.specs.declared.SignalCell.{SignalCell}
use Rattle.valid_intervals.specs.Spans.{IsIn}
use Rattle.valid_intervals.specs.Cells.{covers}
use Rattle.circuit_meaning.specs.Circuit.{Circuit, driver, IsCircuit}
use Rattle.circuit_meaning.specs.Forward.{value}
use Rattle.circuit_meaning.specs.Cells.{cell_at, point_at}
use Rattle.circuit_meaning.specs.Base.{base_answer}
use Rattle.circuit_meaning.specs.Need.{IsEvaluable}
use Rattle.circuit_meaning.specs.Looks.{looked_points}
use Rattle.circuit_meaning.proofs.Callers.{base-answers}
use Rattle.journal_meaning.specs.declared.batch.Query.{Query}
use Rattle.journal_meaning.specs.Batches.{Batch}
use Rattle.journal_meaning.specs.Lawful.{IsLawful}
use Rattle.journal_meaning.specs.declared.Entry.{Entry}
use Rattle.session_meaning.specs.Explanations.{Tells, IsBefore}
use Rattle.plan_machine.proofs.Callers.{contains-cases, evaluable-signal}
use Rattle.why_proofs.specs.Justified.{base_or, line_at, answer, AreAnswered, IsJustified, AreJustified}
use Rattle.why_proofs.specs.Laws.{IsTrueLine}
use Rattle.why_proofs.specs.Known.{IsKnown}
use Rattle.why_proofs.proofs.Callers.{AreRight, answer-right, rule-right, known-all}
use Rattle.query_answers.specs.declared.explanations.waiting.LinePlace.{LinePlace}
use Rattle.query_answers.specs.declared.explanations.waiting.Asked.{Asked}
use Rattle.query_answers.specs.explanations.inner.Waiting.{Places}
use Rattle.query_answers.specs.explanations.inner.Gathered.{AreExplained, IsKept, IsSourceKept, AreSourcesKept, AreGathered}
use Rattle.query_answers.proofs.Moves.{if-some, source-earlier, evaluable-moves}
use Rattle.query_answers.proofs.Gathering.{all-from, in-time, has-time, has-start, from-start}

contains-take : {A : Type 0} (xs : List A) (k : ℕ) (x : A) → Contains (take k xs) x → Contains xs x
contains-take xs k x h = All-contains (Contains xs) (take k xs) x (All-take (Contains xs) k xs (All-contains_itself xs)) h

-- no line comes before itself
no-circle : (x y : SignalCell) → IsBefore x y → IsBefore y x → ⊥
no-circle x y (inl a) (inl b) = omega arith
no-circle x y (inl a) (inr b) = let e = b.0 in omega arith
no-circle x y (inr a) (inl b) = let e = a.0 in omega arith
no-circle x y (inr a) (inr b) = let l = a.1 in let m = b.1 in omega arith

-- one of the lines covers the point
abbrev IsLined : List SignalCell → ℕ → ℕ → Type 0
IsLined lines s t = (x : SignalCell) × Contains lines x × (x.signal ≡ s) × IsIn x.cell.span t

line-some : (lines : List SignalCell) (s t : ℕ) → IsLined lines s t → IsSome (line_at lines s t)
line-some [] s t h = absurd (let l = h.1.1 in omega arith)
line-some (y ∷ rest) s t h = go (covers (point_at s t) y) refl (λ m. line-some rest s t (h.0, m, h.2, h.3))
  where
    go : (b : Bool) → covers (point_at s t) y ≡ b → (Contains rest h.0 → IsSome (line_at rest s t)) → IsSome (option_map (λ (x : SignalCell). x.cell) (cond b (Some y) (find (covers (point_at s t)) rest)))
    go true e on = refl
    go false e on = elim (contains-cases y rest h.0 h.1) [
      | inl same ↦
          let yes : covers (point_at s t) h.0 ≡ true = and_from _ _ (and_from _ _ (eq-eqb h.0.signal s h.2) (le-leb _ _ h.3.low)) (lt-ltb _ _ h.3.high) in
          let at-y : covers (point_at s t) y ≡ true = subst (λ z. covers (point_at s t) z ≡ true) (sym same) yes in
          absurd (true≢false (sym at-y ∙ e))
      | inr more ↦ on more
    ]

-- a point has an answer, where it has a base answer or a line covers it
answer-some : (c : Circuit) → IsCircuit c → (lines : List SignalCell) (s t : ℕ) → (IsEvaluable c s t → ⊥) ⊎ IsLined lines s t → IsSome (answer c lines s t)
answer-some c ok lines s t h = go (base_answer c s t) (base-answers c ok s t) h
  where
    go : (o : Option Cell) → MatchOption o (IsEvaluable c s t) (λ x. (x ≡ cell_at c (point_at s t)) × (IsEvaluable c s t → ⊥)) → (IsEvaluable c s t → ⊥) ⊎ IsLined lines s t → IsSome (base_or o (line_at lines s t))
    go (Some y) m h = refl
    go None m (inl never) = absurd (never m)
    go None m (inr l) = line-some lines s t l

module _ (b : Batch) (lawful : IsLawful b) (q : Query) (known : Contains b.queries q) (es : List Entry) (lines : List SignalCell) (now : Places)
    (g : AreGathered b q es lines now) (none : (k : LinePlace) → now k ≡ None) (kept : (x : SignalCell) → Contains lines x → AreSourcesKept b.circuit lines now x) where
  abbrev c : Circuit
  c = b.circuit

  -- a line as it was asked for
  abbrev asked : (x : SignalCell) → ℕ → Asked
  asked x t = record { signal = x.signal; time = t; cell = x.cell }

  true-line : (x : SignalCell) → Contains lines x → IsTrueLine c x
  true-line x h =
      let w = g.taken x h in
      from-start b lawful q known (asked x w.0) w.1.told.right (in-time b lawful q known es (asked x w.0) w.1)

  -- none waits, so what is kept is a line
  is-line : (x : SignalCell) → IsKept lines now x → Contains lines x
  is-line x (inl h) = h
  is-line x (inr h) = absurd (let n = none h.0 in let s = h.2 in cc (n, s))

  -- a line that comes before another stands above it
  is-above : (k : ℕ) (x : SignalCell) → slice_get lines k ≡ Some x → (z : SignalCell) → Contains lines z → IsBefore z x → Contains (take k lines) z
  is-above k x e z h before =
      let low = slice_get_within lines k x e in
      let at : get_or lines k z ≡ x = get_or_from_slice_get lines k x z e in
      elim (cases_lt h.0 k) [
        | inl l ↦ (h.0, (let n = length-take-le k lines (omega arith) in omega arith), get_or-take k lines h.0 z l ∙ h.2)
        | inr l ↦ elim (cases_lt k h.0) [
          | inl m ↦
              let pair : IsBefore (get_or lines k z) (get_or lines h.0 z) = g.order k h.0 z m h.1 in
              absurd (no-circle z x before (subst (λ y. IsBefore y z) at (subst (IsBefore (get_or lines k z)) h.2 pair)))
          | inr m ↦
              let place : h.0 ≡ k = omega arith in
              let same : z ≡ x = sym h.2 ∙ ap (λ j. get_or lines j z) place ∙ at in
              let itself : IsBefore z z = subst (IsBefore z) (sym same) before in
              absurd (no-circle z z itself itself)
        ]
      ]

  above-true : (k : ℕ) → AllByRecursion (IsTrueLine c) (take k lines)
  above-true k = recursion_from_All (IsTrueLine c) (take k lines) (all-from (IsTrueLine c) (take k lines) (λ z m. true-line z (contains-take lines k z m)))

  above-right : (k : ℕ) → AreRight c lawful.circuit (answer c (take k lines))
  above-right k = answer-right c lawful.circuit (take k lines) (above-true k)

  module _ (k : ℕ) (x : SignalCell) (e : slice_get lines k ≡ Some x) where
    has : Contains lines x
    has = (k, slice_get_within lines k x e, get_or_from_slice_get lines k x x e)

    -- what its pins look at is answered by the lines above
    known-source : (j : ℕ) (o : Option Point) → get_or (looked_points c x.signal x.cell.span.start) j None ≡ o → IsSourceKept c lines now o → IsKnown (answer c (take k lines)) o
    known-source j None s h = tt
    known-source j (Some p) s (inl never) = answer-some c lawful.circuit (take k lines) p.signal p.time (inl never)
    known-source j (Some p) s (inr h) =
        let early : p.time < x.cell.span.start = source-earlier c lawful.circuit x.signal x.cell.span.start j p s in
        let since = h.3.low in
        let before : IsBefore h.0 x = inl (omega arith) in
        answer-some c lawful.circuit (take k lines) p.signal p.time (inr (h.0, is-above k x e h.0 (is-line h.0 h.1) before, h.2, h.3))

    answered : AreAnswered (answer c (take k lines)) x.cell.span.start (driver c x.signal)
    answered =
        known-all c lawful.circuit (answer c (take k lines)) (above-right k) (point_at x.signal x.cell.span.start) (length (looked_points c x.signal x.cell.span.start)) refl
        (λ j l. known-source j (get_or (looked_points c x.signal x.cell.span.start) j None) refl (kept x has j))

    justified : IsJustified c (take k lines) x
    justified =
        let w = g.taken x has in
        let a = asked x w.0 in
        let low = in-time b lawful q known es a w.1 in
        let inside = has-start b lawful q known a w.1.told.right low in
        let evaluable = evaluable-moves c lawful.circuit x.signal w.0 x.cell.span.start inside low w.1.told.evaluable in
        record {
          signal = evaluable-signal x.cell.span.start c.drivers x.signal evaluable;
          time = (let i = (has-time b lawful q known a w.1.told.right low).low in omega arith);
          evaluable = evaluable;
          answered = answered;
          rule = true-line x has ∙ sym (rule-right c lawful.circuit (answer c (take k lines)) (above-right k) x.signal x.cell.span.start answered);
        }

  -- each line follows from those above it
  all-justified : AreJustified c lines (length lines)
  all-justified = λ k l. if-some (IsJustified c (take k lines)) (slice_get lines k) (justified k)

  -- the value follows from all of them
  value-follows : option_map (λ x. x.value) (answer c lines q.signal q.from) ≡ Some (value c q.signal q.from)
  value-follows = go (answer c lines q.signal q.from) (answer-some c lawful.circuit lines q.signal q.from (root g.root)) (answer-right c lawful.circuit lines all-true q.signal q.from)
    where
      all-true : AllByRecursion (IsTrueLine c) lines
      all-true = recursion_from_All (IsTrueLine c) lines (all-from (IsTrueLine c) lines true-line)

      root : IsSourceKept c lines now (Some (record { signal = q.signal; time = q.from })) → (IsEvaluable c q.signal q.from → ⊥) ⊎ IsLined lines q.signal q.from
      root (inl never) = inl never
      root (inr h) = inr (h.0, is-line h.0 h.1, h.2, h.3)

      go : (o : Option Cell) → IsSome o → ((x : Cell) → o ≡ Some x → x ≡ cell_at c (point_at q.signal q.from)) → option_map (λ x. x.value) o ≡ Some (value c q.signal q.from)
      go None h right = absurd (cc h)
      go (Some x) h right = ap (λ (y : Cell). Some y.value) (right x refl)

  -- an entry tells each of them
  all-told : All (λ x. (e : Entry) × Contains es e × Tells x e) lines
  all-told = all-from (λ (x : SignalCell). (e : Entry) × Contains es e × Tells x e) lines (λ x h. (g.taken x h).1.told.told)

  pub explained : AreExplained c es q lines
  explained = record { justified = all-justified; follows = value-follows; ordered = g.order; told = all-told }
