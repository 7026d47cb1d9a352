-- Lines are gathered: one is taken, and what it comes from is asked for.
use Rattle.std.proofs.Common.{◌≡◌, ℕ, zero, suc, ◌<◌, ◌≤◌, List, [], ◌∷◌, ◌++◌, reverse, length, get_or, All, Contains, Option, Some, None, refl, sym, ap, subst, ◌∙◌, arith, inl, inr}
use Rattle.std.specs.List.{AllByRecursion}
use Rattle.std.proofs.lemmas.List.{get_or_default, reverse-append}
use Rattle.std.proofs.lemmas.List.Elements.{All-weaker, All-contains_itself, All-contains, Contains-append_right}
use Rattle.std.proofs.lemmas.List.Kept.{AllPairs-cons}
use Rattle.valid_intervals.specs.declared.Cell.{Cell}
use Rattle.valid_intervals.specs.declared.Point.{Point}
use Rattle.valid_intervals.specs.declared.SignalCell.{SignalCell}
use Rattle.valid_intervals.specs.Spans.{IsIn}
use Rattle.circuit_meaning.specs.Circuit.{Circuit}
use Rattle.circuit_meaning.specs.Cells.{span, cell_at, point_at}
use Rattle.circuit_meaning.specs.Need.{IsEvaluable}
use Rattle.circuit_meaning.specs.Looks.{looked_points}
use Rattle.circuit_meaning.proofs.Callers.{cell-covers}
use Rattle.journal_meaning.specs.declared.batch.Query.{Query}
use Rattle.journal_meaning.specs.Batches.{Batch, IsNeededBy}
use Rattle.journal_meaning.specs.Lawful.{IsLawful}
use Rattle.journal_meaning.specs.declared.Entry.{Entry}
use Rattle.journal_meaning.proofs.Callers.{contains-one}
use Rattle.session_meaning.specs.Explanations.{IsBefore}
use Rattle.design.specs.PinWalks.{IsPoint}
use Rattle.plan_machine.proofs.Callers.{wanted-time, evaluable-signal, child-needed, contains-cases, contains-none}
use Rattle.why_proofs.proofs.Callers.{steady}
use Rattle.query_answers.specs.declared.explanations.waiting.LinePlace.{LinePlace}
use Rattle.query_answers.specs.declared.explanations.waiting.Asked.{Asked}
use Rattle.query_answers.specs.explanations.inner.Waiting.{IsBelow, line_of, point_of, place_of, Places, TakesLast}
use Rattle.query_answers.specs.explanations.inner.Gathered.{IsWanted, IsSourceAdded, IsOfSource, Notes, IsKept, IsSourceKept, AreSourcesKept, AreGathered, rank}
use Rattle.query_answers.proofs.Moves.{IsMoved, source-child, source-earlier, sources-moved, never-moves}
use Rattle.query_answers.proofs.Noting.{told-grows}

pub all-from : {A : Type 0} (P : A → Type 0) (xs : List A) → ((x : A) → Contains xs x → P x) → All P xs
all-from P xs f = All-weaker (Contains xs) P f xs (All-contains_itself xs)

-- lines are kept in the order in which they are taken, and read from the end
pub taken-first : (xs ys : List SignalCell) (x line : SignalCell) → ys ≡ xs ++ x ∷ [] → x ≡ line → reverse ys ≡ line ∷ reverse xs
taken-first xs ys x line e is = ap reverse e ∙ reverse-append xs (x ∷ []) ∙ ap (λ z. z ∷ reverse xs) is

-- the order of lines
before-before : (x y z : SignalCell) → IsBefore x y → IsBefore y z → IsBefore x z
before-before x y z (inl a) (inl b) = inl (omega arith)
before-before x y z (inl a) (inr b) = inl (let e = b.0 in omega arith)
before-before x y z (inr a) (inl b) = inl (let e = a.0 in omega arith)
before-before x y z (inr a) (inr b) = inr (a.0 ∙ b.0, (let l = a.1 in let m = b.1 in omega arith))

-- what is kept while nothing is taken, and while a line is
source-on : (c : Circuit) (lines more : List SignalCell) (old new : Places) → ((x : SignalCell) → IsKept lines old x → IsKept more new x) → (o : Option Point) → IsSourceKept c lines old o → IsSourceKept c more new o
source-on c lines more old new f None h = tt
source-on c lines more old new f (Some p) (inl never) = inl never
source-on c lines more old new f (Some p) (inr h) = inr (h.0, f h.0 h.1, h.2, h.3)

kept-on : (lines : List SignalCell) (old new : Places) → ((k : LinePlace) (a : Asked) → old k ≡ Some a → new k ≡ Some a) → (x : SignalCell) → IsKept lines old x → IsKept lines new x
kept-on lines old new f x (inl h) = inl h
kept-on lines old new f x (inr h) = inr (h.0, h.1, f h.0 h.1 h.2, h.3)

kept-taken : (lines : List SignalCell) (old new : Places) (a : Asked) → TakesLast old a new → (x : SignalCell) → IsKept lines old x → IsKept (line_of a ∷ lines) new x
kept-taken lines old new a t x (inl h) = inl (Contains-append_right (line_of a ∷ []) lines x h)
kept-taken lines old new a t x (inr h) = elim (t.kept h.0 h.1 h.2) [
  | inl same ↦
      let both : Some h.1 ≡ Some a = sym h.2 ∙ ap old same ∙ t.was in
      let is : h.1 ≡ a = cc in
      inl (subst (Contains (line_of a ∷ lines)) (ap line_of (sym is) ∙ h.3) (0, omega arith, refl))
  | inr e ↦ inr (h.0, h.1, e, h.3)
]

-- the sources of other lines stay kept
pub sources-looked : (c : Circuit) (lines : List SignalCell) (old new : Places) → ((k : LinePlace) (a : Asked) → old k ≡ Some a → new k ≡ Some a) → (x : SignalCell) → AreSourcesKept c lines old x → AreSourcesKept c lines new x
sources-looked c lines old new f x h = λ n. source-on c lines lines old new (kept-on lines old new f) (get_or (looked_points c x.signal x.cell.span.start) n None) (h n)

pub sources-taken : (c : Circuit) (lines : List SignalCell) (old new : Places) (a : Asked) → TakesLast old a new → (x : SignalCell) → AreSourcesKept c lines old x → AreSourcesKept c (line_of a ∷ lines) new x
sources-taken c lines old new a t x h = λ n. source-on c lines (line_of a ∷ lines) old new (kept-taken lines old new a t) (get_or (looked_points c x.signal x.cell.span.start) n None) (h n)

each-get : {A : Type 0} (P : Option A → Type 0) (os : List (Option A)) → AllByRecursion P os → P None → (n : ℕ) → P (get_or os n None)
each-get P [] h none n = none
each-get P (o ∷ os) h none zero = h.0
each-get P (o ∷ os) h none (suc n) = each-get P os h.1 none n

module _ (b : Batch) (lawful : IsLawful b) (q : Query) (known : Contains b.queries q) where
  abbrev c : Circuit
  c = b.circuit

  wanted-grows : (es fs : List Entry) → ((e : Entry) → Contains es e → Contains fs e) → (a : Asked) → IsWanted b q es a → IsWanted b q fs a
  wanted-grows es fs grows a h = record { told = told-grows c es fs grows a h.told; needed = h.needed }

  -- what is wanted is asked for up to the horizon
  pub in-time : (es : List Entry) (a : Asked) → IsWanted b q es a → a.time ≤ c.horizon
  in-time es a w = wanted-time b lawful q.number (point_of a) (q, known, refl, w.needed)

  -- at a point of the circuit
  pub wanted-point : (es : List Entry) (a : Asked) → IsWanted b q es a → IsPoint c (point_of a)
  wanted-point es a w = record { signal = evaluable-signal a.time c.drivers a.signal w.told.evaluable; time = in-time es a w }

  -- the cell has the time, and its own first time
  pub has-time : (a : Asked) → a.cell ≡ cell_at c (point_of a) → a.time ≤ c.horizon → IsIn a.cell.span a.time
  has-time a right low = subst (λ (x : Cell). IsIn x.span a.time) (sym right) (cell-covers c lawful.circuit a.time a.signal low).inside

  pub has-start : (a : Asked) → a.cell ≡ cell_at c (point_of a) → a.time ≤ c.horizon → IsIn (span c a.signal a.time) a.cell.span.start
  has-start a right low =
      let inside = has-time a right low in
      let first : IsIn a.cell.span a.cell.span.start = record { low = omega arith; high = (let l = inside.low in let h = inside.high in omega arith) } in
      subst (λ (x : Cell). IsIn x.span a.cell.span.start) right first

  -- the cell of its first time is itself
  pub from-start : (a : Asked) → a.cell ≡ cell_at c (point_of a) → a.time ≤ c.horizon → a.cell ≡ cell_at c (point_at a.signal a.cell.span.start)
  from-start a right low =
      steady c lawful.circuit a.cell a.signal a.time a.cell.span.start right (subst (λ (x : Cell). IsIn x.span a.cell.span.start) (sym right) (has-start a right low))

  -- cells that stand in one place are the same
  one-place : (x y : Asked) → x.cell ≡ cell_at c (point_of x) → x.time ≤ c.horizon → y.cell ≡ cell_at c (point_of y) → y.time ≤ c.horizon → place_of (line_of x) ≡ place_of (line_of y) → x.cell ≡ y.cell
  one-place x y rx lx ry ly same = from-start x rx lx ∙ ap (λ (k : LinePlace). cell_at c (point_at k.signal k.start)) same ∙ sym (from-start y ry ly)

  module _ (es : List Entry) (lines : List SignalCell) (old : Places) (a : Asked) where
    -- the last one that waits is taken
    pub takes-line : (new : Places) → AreGathered b q es lines old → TakesLast old a new → AreGathered b q es (line_of a ∷ lines) new
    takes-line new g t = record {
      root = source-on c lines (line_of a ∷ lines) old new (kept-taken lines old new a t) (Some (record { signal = q.signal; time = q.from })) g.root;
      taken = λ x h. elim (contains-cases (line_of a) lines x h) [
        | inl same ↦ (a.time, subst (λ (y : SignalCell). IsWanted b q es (record { signal = y.signal; time = a.time; cell = y.cell })) same (g.waiting t.place a t.was))
        | inr more ↦ g.taken x more
      ];
      places = λ k x e. g.places k x (t.left k x e);
      waiting = λ k x e. g.waiting k x (t.left k x e);
      order = AllPairs-cons IsBefore (line_of a) lines (all-from (IsBefore (line_of a)) lines (g.below t.place a t.was)) g.order;
      below = λ k y e x h. elim (contains-cases (line_of a) lines x h) [
        | inl same ↦
            let less : IsBelow (place_of (line_of y)) t.place = subst (λ (z : LinePlace). IsBelow z t.place) (g.places k y (t.left k y e)) (t.last k y e) in
            subst (IsBefore (line_of y)) same (subst (IsBelow (place_of (line_of y))) (g.places t.place a t.was) less)
        | inr more ↦ g.below k y (t.left k y e) x more
      ];
    }

    module _ (w : IsWanted b q es a) where
      inside : IsIn (span c a.signal a.time) a.cell.span.start
      inside = has-start a w.told.right (in-time es a w)

      -- the source of a pin, at the time at which the line begins
      moved : (n : ℕ) → IsMoved c (get_or (looked_points c a.signal a.time) n None) (get_or (looked_points c a.signal a.cell.span.start) n None)
      moved = sources-moved c lawful.circuit a.signal a.time a.cell.span.start inside (in-time es a w) w.told.evaluable

      at-source : (y : Asked) → Contains (looked_points c a.signal a.time) (Some (point_of y)) → (n : ℕ) × (get_or (looked_points c a.signal a.time) n None ≡ Some (point_of y))
      at-source y h = (h.0, get_or_default (looked_points c a.signal a.time) h.0 None (Some (point_of y)) h.1 ∙ h.2)

      -- its cell comes before the line
      child-before : (y : Asked) → y.cell ≡ cell_at c (point_of y) → Contains (looked_points c a.signal a.time) (Some (point_of y)) → IsBefore (line_of y) (line_of a)
      child-before y right h =
          let s = at-source y h in
          inl (go (get_or (looked_points c a.signal a.cell.span.start) s.0 None) refl (subst (λ o. IsMoved c o (get_or (looked_points c a.signal a.cell.span.start) s.0 None)) s.1 (moved s.0)))
        where
          go : (o : Option Point) → get_or (looked_points c a.signal a.cell.span.start) (at-source y h).0 None ≡ o → IsMoved c (Some (point_of y)) o → y.cell.span.start < a.cell.span.start
          go None e m = absurd m
          go (Some r) e m =
              let early : r.time < a.cell.span.start = source-earlier c lawful.circuit a.signal a.cell.span.start (at-source y h).0 r e in
              let same : y.cell.span.start ≡ (span c y.signal y.time).start = ap (λ (x : Cell). x.span.start) right in
              let since : (span c y.signal y.time).start ≤ r.time = m.1.low in
              omega arith

      module _ (fs : List Entry) (grows : (e : Entry) → Contains es e → Contains fs e) (new : Places) (g : AreGathered b q es (line_of a ∷ lines) old) (l : Notes c fs old new (looked_points c a.signal a.time)) where
        -- a cell that it comes from is wanted as well
        source-wanted : (k : LinePlace) (y : Asked) → IsOfSource c fs (looked_points c a.signal a.time) k y → IsWanted b q fs y
        source-wanted k y s = record {
          told = s.told;
          needed = child-needed b lawful q (point_of a) (point_of y) w.needed (let p = at-source y s.source in source-child c a.signal a.time p.0 (point_of y) p.1) s.told.evaluable;
        }

        -- what a line comes from was asked for
        pub gathers : AreGathered b q fs (line_of a ∷ lines) new
        gathers = record {
          root = source-on c (line_of a ∷ lines) (line_of a ∷ lines) old new (kept-on (line_of a ∷ lines) old new l.kept) (Some (record { signal = q.signal; time = q.from })) g.root;
          taken = λ x h. let k = g.taken x h in (k.0, wanted-grows es fs grows (record { signal = x.signal; time = k.0; cell = x.cell }) k.1);
          places = λ k y e. elim (l.only k y e) [ inl was ↦ g.places k y was | inr s ↦ s.place ];
          waiting = λ k y e. elim (l.only k y e) [ inl was ↦ wanted-grows es fs grows y (g.waiting k y was) | inr s ↦ source-wanted k y s ];
          order = g.order;
          below = λ k y e x h. elim (l.only k y e) [
            | inl was ↦ g.below k y was x h
            | inr s ↦
                let first : IsBefore (line_of y) (line_of a) = child-before y s.told.right s.source in
                elim (contains-cases (line_of a) lines x h) [
                  | inl same ↦ subst (IsBefore (line_of y)) same first
                  | inr more ↦
                      let rest : All (IsBefore (line_of a)) lines = λ k d low. g.order 0 (suc k) d (omega arith) (omega arith) in
                      before-before (line_of y) (line_of a) x first (All-contains (IsBefore (line_of a)) lines x rest more)
                ]
          ];
        }

        -- and is kept
        pub sources-kept : AreSourcesKept c (line_of a ∷ lines) new (line_of a)
        sources-kept n =
            go (get_or (looked_points c a.signal a.time) n None) refl (get_or (looked_points c a.signal a.cell.span.start) n None) (moved n) (each-get (IsSourceAdded c new) (looked_points c a.signal a.time) l.sources tt n)
          where
            go : (o : Option Point) → get_or (looked_points c a.signal a.time) n None ≡ o → (r : Option Point) → IsMoved c o r → IsSourceAdded c new o → IsSourceKept c (line_of a ∷ lines) new r
            go None e None m h = tt
            go None e (Some r) m h = absurd m
            go (Some p) e None m h = absurd m
            go (Some p) e (Some r) m (inl never) =
                let at : IsEvaluable c p.signal r.time → ⊥ = never-moves c lawful.circuit p.signal p.time r.time m.1 never in
                inl (subst (λ s. IsEvaluable c s r.time → ⊥) (sym m.0) at)
            go (Some p) e (Some r) m (inr h) =
                let y = h.0 in
                let early : p.time < a.time = source-earlier c lawful.circuit a.signal a.time n p e in
                let x : Asked = record { signal = p.signal; time = p.time; cell = cell_at c p } in
                let stands : place_of (line_of x) ≡ place_of (line_of y) = gathers.places (place_of (line_of x)) y h.1 in
                let wy = gathers.waiting (place_of (line_of x)) y h.1 in
                let same : x.cell ≡ y.cell = one-place x y refl (omega (arith, early, in-time es a w)) wy.told.right (in-time fs y wy) stands in
                inr (line_of y, inr (place_of (line_of x), y, h.1, refl), sym (ap (λ (k : LinePlace). k.signal) stands) ∙ sym m.0, subst (λ (z : Cell). IsIn z.span r.time) same m.1)

  -- one line more
  pub record IsStep (fs : List Entry) (lines : List SignalCell) (a : Asked) (new : Places) : Type 0 where
    pub gathered : AreGathered b q fs (line_of a ∷ lines) new
    pub sources : (x : SignalCell) → Contains (line_of a ∷ lines) x → AreSourcesKept c (line_of a ∷ lines) new x

  pub steps : (es fs : List Entry) → ((e : Entry) → Contains es e → Contains fs e) → (lines : List SignalCell) (old now new : Places) (a : Asked) → AreGathered b q es lines old → ((x : SignalCell) → Contains lines x → AreSourcesKept c lines old x) → TakesLast old a now
      → Notes c fs now new (looked_points c a.signal a.time) → IsStep fs lines a new
  steps es fs grows lines old now new a g kept t l =
      let w = g.waiting t.place a t.was in
      let taken = takes-line es lines old a now g t in
      record {
        gathered = gathers es lines now a w fs grows new taken l;
        sources = λ x h. elim (contains-cases (line_of a) lines x h) [
          | inl same ↦ subst (AreSourcesKept c (line_of a ∷ lines) new) same (sources-kept es lines now a w fs grows new taken l)
          | inr more ↦ sources-looked c (line_of a ∷ lines) now new l.kept x (sources-taken c lines old now a t x (kept x more))
        ];
      }

  -- before any line is taken: the query's own point was noted
  pub begins : (es : List Entry) (old new : Places) → ((k : LinePlace) → old k ≡ None) → (IsEvaluable c q.signal q.from → IsNeededBy b q (point_at q.signal q.from)) → Notes c es old new (Some (point_at q.signal q.from) ∷ []) → AreGathered b q es [] new
  begins es old new none needed l = record {
    root = root l.sources.0;
    taken = λ x h. absurd (contains-none x [] refl h);
    places = λ k a e. (only k a e).place;
    waiting = λ k a e. wanted k a e;
    order = λ i j d l m. absurd (omega arith);
    below = λ k a e x h. absurd (contains-none x [] refl h);
  }
    where
      only : (k : LinePlace) (a : Asked) → new k ≡ Some a → IsOfSource c es (Some (point_at q.signal q.from) ∷ []) k a
      only k a e = elim (l.only k a e) [ inl was ↦ absurd (let n = none k in cc (n, was)) | inr s ↦ s ]

      at-root : (k : LinePlace) (a : Asked) → new k ≡ Some a → point_at q.signal q.from ≡ point_of a
      at-root k a e = let same = contains-one (Some (point_at q.signal q.from)) (Some (point_of a)) (only k a e).source in cc

      wanted : (k : LinePlace) (a : Asked) → new k ≡ Some a → IsWanted b q es a
      wanted k a e =
          let told = (only k a e).told in
          let same = at-root k a e in
          record {
            told = told;
            needed = subst (IsNeededBy b q) same (needed (subst (λ (p : Point). IsEvaluable c p.signal p.time) (sym same) told.evaluable));
          }

      root : IsSourceAdded c new (Some (point_at q.signal q.from)) → IsSourceKept c [] new (Some (point_at q.signal q.from))
      root (inl never) = inl never
      root (inr h) =
          let k : LinePlace = place_of (record { signal = q.signal; cell = cell_at c (point_at q.signal q.from) }) in
          let a = h.0 in
          let same = at-root k a h.1 in
          let w = wanted k a h.1 in
          let inside = has-time a w.told.right (in-time es a w) in
          inr (line_of a, inr (k, a, h.1, refl), sym (ap (λ (p : Point). p.signal) same), subst (IsIn a.cell.span) (sym (ap (λ (p : Point). p.time) same)) inside)

  -- each line that is taken comes before those that were
  rank-less : (es : List Entry) (lines : List SignalCell) (now : Places) (a : Asked) → AreGathered b q es (line_of a ∷ lines) now → IsWanted b q es a → length c.drivers ≤ 1048576 → rank c.horizon (line_of a ∷ lines) < rank c.horizon lines
  rank-less es [] now a g w limit =
      let low = in-time es a w in
      let since = (has-time a w.told.right low).low in
      let signal = evaluable-signal a.time c.drivers a.signal w.told.evaluable in
      omega arith
  rank-less es (y ∷ lines) now a g w limit =
      let signal = evaluable-signal a.time c.drivers a.signal w.told.evaluable in
      let before : IsBefore (line_of a) y = g.order 0 1 y (omega arith) (omega arith) in
      elim before [
        | inl l ↦ omega arith
        | inr m ↦ let e = m.0 in let l = m.1 in omega arith
      ]

  pub takes-less : (es : List Entry) (lines : List SignalCell) (old now : Places) (a : Asked) → AreGathered b q es lines old → TakesLast old a now → length c.drivers ≤ 1048576 → rank c.horizon (line_of a ∷ lines) < rank c.horizon lines
  takes-less es lines old now a g t limit = rank-less es lines now a (takes-line es lines old a now g t) (g.waiting t.place a t.was) limit
