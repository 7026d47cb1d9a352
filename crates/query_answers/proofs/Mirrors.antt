-- The entries of the memo of its own, and what was heard from the session's memo, as one list.
use Rattle.std.proofs.Common.{◌≡◌, ◌⊎◌, ℕ, ◌+◌, List, [], ◌∷◌, ◌++◌, All, subst, arith, inl, inr}
use Rattle.std.proofs.lemmas.List.Elements.{Contains-append_left, Contains-append_right, Contains-append_cases, All-weaker}
use Rattle.valid_intervals.specs.declared.Cell.{Cell}
use Rattle.valid_intervals.specs.declared.Point.{Point}
use Rattle.valid_intervals.specs.Cells.{cell_for}
use Rattle.circuit_meaning.specs.Circuit.{Circuit}
use Rattle.circuit_meaning.specs.Forced.{IsFree}
use Rattle.journal_meaning.proofs.Callers.{contains-one, count-append}
use Rattle.journal_meaning.specs.Batches.{Site}
use Rattle.journal_meaning.specs.declared.Entry.{Entry}
use Rattle.journal_meaning.specs.declared.Entry.TheVariants.{Told, Claimed, Filled, Evicted, Dropped, Spent}
use Rattle.journal_meaning.specs.Answers.{Says, IsCovered, is_fill_of}
use Rattle.journal_meaning.specs.Grown.{IsSaid}
use Rattle.valid_intervals.proofs.Callers.{point-is}
use Rattle.why_proofs.proofs.Callers.{covers-from}
use Rattle.session_meaning.specs.StuckSignals.{stuck_circuit, IsCoveredBy}
use Rattle.query_answers.specs.stuck.inner.Both.{IsHeardThere, Mirrors, AreKept}

module _ (c : Circuit) (site : Site) where
  -- where entries are kept, what was heard stays so
  heard-kept : (es new : List Entry) → AreKept es new → (e : Entry) → IsHeardThere c site es e → IsHeardThere c site new e
  heard-kept es new kept (Told q p x) h = (h.0, (h.1.0, kept h.1.0 h.1.1, h.1.2), h.2, h.3)
  heard-kept es new kept (Claimed q p) h = h
  heard-kept es new kept (Filled q p x) h = h
  heard-kept es new kept (Evicted signal start) h = h
  heard-kept es new kept (Dropped q p) h = h
  heard-kept es new kept (Spent q p held) h = h

  -- what says the cell of a point stands in one of the memos
  heard-says : (es : List Entry) (p : Point) (e : Entry) → IsHeardThere c site es e → Says p e → IsFree c site.signal p.signal × IsSaid es p
  heard-says es p (Told q y x) h says =
      let k = covers-from (cell_for y x) p.signal p.time says in
      let low = k.inside.low in
      let high = k.inside.high in
      let start = h.2 in
      let stop = h.3 in
      let e : y ≡ p = point-is y p k.signal (omega arith) in
      (subst (λ (z : Point). IsFree c site.signal z.signal) e h.0, subst (IsSaid es) e h.1)
  heard-says es p (Claimed q y) h says = absurd h
  heard-says es p (Filled q y x) h says = absurd h
  heard-says es p (Evicted signal start) h says = absurd h
  heard-says es p (Dropped q y) h says = absurd h
  heard-says es p (Spent q y held) h says = absurd h

  module _ (es own mirror : List Entry) (m : Mirrors c site es own mirror) where
    -- the same entries more in both
    pub mirrors-more : (more : List Entry) → Mirrors c site es (own ++ more) (mirror ++ more)
    mirrors-more more = record {
      fills = λ q. let a = count-append (is_fill_of q) mirror more in let b = count-append (is_fill_of q) own more in let k = m.fills q in omega arith;
      has = λ e h. elim (Contains-append_cases own more e h) [ inl l ↦ Contains-append_left mirror more e (m.has e l) | inr r ↦ Contains-append_right mirror more e r ];
      only = λ e h. elim (Contains-append_cases mirror more e h) [
        | inl l ↦ elim (m.only e l) [ inl k ↦ inl (Contains-append_left own more e k) | inr k ↦ inr k ]
        | inr r ↦ inl (Contains-append_right own more e r)
      ];
    }

    -- more entries in the session's memo
    pub mirrors-kept : (new : List Entry) → AreKept es new → Mirrors c site new own mirror
    mirrors-kept new kept = record {
      fills = m.fills;
      has = m.has;
      only = λ e h. elim (m.only e h) [ inl l ↦ inl l | inr r ↦ inr (heard-kept es new kept e r) ];
    }

    -- a cell was heard from the session's memo
    pub mirrors-heard : (q : ℕ) (p : Point) (x : Cell) → IsFree c site.signal p.signal → IsSaid es p → x.span.start ≡ p.time → x.span.stop ≡ p.time + 1 → Mirrors c site es own (mirror ++ Told q p x ∷ [])
    mirrors-heard q p x free said start stop = record {
      fills = λ r. let a = count-append (is_fill_of r) mirror (Told q p x ∷ []) in let k = m.fills r in omega arith;
      has = λ e h. Contains-append_left mirror (Told q p x ∷ []) e (m.has e h);
      only = λ e h. elim (Contains-append_cases mirror (Told q p x ∷ []) e h) [
        | inl l ↦ m.only e l
        | inr r ↦ inr (subst (IsHeardThere c site es) (contains-one (Told q p x) e r) (free, said, start, stop))
      ];
    }

    -- what an entry of the list says is said in one of the memos
    pub mirrors-said : (p : Point) → IsSaid mirror p → IsSaid own p ⊎ (IsFree c site.signal p.signal × IsSaid es p)
    mirrors-said p s = elim (m.only s.0 s.1) [
      | inl l ↦ inl (s.0, l, s.2)
      | inr r ↦ inr (heard-says es p s.0 r s.2)
    ]

    pub mirrors-covered : (p : Point) → IsCovered (stuck_circuit c site) mirror p → IsCoveredBy c site es own p
    mirrors-covered p (inl never) = inl (inl never)
    mirrors-covered p (inr s) = elim (mirrors-said p s) [ inl l ↦ inl (inr l) | inr r ↦ inr r ]

    pub mirrors-all : (ps : List Point) → All (IsCovered (stuck_circuit c site) mirror) ps → All (IsCoveredBy c site es own) ps
    mirrors-all ps h = All-weaker (IsCovered (stuck_circuit c site) mirror) (IsCoveredBy c site es own) mirrors-covered ps h
