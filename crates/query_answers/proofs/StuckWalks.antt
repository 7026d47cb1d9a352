-- A window that is walked from cell to cell where a signal is stuck, with the entries of two memos.
use Rattle.std.proofs.Common.{◌≡◌, ℕ, ◌+◌, ◌<◌, ◌≤◌, List, Contains, sym, subst, ◌∙◌, arith, inl, inr}
use Rattle.std.proofs.lemmas.Bool.{cases_lt}
use Rattle.valid_intervals.specs.declared.Point.{Point}
use Rattle.valid_intervals.specs.declared.SignalCell.{SignalCell}
use Rattle.valid_intervals.specs.Spans.{Span, IsIn}
use Rattle.circuit_meaning.specs.Circuit.{Circuit, IsCircuit}
use Rattle.circuit_meaning.specs.Cells.{span}
use Rattle.circuit_meaning.specs.Need.{IsRoot, HasChildren, First, Next}
use Rattle.circuit_meaning.proofs.Callers.{free-alike, held-fits, cell-covers}
use Rattle.journal_meaning.specs.declared.Entry.{Entry}
use Rattle.journal_meaning.specs.States.{fresh}
use Rattle.journal_meaning.specs.Answers.{IsCovered}
use Rattle.journal_meaning.specs.Listed.{IsRightEntry}
use Rattle.journal_meaning.proofs.Callers.{covered-cell, right-entries, root-since, root-within}
use Rattle.journal_meaning.specs.declared.batch.Query.{Query}
use Rattle.journal_meaning.specs.Batches.{Batch, Site, window_of}
use Rattle.session_meaning.specs.StuckSignals.{stuck_circuit, IsCoveredBy, IsClosedBy}
use Rattle.plan_machine.proofs.Callers.{each-contains}
use Rattle.memo_shards.specs.KeptShards.{KeptShard, IsKnownShard}
use Rattle.window_walks.specs.Walks.{Walk, IsWalked}
use Rattle.plan_core.specs.asked.Memos.{at_time}
use Rattle.query_answers.specs.declared.stuck.both.StuckQuery.{StuckQuery}
use Rattle.query_answers.specs.stuck.inner.Both.{AreAllFed, AreKept, site_in}

-- what the entries say is right
abbrev pub AreRight : Circuit → List Entry → Type 0
AreRight c es = (e : Entry) → Contains es e → IsRightEntry c e

-- what a shard's journal says is right
pub own-right : (own : Batch) (opening : ℕ → List SignalCell) (m : KeptShard) → IsKnownShard own opening m → AreRight own.circuit m.shard.journal
own-right own opening m known e h =
    each-contains (IsRightEntry own.circuit) m.shard.journal e (right-entries own m.number (fresh (opening m.number)) m.shard.journal known.shard.legal) h

-- a covered point stays so while entries are kept
covered-on : (c : Circuit) (old new : List Entry) → AreKept old new → (p : Point) → IsCovered c old p → IsCovered c new p
covered-on c old new kept p (inl h) = inl h
covered-on c old new kept p (inr h) = inr (h.0, kept h.0 h.1, h.2)

-- so does one that is covered by both together
pub covered-by-on : (c : Circuit) (site : Site) (es es' own own' : List Entry) → AreKept es es' → AreKept own own' → (p : Point) → IsCoveredBy c site es own p → IsCoveredBy c site es' own' p
covered-by-on c site es es' own own' kept kept_own p (inl h) = inl (covered-on (stuck_circuit c site) own own' kept_own p h)
covered-by-on c site es es' own own' kept kept_own p (inr h) = inr (h.0, (h.1.0, kept h.1.0 h.1.1, h.1.2))

module _ (c : Circuit) (ok : IsCircuit c) (site : Site) (es own : List Entry) (right : AreRight c es) (right_own : AreRight (stuck_circuit c site) own) where
  abbrev d : Circuit
  d = stuck_circuit c site

  -- a covered time of a cell covers each
  pub covered-by-cell : (s t u : ℕ) → IsIn (span d s t) u → IsCoveredBy c site es own (record { signal = s; time = t }) → IsCoveredBy c site es own (record { signal = s; time = u })
  covered-by-cell s t u inside (inl h) = inl (covered-cell d (held-fits c site.signal site.value ok) s t u inside own right_own h)
  covered-by-cell s t u inside (inr h) =
      let alike = free-alike c site.signal site.value ok s t h.0 in
      let same : IsIn (span c s t) u = subst (λ (x : Span). IsIn x u) alike.span inside in
      by (covered-cell c ok s t u same es right (inr h.1))
    where
      by : IsCovered c es (record { signal = s; time = u }) → IsCoveredBy c site es own (record { signal = s; time = u })
      by (inl k) =
          let alike = free-alike c site.signal site.value ok s u h.0 in
          inl (inl (λ e. k (subst (HasChildren u) alike.driver e)))
      by (inr k) = inr (h.0, k)

-- Between two cells: the walk is that of the window, it stands at a root, and the times before it are covered.
pub record IsWalking (c : Circuit) (question : StuckQuery) (es own : List Entry) (walk : Walk) : Type 0 where
  pub start : walk.start ≡ question.query.from
  pub stop : walk.stop ≡ question.query.to
  pub walked : IsWalked (stuck_circuit c (site_in question)) question.query.signal walk
  pub root : walk.time < question.query.to → IsRoot (stuck_circuit c (site_in question)) (window_of question.query) walk.time
  pub covered : (u : ℕ) → question.query.from ≤ u → u < walk.time → IsCoveredBy c (site_in question) es own (at_time question.query u)

module _ (c : Circuit) (ok : IsCircuit c) (question : StuckQuery) (within : question.query.to ≤ c.horizon + 1) where
  abbrev q : Query
  q = question.query

  abbrev site : Site
  site = site_in question

  abbrev held : Circuit
  held = stuck_circuit c site

  -- before the first cell
  pub begins-walking : (es own : List Entry) (walk : Walk) → walk.start ≡ q.from → walk.stop ≡ q.to → walk.time ≡ q.from → IsWalked held q.signal walk → IsWalking c question es own walk
  begins-walking es own walk start stop time walked = record {
    start = start;
    stop = stop;
    walked = walked;
    root = λ l. subst (IsRoot held (window_of q)) (sym time) (First (omega arith));
    covered = λ u low high. absurd (omega arith);
  }

  -- the cell at a time of the window ends later
  pub ends-later : (t : ℕ) → t < q.to → t < (span held q.signal t).stop
  ends-later t low = (cell-covers held (held-fits c site.signal site.value ok) t q.signal (omega arith)).inside.high

  -- over a cell
  pub goes-on : (es es' own own' : List Entry) → AreKept es es' → AreKept own own' → AreRight c es' → AreRight held own' → (old new : Walk) → IsWalking c question es own old → old.time < q.to
      → IsCoveredBy c site es' own' (at_time q old.time) → new.start ≡ old.start → new.stop ≡ old.stop → new.time ≡ (span held q.signal old.time).stop → IsWalked held q.signal new → IsWalking c question es' own' new
  goes-on es es' own own' kept kept_own right right_own old new k low here start stop time walked = record {
    start = start ∙ k.start;
    stop = stop ∙ k.stop;
    walked = walked;
    root = λ l. subst (IsRoot held (window_of q)) (sym time) (Next (k.root low) (omega arith));
    covered = λ u since before. elim (cases_lt u old.time) [
      | inl l ↦ covered-by-on c site es es' own own' kept kept_own (at_time q u) (k.covered u since l)
      | inr l ↦
          let inside = (cell-covers held (held-fits c site.signal site.value ok) old.time q.signal (omega arith)).inside.low in
          covered-by-cell c ok site es' own' right right_own q.signal old.time u (record { low = omega arith; high = omega arith }) here
    ];
  }

  -- at its end the query is closed
  pub ends-closed : (es own : List Entry) (walk : Walk) → IsWalking c question es own walk → q.to ≤ walk.time → AreAllFed c site q es own → IsClosedBy c site es own q
  ends-closed es own walk k high fed = record {
    roots = λ t root.
        let since = root-since held (held-fits c site.signal site.value ok) (window_of q) within t root in
        let before = root-within held (held-fits c site.signal site.value ok) (window_of q) t root in
        k.covered t since (omega arith);
    children = fed.children;
    free = fed.free;
  }
