-- The cell of a covered point: an entry tells it.
use Rattle.std.proofs.Common.{◌≡◌, true, List, All, sym, ap, ◌∙◌, inl, inr}
use Rattle.std.proofs.lemmas.List.Elements.{All-contains}
use Rattle.valid_intervals.specs.declared.Cell.{Cell}
use Rattle.valid_intervals.specs.declared.Point.{Point}
use Rattle.valid_intervals.specs.Cells.{covers, cell_for}
use Rattle.circuit_meaning.specs.Circuit.{Circuit, IsCircuit}
use Rattle.circuit_meaning.specs.Cells.{cell_at, point_at}
use Rattle.circuit_meaning.specs.Need.{IsEvaluable}
use Rattle.journal_meaning.specs.declared.Entry.{Entry}
use Rattle.journal_meaning.specs.declared.Entry.TheVariants.{Told, Claimed, Filled, Evicted, Dropped, Spent}
use Rattle.journal_meaning.specs.Answers.{Says, IsCovered}
use Rattle.journal_meaning.specs.Listed.{IsRightEntry}
use Rattle.session_meaning.specs.Explanations.{Tells}
use Rattle.why_proofs.proofs.Callers.{covers-from, steady}
use Rattle.query_answers.specs.declared.explanations.waiting.Asked.{Asked}
use Rattle.query_answers.specs.explanations.inner.Waiting.{line_of, point_of}
use Rattle.query_answers.specs.explanations.inner.Gathered.{IsTold}

module _ (c : Circuit) (ok : IsCircuit c) (a : Asked) (right : a.cell ≡ cell_at c (point_of a)) where
  -- a right cell that covers the point is its cell
  cell-tells : (x : Point) (cell : Cell) → cell ≡ cell_at c x → covers (point_of a) (cell_for x cell) ≡ true → (x.signal ≡ a.signal) × (cell ≡ a.cell)
  cell-tells x cell is h =
      let k = covers-from (cell_for x cell) a.signal a.time h in
      (k.signal, steady c ok cell x.signal x.time a.time is k.inside ∙ ap (λ s. cell_at c (point_at s a.time)) k.signal ∙ sym right)

  -- what says the cell of the point tells it
  says-tells : (e : Entry) → IsRightEntry c e → Says (point_of a) e → Tells (line_of a) e
  says-tells (Told q x cell) r h = cell-tells x cell r.1 h
  says-tells (Claimed q x) r h = h
  says-tells (Filled q x cell) r h = cell-tells x cell r.1 h
  says-tells (Evicted signal start) r h = h
  says-tells (Dropped q x) r h = h
  says-tells (Spent q x held) r h = h

  -- a covered point without a base answer is told
  pub covered-told : (es : List Entry) → All (IsRightEntry c) es → IsEvaluable c a.signal a.time → IsCovered c es (point_of a) → IsTold c es a
  covered-told es rights evaluable covered = record {
    evaluable = evaluable;
    right = right;
    told = elim covered [
      | inl never ↦ absurd (never evaluable)
      | inr h ↦ (h.0, h.1, says-tells h.0 (All-contains (IsRightEntry c) es h.0 rights h.1) h.2)
    ];
  }
