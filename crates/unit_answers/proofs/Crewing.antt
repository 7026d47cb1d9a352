-- What a crew left, once the batch is settled.
use Rattle.std.proofs.Common.{◌≡◌, ℕ, zero, suc, Bool, true, List, [], ◌∷◌, length, map, sum, sum_by, Option, Some, slice_get, slice_index, refl, sym, ap, subst, ◌∙◌, arith}
use Rattle.std.proofs.lemmas.Simd.{map-map}
use Rattle.std.proofs.lemmas.List.{length-map}
use Rattle.std.proofs.lemmas.List.Sums.{sum_by-cons}
use Rattle.valid_intervals.specs.declared.SignalCell.{SignalCell}
use Rattle.circuit_meaning.specs.Circuit.{Circuit}
use Rattle.journal_meaning.specs.declared.Entry.{Entry}
use Rattle.journal_meaning.specs.Counts.{booked_count}
use Rattle.journal_meaning.specs.Grown.{AreAdded}
use Rattle.journal_meaning.specs.Batches.{Batch}
use Rattle.journal_meaning.specs.Pieces.{Start}
use Rattle.plan_machine.specs.Strands.{Strand, started_strand}
use Rattle.plan_machine.specs.Shards.{Shard}
use Rattle.plan_machine.specs.Settle.{journals_of}
use Rattle.circuit_meaning.specs.declared.Run.{Run}
use Rattle.reply_lines.specs.declared.reply.Outcome.{Outcome}
use Rattle.demand_points.specs.declared.strand.Task.{Task}
use Rattle.demand_points.specs.Demands.{Demand}
use Rattle.memo_shards.specs.KeptShards.{KeptShard}
use Rattle.plan_core.specs.Parts.{shards_in, strands_in}
use Rattle.query_answers.specs.windows.Settlement.{HasSettled}
use Rattle.plan_core.specs.InTurn.{task_of, booked_by}
use Rattle.worker_gate.specs.Ends.{AreEnds, AreFilled}
use Rattle.unit_answers.specs.Crewed.{IsEndOf, HasCrewed}

-- the claims and fills of shards are those of their journals
booked-lists : (ms : List KeptShard) → sum_by booked_by ms ≡ sum_by booked_count (journals_of (shards_in ms))
booked-lists [] = refl
booked-lists (m ∷ ms) =
    let a = sum_by-cons booked_by m ms in
    let b = sum_by-cons booked_count m.shard.journal (journals_of (shards_in ms)) in
    let more = booked-lists ms in
    omega arith

-- the strand that was started at a place, and its task
started-at : (c : Circuit) (strands : List Demand) (starts : List Start) → strands_in strands ≡ map (started_strand c) starts → (i : ℕ) (a : Start) → slice_get starts i ≡ Some a
    → (r : Demand) × (slice_get (map task_of strands) i ≡ Some (task_of r)) × (r.strand ≡ started_strand c a)
started-at c strands [] same i a at = absurd (cc)
started-at c [] (b ∷ starts) same i a at = absurd (cc)
started-at c (x ∷ strands) (b ∷ starts) same zero a at =
    let here : b ≡ a = cc in
    let is : x.strand ≡ started_strand c b = cc in
    (x, refl, is ∙ ap (started_strand c) here)
started-at c (x ∷ strands) (b ∷ starts) same (suc i) a at =
    let more : strands_in strands ≡ map (started_strand c) starts = cc in
    started-at c strands starts more i a at

module _ (c : Circuit) (starts : List Start) (strands : List Demand) (same : strands_in strands ≡ map (started_strand c) starts) (places : List (Option Demand)) (counts : List ℕ) (ends : AreEnds places (map task_of strands) counts) where
  -- each strand that came back has ended with its piece
  ends-of : (i : ℕ) (a : Start) (s : Demand) → slice_get starts i ≡ Some a → slice_get places i ≡ Some (Some s) → IsEndOf a s.strand (slice_index counts i)
  ends-of i a s piece at =
      let was = started-at c strands starts same i a piece in
      let r = was.0 in
      let e = ends i s (task_of r) at was.1 in
      record {
        query = ap (λ (t : Task). t.query) e.2 ∙ ap (λ (x : Strand). x.query) was.2;
        budget = ap (λ (t : Task). t.budget) e.2 ∙ ap (λ (x : Strand). x.budget) was.2;
        ended = e.0;
        spent = e.3;
        amount = e.4;
      }

  strands-many : length strands ≡ length starts
  strands-many = sym (length-map strands (λ (s : Demand). s.strand)) ∙ ap length same ∙ length-map starts (started_strand c)

  -- the batch was run by a crew, and then settled
  pub has-crewed : (b : Batch) (opening : ℕ → List SignalCell) (handed ms : List KeptShard) (os : List (Outcome (List Run))) (lists : List (List Entry)) (is_open : Bool) → HasSettled b opening handed ms os → lists ≡ map (λ m. m.shard.journal) ms
      → sum counts ≡ sum_by booked_by handed → length places ≡ length strands → length counts ≡ length strands → (is_open ≡ true → AreFilled places) → HasCrewed starts is_open lists
  has-crewed b opening handed ms os lists is_open settled journals counted many amounts filled = record {
    left = journals_of (shards_in handed);
    added = settled.settled.added;
    journals = subst (λ l. AreAdded (journals_of (shards_in handed)) settled.settled.added l) (sym (journals ∙ sym (map-map (λ (x : Shard). x.journal) (λ (m : KeptShard). m.shard) ms))) settled.settled.journals;
    counts = counts;
    strands = places;
    counted = counted ∙ booked-lists handed;
    places = many ∙ strands-many;
    amounts = amounts ∙ strands-many;
    ends = ends-of;
    all = λ yes i low. filled yes i (let m = strands-many in omega arith);
  }
