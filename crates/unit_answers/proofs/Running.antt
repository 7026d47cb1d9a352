-- A batch over the stores: it is lawful, its strands are new, and what settlement leaves.
use Rattle.std.proofs.Common.{◌≡◌, ◌≢◌, ℕ, zero, suc, ◌+◌, ◌/◌, ◌%◌, ◌<◌, false, List, [], ◌∷◌, length, get_or, slice_get, map, flat_map, All, AllPairs, Some, refl, sym, ap, subst, ◌∙◌, arith}
use Rattle.std.proofs.lemmas.List.{get_or-map, length-map}
use Rattle.std.proofs.lemmas.Option.{slice_get-get_or}
use Rattle.std.proofs.lemmas.Simd.{map-map}
use Rattle.valid_intervals.specs.declared.SignalCell.{SignalCell}
use Rattle.valid_intervals.specs.Spans.{Span}
use Rattle.cell_store.specs.Recency.{Contents}
use Rattle.circuit_meaning.specs.Circuit.{Circuit}
use Rattle.journal_meaning.specs.declared.Entry.{Entry}
use Rattle.journal_meaning.specs.declared.batch.Query.{Query}
use Rattle.journal_meaning.specs.Batches.{Batch}
use Rattle.journal_meaning.proofs.Callers.{Each, each-append}
use Rattle.journal_meaning.specs.Lawful.{IsLawful}
use Rattle.plan_machine.specs.Strands.{Strand, started_strand}
use Rattle.journal_meaning.specs.Pieces.{Start, spans_of, starts_of, pieces}
use Rattle.plan_machine.specs.Shards.{Shard}
use Rattle.plan_machine.specs.Plans.{no_shard}
use Rattle.plan_machine.specs.Sound.{IsFresh}
use Rattle.query_lines.specs.declared.unit.Item.{Item}
use Rattle.circuit_meaning.specs.declared.Run.{Run}
use Rattle.reply_lines.specs.declared.reply.Outcome.{Outcome}
use Rattle.design.specs.Joined.{IsDesign}
use Rattle.demand_points.specs.Demands.{Demand}
use Rattle.memo_shards.specs.KeptShards.{KeptShard}
use Rattle.plan_core.specs.InTurn.{AreStarted}
use Rattle.plan_core.specs.Parts.{shards_in, strands_in}
use Rattle.query_answers.specs.windows.Strands.{IsInOrder}
use Rattle.query_answers.specs.windows.Settlement.{HasSettled}
use Rattle.session_meaning.specs.Session.{Setup, batch_of}
use Rattle.worker_gate.specs.Ends.{AreNew}
use Rattle.unit_answers.specs.Stores.{IsSized}
use Rattle.unit_answers.specs.inner.Runs.{store_of, AreEnded, HasRun}
use Rattle.session_meaning.proofs.Callers.{queries-signals, queries-within, queries-apart}

-- the batch of items is lawful
pub lawful-items : (setup : Setup) (items : List Item) → IsDesign setup.design → IsSized setup → AllPairs (λ a b. a.line ≢ b.line) items → IsLawful (batch_of setup items)
lawful-items setup items design sized lines = record {
  circuit = design.circuit;
  horizon = design.limits.horizon;
  numbers = queries-apart setup.design items lines;
  signals = queries-signals setup.design items design.signals;
  windows = queries-within setup.design items;
  some_shard = omega (arith, sized.some);
  some_cell = omega (arith, sized.room);
}

-- a strand that has made no step
record IsUnused (s : Strand) : Type 0 where
  charged : s.charged ≡ 0
  free : s.stack ≡ []
  filled : s.filled ≡ 0
  unspent : s.spent ≡ false

abbrev IsUncharged : Start → Type 0
IsUncharged a = a.charged ≡ 0

uncharged-starts : (q : Query) (first each : ℕ) (ws : List Span) → Each IsUncharged (starts_of q first each ws)
uncharged-starts q first each [] = tt
uncharged-starts q first each (w ∷ ws) = (refl, uncharged-starts q each each ws)

uncharged-pieces : (qs : List Query) → Each IsUncharged (flat_map pieces qs)
uncharged-pieces [] = tt
uncharged-pieces (q ∷ qs) =
    let m = length (spans_of q) in
    each-append IsUncharged (pieces q) (flat_map pieces qs) (uncharged-starts q (q.budget / m + q.budget % m) (q.budget / m) (spans_of q)) (uncharged-pieces qs)

unused-at : (c : Circuit) (strands : List Demand) (starts : List Start) → strands_in strands ≡ map (started_strand c) starts → Each IsUncharged starts → (i : ℕ) (s : Demand) → slice_get strands i ≡ Some s → IsUnused s.strand
unused-at c [] starts same h i s at = absurd (cc)
unused-at c (x ∷ strands) [] same h i s at = absurd (cc)
unused-at c (x ∷ strands) (a ∷ starts) same h zero s at =
    let here : x ≡ s = cc in
    let is : x.strand ≡ started_strand c a = cc in
    let begins : s.strand ≡ started_strand c a = ap (λ (y : Demand). y.strand) (sym here) ∙ is in
    record { charged = ap (λ (y : Strand). y.charged) begins ∙ h.0; free = ap (λ (y : Strand). y.stack) begins; filled = ap (λ (y : Strand). y.filled) begins; unspent = ap (λ (y : Strand). y.spent) begins }
unused-at c (x ∷ strands) (a ∷ starts) same h (suc i) s at =
    let more : strands_in strands ≡ map (started_strand c) starts = cc in unused-at c strands starts more h.1 i s at

at-place : {X : Type 0} (xs : List X) (i : ℕ) (x : X) → slice_get xs i ≡ Some x → (i < length xs) × ((d : X) → get_or xs i d ≡ x)
at-place [] i x at = absurd (cc)
at-place (y ∷ xs) zero x at = (omega arith, λ d. cc)
at-place (y ∷ xs) (suc i) x at = let r = at-place xs i x at in (omega (arith, r.0), r.1)

started-from : (c : Circuit) (starts : List Start) (n : ℕ) (s : Strand) → slice_get (map (started_strand c) starts) n ≡ Some s → (a : Start) × (s ≡ started_strand c a)
started-from c [] n s e = absurd (cc)
started-from c (a ∷ starts) zero s e = (a, cc)
started-from c (a ∷ starts) (suc n) s e = started-from c starts n s e

-- each strand is as it was started
pub strands-started : (c : Circuit) (starts : List Start) (strands : List Strand) → strands ≡ map (started_strand c) starts → AreStarted c strands
strands-started c starts strands same n s at = started-from c starts n s (subst (λ (l : List Strand). slice_get l n ≡ Some s) same at)

module _ (c : Circuit) (qs : List Query) (strands : List Demand) (order : IsInOrder strands) (same : strands_in strands ≡ map (started_strand c) (flat_map pieces qs)) where
  -- the strands of the pieces are new
  pub strands-new : AreNew strands
  strands-new i s at =
      let unused = unused-at c strands (flat_map pieces qs) same (uncharged-pieces qs) i s at in
      let place = at-place strands i s at in
      record {
        number = ap (λ (y : Demand). y.number) (sym (place.1 s)) ∙ order i s place.0;
        charged = unused.charged;
        free = unused.free;
        filled = unused.filled;
        unspent = unused.unspent;
      }

  -- and as many as the pieces
  pub strands-many : length strands ≡ length (flat_map pieces qs)
  strands-many = sym (length-map strands (λ (s : Demand). s.strand)) ∙ ap length same ∙ length-map (flat_map pieces qs) (started_strand c)

-- shards as a plan begins have no claim
pub fresh-free : (b : Batch) (opening : ℕ → List SignalCell) (ms : List KeptShard) → IsFresh b opening (shards_in ms) → All (λ m. m.shard.state.claims ≡ []) ms
fresh-free b opening ms fresh k d low =
    let count = fresh.count in
    let many : length (shards_in ms) ≡ length ms = length-map ms (λ (m : KeptShard). m.shard) in
    subst (λ (x : Shard). x.state.claims ≡ []) (get_or-map (λ (m : KeptShard). m.shard) ms k d no_shard low) (fresh.free k (omega arith))

-- so has what settlement leaves
pub settled-free : (b : Batch) (opening : ℕ → List SignalCell) (handed ms : List KeptShard) (os : List (Outcome (List Run))) → HasSettled b opening handed ms os → All (λ m. m.shard.state.claims ≡ []) ms
settled-free b opening handed ms os h = fresh-free b opening ms h.settled.fresh

-- the batch has run
pub has-run : (b : Batch) (opening : ℕ → List SignalCell) (handed ms : List KeptShard) (os : List (Outcome (List Run))) (lists : List (List Entry)) (left : List Contents) → HasSettled b opening handed ms os
    → AreEnded b.capacity ms lists left → HasRun b opening os lists left
has-run b opening handed ms os lists left h ended = record {
  handed = shards_in handed;
  shards = shards_in ms;
  settled = h.settled;
  outcomes_are = h.outcomes_are;
  lists_are = ended.lists_are ∙ sym (map-map (λ (x : Shard). x.journal) (λ (m : KeptShard). m.shard) ms);
  stores_are = ended.stores_are ∙ sym (map-map (store_of b.capacity) (λ (m : KeptShard). m.shard) ms);
}
