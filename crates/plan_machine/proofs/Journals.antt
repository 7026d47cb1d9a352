-- Every turn adds entries for its strand's query, and keeps each strand's task.
use Rattle.std.proofs.Common.{◌≡◌, ℕ, ◌<◌, ◌%◌, ◌&&◌, not, nat_eq, Bool, true, false, cond, List, [], ◌∷◌, ◌++◌, length, map, get_or, slice_get, slice_set, refl, sym, ap, subst, ◌∙◌, arith, inl, inr, Option, Some, None, append_assoc}
use Rattle.std.proofs.Math.ListN.{length-set, length-map, get_or-map}
use Rattle.std.proofs.lemmas.Bool.{cases_eq}
use Rattle.std.proofs.lemmas.List.{map-set, append-nil}
use Rattle.valid_intervals.specs.declared.Point.{Point}
use Rattle.valid_intervals.specs.declared.SignalCell.{SignalCell}
use Rattle.valid_intervals.specs.Cells.{cell_for, is_stored, last_cell}
use Rattle.journal_meaning.specs.declared.Entry.{Entry}
use Rattle.journal_meaning.specs.declared.Entry.TheVariants.{Told, Claimed, Filled, Evicted, Dropped}
use Rattle.journal_meaning.specs.States.{fresh}
use Rattle.journal_meaning.specs.Batches.{Batch}
use Rattle.circuit_meaning.specs.Cells.{cell_at}
use Rattle.journal_meaning.specs.Grown.{IsFor, AreAdded}
use Rattle.journal_meaning.specs.Listed.{IsHome, AreHome}
use Rattle.journal_meaning.proofs.Callers.{Each, each-append, added-one, added-none, added-more, legal-home}
use Rattle.journal_meaning.specs.Lawful.{IsLawful}
use Rattle.plan_machine.specs.Strands.{Strand, after_answer, awake}
use Rattle.plan_machine.specs.Shards.{Shard, shard_with_entry, shard_without_cell, with_room, filled_shard}
use Rattle.plan_machine.specs.Plans.{Plan, no_shard, home, shard_of, woken_strand, itself}
use Rattle.plan_machine.specs.Steps as steps
use Rattle.plan_machine.specs.Steps.{Step, step_at}
use Rattle.plan_machine.specs.Turns.{plan_after, turn_at, turn, run}
use Rattle.plan_machine.specs.Sound.{IsSound}
use Rattle.plan_machine.specs.Journals.{journals, eviction, evictions_for, entries_of, added_at, added_by, TurnAdds, SameTask, SameTasks}
use Rattle.plan_machine.proofs.Links.{IsChange, one-change, all-change}
use Rattle.plan_machine.proofs.Steps.{woken-cases}
use Rattle.plan_machine.proofs.Turns.{turn-sound}

-- the journal of a shard
pub journal-at : (shards : List Shard) (k : ℕ) → get_or (map (λ (h : Shard). h.journal) shards) k [] ≡ (get_or shards k no_shard).journal
journal-at shards k = get_or-map (λ (h : Shard). h.journal) shards k no_shard

-- what is recorded stands after what was
pub room-journal : (capacity : ℕ) (x : SignalCell) (h : Shard) → (with_room capacity x h).journal ≡ h.journal ++ evictions_for capacity x h
room-journal capacity x h = by (not (is_stored x h.state.cells) && nat_eq (length h.state.cells) capacity)
  where
    evicts : (o : Option SignalCell) → (shard_without_cell o h).journal ≡ h.journal ++ eviction o
    evicts None = sym (append-nil h.journal)
    evicts (Some y) = refl

    by : (t : Bool) → (cond t (shard_without_cell (last_cell h.state.cells) h) h).journal ≡ h.journal ++ cond t (eviction (last_cell h.state.cells)) []
    by true = evicts (last_cell h.state.cells)
    by false = sym (append-nil h.journal)

pub evictions-each : (P : Entry → Type 0) → ((signal start : ℕ) → P (Evicted signal start)) → (capacity : ℕ) (x : SignalCell) (h : Shard) → Each P (evictions_for capacity x h)
evictions-each P all capacity x h = by (not (is_stored x h.state.cells) && nat_eq (length h.state.cells) capacity)
  where
    evicts : (o : Option SignalCell) → Each P (eviction o)
    evicts None = tt
    evicts (Some y) = (all y.signal y.cell.span.start, tt)

    by : (t : Bool) → Each P (cond t (eviction (last_cell h.state.cells)) [])
    by true = evicts (last_cell h.state.cells)
    by false = tt

pub filled-entries : (P : Entry → Type 0) → ((signal start : ℕ) → P (Evicted signal start)) → (b : Batch) (plan : Plan) (s : Strand) (p : Point) → P (Filled s.query.number p (cell_at b.circuit p)) → Each P (entries_of b plan s (steps.Finish p))
filled-entries P all b plan s p h =
    let x = cell_for p (cell_at b.circuit p) in
    each-append P (evictions_for b.capacity x (shard_of plan p)) (Filled s.query.number p (cell_at b.circuit p) ∷ []) (evictions-each P all b.capacity x (shard_of plan p)) (h, tt)

pub filled-journal : (b : Batch) (plan : Plan) (s : Strand) (p : Point) → (filled_shard b.capacity s.query.number p (cell_at b.circuit p) (shard_of plan p)).journal ≡ (shard_of plan p).journal ++ entries_of b plan s (steps.Finish p)
filled-journal b plan s p =
    let x = cell_for p (cell_at b.circuit p) in
    let h = shard_of plan p in
    let e = Filled s.query.number p (cell_at b.circuit p) in
    ap (λ l. l ++ e ∷ []) (room-journal b.capacity x h) ∙ append_assoc h.journal (evictions_for b.capacity x h) (e ∷ [])

-- each entry that a step records is for the strand's query
pub step-own : (b : Batch) (plan : Plan) (s : Strand) (t : Step) → Each (IsFor s.query.number) (entries_of b plan s t)
step-own b plan s (steps.Tell p x) = (refl, tt)
step-own b plan s (steps.Claim p) = (refl, tt)
step-own b plan s steps.Wait = tt
step-own b plan s steps.Spend = tt
step-own b plan s (steps.Finish p) = filled-entries (IsFor s.query.number) (λ _ _. tt) b plan s p refl
step-own b plan s (steps.GiveBack p) = (refl, tt)
step-own b plan s steps.Rest = tt

module _ (b : Batch) (lawful : IsLawful b) (opening : ℕ → List SignalCell) (plan : Plan) (sound : IsSound b opening plan) where
  pub journals-home : AreHome (journals plan)
  journals-home = record {
    home = λ k low.
        let l : length (journals plan) ≡ length plan.shards = length-map plan.shards (λ (h : Shard). h.journal) in
        let c = sound.count in
        let is = sound.shards k (omega arith) in
        let all : Each (IsHome b.shards k) (get_or plan.shards k no_shard).journal = legal-home b k (fresh (opening k)) (get_or plan.shards k no_shard).journal is.legal in
        subst (λ n. Each (IsHome n k) (get_or (journals plan) k [])) (sym (l ∙ c)) (subst (Each (IsHome b.shards k)) (sym (journal-at plan.shards k)) all);
  }

  -- the shard of a point has more entries
  pub shard-added : (p : Point) (h : Shard) (more : List Entry) → h.journal ≡ (shard_of plan p).journal ++ more → Each (IsHome b.shards (p.signal % b.shards)) more
      → AreAdded (journals plan) more (map (λ (h : Shard). h.journal) (slice_set plan.shards (home plan p) h))
  shard-added p h more longer here =
      let lists = journals plan in
      let l : length lists ≡ length plan.shards = length-map plan.shards (λ (h : Shard). h.journal) in
      let c = sound.count in
      let low : home plan p < length lists = let k = lawful.some_shard in omega arith in
      let same : length lists ≡ b.shards = l ∙ c in
      let at : home plan p ≡ p.signal % b.shards = ap (λ n. p.signal % n) c in
      let homes : Each (IsHome (length lists) (home plan p)) more = subst (λ n. Each (IsHome n (home plan p)) more) (sym same) (subst (λ k. Each (IsHome b.shards k) more) (sym at) here) in
      let journal : h.journal ≡ get_or lists (home plan p) [] ++ more = longer ∙ ap (λ z. z ++ more) (sym (journal-at plan.shards (home plan p))) in
      let new : map (λ (h : Shard). h.journal) (slice_set plan.shards (home plan p) h) ≡ slice_set lists (home plan p) (get_or lists (home plan p) [] ++ more) =
      map-set (λ (h : Shard). h.journal) plan.shards (home plan p) h ∙ ap (slice_set lists (home plan p)) journal in
      subst (AreAdded lists more) (sym new) (added-one lists journals-home (home plan p) low more homes)

  module _ (i : ℕ) (s : Strand) where
    told-added : (p : Point) (x : SignalCell) → AreAdded (journals plan) (entries_of b plan s (steps.Tell p x)) (journals (plan_after b plan i s (steps.Tell p x)))
    told-added p x = shard-added p (shard_with_entry (Told s.query.number p x.cell) (shard_of plan p)) (Told s.query.number p x.cell ∷ []) refl (refl, tt)

    claimed-added : (p : Point) → AreAdded (journals plan) (entries_of b plan s (steps.Claim p)) (journals (plan_after b plan i s (steps.Claim p)))
    claimed-added p = shard-added p (shard_with_entry (Claimed s.query.number p) (shard_of plan p)) (Claimed s.query.number p ∷ []) refl (refl, tt)

    filled-added : (p : Point) → AreAdded (journals plan) (entries_of b plan s (steps.Finish p)) (journals (plan_after b plan i s (steps.Finish p)))
    filled-added p = shard-added p (filled_shard b.capacity s.query.number p (cell_at b.circuit p) (shard_of plan p)) (entries_of b plan s (steps.Finish p)) (filled-journal b plan s p)
        (filled-entries (IsHome b.shards (p.signal % b.shards)) (λ _ _. tt) b plan s p refl)

    dropped-added : (p : Point) → AreAdded (journals plan) (entries_of b plan s (steps.GiveBack p)) (journals (plan_after b plan i s (steps.GiveBack p)))
    dropped-added p = shard-added p (shard_with_entry (Dropped s.query.number p) (shard_of plan p)) (Dropped s.query.number p ∷ []) refl (refl, tt)

    pub step-added : (t : Step) → AreAdded (journals plan) (entries_of b plan s t) (journals (plan_after b plan i s t))
    step-added (steps.Tell p x) = told-added p x
    step-added (steps.Claim p) = claimed-added p
    step-added steps.Wait = added-none (journals plan)
    step-added steps.Spend = added-none (journals plan)
    step-added (steps.Finish p) = filled-added p
    step-added (steps.GiveBack p) = dropped-added p
    step-added steps.Rest = added-none (journals plan)

  added_of : (i : ℕ) (o : Option Strand) → AreAdded (journals plan) (added_at b plan o) (journals (turn_at b plan i o))
  added_of i None = added-none (journals plan)
  added_of i (Some s) = step-added i s (step_at plan (Some s))

  own-of : (s : Strand) (o : Option Strand) → o ≡ Some s → Each (IsFor s.query.number) (added_at b plan o)
  own-of s None e = absurd (cc e)
  own-of s (Some r) e = let same : r ≡ s = cc e in subst (λ (z : Strand). Each (IsFor z.query.number) (added_at b plan (Some r))) same (step-own b plan r (step_at plan (Some r)))

  pub turn-adds : (i : ℕ) → TurnAdds b plan i
  turn-adds i = record { added = added_of i (slice_get plan.strands i); own = λ s at. own-of s (slice_get plan.strands i) at }

-- so does each list of turns
module _ (b : Batch) (lawful : IsLawful b) (opening : ℕ → List SignalCell) where
  pub run-adds : (plan : Plan) → IsSound b opening plan → (schedule : List ℕ) → (added : List Entry) × AreAdded (journals plan) added (journals (run b plan schedule))
  run-adds plan sound [] = ([], added-none (journals plan))
  run-adds plan sound (i ∷ is) =
      let more = run-adds (turn b plan i) (turn-sound b lawful opening plan sound i) is in
      let one = (turn-adds b lawful opening plan sound i).added in
      (added_by b plan i ++ more.0, added-more (journals plan) (added_by b plan i) (journals (turn b plan i)) more.0 (journals (run b (turn b plan i) is)) one more.1)

-- tasks
pub same-task : (s : Strand) → SameTask s s
same-task s = record { query = refl; budget = refl }

pub task-trans : (s r t : Strand) → SameTask s r → SameTask r t → SameTask s t
task-trans s r t a c = record { query = c.query ∙ a.query; budget = c.budget ∙ a.budget }

pub same-tasks : (plan : Plan) → SameTasks plan plan
same-tasks plan = record { count = refl; strands = λ j r at. (r, at, same-task r) }

pub tasks-trans : (a c d : Plan) → SameTasks a c → SameTasks c d → SameTasks a d
tasks-trans a c d x y = record {
  count = y.count ∙ x.count;
  strands = λ j r at.
      let o = y.strands j r at in
      let u = x.strands j o.0 o.1 in
      (u.0, u.1, task-trans u.0 o.0 r u.2 o.2);
}

module _ (plan : Plan) (i : ℕ) (s : Strand) (at : slice_get plan.strands i ≡ Some s) where
  -- one strand is another with its task, and f, which keeps tasks, was done to the others
  changed-tasks : (shards : List Shard) (ys : List Strand) (t : Strand) (f : Strand → Strand) → length ys ≡ length plan.strands → IsChange plan.strands ys i s t f → SameTask s t → ((o : Strand) → SameTask o (f o))
      → SameTasks plan (record { strands = ys; shards = shards })
  changed-tasks shards ys t f count change one all = record {
    count = count;
    strands = λ j r e. elim (cases_eq j i) [
      | inl k ↦
          let now : slice_get ys j ≡ Some t = subst (λ l. slice_get ys l ≡ Some t) (sym k) change.now in
          let same : t ≡ r = cc (now, e) in
          (s, subst (λ l. slice_get plan.strands l ≡ Some s) (sym k) at, subst (SameTask s) same one)
      | inr k ↦ let o = change.back j r k e in (o.0, o.1.0, subst (SameTask o.0) (sym o.1.1) (all o.0))
    ];
  }

  one-task : (shards : List Shard) (t : Strand) → SameTask s t → SameTasks plan (record { strands = slice_set plan.strands i t; shards = shards })
  one-task shards t one = changed-tasks shards (slice_set plan.strands i t) t (λ o. o) (length-set plan.strands i t) (one-change plan.strands i s t at) one same-task

  all-tasks : (shards : List Shard) (t : Strand) (f : Strand → Strand) (p : Point) → SameTask s t → ((o : Strand) → SameTask o (f o)) → SameTasks plan (record { strands = slice_set (map (woken_strand f p) plan.strands) i t; shards = shards })
  all-tasks shards t f p one all =
      let out = λ (o : Strand). let k = all o in let z : SameTask o (awake (f o)) = record { query = k.query; budget = k.budget } in z in
      changed-tasks shards (slice_set (map (woken_strand f p) plan.strands) i t) t (woken_strand f p) (length-set (map (woken_strand f p) plan.strands) i t ∙ length-map plan.strands (woken_strand f p)) (all-change (woken_strand f p) plan.strands i s t at) one
      (λ o. woken-cases f p o (SameTask o) (out o) (same-task o))

  step-tasks : (b : Batch) (t : Step) → SameTasks plan (plan_after b plan i s t)
  step-tasks b (steps.Tell p x) = one-task _ _ (record { query = refl; budget = refl })
  step-tasks b (steps.Claim p) = one-task _ _ (record { query = refl; budget = refl })
  step-tasks b steps.Wait = one-task _ _ (record { query = refl; budget = refl })
  step-tasks b steps.Spend = one-task _ _ (record { query = refl; budget = refl })
  step-tasks b (steps.Finish p) = all-tasks _ _ after_answer p (record { query = refl; budget = refl }) (λ o. record { query = refl; budget = refl })
  step-tasks b (steps.GiveBack p) = all-tasks _ _ itself p (record { query = refl; budget = refl }) (λ o. record { query = refl; budget = refl })
  step-tasks b steps.Rest = same-tasks plan

tasks-at : (b : Batch) (plan : Plan) (i : ℕ) (o : Option Strand) → slice_get plan.strands i ≡ o → SameTasks plan (turn_at b plan i o)
tasks-at b plan i None e = same-tasks plan
tasks-at b plan i (Some s) e = step-tasks plan i s e b (step_at plan (Some s))

-- each turn keeps each strand's task, in every plan
pub turn-tasks : (b : Batch) (plan : Plan) (i : ℕ) → SameTasks plan (turn b plan i)
turn-tasks b plan i = tasks-at b plan i (slice_get plan.strands i) refl

pub run-tasks : (b : Batch) (plan : Plan) (schedule : List ℕ) → SameTasks plan (run b plan schedule)
run-tasks b plan [] = same-tasks plan
run-tasks b plan (i ∷ is) = tasks-trans plan (turn b plan i) (run b (turn b plan i) is) (turn-tasks b plan i) (run-tasks b (turn b plan i) is)
