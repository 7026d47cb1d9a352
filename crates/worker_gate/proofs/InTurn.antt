-- Strands and shards of a batch as it begins, and strands that are counted at their places.
use Rattle.std.proofs.Common.{◌≡◌, ℕ, zero, suc, ◌+◌, ◌<◌, List, [], ◌∷◌, ◌++◌, Bool, true, take, length, map, set, sum, get_or, slice_get, refl, ap, sym, ◌∙◌, subst, Option, Some, None, All, Result, Ok, Err, IfOk, arith}
use Rattle.std.specs.List.{AllByRecursion, sum_by}
use Rattle.std.proofs.Math.ListN.{length-map}
use Rattle.std.proofs.lemmas.List.{take_at}
use Rattle.std.proofs.lemmas.List.Elements.{recursion_from_All}
use Rattle.std.proofs.lemmas.List.Sums.{sum_by-set, sum_by-cons}
use Rattle.std.proofs.lemmas.Option.{slice_get_within, slice_get-get_or, slice_get-map, get_or_from_slice_get}
use Rattle.std.specs.Option.{option_map}
use Rattle.valid_intervals.specs.declared.SignalCell.{SignalCell}
use Rattle.journal_meaning.specs.declared.Entry.{Entry}
use Rattle.journal_meaning.specs.Replay.{replay}
use Rattle.journal_meaning.specs.States.{State, fresh}
use Rattle.journal_meaning.specs.Batches.{Batch}
use Rattle.plan_machine.specs.Settle.{entries_in}
use Rattle.demand_points.specs.Demands.{Demand}
use Rattle.memo_shards.specs.KeptShards.{KeptShard, IsKnownShard}
use Rattle.journal_meaning.specs.Counts.{booked_count}
use Rattle.plan_core.specs.InTurn.{HasRun, IsUnused, booked_by, made_by, task_of}
use Rattle.plan_core.specs.Parts.{AreFree, shards_in, AreInOrder}
use Rattle.worker_gate.specs.Ends.{AreNew, AreNumbered, AreCounted, AreEnds, AreFilled, booked_at}

each-at : {X : Type 0} (P : X → Type 0) (xs : List X) (i : ℕ) (x : X) → All P xs → slice_get xs i ≡ Some x → P x
each-at P xs i x all at = subst P (get_or_from_slice_get xs i x x at) (all i x (slice_get_within xs i x at))

-- new strands have made no turn
pub new-unused : (xs : List Demand) → AreNew xs → All IsUnused xs
new-unused xs new k d low =
    let n = new k (get_or xs k d) (slice_get-get_or xs k d low) in
    record { free = n.free; filled = n.filled; unspent = n.unspent }

made-none : (xs : List Demand) → ((i : ℕ) (s : Demand) → slice_get xs i ≡ Some s → made_by s ≡ 0) → sum_by made_by xs ≡ 0
made-none [] h = refl
made-none (x ∷ xs) h =
    let k = made-none xs (λ i s at. h (suc i) s at) in
    let one = h 0 x refl in
    let all = sum_by-cons made_by x xs in
    omega arith

-- they have made nothing
pub new-none : (xs : List Demand) → AreNew xs → sum_by made_by xs ≡ 0
new-none xs new = made-none xs (λ i s at. let n = new i s at in let charged = n.charged in let filled = n.filled in omega arith)

-- strands with the numbers of new ones
pub new-numbered : (old xs : List Demand) → AreNew old → map (λ (s : Demand). s.number) xs ≡ map (λ (s : Demand). s.number) old → AreNumbered xs
new-numbered old xs new same i s at = by (slice_get old i) refl
  where
    by : (o : Option Demand) → slice_get old i ≡ o → s.number ≡ i
    by o is = from o is (sym (ap (option_map (λ (z : Demand). z.number)) at) ∙ sym (slice_get-map (λ (z : Demand). z.number) xs i) ∙ ap (λ l. slice_get l i) same ∙ slice_get-map (λ (z : Demand). z.number) old i ∙ ap (option_map (λ (z : Demand). z.number)) is)
      where
        from : (o : Option Demand) → slice_get old i ≡ o → option_map (λ (z : Demand). z.number) (Some s) ≡ option_map (λ (z : Demand). z.number) o → s.number ≡ i
        from None is e = absurd (cc e)
        from (Some r) is e = let k : s.number ≡ r.number = cc e in k ∙ (new i r is).number

-- a strand at its place
placed : (xs : List Demand) (i : ℕ) (s : Demand) → slice_get (map Some xs) i ≡ Some (Some s) → slice_get xs i ≡ Some s
placed [] i s at = absurd (cc at)
placed (x ∷ xs) zero s at = let e : x ≡ s = cc at in ap Some e
placed (x ∷ xs) (suc i) s at = placed xs i s at

-- strands that have run, each at its place with its count
pub run-ends : (xs : List Demand) → AreNumbered xs → All HasRun xs → AreEnds (map Some xs) (map task_of xs) (map made_by xs)
run-ends xs numbered ran i s t at task =
    let there = placed xs i s at in
    let run = each-at HasRun xs i s ran there in
    let mine : slice_get (map task_of xs) i ≡ Some (task_of s) = slice_get-map task_of xs i ∙ ap (option_map task_of) there in
    let same : task_of s ≡ t = cc (mine, task) in
    let count : get_or (map made_by xs) i 0 ≡ made_by s = get_or_from_slice_get (map made_by xs) i (made_by s) 0 (slice_get-map made_by xs i ∙ ap (option_map made_by) there) in
    (run.ended.done, numbered i s there, same, run.full, count)

pub all-filled : (xs : List Demand) → AreFilled (map Some xs)
all-filled [] i low at = omega (arith, low)
all-filled (x ∷ xs) zero low at = cc at
all-filled (x ∷ xs) (suc i) low at = all-filled xs i (omega (arith, low)) at

-- a shard with an empty journal has no claims
free-one : (b : Batch) (opening : ℕ → List SignalCell) (m : KeptShard) → IsKnownShard b opening m → m.shard.journal ≡ [] → m.shard.state.claims ≡ []
free-one b opening m known empty = ap (λ (s : State). s.claims) (known.shard.state ∙ ap (replay (fresh (opening m.number))) empty)

all-free : (b : Batch) (opening : ℕ → List SignalCell) (ms : List KeptShard) → All (IsKnownShard b opening) ms → All (λ (m : KeptShard). m.shard.journal ≡ []) ms → AllByRecursion (λ (m : KeptShard). m.shard.state.claims ≡ []) ms
all-free b opening ms known empty = recursion_from_All (λ (m : KeptShard). m.shard.state.claims ≡ []) ms (λ i d low. free-one b opening (get_or ms i d) (known i d low) (empty i d low))

-- shards in order with empty journals are free
pub free-shards : (b : Batch) (opening : ℕ → List SignalCell) (ms : List KeptShard) → All (IsKnownShard b opening) ms → length ms ≡ b.shards → AreInOrder ms → All (λ (m : KeptShard). m.shard.journal ≡ []) ms → AreFree b ms
free-shards b opening ms known count order empty = record { count = count; order = order; free = all-free b opening ms known empty }

-- they have recorded nothing
bare-by : (ms : List KeptShard) → AllByRecursion (λ (m : KeptShard). m.shard.journal ≡ []) ms → entries_in (shards_in ms) ≡ []
bare-by [] h = refl
bare-by (m ∷ ms) h = ap (λ (es : List Entry). es ++ entries_in (shards_in ms)) h.0 ∙ bare-by ms h.1

pub bare : (ms : List KeptShard) → All (λ (m : KeptShard). m.shard.journal ≡ []) ms → entries_in (shards_in ms) ≡ []
bare ms empty = bare-by ms (recursion_from_All (λ (m : KeptShard). m.shard.journal ≡ []) ms empty)

booked-by : (ms : List KeptShard) → AllByRecursion (λ (m : KeptShard). m.shard.journal ≡ []) ms → sum_by booked_by ms ≡ 0
booked-by [] h = refl
booked-by (m ∷ ms) h =
    let k = booked-by ms h.1 in
    let one : booked_by m ≡ 0 = ap booked_count h.0 in
    let all = sum_by-cons booked_by m ms in
    omega arith

pub booked-none : (ms : List KeptShard) → All (λ (m : KeptShard). m.shard.journal ≡ []) ms → sum_by booked_by ms ≡ 0
booked-none ms empty = booked-by ms (recursion_from_All (λ (m : KeptShard). m.shard.journal ≡ []) ms empty)

-- each strand at its place has its count
pub counted-there : (places : List (Option Demand)) → AreCounted places (map booked_at places)
counted-there [] i s at = absurd (cc)
counted-there (p ∷ ps) zero s at = let e : p ≡ Some s = cc in ap booked_at e
counted-there (p ∷ ps) (suc i) s at = counted-there ps i s at

-- at an empty place nothing is counted
none-counted : (places : List (Option Demand)) (n : ℕ) → slice_get places n ≡ Some None → get_or (map booked_at places) n 0 ≡ 0
none-counted [] n at = refl
none-counted (p ∷ ps) zero at = let e : p ≡ None = cc in ap booked_at e
none-counted (p ∷ ps) (suc n) at = none-counted ps n at

-- so the counts have more by what is put there
pub rest-added : (places : List (Option Demand)) (n rest : ℕ) → slice_get places n ≡ Some None → sum (set (map booked_at places) n rest) ≡ sum (map booked_at places) + rest
rest-added places n rest at =
    let within : n < length (map booked_at places) = subst (λ k. n < k) (sym (length-map places booked_at)) (slice_get_within places n None at) in
    let c = sum_by-set (λ (x : ℕ). x) (map booked_at places) n rest 0 within in
    let none = none-counted places n at in
    omega (arith, c, none)

-- what holds of the shards that were written holds of those of a result
pub shards-written : {R E : Type 0} (r : Result R E) (of : R → List KeptShard) (n : ℕ) (ms more : List KeptShard) → IfOk r (λ x. of x ≡ take n (ms ++ more)) → length ms ≡ n → (P : List KeptShard → Type 0) → P ms → IfOk r (λ x. P (of x))
shards-written (Ok x) of n ms more e len P p = subst P (sym (e ∙ take_at ms more n len)) p
shards-written (Err x) of n ms more e len P p = e

pub heard-written : {R E : Type 0} (r : Result R E) (of : R → List KeptShard) (heard : R → Bool) (n : ℕ) (ms more : List KeptShard) (u : Bool) → IfOk r (λ x. of x ≡ take n (ms ++ more)) → IfOk r (λ x. heard x ≡ u) → length ms ≡ n
    → (P : List KeptShard → Type 0) → (u ≡ true → P ms) → IfOk r (λ x. heard x ≡ true → P (of x))
heard-written (Ok x) of heard n ms more u e k len P p = λ h. subst P (sym (e ∙ take_at ms more n len)) (p (sym k ∙ h))
heard-written (Err x) of heard n ms more u e k len P p = e
