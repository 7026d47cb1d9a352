-- Settlement settles every query of a batch.
use Rattle.std.proofs.Common.{◌≡◌, ◌≢◌, ℕ, zero, suc, ◌+◌, ◌-◌, ◌<◌, ◌≤◌, nat_eq, nat_lt, not, ◌||◌, Bool, true, false, cond, List, [], ◌∷◌, ◌++◌, length, get_or, AllPairs, Contains, slice_get, refl, sym, ap, subst, ◌∙◌, arith, inl, inr, is_some, None, true≢false, eqb-true, eq-eqb}
use Rattle.std.specs.List.{list_any}
use Rattle.std.proofs.lemmas.Bool.{cases_Bool, ltb-true, ltb-false, or_parts, not-false}
use Rattle.std.proofs.lemmas.List.Elements.{All-weaker, All-from_recursion, recursion_from_All, All-contains_itself, Contains-append_cases}
use Rattle.valid_intervals.specs.declared.Cell.{Cell}
use Rattle.valid_intervals.specs.declared.Point.{Point}
use Rattle.valid_intervals.specs.declared.SignalCell.{SignalCell}
use Rattle.circuit_meaning.specs.Circuit.{Circuit, driver}
use Rattle.circuit_meaning.specs.Cells.{span}
use Rattle.circuit_meaning.specs.Need.{IsEvaluable, IsRoot, First, children}
use Rattle.journal_meaning.specs.declared.Entry.{Entry}
use Rattle.journal_meaning.specs.declared.Entry.TheVariants.{Told, Claimed, Filled, Evicted, Dropped, Spent}
use Rattle.journal_meaning.specs.declared.batch.Query.{Query}
use Rattle.journal_meaning.specs.States as states
use Rattle.journal_meaning.specs.Batches.{Batch, IsNeededBy, window_of}
use Rattle.journal_meaning.specs.Answers.{Says, IsCovered}
use Rattle.journal_meaning.specs.Grown.{IsFor, GrowsBy, AreAdded}
use Rattle.journal_meaning.specs.Listed.{IsForOther}
use Rattle.journal_meaning.proofs.Callers.{Needed, filled_needed, Each, each-append, each-imply, added-none, added-more, grows-none, for-other}
use Rattle.journal_meaning.specs.Lawful.{IsLawful}
use Rattle.journal_meaning.specs.Pieces.{Start, IsStart}
use Rattle.plan_machine.specs.Strands.{is_evaluable}
use Rattle.plan_machine.proofs.Stacks.{evaluable-true}
use Rattle.plan_machine.specs.Shards.{Shard, IsShard}
use Rattle.plan_machine.specs.Plans.{no_shard, new_plan}
use Rattle.plan_machine.specs.Bounds.{all_left}
use Rattle.plan_machine.specs.Sound.{IsFresh}
use Rattle.plan_machine.specs.Alone.{run_alone}
use Rattle.plan_machine.specs.Standings.{IsAskedFor, IsStanding, Advances, Reaches, IsCoveredTo, SettlesQuery, AskedAlone, IsVisited, IsOpen}
use Rattle.plan_machine.specs.Settle.{Standing, journals_of, entries_in, charge_of, child_start, root_start, AreAllSettled, AreSettled}
use Rattle.plan_machine.specs.Settling.{says, is_covered_in, is_spent, run_of, ask, settle_point, settle_child, settle_root, settle_children, settle_fills, settle_window, fills_of, settle_query, Settled, settle_all, settle}
use Rattle.plan_machine.proofs.Underway.{evaluable-is, contains-cases, contains-none, each-contains}
use Rattle.plan_machine.proofs.AloneRuns.{alone-start, run-ends}
use Rattle.plan_machine.proofs.Settle.{stays, then, begins-query, child-asked, root-asked, asked-reaches, window-step, ends-query, own-query, child-start, root-start, child-needed, begins, asked, open-kept, settled-kept}

-- what the test for a covered point tells
says-true : (p : Point) (e : Entry) → says p e ≡ true → Says p e
says-true p (Told q x cell) h = h
says-true p (Claimed q x) h = true≢false (sym h)
says-true p (Filled q x cell) h = h
says-true p (Evicted signal start) h = true≢false (sym h)
says-true p (Dropped q x) h = true≢false (sym h)
says-true p (Spent q x held) h = true≢false (sym h)

any-contains : (test : Entry → Bool) (es : List Entry) → list_any test es ≡ true → (e : Entry) × Contains es e × (test e ≡ true)
any-contains test [] h = absurd (true≢false (sym h))
any-contains test (e ∷ es) h = by (test e) refl h (any-contains test es)
  where
    by : (t : Bool) → test e ≡ t → (t || list_any test es) ≡ true → (list_any test es ≡ true → (x : Entry) × Contains es x × (test x ≡ true)) → (x : Entry) × Contains (e ∷ es) x × (test x ≡ true)
    by true k h more = (e, (0, omega arith, refl), k)
    by false k h more = let m = more h in (m.0, (suc m.1.0, (let l = m.1.1 in omega arith), m.1.2), m.2)

pub covered-true : (c : Circuit) (es : List Entry) (p : Point) → is_covered_in c es p ≡ true → IsCovered c es p
covered-true c es p h = by (is_evaluable c p) refl h
  where
    by : (t : Bool) → is_evaluable c p ≡ t → (not t || list_any (says p) es) ≡ true → IsCovered c es p
    by true e h = let k = any-contains (says p) es h in inr (k.0, k.1, says-true p k.0 k.2)
    by false e h = inl (λ k. true≢false (sym (evaluable-is p.time (driver c p.signal) k) ∙ e))

pub covered-false : (c : Circuit) (es : List Entry) (p : Point) → is_covered_in c es p ≡ false → IsEvaluable c p.signal p.time
covered-false c es p h =
    let k = (or_parts (not (is_evaluable c p)) (list_any (says p) es) h).0 in
    evaluable-true c p.time (driver c p.signal) (not-false (is_evaluable c p) k)

-- the points that a query evaluated
pub fills-has : (es : List Entry) (q : ℕ) (p : Point) (x : Cell) → Contains es (Filled q p x) → Contains (fills_of es q) p
fills-has [] q p x h = absurd (contains-none (Filled q p x) [] refl h)
fills-has (e ∷ es) q p x h = elim (contains-cases e es (Filled q p x) h) [
  | inl same ↦ subst (λ z. Contains (fills_of (z ∷ es) q) p) (sym same) (rw (eq-eqb q q refl) (0, omega arith, refl))
  | inr k ↦ more e (fills-has es q p x k)
]
  where
    push : (y : Point) (ys : List Point) → Contains ys p → Contains (y ∷ ys) p
    push y ys k = (suc k.0, (let l = k.1 in omega arith), k.2)

    more : (e : Entry) → Contains (fills_of es q) p → Contains (fills_of (e ∷ es) q) p
    more (Told r y z) k = k
    more (Claimed r y) k = k
    more (Filled r y z) k = elim (nat_eq r q) as (λ t. Contains (cond t (y ∷ fills_of es q) (fills_of es q)) p) [
      | true ↦ push y (fills_of es q) k
      | false ↦ k
    ]
    more (Evicted s t) k = k
    more (Dropped r y) k = k
    more (Spent r y n) k = k

pub fills-each : (P : Point → Type 0) (q : ℕ) (es : List Entry) → ((p : Point) (x : Cell) → Contains es (Filled q p x) → P p) → Each P (fills_of es q)
fills-each P q [] f = tt
fills-each P q (e ∷ es) f = by e (f) (fills-each P q es (λ p x k. f p x (suc k.0, (let l = k.1 in omega arith), k.2)))
  where
    by : (e : Entry) → ((p : Point) (x : Cell) → Contains (e ∷ es) (Filled q p x) → P p) → Each P (fills_of es q) → Each P (fills_of (e ∷ es) q)
    by (Told r y z) f k = k
    by (Claimed r y) f k = k
    by (Filled r y z) f k = elim (cases_Bool (nat_eq r q)) [
      | inl t ↦ rw t (f y z (0, omega arith, ap (λ n. Filled n y z) (eqb-true r q t)), k)
      | inr t ↦ rw t k
    ]
    by (Evicted s t) f k = k
    by (Dropped r y) f k = k
    by (Spent r y n) f k = k

module _ (b : Batch) (lawful : IsLawful b) (site : b.site ≡ None) (opening : ℕ → List SignalCell) (q : Query) (known : Contains b.queries q) (start : List Entry) where
  -- one strand asks, and the point that it was started for is covered or the query is refused
  asks : (first : List Shard) (s : Standing) → IsStanding b opening q start first s → s.refused ≡ false → (x : Point) (a : Start) → IsStart b a → IsAskedFor q (entries_in s.shards) x a → Reaches b opening q start first s x (ask b s.shards a)
  unfolding run_of
  asks first s h live x a is for =
      let plan = new_plan b (a ∷ []) s.shards in
      let g = begins b lawful opening s.shards h.fresh a is in
      let ends = run-ends b lawful opening 0 a plan (all_left b plan + 1) plan None (alone-start b lawful opening 0 a plan g.sound g.free g.at) (omega arith) in
      let new = run_alone b 0 (all_left b plan + 1) plan in
      let k : AskedAlone b opening a s.shards new.shards ends.0 = asked b lawful opening s.shards a new ends.0 ends.1 in
      let flag : is_spent (slice_get new.strands 0) ≡ is_some ends.0 = ap is_spent ends.1.strand.at ∙ ends.1.strand.spent in
      let at : Bool → Standing = λ r. record { shards = new.shards; refused = r } in
      subst (λ r. Reaches b opening q start first s x (at r)) (sym flag) (asked-reaches b lawful opening q start first s h live x a for new.shards ends.0 k)

  -- a point that is asked for where it is missing
  at-point : (first : List Shard) (s : Standing) → IsStanding b opening q start first s → (x : Point) (a : Start) → (IsEvaluable b.circuit x.signal x.time → IsStart b a) → IsAskedFor q (entries_in s.shards) x a → Reaches b opening q start first s x (settle_point b s x a)
  at-point first s h x a is for = by_refused s.refused refl
    where
      by_covered : (t : Bool) → is_covered_in b.circuit (entries_in s.shards) x ≡ t → s.refused ≡ false → Reaches b opening q start first s x (cond t s (ask b s.shards a))
      by_covered true e live = (stays b opening q start first s h, λ _. covered-true b.circuit (entries_in s.shards) x e)
      by_covered false e live = asks first s h live x a (is (covered-false b.circuit (entries_in s.shards) x e)) for

      by_refused : (r : Bool) → s.refused ≡ r → Reaches b opening q start first s x (cond r s (cond (is_covered_in b.circuit (entries_in s.shards) x) s (ask b s.shards a)))
      by_refused true e = (stays b opening q start first s h, λ z. absurd (true≢false (sym e ∙ z)))
      by_refused false e = by_covered (is_covered_in b.circuit (entries_in s.shards) x) refl e

  at-child : (first : List Shard) (s : Standing) → IsStanding b opening q start first s → (x : Point) → (IsEvaluable b.circuit x.signal x.time → IsNeededBy b q x) → Reaches b opening q start first s x (settle_child b q s x)
  at-child first s h x need =
      let charge = charge_of (entries_in s.shards) q in
      at-point first s h x (child_start q x charge) (λ e. child-start b lawful q known x (need e) e charge (omega arith)) (child-asked q (entries_in s.shards) x)

  at-root : (first : List Shard) (s : Standing) → IsStanding b opening q start first s → (t : ℕ) → t < q.to → IsRoot b.circuit (window_of q) t → Reaches b opening q start first s (record { signal = q.signal; time = t }) (settle_root b q s t)
  at-root first s h t low root =
      let charge = charge_of (entries_in s.shards) q in
      at-point first s h (record { signal = q.signal; time = t }) (root_start q t charge) (λ e. root-start b lawful site q known t root low charge (omega arith)) (root-asked q (entries_in s.shards) t)

  -- the children of a point
  at-children : (first : List Shard) (s : Standing) → IsStanding b opening q start first s → (xs : List Point) → Each (λ x. IsEvaluable b.circuit x.signal x.time → IsNeededBy b q x) xs
      → Advances b opening q start first s (settle_children b q s xs) × ((settle_children b q s xs).refused ≡ false → Each (IsCovered b.circuit (entries_in (settle_children b q s xs).shards)) xs)
  at-children first s h [] need = (stays b opening q start first s h, λ _. tt)
  at-children first s h (x ∷ xs) need =
      let one = at-child first s h x need.0 in
      let mid = settle_child b q s x in
      let more = at-children first mid one.0.stands xs need.1 in
      (then b opening q start first s mid (settle_children b q mid xs) one.0 more.0, λ e. (more.0.kept x (one.1 (more.0.live e)), more.1 e))

  -- each of these points
  at-fills : (first : List Shard) (s : Standing) → IsStanding b opening q start first s → (ps : List Point) → Each (IsNeededBy b q) ps
      → Advances b opening q start first s (settle_fills b q s ps) × ((settle_fills b q s ps).refused ≡ false → Each (IsVisited b.circuit (entries_in (settle_fills b q s ps).shards)) ps)
  at-fills first s h [] need = (stays b opening q start first s h, λ _. tt)
  at-fills first s h (p ∷ ps) need =
      let xs = children b.circuit p.signal p.time in
      let Wanted : Point → Type 0 = λ x. IsEvaluable b.circuit x.signal x.time → IsNeededBy b q x in
      let wanted : Each Wanted xs = recursion_from_All Wanted xs (All-weaker (Contains xs) Wanted (λ x k e. child-needed b lawful q p x need.0 k e) xs (All-contains_itself xs)) in
      let one = at-children first s h xs wanted in
      let mid = settle_children b q s xs in
      let more = at-fills first mid one.0.stands ps need.1 in
      let end = settle_fills b q mid ps in (
        then b opening q start first s mid end one.0 more.0,
        λ e. (
          All-from_recursion (IsCovered b.circuit (entries_in end.shards)) xs (each-imply (IsCovered b.circuit (entries_in mid.shards)) (IsCovered b.circuit (entries_in end.shards)) more.0.kept xs (one.1 (more.0.live e))),
          more.1 e,
        ),
      )

  -- the window from a time on
  abbrev Windows : List Shard → ℕ → Type 0
  Windows first n = (t : ℕ) (s : Standing) → IsStanding b opening q start first s → (t < q.to → IsRoot b.circuit (window_of q) t) → IsCoveredTo b.circuit q s t → q.to ≤ t + n
      → Advances b opening q start first s (settle_window b q n t s) × IsCoveredTo b.circuit q (settle_window b q n t s) q.to

  past : (s : Standing) (t : ℕ) → IsCoveredTo b.circuit q s t → q.to ≤ t → IsCoveredTo b.circuit q s q.to
  past s t h l = λ e u low high. h e u low (omega arith)

  window-more : (first : List Shard) (n : ℕ) → Windows first n → Windows first (suc n)
  window-more first n again t s h root times few = by (nat_lt t q.to) refl
    where
      on : Standing
      on = settle_root b q s t

      by : (k : Bool) → nat_lt t q.to ≡ k → let end = cond k (settle_window b q n (span b.circuit q.signal t).stop (settle_root b q s t)) s in Advances b opening q start first s end × IsCoveredTo b.circuit q end q.to
      by false e = (stays b opening q start first s h, past s t times (ltb-false t q.to e))
      by true e =
          let low = ltb-true t q.to e in
          let stop = (span b.circuit q.signal t).stop in
          let mid = settle_root b q s t in
          let one = at-root first s h t low (root low) in
          let step = window-step b lawful opening q known start first s mid t low (root low) times one in
          let less = step.later in
          let more = again stop mid one.0.stands step.root step.covered (omega arith) in
          (then b opening q start first s mid (settle_window b q n stop mid) one.0 more.0, more.1)

  at-window : (first : List Shard) (n : ℕ) → Windows first n
  at-window first zero = λ t s h root times few. (stays b opening q start first s h, past s t times (omega arith))
  at-window first (suc n) = window-more first n (at-window first n)

  -- a query that is settled
  settles-query : (shards : List Shard) → IsFresh b opening shards → IsOpen b.circuit q start (entries_in shards) → Each (IsNeededBy b q) (fills_of start q.number) → SettlesQuery b opening q start shards (settle_query b start q shards)
  settles-query shards fresh open_now needed =
      let c = b.circuit in
      let s : Standing = record { shards = shards; refused = false } in
      let h = begins-query b opening q start shards fresh open_now in
      let fills = fills_of start q.number in
      let mid = settle_fills b q s fills in
      let one = at-fills shards s h fills needed in
      let end = settle_window b q (q.to - q.from) q.from mid in
      let two = at-window shards (q.to - q.from) q.from mid one.0.stands (λ l. First l) (λ e u low high. absurd (omega arith)) (omega arith) in
      ends-query b lawful opening q known start shards end two.0.stands (λ e p x k.
      All-weaker (IsCovered c (entries_in mid.shards)) (IsCovered c (entries_in end.shards)) two.0.kept (children c p.signal p.time)
      (each-contains (IsVisited c (entries_in mid.shards)) fills p (one.1 (two.0.live e)) (fills-has start q.number p x k))) q.to two.1 (omega arith)

-- all queries of the batch, one after another
module _ (b : Batch) (lawful : IsLawful b) (site : b.site ≡ None) (opening : ℕ → List SignalCell) (start : List Entry) (needs : (q : Query) → Contains b.queries q → (p : Point) (x : Cell) → Contains start (Filled q.number p x) → IsNeededBy b q p) where
  record SettlesAll (qs : List Query) (shards : List Shard) (t : Settled) : Type 0 where
    fresh : IsFresh b opening t.shards
    added : List Entry
    journals : AreAdded (journals_of shards) added (journals_of t.shards)
    others : (r : ℕ) → Each (λ q. q.number ≢ r) qs → Each (IsForOther r) added
    settled : AreAllSettled b.circuit start (entries_in t.shards) qs t.refused

  settles-all : (qs : List Query) → ((q : Query) → Contains qs q → Contains b.queries q) → AllPairs (λ q r. q.number ≢ r.number) qs → (shards : List Shard) → IsFresh b opening shards → Each (λ q. IsOpen b.circuit q start (entries_in shards)) qs → SettlesAll qs shards (settle_all b start qs shards)
  settles-all [] known apart shards fresh opens = record { fresh = fresh; added = []; journals = added-none (journals_of shards); others = λ r h. tt; settled = tt }
  settles-all (q ∷ qs) known apart shards fresh opens =
      let c = b.circuit in
      let here : Contains b.queries q = known q (0, omega arith, refl) in
      let one = settles-query b lawful site opening q here start shards fresh opens.0 (fills-each (IsNeededBy b q) q.number start (needs q here)) in
      let mid = settle_query b start q shards in
      let first : Each (λ r. q.number ≢ r.number) qs = recursion_from_All (λ (r : Query). q.number ≢ r.number) qs (λ k d l. apart 0 (suc k) d (omega arith) (omega arith)) in
      let apart_rest : AllPairs (λ (q r : Query). q.number ≢ r.number) qs = λ i j d l m. apart (suc i) (suc j) d (omega arith) (omega arith) in
      let others = λ (r : ℕ) (ne : q.number ≢ r). let k : Each (IsForOther r) one.added = each-imply (IsFor q.number) (IsForOther r) (for-other r q.number ne) one.added one.own in k in
      let opens_rest : Each (λ r. IsOpen c r start (entries_in mid.shards)) qs = open-rest qs first opens.1 one.added one.journals.together others in
      let more = settles-all qs (λ r k. known r (suc k.0, (let l = k.1 in omega arith), k.2)) apart_rest mid.shards one.fresh opens_rest in
      let end = settle_all b start qs mid.shards in
      record {
        fresh = more.fresh;
        added = one.added ++ more.added;
        journals = added-more (journals_of shards) one.added (journals_of mid.shards) more.added (journals_of end.shards) one.journals more.journals;
        others = λ r h. each-append (IsForOther r) one.added more.added (others r h.0) (more.others r h.1);
        settled = (
          settled-kept c q start (entries_in mid.shards) more.added (entries_in end.shards) more.journals.together
              (more.others q.number (each-imply (λ (r : Query). q.number ≢ r.number) (λ (r : Query). r.number ≢ q.number) (λ r ne e. ne (sym e)) qs first)) mid.refused one.settled,
          more.settled,
        );
      }
    where
      open-rest : (rs : List Query) → Each (λ r. q.number ≢ r.number) rs → Each (λ r. IsOpen b.circuit r start (entries_in shards)) rs → (added : List Entry) → {new : List Entry} → GrowsBy (entries_in shards) added new
          → ((r : ℕ) → q.number ≢ r → Each (IsForOther r) added) → Each (λ r. IsOpen b.circuit r start new) rs
      open-rest [] ne opens added {new} g others = tt
      open-rest (r ∷ rs) ne opens added {new} g others =
          (open-kept b.circuit r start (entries_in shards) added new g (others r.number ne.0) opens.0, open-rest rs ne.1 opens.1 added g others)

-- what a batch's entries say was filled is needed
module _ (b : Batch) (lawful : IsLawful b) (opening : ℕ → List SignalCell) where
  filled-needed : (shards : List Shard) (j : ℕ) → ((i : ℕ) → i < length shards → IsShard b (j + i) (opening (j + i)) (get_or shards i no_shard)) → (n : ℕ) (p : Point) (x : Cell) → Contains (entries_in shards) (Filled n p x) → Needed b n p
  filled-needed [] j f n p x h = absurd (contains-none (Filled n p x) [] refl h)
  filled-needed (y ∷ ys) j f n p x h = elim (Contains-append_cases y.journal (entries_in ys) (Filled n p x) h) [
    | inl k ↦ let here : IsShard b (j + 0) (opening (j + 0)) y = f 0 (omega arith) in filled_needed b (j + 0) y.journal (states.fresh (opening (j + 0))) tt here.legal n p x k
    | inr k ↦ filled-needed ys (j + 1) (λ i low. subst (λ m. IsShard b m (opening m) (get_or ys i no_shard)) (omega arith) (f (suc i) (omega arith))) n p x k
  ]

  pub needed-by : (shards : List Shard) → IsFresh b opening shards → (q : Query) → Contains b.queries q → (p : Point) (x : Cell) → Contains (entries_in shards) (Filled q.number p x) → IsNeededBy b q p
  needed-by shards fresh q known p x h =
      let o = filled-needed shards 0 (λ i low. subst (λ n. IsShard b n (opening n) (get_or shards i no_shard)) (omega arith) (fresh.right i (let c = fresh.count in omega arith))) q.number p x h in
      subst (λ r. IsNeededBy b r p) (own-query b lawful q o.0 known o.1 o.2) o.3

  pub settles : b.site ≡ None → (shards : List Shard) → IsFresh b opening shards → AreSettled b opening shards (settle b shards).shards (settle b shards).refused
  settles site shards fresh =
      let start = entries_in shards in
      let s = settles-all b lawful site opening start (needed-by shards fresh) b.queries (λ q k. k) lawful.numbers shards fresh (opens b.queries) in
      record { fresh = s.fresh; added = s.added; journals = s.journals; queries = s.settled }
    where
      opens : (qs : List Query) → Each (λ q. IsOpen b.circuit q (entries_in shards) (entries_in shards)) qs
      opens [] = tt
      opens (q ∷ qs) = (record { added = []; grows = grows-none (entries_in shards); fed = λ p x h. absurd (contains-none (Filled q.number p x) [] refl h); refusals = refl }, opens qs)
