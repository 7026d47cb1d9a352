-- From one query to the next, in both phases.
use Rattle.std.proofs.Common.{◌≡◌, ◌≢◌, ℕ, suc, ◌+◌, ◌<◌, ◌≤◌, Bool, true, false, List, [], ◌∷◌, ◌++◌, length, get_or, take, drop, All, AllPairs, Contains, refl, sym, subst, ap, ◌∙◌, arith, drop-cons}
use Rattle.std.proofs.lemmas.List.{take_more, take-append-drop, map-append, get_or_default, take_all}
use Rattle.std.proofs.Math.ListN.{drop_of_length-le}
use Rattle.std.proofs.lemmas.List.Elements.{All-weaker, All-contains, All-from_recursion, recursion_from_All, Contains-append_right}
use Rattle.valid_intervals.specs.declared.Point.{Point}
use Rattle.valid_intervals.specs.declared.SignalCell.{SignalCell}
use Rattle.circuit_meaning.specs.Circuit.{Circuit}
use Rattle.circuit_meaning.specs.Need.{children}
use Rattle.journal_meaning.specs.declared.Entry.{Entry}
use Rattle.journal_meaning.specs.declared.batch.Query.{Query}
use Rattle.journal_meaning.specs.Answers.{IsCovered, fill_count}
use Rattle.journal_meaning.specs.Batches.{Batch, IsNeededBy}
use Rattle.journal_meaning.specs.Grown.{IsFor, GrowsBy}
use Rattle.journal_meaning.specs.Listed.{IsForOther}
use Rattle.journal_meaning.proofs.Callers.{Each, each-imply, for-other, filled-more, others-filled, added-none, added-more, grows-none}
use Rattle.journal_meaning.specs.Lawful.{IsLawful}
use Rattle.plan_machine.specs.Shards.{Shard}
use Rattle.plan_machine.specs.Sound.{IsFresh}
use Rattle.plan_machine.specs.Standings.{IsStanding, StandsAs, Advances, IsVisited, IsOpen, AreVisited, IsCoveredTo, SettlesQuery}
use Rattle.plan_machine.specs.Settle.{AreAllSettled, journals_of, entries_in, charge_of}
use Rattle.plan_machine.specs.Settling.{fills_of}
use Rattle.plan_machine.proofs.Callers.{contains-none, all-push, begins-query, stays, ends-query, open-kept, visited-kept, settled-kept, opens-kept, all-kept, fills-has, fills-each, needed-by}
use Rattle.circuit_meaning.specs.declared.Run.{Run}
use Rattle.reply_lines.specs.declared.reply.Outcome.{Outcome}
use Rattle.reply_lines.specs.Replies.{is_budget}
use Rattle.memo_shards.specs.KeptShards.{KeptShard}
use Rattle.plan_core.specs.InTurn.{AllChildrenCovered}
use Rattle.plan_core.specs.Parts.{shards_in}
use Rattle.query_answers.specs.declared.windows.answers.Fed.{Fed}
use Rattle.plan_core.specs.asked.Memos.{entries_of}
use Rattle.plan_core.specs.asked.Standings.{live, standing}
use Rattle.query_answers.specs.windows.inner.Phases.{IsFed, IsFedWith, AreAllFed, FeedsQuery, IsFeeding, IsWalking}
use Rattle.query_answers.specs.windows.Phases.{IsOutcomeFor, AreOutcomes, refused_of}
use Rattle.query_answers.proofs.Filled.{fills-count}
use Rattle.query_answers.proofs.Heard.{fills-heard}

-- two queries have numbers of their own
abbrev pub Apart : Query → Query → Type 0
Apart q r = q.number ≢ r.number

before-apart : (xs : List Query) (x : Query) (ys : List Query) → AllPairs Apart (xs ++ x ∷ ys) → Each (λ r. x.number ≢ r.number) xs
before-apart [] x ys h = tt
before-apart (z ∷ xs) x ys h =
    let first : All (Apart z) (xs ++ x ∷ ys) = λ k d l. h 0 (suc k) d (omega arith) (omega arith) in
    let known : Contains (xs ++ x ∷ ys) x = Contains-append_right xs (x ∷ ys) x (0, omega arith, refl) in
    ((λ e. All-contains (Apart z) (xs ++ x ∷ ys) x first known (sym e)), before-apart xs x ys (λ i j d l m. h (suc i) (suc j) d (omega arith) (omega arith)))

after-apart : (xs : List Query) (x : Query) (ys : List Query) → AllPairs Apart (xs ++ x ∷ ys) → Each (λ r. x.number ≢ r.number) ys
after-apart [] x ys h = recursion_from_All (Apart x) ys (λ k d l. h 0 (suc k) d (omega arith) (omega arith))
after-apart (z ∷ xs) x ys h = after-apart xs x ys (λ i j d l m. h (suc i) (suc j) d (omega arith) (omega arith))

-- as settlement begins, each query is open
pub all-open : (c : Circuit) (es : List Entry) (qs : List Query) → Each (λ q. IsOpen c q es es) qs
all-open c es [] = tt
all-open c es (q ∷ qs) = (record { added = []; grows = grows-none es; fed = λ p x h. absurd (contains-none _ [] refl h); refusals = refl }, all-open c es qs)

all-filled : (es : List Entry) (qs : List Query) → Each (λ q. fill_count es q.number ≡ fill_count es q.number) qs
all-filled es [] = tt
all-filled es (q ∷ qs) = (refl, all-filled es qs)

-- what holds of a query stays so while other queries are served
module _ (c : Circuit) (start now more new : List Entry) (g : GrowsBy now more new) where
  fed-kept : (q : Query) → Each (IsForOther q.number) more → (r : Bool) → IsFed c q start now r → IsFed c q start new r
  fed-kept q others false k = (open-kept c q start now more new g others k.0, λ p x h. visited-kept c q start now more new g others p (k.1 p x h))
  fed-kept q others true k = settled-kept c q start now more new g others true k

  fed-with-kept : (q : Query) → Each (IsForOther q.number) more → (f : Fed) → IsFedWith c q start now f → IsFedWith c q start new f
  fed-with-kept q others f k = record {
    fed = fed-kept q others f.refused k.fed;
    counts =
        let a = k.counts in
        let d = filled-more now more new g q.number in
        let e = others-filled q.number more others in
        omega arith;
  }

  module _ (q : Query) (own : Each (IsFor q.number) more) where
    others : (r : ℕ) → q.number ≢ r → Each (IsForOther r) more
    others r ne = each-imply (IsFor q.number) (IsForOther r) (for-other r q.number ne) more own

    -- what was filled for others is what had been
    pub fills-kept : (qs : List Query) → Each (λ r. q.number ≢ r.number) qs → Each (λ r. fill_count now r.number ≡ fill_count start r.number) qs → Each (λ r. fill_count new r.number ≡ fill_count start r.number) qs
    fills-kept [] ne h = tt
    fills-kept (r ∷ qs) ne h = (
      let a = h.0 in
          let d = filled-more now more new g r.number in
          let e = others-filled r.number more (others r.number ne.0) in
          omega arith,
      fills-kept qs ne.1 h.1,
    )

    -- queries that are fed stay so
    pub all-fed-kept : (qs : List Query) (fs : List Fed) → Each (λ r. q.number ≢ r.number) qs → AreAllFed c start now qs fs → AreAllFed c start new qs fs
    all-fed-kept [] [] ne h = tt
    all-fed-kept [] (f ∷ fs) ne h = absurd h
    all-fed-kept (r ∷ qs) [] ne h = absurd h
    all-fed-kept (r ∷ qs) (f ∷ fs) ne h = (fed-with-kept r (others r.number ne.0) f h.0, all-fed-kept qs fs ne.1 h.1)

fed-push : (c : Circuit) (start now : List Entry) (done : List Query) (fs : List Fed) (q : Query) (f : Fed) → AreAllFed c start now done fs → IsFedWith c q start now f → AreAllFed c start now (done ++ q ∷ []) (fs ++ f ∷ [])
fed-push c start now [] [] q f h k = (k, tt)
fed-push c start now [] (g ∷ fs) q f h k = absurd h
fed-push c start now (x ∷ done) [] q f h k = absurd h
fed-push c start now (x ∷ done) (g ∷ fs) q f h k = (h.0, fed-push c start now done fs q f h.1 k)

outcomes-push : (c : Circuit) (done : List Query) (rs : List (Outcome (List Run))) (q : Query) (r : Outcome (List Run)) → AreOutcomes c done rs → IsOutcomeFor c q r → AreOutcomes c (done ++ q ∷ []) (rs ++ r ∷ [])
outcomes-push c [] [] q r h k = (k, tt)
outcomes-push c [] (f ∷ fs) q r h k = absurd h
outcomes-push c (x ∷ done) [] q r h k = absurd h
outcomes-push c (x ∷ done) (f ∷ fs) q r h k = (h.0, outcomes-push c done fs q r h.1 k)

module _ (b : Batch) (start : List Entry) (first now : List Shard) (q : Query) where
  -- one query more is fed
  pub feeding-step : (done : List Query) (fs : List Fed) (left : List Query) → AllPairs Apart (done ++ q ∷ left) → IsFeeding b start first now done fs (q ∷ left) → (new : List Shard) (f : Fed) → FeedsQuery b q start now new f
      → IsFeeding b start first new (done ++ q ∷ []) (fs ++ f ∷ []) left
  feeding-step done fs left apart h new f k = record {
    added = h.added ++ k.added;
    journals = added-more (journals_of first) h.added (journals_of now) k.added (journals_of new) h.journals k.journals;
    all = fed-push b.circuit start (entries_in new) done fs q f (all-fed-kept b.circuit start (entries_in now) k.added (entries_in new) k.journals.together q k.own done fs (before-apart done q left apart) h.all) k.fed;
    opens = opens-kept b (λ n. []) start q k.added k.own (entries_in now) (entries_in new) k.journals.together left (after-apart done q left apart) h.opens.1;
    fills = fills-kept b.circuit start (entries_in now) k.added (entries_in new) k.journals.together q k.own left (after-apart done q left apart) h.fills.1;
  }

  -- one query more is answered
  pub walking-step : (opening : ℕ → List SignalCell) (done : List Query) (rs : List (Outcome (List Run))) (left : List Query) (f : Fed) (fs : List Fed) → AllPairs Apart (done ++ q ∷ left) → IsWalking b start first now done rs (q ∷ left) (f ∷ fs)
      → (new : List Shard) (r : Outcome (List Run)) → SettlesQuery b opening q start now (record { shards = new; refused = is_budget r }) → IsOutcomeFor b.circuit q r → IsWalking b start first new (done ++ q ∷ []) (rs ++ r ∷ []) left fs
  walking-step opening done rs left f fs apart h new r k outcome = record {
    added = h.added ++ k.added;
    journals = added-more (journals_of first) h.added (journals_of now) k.added (journals_of new) h.journals k.journals;
    settled = subst (AreAllSettled b.circuit start (entries_in new) (done ++ q ∷ [])) (sym (map-append is_budget rs (r ∷ [])))
        (all-push b.circuit start (entries_in new) done (refused_of rs) q (is_budget r) (all-kept b opening start q k.added k.own (entries_in now) (entries_in new) k.journals.together done (refused_of rs) (before-apart done q left apart) h.settled) k.settled);
    answers = outcomes-push b.circuit done rs q r h.answers outcome;
    all = all-fed-kept b.circuit start (entries_in now) k.added (entries_in new) k.journals.together q k.own left fs (after-apart done q left apart) h.all.1;
  }

-- what a query filled is needed
module _ (b : Batch) (lawful : IsLawful b) (opening : ℕ → List SignalCell) (q : Query) (known : Contains b.queries q) where
  -- what it filled is needed
  pub fills-wanted : (shards : List Shard) → IsFresh b opening shards → All (IsNeededBy b q) (fills_of (entries_in shards) q.number)
  fills-wanted shards fresh = All-from_recursion (IsNeededBy b q) (fills_of (entries_in shards) q.number) (fills-each (IsNeededBy b q) q.number (entries_in shards) (needed-by b lawful opening shards fresh q known))

  -- one query in the first phase
  pub feeds : (start : List Entry) (old new : List KeptShard) (f : Fed) → Advances b opening q start (shards_in old) (live old) (standing new f.refused)
      → (f.refused ≡ false → All (IsVisited b.circuit (entries_of new)) (fills_of start q.number)) → f.charge ≡ charge_of (entries_of new) q → FeedsQuery b q start (shards_in old) (shards_in new) f
  feeds start old new f a visited counts = record {
    added = a.stands.added;
    journals = a.stands.journals;
    own = a.stands.own;
    fed = record { fed = by f.refused a.stands.state visited; counts = counts };
  }
    where
      by : (r : Bool) → StandsAs b.circuit q start (entries_of new) r → (r ≡ false → All (IsVisited b.circuit (entries_of new)) (fills_of start q.number)) → IsFed b.circuit q start (entries_of new) r
      by false s v = (s, λ p x h. All-contains (IsVisited b.circuit (entries_of new)) (fills_of start q.number) p (v refl) (fills-has start q.number p x h))
      by true s v = s

  -- the same where the children of all that was filled are covered, and nothing is asked for
  pub feeds-heard : (ms : List KeptShard) (f : Fed) → IsFresh b opening (shards_in ms) → AllChildrenCovered b.circuit (entries_of ms) → f.refused ≡ false → f.charge ≡ charge_of (entries_of ms) q → IsOpen b.circuit q (entries_of ms) (entries_of ms)
      → FeedsQuery b q (entries_of ms) (shards_in ms) (shards_in ms) f
  feeds-heard ms f fresh heard unrefused counts o =
      let s = begins-query b opening q (entries_of ms) (shards_in ms) fresh o in
      feeds (entries_of ms) ms ms f (subst (λ r. Advances b opening q (entries_of ms) (shards_in ms) (live ms) (standing ms r)) (sym unrefused) (stays b opening q (entries_of ms) (shards_in ms) (live ms) s))
      (λ e. fills-heard b.circuit (entries_of ms) [] (entries_of ms) (grows-none (entries_of ms)) heard q.number) counts

  -- one query in the second phase
  pub walks-refused : (start : List Entry) (old : List KeptShard) (f : Fed) → IsFresh b opening (shards_in old) → f.refused ≡ true → IsFedWith b.circuit q start (entries_of old) f → SettlesQuery b opening q start (shards_in old) (standing old true)
  walks-refused start old f fresh e k = record {
    fresh = fresh;
    added = [];
    journals = added-none (journals_of (shards_in old));
    own = tt;
    settled = subst (IsFed b.circuit q start (entries_of old)) e k.fed;
  }

  module _ (start : List Entry) (old : List KeptShard) (f : Fed) (fresh : IsFresh b opening (shards_in old)) (e : f.refused ≡ false) (k : IsFedWith b.circuit q start (entries_of old) f) where
    is-fed : IsOpen b.circuit q start (entries_of old) × AreVisited b.circuit q start (entries_of old)
    is-fed = subst (IsFed b.circuit q start (entries_of old)) e k.fed

    -- it is open as its window is walked
    pub walk-begins : IsStanding b opening q start (shards_in old) (live old)
    walk-begins = begins-query b opening q start (shards_in old) fresh is-fed.0

    -- its window is walked to the end, or it was refused
    pub walks : (new : List KeptShard) (r : Bool) → Advances b opening q start (shards_in old) (live old) (standing new r) → IsCoveredTo b.circuit q (standing new r) q.to → SettlesQuery b opening q start (shards_in old) (standing new r)
    walks new r a covered = ends-query b lawful opening q known start (shards_in old) (standing new r) a.stands
        (λ z p x h. All-weaker (IsCovered b.circuit (entries_of old)) (IsCovered b.circuit (entries_of new)) a.kept (children b.circuit p.signal p.time) (is-fed.1 p x h)) q.to covered (omega arith)

-- over a list of queries, by places
module _ (b : Batch) (lawful : IsLawful b) (start : List Entry) (first : List Shard) (qs : List Query) (same : qs ≡ b.queries) where
  -- the first of them are fed
  abbrev pub FedTo : List Shard → ℕ → List Fed → Type 0
  FedTo now i fs = IsFeeding b start first now (take i qs) fs (drop i qs)

  -- the first of them are answered
  abbrev pub WalkedTo : List Shard → ℕ → List (Outcome (List Run)) → List Fed → Type 0
  WalkedTo now i rs all = IsWalking b start first now (take i qs) rs (drop i qs) (drop i all)

  module _ (i : ℕ) (low : i < length qs) (d : Query) where
    rest : drop i qs ≡ get_or qs i d ∷ drop (suc i) qs
    rest = drop-cons qs i d low

    apart : AllPairs Apart (take i qs ++ get_or qs i d ∷ drop (suc i) qs)
    apart =
        let whole : take i qs ++ get_or qs i d ∷ drop (suc i) qs ≡ b.queries = ap (λ l. take i qs ++ l) (sym rest) ∙ take-append-drop i qs ∙ same in
        subst (AllPairs Apart) (sym whole) lawful.numbers

    -- the next one is open
    pub fed-open : (now : List Shard) (fs : List Fed) → FedTo now i fs → IsOpen b.circuit (get_or qs i d) start (entries_in now)
    fed-open now fs h = (subst (λ l. Each (λ q. IsOpen b.circuit q start (entries_in now)) l) rest h.opens).0

    pub fed-known : Contains b.queries (get_or qs i d)
    fed-known = subst (λ l. Contains l (get_or qs i d)) same (i, low, get_or_default qs i (get_or qs i d) d low)

    module _ (points : List Point) (is : points ≡ fills_of start (get_or qs i d).number) where
      -- what was gathered for it is needed
      pub fed-needed : (opening : ℕ → List SignalCell) → IsFresh b opening first → start ≡ entries_in first → All (IsNeededBy b (get_or qs i d)) points
      fed-needed opening fresh begun = subst (λ l. All (IsNeededBy b (get_or qs i d)) l) (sym (is ∙ ap (λ es. fills_of es (get_or qs i d).number) begun)) (fills-wanted b lawful opening (get_or qs i d) fed-known first fresh)

      -- and is all that was filled for it: it is as much as it was when settlement began
      pub fed-count : (now : List Shard) (fs : List Fed) → FedTo now i fs → length points ≡ fill_count (entries_in now) (get_or qs i d).number
      fed-count now fs h =
          ap length is ∙ fills-count start (get_or qs i d).number ∙ sym (subst (λ l. Each (λ (q : Query). fill_count (entries_in now) q.number ≡ fill_count start q.number) l) rest h.fills).0

    -- it is fed
    pub fed-next : (now new : List Shard) (fs : List Fed) (f : Fed) → FedTo now i fs → FeedsQuery b (get_or qs i d) start now new f → FedTo new (i + 1) (fs ++ f ∷ [])
    fed-next now new fs f h k =
        let one : i + 1 ≡ suc i = omega arith in
        let was : IsFeeding b start first now (take i qs) fs (get_or qs i d ∷ drop (suc i) qs) = subst (λ l. IsFeeding b start first now (take i qs) fs l) rest h in
        let is = feeding-step b start first now (get_or qs i d) (take i qs) fs (drop (suc i) qs) apart was new f k in
        subst (λ l. IsFeeding b start first new l (fs ++ f ∷ []) (drop (i + 1) qs)) (sym (take_more qs i d low))
        (subst (λ n. IsFeeding b start first new (take i qs ++ get_or qs i d ∷ []) (fs ++ f ∷ []) (drop n qs)) (sym one) is)

    module _ (all : List Fed) (high : i < length all) (e : Fed) where
      walk-rest : (now : List Shard) (rs : List (Outcome (List Run))) → WalkedTo now i rs all → IsWalking b start first now (take i qs) rs (get_or qs i d ∷ drop (suc i) qs) (get_or all i e ∷ drop (suc i) all)
      walk-rest now rs h = subst (λ l. IsWalking b start first now (take i qs) rs l (get_or all i e ∷ drop (suc i) all)) rest (subst (λ l. IsWalking b start first now (take i qs) rs (drop i qs) l) (drop-cons all i e high) h)

      -- the next one is fed
      pub walk-fed : (now : List Shard) (rs : List (Outcome (List Run))) → WalkedTo now i rs all → IsFedWith b.circuit (get_or qs i d) start (entries_in now) (get_or all i e)
      walk-fed now rs h = (walk-rest now rs h).all.0

      -- it is answered
      pub walk-next : (opening : ℕ → List SignalCell) (now new : List Shard) (rs : List (Outcome (List Run))) (r : Outcome (List Run)) → WalkedTo now i rs all → SettlesQuery b opening (get_or qs i d) start now (record { shards = new; refused = is_budget r }) → IsOutcomeFor b.circuit (get_or qs i d) r
          → WalkedTo new (i + 1) (rs ++ r ∷ []) all
      walk-next opening now new rs r h k outcome =
          let one : i + 1 ≡ suc i = omega arith in
          let is = walking-step b start first now (get_or qs i d) opening (take i qs) rs (drop (suc i) qs) (get_or all i e) (drop (suc i) all) apart (walk-rest now rs h) new r k outcome in
          subst (λ l. IsWalking b start first new l (rs ++ r ∷ []) (drop (i + 1) qs) (drop (i + 1) all)) (sym (take_more qs i d low))
          (subst (λ n. IsWalking b start first new (take i qs ++ get_or qs i d ∷ []) (rs ++ r ∷ []) (drop n qs) (drop n all)) (sym one) is)

  -- all are fed
  pub fed-last : (now : List Shard) (i : ℕ) (fs : List Fed) → length qs ≤ i → FedTo now i fs → IsFeeding b start first now b.queries fs []
  fed-last now i fs l h = subst (λ z. IsFeeding b start first now z fs []) (take_all i qs l ∙ same) (subst (λ z. IsFeeding b start first now (take i qs) fs z) (drop_of_length-le qs l) h)

  -- all are answered
  pub walk-last : (now : List Shard) (i : ℕ) (rs : List (Outcome (List Run))) (all : List Fed) → length qs ≤ i → length all ≤ i → WalkedTo now i rs all → IsWalking b start first now b.queries rs [] []
  walk-last now i rs all l m h = subst (λ z. IsWalking b start first now z rs [] []) (take_all i qs l ∙ same)
      (subst (λ z. IsWalking b start first now (take i qs) rs z []) (drop_of_length-le qs l) (subst (λ z. IsWalking b start first now (take i qs) rs (drop i qs) z) (drop_of_length-le all m) h))

-- none is fed yet
pub fed-first : (b : Batch) (shards : List Shard) (qs : List Query) → IsFeeding b (entries_in shards) shards shards [] [] qs
fed-first b shards qs = record { added = []; journals = added-none (journals_of shards); all = tt; opens = all-open b.circuit (entries_in shards) qs; fills = all-filled (entries_in shards) qs }

-- the first phase is done, and the second begins
pub fed-walks : (b : Batch) (start : List Entry) (first now : List Shard) (fs : List Fed) → IsFeeding b start first now b.queries fs [] → IsWalking b start first now [] [] b.queries fs
fed-walks b start first now fs h = record { added = h.added; journals = h.journals; settled = tt; answers = tt; all = h.all }

-- there is one charge for each query
pub all-fed-count : (c : Circuit) (start now : List Entry) (qs : List Query) (fs : List Fed) → AreAllFed c start now qs fs → length fs ≡ length qs
all-fed-count c start now [] [] h = refl
all-fed-count c start now [] (f ∷ fs) h = absurd h
all-fed-count c start now (q ∷ qs) [] h = absurd h
all-fed-count c start now (q ∷ qs) (f ∷ fs) h = ap suc (all-fed-count c start now qs fs h.1)
