-- What is asked for one query after another.
use Rattle.std.proofs.Common.{ℕ, ◌+◌, ◌<◌, ◌≤◌, Bool, false, List, [], ◌∷◌, ◌++◌, length, get_or, take, refl, sym, subst}
use Rattle.std.proofs.lemmas.List.{take_more, map-append, take_all}
use Rattle.valid_intervals.specs.declared.SignalCell.{SignalCell}
use Rattle.journal_meaning.specs.declared.batch.Query.{Query}
use Rattle.journal_meaning.specs.Batches.{Batch}
use Rattle.plan_machine.specs.Shards.{Shard}
use Rattle.circuit_meaning.specs.declared.Run.{Run}
use Rattle.reply_lines.specs.declared.reply.Outcome.{Outcome}
use Rattle.reply_lines.specs.Replies.{is_budget}
use Rattle.plan_core.specs.asked.Asked.{AsksOn}
use Rattle.query_answers.specs.declared.windows.answers.Fed.{Fed}
use Rattle.query_answers.specs.windows.Phases.{refused_of}
use Rattle.query_answers.specs.windows.Settlement.{AskInTurn, none_refused}
use Rattle.query_answers.specs.windows.inner.Phases.{refused_in}

module _ (b : Batch) (opening : ℕ → List SignalCell) where
  -- one query more
  turn-push : (done : List Query) (rs ss : List Bool) (old now new : List Shard) (q : Query) (r s : Bool) → AskInTurn b opening done old rs now ss → AsksOn b opening q now r new s → AskInTurn b opening (done ++ q ∷ []) old (rs ++ r ∷ []) new (ss ++ s ∷ [])
  turn-push [] [] [] old now new q r s h k = (new, subst (λ l. AsksOn b opening q l r new s) h k, refl)
  turn-push [] [] (z ∷ ss) old now new q r s h k = absurd h
  turn-push [] (y ∷ rs) [] old now new q r s h k = absurd h
  turn-push [] (y ∷ rs) (z ∷ ss) old now new q r s h k = absurd h
  turn-push (x ∷ done) [] [] old now new q r s h k = absurd h
  turn-push (x ∷ done) [] (z ∷ ss) old now new q r s h k = absurd h
  turn-push (x ∷ done) (y ∷ rs) [] old now new q r s h k = absurd h
  turn-push (x ∷ done) (y ∷ rs) (z ∷ ss) old now new q r s h k = (h.0, h.1, turn-push done rs ss h.0 now new q r s h.2 k)

  module _ (qs : List Query) (old : List Shard) where
    -- the fills of the first queries are visited
    abbrev pub VisitsTo : List Shard → ℕ → List Fed → Type 0
    VisitsTo now i fs = AskInTurn b opening (take i qs) old (none_refused (take i qs)) now (refused_in fs)

    pub visit-next : (now new : List Shard) (i : ℕ) (d : Query) (fs : List Fed) (f : Fed) → i < length qs → VisitsTo now i fs → AsksOn b opening (get_or qs i d) now false new f.refused → VisitsTo new (i + 1) (fs ++ f ∷ [])
    visit-next now new i d fs f low h k =
        let q = get_or qs i d in
        let first = take i qs in
        let one = turn-push first (none_refused first) (refused_in fs) old now new q false f.refused h k in
        subst (λ l. AskInTurn b opening l old (none_refused l) new (refused_in (fs ++ f ∷ []))) (sym (take_more qs i d low))
        (subst (λ l. AskInTurn b opening (first ++ q ∷ []) old l new (refused_in (fs ++ f ∷ []))) (sym (map-append (λ (x : Query). false) first (q ∷ [])))
        (subst (λ l. AskInTurn b opening (first ++ q ∷ []) old (none_refused first ++ false ∷ []) new l) (sym (map-append (λ (x : Fed). x.refused) fs (f ∷ []))) one))

    -- those of all queries are
    pub visit-last : (now : List Shard) (i : ℕ) (fs : List Fed) → length qs ≤ i → VisitsTo now i fs → AskInTurn b opening qs old (none_refused qs) now (refused_in fs)
    visit-last now i fs l h = subst (λ z. AskInTurn b opening z old (none_refused z) now (refused_in fs)) (take_all i qs l) h

    module _ (all : List Fed) where
      -- the windows of the first queries are walked
      abbrev pub WalksTo : List Shard → ℕ → List (Outcome (List Run)) → Type 0
      WalksTo now i rs = AskInTurn b opening (take i qs) old (refused_in (take i all)) now (refused_of rs)

      pub turn-next : (now new : List Shard) (i : ℕ) (d : Query) (e : Fed) (rs : List (Outcome (List Run))) (r : Outcome (List Run)) → i < length qs → i < length all → WalksTo now i rs → AsksOn b opening (get_or qs i d) now (get_or all i e).refused new (is_budget r) → WalksTo new (i + 1) (rs ++ r ∷ [])
      turn-next now new i d e rs r low high h k =
          let q = get_or qs i d in
          let f = get_or all i e in
          let first = take i qs in
          let fed = take i all in
          let one = turn-push first (refused_in fed) (refused_of rs) old now new q f.refused (is_budget r) h k in
          subst (λ l. AskInTurn b opening l old (refused_in (take (i + 1) all)) new (refused_of (rs ++ r ∷ []))) (sym (take_more qs i d low))
          (subst (λ l. AskInTurn b opening (first ++ q ∷ []) old (refused_in l) new (refused_of (rs ++ r ∷ []))) (sym (take_more all i e high))
          (subst (λ l. AskInTurn b opening (first ++ q ∷ []) old l new (refused_of (rs ++ r ∷ []))) (sym (map-append (λ (x : Fed). x.refused) fed (f ∷ [])))
          (subst (λ l. AskInTurn b opening (first ++ q ∷ []) old (refused_in fed ++ f.refused ∷ []) new l) (sym (map-append is_budget rs (r ∷ []))) one)))

      -- those of all queries are
      pub turn-last : (now : List Shard) (i : ℕ) (rs : List (Outcome (List Run))) → length qs ≤ i → length all ≤ i → WalksTo now i rs → AskInTurn b opening qs old (refused_in all) now (refused_of rs)
      turn-last now i rs l m h = subst (λ z. AskInTurn b opening qs old (refused_in z) now (refused_of rs)) (take_all i all m) (subst (λ z. AskInTurn b opening z old (refused_in (take i all)) now (refused_of rs)) (take_all i qs l) h)
