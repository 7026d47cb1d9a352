-- Right outcomes of the queries are right replies at the places of the items.
use Rattle.std.proofs.Common.{◌≡◌, List, [], ◌∷◌, ◌++◌, length, map, flat_map, Option, Some, None, refl, sym, ap, subst, ◌∙◌, arith}
use Rattle.std.specs.List.{AllZip}
use Rattle.circuit_meaning.specs.declared.Run.{Run}
use Rattle.circuit_meaning.specs.Circuit.{Circuit}
use Rattle.journal_meaning.specs.declared.Entry.{Entry}
use Rattle.journal_meaning.specs.declared.batch.Query.{Query}
use Rattle.journal_meaning.specs.Answers.{IsAnswer}
use Rattle.plan_machine.specs.Settle.{answer_of, AreAnswered}
use Rattle.query_lines.specs.declared.unit.Item.{Item}
use Rattle.reply_lines.specs.declared.reply.Outcome.{Outcome}
use Rattle.reply_lines.specs.declared.reply.Outcome.TheVariants as outcomes
use Rattle.reply_lines.specs.declared.reply.Reply.TheVariants.{Window}
use Rattle.reply_lines.specs.Replies.{is_budget}
use Rattle.design.specs.Joined.{Joined}
use Rattle.query_answers.specs.windows.Phases.{IsOutcomeFor, AreOutcomes, refused_of}
use Rattle.session_meaning.specs.declared.Verdict.{Verdict}
use Rattle.session_meaning.specs.declared.Verdict.TheVariants.{Ask, Unknown, Past}
use Rattle.session_meaning.specs.Verdicts.{verdict_of, item_queries, queries_of}
use Rattle.session_meaning.specs.Replies.{IsReply}
use Rattle.unit_answers.specs.inner.Placed.{placed_replies}

zip-map : {A B C : Type 0} (R : B → C → Type 0) (f : A → B) (xs : List A) (ys : List C) → AllZip R (map f xs) ys → AllZip (λ x y. R (f x) y) xs ys
zip-map R f [] [] h = tt
zip-map R f [] (y ∷ ys) h = absurd h
zip-map R f (x ∷ xs) [] h = absurd h
zip-map R f (x ∷ xs) (y ∷ ys) h = (h.0, zip-map R f xs ys h.1)

-- the queries of items are those of their verdicts
queries-are : (d : Joined) (items : List Item) → flat_map item_queries (map (verdict_of d) items) ≡ queries_of d items
queries-are d [] = refl
queries-are d (item ∷ items) = ap (λ l. item_queries (verdict_of d item) ++ l) (queries-are d items)

-- also where they are gathered from the verdicts of code
pub asked-by : (d : Joined) (items : List Item) (vs seen : List (Option Verdict)) (qs queries : List Query) → vs ≡ map (verdict_of d) items → seen ≡ vs → qs ≡ flat_map item_queries seen → queries ≡ qs → queries ≡ queries_of d items
asked-by d items vs seen qs queries all same gathered is = is ∙ gathered ∙ ap (flat_map item_queries) (same ∙ all) ∙ queries-are d items

-- there is an outcome for each query
outcomes-many : (c : Circuit) (qs : List Query) (os : List (Outcome (List Run))) → AreOutcomes c qs os → length os ≡ length qs
outcomes-many c [] [] h = refl
outcomes-many c [] (o ∷ os) h = absurd h
outcomes-many c (q ∷ qs) [] h = absurd h
outcomes-many c (q ∷ qs) (o ∷ os) h = omega (arith, outcomes-many c qs os h.1)

-- also for those that the verdicts ask
pub outcomes-asked : (c : Circuit) (vs seen again : List (Option Verdict)) (qs queries : List Query) (os : List (Outcome (List Run))) → seen ≡ vs → qs ≡ flat_map item_queries seen → queries ≡ qs → again ≡ vs → AreOutcomes c queries os
    → length os ≡ length (flat_map item_queries again)
outcomes-asked c vs seen again qs queries os same gathered is also h =
    let asks : queries ≡ flat_map item_queries again = is ∙ gathered ∙ ap (flat_map item_queries) (same ∙ sym also) in
    outcomes-many c queries os h ∙ ap length asks

module _ (c : Circuit) (es : List Entry) where
  abbrev IsRightTo : Query → Outcome (List Run) → Type 0
  IsRightTo q o = IsReply c es (Some (Ask q)) (Window o)

  outcome-right : (q : Query) (o : Outcome (List Run)) → IsOutcomeFor c q o → IsAnswer c es q (answer_of c q (is_budget o)) → IsRightTo q o
  outcome-right q (outcomes.Answer runs) h k = (h, k.1)
  outcome-right q (outcomes.Budget n) h k = (h, k)
  outcome-right q outcomes.Unknown h k = absurd h
  outcome-right q outcomes.Past h k = absurd h

  all-right : (qs : List Query) (os : List (Outcome (List Run))) → AreOutcomes c qs os → AreAnswered c es qs (refused_of os) → AllZip IsRightTo qs os
  all-right [] [] h k = tt
  all-right [] (o ∷ os) h k = absurd h
  all-right (q ∷ qs) [] h k = absurd h
  all-right (q ∷ qs) (o ∷ os) h k = (outcome-right q o h.0 k.0, all-right qs os h.1 k.1)

  placed-right : (vs : List (Option Verdict)) (os : List (Outcome (List Run))) → AllZip IsRightTo (flat_map item_queries vs) os → AllZip (IsReply c es) vs (placed_replies vs os)
  placed-right [] os h = tt
  placed-right (Some (Ask q) ∷ vs) [] h = absurd h
  placed-right (Some (Ask q) ∷ vs) (o ∷ os) h = (h.0, placed-right vs os h.1)
  placed-right (Some Unknown ∷ vs) os h = (tt, placed-right vs os h)
  placed-right (Some Past ∷ vs) os h = (tt, placed-right vs os h)
  placed-right (None ∷ vs) os h = (tt, placed-right vs os h)

  module _ (d : Joined) (items : List Item) (os : List (Outcome (List Run))) (h : AreOutcomes c (queries_of d items) os) (k : AreAnswered c es (queries_of d items) (refused_of os)) where
    -- each item has a right reply
    pub items-right : AllZip (λ item reply. IsReply c es (verdict_of d item) reply) items (placed_replies (map (verdict_of d) items) os)
    items-right =
        let vs = map (verdict_of d) items in
        let right : AllZip IsRightTo (flat_map item_queries vs) os = subst (λ (qs : List Query). AllZip IsRightTo qs os) (sym (queries-are d items)) (all-right (queries_of d items) os h k) in
        zip-map (IsReply c es) (verdict_of d) items (placed_replies vs os) (placed-right vs os right)
