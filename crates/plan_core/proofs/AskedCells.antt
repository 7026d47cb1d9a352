-- What asking for one time leaves.
use Rattle.std.proofs.Common.{◌≡◌, ℕ, Bool, false, true≢false, List, [], ◌∷◌, All, is_some, Option, Some, None, refl, sym, subst, arith}
use Rattle.std.proofs.lemmas.List.Elements.{All-from_recursion, recursion_from_All}
use Rattle.valid_intervals.specs.declared.Point.{Point}
use Rattle.valid_intervals.specs.declared.SignalCell.{SignalCell}
use Rattle.journal_meaning.specs.declared.Entry.TheVariants.{Filled}
use Rattle.journal_meaning.specs.Answers.{IsCovered}
use Rattle.journal_meaning.proofs.Callers.{added-none}
use Rattle.journal_meaning.specs.declared.batch.Query.{Query}
use Rattle.journal_meaning.specs.Batches.{Batch}
use Rattle.journal_meaning.specs.Pieces.{Start}
use Rattle.plan_machine.specs.Shards.{Shard}
use Rattle.plan_machine.specs.Alone.{IsOutcome}
use Rattle.plan_machine.specs.Settle.{journals_of, entries_in}
use Rattle.plan_machine.specs.Standings.{AskedAlone}
use Rattle.plan_machine.proofs.Callers.{one-root, contains-none}
use Rattle.memo_shards.specs.KeptShards.{KeptShard}
use Rattle.plan_core.specs.Parts.{shards_in}
use Rattle.plan_core.specs.asked.Memos.{IsChargedMemo, entries_of, asked_at, at_time}
use Rattle.plan_core.specs.asked.Asked.{HasAsked}

module _ (b : Batch) (opening : ℕ → List SignalCell) where
  -- a strand ran alone
  pub ran-alone : (a : Start) (old new : List Shard) (o : Option Point) (r : Bool) → r ≡ is_some o → AskedAlone b opening a old new o → HasAsked b opening a old new r
  ran-alone a old new o r e k = record { fresh = k.fresh; added = k.added; journals = k.journals; own = k.own; children = k.children; refused_at = o; flag = e; outcome = k.outcome }

  -- nothing is asked where the time is covered
  pub known-asked : (ms : List KeptShard) (query : Query) (t charge : ℕ) → IsChargedMemo b opening ms query charge → IsCovered b.circuit (entries_of ms) (at_time query t) → HasAsked b opening (asked_at query t charge) (shards_in ms) (shards_in ms) false
  known-asked ms query t charge k covered = record {
    fresh = k.kept.fresh;
    added = [];
    journals = added-none (journals_of (shards_in ms));
    own = tt;
    children = λ q p x h. absurd (contains-none (Filled q p x) [] refl h);
    refused_at = None;
    flag = refl;
    outcome = record {
      roots = subst (All (IsCovered b.circuit (entries_of ms))) (sym (one-root b.circuit (asked_at query t charge) refl)) (All-from_recursion (IsCovered b.circuit (entries_of ms)) (at_time query t ∷ []) (covered, tt));
      charge = let n = k.counts in omega arith;
      refusals = refl;
    };
  }

  -- the time is covered where the query was not refused
  pub root-covered : (query : Query) (t charge : ℕ) (old new : List Shard) → HasAsked b opening (asked_at query t charge) old new false → IsCovered b.circuit (entries_in new) (at_time query t)
  root-covered query t charge old new h = by h.refused_at h.flag h.outcome
    where
      by : (o : Option Point) → false ≡ is_some o → IsOutcome b.circuit (asked_at query t charge) h.added (entries_in new) o → IsCovered b.circuit (entries_in new) (at_time query t)
      by None e s = (recursion_from_All (IsCovered b.circuit (entries_in new)) (at_time query t ∷ []) (subst (All (IsCovered b.circuit (entries_in new))) (one-root b.circuit (asked_at query t charge) refl) s.roots)).0
      by (Some p) e s = absurd (true≢false (sym e))
