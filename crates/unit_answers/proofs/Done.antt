-- What a batch and a trim come to.
use Rattle.std.proofs.Common.{◌≡◌, ℕ, ◌<◌, List, [], length, get_or, map, All, None, sym, ap, subst, ◌∙◌, arith}
use Rattle.std.specs.List.{AllZip}
use Rattle.std.proofs.lemmas.List.{get_or-map, length-map}
use Rattle.std.proofs.lemmas.List.Elements.{All-take}
use Rattle.cell_store.specs.Recency.{Contents, contents}
use Rattle.journal_meaning.specs.declared.Entry.{Entry}
use Rattle.journal_meaning.specs.States.{fresh}
use Rattle.journal_meaning.specs.Allowed.{IsRight}
use Rattle.journal_meaning.specs.Replay.{replay, IsLegalTrim}
use Rattle.journal_meaning.specs.Sections.{of_batch}
use Rattle.plan_machine.specs.Settle.{IsAnswered, AreAnswered, journals_of}
use Rattle.plan_machine.proofs.Callers.{settled-answered}
use Rattle.query_lines.specs.declared.unit.Item.{Item}
use Rattle.circuit_meaning.specs.declared.Run.{Run}
use Rattle.reply_lines.specs.declared.reply.Outcome.{Outcome}
use Rattle.reply_lines.specs.declared.reply.Reply.{Reply}
use Rattle.query_answers.specs.windows.Phases.{refused_of}
use Rattle.session_meaning.specs.Verdicts.{verdict_of, queries_of}
use Rattle.session_meaning.specs.Replies.{IsReply}
use Rattle.session_meaning.specs.Session.{Setup, batch_of, trim_entries}
use Rattle.unit_answers.specs.Stores.{IsSized, AreStores, cells_of}
use Rattle.unit_answers.specs.Done.{IsBatchDone, IsTrimDone}
use Rattle.unit_answers.specs.inner.Placed.{placed_replies}
use Rattle.unit_answers.specs.inner.Trims.{trimmed_store, entries_at}
use Rattle.unit_answers.specs.inner.Runs.{asks, HasRun}
use Rattle.unit_answers.proofs.Answering.{items-right}
use Rattle.unit_answers.proofs.Left.{lists-many, lists-legal, stores-left, stores-leave}
use Rattle.unit_answers.proofs.Trimming.{trims-legal, trims-leave}

module _ (setup : Setup) (items : List Item) (opening : List Contents) (os : List (Outcome (List Run))) (lists : List (List Entry)) (left : List Contents) (run : HasRun (asks setup (queries_of setup.design items)) (cells_of opening) os lists left) where
  answered : IsAnswered (batch_of setup items) (cells_of opening) run.shards (refused_of os)
  answered = settled-answered (batch_of setup items) (cells_of opening) run.handed run.shards (refused_of os) run.settled

  -- the batch is done once the replies stand at the places of the items
  pub batch-done : IsSized setup → (replies : List Reply) → replies ≡ placed_replies (map (verdict_of setup.design) items) os → IsBatchDone setup items opening replies lists left
  batch-done sized replies at =
      let c = setup.design.circuit in
      let queries = queries_of setup.design items in
      let free = run.settled.fresh in
      let lists_are : journals_of run.shards ≡ lists = sym run.lists_are in
      let answers : AreAnswered c (of_batch lists) (queries_of setup.design items) (refused_of os) =
      subst (λ (l : List (List Entry)). AreAnswered c (of_batch l) (queries_of setup.design items) (refused_of os)) lists_are answered.answers in
      record {
        count = lists-many setup None queries opening run.shards lists left free run.lists_are run.stores_are;
        legal = lists-legal setup None queries opening run.shards lists left free run.lists_are run.stores_are;
        right = subst (AllZip (λ item reply. IsReply c (of_batch lists) (verdict_of setup.design item) reply) items) (sym at) (items-right c (of_batch lists) setup.design items os run.outcomes_are answers);
        stores = stores-left setup None queries opening run.shards lists left free run.lists_are run.stores_are sized;
        leaves = stores-leave setup None queries opening run.shards lists left free run.lists_are run.stores_are;
      }

module _ (setup : Setup) (most : ℕ) (opening : List Contents) (stores : AreStores setup opening) (lists : List (List Entry)) (left : List Contents) (lists_are : lists ≡ map (entries_at most) opening) (left_are : left ≡ map (trimmed_store most) opening) where
  list-of : (n : ℕ) → n < setup.shards → get_or lists n [] ≡ trim_entries most (cells_of opening n)
  list-of n low =
      let count = stores.count in
      ap (λ l. get_or l n []) lists_are ∙ get_or-map (entries_at most) opening n (contents 0 []) [] (omega arith)

  store-of : (n : ℕ) (d : Contents) → n < setup.shards → get_or left n d ≡ trimmed_store most (get_or opening n d)
  store-of n d low = let count = stores.count in ap (λ l. get_or l n d) left_are ∙ get_or-map (trimmed_store most) opening n d d (omega arith)

  many : length left ≡ setup.shards
  many = ap length left_are ∙ length-map opening (trimmed_store most) ∙ stores.count

  -- the trim is done once each store is trimmed
  pub trim-done : IsTrimDone setup most opening lists left
  trim-done = record {
    count = ap length lists_are ∙ length-map opening (entries_at most) ∙ stores.count;
    legal = λ n low. subst (IsLegalTrim (fresh (cells_of opening n))) (sym (list-of n low)) (trims-legal most (cells_of opening n));
    evicts = list-of;
    stores = record {
      sized = stores.sized;
      count = many;
      capacity = λ n d low.
          let count = stores.count in
          ap (λ (s : Contents). s.capacity) (store-of n d (omega (arith, many))) ∙ stores.capacity n d (omega (arith, many));
      right = λ n d low.
          let count = stores.count in
          subst (λ (s : Contents). All (IsRight setup.design.circuit) s.cells) (sym (store-of n d (omega (arith, many))))
          (All-take (IsRight setup.design.circuit) most (get_or opening n d).cells (stores.right n d (omega (arith, many))));
    };
    leaves = λ n low.
        ap (λ (s : Contents). s.cells) (store-of n (contents 0 []) low)
        ∙ sym (trims-leave most (cells_of opening n))
        ∙ ap (λ es. (replay (fresh (cells_of opening n)) es).cells) (sym (list-of n low));
  }
