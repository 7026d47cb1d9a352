-- Shards without claims, once they are closed: their journals are legal, and their stores begin the next unit.
use Rattle.std.proofs.Common.{◌≡◌, ℕ, ◌<◌, List, [], length, get_or, map, All, Option, sym, ap, subst, ◌∙◌, arith}
use Rattle.std.proofs.lemmas.List.{get_or-map, length-map}
use Rattle.std.proofs.lemmas.List.Elements.{All-from_recursion}
use Rattle.cell_store.specs.Recency.{Contents, contents}
use Rattle.journal_meaning.specs.declared.Entry.{Entry}
use Rattle.journal_meaning.specs.declared.batch.Query.{Query}
use Rattle.journal_meaning.specs.Batches.{Site}
use Rattle.journal_meaning.specs.States.{State, fresh}
use Rattle.journal_meaning.specs.Allowed.{IsRight}
use Rattle.journal_meaning.specs.Replay.{replay, IsAtEnd, IsLegalBatch}
use Rattle.plan_machine.specs.Shards.{Shard, IsShard}
use Rattle.plan_machine.specs.Plans.{no_shard}
use Rattle.plan_machine.specs.Sound.{IsFresh}
use Rattle.plan_machine.specs.Settle.{journals_of}
use Rattle.session_meaning.specs.Session.{Setup}
use Rattle.unit_answers.specs.Stores.{IsSized, AreStores, cells_of}
use Rattle.unit_answers.specs.inner.Runs.{asks_at, store_of}

module _ (setup : Setup) (site : Option Site) (queries : List Query) (opening : List Contents) (shards : List Shard) (lists : List (List Entry)) (left : List Contents) (free : IsFresh (asks_at setup site queries) (cells_of opening) shards)
    (lists_are : lists ≡ journals_of shards) (stores_are : left ≡ map (store_of setup.capacity) shards) where
  shard-is : (n : ℕ) → n < setup.shards → IsShard (asks_at setup site queries) n (cells_of opening n) (get_or shards n no_shard)
  shard-is n low = free.right n low

  left-at : (n : ℕ) (d : Contents) → n < setup.shards → get_or left n d ≡ store_of setup.capacity (get_or shards n no_shard)
  left-at n d low =
      let count = free.count in
      ap (λ l. get_or l n d) stores_are ∙ get_or-map (store_of setup.capacity) shards n no_shard d (omega arith)

  list-at : (n : ℕ) → n < setup.shards → get_or lists n [] ≡ (get_or shards n no_shard).journal
  list-at n low =
      let count = free.count in
      ap (λ l. get_or l n []) lists_are ∙ get_or-map (λ (h : Shard). h.journal) shards n no_shard [] (omega arith)

  left-many : length left ≡ setup.shards
  left-many = ap length stores_are ∙ length-map shards (store_of setup.capacity) ∙ free.count

  pub lists-many : length lists ≡ setup.shards
  lists-many = ap length lists_are ∙ length-map shards (λ (h : Shard). h.journal) ∙ free.count

  pub lists-legal : (n : ℕ) → n < setup.shards → IsLegalBatch (asks_at setup site queries) n (cells_of opening n) (get_or lists n [])
  lists-legal n low =
      let is = shard-is n low in
      let one : IsLegalBatch (asks_at setup site queries) n (cells_of opening n) (get_or shards n no_shard).journal = record {
        legal = is.legal;
        ended = subst IsAtEnd is.state (record { claims = free.free n low; made = is.made });
      } in
      subst (IsLegalBatch (asks_at setup site queries) n (cells_of opening n)) (sym (list-at n low)) one

  pub stores-left : IsSized setup → AreStores setup left
  stores-left sized = record {
    sized = sized;
    count = left-many;
    capacity = λ n d low. ap (λ (s : Contents). s.capacity) (left-at n d (omega (arith, left-many)));
    right = λ n d low.
        let within : n < setup.shards = omega (arith, left-many) in
        subst (λ (s : Contents). All (IsRight setup.design.circuit) s.cells) (sym (left-at n d within))
        (All-from_recursion (IsRight setup.design.circuit) (get_or shards n no_shard).state.cells (shard-is n within).right);
  }

  pub stores-leave : (n : ℕ) → n < setup.shards → cells_of left n ≡ (replay (fresh (cells_of opening n)) (get_or lists n [])).cells
  stores-leave n low =
      ap (λ (s : Contents). s.cells) (left-at n (contents 0 []) low)
      ∙ ap (λ (s : State). s.cells) (shard-is n low).state
      ∙ ap (λ es. (replay (fresh (cells_of opening n)) es).cells) (sym (list-at n low))
