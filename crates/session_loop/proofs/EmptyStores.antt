-- The empty stores as a session begins.
use Rattle.std.proofs.Common.{◌≡◌, ℕ, ◌<◌, List, [], replicate, refl, sym, ap, subst, ◌∙◌}
use Rattle.std.specs.Prelude.{All}
use Rattle.std.proofs.lemmas.List.{length-replicate, get_or-replicate}
use Rattle.std.proofs.lemmas.List.Elements.{All-nil, All-replicate}
use Rattle.cell_store.specs.Recency.{Contents, contents}
use Rattle.journal_meaning.specs.Allowed.{IsRight}
use Rattle.unit_answers.specs.Stores.{IsSized, AreStores, cells_of}
use Rattle.session_loop.specs.declared.service.Service.{Service}
use Rattle.session_loop.specs.Serving.{memo_of}

-- they are stores of the memo
pub empty-are-stores : (service : Service) (stores : List Contents) → IsSized (memo_of service) → stores ≡ replicate service.sizes.shards (contents service.sizes.cells []) → AreStores (memo_of service) stores
empty-are-stores service stores sized are =
    let none = contents service.sizes.cells [] in
    subst (AreStores (memo_of service)) (sym are) (record {
      sized = sized;
      count = length-replicate service.sizes.shards none;
      capacity = All-replicate (λ (s : Contents). s.capacity ≡ service.sizes.cells) service.sizes.shards none refl;
      right = All-replicate (λ (s : Contents). All (IsRight service.design.now.circuit) s.cells) service.sizes.shards none (All-nil (IsRight service.design.now.circuit));
    })

-- no cell is stored
pub empty-cells : (shards cells : ℕ) (stores : List Contents) (shard : ℕ) → stores ≡ replicate shards (contents cells []) → shard < shards → cells_of stores shard ≡ []
empty-cells shards cells stores shard are within =
    ap (λ l. cells_of l shard) are ∙ ap (λ (s : Contents). s.cells) (get_or-replicate shards shard (contents cells []) (contents 0 []) within)
