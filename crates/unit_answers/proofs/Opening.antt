-- Shards that are opened over stores, and closed, one after another.
use Rattle.std.proofs.Common.{◌≡◌, ℕ, zero, suc, ◌+◌, ◌-◌, ◌<◌, ◌≤◌, List, [], ◌∷◌, ◌++◌, length, get_or, slice_get, map, drop, All, Some, sym, ap, subst, ◌∙◌, arith, append_assoc, append-nil, length-append, length-drop}
use Rattle.std.proofs.lemmas.List.{nil_from_length}
use Rattle.std.proofs.lemmas.List.Elements.{All-push, All-nil, All-head, All-tail}
use Rattle.valid_intervals.specs.declared.SignalCell.{SignalCell}
use Rattle.cell_store.specs.Recency.{Contents, contents}
use Rattle.journal_meaning.specs.declared.Entry.{Entry}
use Rattle.journal_meaning.specs.Batches.{Batch}
use Rattle.memo_shards.specs.KeptShards.{KeptShard, shard_at}
use Rattle.plan_core.specs.Parts.{AreInOrder}
use Rattle.unit_answers.specs.inner.Runs.{store_of, AreOpened, AreBegun}

-- what is said of each place holds of one more
places-more : {X : Type 0} (P : X → ℕ → Type 0) (xs : List X) (y : X) → ((i : ℕ) (x : X) → slice_get xs i ≡ Some x → P x i) → P y (length xs) → (i : ℕ) (x : X) → slice_get (xs ++ y ∷ []) i ≡ Some x → P x i
places-more {X = X} P [] y old new zero x at = let R : X → Type 0 = λ z. P z 0 in let e : y ≡ x = cc in subst R e new
places-more P [] y old new (suc i) x at = absurd (cc)
places-more P (z ∷ xs) y old new zero x at = old zero x at
places-more P (z ∷ xs) y old new (suc i) x at = places-more (λ u k. P u (suc k)) xs y (λ k u e. old (suc k) u e) new i x at

-- the first element of what is left
left-first : {X : Type 0} (xs : List X) (n : ℕ) (x : X) (left : List X) → drop n xs ≡ x ∷ left → (n < length xs) × ((d : X) → get_or xs n d ≡ x) × (drop (suc n) xs ≡ left)
left-first [] zero x left e = absurd (cc)
left-first [] (suc n) x left e = absurd (cc)
left-first (y ∷ xs) zero x left e = (omega arith, λ d. cc, cc)
left-first (y ∷ xs) (suc n) x left e = let r = left-first xs n x left e in (omega (arith, r.0), r.1, r.2)

-- Shards stand over the first stores, and these stores are left.
pub record AreOpening (stores : List Contents) (ms : List KeptShard) (left : List Contents) (many : ℕ) : Type 0 where
  pub rest : left ≡ drop (length ms) stores
  pub count : many ≡ length left
  pub within : length ms ≤ length stores
  pub order : AreInOrder ms
  pub empty : All (λ (m : KeptShard). m.shard.journal ≡ []) ms

pub opens-first : (stores left : List Contents) (ms : List KeptShard) (many : ℕ) → ms ≡ [] → left ≡ stores → many ≡ length stores → AreOpening stores ms left many
opens-first stores left ms many none all count =
    let P : List KeptShard → Type 0 = λ l. AreOpening stores l left many in
    subst P (sym none) (record {
      rest = all;
      count = count ∙ ap length (sym all);
      within = omega arith;
      order = λ i m h. absurd (cc);
      empty = All-nil (λ (m : KeptShard). m.shard.journal ≡ []);
    })

module _ (stores : List Contents) (ms : List KeptShard) (left : List Contents) (many : ℕ) (opening : AreOpening stores ms left many) (x : Contents) (after : List Contents) (next : left ≡ x ∷ after) (n : ℕ) (number : n ≡ length ms) where
  here : (length ms < length stores) × ((d : Contents) → get_or stores (length ms) d ≡ x) × (drop (suc (length ms)) stores ≡ after)
  here = left-first stores (length ms) x after (sym opening.rest ∙ next)

  -- there is a store for the next shard
  pub opens-within : n < length stores
  opens-within = omega (arith, here.0)

  -- and it is the one with which the batch begins
  pub opens-store : (b : Batch) (cells : ℕ → List SignalCell) → AreOpened b cells stores → x ≡ contents b.capacity (cells n)
  opens-store b cells opened =
      let low = opens-within in
      let count = opened.count in
      sym (here.1 (contents 0 [])) ∙ ap (λ k. get_or stores k (contents 0 [])) (sym number) ∙ opened.stored n (omega arith)

  -- one shard more
  pub opens-more : (m : KeptShard) (more : List KeptShard) (fewer : ℕ) (cells : List SignalCell) → m ≡ record { number = n; shard = shard_at cells []; waiting = [] } → more ≡ ms ++ m ∷ [] → fewer + 1 ≡ many → AreOpening stores more after fewer
  opens-more m more fewer cells is push less =
      let P : List KeptShard → Type 0 = λ l. AreOpening stores l after fewer in
      let long : length (ms ++ m ∷ []) ≡ suc (length ms) = omega (arith, length-append {A = KeptShard}) in
      subst P (sym push) (record {
        rest = sym here.2 ∙ ap (λ n. drop n stores) (sym long);
        count = let k : many ≡ length (x ∷ after) = opening.count ∙ ap length next in omega arith;
        within = let low = here.0 in omega (arith, long);
        order = places-more (λ (r : KeptShard) i. r.number ≡ i) ms m opening.order (ap (λ (r : KeptShard). r.number) is ∙ number);
        empty = All-push (λ (r : KeptShard). r.shard.journal ≡ []) ms m opening.empty (ap (λ (r : KeptShard). r.shard.journal) is);
      })

-- all shards
pub opens-all : (stores : List Contents) (ms : List KeptShard) (left : List Contents) (many : ℕ) → AreOpening stores ms left many → many ≡ 0 → AreBegun stores ms
opens-all stores ms left many opening none = record {
  count =
      let gone : length left ≡ 0 = sym opening.count ∙ none in
      let rest : length left ≡ length stores - length ms = ap length opening.rest ∙ length-drop (length ms) stores in
      let within = opening.within in
      omega arith;
  order = opening.order;
  empty = opening.empty;
}

-- Some shards are closed, and these are left: lists and stores with those of the shards that are left are those of all.
pub record AreClosing (capacity : ℕ) (ms : List KeptShard) (lists : List (List Entry)) (stores : List Contents) (left : List KeptShard) (many : ℕ) : Type 0 where
  pub lists_are : lists ++ map (λ (m : KeptShard). m.shard.journal) left ≡ map (λ (m : KeptShard). m.shard.journal) ms
  pub stores_are : stores ++ map (λ (m : KeptShard). store_of capacity m.shard) left ≡ map (λ (m : KeptShard). store_of capacity m.shard) ms
  pub count : many ≡ length left
  pub free : All (λ (m : KeptShard). m.shard.state.claims ≡ []) left

abbrev journal : KeptShard → List Entry
journal m = m.shard.journal

abbrev IsFree : KeptShard → Type 0
IsFree m = m.shard.state.claims ≡ []

module _ (capacity : ℕ) (ms : List KeptShard) where
  abbrev store : KeptShard → Contents
  store m = store_of capacity m.shard

  pub closes-first : (left : List KeptShard) (lists : List (List Entry)) (stores : List Contents) (many : ℕ) → lists ≡ [] → stores ≡ [] → left ≡ ms → many ≡ length ms → All IsFree ms → AreClosing capacity ms lists stores left many
  closes-first left lists stores many no_lists no_stores all count free = record {
    lists_are = ap (λ l. l ++ map journal left) no_lists ∙ ap (map journal) all;
    stores_are = ap (λ l. l ++ map store left) no_stores ∙ ap (map store) all;
    count = count ∙ ap length (sym all);
    free = subst (All IsFree) (sym all) free;
  }

  module _ (lists : List (List Entry)) (stores : List Contents) (left : List KeptShard) (many : ℕ) (closing : AreClosing capacity ms lists stores left many) where
    -- the next one has no claim
    pub closes-free : (m : KeptShard) (after : List KeptShard) → left ≡ m ∷ after → IsFree m
    closes-free m after next = All-head IsFree m after (subst (All IsFree) next closing.free)

    -- one shard fewer
    pub closes-more : (m : KeptShard) (after : List KeptShard) (fewer : ℕ) (es : List Entry) (s : Contents) (more : List (List Entry)) (others : List Contents) → left ≡ m ∷ after → fewer + 1 ≡ many
        → es ≡ journal m → s ≡ store m → more ≡ lists ++ es ∷ [] → others ≡ stores ++ s ∷ [] → AreClosing capacity ms more others after fewer
    closes-more m after fewer es s more others next less es_is s_is push put = record {
      lists_are = ap (λ l. l ++ map journal after) (push ∙ ap (λ e. lists ++ e ∷ []) es_is) ∙ append_assoc lists (journal m ∷ []) (map journal after) ∙ ap (λ l. lists ++ map journal l) (sym next) ∙ closing.lists_are;
      stores_are = ap (λ l. l ++ map store after) (put ∙ ap (λ e. stores ++ e ∷ []) s_is) ∙ append_assoc stores (store m ∷ []) (map store after) ∙ ap (λ l. stores ++ map store l) (sym next) ∙ closing.stores_are;
      count = let k : many ≡ length (m ∷ after) = closing.count ∙ ap length next in omega arith;
      free = All-tail IsFree m after (subst (All IsFree) next closing.free);
    }

    none : many ≡ 0 → left ≡ []
    none e = nil_from_length left (sym closing.count ∙ e)

    -- all shards
    pub closes-lists : many ≡ 0 → lists ≡ map journal ms
    closes-lists e = sym (append-nil lists) ∙ ap (λ l. lists ++ map journal l) (sym (none e)) ∙ closing.lists_are

    pub closes-stores : many ≡ 0 → stores ≡ map store ms
    closes-stores e = sym (append-nil stores) ∙ ap (λ l. stores ++ map store l) (sym (none e)) ∙ closing.stores_are
