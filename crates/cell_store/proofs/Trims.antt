-- How a store is trimmed, one cell after another.
use Rattle.std.proofs.Common.{◌≡◌, ℕ, zero, suc, ◌+◌, ◌-◌, ◌<◌, ◌≤◌, min, List, [], ◌∷◌, ◌++◌, length, get_or, map, reverse, take, drop, Option, Some, None, cond, refl, sym, ap, ap₂, subst, ◌∙◌, ⊎_elim, ◌⊎◌, arith}
use Rattle.std.proofs.lemmas.List.{drop_all, length-take, length-drop, length-reverse, take_all, take-take, reverse-append, take-map, drop-map, get_or-reverse, get_or-drop, get_or-take}
use Rattle.std.proofs.lemmas.Option.{slice_get-get_or, same_Some}
use Rattle.std.specs.List.{slice_get}
use Rattle.std.specs.Ordering.{is_eq}
use Rattle.lru.specs.LruCache.{LruCache, lru_cache, last_entry}
use Rattle.valid_intervals.specs.declared.SignalCell.{SignalCell}
use Rattle.cell_store.specs.declared.Key.{Key}
use Rattle.cell_store.specs.Recency.{Contents, contents, with_cells, key_of}
use Rattle.cell_store.specs.declared.index.Place.{Place}
use Rattle.cell_store.specs.inner.Index.{key_cmp, cells_of, IsSoundStore}
use Rattle.cell_store.proofs.Found.{none_some}
use Rattle.cell_store.proofs.Entries.{CacheEntry}
use Rattle.cell_store.proofs.Calls.{popped}
use Rattle.cell_store.proofs.Puts.{went_at}

abbrev keys_in : List CacheEntry → List Key
keys_in entries = map key_of (cells_of entries)

-- what is left of the cache, and the keys that were taken out
pub record IsTrimmed (place_of : Key → Option Place) (cache was : LruCache ℕ SignalCell) (free : List ℕ) (n : ℕ) (taken : List Key) : Type 0 where
  pub sound : IsSoundStore place_of cache.entries free cache.cap
  pub capacity : cache.cap ≡ was.cap
  pub entries_kept : cache.entries ≡ take (length cache.entries) was.entries
  pub enough : min n (length was.entries) ≤ length cache.entries
  pub keys : taken ≡ reverse (keys_in (drop (length cache.entries) was.entries))

drop_at : {X : Type 0} (xs : List X) (n : ℕ) (x : X) → slice_get xs n ≡ Some x → drop n xs ≡ x ∷ drop (suc n) xs
drop_at [] n x h = none_some x h
drop_at {X = X} (y ∷ ys) zero x h = ap (λ (z : X). z ∷ ys) (same_Some y x h)
drop_at (y ∷ ys) (suc n) x h = drop_at ys n x h

slice_get_take : {X : Type 0} (xs : List X) (m n : ℕ) (x : X) → slice_get (take m xs) n ≡ Some x → slice_get xs n ≡ Some x
slice_get_take [] zero n x h = none_some x h
slice_get_take [] (suc m) n x h = none_some x h
slice_get_take (y ∷ ys) zero n x h = none_some x h
slice_get_take (y ∷ ys) (suc m) zero x h = h
slice_get_take (y ∷ ys) (suc m) (suc n) x h = slice_get_take ys m n x h

-- what is left without the last entry
record IsCutOnce (es os : List CacheEntry) (e : CacheEntry) : Type 0 where
  pub many : length (take (length es - 1) es) ≡ length es - 1
  pub rest : drop (length (take (length es - 1) es)) os ≡ e ∷ drop (length es) os
  pub entries_kept : take (length es - 1) es ≡ take (length (take (length es - 1) es)) os

cut_once : (es os : List CacheEntry) (e : CacheEntry) → es ≡ take (length es) os → 0 < length es → Some e ≡ last_entry es → IsCutOnce es os e
cut_once es os e kept some last =
    let left : List CacheEntry = take (length es - 1) es in
    let many : length left ≡ length es - 1 = omega (arith, length-take (length es - 1) es) in
    let here : slice_get os (length es - 1) ≡ Some e = slice_get_take os (length es) (length es - 1) e (subst (λ (l : List CacheEntry). slice_get l (length es - 1) ≡ Some e) kept (sym last)) in
    let next_one : suc (length es - 1) ≡ length es = omega arith in
    record {
      many = many;
      rest = ap (λ (m : ℕ). drop m os) many ∙ drop_at os (length es - 1) e here ∙ ap (λ (m : ℕ). e ∷ drop m os) next_one;
      entries_kept = ap (take (length es - 1)) kept ∙ take-take (length es - 1) (length es) os (omega arith) ∙ ap (λ (m : ℕ). take m os) (sym many);
    }

pub begins : (place_of : Key → Option Place) (cache : LruCache ℕ SignalCell) (free : List ℕ) (n : ℕ) → IsSoundStore place_of cache.entries free cache.cap → IsTrimmed place_of cache cache free n []
begins place_of cache free n sound = record {
  sound = sound;
  capacity = refl;
  entries_kept = sym (take_all (length cache.entries) cache.entries (omega arith));
  enough = omega arith;
  keys = sym (ap (λ (l : List CacheEntry). reverse (keys_in l)) (drop_all (length cache.entries) cache.entries (omega arith)));
}

pub goes_on : (f g : Key → Option Place) (cache next was : LruCache ℕ SignalCell) (free : List ℕ) (n : ℕ) (taken : List Key) (slot : ℕ) (y : SignalCell) (k : Key) → IsTrimmed f cache was free n taken → n < length cache.entries
    → Some (slot, y) ≡ last_entry cache.entries → next ≡ lru_cache (take (length cache.entries - 1) cache.entries) cache.cap → k ≡ key_of y
    → ((q : Key) → g q ≡ cond (is_eq (key_cmp k q)) None (f q)) → IsTrimmed g next was (free ++ slot ∷ []) n (taken ++ k ∷ [])
goes_on f g cache next was free n taken slot y k so_far more last is key removed =
    let es : List CacheEntry = cache.entries in
    let os : List CacheEntry = was.entries in
    let left : List CacheEntry = take (length es - 1) es in
    let once : IsCutOnce es os (slot, y) = cut_once es os (slot, y) so_far.entries_kept (omega arith) last in
    let trimmed : IsTrimmed g (lru_cache left cache.cap) was (free ++ slot ∷ []) n (taken ++ k ∷ []) = record {
      sound = popped f g es free cache.cap slot y so_far.sound (sym last) (went_at f g k y key removed);
      capacity = so_far.capacity;
      entries_kept = once.entries_kept;
      enough = omega (arith, once.many);
      keys = ap₂ (λ (l : List Key) (j : Key). l ++ j ∷ []) so_far.keys key ∙ sym (reverse-append (key_of y ∷ []) (keys_in (drop (length es) os)))
          ∙ sym (ap (λ (l : List CacheEntry). reverse (keys_in l)) once.rest);
    } in
    subst (λ (l : LruCache ℕ SignalCell). IsTrimmed g l was (free ++ slot ∷ []) n (taken ++ k ∷ [])) (sym is) trimmed

-- as many are left as there may be, or as there were
taken_off : (n k : ℕ) (os : List CacheEntry) → k ≤ n → k ≤ length os → min n (length os) ≤ k → (take k os ≡ take n os) × (drop k os ≡ drop n os)
taken_off n k os low short enough =
    ⊎_elim
    (λ (is : k ≡ n). (ap (λ (m : ℕ). take m os) is, ap (λ (m : ℕ). drop m os) is))
    (λ (all : length os ≤ k). (take_all k os all ∙ sym (take_all n os (omega arith)), drop_all k os all ∙ sym (drop_all n os (omega arith))))
    (let choice : (k ≡ n) ⊎ (length os ≤ k) = grind arith in choice)

pub shows : (place_of : Key → Option Place) (cache was : LruCache ℕ SignalCell) (free : List ℕ) (n : ℕ) (taken : List Key) (s : Contents) → IsTrimmed place_of cache was free n taken → length cache.entries ≤ n
    → contents was.cap (cells_of was.entries) ≡ s
    → (contents cache.cap (cells_of cache.entries) ≡ with_cells s (take n s.cells)) × (taken ≡ reverse (map key_of (drop n s.cells)))
shows place_of cache was free n taken s trimmed few view =
    let k : ℕ = length cache.entries in
    let os : List CacheEntry = was.entries in
    let short : k ≤ length os = omega (arith, ap (λ (l : List CacheEntry). length l) trimmed.entries_kept, length-take k os) in
    let off = taken_off n k os few short trimmed.enough in (
      ap₂ contents trimmed.capacity (ap cells_of (trimmed.entries_kept ∙ off.0) ∙ sym (take-map (λ (e : CacheEntry). e.1) n os)) ∙ ap (λ (t : Contents). with_cells t (take n t.cells)) view,
      trimmed.keys ∙ ap (λ (l : List CacheEntry). reverse (keys_in l)) off.1
          ∙ ap (λ (l : List SignalCell). reverse (map key_of l)) (sym (drop-map (λ (e : CacheEntry). e.1) n os))
          ∙ ap (λ (t : Contents). reverse (map key_of (drop n t.cells))) view,
    )

-- ---- the cache loses its last cells, one after another
-- those that are gone, the least recently used first
pub record IsCut (cache was : LruCache ℕ SignalCell) (n : ℕ) (taken : List CacheEntry) : Type 0 where
  pub capacity : cache.cap ≡ was.cap
  pub entries_kept : cache.entries ≡ take (length cache.entries) was.entries
  pub enough : min n (length was.entries) ≤ length cache.entries
  pub gone : taken ≡ reverse (drop (length cache.entries) was.entries)

pub cut_none : (cache : LruCache ℕ SignalCell) (n : ℕ) → IsCut cache cache n []
cut_none cache n = record {
  capacity = refl;
  entries_kept = sym (take_all (length cache.entries) cache.entries (omega arith));
  enough = omega arith;
  gone = sym (ap (λ (l : List CacheEntry). reverse l) (drop_all (length cache.entries) cache.entries (omega arith)));
}

pub cut_more : (cache next was : LruCache ℕ SignalCell) (n : ℕ) (taken : List CacheEntry) (e : CacheEntry) → IsCut cache was n taken → n < length cache.entries → Some e ≡ last_entry cache.entries
    → next ≡ lru_cache (take (length cache.entries - 1) cache.entries) cache.cap → IsCut next was n (taken ++ e ∷ [])
cut_more cache next was n taken e so_far more last is =
    let once : IsCutOnce cache.entries was.entries e = cut_once cache.entries was.entries e so_far.entries_kept (omega arith) last in
    subst (λ (l : LruCache ℕ SignalCell). IsCut l was n (taken ++ e ∷ [])) (sym is) (record {
      capacity = so_far.capacity;
      entries_kept = once.entries_kept;
      enough = omega (arith, once.many);
      gone = ap (λ (l : List CacheEntry). l ++ e ∷ []) so_far.gone ∙ sym (reverse-append (e ∷ []) (drop (length cache.entries) was.entries)) ∙ sym (ap (λ (l : List CacheEntry). reverse l) once.rest);
    })

-- ---- what is gone leaves the index, one after another
-- the cache when so many of the last are gone
abbrev cut_at : LruCache ℕ SignalCell → ℕ → LruCache ℕ SignalCell
cut_at was i = lru_cache (take (length was.entries - i) was.entries) was.cap

-- the cache has lost these, and so has the index the first i of them
pub record IsTrimming (place_of : Key → Option Place) (cache : LruCache ℕ SignalCell) (free : List ℕ) (n : ℕ) (gone : List CacheEntry) (i : ℕ) (taken : List Key) (s : Contents) : Type 0 where
  pub was : LruCache ℕ SignalCell
  pub view : contents was.cap (cells_of was.entries) ≡ s
  pub left : cache ≡ lru_cache (take n was.entries) was.cap
  pub lost : gone ≡ reverse (drop n was.entries)
  pub within : i ≤ length gone
  pub trimmed : IsTrimmed place_of (cut_at was i) was free n taken

pub trim_begins : (place_of : Key → Option Place) (cache was : LruCache ℕ SignalCell) (free : List ℕ) (n : ℕ) (gone : List CacheEntry) (s : Contents) → IsSoundStore place_of was.entries free was.cap → contents was.cap (cells_of was.entries) ≡ s
    → cache ≡ lru_cache (take n was.entries) was.cap → gone ≡ reverse (drop n was.entries) → IsTrimming place_of cache free n gone 0 [] s
trim_begins place_of cache was free n gone s sound view left lost = record {
  was = was;
  view = view;
  left = left;
  lost = lost;
  within = omega arith;
  trimmed = subst (λ (es : List CacheEntry). IsTrimmed place_of (lru_cache es was.cap) was free n []) (sym (take_all (length was.entries - 0) was.entries (omega arith))) (begins place_of was free n sound);
}

-- how many are gone
pub many_lost : (n : ℕ) (os gone : List CacheEntry) → gone ≡ reverse (drop n os) → length gone ≡ length os - n
many_lost n os gone lost = ap (λ (l : List CacheEntry). length l) lost ∙ length-reverse (drop n os) ∙ length-drop n os

-- the one in place i is the last where i of them are gone
lost_last : (n i : ℕ) (os gone : List CacheEntry) (e : CacheEntry) → gone ≡ reverse (drop n os) → i < length gone → get_or gone i e ≡ e → Some e ≡ last_entry (take (length os - i) os)
lost_last n i os gone e lost low at =
    let many : length gone ≡ length os - n = many_lost n os gone lost in
    let cut : length (take (length os - i) os) ≡ length os - i = omega (arith, length-take (length os - i) os) in
    let j : ℕ = length os - i - 1 in
    let short : i < length (drop n os) = omega (arith, length-drop n os) in
    let back : get_or gone i e ≡ get_or os j e =
    ap (λ (l : List CacheEntry). get_or l i e) lost ∙ get_or-reverse (drop n os) i e short ∙ get_or-drop n os (length (drop n os) - 1 - i) e
    ∙ ap (λ (m : ℕ). get_or os m e) (omega (arith, length-drop n os)) in
    let here : slice_get (take (length os - i) os) j ≡ Some (get_or (take (length os - i) os) j e) = slice_get-get_or (take (length os - i) os) j e (omega arith) in
    sym (ap (λ (m : ℕ). slice_get (take (length os - i) os) (m - 1)) cut ∙ here ∙ ap (λ (d : CacheEntry). Some d) (get_or-take (length os - i) os j e (omega arith) ∙ sym back ∙ at))

pub trim_goes_on : (f g : Key → Option Place) (cache : LruCache ℕ SignalCell) (free : List ℕ) (n : ℕ) (gone : List CacheEntry) (i : ℕ) (taken : List Key) (s : Contents) (slot : ℕ) (y : SignalCell) (k : Key) → IsTrimming f cache free n gone i taken s
    → i < length gone → get_or gone i (slot, y) ≡ (slot, y) → k ≡ key_of y → ((q : Key) → g q ≡ cond (is_eq (key_cmp k q)) None (f q))
    → IsTrimming g cache (free ++ slot ∷ []) n gone (i + 1) (taken ++ k ∷ []) s
trim_goes_on f g cache free n gone i taken s slot y k so_far low at key removed =
    let was : LruCache ℕ SignalCell = so_far.was in
    let os : List CacheEntry = was.entries in
    let many : length gone ≡ length os - n = many_lost n os gone so_far.lost in
    let cut : length (take (length os - i) os) ≡ length os - i = omega (arith, length-take (length os - i) os) in
    let next : cut_at was (i + 1) ≡ lru_cache (take (length (take (length os - i) os) - 1) (take (length os - i) os)) was.cap =
    ap (λ (l : List CacheEntry). lru_cache l was.cap) (sym (ap (λ (m : ℕ). take (m - 1) (take (length os - i) os)) cut ∙ take-take (length os - i - 1) (length os - i) os (omega arith) ∙ ap (λ (m : ℕ). take m os) (omega arith))) in
    record {
      was = was;
      view = so_far.view;
      left = so_far.left;
      lost = so_far.lost;
      within = omega (arith, low);
      trimmed = goes_on f g (cut_at was i) (cut_at was (i + 1)) was free n taken slot y k so_far.trimmed (omega arith) (lost_last n i os gone (slot, y) so_far.lost low at) next key removed;
    }

pub trim_ends : (place_of : Key → Option Place) (cache : LruCache ℕ SignalCell) (free : List ℕ) (n : ℕ) (gone : List CacheEntry) (i : ℕ) (taken : List Key) (s : Contents) → IsTrimming place_of cache free n gone i taken s → length gone ≤ i
    → IsSoundStore place_of cache.entries free cache.cap × (contents cache.cap (cells_of cache.entries) ≡ with_cells s (take n s.cells)) × (taken ≡ reverse (map key_of (drop n s.cells)))
trim_ends place_of cache free n gone i taken s trimming all =
    let was : LruCache ℕ SignalCell = trimming.was in
    let os : List CacheEntry = was.entries in
    let many : length gone ≡ length os - n = many_lost n os gone trimming.lost in
    let last : i ≡ length gone = omega (arith, all, trimming.within) in
    let same : take (length os - i) os ≡ take n os = (taken_off n (length os - i) os (omega arith) (omega arith) (omega arith)).0 in
    let is : cut_at was i ≡ cache = ap (λ (l : List CacheEntry). lru_cache l was.cap) same ∙ sym trimming.left in
    let trimmed : IsTrimmed place_of cache was free n taken = subst (λ (l : LruCache ℕ SignalCell). IsTrimmed place_of l was free n taken) is trimming.trimmed in
    let few : length cache.entries ≤ n = omega (arith, ap (λ (l : LruCache ℕ SignalCell). length l.entries) trimming.left, length-take n os) in
    let shown = shows place_of cache was free n taken s trimmed few trimming.view in
    (trimmed.sound, shown.0, shown.1)
