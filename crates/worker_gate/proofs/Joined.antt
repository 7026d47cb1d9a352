-- What is made of chunks, one after another.
use Rattle.std.proofs.Common.{◌≡◌, ℕ, zero, suc, ◌+◌, ◌*◌, ◌/◌, ◌%◌, ◌<◌, ◌≤◌, min, ⊎_elim, List, [], ◌∷◌, ◌++◌, length, take, drop, get_or, Result, Ok, refl, sym, ap, subst, ◌∙◌, arith, append-nil}
use Rattle.std.specs.Prelude.{flat_map}
use Rattle.std.specs.Fork.{slice_chunk}
use Rattle.std.proofs.Math.Nat.{suc-mul, zero-mul, add-mul, one-mul}
use Rattle.std.proofs.lemmas.Bool.{cases_lt}
use Rattle.std.proofs.lemmas.Nat.{div-add-mod', mod_below}
use Rattle.std.proofs.lemmas.List.{length-drop, drop-drop, take-append-drop, map-append}
use Rattle.std.proofs.lemmas.List.Concat.{flat_map-append}
use Rattle.journal_meaning.specs.declared.Entry.{Entry}
use Rattle.memo_shards.specs.KeptShards.{KeptShard}
use Rattle.plan_core.specs.declared.asked.fill_counts.FillCounts.{FillCounts}
use Rattle.plan_core.specs.declared.asked.said.Said.{Said}
use Rattle.plan_core.specs.asked.FillCounts.{HaveCounted}
use Rattle.plan_core.specs.asked.Memos.{entries_of}
use Rattle.plan_core.proofs.Callers.{none-counted, both-counted, entries-append}
use Rattle.worker_gate.specs.Said.{AreJoined}

-- so many chunks reach the end
pub chunks-cover : (count len size : ℕ) → 0 < size → count ≡ len / size + min 1 (len % size) → len ≤ count * size
chunks-cover count len size some is =
    let q = len / size in
    let r = len % size in
    let whole : q * size + r ≡ len = div-add-mod' len size in
    let below : r < size = mod_below len size some in
    ⊎_elim
    (λ rest. let e : count ≡ q + 1 = omega (arith, is, rest) in let w = ap (λ n. n * size) e ∙ add-mul q 1 size in let o = one-mul size in omega (arith, whole, below, w, o))
    (λ none. let e : count ≡ q = omega (arith, is, none) in let w = ap (λ n. n * size) e in omega (arith, whole, none, w))
    (cases_lt 0 r)

-- a chunk behind the first is one of the rest
next-chunk : {X : Type 0} (size : ℕ) (xs : List X) (n : ℕ) → slice_chunk xs size (suc n) ≡ slice_chunk (drop size xs) size n
next-chunk size xs n = ap (λ k. take size (drop k xs)) (omega (arith, suc-mul n size)) ∙ ap (take size) (sym (drop-drop (n * size) size xs))

module _ {X T : Type 0} (f : X → List ℕ) (items : T → List ℕ) (size : ℕ) where
  -- each text is that of a chunk
  abbrev pub AreOfChunks : List X → List T → Type 0
  AreOfChunks xs texts = (n : ℕ) (d : T) → n < length texts → items (get_or texts n d) ≡ flat_map f (slice_chunk xs size n)

  none : (xs : List X) → length xs ≤ zero * size → [] ≡ flat_map f xs
  none [] cover = refl
  none (x ∷ xs) cover = absurd (omega (arith, cover, zero-mul size))

  -- where the chunks reach the end, the texts are that of the whole
  pub chunks-joined : (texts : List T) (xs : List X) → AreOfChunks xs texts → length xs ≤ length texts * size → flat_map items texts ≡ flat_map f xs
  chunks-joined [] xs each cover = none xs cover
  chunks-joined (t ∷ ts) xs each cover =
      let first : items t ≡ flat_map f (take size xs) = each 0 t (omega arith) ∙ ap (λ k. flat_map f (take size (drop k xs))) (zero-mul size) in
      let rest : flat_map items ts ≡ flat_map f (drop size xs) =
      chunks-joined ts (drop size xs) (λ n d low. each (suc n) d (omega (arith, low)) ∙ ap (flat_map f) (next-chunk size xs n)) (omega (arith, cover, length-drop size xs, suc-mul (length ts) size)) in
      ap (λ l. l ++ flat_map items ts) first ∙ ap (λ l. flat_map f (take size xs) ++ l) rest
      ∙ sym (flat_map-append f (take size xs) (drop size xs)) ∙ ap (flat_map f) (take-append-drop size xs)

-- no part is read yet
pub none-joined : {E : Type 0} → AreJoined {E = E} [] []
none-joined = record { all = []; read = refl; counts = refl }

-- one part more
pub more-joined : {E : Type 0} (parts : List (Result Said E)) (fills : List FillCounts) (said : Said) → AreJoined parts fills → AreJoined (parts ++ Ok said ∷ []) (fills ++ said.fills.items)
more-joined parts fills said h = record {
  all = h.all ++ said ∷ [];
  read = ap (λ l. l ++ Ok said ∷ []) h.read ∙ sym (map-append (λ s. Ok s) h.all (said ∷ []));
  counts = ap (λ l. l ++ said.fills.items) h.counts ∙ ap (λ l. flat_map counts_of h.all ++ l) (sym (append-nil said.fills.items)) ∙ sym (flat_map-append counts_of h.all (said ∷ []));
}
  where
    counts_of : Said → List FillCounts
    counts_of s = s.fills.items

-- where the counts of each part are those of a chunk, and the chunks reach the end, all are those of the whole
pub chunks-counted : (size : ℕ) (all : List Said) (ms : List KeptShard) → ((n : ℕ) (d : Said) → n < length all → HaveCounted (entries_of (slice_chunk ms size n)) (get_or all n d).fills.items) → length ms ≤ length all * size
    → HaveCounted (entries_of ms) (flat_map (λ (said : Said). said.fills.items) all)
chunks-counted size [] [] each cover = none-counted
chunks-counted size [] (m ∷ ms) each cover = absurd (omega (arith, cover, zero-mul size))
chunks-counted size (said ∷ all) ms each cover =
    let fills : List FillCounts = flat_map (λ (s : Said). s.fills.items) all in
    let first : HaveCounted (entries_of (take size ms)) said.fills.items = subst (λ k. HaveCounted (entries_of (take size (drop k ms))) said.fills.items) (zero-mul size) (each 0 said (omega arith)) in
    let rest : HaveCounted (entries_of (drop size ms)) fills =
    chunks-counted size all (drop size ms) (λ n d low. subst (λ (l : List KeptShard). HaveCounted (entries_of l) (get_or all n d).fills.items) (next-chunk size ms n) (each (suc n) d (omega (arith, low)))) (omega (arith, cover, length-drop size ms, suc-mul (length all) size)) in
    subst (λ (es : List Entry). HaveCounted es (said.fills.items ++ fills)) (sym (entries-append (take size ms) (drop size ms)) ∙ ap entries_of (take-append-drop size ms))
    (both-counted (entries_of (take size ms)) (entries_of (drop size ms)) said.fills.items fills first rest)
