-- The shards of a section are read as they are spelled.
use Rattle.std.proofs.Common.{◌≡◌, ℕ, zero, suc, ◌+◌, ◌<◌, ◌≤◌, ◌^◌, true, cond, eqb, eq-eqb, List, [], ◌∷◌, ◌++◌, length, Option, Some, None, refl, sym, ap, subst, ◌∙◌, append_assoc, append-nil, arith, inl, inr}
use Rattle.std.proofs.lemmas.Bool.{eqb-true}
use Rattle.std.proofs.lemmas.Option.{cond_some, same_Some}
use Rattle.std.specs.Prelude.{flat_map, codes}
use Rattle.std.specs.List.{AllByRecursion}
use Rattle.journal_meaning.specs.declared.Entry.{Entry}
use Rattle.texts.specs.fields.Spelling.{field, IsNumber}
use Rattle.journal_text.specs.Spelling.{line_feed, entry_line, shard_lines}
use Rattle.journal_text.specs.Written.{IsEntry}
use Rattle.texts.specs.fields.Reading.{◌>>=◌, after_word, field_at}
use Rattle.journal_text.specs.inner.Reading.{behind, entry_at, entries_at, shard_at, shards_at}
use Rattle.texts.proofs.Callers.{bind_some, after_takes, field_takes, field_again, AreRead, items_take, items_again}
use Rattle.journal_text.proofs.Entries.{behind_some}
use Rattle.journal_text.proofs.Lines.{spelling}

shard_takes : (i : ℕ) (text : List ℕ) (es : List Entry) (rest : List ℕ) → shard_at i text ≡ Some (es, rest) → (text ≡ field i ++ (line_feed ++ (flat_map entry_line es ++ rest))) × AllByRecursion IsEntry es
unfolding shard_at
shard_takes i text es rest e =
    let (number, one, more) = bind_some (field_at text) (λ n. after_word line_feed n.1 >>= (λ r. cond (eqb n.0 i) (Some (entries_at (length r) r)) None)) (es, rest) e in
    let (r, two, last) = bind_some (after_word line_feed number.1) (λ r. cond (eqb number.0 i) (Some (entries_at (length r) r)) None) (es, rest) more in
    let is = cond_some (eqb number.0 i) (entries_at (length r) r) (es, rest) last in
    let a = field_takes text number.0 number.1 one in
    let b = after_takes line_feed number.1 r two in
    let c = items_take spelling (length r) r (omega arith) in
    let c' = subst (AreRead entry_at entry_line IsEntry r) is.1 c in
    (a.0 ∙ ap (λ (n : ℕ). field n ++ number.1) (eqb-true number.0 i is.0) ∙ ap (λ (l : List ℕ). field i ++ l) (b ∙ ap (λ (l : List ℕ). line_feed ++ l) c'.spelled), c'.items)

shard_again : (i : ℕ) (es : List Entry) (rest : List ℕ) → IsNumber i → AllByRecursion IsEntry es → entry_at rest ≡ None → shard_at i (field i ++ (line_feed ++ (flat_map entry_line es ++ rest))) ≡ Some (es, rest)
unfolding shard_at
shard_again i es rest small are stop =
    let text : List ℕ = flat_map entry_line es ++ rest in
    let number = field_again i (line_feed ++ text) small refl in
    let same : eqb i i ≡ true = eq-eqb i i refl in
    let entries : entries_at (length text) text ≡ (es, rest) = items_again spelling (length text) es rest are stop (omega arith) in
    rw (number, same) (ap Some entries)

-- ---- the shards from a number on

pub record Shards (most i : ℕ) (text : List ℕ) (shards : List (List Entry)) (rest : List ℕ) : Type 0 where
  pub parts : text ≡ shard_lines i shards ++ rest
  pub are : AllByRecursion (AllByRecursion IsEntry) shards
  pub few : length shards ≤ most

shard_first : (i : ℕ) (es : List Entry) (others : List (List Entry)) (text r r2 rest : List ℕ) → text ≡ codes "shard" ++ r → r ≡ field i ++ (line_feed ++ (flat_map entry_line es ++ r2)) → r2 ≡ shard_lines (i + 1) others ++ rest → text ≡ shard_lines i (es ∷ others) ++ rest
shard_first i es others text r r2 rest word line more =
    let lines = flat_map entry_line es in
    let behind' : lines ++ r2 ≡ (lines ++ shard_lines (i + 1) others) ++ rest = ap (λ (l : List ℕ). lines ++ l) more ∙ sym (append_assoc lines (shard_lines (i + 1) others) rest) in
    let numbered : field i ++ (line_feed ++ (lines ++ r2)) ≡ (field i ++ (line_feed ++ (lines ++ shard_lines (i + 1) others))) ++ rest =
    ap (λ (l : List ℕ). field i ++ (line_feed ++ l)) behind' ∙ sym (append_assoc (field i) (line_feed ++ (lines ++ shard_lines (i + 1) others)) rest) in
    word ∙ ap (λ (l : List ℕ). codes "shard" ++ l) (line ∙ numbered)

pub shards_takes : (most i : ℕ) (text : List ℕ) (shards : List (List Entry)) (rest : List ℕ) → shards_at most i text ≡ Some (shards, rest) → Shards most i text shards rest
shards_takes zero i text shards rest e = subst (λ (read : List (List Entry) × List ℕ). Shards 0 i text read.0 read.1) (same_Some ([], text) (shards, rest) e) (record { parts = refl; are = tt; few = omega arith })
shards_takes (suc most) i text shards rest e = elim (behind_some (after_word (codes "shard") text) (λ r. shard_at i r >>= (λ shard. shards_at most (i + 1) shard.1 >>= (λ more. Some (shard.0 ∷ more.0, more.1)))) (Some ([], text)) (shards, rest) e) [
  | inr none ↦ subst (λ (read : List (List Entry) × List ℕ). Shards (suc most) i text read.0 read.1) (same_Some ([], text) (shards, rest) none) (record { parts = refl; are = tt; few = omega arith })
  | inl (r, word, read) ↦
      let (shard, one, more) = bind_some (shard_at i r) (λ shard. shards_at most (i + 1) shard.1 >>= (λ more. Some (shard.0 ∷ more.0, more.1))) (shards, rest) read in
      let (others, two, last) = bind_some (shards_at most (i + 1) shard.1) (λ more. Some (shard.0 ∷ more.0, more.1)) (shards, rest) more in
      let a = shard_takes i r shard.0 shard.1 one in
      let b = shards_takes most (i + 1) shard.1 others.0 others.1 two in
      subst (λ (read : List (List Entry) × List ℕ). Shards (suc most) i text read.0 read.1) (same_Some (shard.0 ∷ others.0, others.1) (shards, rest) last)
      (record { parts = shard_first i shard.0 others.0 text r shard.1 others.1 (after_takes (codes "shard") text r word) a.0 b.parts; are = (a.1, b.are); few = omega (arith, b.few) })
]

-- no entry begins where the next shard does
shard_no_entry : (i : ℕ) (shards : List (List Entry)) (rest : List ℕ) → entry_at rest ≡ None → entry_at (shard_lines i shards ++ rest) ≡ None
unfolding entry_at
shard_no_entry i [] rest stop = stop
shard_no_entry i (es ∷ shards) rest stop = refl

abbrev others_at : ℕ → ℕ → List ℕ → Option (List (List Entry) × List ℕ)
others_at most i r = shard_at i r >>= (λ shard. shards_at most (i + 1) shard.1 >>= (λ more. Some (shard.0 ∷ more.0, more.1)))

pub shards_again : (most i : ℕ) (shards : List (List Entry)) (rest : List ℕ) → AllByRecursion (AllByRecursion IsEntry) shards → length shards ≤ most → i + length shards < 2 ^ 32 → entry_at rest ≡ None → after_word (codes "shard") rest ≡ None → shards_at most i (shard_lines i shards ++ rest) ≡ Some (shards, rest)
shards_again zero i [] rest are few small stop last = refl
shards_again (suc most) i [] rest are few small stop last = ap (λ o. behind o (others_at most i) (Some ([], rest))) last
shards_again zero i (es ∷ shards) rest are few small stop last = absurd (omega (arith, few))
shards_again (suc most) i (es ∷ shards) rest are few small stop last =
    let text : List ℕ = shard_lines (i + 1) shards ++ rest in
    let lines = flat_map entry_line es in
    let apart : (field i ++ (line_feed ++ (lines ++ shard_lines (i + 1) shards))) ++ rest ≡ field i ++ (line_feed ++ (lines ++ text)) =
    append_assoc (field i) (line_feed ++ (lines ++ shard_lines (i + 1) shards)) rest ∙ ap (λ (l : List ℕ). field i ++ (line_feed ++ l)) (append_assoc lines (shard_lines (i + 1) shards) rest) in
    let one : shard_at i (field i ++ (line_feed ++ (lines ++ text))) ≡ Some (es, text) = shard_again i es text (omega (arith, small)) are.0 (shard_no_entry (i + 1) shards rest stop) in
    let more : shards_at most (i + 1) text ≡ Some (shards, rest) = shards_again most (i + 1) shards rest are.1 (omega (arith, few)) (omega (arith, small)) stop last in
    ap (others_at most i) apart ∙ rw (one, more) refl

-- ---- the shards that were read, in front of those that are read next

abbrev pub put_shards : List (List Entry) → Option (List (List Entry) × List ℕ) → Option (List (List Entry) × List ℕ)
put_shards shards None = None
put_shards shards (Some more) = Some (shards ++ more.0, more.1)

put_one : (shards : List (List Entry)) (es : List Entry) (more : Option (List (List Entry) × List ℕ)) → put_shards shards (more >>= (λ m. Some (es ∷ m.0, m.1))) ≡ put_shards (shards ++ es ∷ []) more
put_one shards es None = refl
put_one shards es (Some more) = ap (λ (l : List (List Entry)). Some (l, more.1)) (sym (append_assoc shards (es ∷ []) more.0))

pub put_shard : (most left i : ℕ) (shards : List (List Entry)) (text line : List ℕ) (es : List Entry) (rest : List ℕ) → most ≡ suc left → after_word (codes "shard") text ≡ Some line → shard_at i line ≡ Some (es, rest) → put_shards (shards ++ es ∷ []) (shards_at left (i + 1) rest) ≡ put_shards shards (shards_at most i text)
put_shard most left i shards text line es rest is word shard =
    let read : shards_at (suc left) i text ≡ (shards_at left (i + 1) rest >>= (λ more. Some (es ∷ more.0, more.1))) =
    ap (λ o. behind o (others_at left i) (Some ([], text))) word ∙ ap (λ o. o >>= (λ (s : List Entry × List ℕ). shards_at left (i + 1) s.1 >>= (λ more. Some (s.0 ∷ more.0, more.1)))) shard in
    sym (ap (λ n. put_shards shards (shards_at n i text)) is ∙ ap (put_shards shards) read ∙ put_one shards es (shards_at left (i + 1) rest))

pub put_none : (most left i : ℕ) (shards : List (List Entry)) (text line : List ℕ) → most ≡ suc left → after_word (codes "shard") text ≡ Some line → shard_at i line ≡ None → put_shards shards (shards_at most i text) ≡ None
put_none most left i shards text line is word shard =
    ap (λ n. put_shards shards (shards_at n i text)) is ∙ ap (λ o. put_shards shards (behind o (others_at left i) (Some ([], text)))) word ∙ ap (λ o. put_shards shards (o >>= (λ (s : List Entry × List ℕ). shards_at left (i + 1) s.1 >>= (λ more. Some (s.0 ∷ more.0, more.1))))) shard

pub put_end : (most i : ℕ) (shards : List (List Entry)) (text : List ℕ) → after_word (codes "shard") text ≡ None → put_shards shards (shards_at most i text) ≡ Some (shards, text)
put_end zero i shards text word = ap (λ (l : List (List Entry)). Some (l, text)) (append-nil shards)
put_end (suc most) i shards text word = ap (λ o. put_shards shards (behind o (others_at most i) (Some ([], text)))) word ∙ ap (λ (l : List (List Entry)). Some (l, text)) (append-nil shards)

pub put_most : (most i : ℕ) (shards : List (List Entry)) (text : List ℕ) → most ≡ 0 → put_shards shards (shards_at most i text) ≡ Some (shards, text)
put_most most i shards text is = ap (λ n. put_shards shards (shards_at n i text)) is ∙ ap (λ (l : List (List Entry)). Some (l, text)) (append-nil shards)

abbrev pub shard_read : List Entry → List ℕ → Option (List Entry × List ℕ)
shard_read es rest = Some (es, rest)
