-- An entry that is read is spelled so, and what is spelled so is read.
use Rattle.std.proofs.Common.{◌≡◌, ℕ, ◌+◌, List, ◌++◌, Option, Some, None, refl, sym, ap, subst, ◌∙◌, append_assoc, ◌⊎◌, inl, inr}
use Rattle.std.specs.Prelude.{codes}
use Rattle.std.proofs.lemmas.Option.{same_Some}
use Rattle.journal_meaning.specs.declared.Entry.{Entry}
use Rattle.journal_meaning.specs.declared.Entry.TheVariants.{Told, Claimed, Filled, Evicted, Dropped, Spent}
use Rattle.texts.specs.fields.Spelling.{field}
use Rattle.journal_text.specs.Spelling.{point, cell, line_feed, entry_line}
use Rattle.journal_text.specs.Written.{IsEntry}
use Rattle.texts.specs.fields.Reading.{◌>>=◌, after_word, field_at}
use Rattle.journal_text.specs.inner.Reading.{behind, point_at, cell_at, told_at, claimed_at, filled_at, evicted_at, dropped_at, spent_at, entry_at}
use Rattle.texts.proofs.Callers.{bind_some, after_takes, field_takes}
use Rattle.journal_text.proofs.Fields.{point_takes, cell_takes}

-- a word, or what else there may be
pub behind_some : {A : Type 0} (o : Option (List ℕ)) (read : List ℕ → Option A) (other : Option A) (y : A) → behind o read other ≡ Some y → ((r : List ℕ) × (o ≡ Some r) × (read r ≡ Some y)) ⊎ (other ≡ Some y)
behind_some (Some r) read other y e = inl (r, refl, e)
behind_some None read other y e = inr e

-- the entry that was read, after its word
abbrev Line : List ℕ → List ℕ → Entry × List ℕ → Type 0
Line word text read = (word ++ text ≡ entry_line read.0 ++ read.1) × IsEntry read.0

-- joins what the parts of a line took
joined : (text a b c x y z : List ℕ) → text ≡ a ++ x → x ≡ b ++ y → y ≡ c ++ z → text ≡ (a ++ (b ++ c)) ++ z
joined text a b c x y z one two three = one ∙ ap (λ (l : List ℕ). a ++ l) (two ∙ ap (λ (l : List ℕ). b ++ l) three ∙ sym (append_assoc b c z)) ∙ sym (append_assoc a (b ++ c) z)

joined4 : (text a b c d x y z w : List ℕ) → text ≡ a ++ x → x ≡ b ++ y → y ≡ c ++ z → z ≡ d ++ w → text ≡ (a ++ (b ++ (c ++ d))) ++ w
joined4 text a b c d x y z w one two three four = joined text a b (c ++ d) x y w one two (three ∙ ap (λ (l : List ℕ). c ++ l) four ∙ sym (append_assoc c d w))

told_takes : (text : List ℕ) (e : Entry) (rest : List ℕ) → told_at text ≡ Some (e, rest) → Line (codes "told") text (e, rest)
unfolding told_at
told_takes text e rest is =
    let (q, one, more) = bind_some (field_at text) (λ q. point_at q.1 >>= (λ p. cell_at p.1 >>= (λ c. after_word line_feed c.1 >>= (λ r. Some (Told q.0 p.0 c.0, r))))) (e, rest) is in
    let (p, two, more2) = bind_some (point_at q.1) (λ p. cell_at p.1 >>= (λ c. after_word line_feed c.1 >>= (λ r. Some (Told q.0 p.0 c.0, r)))) (e, rest) more in
    let (c, three, more3) = bind_some (cell_at p.1) (λ c. after_word line_feed c.1 >>= (λ r. Some (Told q.0 p.0 c.0, r))) (e, rest) more2 in
    let (r, four, last) = bind_some (after_word line_feed c.1) (λ r. Some (Told q.0 p.0 c.0, r)) (e, rest) more3 in
    let a = field_takes text q.0 q.1 one in
    let b = point_takes q.1 p.0 p.1 two in
    let d = cell_takes p.1 c.0 c.1 three in
    let f = after_takes line_feed c.1 r four in
    subst (Line (codes "told") text) (same_Some _ _ last) (ap (λ (l : List ℕ). codes "told" ++ l) (joined4 text (field q.0) (point p.0) (cell c.0) line_feed q.1 p.1 c.1 r a.0 b.0 d.0 f), (a.1, b.1, d.1))

filled_takes : (text : List ℕ) (e : Entry) (rest : List ℕ) → filled_at text ≡ Some (e, rest) → Line (codes "fill") text (e, rest)
unfolding filled_at
filled_takes text e rest is =
    let (q, one, more) = bind_some (field_at text) (λ q. point_at q.1 >>= (λ p. cell_at p.1 >>= (λ c. after_word line_feed c.1 >>= (λ r. Some (Filled q.0 p.0 c.0, r))))) (e, rest) is in
    let (p, two, more2) = bind_some (point_at q.1) (λ p. cell_at p.1 >>= (λ c. after_word line_feed c.1 >>= (λ r. Some (Filled q.0 p.0 c.0, r)))) (e, rest) more in
    let (c, three, more3) = bind_some (cell_at p.1) (λ c. after_word line_feed c.1 >>= (λ r. Some (Filled q.0 p.0 c.0, r))) (e, rest) more2 in
    let (r, four, last) = bind_some (after_word line_feed c.1) (λ r. Some (Filled q.0 p.0 c.0, r)) (e, rest) more3 in
    let a = field_takes text q.0 q.1 one in
    let b = point_takes q.1 p.0 p.1 two in
    let d = cell_takes p.1 c.0 c.1 three in
    let f = after_takes line_feed c.1 r four in
    subst (Line (codes "fill") text) (same_Some _ _ last) (ap (λ (l : List ℕ). codes "fill" ++ l) (joined4 text (field q.0) (point p.0) (cell c.0) line_feed q.1 p.1 c.1 r a.0 b.0 d.0 f), (a.1, b.1, d.1))

claimed_takes : (text : List ℕ) (e : Entry) (rest : List ℕ) → claimed_at text ≡ Some (e, rest) → Line (codes "claim") text (e, rest)
unfolding claimed_at
claimed_takes text e rest is =
    let (q, one, more) = bind_some (field_at text) (λ q. point_at q.1 >>= (λ p. after_word line_feed p.1 >>= (λ r. Some (Claimed q.0 p.0, r)))) (e, rest) is in
    let (p, two, more2) = bind_some (point_at q.1) (λ p. after_word line_feed p.1 >>= (λ r. Some (Claimed q.0 p.0, r))) (e, rest) more in
    let (r, three, last) = bind_some (after_word line_feed p.1) (λ r. Some (Claimed q.0 p.0, r)) (e, rest) more2 in
    let a = field_takes text q.0 q.1 one in
    let b = point_takes q.1 p.0 p.1 two in
    let f = after_takes line_feed p.1 r three in
    subst (Line (codes "claim") text) (same_Some _ _ last) (ap (λ (l : List ℕ). codes "claim" ++ l) (joined text (field q.0) (point p.0) line_feed q.1 p.1 r a.0 b.0 f), (a.1, b.1))

dropped_takes : (text : List ℕ) (e : Entry) (rest : List ℕ) → dropped_at text ≡ Some (e, rest) → Line (codes "drop") text (e, rest)
unfolding dropped_at
dropped_takes text e rest is =
    let (q, one, more) = bind_some (field_at text) (λ q. point_at q.1 >>= (λ p. after_word line_feed p.1 >>= (λ r. Some (Dropped q.0 p.0, r)))) (e, rest) is in
    let (p, two, more2) = bind_some (point_at q.1) (λ p. after_word line_feed p.1 >>= (λ r. Some (Dropped q.0 p.0, r))) (e, rest) more in
    let (r, three, last) = bind_some (after_word line_feed p.1) (λ r. Some (Dropped q.0 p.0, r)) (e, rest) more2 in
    let a = field_takes text q.0 q.1 one in
    let b = point_takes q.1 p.0 p.1 two in
    let f = after_takes line_feed p.1 r three in
    subst (Line (codes "drop") text) (same_Some _ _ last) (ap (λ (l : List ℕ). codes "drop" ++ l) (joined text (field q.0) (point p.0) line_feed q.1 p.1 r a.0 b.0 f), (a.1, b.1))

evicted_takes : (text : List ℕ) (e : Entry) (rest : List ℕ) → evicted_at text ≡ Some (e, rest) → Line (codes "evict") text (e, rest)
unfolding evicted_at
evicted_takes text e rest is =
    let (s, one, more) = bind_some (field_at text) (λ s. field_at s.1 >>= (λ t. after_word line_feed t.1 >>= (λ r. Some (Evicted s.0 t.0, r)))) (e, rest) is in
    let (t, two, more2) = bind_some (field_at s.1) (λ t. after_word line_feed t.1 >>= (λ r. Some (Evicted s.0 t.0, r))) (e, rest) more in
    let (r, three, last) = bind_some (after_word line_feed t.1) (λ r. Some (Evicted s.0 t.0, r)) (e, rest) more2 in
    let a = field_takes text s.0 s.1 one in
    let b = field_takes s.1 t.0 t.1 two in
    let f = after_takes line_feed t.1 r three in
    subst (Line (codes "evict") text) (same_Some _ _ last) (ap (λ (l : List ℕ). codes "evict" ++ l) (joined text (field s.0) (field t.0) line_feed s.1 t.1 r a.0 b.0 f), (a.1, b.1))

spent_takes : (text : List ℕ) (e : Entry) (rest : List ℕ) → spent_at text ≡ Some (e, rest) → Line (codes "spent") text (e, rest)
unfolding spent_at
spent_takes text e rest is =
    let (q, one, more) = bind_some (field_at text) (λ q. point_at q.1 >>= (λ p. field_at p.1 >>= (λ h. after_word line_feed h.1 >>= (λ r. Some (Spent q.0 p.0 h.0, r))))) (e, rest) is in
    let (p, two, more2) = bind_some (point_at q.1) (λ p. field_at p.1 >>= (λ h. after_word line_feed h.1 >>= (λ r. Some (Spent q.0 p.0 h.0, r)))) (e, rest) more in
    let (h, three, more3) = bind_some (field_at p.1) (λ h. after_word line_feed h.1 >>= (λ r. Some (Spent q.0 p.0 h.0, r))) (e, rest) more2 in
    let (r, four, last) = bind_some (after_word line_feed h.1) (λ r. Some (Spent q.0 p.0 h.0, r)) (e, rest) more3 in
    let a = field_takes text q.0 q.1 one in
    let b = point_takes q.1 p.0 p.1 two in
    let d = field_takes p.1 h.0 h.1 three in
    let f = after_takes line_feed h.1 r four in
    subst (Line (codes "spent") text) (same_Some _ _ last) (ap (λ (l : List ℕ). codes "spent" ++ l) (joined4 text (field q.0) (point p.0) (field h.0) line_feed q.1 p.1 h.1 r a.0 b.0 d.0 f), (a.1, b.1, d.1))

abbrev Taken : List ℕ → Entry → List ℕ → Type 0
Taken text e rest = (text ≡ entry_line e ++ rest) × IsEntry e

word_then : (word text : List ℕ) (e : Entry) (rest : List ℕ) (r : List ℕ) → after_word word text ≡ Some r → Line word r (e, rest) → Taken text e rest
word_then word text e rest r found line = (after_takes word text r found ∙ line.0, line.1)

pub entry_takes : (text : List ℕ) (e : Entry) (rest : List ℕ) → entry_at text ≡ Some (e, rest) → (text ≡ entry_line e ++ rest) × IsEntry e
unfolding entry_at
entry_takes text e rest is = elim (behind_some (after_word (codes "told") text) told_at _ (e, rest) is) [
  | inl (r, found, read) ↦ word_then (codes "told") text e rest r found (told_takes r e rest read)
  | inr other ↦ elim (behind_some (after_word (codes "claim") text) claimed_at _ (e, rest) other) [
    | inl (r, found, read) ↦ word_then (codes "claim") text e rest r found (claimed_takes r e rest read)
    | inr other2 ↦ elim (behind_some (after_word (codes "fill") text) filled_at _ (e, rest) other2) [
      | inl (r, found, read) ↦ word_then (codes "fill") text e rest r found (filled_takes r e rest read)
      | inr other3 ↦ elim (behind_some (after_word (codes "evict") text) evicted_at _ (e, rest) other3) [
        | inl (r, found, read) ↦ word_then (codes "evict") text e rest r found (evicted_takes r e rest read)
        | inr other4 ↦ elim (behind_some (after_word (codes "drop") text) dropped_at _ (e, rest) other4) [
          | inl (r, found, read) ↦ word_then (codes "drop") text e rest r found (dropped_takes r e rest read)
          | inr other5 ↦ elim (behind_some (after_word (codes "spent") text) spent_at None (e, rest) other5) [
            | inl (r, found, read) ↦ word_then (codes "spent") text e rest r found (spent_takes r e rest read)
            | inr none ↦ absurd cc
          ]
        ]
      ]
    ]
  ]
]
