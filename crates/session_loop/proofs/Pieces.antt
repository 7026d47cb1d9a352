-- Texts that are written piece by piece.
use Rattle.std.proofs.Common.{◌≡◌, ℕ, zero, suc, ◌+◌, ◌<◌, List, [], ◌∷◌, ◌++◌, length, length-take, get_or, take, drop, refl, sym, ap, ◌∙◌, append_assoc, append-nil, arith}
use Rattle.std.specs.Prelude.{flat_map, codes}
use Rattle.journal_text.specs.declared.sections.SectionKind.{SectionKind}
use Rattle.std.proofs.lemmas.List.{take_more, take-append-drop}
use Rattle.std.proofs.lemmas.List.Concat.{flat_map-append}
use Rattle.journal_meaning.specs.declared.Entry.{Entry}
use Rattle.texts.specs.fields.Spelling.{field}
use Rattle.journal_text.specs.Spelling.{line_feed, entry_line, shard_lines, kind_word, section_lines}
use Rattle.query_lines.specs.declared.unit.Item.{Item}
use Rattle.reply_lines.specs.declared.reply.Reply.{Reply}
use Rattle.reply_lines.specs.Replies.{text_of}
use Rattle.session_meaning.specs.Replies.{replies_text}
use Rattle.session_meaning.specs.Broken.{IsPrefix}
use Rattle.session_loop.specs.inner.Growing.{shard_line}

-- the replies to the first items, and to one more
replies-more : (items : List Item) (replies : List Reply) (i : ℕ) (a : Item) (b : Reply) → i < length items → i < length replies
    → replies_text (take (i + 1) items) (take (i + 1) replies) ≡ replies_text (take i items) (take i replies) ++ text_of (get_or items i a) (get_or replies i b)
replies-more [] replies i a b l m = absurd (omega (arith, l))
replies-more (x ∷ items) [] i a b l m = absurd (omega (arith, m))
replies-more (x ∷ items) (y ∷ replies) zero a b l m = append-nil (text_of x y)
replies-more (x ∷ items) (y ∷ replies) (suc i) a b l m =
    let next : suc i + 1 ≡ suc (i + 1) = omega arith in
    ap (λ n. replies_text (take n (x ∷ items)) (take n (y ∷ replies))) next
    ∙ ap (λ t. text_of x y ++ t) (replies-more items replies i a b (omega (arith, l)) (omega (arith, m)))
    ∙ sym (append_assoc (text_of x y) (replies_text (take i items) (take i replies)) (text_of (get_or items i a) (get_or replies i b)))

replies-none : (items : List Item) → replies_text items [] ≡ []
replies-none [] = refl
replies-none (x ∷ items) = refl

replies-split : (i : ℕ) (items : List Item) (replies : List Reply) → replies_text items replies ≡ replies_text (take i items) (take i replies) ++ replies_text (drop i items) (drop i replies)
replies-split zero items replies = refl
replies-split (suc i) [] replies = refl
replies-split (suc i) (x ∷ items) [] = sym (replies-none (drop i items))
replies-split (suc i) (x ∷ items) (y ∷ replies) =
    ap (λ t. text_of x y ++ t) (replies-split i items replies) ∙ sym (append_assoc (text_of x y) (replies_text (take i items) (take i replies)) (replies_text (drop i items) (drop i replies)))

-- the texts of one reply more
pub replies-next : (items : List Item) (replies : List Reply) (i : ℕ) (a : Item) (b : Reply) → i < length items → i < length replies → a ≡ get_or items i a → b ≡ get_or replies i b
    → replies_text (take (i + 1) items) (take (i + 1) replies) ≡ replies_text (take i items) (take i replies) ++ text_of a b
replies-next items replies i a b within inside item reply =
    replies-more items replies i a b within inside
    ∙ ap (λ x. replies_text (take i items) (take i replies) ++ text_of x (get_or replies i b)) (sym item) ∙ ap (λ y. replies_text (take i items) (take i replies) ++ text_of a y) (sym reply)

-- and of those after it
pub replies-after : (items : List Item) (replies : List Reply) (i : ℕ) (a : Item) (b : Reply) → i < length items → i < length replies → a ≡ get_or items i a → b ≡ get_or replies i b
    → replies_text items replies ≡ (replies_text (take i items) (take i replies) ++ text_of a b) ++ replies_text (drop (i + 1) items) (drop (i + 1) replies)
replies-after items replies i a b within inside item reply =
    replies-split (i + 1) items replies ∙ ap (λ l. l ++ replies_text (drop (i + 1) items) (drop (i + 1) replies)) (replies-next items replies i a b within inside item reply)

-- entries
abbrev lines_of : List Entry → List ℕ
lines_of es = flat_map entry_line es

-- the lines of one entry more
pub lines-next : (es : List Entry) (i : ℕ) (e : Entry) → i < length es → e ≡ get_or es i e → flat_map entry_line (take (i + 1) es) ≡ flat_map entry_line (take i es) ++ entry_line e
lines-next es i e within is =
    ap lines_of (take_more es i e within ∙ ap (λ x. take i es ++ x ∷ []) (sym is)) ∙ flat_map-append entry_line (take i es) (e ∷ [])
    ∙ ap (λ l. lines_of (take i es) ++ l) (append-nil (entry_line e))

-- and of those after it
pub lines-after : (es : List Entry) (i : ℕ) (e : Entry) → i < length es → e ≡ get_or es i e → flat_map entry_line es ≡ (flat_map entry_line (take i es) ++ entry_line e) ++ flat_map entry_line (drop (i + 1) es)
lines-after es i e within is =
    ap lines_of (sym (take-append-drop (i + 1) es)) ∙ flat_map-append entry_line (take (i + 1) es) (drop (i + 1) es)
    ∙ ap (λ l. l ++ lines_of (drop (i + 1) es)) (lines-next es i e within is)

-- the texts that are left, of one text after another
module _ {X : Type 0} (f : X → List ℕ) where
  pub texts-left : (xs : List X) (i : ℕ) (x : X) → i < length xs → x ≡ get_or xs i x → flat_map f (drop i xs) ≡ f x ++ flat_map f (drop (i + 1) xs)
  texts-left [] i x within is = absurd (omega (arith, within))
  texts-left (y ∷ xs) zero x within is = ap (λ z. f z ++ flat_map f xs) (sym is)
  texts-left (y ∷ xs) (suc i) x within is =
      let next : suc (i + 1) ≡ suc i + 1 = omega arith in
      texts-left xs i x (omega (arith, within)) is ∙ ap (λ n. f x ++ flat_map f (drop n (y ∷ xs))) next

-- what stands behind five parts, apart from them
parts-apart : (a b c d e f : List ℕ) → a ++ (b ++ (c ++ (d ++ (e ++ f)))) ≡ (a ++ (b ++ (c ++ (d ++ e)))) ++ f
parts-apart a b c d e f = simp append_assoc

-- shards
shards-more : (k : ℕ) (lists : List (List Entry)) (es : List Entry) → shard_lines k (lists ++ es ∷ []) ≡ shard_lines k lists ++ (shard_line (k + length lists) ++ flat_map entry_line es)
shards-more k [] es =
    let e : k ≡ k + 0 = omega arith in
    regroup (codes "shard") (field k) line_feed (lines_of es) ∙ ap (λ n. shard_line n ++ lines_of es) e
  where
    regroup : (a b c d : List ℕ) → a ++ (b ++ (c ++ (d ++ []))) ≡ (a ++ (b ++ c)) ++ d
    regroup a b c d = simp (append_assoc, append-nil)
shards-more k (x ∷ lists) es =
    ap (λ l. codes "shard" ++ (field k ++ (line_feed ++ (lines_of x ++ l)))) (shards-more (k + 1) lists es ∙ ap (λ n. shard_lines (k + 1) lists ++ (shard_line n ++ lines_of es)) (omega arith))
    ∙ parts-apart (codes "shard") (field k) line_feed (lines_of x) (shard_lines (k + 1) lists) (shard_line (k + suc (length lists)) ++ lines_of es)

shards-split : (i k : ℕ) (lists : List (List Entry)) → shard_lines k lists ≡ shard_lines k (take i lists) ++ shard_lines (k + i) (drop i lists)
shards-split zero k lists = ap (λ n. shard_lines n lists) (omega arith)
shards-split (suc i) k [] = refl
shards-split (suc i) k (x ∷ lists) =
    ap (λ l. codes "shard" ++ (field k ++ (line_feed ++ (lines_of x ++ l)))) (shards-split i (k + 1) lists ∙ ap (λ n. shard_lines (k + 1) (take i lists) ++ shard_lines n (drop i lists)) (omega arith))
    ∙ parts-apart (codes "shard") (field k) line_feed (lines_of x) (shard_lines (k + 1) (take i lists)) (shard_lines (k + suc i) (drop i lists))

-- the lines of one shard more
pub shards-next : (lists : List (List Entry)) (i : ℕ) (es : List Entry) → i < length lists → es ≡ get_or lists i es → shard_lines 0 (take (i + 1) lists) ≡ shard_lines 0 (take i lists) ++ (shard_line i ++ flat_map entry_line es)
shards-next lists i es within is =
    ap (shard_lines 0) (take_more lists i es within ∙ ap (λ x. take i lists ++ x ∷ []) (sym is)) ∙ shards-more 0 (take i lists) es
    ∙ ap (λ n. shard_lines 0 (take i lists) ++ (shard_line n ++ lines_of es)) (omega (arith, length-take i lists, within))

-- and of those after it
pub shards-after : (lists : List (List Entry)) (i : ℕ) (es : List Entry) → i < length lists → es ≡ get_or lists i es
    → shard_lines 0 lists ≡ (shard_lines 0 (take i lists) ++ (shard_line i ++ flat_map entry_line es)) ++ shard_lines (0 + (i + 1)) (drop (i + 1) lists)
shards-after lists i es within is = shards-split (i + 1) 0 lists ∙ ap (λ l. l ++ shard_lines (0 + (i + 1)) (drop (i + 1) lists)) (shards-next lists i es within is)

-- the parts of a section
abbrev pub section_head : SectionKind → ℕ → List ℕ
section_head kind number = kind_word kind ++ (field number ++ line_feed)

pub section-parts : (kind : SectionKind) (number : ℕ) (lists : List (List Entry)) → section_lines (record { kind = kind; number = number; shards = lists }) ≡ section_head kind number ++ (shard_lines 0 lists ++ codes "end\n")
section-parts kind number lists = regroup (kind_word kind) (field number) line_feed (shard_lines 0 lists) (codes "end\n")
  where
    regroup : (a b c d e : List ℕ) → a ++ (b ++ (c ++ (d ++ e))) ≡ (a ++ (b ++ c)) ++ (d ++ e)
    regroup a b c d e = simp append_assoc

pub shards-of-section : (kind : SectionKind) (number : ℕ) (lists : List (List Entry)) → IsPrefix (section_head kind number ++ shard_lines 0 lists) (section_lines (record { kind = kind; number = number; shards = lists }))
shards-of-section kind number lists = (codes "end\n", section-parts kind number lists ∙ sym (append_assoc (section_head kind number) (shard_lines 0 lists) (codes "end\n")))
