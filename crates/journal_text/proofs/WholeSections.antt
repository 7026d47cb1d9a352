-- A section that is read is spelled so, and what is spelled so is read.
use Rattle.std.proofs.Common.{◌≡◌, ℕ, ◌+◌, ◌-◌, ◌<◌, ◌≤◌, true, cond, ◌&&◌, ltb, lt-ltb, ltb-true, List, [], ◌∷◌, ◌++◌, length, drop, Option, Some, None, refl, sym, ap, subst, ◌∙◌, append_assoc, length-append, arith, inl, inr}
use Rattle.std.proofs.lemmas.Option.{cond_some, same_Some}
use Rattle.std.proofs.lemmas.List.{drop_at}
use Rattle.std.specs.Prelude.{flat_map, codes}
use Rattle.std.specs.List.{AllByRecursion}
use Rattle.std.proofs.lemmas.Bool.{and_parts}
use Rattle.journal_meaning.specs.declared.Entry.{Entry}
use Rattle.journal_text.specs.declared.sections.SectionKind.{SectionKind}
use Rattle.journal_text.specs.declared.sections.SectionKind.TheVariants.{Batch, Trim, Held}
use Rattle.journal_text.specs.declared.sections.Section.{Section}
use Rattle.texts.specs.fields.Spelling.{field, IsNumber}
use Rattle.journal_text.specs.Spelling.{line_feed, shard_lines, kind_word, section_lines, head_line, journal_lines}
use Rattle.journal_text.specs.Written.{IsNumbered, IsSection, most_shards}
use Rattle.texts.specs.fields.Reading.{◌>>=◌, after_word, field_at}
use Rattle.journal_text.specs.inner.Reading.{entry_at, shards_at, kind_at, section_at}
use Rattle.texts.proofs.Callers.{bind_some, after_takes, field_takes, field_again}
use Rattle.journal_text.proofs.Entries.{behind_some}
use Rattle.journal_text.proofs.Shards.{shards_takes, shards_again}

-- ---- the kind

abbrev kind_read : SectionKind → List ℕ → Option (SectionKind × List ℕ)
kind_read kind rest = Some (kind, rest)

kind_is : (word text r : List ℕ) (k kind : SectionKind) (rest : List ℕ) → after_word word text ≡ Some r → word ≡ kind_word k → kind_read k r ≡ kind_read kind rest → text ≡ kind_word kind ++ rest
kind_is word text r k kind rest found is e = subst (λ (read : SectionKind × List ℕ). text ≡ kind_word read.0 ++ read.1) (same_Some (k, r) (kind, rest) e) (after_takes word text r found ∙ ap (λ (l : List ℕ). l ++ r) is)

kind_takes : (text : List ℕ) (kind : SectionKind) (rest : List ℕ) → kind_at text ≡ Some (kind, rest) → text ≡ kind_word kind ++ rest
unfolding kind_at
kind_takes text kind rest e = elim (behind_some (after_word (codes "batch") text) (λ r. Some (Batch, r)) _ (kind, rest) e) [
  | inl (r, found, read) ↦ kind_is (codes "batch") text r Batch kind rest found refl read
  | inr other ↦ elim (behind_some (after_word (codes "trim") text) (λ r. Some (Trim, r)) _ (kind, rest) other) [
    | inl (r, found, read) ↦ kind_is (codes "trim") text r Trim kind rest found refl read
    | inr other2 ↦ elim (behind_some (after_word (codes "held") text) (λ r. Some (Held, r)) None (kind, rest) other2) [
      | inl (r, found, read) ↦ kind_is (codes "held") text r Held kind rest found refl read
      | inr none ↦ absurd cc
    ]
  ]
]

kind_again : (kind : SectionKind) (rest : List ℕ) → kind_at (kind_word kind ++ rest) ≡ Some (kind, rest)
unfolding kind_at
kind_again Batch rest = refl
kind_again Trim rest = refl
kind_again Held rest = refl

most_64 : (kind : SectionKind) → most_shards kind ≤ 64
most_64 Batch = omega arith
most_64 Trim = omega arith
most_64 Held = omega arith

-- ---- the section

abbrev Read : Type 0
Read = Section × List ℕ

abbrev whole : SectionKind → ℕ → List (List Entry) → Section
whole kind number shards = record { kind = kind; number = number; shards = shards }

abbrev ended : SectionKind → ℕ → List (List Entry) → List ℕ → Option Read
ended kind number shards rest = cond (ltb 0 number && ltb 0 (length shards)) (Some (whole kind number shards, rest)) None

section_joined : (text kind number lines k n f s rest : List ℕ) → text ≡ kind ++ k → k ≡ number ++ n → n ≡ line_feed ++ f → f ≡ lines ++ s → s ≡ codes "end\n" ++ rest → text ≡ (kind ++ (number ++ (line_feed ++ (lines ++ (codes "end" ++ line_feed))))) ++ rest
section_joined text kind number lines k n f s rest one two three four five =
    let end : List ℕ = codes "end" ++ line_feed in
    let last : lines ++ s ≡ (lines ++ end) ++ rest = ap (λ (l : List ℕ). lines ++ l) five ∙ sym (append_assoc lines end rest) in
    let line : number ++ n ≡ (number ++ (line_feed ++ (lines ++ end))) ++ rest = ap (λ (l : List ℕ). number ++ l) (three ∙ ap (λ (l : List ℕ). line_feed ++ l) (four ∙ last)) ∙ sym (append_assoc number (line_feed ++ (lines ++ end)) rest) in
    one ∙ ap (λ (l : List ℕ). kind ++ l) (two ∙ line) ∙ sym (append_assoc kind (number ++ (line_feed ++ (lines ++ end))) rest)

pub section_takes : (text : List ℕ) (section : Section) (rest : List ℕ) → section_at text ≡ Some (section, rest) → (text ≡ section_lines section ++ rest) × IsSection section
unfolding section_at
section_takes text section rest e =
    let (kind, one, more) = bind_some (kind_at text) (λ k. field_at k.1 >>= (λ n. after_word line_feed n.1 >>= (λ f. shards_at (most_shards k.0) 0 f >>= (λ s. after_word (codes "end\n") s.1 >>= ended k.0 n.0 s.0)))) (section, rest) e in
    let (number, two, more2) = bind_some (field_at kind.1) (λ n. after_word line_feed n.1 >>= (λ f. shards_at (most_shards kind.0) 0 f >>= (λ s. after_word (codes "end\n") s.1 >>= ended kind.0 n.0 s.0))) (section, rest) more in
    let (first, three, more3) = bind_some (after_word line_feed number.1) (λ f. shards_at (most_shards kind.0) 0 f >>= (λ s. after_word (codes "end\n") s.1 >>= ended kind.0 number.0 s.0)) (section, rest) more2 in
    let (shards, four, more4) = bind_some (shards_at (most_shards kind.0) 0 first) (λ s. after_word (codes "end\n") s.1 >>= ended kind.0 number.0 s.0) (section, rest) more3 in
    let (r, five, last) = bind_some (after_word (codes "end\n") shards.1) (ended kind.0 number.0 shards.0) (section, rest) more4 in
    let tests = cond_some (ltb 0 number.0 && ltb 0 (length shards.0)) (whole kind.0 number.0 shards.0, r) (section, rest) last in
    let both = and_parts _ _ tests.0 in
    let a = kind_takes text kind.0 kind.1 one in
    let b = field_takes kind.1 number.0 number.1 two in
    let c = after_takes line_feed number.1 first three in
    let d = shards_takes (most_shards kind.0) 0 first shards.0 shards.1 four in
    let f = after_takes (codes "end\n") shards.1 r five in
    let numbered : IsNumbered (whole kind.0 number.0 shards.0) = record { number = ltb-true _ _ both.0; some = ltb-true _ _ both.1; most = d.few } in
    subst (λ (read : Read). (text ≡ section_lines read.0 ++ read.1) × IsSection read.0) tests.1
    (section_joined text (kind_word kind.0) (field number.0) (shard_lines 0 shards.0) kind.1 number.1 first shards.1 r a b.0 c d.parts f, record { numbered = numbered; number = b.1; entries = d.are })

no_entry_at_end : (rest : List ℕ) → entry_at (codes "end\n" ++ rest) ≡ None
unfolding entry_at
no_entry_at_end rest = refl

pub section_again : (section : Section) (rest : List ℕ) → IsSection section → section_at (section_lines section ++ rest) ≡ Some (section, rest)
unfolding section_at
section_again section rest is =
    let kind = section.kind in
    let number = section.number in
    let shards = section.shards in
    let end : List ℕ = codes "end\n" ++ rest in
    let lines : List ℕ = shard_lines 0 shards ++ end in
    let apart : section_lines section ++ rest ≡ kind_word kind ++ (field number ++ (line_feed ++ lines)) =
    append_assoc (kind_word kind) (field number ++ (line_feed ++ (shard_lines 0 shards ++ codes "end\n"))) rest
    ∙ ap (λ (l : List ℕ). kind_word kind ++ l) (append_assoc (field number) (line_feed ++ (shard_lines 0 shards ++ codes "end\n")) rest
    ∙ ap (λ (l : List ℕ). field number ++ (line_feed ++ l)) (append_assoc (shard_lines 0 shards) (codes "end\n") rest)) in
    let one = kind_again kind (field number ++ (line_feed ++ lines)) in
    let two = field_again number (line_feed ++ lines) is.number refl in
    let three : shards_at (most_shards kind) 0 lines ≡ Some (shards, end) = shards_again (most_shards kind) 0 shards end is.entries is.numbered.most (omega (arith, is.numbered.most, most_64 kind)) (no_entry_at_end rest) refl in
    let some : ltb 0 number ≡ true = lt-ltb _ _ is.numbered.number in
    let shard : ltb 0 (length shards) ≡ true = lt-ltb _ _ is.numbered.some in
    ap section_at apart ∙ rw (one, two, three, some, shard) refl

-- ---- no text begins with two sections

pub one_section : (a b : Section) (x y : List ℕ) → IsSection a → IsSection b → section_lines a ++ x ≡ section_lines b ++ y → (a ≡ b) × (x ≡ y)
one_section a b x y isa isb same =
    let read : (a, x) ≡ (b, y) = same_Some (a, x) (b, y) (sym (section_again a x isa) ∙ ap section_at same ∙ section_again b y isb) in
    (ap (λ (r : Read). r.0) read, ap (λ (r : Read). r.1) read)

section_some : (s : Section) → 0 < length (section_lines s)
section_some s = word s.kind (field s.number ++ (line_feed ++ (shard_lines 0 s.shards ++ (codes "end" ++ line_feed))))
  where
    word : (kind : SectionKind) (rest : List ℕ) → 0 < length (kind_word kind ++ rest)
    word Batch rest = omega arith
    word Trim rest = omega arith
    word Held rest = omega arith

none_left : (s : Section) (rest : List ℕ) → [] ≡ section_lines s ++ rest → ⊥
none_left s rest e = omega (arith, section_some s, ap length e, length-append (section_lines s) rest)

same_sections : (a b : List Section) → AllByRecursion IsSection a → AllByRecursion IsSection b → flat_map section_lines a ≡ flat_map section_lines b → a ≡ b
same_sections [] [] isa isb same = refl
same_sections [] (s ∷ b) isa isb same = absurd (none_left s (flat_map section_lines b) same)
same_sections (s ∷ a) [] isa isb same = absurd (none_left s (flat_map section_lines a) (sym same))
same_sections (s ∷ a) (t ∷ b) isa isb same =
    let first = one_section s t (flat_map section_lines a) (flat_map section_lines b) isa.0 isb.0 same in
    ap (λ (u : Section). u ∷ a) first.0 ∙ ap (λ (l : List Section). t ∷ l) (same_sections a b isa.1 isb.1 first.1)

abbrev cells_line : ℕ → List ℕ → List ℕ
cells_line cells rest = codes " cells" ++ (field cells ++ (line_feed ++ rest))

head_apart : (shards cells : ℕ) (rest : List ℕ) → head_line shards cells ++ rest ≡ codes "journal shards" ++ (field shards ++ cells_line cells rest)
head_apart shards cells rest =
    ap (λ (l : List ℕ). codes "journal shards" ++ l) (append_assoc (field shards) (codes " cells" ++ (field cells ++ line_feed)) rest ∙ ap (λ (l : List ℕ). field shards ++ (codes " cells" ++ l)) (append_assoc (field cells) line_feed rest))

same_field : (m n : ℕ) (x y : List ℕ) → IsNumber m → IsNumber n → field_at (field m ++ x) ≡ Some (m, x) → field_at (field n ++ y) ≡ Some (n, y) → field m ++ x ≡ field n ++ y → (m ≡ n) × (x ≡ y)
same_field m n x y ms ns one two same =
    let read : (m, x) ≡ (n, y) = same_Some (m, x) (n, y) (sym one ∙ ap field_at same ∙ two) in
    (ap (λ (r : ℕ × List ℕ). r.0) read, ap (λ (r : ℕ × List ℕ). r.1) read)

pub one_journal : (shards cells shards' cells' : ℕ) (a b : List Section) → IsNumber shards → IsNumber cells → IsNumber shards' → IsNumber cells' → AllByRecursion IsSection a → AllByRecursion IsSection b → journal_lines shards cells a ≡ journal_lines shards' cells' b → (shards ≡ shards') × (cells ≡ cells') × (a ≡ b)
one_journal shards cells shards' cells' a b ss cs ss' cs' isa isb same =
    let x = flat_map section_lines a in
    let y = flat_map section_lines b in
    let lines : codes "journal shards" ++ (field shards ++ cells_line cells x) ≡ codes "journal shards" ++ (field shards' ++ cells_line cells' y) = sym (head_apart shards cells x) ∙ same ∙ head_apart shards' cells' y in
    let first = same_field shards shards' (cells_line cells x) (cells_line cells' y) ss ss' (field_again shards (cells_line cells x) ss refl) (field_again shards' (cells_line cells' y) ss' refl) (ap (drop 14) lines) in
    let second = same_field cells cells' (line_feed ++ x) (line_feed ++ y) cs cs' (field_again cells (line_feed ++ x) cs refl) (field_again cells' (line_feed ++ y) cs' refl) (ap (drop 6) first.1) in
    (first.0, second.0, same_sections a b isa isb (ap (drop 1) second.1))

-- ---- what the reader answers

abbrev pub section_read : Section → List ℕ → Option Read
section_read section rest = Some (section, rest)

abbrev pub answer : Section → ℕ → Option (Section × ℕ)
answer section len = Some (section, len)

pub not_read : (text : List ℕ) (section : Section) (rest : List ℕ) → section_at text ≡ None → IsSection section → text ≡ section_lines section ++ rest → ⊥
not_read text section rest none is same = let both : None ≡ section_read section rest = sym none ∙ ap section_at same ∙ section_again section rest is in cc

pub read_shorter : (text : List ℕ) (section : Section) (rest : List ℕ) → section_at text ≡ section_read section rest → length rest ≤ length text
read_shorter text section rest read = omega (arith, ap length (section_takes text section rest read).0, length-append (section_lines section) rest)

-- the length of the section's text
read_len : (text : List ℕ) (section : Section) (rest : List ℕ) → text ≡ section_lines section ++ rest → length text - length rest ≡ length (section_lines section)
read_len text section rest same = omega (arith, ap length same, length-append (section_lines section) rest)

pub read_found : (text : List ℕ) (section : Section) (rest : List ℕ) → section_at text ≡ section_read section rest → IsSection section × (text ≡ section_lines section ++ drop (length text - length rest) text)
read_found text section rest read =
    let taken = section_takes text section rest read in
    let behind' : drop (length text - length rest) text ≡ rest = ap (drop (length text - length rest)) taken.0 ∙ drop_at (section_lines section) rest (length text - length rest) (sym (read_len text section rest taken.0)) in
    (taken.1, taken.0 ∙ ap (λ (l : List ℕ). section_lines section ++ l) (sym behind'))

pub read_only : (text : List ℕ) (found : Section) (left : List ℕ) (section : Section) (rest : List ℕ) → section_at text ≡ section_read found left → IsSection section → text ≡ section_lines section ++ rest → answer found (length text - length left) ≡ answer section (length (section_lines section))
read_only text found left section rest read is same =
    let both : (found, left) ≡ (section, rest) = same_Some (found, left) (section, rest) (sym read ∙ ap section_at same ∙ section_again section rest is) in
    let len : length text - length left ≡ length (section_lines section) = ap (λ (r : Read). length text - length r.1) both ∙ read_len text section rest same in
    ap (λ (r : Read). answer r.0 (length text - length left)) both ∙ ap (answer section) len
