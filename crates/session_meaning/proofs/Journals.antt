-- The text of a journal with one section more, and beginnings of texts.
use Rattle.std.proofs.Common.{◌≡◌, ℕ, ◌+◌, List, [], ◌∷◌, ◌++◌, length, refl, sym, ap, ◌∙◌, append_assoc, append-nil, arith}
use Rattle.std.specs.Prelude.{flat_map}
use Rattle.std.proofs.lemmas.List.Concat.{flat_map-append}
use Rattle.journal_meaning.specs.declared.Entry.{Entry}
use Rattle.journal_meaning.specs.Sections.{SectionEntries, Purpose}
use Rattle.journal_text.specs.Spelling.{section_lines, head_line}
use Rattle.session_meaning.specs.Written.{numbered_section, numbered_from}
use Rattle.session_meaning.specs.Session.{Setup, Course, with_section}
use Rattle.session_meaning.specs.Broken.{IsPrefix, journal_of}

numbered-more : (n : ℕ) (sections : List SectionEntries) (section : SectionEntries) → numbered_from n (sections ++ section ∷ []) ≡ numbered_from n sections ++ numbered_section (n + length sections) section ∷ []
numbered-more n [] section = ap (λ k. numbered_section k section ∷ []) (omega arith)
numbered-more n (s ∷ sections) section =
    ap (λ l. numbered_section n s ∷ l) (numbered-more (n + 1) sections section ∙ ap (λ k. numbered_from (n + 1) sections ++ numbered_section k section ∷ []) (omega arith))

-- one section more
pub journal-more : (setup : Setup) (now : Course) (purpose : Purpose) (lists : List (List Entry)) (text : List ℕ) (number : ℕ) → number ≡ length now.sections + 1
    → journal_of setup (with_section now purpose lists text) ≡ journal_of setup now ++ section_lines (numbered_section number (record { purpose = purpose; lists = lists }))
journal-more setup now purpose lists text number is =
    let s : SectionEntries = record { purpose = purpose; lists = lists } in
    let head = head_line setup.shards setup.capacity in
    let before = numbered_from 1 now.sections in
    ap (λ l. head ++ flat_map section_lines l) (numbered-more 1 now.sections s)
    ∙ ap (λ k. head ++ flat_map section_lines (before ++ numbered_section k s ∷ [])) (omega (arith, is))
    ∙ ap (λ l. head ++ l) (flat_map-append section_lines before (numbered_section number s ∷ []) ∙ ap (λ l. flat_map section_lines before ++ l) (append-nil (section_lines (numbered_section number s))))
    ∙ sym (append_assoc head (flat_map section_lines before) (section_lines (numbered_section number s)))

pub prefix-same : (text : List ℕ) → IsPrefix text text
prefix-same text = ([], sym (append-nil text))

pub prefix-more : (a b : List ℕ) → IsPrefix a (a ++ b)
prefix-more a b = (b, refl)

pub prefix-behind : (before part whole : List ℕ) → IsPrefix part whole → IsPrefix (before ++ part) (before ++ whole)
prefix-behind before part whole p = (p.0, ap (λ l. before ++ l) p.1 ∙ sym (append_assoc before part p.0))

pub prefix-longer : (part whole more : List ℕ) → IsPrefix part whole → IsPrefix part (whole ++ more)
prefix-longer part whole more p = (p.0 ++ more, ap (λ l. l ++ more) p.1 ∙ append_assoc part p.0 more)

pub prefix-again : (a b c : List ℕ) → IsPrefix a b → IsPrefix b c → IsPrefix a c
prefix-again a b c p q = (p.0 ++ q.0, q.1 ∙ ap (λ l. l ++ q.0) p.1 ∙ append_assoc a p.0 q.0)
