-- The words' spellings and orders.
use Rattle.std.proofs.Common.{◌≡◌, ◌∙◌, List, [], ◌∷◌, Bool, true, false, refl, sym, None, is_some, ap}
use Rattle.std.specs.Prelude.{option_and_then}
use Rattle.command_words.specs.Laws.{OneWordOrTwo, AnyOrder, option_word}
use Rattle.command_words.specs.Words.{Text, Key, Workers, Shards, Cells, Work, Alone, Name, Said, what_is, by_word, read, with_value, with_at, with_names, value_at}

pub one_word_or_two : OneWordOrTwo
one_word_or_two Workers value words said = refl
one_word_or_two Shards value words said = refl
one_word_or_two Cells value words said = refl
one_word_or_two Work value words said = refl

option_is : (key : Key) → what_is (option_word key) ≡ Alone key
option_is Workers = refl
option_is Shards = refl
option_is Cells = refl
option_is Work = refl

value_stays : (key : Key) (names : List Text) (said : Said) → value_at key (with_names names said) ≡ value_at key said
value_stays Workers names said = refl
value_stays Shards names said = refl
value_stays Cells names said = refl
value_stays Work names said = refl

change_places : (key : Key) (value : Text) (names : List Text) (said : Said) → with_names names (with_at key value said) ≡ with_at key value (with_names names said)
change_places Workers value names said = refl
change_places Shards value names said = refl
change_places Cells value names said = refl
change_places Work value names said = refl

option_read : (key : Key) (value : Text) (words : List Text) (said : Said)
    → read (option_word key ∷ value ∷ words) None said ≡ option_and_then (read words None) (with_value key value said)
option_read key value words said = ap (λ w. by_word w (option_word key) said (read (value ∷ words)) (value ∷ words)) (option_is key)

name_read : (name : Text) (words : List Text) (said : Said) → what_is name ≡ Name → read (name ∷ words) None said ≡ read words None (with_names (name ∷ []) said)
name_read name words said is = ap (λ w. by_word w name said (read words) words) is

pub any_order : AnyOrder
any_order key value name words said is =
    option_read key value (name ∷ words) said ∙ (go (is_some (value_at key said)) refl
    ∙ sym (name_read name (option_word key ∷ value ∷ words) said is ∙ option_read key value words (with_names (name ∷ []) said)))
  where
    go : (t : Bool) → is_some (value_at key said) ≡ t
        → option_and_then (read (name ∷ words) None) (with_value key value said) ≡ option_and_then (read words None) (with_value key value (with_names (name ∷ []) said))
    go true e = rw (value_stays key (name ∷ []) said, e) refl
    go false e = rw (value_stays key (name ∷ []) said, e) (name_read name words (with_at key value said) is ∙ ap (read words None) (change_places key value (name ∷ []) said))
