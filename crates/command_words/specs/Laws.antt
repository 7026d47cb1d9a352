-- Laws of the reading of words. Each holds while no option waits for its value, whatever words came before.
use Rattle.std.specs.Prelude.{◌≡◌, List, ◌∷◌, ◌++◌, None, codes}
use Rattle.command_words.specs.Words.{Text, Key, Workers, Shards, Cells, Work, Name, Said, what_is, read}

abbrev pub option_word : Key → Text
option_word Workers = codes "--workers"
option_word Shards = codes "--shards"
option_word Cells = codes "--cells"
option_word Work = codes "--work"

-- the value of an option is the next word, or follows `=` (61)
abbrev pub OneWordOrTwo : Type 0
OneWordOrTwo = (key : Key) (value : Text) (words : List Text) (said : Said)
    → read (option_word key ∷ value ∷ words) None said ≡ read ((option_word key ++ 61 ∷ value) ∷ words) None said

-- an option and a name next to each other may be swapped
abbrev pub AnyOrder : Type 0
AnyOrder = (key : Key) (value name : Text) (words : List Text) (said : Said) → what_is name ≡ Name
    → read (option_word key ∷ value ∷ name ∷ words) None said ≡ read (name ∷ option_word key ∷ value ∷ words) None said
