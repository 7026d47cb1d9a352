-- The rules that the text files share.
use Rattle.std.specs.Prelude.{ℕ, ◌+◌, ◌-◌, ◌*◌, Bool, true, false, not, ◌&&◌, ◌||◌, nat_le, ◌==◌, List, [], ◌∷◌, filter, fold, if◌then◌else◌}
use Rattle.std.specs.List.{slice_split, before_first, list_all, flat_map}
use Rattle.texts.specs.declared.Amount.{Amount}
use Rattle.texts.specs.declared.Amount.TheVariants.{NoNumber, Above, Within}

-- the line feed
abbrev pub is_feed : ℕ → Bool
is_feed b = b == 10

-- space, tab and carriage return
abbrev pub is_blank : ℕ → Bool
is_blank b = b == 32 || b == 9 || b == 13

-- `#`
abbrev pub is_hash : ℕ → Bool
is_hash b = b == 35

-- `(`, `)`, `,` and `=`
abbrev pub is_mark : ℕ → Bool
is_mark b = b == 40 || b == 41 || b == 44 || b == 61

-- a visible byte that is no mark and no `#`
abbrev pub is_name_byte : ℕ → Bool
is_name_byte b = nat_le 33 b && nat_le b 126 && not (is_mark b) && not (is_hash b)

-- what may stand behind a token
abbrev pub ends_token : ℕ → Bool
ends_token b = is_blank b || is_mark b || is_hash b

-- `0` to `9`
abbrev pub is_digit : ℕ → Bool
is_digit b = nat_le 48 b && nat_le b 57

-- an empty part after the last line feed is no line
abbrev pub less_empty_last : List (List ℕ) → List (List ℕ)
less_empty_last [] = []
less_empty_last ([] ∷ []) = []
less_empty_last ((b ∷ part) ∷ []) = (b ∷ part) ∷ []
less_empty_last (part ∷ next ∷ parts) = part ∷ less_empty_last (next ∷ parts)

-- the lines of a text: the parts between its line feeds
unfoldable pub lines : List ℕ → List (List ℕ)
lines text = less_empty_last (slice_split is_feed text)

-- what counts of a line: what stands before its comment
abbrev pub content : List ℕ → List ℕ
content line = before_first is_hash line

abbrev pub is_filled : List ℕ → Bool
is_filled [] = false
is_filled (b ∷ bytes) = true

-- the words: the parts between blanks that aren't empty
unfoldable pub words : List ℕ → List (List ℕ)
words bytes = filter is_filled (slice_split is_blank bytes)

-- a mark stands as if between blanks
abbrev pub spaced_mark : ℕ → List ℕ
spaced_mark b = if is_mark b then 32 ∷ b ∷ 32 ∷ [] else b ∷ []

-- the tokens: the words, where each mark stands as if between blanks
unfoldable pub tokens : List ℕ → List (List ℕ)
tokens bytes = words (flat_map spaced_mark bytes)

abbrev pub is_name : List ℕ → Bool
is_name word = is_filled word && list_all is_name_byte word

-- the tokens of a line, less its comment
unfoldable pub line_tokens : List ℕ → List (List ℕ)
line_tokens line = tokens (content line)

-- the first of these tokens is a name
abbrev pub starts_with_name : List (List ℕ) → Bool
starts_with_name [] = false
starts_with_name (token ∷ more) = is_name token

-- the token is a mark
abbrev pub is_mark_token : List ℕ → Bool
is_mark_token [] = false
is_mark_token (b ∷ []) = is_mark b
is_mark_token (b ∷ c ∷ more) = false

-- the first of these tokens is a mark
abbrev pub starts_with_mark : List (List ℕ) → Bool
starts_with_mark [] = false
starts_with_mark (token ∷ more) = is_mark_token token

abbrev pub is_number : List ℕ → Bool
is_number word = is_filled word && list_all is_digit word

-- the value of a word of digits
abbrev pub decimal_value : List ℕ → ℕ
decimal_value word = fold (λ n b. n * 10 + (b - 48)) 0 word

-- a number of any length: above the limit, or its value
abbrev pub amount : ℕ → List ℕ → Amount
amount limit word = if is_number word then (if nat_le (decimal_value word) limit then Within (decimal_value word) else Above) else NoNumber
