-- The forms of a line of a netlist.
use Rattle.std.specs.Prelude.{ℕ, Bool, ◌&&◌, List, [], ◌∷◌, Option, Some, None, if◌then◌else◌, codes}
use Rattle.std.specs.Str.{bytes_eq}
use Rattle.gate_values.specs.Spelling.{spells}
use Rattle.texts.specs.Text.{content, tokens, is_name}

pub data Line : Type 0 where
  Blank : Line
  Malformed : Line
  Input : (name : List ℕ) → Line
  Output : (name : List ℕ) → Line
  Gate : (name kind : List ℕ) (pins : List (List ℕ)) → Line

-- `(`
abbrev pub opening : ℕ
opening = 40

-- `)`
abbrev pub closing : ℕ
closing = 41

-- `,`
abbrev pub comma : ℕ
comma = 44

-- `=`
abbrev pub equals : ℕ
equals = 61

-- the token is this one byte
abbrev pub is_the : ℕ → List ℕ → Bool
is_the mark token = bytes_eq token (mark ∷ [])

abbrev pub with_front : List ℕ → Option (List (List ℕ)) → Option (List (List ℕ))
with_front n None = None
with_front n (Some ns) = Some (n ∷ ns)

abbrev pub only_end : List (List ℕ) → List ℕ → Option (List (List ℕ))
only_end [] n = Some (n ∷ [])
only_end (t ∷ more) n = None

-- one or more names divided by `,`, and then `)` as the last token
abbrev pub pin_list : List (List ℕ) → Option (List (List ℕ))
pin_list [] = None
pin_list (n ∷ []) = None
pin_list (n ∷ m ∷ more) = if is_name n then (if is_the closing m then only_end more n else (if is_the comma m then with_front n (pin_list more) else None)) else None

-- LIST and `)`
abbrev pub pins_of : List (List ℕ) → Option (List (List ℕ))
pins_of [] = None
pins_of (t ∷ []) = if is_the closing t then Some [] else None
pins_of (t ∷ u ∷ more) = pin_list (t ∷ u ∷ more)

abbrev pub gate_of : List ℕ → List ℕ → Option (List (List ℕ)) → Line
gate_of name kind None = Malformed
gate_of name kind (Some pins) = Gate name kind pins

-- what follows `name =`
abbrev pub gate_line : List ℕ → List (List ℕ) → Line
gate_line name [] = Malformed
gate_line name (k ∷ []) = Malformed
gate_line name (k ∷ paren ∷ more) = if is_name k && is_the opening paren then gate_of name k (pins_of more) else Malformed

abbrev pub port_of : List ℕ → List ℕ → Line
port_of word name = if spells word (codes "input") then Input name else (if spells word (codes "output") then Output name else Malformed)

-- what follows `word (`
abbrev pub port_line : List ℕ → List (List ℕ) → Line
port_line word [] = Malformed
port_line word (name ∷ []) = Malformed
port_line word (name ∷ close ∷ []) = if is_name name && is_the closing close then port_of word name else Malformed
port_line word (name ∷ close ∷ t ∷ more) = Malformed

abbrev pub by_tokens : List (List ℕ) → Line
by_tokens [] = Blank
by_tokens (a ∷ []) = Malformed
by_tokens (a ∷ b ∷ more) = if is_name a then (if is_the equals b then gate_line a more else (if is_the opening b then port_line a more else Malformed)) else Malformed

unfoldable pub line_of : List ℕ → Line
line_of bytes = by_tokens (tokens (content bytes))
