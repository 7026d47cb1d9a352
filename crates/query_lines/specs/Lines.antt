-- The forms of a script's lines.
use Rattle.std.specs.Prelude.{ℕ, ◌+◌, nat_le, List, [], ◌∷◌, length, Option, Some, None, option_map, if◌then◌else◌, codes}
use Rattle.std.specs.Str.{bytes_eq}
use Rattle.gate_values.specs.declared.Value.{Value}
use Rattle.gate_values.specs.declared.Value.TheVariants.{Zero, One}
use Rattle.gate_values.specs.Spelling.{value_of_word}
use Rattle.texts.specs.declared.Amount.{Amount}
use Rattle.texts.specs.declared.Amount.TheVariants as amounts
use Rattle.texts.specs.Text.{amount, content, is_name, words}
use Rattle.query_lines.specs.declared.line.Line.{Line}
use Rattle.query_lines.specs.declared.line.Line.TheVariants.{Blank, Ask, Go, Trim, Stats, Question, Vcd, Bad}
use Rattle.query_lines.specs.declared.line.What.TheVariants as whats
use Rattle.query_lines.specs.declared.line.Tell.{Tell}
use Rattle.query_lines.specs.declared.line.Tell.TheVariants.{Wave, At}
use Rattle.query_lines.specs.declared.line.Asks.{Asks}
use Rattle.query_lines.specs.declared.line.Asks.TheVariants.{First, Why, Stuck}
use Rattle.query_lines.specs.declared.line.Window.{Window}

abbrev pub within : Amount → Option ℕ
within amounts.NoNumber = None
within amounts.Above = None
within (amounts.Within n) = Some n

-- a number that is at most the limit
abbrev pub number_up_to : ℕ → List ℕ → Option ℕ
number_up_to limit word = within (amount limit word)

-- FROM, TO and T
abbrev pub instant : List ℕ → Option ℕ
instant word = number_up_to 4294967294 word

-- BUDGET, which a line may leave out
abbrev pub budget_of : List (List ℕ) → Option ℕ
budget_of [] = Some 50000
budget_of (budget ∷ []) = number_up_to 500000 budget
budget_of (budget ∷ word ∷ words) = None

-- NAME FROM TO BUDGET
abbrev pub window_of_parts : List ℕ → Option ℕ → Option ℕ → Option ℕ → Option Window
window_of_parts name (Some from) (Some to) (Some budget) =
    if is_name name then Some (record { name = name; from = from; to = to; budget = budget }) else None
window_of_parts name (Some from) (Some to) None = None
window_of_parts name (Some from) None budget = None
window_of_parts name None to budget = None

-- after NAME: FROM TO or FROM TO BUDGET
abbrev pub window_of : List ℕ → List (List ℕ) → Option Window
window_of name [] = None
window_of name (from ∷ []) = None
window_of name (from ∷ to ∷ budget) = window_of_parts name (instant from) (instant to) (budget_of budget)

-- after NAME: T or T BUDGET, for the window from T to T + 1
abbrev pub instant_of : List ℕ → List (List ℕ) → Option Window
instant_of name [] = None
instant_of name (time ∷ budget) =
    window_of_parts name (instant time) (option_map (λ t. t + 1) (instant time)) (budget_of budget)

-- an item that asks for the window, if there is one, and tells the answer in this way
abbrev pub item_line : Tell → Option Window → Line
item_line tell (Some window) = Ask (whats.Window window tell)
item_line tell None = Bad

-- a question that asks this of the window, if there are both
abbrev pub question_line : Option Asks → Option Window → Line
question_line (Some asks) (Some window) = Question window asks
question_line (Some asks) None = Bad
question_line None window = Bad

-- after `wave`: NAME and its window
abbrev pub wave_of : List (List ℕ) → Line
wave_of [] = Bad
wave_of (name ∷ words) = item_line Wave (window_of name words)

-- after `at`: NAME and its instant
abbrev pub at_of : List (List ℕ) → Line
at_of [] = Bad
at_of (name ∷ words) = item_line At (instant_of name words)

-- after `first`: NAME VALUE and the window of the name
abbrev pub first_of : List (List ℕ) → Line
first_of [] = Bad
first_of (name ∷ []) = Bad
first_of (name ∷ value ∷ words) = question_line (option_map First (value_of_word value)) (window_of name words)

-- after `why`: NAME and its instant
abbrev pub why_of : List (List ℕ) → Line
why_of [] = Bad
why_of (name ∷ words) = question_line (Some Why) (instant_of name words)

-- after `vcd`: FILE
abbrev pub dump_of : List (List ℕ) → Line
dump_of [] = Bad
dump_of (file ∷ []) = if is_name file then Vcd file else Bad
dump_of (file ∷ word ∷ words) = Bad

-- V, at which a signal is stuck
abbrev pub level_of : List ℕ → Option Value
level_of word = if bytes_eq word (codes "0") then Some Zero else (if bytes_eq word (codes "1") then Some One else None)

-- SITE V
abbrev pub stuck_at : List ℕ → Option Value → Option Asks
stuck_at site (Some value) = if is_name site then Some (Stuck site value) else None
stuck_at site None = None

-- after `stuck`: SITE V NAME and the window of the name
abbrev pub stuck_of : List (List ℕ) → Line
stuck_of [] = Bad
stuck_of (site ∷ []) = Bad
stuck_of (site ∷ value ∷ []) = Bad
stuck_of (site ∷ value ∷ name ∷ words) = question_line (stuck_at site (level_of value)) (window_of name words)

abbrev pub trim_of_part : Option ℕ → Line
trim_of_part (Some n) = Trim n
trim_of_part None = Bad

-- after `trim`: N
abbrev pub trim_of : List (List ℕ) → Line
trim_of [] = Bad
trim_of (n ∷ []) = trim_of_part (number_up_to 65536 n)
trim_of (n ∷ word ∷ words) = Bad

-- after a keyword that stands alone: nothing
abbrev pub alone : Line → List (List ℕ) → Line
alone line [] = line
alone line (word ∷ words) = Bad

-- a line of commands, by its keyword
abbrev pub command_of : List ℕ → List (List ℕ) → Line
command_of keyword words =
    if bytes_eq keyword (codes "wave") then wave_of words else (
    if bytes_eq keyword (codes "at") then at_of words else (
    if bytes_eq keyword (codes "go") then alone Go words else (
    if bytes_eq keyword (codes "trim") then trim_of words else (
    if bytes_eq keyword (codes "stats") then alone Stats words else (
    if bytes_eq keyword (codes "first") then first_of words else (
    if bytes_eq keyword (codes "why") then why_of words else (
    if bytes_eq keyword (codes "vcd") then dump_of words else (
    if bytes_eq keyword (codes "stuck") then stuck_of words else Bad))))))))

abbrev pub by_words : List (List ℕ) → Line
by_words [] = Blank
by_words (keyword ∷ words) = command_of keyword words

-- a line by its bytes; one of more than 4,096 bytes, including its comment, is bad
unfoldable pub line_of : List ℕ → Line
line_of bytes = if nat_le (length bytes) 4096 then by_words (words (content bytes)) else Bad
