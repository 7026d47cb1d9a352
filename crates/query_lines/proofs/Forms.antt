-- What is read of a line: each name follows the rules, and each number is within its limit.
use Rattle.std.proofs.Common.{◌≡◌, ℕ, ◌+◌, ◌≤◌, Bool, true, false, cond, leb, IsTrue, List, [], ◌∷◌, length, Option, Some, None, refl, arith}
use Rattle.std.specs.Prelude.{⊤, IfSome, option_map, codes}
use Rattle.std.specs.Str.{bytes_eq}
use Rattle.std.proofs.lemmas.Bool.{leb-true}
use Rattle.gate_values.specs.declared.Value.{Value}
use Rattle.gate_values.specs.Spelling.{value_of_word}
use Rattle.texts.specs.declared.Amount.TheVariants.{NoNumber, Above, Within}
use Rattle.texts.specs.Text.{is_number, is_name, decimal_value, content, words}
use Rattle.query_lines.specs.declared.line.Asks.{Asks}
use Rattle.query_lines.specs.declared.line.Asks.TheVariants.{First, Why, Stuck}
use Rattle.query_lines.specs.declared.line.Line.{Line}
use Rattle.query_lines.specs.declared.line.Line.TheVariants.{Blank, Ask, Go, Trim, Stats, Question, Vcd, Bad}
use Rattle.query_lines.specs.declared.line.What.{What}
use Rattle.query_lines.specs.declared.line.What.TheVariants as whats
use Rattle.query_lines.specs.declared.line.Tell.{Tell}
use Rattle.query_lines.specs.declared.line.Tell.TheVariants.{Wave, At}
use Rattle.query_lines.specs.declared.line.Window.{Window}
use Rattle.query_lines.specs.Lines.{within, number_up_to, instant, budget_of, window_of_parts, window_of, instant_of, item_line, question_line, wave_of, at_of, first_of, why_of, dump_of, level_of, stuck_at, stuck_of, trim_of_part, trim_of, alone, by_words, line_of}
use Rattle.query_lines.specs.Laws.{SuitsWindow}
use Rattle.query_lines.specs.Fit.{NamesSite}

-- a window that was read
pub record IsRead (window : Window) : Type 0 where
  pub named : IsTrue (is_name window.name)
  pub modest : window.budget ≤ 500000

abbrev pub IsReadItem : What → Type 0
IsReadItem (whats.Window window tell) = IsRead window
IsReadItem whats.Bad = ⊤

-- a question that was read
pub record IsReadQuestion (window : Window) (asks : Asks) : Type 0 where
  pub window_is : IsRead window
  pub suits : SuitsWindow asks window
  pub site : NamesSite asks

-- a line that was read
abbrev pub IsReadLine : Line → Type 0
IsReadLine Blank = ⊤
IsReadLine (Ask what) = IsReadItem what
IsReadLine Go = ⊤
IsReadLine (Trim cells) = cells ≤ 65536
IsReadLine Stats = ⊤
IsReadLine (Question window asks) = IsReadQuestion window asks
IsReadLine (Vcd file) = IsTrue (is_name file)
IsReadLine Bad = ⊤

number_up_to-fits : (limit : ℕ) (word : List ℕ) → IfSome (number_up_to limit word) (λ n. n ≤ limit)
number_up_to-fits limit word = cases (is_number word) (leb (decimal_value word) limit) refl
  where
    cases : (n b : Bool) → leb (decimal_value word) limit ≡ b → IfSome (within (cond n (cond b (Within (decimal_value word)) Above) NoNumber)) (λ n. n ≤ limit)
    cases false b h = tt
    cases true false h = tt
    cases true true h = leb-true (decimal_value word) limit h

budget_of-fits : (words : List (List ℕ)) → IfSome (budget_of words) (λ n. n ≤ 500000)
budget_of-fits [] = omega arith
budget_of-fits (word ∷ []) = number_up_to-fits 500000 word
budget_of-fits (word ∷ next ∷ words) = tt

-- ---- windows

named-window : (window : Window) (named : Bool) → is_name window.name ≡ named → window.budget ≤ 500000 → IfSome (cond named (Some window) None) IsRead
named-window window true is modest = record { named = is; modest = modest }
named-window window false is modest = tt

window_of_parts-read : (name : List ℕ) (from to budget : Option ℕ) → IfSome budget (λ n. n ≤ 500000) → IfSome (window_of_parts name from to budget) IsRead
window_of_parts-read name None to budget fits = tt
window_of_parts-read name (Some from) None budget fits = tt
window_of_parts-read name (Some from) (Some to) None fits = tt
window_of_parts-read name (Some from) (Some to) (Some budget) fits = named-window (record { name = name; from = from; to = to; budget = budget }) (is_name name) refl fits

window_of-read : (name : List ℕ) (words : List (List ℕ)) → IfSome (window_of name words) IsRead
window_of-read name [] = tt
window_of-read name (from ∷ []) = tt
window_of-read name (from ∷ to ∷ budget) = window_of_parts-read name (instant from) (instant to) (budget_of budget) (budget_of-fits budget)

-- a window of one time that was read
abbrev IsReadInstant : Window → Type 0
IsReadInstant window = IsRead window × (window.to ≡ window.from + 1)

named-instant : (window : Window) (named : Bool) → is_name window.name ≡ named → window.budget ≤ 500000 → window.to ≡ window.from + 1 → IfSome (cond named (Some window) None) IsReadInstant
named-instant window true is modest one = (record { named = is; modest = modest }, one)
named-instant window false is modest one = tt

instant_of_parts-read : (name : List ℕ) (time budget : Option ℕ) → IfSome budget (λ n. n ≤ 500000) → IfSome (window_of_parts name time (option_map (λ t. t + 1) time) budget) IsReadInstant
instant_of_parts-read name None budget fits = tt
instant_of_parts-read name (Some time) None fits = tt
instant_of_parts-read name (Some time) (Some budget) fits = named-instant (record { name = name; from = time; to = time + 1; budget = budget }) (is_name name) refl fits refl

instant_of-read : (name : List ℕ) (words : List (List ℕ)) → IfSome (instant_of name words) IsReadInstant
instant_of-read name [] = tt
instant_of-read name (time ∷ budget) = instant_of_parts-read name (instant time) (budget_of budget) (budget_of-fits budget)

-- ---- lines

choose : (b : Bool) (x y : Line) → IsReadLine x → IsReadLine y → IsReadLine (cond b x y)
choose true x y p q = p
choose false x y p q = q

-- a line that is bad unless this is true
only_if : (b : Bool) (line : Line) → (IsTrue b → IsReadLine line) → IsReadLine (cond b line Bad)
only_if true line read = read refl
only_if false line read = tt

item-read : (tell : Tell) (window : Option Window) → IfSome window IsRead → IsReadLine (item_line tell window)
item-read tell None read = tt
item-read tell (Some window) read = read

wave_of-read : (words : List (List ℕ)) → IsReadLine (wave_of words)
wave_of-read [] = tt
wave_of-read (name ∷ words) = item-read Wave (window_of name words) (window_of-read name words)

at-read : (window : Option Window) → IfSome window IsReadInstant → IsReadLine (item_line At window)
at-read None read = tt
at-read (Some window) read = read.0

at_of-read : (words : List (List ℕ)) → IsReadLine (at_of words)
at_of-read [] = tt
at_of-read (name ∷ words) = at-read (instant_of name words) (instant_of-read name words)

first-read : (value : Option Value) (window : Option Window) → IfSome window IsRead → IsReadLine (question_line (option_map First value) window)
first-read None window read = tt
first-read (Some value) None read = tt
first-read (Some value) (Some window) read = record { window_is = read; suits = tt; site = tt }

first_of-read : (words : List (List ℕ)) → IsReadLine (first_of words)
first_of-read [] = tt
first_of-read (name ∷ []) = tt
first_of-read (name ∷ value ∷ words) = first-read (value_of_word value) (window_of name words) (window_of-read name words)

why-read : (window : Option Window) → IfSome window IsReadInstant → IsReadLine (question_line (Some Why) window)
why-read None read = tt
why-read (Some window) read = record { window_is = read.0; suits = read.1; site = tt }

why_of-read : (words : List (List ℕ)) → IsReadLine (why_of words)
why_of-read [] = tt
why_of-read (name ∷ words) = why-read (instant_of name words) (instant_of-read name words)

stuck-read : (asks : Option Asks) (window : Option Window) → IfSome asks (λ asks. IfSome window (λ window. IsReadQuestion window asks)) → IsReadLine (question_line asks window)
stuck-read None window read = tt
stuck-read (Some asks) None read = tt
stuck-read (Some asks) (Some window) read = read

stuck_at-read : (site : List ℕ) (value : Option Value) (window : Option Window) → IfSome window IsRead → IfSome (stuck_at site value) (λ asks. IfSome window (λ window. IsReadQuestion window asks))
stuck_at-read site None window read = tt
stuck_at-read site (Some value) window read = cases (is_name site) refl window read
  where
    cases : (named : Bool) → is_name site ≡ named → (window : Option Window) → IfSome window IsRead → IfSome (cond named (Some (Stuck site value)) None) (λ asks. IfSome window (λ window. IsReadQuestion window asks))
    cases false is window read = tt
    cases true is None read = tt
    cases true is (Some window) read = record { window_is = read; suits = tt; site = is }

stuck_of-read : (words : List (List ℕ)) → IsReadLine (stuck_of words)
stuck_of-read [] = tt
stuck_of-read (site ∷ []) = tt
stuck_of-read (site ∷ value ∷ []) = tt
stuck_of-read (site ∷ value ∷ name ∷ words) =
    stuck-read (stuck_at site (level_of value)) (window_of name words) (stuck_at-read site (level_of value) (window_of name words) (window_of-read name words))

dump_of-read : (words : List (List ℕ)) → IsReadLine (dump_of words)
dump_of-read [] = tt
dump_of-read (file ∷ []) = only_if (is_name file) (Vcd file) (λ is. is)
dump_of-read (file ∷ word ∷ words) = tt

trim_of_part-read : (cells : Option ℕ) → IfSome cells (λ n. n ≤ 65536) → IsReadLine (trim_of_part cells)
trim_of_part-read None fits = tt
trim_of_part-read (Some cells) fits = fits

trim_of-read : (words : List (List ℕ)) → IsReadLine (trim_of words)
trim_of-read [] = tt
trim_of-read (cells ∷ []) = trim_of_part-read (number_up_to 65536 cells) (number_up_to-fits 65536 cells)
trim_of-read (cells ∷ word ∷ words) = tt

alone-read : (line : Line) (words : List (List ℕ)) → IsReadLine line → IsReadLine (alone line words)
alone-read line [] read = read
alone-read line (word ∷ words) read = tt

by_words-read : (words : List (List ℕ)) → IsReadLine (by_words words)
by_words-read [] = tt
by_words-read (keyword ∷ words) =
    choose (bytes_eq keyword (codes "wave")) _ _ (wave_of-read words) (
    choose (bytes_eq keyword (codes "at")) _ _ (at_of-read words) (
    choose (bytes_eq keyword (codes "go")) _ _ (alone-read Go words tt) (
    choose (bytes_eq keyword (codes "trim")) _ _ (trim_of-read words) (
    choose (bytes_eq keyword (codes "stats")) _ _ (alone-read Stats words tt) (
    choose (bytes_eq keyword (codes "first")) _ _ (first_of-read words) (
    choose (bytes_eq keyword (codes "why")) _ _ (why_of-read words) (
    choose (bytes_eq keyword (codes "vcd")) _ _ (dump_of-read words) (
    choose (bytes_eq keyword (codes "stuck")) _ _ (stuck_of-read words) tt))))))))

-- each line was read
pub line_of-read : (bytes : List ℕ) → IsReadLine (line_of bytes)
unfolding line_of
line_of-read bytes = choose (leb (length bytes) 4096) (by_words (words (content bytes))) Bad (by_words-read (words (content bytes))) tt
