-- The replies to items, and their texts.
use Rattle.std.specs.Prelude.{ℕ, Bool, true, false, List, [], ◌∷◌, ◌++◌, flat_map, Option, Some, None, codes}
use Rattle.std.specs.Fmt.{decimal}
use Rattle.gate_values.specs.declared.Value.{Value}
use Rattle.gate_values.specs.Spelling.{byte_of_value}
use Rattle.circuit_meaning.specs.declared.Run.{Run}
use Rattle.query_lines.specs.declared.line.Asks.{Asks}
use Rattle.query_lines.specs.declared.line.Asks.TheVariants as kinds
use Rattle.query_lines.specs.declared.line.Tell.{Tell}
use Rattle.query_lines.specs.declared.line.Tell.TheVariants as tells
use Rattle.query_lines.specs.declared.line.What.{What}
use Rattle.query_lines.specs.declared.line.What.TheVariants as whats
use Rattle.query_lines.specs.declared.line.Window.{Window}
use Rattle.query_lines.specs.declared.unit.Item.{Item}
use Rattle.query_lines.specs.declared.unit.Question.{Question}
use Rattle.reply_lines.specs.declared.reply.Explanation.{Explanation}
use Rattle.reply_lines.specs.declared.reply.Outcome.{Outcome}
use Rattle.reply_lines.specs.declared.reply.Outcome.TheVariants.{Answer, Budget, Unknown, Past}
use Rattle.reply_lines.specs.declared.reply.Reply.{Reply}
use Rattle.reply_lines.specs.declared.reply.Reply.TheVariants as replies
use Rattle.reply_lines.specs.declared.reply.QuestionReply.{QuestionReply}
use Rattle.reply_lines.specs.declared.reply.QuestionReply.TheVariants as told
use Rattle.reply_lines.specs.declared.reply.VcdReply.{VcdReply}
use Rattle.reply_lines.specs.declared.reply.VcdReply.TheVariants as dumps
use Rattle.why_proofs.specs.Spelling.{proof_lines}

-- whether the outcome says that the budget was spent
abbrev pub is_budget : {T : Type 0} → Outcome T → Bool
is_budget (Answer answer) = false
is_budget (Budget budget) = true
is_budget Unknown = false
is_budget Past = false

-- words separated by spaces, and a line feed
abbrev pub text_line : List (List ℕ) → List ℕ
text_line [] = 10 ∷ []
text_line (word ∷ []) = word ++ 10 ∷ []
text_line (word ∷ next ∷ words) = word ++ 32 ∷ text_line (next ∷ words)

-- the letter of a value as a word
abbrev pub value_word : Value → List ℕ
value_word value = byte_of_value value ∷ []

abbrev pub run_line : Run → List ℕ
run_line run = text_line (decimal run.time ∷ value_word run.value ∷ [])

-- the line that ends the runs of a wave
abbrev pub end_line : List ℕ
end_line = text_line (codes "end" ∷ [])

abbrev pub unknown_line : List ℕ → List ℕ
unknown_line name = text_line (codes "unknown" ∷ name ∷ [])

-- a line that begins with this keyword and names a window
abbrev pub window_line : List ℕ → Window → List ℕ
window_line keyword window = text_line (keyword ∷ window.name ∷ decimal window.from ∷ decimal window.to ∷ [])

-- the text of what became of a window: that of its answer, or one line that says why there is none
abbrev pub outcome_text : {T : Type 0} → (T → List ℕ) → Window → Outcome T → List ℕ
outcome_text answer_text window (Answer answer) = answer_text answer
outcome_text answer_text window (Budget budget) = text_line (codes "budget" ∷ window.name ∷ decimal budget ∷ [])
outcome_text answer_text window Unknown = unknown_line window.name
outcome_text answer_text window Past = window_line (codes "past") window

-- The texts of answers.

-- a wave
abbrev pub wave_lines : Window → List Run → List ℕ
wave_lines window runs = window_line (codes "wave") window ++ flat_map run_line runs ++ end_line

-- a wave of one run, which is that of one time
abbrev pub value_line : Window → List Run → List ℕ
value_line window (run ∷ runs) = text_line (codes "at" ∷ window.name ∷ decimal window.from ∷ value_word run.value ∷ [])
value_line window [] = []

-- a wave, told in this way
abbrev pub answer_lines : Tell → Window → List Run → List ℕ
answer_lines tells.Wave window runs = wave_lines window runs
answer_lines tells.At window runs = value_line window runs

abbrev pub time_word : Option ℕ → List ℕ
time_word (Some time) = decimal time
time_word None = codes "none"

-- a first time, or that there is none
abbrev pub first_line : Window → Value → Option ℕ → List ℕ
first_line window value found =
    text_line (codes "first" ∷ window.name ∷ value_word value ∷ decimal window.from ∷ decimal window.to ∷ time_word found ∷ [])

-- an explanation: a proof
abbrev pub explanation_lines : Window → Explanation → List ℕ
explanation_lines window answer = proof_lines window.name window.from answer.value answer.cells

-- the line that repeats a question for a wave with a stuck signal
abbrev pub stuck_head : Window → List ℕ → Value → List ℕ
stuck_head window site value =
    text_line (codes "stuck" ∷ site ∷ value_word value ∷ window.name ∷ decimal window.from ∷ decimal window.to ∷ [])

-- a wave with a stuck signal
abbrev pub stuck_lines : Window → List ℕ → Value → List Run → List ℕ
stuck_lines window site value runs = stuck_head window site value ++ flat_map run_line runs ++ end_line

-- The texts of replies.

-- of a reply to an item of this line, by what it asks
abbrev pub text_by : ℕ → What → Reply → List ℕ
text_by line (whats.Window window tell) (replies.Window outcome) = outcome_text (answer_lines tell window) window outcome
text_by line what reply = text_line (codes "error" ∷ codes "line" ∷ decimal line ∷ [])

abbrev pub text_of : Item → Reply → List ℕ
text_of item reply = text_by item.line item.what reply

-- of a reply to a question, by its kind
abbrev pub lines_by : Window → Asks → QuestionReply → List ℕ
lines_by window (kinds.First value) (told.First outcome) = outcome_text (first_line window value) window outcome
lines_by window kinds.Why (told.Why outcome) = outcome_text (explanation_lines window) window outcome
lines_by window (kinds.Stuck site value) (told.Stuck outcome) = outcome_text (stuck_lines window site value) window outcome
lines_by window (kinds.Stuck site value) told.UnknownSite = unknown_line site
lines_by window asks reply = []

abbrev pub question_lines : Question → QuestionReply → List ℕ
question_lines question reply = lines_by question.window question.asks reply

-- the text of the reply to a request for a dump under this name
abbrev pub vcd_line : List ℕ → VcdReply → List ℕ
vcd_line file dumps.Taken = text_line (codes "vcd" ∷ codes "taken" ∷ file ∷ [])
vcd_line file dumps.NoBatch = text_line (codes "vcd" ∷ codes "none" ∷ [])
vcd_line file dumps.Full = text_line (codes "vcd" ∷ codes "full" ∷ [])
vcd_line file (dumps.Made wires) = text_line (codes "vcd" ∷ file ∷ codes "wires" ∷ decimal wires ∷ [])

-- the text of the reply to a trim that removed this many cells
abbrev pub trimmed_line : ℕ → List ℕ
trimmed_line cells = text_line (codes "trimmed" ∷ decimal cells ∷ [])

-- the text of the reply to a request for the counts
abbrev pub stats_line : ℕ → ℕ → ℕ → ℕ → List ℕ
stats_line batches fills evictions cells =
    text_line (codes "stats"
    ∷ codes "batches" ∷ decimal batches ∷ codes "fills" ∷ decimal fills
    ∷ codes "evictions" ∷ decimal evictions ∷ codes "cells" ∷ decimal cells ∷ [])
