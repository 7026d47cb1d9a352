-- A change that is put to a wire; the runs behind the last; no line.
use Rattle.std.proofs.Common.{◌≡◌, ℕ, zero, suc, ◌<◌, ◌≤◌, leb, List, [], ◌∷◌, ◌++◌, length, get_or, set, drop, sym, ap, ◌∙◌, arith}
use Rattle.circuit_meaning.specs.declared.Run.{Run}
use Rattle.texts.specs.Text.{lines}
use Rattle.texts.proofs.Callers.{no_line}
use Rattle.vcd_answers.specs.Wires.{Wire, goes_on}
use Rattle.vcd_answers.specs.inner.Reading.{put_at}
use Rattle.vcd_answers.proofs.Sound.{last_is}

abbrev pub with_run : Wire → Run → Wire
with_run wire run = record wire { changes = wire.changes ++ run ∷ [] }

pub put_set : (wires : List Wire) (place : ℕ) (run : Run) (wire : Wire) → place < length wires → wire ≡ get_or wires place wire → set wires place (with_run wire run) ≡ put_at place run wires
put_set [] place run wire less is = absurd (omega arith)
put_set (w ∷ wires) zero run wire less is = ap (λ (u : Wire). with_run u run ∷ wires) is
put_set (w ∷ wires) (suc place) run wire less is = ap (λ (l : List Wire). w ∷ l) (put_set wires place run wire (omega arith) is)

pub goes_end : (run : Run) (runs : List Run) (i : ℕ) → length runs ≤ i → leb run.time 1000001 ≡ goes_on run (drop i runs)
goes_end run [] zero l = ap (leb run.time) (sym last_is)
goes_end run [] (suc i) l = ap (leb run.time) (sym last_is)
goes_end run (x ∷ runs) zero l = absurd (omega arith)
goes_end run (x ∷ runs) (suc i) l = goes_end run runs i (omega arith)

pub lines_end : (text : List ℕ) → length text ≡ 0 → lines text ≡ []
lines_end [] l = no_line
lines_end (b ∷ text) l = absurd (omega arith)

pub lines_none : (text : List ℕ) → length text ≡ 0 → lines text ≡ drop 1 (lines text)
lines_none text l = lines_end text l ∙ sym (ap (drop 1) (lines_end text l))
