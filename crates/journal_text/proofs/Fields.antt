-- A point or cell that is read is spelled so, and what is spelled so is read.
use Rattle.std.proofs.Common.{◌≡◌, ℕ, ◌&&◌, true, cond, ltb, leb, List, [], ◌∷◌, ◌++◌, Option, Some, None, refl, sym, ap, subst, ◌∙◌, append_assoc, arith, lt-ltb, ltb-true}
use Rattle.std.proofs.lemmas.Bool.{le-leb, leb-true, and_parts}
use Rattle.std.proofs.lemmas.Option.{cond_some, same_Some}
use Rattle.gate_values.specs.Spelling.{byte_of_value}
use Rattle.gate_values.specs.declared.Value.{Value}
use Rattle.valid_intervals.specs.declared.Cell.{Cell}
use Rattle.valid_intervals.specs.declared.Point.{Point}
use Rattle.valid_intervals.specs.Spans.{IsSpan, from_to}
use Rattle.texts.specs.fields.Spelling.{field}
use Rattle.texts.specs.fields.Reading.{◌>>=◌, after_word, field_at, value_at}
use Rattle.texts.proofs.Callers.{EndsNumber, bind_some, after_takes, field_takes, field_again, value_takes, value_again}
use Rattle.journal_text.specs.Spelling.{point, cell}
use Rattle.journal_text.specs.Written.{IsPoint, IsCell}
use Rattle.journal_text.specs.inner.Reading.{point_at, cell_at}

-- ---- a point

pub point_takes : (text : List ℕ) (p : Point) (rest : List ℕ) → point_at text ≡ Some (p, rest) → (text ≡ point p ++ rest) × IsPoint p
unfolding point_at
point_takes text p rest e =
    let (signal, first, more) = bind_some (field_at text) (λ s. field_at s.1 >>= (λ t. Some (record { signal = s.0; time = t.0 }, t.1))) (p, rest) e in
    let (time, second, is) = bind_some (field_at signal.1) (λ t. Some (record { signal = signal.0; time = t.0 }, t.1)) (p, rest) more in
    let one = field_takes text signal.0 signal.1 first in
    let two = field_takes signal.1 time.0 time.1 second in
    let parts : text ≡ (field signal.0 ++ field time.0) ++ time.1 = one.0 ∙ ap (λ (l : List ℕ). field signal.0 ++ l) two.0 ∙ sym (append_assoc (field signal.0) (field time.0) time.1) in
    subst (λ (r : Point × List ℕ). (text ≡ point r.0 ++ r.1) × IsPoint r.0) (same_Some _ _ is) (parts, (one.1, two.1))

pub point_again : (p : Point) (text : List ℕ) → IsPoint p → EndsNumber text → point_at (point p ++ text) ≡ Some (p, text)
unfolding point_at
point_again p text small ends =
    ap point_at (append_assoc (field p.signal) (field p.time) text) ∙ rw (field_again p.signal (field p.time ++ text) small.0 refl, field_again p.time text small.1 ends) refl

-- ---- a cell

abbrev made : ℕ → ℕ → Value × List ℕ → Cell × List ℕ
made start stop value = (record { span = from_to start stop; value = value.0 }, value.1)

abbrev checked : ℕ → ℕ → Value × List ℕ → Option (Cell × List ℕ)
checked start stop value = cond (ltb start stop && leb stop 2000002) (Some (made start stop value)) None

pub cell_takes : (text : List ℕ) (c : Cell) (rest : List ℕ) → cell_at text ≡ Some (c, rest) → (text ≡ cell c ++ rest) × IsCell c
unfolding cell_at
cell_takes text c rest e =
    let (start, first, more) = bind_some (field_at text) (λ s. field_at s.1 >>= (λ t. after_word (32 ∷ []) t.1 >>= (λ b. value_at b >>= checked s.0 t.0))) (c, rest) e in
    let (stop, second, more2) = bind_some (field_at start.1) (λ t. after_word (32 ∷ []) t.1 >>= (λ b. value_at b >>= checked start.0 t.0)) (c, rest) more in
    let (blank, third, more3) = bind_some (after_word (32 ∷ []) stop.1) (λ b. value_at b >>= checked start.0 stop.0) (c, rest) more2 in
    let (value, fourth, is) = bind_some (value_at blank) (checked start.0 stop.0) (c, rest) more3 in
    let one = field_takes text start.0 start.1 first in
    let two = field_takes start.1 stop.0 stop.1 second in
    let three : stop.1 ≡ 32 ∷ blank = after_takes (32 ∷ []) stop.1 blank third in
    let four = value_takes blank value.0 value.1 fourth in
    let tests = cond_some (ltb start.0 stop.0 && leb stop.0 2000002) (made start.0 stop.0 value) (c, rest) is in
    let both = and_parts _ _ tests.0 in
    let span : IsSpan (from_to start.0 stop.0) = record { some = ltb-true _ _ both.0; within = leb-true _ _ both.1 } in
    let letter : List ℕ = 32 ∷ byte_of_value value.0 ∷ [] in
    let parts : text ≡ (field start.0 ++ (field stop.0 ++ letter)) ++ value.1 =
    one.0
    ∙ ap (λ (l : List ℕ). field start.0 ++ l) (two.0 ∙ ap (λ (l : List ℕ). field stop.0 ++ l) (three ∙ ap (λ (l : List ℕ). 32 ∷ l) four) ∙ sym (append_assoc (field stop.0) letter value.1))
    ∙ sym (append_assoc (field start.0) (field stop.0 ++ letter) value.1) in
    subst (λ (r : Cell × List ℕ). (text ≡ cell r.0 ++ r.1) × IsCell r.0) tests.1 (parts, span)

pub cell_again : (c : Cell) (text : List ℕ) → IsCell c → cell_at (cell c ++ text) ≡ Some (c, text)
unfolding cell_at
cell_again c text span =
    let letter : List ℕ = 32 ∷ byte_of_value c.value ∷ [] in
    let apart : cell c ++ text ≡ field c.span.start ++ (field c.span.stop ++ (letter ++ text)) = append_assoc (field c.span.start) (field c.span.stop ++ letter) text ∙ ap (λ (l : List ℕ). field c.span.start ++ l) (append_assoc (field c.span.stop) letter text) in
    let start = field_again c.span.start (field c.span.stop ++ (letter ++ text)) (omega (arith, span.some, span.within)) refl in
    let stop = field_again c.span.stop (letter ++ text) (omega (arith, span.within)) refl in
    let some : ltb c.span.start c.span.stop ≡ true = lt-ltb _ _ span.some in
    let within : leb c.span.stop 2000002 ≡ true = le-leb _ _ span.within in
    ap cell_at apart ∙ rw (start, stop, value_again c.value text, some, within) refl
