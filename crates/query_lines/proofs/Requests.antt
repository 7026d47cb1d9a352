-- The units of lines are their requests.
use Rattle.std.proofs.Common.{◌≡◌, ℕ, Bool, true, false, cond, ltb, List, [], ◌∷◌, ◌++◌, length, map, refl, sym, ap, ◌∙◌, append_assoc}
use Rattle.std.specs.List.{flat_map}
use Rattle.std.proofs.lemmas.List.{append-nil}
use Rattle.std.proofs.lemmas.List.Concat.{flat_map-append}
use Rattle.query_lines.specs.declared.line.Line.{Line}
use Rattle.query_lines.specs.declared.line.Line.TheVariants.{Blank, Ask, Go, Bad}
use Rattle.query_lines.specs.declared.line.Line.TheVariants as lines
use Rattle.query_lines.specs.declared.line.What.TheVariants as whats
use Rattle.query_lines.specs.declared.unit.Item.{Item}
use Rattle.query_lines.specs.declared.unit.Unit.{Unit as ScriptUnit}
use Rattle.query_lines.specs.declared.unit.Unit.TheVariants.{Trim, Stats, Question, Vcd}
use Rattle.query_lines.specs.Units.{LineStep, closed_unit, is_over, pending_up_to_64, with_item, line_step, units_from}
use Rattle.query_lines.specs.Laws.{Request, Answer, requests_in, requests_on}

abbrev told : List ScriptUnit → List Request
told units = flat_map requests_in units

-- what a step gives and keeps
abbrev kept : LineStep → List Request
kept done = told done.units ++ map Answer done.pending

map_answer-append : (xs ys : List Item) → map Answer (xs ++ ys) ≡ map Answer xs ++ map Answer ys
map_answer-append [] ys = refl
map_answer-append (x ∷ xs) ys = ap (λ (l : List Request). Answer x ∷ l) (map_answer-append xs ys)

told-closed : (items : List Item) → told (closed_unit items) ≡ map Answer items
told-closed [] = refl
told-closed (item ∷ items) = append-nil (map Answer (item ∷ items))

kept-whole : (items : List Item) → kept (record { units = closed_unit items; pending = [] }) ≡ map Answer items
kept-whole items = append-nil (told (closed_unit items)) ∙ told-closed items

kept-pending : (items : List Item) → kept (pending_up_to_64 items) ≡ map Answer items
kept-pending items = cases (ltb (length items) 64)
  where
    cases : (b : Bool) → kept (cond b (record { units = []; pending = items }) (record { units = closed_unit items; pending = [] })) ≡ map Answer items
    cases true = refl
    cases false = kept-whole items

kept-item : (horizon : ℕ) (pending : List Item) (item : Item) → kept (with_item horizon pending item) ≡ map Answer pending ++ Answer item ∷ []
kept-item horizon pending item = cases (is_over horizon pending item)
  where
    cases : (b : Bool) → kept (cond b (record { units = closed_unit pending; pending = item ∷ [] }) (pending_up_to_64 (pending ++ item ∷ []))) ≡ map Answer pending ++ Answer item ∷ []
    cases true = ap (λ (l : List Request). l ++ Answer item ∷ []) (told-closed pending)
    cases false = kept-pending (pending ++ item ∷ []) ∙ map_answer-append pending (item ∷ [])

kept-after : (pending : List Item) (unit : ScriptUnit) → kept (record { units = closed_unit pending ++ unit ∷ []; pending = [] }) ≡ map Answer pending ++ requests_in unit
kept-after pending unit =
    append-nil (told (closed_unit pending ++ unit ∷ [])) ∙ flat_map-append requests_in (closed_unit pending) (unit ∷ [])
    ∙ ap (λ (l : List Request). l ++ told (unit ∷ [])) (told-closed pending) ∙ ap (λ (l : List Request). map Answer pending ++ l) (append-nil (requests_in unit))

kept-step : (horizon : ℕ) (pending : List Item) (number : ℕ) (line : Line) → kept (line_step horizon pending number line) ≡ map Answer pending ++ requests_on number line
kept-step horizon pending number Blank = sym (append-nil (map Answer pending))
kept-step horizon pending number (Ask what) = kept-item horizon pending (record { line = number; what = what })
kept-step horizon pending number Bad = kept-item horizon pending (record { line = number; what = whats.Bad })
kept-step horizon pending number Go = kept-whole pending ∙ sym (append-nil (map Answer pending))
kept-step horizon pending number (lines.Trim cells) = kept-after pending (Trim cells)
kept-step horizon pending number lines.Stats = kept-after pending Stats
kept-step horizon pending number (lines.Question window asks) = kept-after pending (Question (record { line = number; window = window; asks = asks }))
kept-step horizon pending number (lines.Vcd file) = kept-after pending (Vcd file)

pub told-units : (horizon : ℕ) (pending : List Item) (numbered : List (ℕ × Line)) → told (units_from horizon pending numbered) ≡ map Answer pending ++ flat_map (λ line. requests_on line.0 line.1) numbered
told-units horizon pending [] = told-closed pending ∙ sym (append-nil (map Answer pending))
told-units horizon pending (line ∷ numbered) =
    let done : LineStep = line_step horizon pending line.0 line.1 in
    let later : List Request = flat_map (λ (l : ℕ × Line). requests_on l.0 l.1) numbered in
    flat_map-append requests_in done.units (units_from horizon done.pending numbered)
    ∙ ap (λ (l : List Request). told done.units ++ l) (told-units horizon done.pending numbered)
    ∙ sym (append_assoc (told done.units) (map Answer done.pending) later)
    ∙ ap (λ (l : List Request). l ++ later) (kept-step horizon pending line.0 line.1)
    ∙ append_assoc (map Answer pending) (requests_on line.0 line.1) later
