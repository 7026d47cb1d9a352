-- The items of a unit have lines of their own, since the numbers of lines ascend.
use Rattle.std.proofs.Common.{◌≡◌, ◌≢◌, ℕ, ◌+◌, ◌<◌, ◌≤◌, Bool, true, false, cond, ltb, List, [], ◌∷◌, ◌++◌, length, map, refl, sym, arith}
use Rattle.std.specs.Prelude.{All}
use Rattle.std.specs.List.{enumerate_from}
use Rattle.std.proofs.lemmas.List.Elements.{All-nil, All-cons, All-append, All-head, All-tail, All-same}
use Rattle.std.proofs.lemmas.List.Quantifiers.{all_pairs_push}
use Rattle.texts.specs.Text.{lines as lines_in}
use Rattle.query_lines.specs.declared.line.Line.{Line}
use Rattle.query_lines.specs.declared.line.Line.TheVariants.{Blank, Ask, Go, Bad, Stats}
use Rattle.query_lines.specs.declared.line.Line.TheVariants as lines
use Rattle.query_lines.specs.declared.line.What.TheVariants as whats
use Rattle.query_lines.specs.declared.unit.Item.{Item}
use Rattle.query_lines.specs.declared.unit.Unit.{Unit as ScriptUnit}
use Rattle.query_lines.specs.declared.unit.Unit.TheVariants as units
use Rattle.query_lines.specs.Lines.{line_of}
use Rattle.query_lines.specs.Units.{LineStep, closed_unit, is_over, pending_up_to_64, with_item, line_step, units_from}
use Rattle.query_lines.specs.Reading.{numbered_lines, script_units}
use Rattle.query_lines.specs.Readers.{Reader, HasRead}
use Rattle.query_lines.specs.Fit.{HaveOwnLines, HasOwnLines, IsFit}
use Rattle.query_lines.proofs.Limits.{units-within}
use Rattle.query_lines.proofs.Names.{units-named}

-- pending items with lines of their own, below the next line's number
record ArePending (next : ℕ) (items : List Item) : Type 0 where
  own : HaveOwnLines items
  below : All (λ item. item.line < next) items

-- what a line does, as far as the lines of items go
record GivesOwn (next : ℕ) (done : LineStep) : Type 0 where
  given : All HasOwnLines done.units
  pending : ArePending next done.pending

no_pairs : HaveOwnLines []
no_pairs i j d less within = absurd (omega (arith, within))

none-pending : (next : ℕ) → ArePending next []
none-pending next = record { own = no_pairs; below = All-nil (λ item. item.line < next) }

next-pending : (next : ℕ) (items : List Item) → ArePending next items → ArePending (next + 1) items
next-pending next items p = record { own = p.own; below = λ k d h. let b = p.below k d h in omega (arith, b) }

push-pending : (next : ℕ) (items : List Item) (item : Item) → item.line ≡ next → ArePending next items → ArePending (next + 1) (items ++ item ∷ [])
push-pending next items item is p = record {
  own = all_pairs_push (λ a b. a.line ≢ b.line) items item p.own (λ k d h same. let b = p.below k d h in absurd (omega (arith, b, same, is)));
  below = All-append (λ i. i.line < next + 1) items (item ∷ []) (next-pending next items p).below
      (All-cons (λ i. i.line < next + 1) item [] (omega (arith, is)) (All-nil (λ i. i.line < next + 1)));
}

closed-own : (items : List Item) → HaveOwnLines items → All HasOwnLines (closed_unit items)
closed-own [] own = All-nil HasOwnLines
closed-own (item ∷ items) own = All-cons HasOwnLines (units.Batch (item ∷ items)) [] own (All-nil HasOwnLines)

up_to_64-own : (next : ℕ) (items : List Item) → ArePending next items → GivesOwn next (pending_up_to_64 items)
up_to_64-own next items p = cases (ltb (length items) 64)
  where
    cases : (b : Bool) → GivesOwn next (cond b (record { units = []; pending = items }) (record { units = closed_unit items; pending = [] }))
    cases true = record { given = All-nil HasOwnLines; pending = p }
    cases false = record { given = closed-own items p.own; pending = none-pending next }

with_item-own : (horizon next : ℕ) (pending : List Item) (item : Item) → item.line ≡ next → ArePending next pending → GivesOwn (next + 1) (with_item horizon pending item)
with_item-own horizon next pending item is p = cases (is_over horizon pending item)
  where
    cases : (b : Bool) → GivesOwn (next + 1) (cond b (record { units = closed_unit pending; pending = item ∷ [] }) (pending_up_to_64 (pending ++ item ∷ [])))
    cases true = record { given = closed-own pending p.own; pending = push-pending next [] item is (none-pending next) }
    cases false = up_to_64-own (next + 1) (pending ++ item ∷ []) (push-pending next pending item is p)

with_unit-own : (next : ℕ) (pending : List Item) (unit : ScriptUnit) → HasOwnLines unit → ArePending next pending → GivesOwn (next + 1) (record { units = closed_unit pending ++ unit ∷ []; pending = [] })
with_unit-own next pending unit own p = record {
  given = All-append HasOwnLines (closed_unit pending) (unit ∷ []) (closed-own pending p.own) (All-cons HasOwnLines unit [] own (All-nil HasOwnLines));
  pending = none-pending (next + 1);
}

step-own : (horizon number : ℕ) (pending : List Item) (line : Line) → ArePending number pending → GivesOwn (number + 1) (line_step horizon pending number line)
step-own horizon number pending Blank p = record { given = All-nil HasOwnLines; pending = next-pending number pending p }
step-own horizon number pending (Ask what) p = with_item-own horizon number pending (record { line = number; what = what }) refl p
step-own horizon number pending Bad p = with_item-own horizon number pending (record { line = number; what = whats.Bad }) refl p
step-own horizon number pending Go p = record { given = closed-own pending p.own; pending = none-pending (number + 1) }
step-own horizon number pending (lines.Trim cells) p = with_unit-own number pending (units.Trim cells) tt p
step-own horizon number pending Stats p = with_unit-own number pending units.Stats tt p
step-own horizon number pending (lines.Question window asks) p = with_unit-own number pending (units.Question (record { line = number; window = window; asks = asks })) tt p
step-own horizon number pending (lines.Vcd file) p = with_unit-own number pending (units.Vcd file) tt p

units_from-own : (horizon first : ℕ) (pending : List Item) (texts : List Line) → ArePending first pending → All HasOwnLines (units_from horizon pending (enumerate_from first texts))
units_from-own horizon first pending [] p = closed-own pending p.own
units_from-own horizon first pending (line ∷ texts) p =
    let done = step-own horizon first pending line p in
    All-append HasOwnLines (line_step horizon pending first line).units _ done.given (units_from-own horizon (first + 1) (line_step horizon pending first line).pending texts done.pending)

pub units-own : (horizon : ℕ) (script : List ℕ) → All HasOwnLines (script_units horizon script)
unfolding script_units
units-own horizon script = units_from-own horizon 1 [] (map line_of (lines_in script)) (none-pending 1)

-- all units of a script are fit
pub units-fit : (horizon : ℕ) (script : List ℕ) → horizon ≤ 1000000 → All (IsFit horizon) (script_units horizon script)
units-fit horizon script bound k d h = record { within = units-within horizon script bound k d h; own = units-own horizon script k d h; named = units-named horizon script k d h }

pub first-part : {X : Type 0} (P : X → Type 0) (part back : List X) → All P (part ++ back) → All P part
first-part P [] back all = All-nil P
first-part P (x ∷ part) back all = All-cons P x part (All-head P x (part ++ back) all) (first-part P part back (All-tail P x (part ++ back) all))

pub later-part : {X : Type 0} (P : X → Type 0) (front part : List X) → All P (front ++ part) → All P part
later-part P [] part all = all
later-part P (x ∷ front) part all = later-part P front part (All-tail P x (front ++ part) all)

-- what a reader has given is fit
pub given-fit : (horizon : ℕ) (script : List ℕ) (given : List ScriptUnit) (reader : Reader) → HasRead horizon script given reader → horizon ≤ 1000000 → All (IsFit horizon) given
given-fit horizon script given reader read bound =
    first-part (IsFit horizon) given (units_from horizon reader.pending.items (numbered_lines (reader.lines + 1) (read.line ++ [])))
    (All-same (IsFit horizon) _ _ (sym (read.goes_on [])) (units-fit horizon (script ++ []) bound))

-- so are the units that came last
pub last-fit : (horizon : ℕ) (front last : List ScriptUnit) → All (IsFit horizon) (front ++ last) → All (IsFit horizon) last
last-fit horizon front last all = later-part (IsFit horizon) front last all
