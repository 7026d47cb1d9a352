-- A script read byte by byte.
use Rattle.std.proofs.Common.{◌≡◌, ◌≢◌, ℕ, ◌+◌, ◌<◌, ◌≤◌, Bool, true, false, List, [], ◌∷◌, ◌++◌, length, map, refl, sym, ap, subst, ◌∙◌, append_assoc, arith, Result, Ok, Err}
use Rattle.std.specs.Prelude.{IfOk, All}
use Rattle.std.specs.List.{enumerate_from}
use Rattle.std.proofs.lemmas.List.{append-nil, length-append}
use Rattle.std.proofs.lemmas.List.Elements.{All-tail, All-same}
use Rattle.query_lines.proofs.OwnLines.{first-part}
use Rattle.texts.specs.Text.{lines}
use Rattle.texts.proofs.Callers.{is_plain, line_front, line_last, no_line, plain_push, not_feed}
use Rattle.query_lines.specs.declared.cutter.Cut.{Cut}
use Rattle.query_lines.specs.declared.unit.Item.{Item}
use Rattle.query_lines.specs.declared.unit.Unit.{Unit as ScriptUnit}
use Rattle.query_lines.specs.Cutting.{Cutter, IsUnderWay, LineEnds}
use Rattle.query_lines.specs.Lines.{line_of}
use Rattle.query_lines.specs.Units.{Pending, closed_unit, line_step, units_from}
use Rattle.query_lines.specs.Laws.{IsWithinLimits}
use Rattle.query_lines.proofs.Limits.{units-within}
use Rattle.query_lines.specs.Reading.{numbered_lines, script_units}
use Rattle.query_lines.specs.Readers.{Reader, HasRead}
use Rattle.query_lines.specs.inner.Reading.{ReadsLine}

-- nothing was taken
pub opened : (horizon : ℕ) (reader : Reader) → IsUnderWay [] reader.cutter → reader.pending ≡ record { horizon = horizon; items = [] } → reader.lines ≡ 0 → HasRead horizon [] [] reader
unfolding script_units
opened horizon reader holds pending lines = record {
  line = [];
  under_way = refl;
  holds = holds;
  horizon_is = ap (λ (p : Pending). p.horizon) pending;
  lines_end = omega (arith, lines);
  goes_on = λ rest. rw (pending, lines) refl;
}

-- a byte that ends no line
pub more_read : (horizon : ℕ) (script : List ℕ) (given : List ScriptUnit) (old new : Reader) (byte : ℕ) → (p : HasRead horizon script given old) → byte ≢ 10 → IsUnderWay (p.line ++ byte ∷ []) new.cutter → new.pending ≡ old.pending → new.lines ≡ old.lines
    → HasRead horizon (script ++ byte ∷ []) (given ++ []) new
more_read horizon script given old new byte p other holds pending lines = record {
  line = p.line ++ byte ∷ [];
  under_way = plain_push p.line byte p.under_way (not_feed byte other);
  holds = holds;
  horizon_is = ap (λ (q : Pending). q.horizon) pending ∙ p.horizon_is;
  lines_end = omega (arith, lines, p.lines_end, length-append script (byte ∷ []));
  goes_on = λ rest. rw (append_assoc script (byte ∷ []) rest, append-nil given, append_assoc p.line (byte ∷ []) rest, pending, lines) (p.goes_on (byte ∷ rest));
}

-- what a line that ends makes of the units
line_gives : (horizon first : ℕ) (pending : List Item) (line rest : List ℕ) → is_plain line ≡ true
    → units_from horizon pending (numbered_lines first (line ++ 10 ∷ rest))
    ≡ (line_step horizon pending first (line_of line)).units ++ units_from horizon (line_step horizon pending first (line_of line)).pending (numbered_lines (first + 1) rest)
line_gives horizon first pending line rest plain = ap (λ (l : List (List ℕ)). units_from horizon pending (enumerate_from first (map line_of l))) (line_front line rest plain)

-- a byte that ends a line, which was read before the cutter took the byte
pub line_read : (horizon : ℕ) (script : List ℕ) (given units : List ScriptUnit) (old mid new : Reader) (byte : ℕ) → (p : HasRead horizon script given old) → byte ≡ 10 → ReadsLine p.line old mid units
    → IsUnderWay [] new.cutter → new.pending ≡ mid.pending → new.lines ≡ mid.lines → HasRead horizon (script ++ byte ∷ []) (given ++ units) new
line_read horizon script given units old mid new byte p feed reads holds pending lines = record {
  line = [];
  under_way = refl;
  holds = holds;
  horizon_is = ap (λ (q : Pending). q.horizon) (pending ∙ reads.pending_are) ∙ p.horizon_is;
  lines_end = omega (arith, lines, reads.lines_end, p.lines_end, length-append script (byte ∷ []));
  goes_on = λ rest.
      rw (append_assoc script (byte ∷ []) rest, reads.units_are, pending, reads.pending_are, lines, reads.lines_end, p.horizon_is, feed, append_assoc given)
      (p.goes_on (10 ∷ rest) ∙ ap (λ (l : List ScriptUnit). given ++ l) (line_gives horizon (old.lines + 1) old.pending.items p.line rest p.under_way));
}

-- the end of a script behind a line feed, or of an empty script
pub none_left : (horizon : ℕ) (script : List ℕ) (given : List ScriptUnit) (old : Reader) (p : HasRead horizon script given old) → p.line ≡ [] → script_units horizon script ≡ given ++ closed_unit old.pending.items
none_left horizon script given old p none =
    ap (script_units horizon) (sym (append-nil script)) ∙ p.goes_on []
    ∙ ap (λ (l : List (List ℕ)). given ++ units_from horizon old.pending.items (enumerate_from (old.lines + 1) (map line_of l))) (ap (λ (line : List ℕ). lines (line ++ [])) none ∙ no_line)

-- the end of a script in a line
pub line_left : (horizon : ℕ) (script : List ℕ) (given : List ScriptUnit) (old : Reader) (p : HasRead horizon script given old) → 0 < length p.line
    → script_units horizon script ≡ given ++ ((line_step horizon old.pending.items (old.lines + 1) (line_of p.line)).units ++ closed_unit (line_step horizon old.pending.items (old.lines + 1) (line_of p.line)).pending)
line_left horizon script given old p some =
    ap (script_units horizon) (sym (append-nil script)) ∙ p.goes_on []
    ∙ ap (λ (l : List (List ℕ)). given ++ units_from horizon old.pending.items (enumerate_from (old.lines + 1) (map line_of l))) (ap lines (append-nil p.line) ∙ line_last p.line p.under_way some)

-- a byte that is no line feed was taken
pub taken : (horizon : ℕ) (script : List ℕ) (given units : List ScriptUnit) (old new : Reader) (byte : ℕ) → HasRead horizon script given old → byte ≢ 10 → new.pending ≡ old.pending → new.lines ≡ old.lines
    → ((line : List ℕ) → IsUnderWay line old.cutter → IsUnderWay (line ++ byte ∷ []) new.cutter) → units ≡ [] → HasRead horizon (script ++ byte ∷ []) (given ++ units) new
taken horizon script given units old new byte p other pending lines more none =
    subst (λ (l : List ScriptUnit). HasRead horizon (script ++ byte ∷ []) (given ++ l) new) (sym none) (more_read horizon script given old new byte p other (more p.line p.holds) pending lines)

-- a line was read, and the line feed behind it was taken
pub taken_line : (horizon : ℕ) (script : List ℕ) (given units : List ScriptUnit) (old mid new : Reader) (byte : ℕ) (cut : Cut) → HasRead horizon script given old → byte ≡ 10
    → ((line : List ℕ) → IsUnderWay line old.cutter → ReadsLine line old mid units) → ((line : List ℕ) → IsUnderWay line mid.cutter → LineEnds line cut new.cutter)
    → new.pending ≡ mid.pending → new.lines ≡ mid.lines → HasRead horizon (script ++ byte ∷ []) (given ++ units) new
taken_line horizon script given units old mid new byte cut p feed reads ends pending lines =
    let read = reads p.line p.holds in
    let ended = ends p.line (subst (IsUnderWay p.line) (sym read.cutter_stays) p.holds) in
    line_read horizon script given units old mid new byte p feed read ended.next pending lines

no_byte : (line : List ℕ) (c : Cutter) → IsUnderWay line c → c.kept ≡ [] → line ≡ []
no_byte line c holds none = cases c.is_long refl
  where
    cases : (b : Bool) → c.is_long ≡ b → line ≡ []
    cases false short = sym (holds.whole short) ∙ none
    cases true long = absurd (omega (arith, (holds.long long).1, ap length none))

some_byte : (line : List ℕ) (c : Cutter) → IsUnderWay line c → c.kept ≢ [] → 0 < length line
some_byte [] c holds some = absurd (some (cases c.is_long refl))
  where
    cases : (b : Bool) → c.is_long ≡ b → c.kept ≡ []
    cases false short = holds.whole short
    cases true long = absurd (omega (arith, (holds.long long).0))
some_byte (b ∷ line) c holds some = omega arith

-- at the end of a script, where no line is under way
pub last_none : (horizon : ℕ) (script : List ℕ) (given units : List ScriptUnit) (old : Reader) → HasRead horizon script given old → old.cutter.kept ≡ [] → units ≡ []
    → script_units horizon script ≡ given ++ (units ++ closed_unit old.pending.items)
last_none horizon script given units old p empty none =
    none_left horizon script given old p (no_byte p.line old.cutter p.holds empty) ∙ ap (λ (l : List ScriptUnit). given ++ (l ++ closed_unit old.pending.items)) (sym none)

-- at the end of a script, where a line is under way that is then read
pub last_line : {E : Type 0} (horizon : ℕ) (script : List ℕ) (given : List ScriptUnit) (old new : Reader) (result : Result (List ScriptUnit) E) → HasRead horizon script given old → old.cutter.kept ≢ []
    → ((line : List ℕ) → IsUnderWay line old.cutter → IfOk result (ReadsLine line old new)) → IfOk result (λ units. script_units horizon script ≡ given ++ (units ++ closed_unit new.pending.items))
last_line {E} horizon script given old new result p some reads = of_line result (reads p.line p.holds)
  where
    of_line : (r : Result (List ScriptUnit) E) → IfOk r (ReadsLine p.line old new) → IfOk r (λ units. script_units horizon script ≡ given ++ (units ++ closed_unit new.pending.items))
    of_line (Err e) read = read
    of_line (Ok units) read = rw (read.units_are, read.pending_are, p.horizon_is) (line_left horizon script given old p (some_byte p.line old.cutter p.holds some))

-- the last batch behind the units of the last line
pub all_given : {E : Type 0} (whole given units last : List ScriptUnit) (result : Result (List ScriptUnit) E) → whole ≡ given ++ (units ++ last) → IfOk result (λ all. all ≡ units ++ last) → IfOk result (λ all. whole ≡ given ++ all)
all_given whole given units last (Ok all) is are = is ∙ ap (λ (l : List ScriptUnit). given ++ l) (sym are)
all_given whole given units last (Err e) is are = are

-- what was given for a script is within the limits
part_fits : {X : Type 0} (P : X → Type 0) (front part back : List X) → All P ((front ++ part) ++ back) → All P part
part_fits P [] part back all = first-part P part back all
part_fits P (x ∷ front) part back all = part_fits P front part back (All-tail P x ((front ++ part) ++ back) all)

pub given_fits : {E : Type 0} (horizon : ℕ) (script : List ℕ) (given : List ScriptUnit) (new : Reader) (result : Result (List ScriptUnit) E) → horizon ≤ 1000000
    → IfOk result (λ units. HasRead horizon script (given ++ units) new) → IfOk result (All (IsWithinLimits horizon))
given_fits horizon script given new (Ok units) bound read =
    part_fits (IsWithinLimits horizon) given units (units_from horizon new.pending.items (numbered_lines (new.lines + 1) (read.line ++ []))) (All-same (IsWithinLimits horizon) _ _ (sym (read.goes_on [])) (units-within horizon (script ++ []) bound))
given_fits horizon script given new (Err e) bound read = read

pub last_fit : {E : Type 0} (horizon : ℕ) (script : List ℕ) (given : List ScriptUnit) (result : Result (List ScriptUnit) E) → horizon ≤ 1000000
    → IfOk result (λ units. script_units horizon script ≡ given ++ units) → IfOk result (All (IsWithinLimits horizon))
last_fit horizon script given (Ok units) bound whole =
    part_fits (IsWithinLimits horizon) given units [] (All-same (IsWithinLimits horizon) _ _ (append-nil (given ++ units) ∙ sym whole) (units-within horizon script bound))
last_fit horizon script given (Err e) bound whole = whole
