-- What is read is in its range.
use Rattle.std.proofs.Common.{◌≡◌, ℕ, ◌+◌, ◌≤◌, Bool, true, false, cond, List, [], ◌∷◌, map, Option, Some, None, Ok, refl, sym, subst}
use Rattle.std.specs.Prelude.{⊤, All, IfSome, slice_get, ◌&&◌, codes}
use Rattle.std.specs.List.{flat_map}
use Rattle.std.specs.Str.{bytes_eq}
use Rattle.std.proofs.lemmas.List.Concat.{flat_map-cons}
use Rattle.std.proofs.lemmas.List.Elements.{All-nil, All-cons, All-append, All-head}
use Rattle.gate_values.specs.declared.Value.{Value}
use Rattle.gate_values.specs.Spelling.{value_of_word}
use Rattle.texts.specs.declared.Amount.{Amount}
use Rattle.texts.specs.declared.Amount.TheVariants.{NoNumber, Above, Within}
use Rattle.texts.specs.Text.{amount, content, is_name, lines, words}
use Rattle.texts.proofs.Callers.{within}
use Rattle.texts.specs.declared.line_faults.causes.LineFault.{LineFault}
use Rattle.texts.specs.line_faults.Faults.{first_fault, unless_fault}
use Rattle.texts.specs.line_faults.Rows.{rows_from}
use Rattle.stimulus_file.specs.declared.StimulusCause.{StimulusCause}
use Rattle.stimulus_file.specs.Forms.{Line, Blank, Other, Horizon, Setting, horizon_of_amount, setting_of_parts, by_words, line_of}
use Rattle.stimulus_file.specs.Stimulus.{Content, SetRow, stated_horizon, cause_of, row_of, rows_of, horizon_of, with_horizon, stimulus_of}
use Rattle.stimulus_file.specs.Ranges.{IsStimulus}

abbrev IsTime : ℕ → Type 0
IsTime t = t ≤ 1000000

abbrev IsRow : SetRow → Type 0
IsRow row = row.time ≤ 1000000

abbrev IsLine : Line → Type 0
IsLine Blank = ⊤
IsLine Other = ⊤
IsLine (Horizon horizon) = IfSome horizon IsTime
IsLine (Setting name time value) = IfSome time IsTime

either : (b : Bool) (x y : Line) → IsLine x → IsLine y → IsLine (cond b x y)
either true x y p q = p
either false x y p q = q

horizon-within : (a : Amount) → ((n : ℕ) → a ≡ Within n → n ≤ 1000000) → IsLine (horizon_of_amount a)
horizon-within NoNumber h = tt
horizon-within Above h = tt
horizon-within (Within n) h = h n refl

setting-within : (name : List ℕ) (a : Amount) (value : Option Value) → ((n : ℕ) → a ≡ Within n → n ≤ 1000000) → IsLine (setting_of_parts name a value)
setting-within name NoNumber value h = tt
setting-within name Above None h = tt
setting-within name Above (Some value) h = tt
setting-within name (Within t) None h = tt
setting-within name (Within t) (Some value) h = h t refl

words-within : (w : List (List ℕ)) → IsLine (by_words w)
words-within [] = tt
words-within (keyword ∷ []) = tt
words-within (keyword ∷ horizon ∷ []) = either (bytes_eq keyword (codes "horizon")) (horizon_of_amount (amount 1000000 horizon)) Other (horizon-within (amount 1000000 horizon) (within 1000000 horizon)) tt
words-within (keyword ∷ name ∷ time ∷ []) = tt
words-within (keyword ∷ name ∷ time ∷ value ∷ []) = either (bytes_eq keyword (codes "set") && is_name name) (setting_of_parts name (amount 1000000 time) (value_of_word value)) Other (setting-within name (amount 1000000 time) (value_of_word value) (within 1000000 time)) tt
words-within (keyword ∷ name ∷ time ∷ value ∷ word ∷ more) = tt

line-within : (line : List ℕ) → IsLine (line_of line)
unfolding line_of
line-within line = words-within (words (content line))

row_of-within : (n : ℕ) (line : Line) → IsLine line → All IsRow (row_of n line)
row_of-within n Blank h = All-nil IsRow
row_of-within n Other h = All-nil IsRow
row_of-within n (Horizon horizon) h = All-nil IsRow
row_of-within n (Setting name None value) h = All-nil IsRow
row_of-within n (Setting name (Some t) value) h = All-cons IsRow _ [] h (All-nil IsRow)

rows-within : (n : ℕ) (all : List (List ℕ)) → All IsRow (rows_from row_of n (map line_of all))
rows-within n [] = All-nil IsRow
rows-within n (line ∷ all) = All-append IsRow (row_of n (line_of line)) (rows_from row_of (n + 1) (map line_of all)) (row_of-within n (line_of line) (line-within line)) (rows-within (n + 1) all)

stated-within : (line : Line) → IsLine line → All IsTime (stated_horizon line)
stated-within Blank h = All-nil IsTime
stated-within Other h = All-nil IsTime
stated-within (Horizon None) h = All-nil IsTime
stated-within (Horizon (Some horizon)) h = All-cons IsTime horizon [] h (All-nil IsTime)
stated-within (Setting name time value) h = All-nil IsTime

horizons-within : (all : List (List ℕ)) → All IsTime (flat_map stated_horizon (map line_of all))
horizons-within [] = All-nil IsTime
horizons-within (line ∷ all) = subst (All IsTime) (sym (flat_map-cons stated_horizon (line_of line) (map line_of all))) (All-append IsTime (stated_horizon (line_of line)) (flat_map stated_horizon (map line_of all)) (stated-within (line_of line) (line-within line)) (horizons-within all))

first-within : (l : List ℕ) → All IsTime l → IfSome (slice_get l 0) IsTime
first-within [] h = tt
first-within (t ∷ l) h = All-head IsTime t l h

-- what a file says is in its ranges
pub stimulus-within : (text : List ℕ) (c : Content) → stimulus_of text ≡ Ok c → IsStimulus c
unfolding stimulus_of
stimulus-within text c h = cases (first_fault cause_of [] (map line_of (lines text))) (horizon_of (map line_of (lines text))) (first-within (flat_map stated_horizon (map line_of (lines text))) (horizons-within (lines text))) h
  where
    cases : (fault : Option (LineFault StimulusCause)) (horizon : Option ℕ) → IfSome horizon IsTime → unless_fault fault (with_horizon horizon (rows_of (map line_of (lines text)))) ≡ Ok c → IsStimulus c
    cases None None g h = absurd cc
    cases None (Some t) g h =
        let same : record { horizon = t; sets = rows_of (map line_of (lines text)) } ≡ c = cc in
        subst IsStimulus same (record { horizon = g; sets = rows-within 1 (lines text) })
    cases (Some fault) horizon g h = absurd cc
