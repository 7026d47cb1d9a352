-- What the reader knows after one more line.
use Rattle.std.proofs.Common.{◌≡◌, ℕ, ◌+◌, Bool, false, not, List, [], ◌∷◌, ◌++◌, length, Option, Some, None, refl, sym, ap, ap₂, subst, ◌∙◌, is_none, is_some}
use Rattle.std.specs.Prelude.{option_to_list}
use Rattle.std.specs.List.{list_all, list_any, flat_map}
use Rattle.std.proofs.Math.Bool.{and-false, and-true, or-true, or-false}
use Rattle.std.proofs.lemmas.Grind.{flat_map-append}
use Rattle.std.proofs.lemmas.List.{append-nil, map-append}
use Rattle.std.proofs.lemmas.List.Folds.{list_all-append, list_any-append}
use Rattle.gate_values.specs.declared.Value.{Value}
use Rattle.texts.proofs.Callers.{rows-push}
use Rattle.stimulus_file.specs.declared.names.Found.{Found}
use Rattle.stimulus_file.specs.declared.names.Names.{Names}
use Rattle.stimulus_file.specs.declared.reader.StimulusReader.{StimulusReader}
use Rattle.stimulus_file.specs.Forms.{Line, Blank, Horizon, Setting}
use Rattle.stimulus_file.specs.Stimulus.{SetRow, is_blank, is_horizon, sets, cause_of, stated_horizon, row_of, rows_of}
use Rattle.stimulus_file.specs.Named.{with_name, named_rows}
use Rattle.stimulus_file.specs.inner.KeptSettings.{is_at, then_at, HasNames, HasSeen, Finds}
use Rattle.stimulus_file.specs.inner.Reading.{HasRead}
use Rattle.stimulus_file.proofs.Naming.{sets_at, rows_set, named_any}

pub none_is : {X : Type 0} (o : Option X) → is_some o ≡ false → o ≡ None
none_is None h = refl
none_is (Some x) h = absurd cc

pub is_some-not : {X : Type 0} (o : Option X) (b : Bool) → is_none o ≡ b → is_some o ≡ not b
is_some-not None b h = ap not h
is_some-not (Some x) b h = ap not h

-- a line that states no horizon, and isn't blank, after one that does
pub horizon_step : (before : List Line) (r : StimulusReader) (h : ℕ) → HasRead before r → is_some r.horizon ≡ false → (cause_of before (Horizon (Some h)) ≡ None) × HasRead (before ++ Horizon (Some h) ∷ []) (record r { horizon = Some h })
horizon_step before r h read none =
    let none-is : r.horizon ≡ None = none_is r.horizon none in (
      rw (read.horizon_line, none) refl,
      record {
        horizon = flat_map-append stated_horizon before (Horizon (Some h) ∷ []) ∙ ap (λ (l : List ℕ). l ++ h ∷ []) (read.horizon ∙ ap option_to_list none-is);
        blank = list_all-append is_blank before (Horizon (Some h) ∷ []) ∙ and-false (list_all is_blank before);
        horizon_line = list_any-append is_horizon before (Horizon (Some h) ∷ []) ∙ or-true (list_any is_horizon before);
        rows = read.rows ∙ sym (rows-push row_of before (Horizon (Some h)) (length before + 1) refl ∙ append-nil (rows_of before));
        names = read.names;
        seen = read.seen;
      },
    )

-- a blank line
pub blank_step : (before : List Line) (r : StimulusReader) → HasRead before r → HasRead (before ++ Blank ∷ []) r
blank_step before r read = record {
  horizon = flat_map-append stated_horizon before (Blank ∷ []) ∙ append-nil (flat_map stated_horizon before) ∙ read.horizon;
  blank = list_all-append is_blank before (Blank ∷ []) ∙ and-true (list_all is_blank before) ∙ read.blank;
  horizon_line = list_any-append is_horizon before (Blank ∷ []) ∙ or-false (list_any is_horizon before) ∙ read.horizon_line;
  rows = read.rows ∙ sym (rows-push row_of before Blank (length before + 1) refl ∙ append-nil (rows_of before));
  names = read.names;
  seen = read.seen;
}

-- a line that sets a name at a time has the cause for which the settings tell that it does so again
pub set_before : (before : List Line) (r : StimulusReader) (names : Names) (found : Found) (name : List ℕ) (t : ℕ) → HasRead before r → Finds r.names names r.sets.items name t found
    → list_any (sets name t) before ≡ list_any (is_at found.place t) r.sets.items
set_before before r names found name t read f =
    rows_set name t 1 before ∙ ap (list_any (sets_at name t)) (sym (f.same ∙ read.rows)) ∙ named_any names.texts.items r.sets.items name found.place t f.placed f.place

-- a line that sets a name at a time for the first time
pub setting_step : (before : List Line) (r new : StimulusReader) (found : Found) (name : List ℕ) (t line : ℕ) (value : Value) → HasRead before r → length before + 1 ≡ line
    → is_none r.horizon ≡ false → new.horizon ≡ r.horizon → Finds r.names new.names r.sets.items name t found
    → list_any (is_at found.place t) r.sets.items ≡ false → then_at r.sets.items found.place t (HasSeen new.seen)
    → new.sets.items ≡ r.sets.items ++ record { line = line; name = found.place; time = t; value = value } ∷ []
    → (cause_of before (Setting name (Some t) value) ≡ None) × HasRead (before ++ Setting name (Some t) value ∷ []) new
setting_step before r new found name t line value read line-is some same f fresh seen pushed =
    let horizon : list_all is_blank before ≡ false = read.blank ∙ some in
    let unset : list_any (sets name t) before ≡ false = set_before before r new.names found name t read f ∙ fresh in (
      rw (horizon, unset) refl,
      record {
        horizon = flat_map-append stated_horizon before (Setting name (Some t) value ∷ []) ∙ append-nil (flat_map stated_horizon before) ∙ read.horizon ∙ ap option_to_list (sym same);
        blank = list_all-append is_blank before (Setting name (Some t) value ∷ []) ∙ and-false (list_all is_blank before) ∙ sym some ∙ ap is_none (sym same);
        horizon_line = list_any-append is_horizon before (Setting name (Some t) value ∷ []) ∙ or-false (list_any is_horizon before) ∙ read.horizon_line ∙ ap is_some (sym same);
        rows = ap (named_rows new.names.texts.items) pushed ∙ map-append (with_name new.names.texts.items) r.sets.items (record { line = line; name = found.place; time = t; value = value } ∷ [])
            ∙ ap₂ (λ (rows : List SetRow) (n : List ℕ). rows ++ record { line = line; name = n; time = t; value = value } ∷ []) (f.same ∙ read.rows) f.place.there
            ∙ sym (rows-push row_of before (Setting name (Some t) value) line line-is);
        names = subst (HasNames new.names) (sym pushed) (f.next line value);
        seen = subst (HasSeen new.seen) (sym pushed) (seen line value);
      },
    )

pub states : {X : Type 0} (o : Option X) (b : Bool) → is_some o ≡ not b → b ≡ false → is_none o ≡ false
states o b h e = ap not h ∙ ap (λ (x : Bool). not (not x)) e

pub blank_gives : (before : List Line) (r : StimulusReader) (line : Line) → line ≡ Blank → HasRead before r → (cause_of before line ≡ None) × HasRead (before ++ line ∷ []) r
blank_gives before r line is read = subst (λ (l : Line). (cause_of before l ≡ None) × HasRead (before ++ l ∷ []) r) (sym is) (refl, blank_step before r read)
