-- What all lines say.
use Rattle.std.proofs.Common.{◌≡◌, ℕ, List, [], map, Option, Some, None, Err, refl, ap, ◌∙◌, inl, inr, ◌⊎◌}
use Rattle.texts.specs.Text.{lines}
use Rattle.texts.specs.declared.line_faults.causes.LineFault.{LineFault}
use Rattle.texts.specs.line_faults.Faults.{first_fault}
use Rattle.stimulus_file.specs.declared.StimulusCause.{StimulusCause}
use Rattle.stimulus_file.specs.declared.reader.StimulusReader.{StimulusReader}
use Rattle.stimulus_file.specs.Causes.{out_of_memory}
use Rattle.stimulus_file.specs.Forms.{line_of}
use Rattle.stimulus_file.specs.Stimulus.{cause_of, stimulus_of, horizon_of, with_horizon}
use Rattle.std.specs.Prelude.{option_to_list, slice_get}
use Rattle.stimulus_file.specs.Named.{named_rows}
use Rattle.stimulus_file.specs.inner.Reading.{HasRead}

pub fault_answers : (text : List ℕ) (fault : LineFault StimulusCause) → (fault ≡ out_of_memory) ⊎ (first_fault cause_of [] (map line_of (lines text)) ≡ Some fault) → (fault ≡ out_of_memory) ⊎ (stimulus_of text ≡ Err fault)
unfolding stimulus_of
fault_answers text fault (inl memory) = inl memory
fault_answers text fault (inr first) = inr (rw first refl)

pub said : (text : List ℕ) (r : StimulusReader) (o : Option ℕ) → (first_fault cause_of [] (map line_of (lines text)) ≡ None) × HasRead (map line_of (lines text)) r → r.horizon ≡ o → stimulus_of text ≡ with_horizon o (named_rows r.names.texts.items r.sets.items)
unfolding stimulus_of
said text r o read is =
    let all = map line_of (lines text) in
    let horizon : horizon_of all ≡ o = ap (λ (l : List ℕ). slice_get l 0) (read.1.horizon ∙ ap option_to_list is) ∙ first o in
    rw (read.0, horizon, read.1.rows) refl
  where
    first : (o : Option ℕ) → slice_get (option_to_list o) 0 ≡ o
    first None = refl
    first (Some x) = refl
