-- What all lines say.
use Rattle.std.proofs.Common.{◌≡◌, ℕ, List, [], map, Some, None, Ok, Err, refl, inl, inr, ◌⊎◌}
use Rattle.texts.specs.Text.{lines}
use Rattle.texts.specs.declared.line_faults.causes.LineFault.{LineFault}
use Rattle.texts.specs.line_faults.Faults.{first_fault}
use Rattle.timing_file.specs.declared.TimingCause.{TimingCause}
use Rattle.timing_file.specs.declared.reader.TimingReader.{TimingReader}
use Rattle.timing_file.specs.Causes.{out_of_memory}
use Rattle.timing_file.specs.Forms.{line_of}
use Rattle.timing_file.specs.Timing.{cause_of, timing_of}
use Rattle.timing_file.specs.inner.Reading.{HasRead}

pub fault_answers : (text : List ℕ) (fault : LineFault TimingCause) → (fault ≡ out_of_memory) ⊎ (first_fault cause_of [] (map line_of (lines text)) ≡ Some fault) → (fault ≡ out_of_memory) ⊎ (timing_of text ≡ Err fault)
unfolding timing_of
fault_answers text fault (inl memory) = inl memory
fault_answers text fault (inr first) = inr (rw first refl)

pub said : (text : List ℕ) (r : TimingReader) → (first_fault cause_of [] (map line_of (lines text)) ≡ None) × HasRead (map line_of (lines text)) r → timing_of text ≡ Ok r.stated
unfolding timing_of
said text r read = rw (read.0, read.1.content) refl
