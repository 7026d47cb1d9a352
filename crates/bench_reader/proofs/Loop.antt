-- What all lines say.
use Rattle.std.proofs.Common.{◌≡◌, ℕ, List, [], ◌∷◌, ◌++◌, map, Some, None, Result, Ok, Err, refl, sym, ap, subst, ◌∙◌, inl, inr, ◌⊎◌}
use Rattle.std.specs.Prelude.{OnOk}
use Rattle.texts.specs.Text.{lines}
use Rattle.texts.specs.declared.line_faults.causes.LineFault.{LineFault}
use Rattle.texts.specs.line_faults.Faults.{at_line, first_fault}
use Rattle.texts.specs.line_faults.Reading.{Steps}
use Rattle.bench_reader.specs.declared.fault.BenchCause.{BenchCause}
use Rattle.bench_reader.specs.declared.fault.BenchCause.TheVariants.{Undefined, OutOfMemory}
use Rattle.bench_reader.specs.declared.reader.Reader.{Reader}
use Rattle.bench_reader.specs.Lines.{Line, line_of}
use Rattle.bench_reader.specs.Netlists.{cause_of, out_of_memory, bench_of, undefined_from, Content, NetlistDriver}
use Rattle.bench_reader.specs.inner.KeptNetlists.{driver}
use Rattle.bench_reader.specs.inner.Reading.{IsSoundReading, HasRead, IsRead, first_missing}
use Rattle.bench_reader.proofs.End.{rows_said, outputs_said, none_undefined, some_undefined}

pub fault_answers : (text : List ℕ) (fault : LineFault BenchCause) → (fault ≡ out_of_memory) ⊎ (first_fault cause_of [] (map line_of (lines text)) ≡ Some fault) → (fault ≡ out_of_memory) ⊎ (bench_of text ≡ Err fault)
unfolding bench_of
fault_answers text fault (inl memory) = inl memory
fault_answers text fault (inr first) = inr (rw first refl)

-- what is answered to the form of a line is answered to the line
pub answered : (before : List Line) (l m : Line) (new : Reader) (number : ℕ) (r : Result (Unit {0}) (LineFault BenchCause)) → l ≡ m → Steps OutOfMemory (cause_of before l) (HasRead (before ++ l ∷ []) new) number r → OnOk r (IsSoundReading new)
    → Steps OutOfMemory (cause_of before m) (IsRead (before ++ m ∷ []) new) number r
answered before l m new number (Ok x) is steps sound = subst (λ (k : Line). (cause_of before k ≡ None) × (IsSoundReading new × HasRead (before ++ k ∷ []) new)) is (steps.0, (sound, steps.1))
answered before l m new number (Err fault) is steps sound = subst (λ (k : Line). (fault ≡ out_of_memory) ⊎ (cause_of before k ≡ Some fault.cause) × (fault.line ≡ number)) is steps

-- all lines were read, and a name is undefined
pub undefined_said : (text : List ℕ) (r : Reader) (number : ℕ) → (first_fault cause_of [] (map line_of (lines text)) ≡ None) × IsRead (map line_of (lines text)) r → first_missing r.rows.items ≡ Some number → bench_of text ≡ Err (at_line number Undefined)
unfolding bench_of
undefined_said text r number read missing =
    let all = map line_of (lines text) in
    let first : undefined_from all 1 all ≡ Some (at_line number Undefined) = some_undefined all r.names r.rows.items r.pins.items r.outputs number read.1.1 read.1.0.rows_len missing in
    rw (read.0, first) refl

abbrev pub content : List (List ℕ) → List NetlistDriver → List ℕ → Content
content names rows outputs = record { names = names; rows = rows; outputs = outputs }

same_content : (n m : List (List ℕ)) (r q : List NetlistDriver) (o u : List ℕ) → n ≡ m → r ≡ q → o ≡ u → content n r o ≡ content m q u
same_content n m r q o u e f g = ap (λ (x : List (List ℕ)). content x r o) e ∙ ap (λ (x : List NetlistDriver). content m x o) f ∙ ap (λ (x : List ℕ). content m q x) g

-- all lines were read, and each name is defined
pub netlist_said : (text : List ℕ) (r : Reader) → (first_fault cause_of [] (map line_of (lines text)) ≡ None) × IsRead (map line_of (lines text)) r → first_missing r.rows.items ≡ None
    → bench_of text ≡ Ok (record { names = r.names; rows = map (driver r.pins.items) r.rows.items; outputs = r.outputs })
unfolding bench_of
netlist_said text r (first, (sound, read)) missing =
    let all = map line_of (lines text) in
    let len = sound.rows_len in
    let none : undefined_from all 1 all ≡ None = none_undefined all r.names r.rows.items r.pins.items r.outputs read len missing in
    let rows = rows_said all r.names r.rows.items r.pins.items r.outputs read len in
    let outputs = outputs_said all r.names r.rows.items r.pins.items r.outputs read in
    rw (first, none) (ap Ok (same_content _ _ _ _ _ _ (sym read.names_are) (sym rows) (sym outputs)))
