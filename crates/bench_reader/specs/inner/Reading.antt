-- What the reader knows between two lines.
use Rattle.std.specs.Prelude.{◌≡◌, ℕ, IsTrue, ◌+◌, ◌-◌, ◌<◌, ◌≤◌, Bool, true, false, nat_eq, List, [], ◌∷◌, ◌++◌, length, map, take, drop, replicate, find, Option, Some, None, Result, slice_index_or}
use Rattle.std.specs.List.{flat_map, list_all, list_any}
use Rattle.indexmap.specs.IndexSet.{insert_all}
use Rattle.gate_values.specs.declared.Kind.{Kind}
use Rattle.gate_values.specs.Gates.{allows}
use Rattle.gate_values.specs.Spelling.{kind_of_word}
use Rattle.texts.specs.declared.line_faults.causes.LineFault.{LineFault}
use Rattle.texts.specs.line_faults.Reading.{TakesLine}
use Rattle.bench_reader.specs.declared.fault.BenchCause.{BenchCause}
use Rattle.bench_reader.specs.declared.fault.BenchCause.TheVariants.{OutOfMemory}
use Rattle.bench_reader.specs.declared.netlist.Definition.{Definition}
use Rattle.bench_reader.specs.declared.netlist.Definition.TheVariants.{Missing, Input, Gate}
use Rattle.bench_reader.specs.declared.reader.Reader.{Reader}
use Rattle.bench_reader.specs.Lines.{Line}
use Rattle.bench_reader.specs.Lines as line
use Rattle.bench_reader.specs.Netlists.{names, pins_in, outputs_in, gates_in, defined_in, drives, is_among, is_long, place, cause_of}
use Rattle.bench_reader.specs.inner.KeptNetlists.{IsKeptNetlist}

abbrev pub IsSoundReading : Reader → Type 0
IsSoundReading r = IsKeptNetlist r.names r.rows.items r.pins.items

abbrev pub is_gate : Definition → Bool
is_gate (Missing line) = false
is_gate Input = false
is_gate (Gate kind count start) = true

abbrev pub is_defined : Definition → Bool
is_defined (Missing line) = false
is_defined Input = true
is_defined (Gate kind count start) = true

-- where there is no definition yet, it is missing
abbrev pub is_gate_at : List Definition → ℕ → Bool
is_gate_at rows i = is_gate (slice_index_or rows i (Missing 0))

abbrev pub is_defined_at : List Definition → ℕ → Bool
is_defined_at rows i = is_defined (slice_index_or rows i (Missing 0))

-- rows for so many names, where the names without a row yet are first named on this line
abbrev pub padded_rows : List Definition → ℕ → ℕ → List Definition
padded_rows rows count number = rows ++ replicate (count - length rows) (Missing number)

-- the line of the first that is missing
abbrev pub first_missing : List Definition → Option ℕ
first_missing [] = None
first_missing (Missing line ∷ rows) = Some line
first_missing (Input ∷ rows) = first_missing rows
first_missing (Gate kind count start ∷ rows) = first_missing rows

-- these names have these numbers
pub record Numbered (ks : List (List ℕ)) (ids : List ℕ) (named : List (List ℕ)) : Type 0 where
  pub ids_are : ids ≡ map (place ks) named
  pub there : list_all (is_among ks) named ≡ true

-- this line, counted from 1, is the first that names the signal of this number
pub record FirstNamed (before : List Line) (i number : ℕ) : Type 0 where
  pub done : List Line
  pub here : Line
  pub later : List Line
  pub split : before ≡ done ++ here ∷ later
  pub count : length done + 1 ≡ number
  pub above : length (names done) ≤ i
  pub below : i < length (names (done ++ here ∷ []))

pub record IsMissing (before : List Line) (i number : ℕ) (name : List ℕ) : Type 0 where
  pub undefined : is_among (flat_map defined_in before) name ≡ false
  pub first : FirstNamed before i number

pub record IsInput (before : List Line) (name : List ℕ) : Type 0 where
  pub defined : is_among (flat_map defined_in before) name ≡ true
  pub no_gate : is_among (flat_map gates_in before) name ≡ false

pub record IsGate (before : List Line) (kind : Kind) (start count : ℕ) (name : List ℕ) : Type 0 where
  pub defined : is_among (flat_map defined_in before) name ≡ true
  pub gate : is_among (flat_map gates_in before) name ≡ true
  pub said : List ℕ
  pub word : List ℕ
  pub pins : List (List ℕ)
  pub found : find (drives name) before ≡ Some (line.Gate said word pins)
  pub kind_is : kind_of_word word ≡ Some kind
  pub within : start + count ≤ length (flat_map pins_in before)
  pub pins_are : take count (drop start (flat_map pins_in before)) ≡ pins

-- the definition is what these lines say of the name
abbrev pub Tells : List Line → ℕ → Definition → List ℕ → Type 0
Tells before i (Missing number) name = IsMissing before i number name
Tells before i Input name = IsInput before name
Tells before i (Gate kind count start) name = IsGate before kind start count name

-- the reader's lists are what these lines say
pub record Knows (before : List Line) (ks : List (List ℕ)) (rows : List Definition) (pins outputs : List ℕ) : Type 0 where
  pub names_are : ks ≡ names before
  pub told : (i : ℕ) → i < length ks → Tells before i (slice_index_or rows i (Missing 0)) (slice_index_or ks i [])
  pub pins_are : Numbered ks pins (flat_map pins_in before)
  pub ids : List ℕ
  pub ids_are : Numbered ks ids (flat_map outputs_in before)
  pub outputs_are : outputs ≡ insert_all nat_eq [] ids

-- the reader has read these lines, none of which is at fault
abbrev pub HasRead : List Line → Reader → Type 0
HasRead before r = Knows before r.names r.rows.items r.pins.items r.outputs

-- what the reader answers to a line
abbrev pub Takes : Reader → Line → ℕ → Reader → Result (Unit {0}) (LineFault BenchCause) → Type 0
Takes old line number new answer = TakesLine OutOfMemory cause_of HasRead old new number line answer

-- and its lists fit together
abbrev pub IsRead : List Line → Reader → Type 0
IsRead before r = IsSoundReading r × HasRead before r

-- the kind is known, takes so many pins, and no name is too long
pub record CountsPins (name word : List ℕ) (kind : Kind) (pins : List (List ℕ)) : Type 0 where
  pub kind_is : kind_of_word word ≡ Some kind
  pub counted : IsTrue (allows kind (length pins))
  pub short : list_any is_long (name ∷ pins) ≡ false
