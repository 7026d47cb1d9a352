-- What is read is in its range.
use Rattle.std.proofs.Common.{◌≡◌, ◌≢◌, ℕ, ◌+◌, ◌≤◌, Bool, true, false, cond, leb, List, [], ◌∷◌, map, Option, Some, None, Ok, refl, sym, subst, arith}
use Rattle.std.specs.Prelude.{⊤, All, IfSome, slice_get, unwrap_or, ◌&&◌, if◌then◌else◌, codes}
use Rattle.std.specs.List.{flat_map}
use Rattle.std.specs.Str.{bytes_eq}
use Rattle.std.proofs.lemmas.Bool.{leb-true}
use Rattle.std.proofs.lemmas.List.Concat.{flat_map-cons}
use Rattle.std.proofs.lemmas.List.Elements.{All-nil, All-cons, All-append, All-head, All-tail}
use Rattle.gate_values.specs.declared.Value.{Value}
use Rattle.gate_values.specs.declared.Value.TheVariants.{Zero, One, X, Z}
use Rattle.gate_values.specs.declared.Kind.{Kind}
use Rattle.gate_values.specs.Spelling.{kind_of_word, value_of_word}
use Rattle.circuit_meaning.specs.Edges.{IsClock}
use Rattle.texts.specs.declared.Amount.{Amount}
use Rattle.texts.specs.declared.Amount.TheVariants.{NoNumber, Above, Within}
use Rattle.texts.specs.Text.{amount, content, is_name, lines, words}
use Rattle.texts.proofs.Callers.{within}
use Rattle.texts.specs.declared.line_faults.causes.LineFault.{LineFault}
use Rattle.texts.specs.line_faults.Faults.{first_fault, unless_fault}
use Rattle.texts.specs.line_faults.Rows.{rows_from}
use Rattle.timing_file.specs.declared.TimingCause.{TimingCause}
use Rattle.timing_file.specs.declared.TimingRow.{TimingRow}
use Rattle.timing_file.specs.declared.ClockRow.{ClockRow}
use Rattle.timing_file.specs.declared.form.Reading.{Reading}
use Rattle.timing_file.specs.declared.form.Reading.TheVariants.{NotNumbers, Outside, Inside}
use Rattle.timing_file.specs.Forms.{Statement, CommonClock, NamedClock, Default, DefaultOf, DelayOf, InitOf, PinOf, ClockedBy, Line, Blank, Other, Version, Plain, Versioned, from_least, number_in, both, as_clock, delay_in, clock_in, pin_in, plain, versioned_line, version_line, default_line, default_of_kind, default_of_line, common_clock_line, delay_line, init_to, init_line, clocked_line, named_clock_line, pin_line, two_words, three_words, four_words, by_words, line_of}
use Rattle.timing_file.specs.Subjects.{same_kind}
use Rattle.timing_file.specs.Timing.{Content, NumberedStatement, clock_stated, default_stated, kind_stated, row_of, clock_row_of, kind_delay, default_of, cause_of, stated_at, statements_at, statements_of, content_from, content_of, timing_of}
use Rattle.timing_file.specs.Ranges.{IsDelay, IsWithin, IsTiming}

abbrev IsRead : {T : Type 0} → (T → Type 0) → Reading T → Type 0
IsRead P NotNumbers = ⊤
IsRead P Outside = ⊤
IsRead P (Inside x) = P x

abbrev IsBetween : ℕ → ℕ → ℕ → Type 0
IsBetween least greatest n = (least ≤ n) × (n ≤ greatest)

at_least : (least greatest n : ℕ) (b : Bool) → leb least n ≡ b → n ≤ greatest → IsRead (IsBetween least greatest) (cond b (Inside n) Outside)
at_least least greatest n true e h = (leb-true least n e, h)
at_least least greatest n false e h = tt

number-within : (least greatest : ℕ) (word : List ℕ) → IsRead (IsBetween least greatest) (number_in least greatest word)
number-within least greatest word = cases (amount greatest word) (within greatest word)
  where
    cases : (a : Amount) → ((n : ℕ) → a ≡ Within n → n ≤ greatest) → IsRead (IsBetween least greatest) (from_least least a)
    cases NoNumber h = tt
    cases Above h = tt
    cases (Within n) h = at_least least greatest n (leb least n) refl (h n refl)

both-within : (P Q : ℕ → Type 0) (a b : Reading ℕ) → IsRead P a → IsRead Q b → IsRead (λ numbers. P numbers.0 × Q numbers.1) (both a b)
both-within P Q NotNumbers b p q = tt
both-within P Q Outside NotNumbers p q = tt
both-within P Q Outside Outside p q = tt
both-within P Q Outside (Inside b) p q = tt
both-within P Q (Inside a) NotNumbers p q = tt
both-within P Q (Inside a) Outside p q = tt
both-within P Q (Inside a) (Inside b) p q = (p, q)

clock-within : (first period : List ℕ) → IsRead IsClock (clock_in first period)
clock-within first period = cases (both (number_in 0 1000000 first) (number_in 1 1000000 period)) (both-within (IsBetween 0 1000000) (IsBetween 1 1000000) (number_in 0 1000000 first) (number_in 1 1000000 period) (number-within 0 1000000 first) (number-within 1 1000000 period))
  where
    cases : (r : Reading (ℕ × ℕ)) → IsRead (λ numbers. IsBetween 0 1000000 numbers.0 × IsBetween 1 1000000 numbers.1) r → IsRead IsClock (as_clock r)
    cases NotNumbers h = tt
    cases Outside h = tt
    cases (Inside numbers) h = record { first = h.0.1; some = h.1.0; period = h.1.1 }

pin-within : (place delay : List ℕ) → IsRead (λ numbers. IsBetween 0 63 numbers.0 × IsDelay numbers.1) (pin_in place delay)
pin-within place delay = both-within (IsBetween 0 63) IsDelay (number_in 0 63 place) (delay_in delay) (number-within 0 63 place) (number-within 1 1000000 delay)

abbrev IsInRange : Statement → Type 0
IsInRange (CommonClock clock) = IsClock clock
IsInRange (NamedClock name clock) = IsClock clock
IsInRange (Default delay) = IsDelay delay
IsInRange (DefaultOf kind delay) = IsDelay delay
IsInRange (DelayOf name delay) = IsDelay delay
IsInRange (InitOf name value) = value ≢ Z
IsInRange (PinOf name place delay) = IsBetween 0 63 place × IsDelay delay
IsInRange (ClockedBy flop clock) = ⊤

abbrev IsStated : Option Statement → Type 0
IsStated None = ⊤
IsStated (Some statement) = IsInRange statement

abbrev IsLine : Line → Type 0
IsLine Blank = ⊤
IsLine Other = ⊤
IsLine Version = ⊤
IsLine (Plain statement) = IsStated statement
IsLine (Versioned statement) = IsStated statement

either : (b : Bool) (x y : Line) → IsLine x → IsLine y → IsLine (cond b x y)
either true x y p q = p
either false x y p q = q

plain-within : {T : Type 0} (P : T → Type 0) (statement : T → Statement) (r : Reading T) → ((x : T) → P x → IsInRange (statement x)) → IsRead P r → IsLine (plain statement r)
plain-within P statement NotNumbers f h = tt
plain-within P statement Outside f h = tt
plain-within P statement (Inside x) f h = f x h

versioned-within : {T : Type 0} (P : T → Type 0) (statement : T → Statement) (r : Reading T) → ((x : T) → P x → IsInRange (statement x)) → IsRead P r → IsLine (versioned_line statement r)
versioned-within P statement NotNumbers f h = tt
versioned-within P statement Outside f h = tt
versioned-within P statement (Inside x) f h = f x h

default_of_kind-within : (kind : Option Kind) (delay : List ℕ) → IsLine (default_of_kind kind delay)
default_of_kind-within None delay = tt
default_of_kind-within (Some kind) delay = plain-within IsDelay (DefaultOf kind) (delay_in delay) (λ x h. h) (number-within 1 1000000 delay)

init_to-within : (name : List ℕ) (value : Option Value) → IsLine (init_to name value)
init_to-within name None = tt
init_to-within name (Some Zero) = λ e. cc
init_to-within name (Some One) = λ e. cc
init_to-within name (Some X) = λ e. cc
init_to-within name (Some Z) = tt

abbrev from_default : List ℕ → List ℕ → Line
from_default keyword a = if bytes_eq keyword (codes "default") then default_line a else Other

two-within : (keyword a : List ℕ) → IsLine (two_words keyword a)
two-within keyword a =
    either (bytes_eq keyword (codes "version")) (version_line a) (from_default keyword a) (either (bytes_eq a (codes "2")) Version Other tt tt)
    (either (bytes_eq keyword (codes "default")) (default_line a) Other (plain-within IsDelay Default (delay_in a) (λ x h. h) (number-within 1 1000000 a)) tt)

-- the last forms of three words, from each keyword on
abbrev from_clocked : List ℕ → List ℕ → List ℕ → Line
from_clocked keyword a b = if bytes_eq keyword (codes "clocked") then clocked_line a b else Other

abbrev from_init : List ℕ → List ℕ → List ℕ → Line
from_init keyword a b = if bytes_eq keyword (codes "init") then init_line a b else from_clocked keyword a b

abbrev from_delay : List ℕ → List ℕ → List ℕ → Line
from_delay keyword a b = if bytes_eq keyword (codes "delay") then delay_line a b else from_init keyword a b

abbrev from_kind : List ℕ → List ℕ → List ℕ → Line
from_kind keyword a b = if bytes_eq keyword (codes "default") then default_of_line a b else from_delay keyword a b

three-within : (keyword a b : List ℕ) → IsLine (three_words keyword a b)
three-within keyword a b =
    let clocked : IsLine (from_clocked keyword a b) = either (bytes_eq keyword (codes "clocked")) (clocked_line a b) Other (either (is_name a && is_name b) (Versioned (Some (ClockedBy a b))) Other tt tt) tt in
    let init : IsLine (from_init keyword a b) = either (bytes_eq keyword (codes "init")) (init_line a b) (from_clocked keyword a b) (either (is_name a) (init_to a (value_of_word b)) Other (init_to-within a (value_of_word b)) tt) clocked in
    let delay : IsLine (from_delay keyword a b) = either (bytes_eq keyword (codes "delay")) (delay_line a b) (from_init keyword a b) (either (is_name a) (plain (DelayOf a) (delay_in b)) Other (plain-within IsDelay (DelayOf a) (delay_in b) (λ x h. h) (number-within 1 1000000 b)) tt) init in
    let kind : IsLine (from_kind keyword a b) = either (bytes_eq keyword (codes "default")) (default_of_line a b) (from_delay keyword a b) (default_of_kind-within (kind_of_word a) b) delay in
    either (bytes_eq keyword (codes "clock")) (common_clock_line a b) (from_kind keyword a b) (plain-within IsClock CommonClock (clock_in a b) (λ x h. h) (clock-within a b)) kind

abbrev from_pin : List ℕ → List ℕ → List ℕ → List ℕ → Line
from_pin keyword a b c = if bytes_eq keyword (codes "pin") then pin_line a b c else Other

four-within : (keyword a b c : List ℕ) → IsLine (four_words keyword a b c)
four-within keyword a b c =
    let pin : IsLine (pin_line a b c) = either (is_name a) (versioned_line (λ numbers. PinOf a numbers.0 numbers.1) (pin_in b c)) Other (versioned-within (λ numbers. IsBetween 0 63 numbers.0 × IsDelay numbers.1) (λ numbers. PinOf a numbers.0 numbers.1) (pin_in b c) (λ x h. h) (pin-within b c)) tt in
    let clock : IsLine (named_clock_line a b c) = either (is_name a) (versioned_line (NamedClock a) (clock_in b c)) Other (versioned-within IsClock (NamedClock a) (clock_in b c) (λ x h. h) (clock-within b c)) tt in
    either (bytes_eq keyword (codes "clock")) (named_clock_line a b c) (from_pin keyword a b c) clock (either (bytes_eq keyword (codes "pin")) (pin_line a b c) Other pin tt)

words-within : (w : List (List ℕ)) → IsLine (by_words w)
words-within [] = tt
words-within (keyword ∷ []) = tt
words-within (keyword ∷ a ∷ []) = two-within keyword a
words-within (keyword ∷ a ∷ b ∷ []) = three-within keyword a b
words-within (keyword ∷ a ∷ b ∷ c ∷ []) = four-within keyword a b c
words-within (keyword ∷ a ∷ b ∷ c ∷ d ∷ more) = tt

line-within : (line : List ℕ) → IsLine (line_of line)
unfolding line_of
line-within line = words-within (words (content line))

stated-within : (n : ℕ) (statement : Option Statement) → IsStated statement → All (λ s. IsInRange s.statement) (stated_at n statement)
stated-within n None h = All-nil (λ s. IsInRange s.statement)
stated-within n (Some statement) h = All-cons (λ s. IsInRange s.statement) (record { line = n; statement = statement }) [] h (All-nil (λ s. IsInRange s.statement))

at-within : (n : ℕ) (line : Line) → IsLine line → All (λ s. IsInRange s.statement) (statements_at n line)
at-within n Blank h = All-nil (λ s. IsInRange s.statement)
at-within n Other h = All-nil (λ s. IsInRange s.statement)
at-within n Version h = All-nil (λ s. IsInRange s.statement)
at-within n (Plain statement) h = stated-within n statement h
at-within n (Versioned statement) h = stated-within n statement h

statements-within : (n : ℕ) (all : List (List ℕ)) → All (λ s. IsInRange s.statement) (rows_from statements_at n (map line_of all))
statements-within n [] = All-nil (λ s. IsInRange s.statement)
statements-within n (line ∷ all) = All-append (λ s. IsInRange s.statement) (statements_at n (line_of line)) (rows_from statements_at (n + 1) (map line_of all)) (at-within n (line_of line) (line-within line)) (statements-within (n + 1) all)

flat_map-within : {Y : Type 0} (f : NumberedStatement → List Y) (P : Y → Type 0) → ((s : NumberedStatement) → IsInRange s.statement → All P (f s)) → (all : List NumberedStatement) → All (λ s. IsInRange s.statement) all → All P (flat_map f all)
flat_map-within f P each [] h = All-nil P
flat_map-within f P each (s ∷ all) h = subst (All P) (sym (flat_map-cons f s all)) (All-append P (f s) (flat_map f all) (each s (All-head (λ s. IsInRange s.statement) s all h)) (flat_map-within f P each all (All-tail (λ s. IsInRange s.statement) s all h)))

one : {Y : Type 0} (P : Y → Type 0) (y : Y) → P y → All P (y ∷ [])
one P y h = All-cons P y [] h (All-nil P)

clock_stated-within : (e : Statement) → IsInRange e → All IsClock (clock_stated e)
clock_stated-within (CommonClock clock) h = one IsClock clock h
clock_stated-within (NamedClock name clock) h = All-nil IsClock
clock_stated-within (Default delay) h = All-nil IsClock
clock_stated-within (DefaultOf kind delay) h = All-nil IsClock
clock_stated-within (DelayOf name delay) h = All-nil IsClock
clock_stated-within (InitOf name value) h = All-nil IsClock
clock_stated-within (PinOf name place delay) h = All-nil IsClock
clock_stated-within (ClockedBy flop clock) h = All-nil IsClock

default_stated-within : (e : Statement) → IsInRange e → All IsDelay (default_stated e)
default_stated-within (CommonClock clock) h = All-nil IsDelay
default_stated-within (NamedClock name clock) h = All-nil IsDelay
default_stated-within (Default delay) h = one IsDelay delay h
default_stated-within (DefaultOf kind delay) h = All-nil IsDelay
default_stated-within (DelayOf name delay) h = All-nil IsDelay
default_stated-within (InitOf name value) h = All-nil IsDelay
default_stated-within (PinOf name place delay) h = All-nil IsDelay
default_stated-within (ClockedBy flop clock) h = All-nil IsDelay

abbrev IsKind : Kind × ℕ → Type 0
IsKind stated = IsDelay stated.1

kind_stated-within : (e : Statement) → IsInRange e → All IsKind (kind_stated e)
kind_stated-within (CommonClock clock) h = All-nil IsKind
kind_stated-within (NamedClock name clock) h = All-nil IsKind
kind_stated-within (Default delay) h = All-nil IsKind
kind_stated-within (DefaultOf kind delay) h = one IsKind (kind, delay) h
kind_stated-within (DelayOf name delay) h = All-nil IsKind
kind_stated-within (InitOf name value) h = All-nil IsKind
kind_stated-within (PinOf name place delay) h = All-nil IsKind
kind_stated-within (ClockedBy flop clock) h = All-nil IsKind

abbrev IsRow : TimingRow → Type 0
IsRow row = IsWithin row.what

row_of-within : (n : ℕ) (e : Statement) → IsInRange e → All IsRow (row_of n e)
row_of-within n (CommonClock clock) h = All-nil IsRow
row_of-within n (NamedClock name clock) h = All-nil IsRow
row_of-within n (Default delay) h = All-nil IsRow
row_of-within n (DefaultOf kind delay) h = All-nil IsRow
row_of-within n (DelayOf name delay) h = one IsRow _ h
row_of-within n (InitOf name value) h = one IsRow _ h
row_of-within n (PinOf name place delay) h = one IsRow _ (h.0.1, h.1)
row_of-within n (ClockedBy flop clock) h = one IsRow _ tt

abbrev IsClockRow : ClockRow → Type 0
IsClockRow row = IsClock row.clock

clock_row_of-within : (n : ℕ) (e : Statement) → IsInRange e → All IsClockRow (clock_row_of n e)
clock_row_of-within n (CommonClock clock) h = All-nil IsClockRow
clock_row_of-within n (NamedClock name clock) h = one IsClockRow _ h
clock_row_of-within n (Default delay) h = All-nil IsClockRow
clock_row_of-within n (DefaultOf kind delay) h = All-nil IsClockRow
clock_row_of-within n (DelayOf name delay) h = All-nil IsClockRow
clock_row_of-within n (InitOf name value) h = All-nil IsClockRow
clock_row_of-within n (PinOf name place delay) h = All-nil IsClockRow
clock_row_of-within n (ClockedBy flop clock) h = All-nil IsClockRow

first-within : {Y : Type 0} (P : Y → Type 0) (l : List Y) → All P l → IfSome (slice_get l 0) P
first-within P [] h = tt
first-within P (y ∷ l) h = All-head P y l h

content-within : (all : List NumberedStatement) → All (λ s. IsInRange s.statement) all → IsTiming (content_from all)
content-within all h = record {
  clock = first-within IsClock (flat_map (λ s. clock_stated s.statement) all) (flat_map-within (λ s. clock_stated s.statement) IsClock (λ s. clock_stated-within s.statement) all h);
  default = first-within IsDelay (flat_map (λ s. default_stated s.statement) all) (flat_map-within (λ s. default_stated s.statement) IsDelay (λ s. default_stated-within s.statement) all h);
  kinds = flat_map-within (λ s. kind_stated s.statement) IsKind (λ s. kind_stated-within s.statement) all h;
  rows = flat_map-within (λ s. row_of s.line s.statement) IsRow (λ s. row_of-within s.line s.statement) all h;
  clocks = flat_map-within (λ s. clock_row_of s.line s.statement) IsClockRow (λ s. clock_row_of-within s.line s.statement) all h;
}

-- what a file says is in its ranges
pub timing-within : (text : List ℕ) (c : Content) → timing_of text ≡ Ok c → IsTiming c
unfolding timing_of
timing-within text c h = cases (first_fault cause_of [] (map line_of (lines text))) h
  where
    cases : (o : Option (LineFault TimingCause)) → unless_fault o (Ok (content_of (map line_of (lines text)))) ≡ Ok c → IsTiming c
    cases None h = let same : content_of (map line_of (lines text)) ≡ c = cc in subst IsTiming same (content-within (statements_of (map line_of (lines text))) (statements-within 1 (lines text)))
    cases (Some fault) h = absurd cc

kind_delay-within : (kind : Kind) (kinds : List (Kind × ℕ)) → All IsKind kinds → IfSome (kind_delay kind kinds) IsDelay
kind_delay-within kind [] h = tt
kind_delay-within kind (stated ∷ more) h = cases (same_kind stated.0 kind) (All-head IsKind stated more h) (kind_delay-within kind more (All-tail IsKind stated more h))
  where
    cases : (b : Bool) → IsDelay stated.1 → IfSome (kind_delay kind more) IsDelay → IfSome (cond b (Some stated.1) (kind_delay kind more)) IsDelay
    cases true h later = h
    cases false h later = later

-- a default is a delay
pub default-within : (c : Content) (kind : Kind) → IsTiming c → IsDelay (default_of c kind)
default-within c kind h = cases (kind_delay kind c.kinds) c.default (kind_delay-within kind c.kinds h.kinds) h.default
  where
    cases : (o p : Option ℕ) → IfSome o IsDelay → IfSome p IsDelay → IsDelay (unwrap_or o (unwrap_or p 1))
    cases None None h g = (omega arith, omega arith)
    cases None (Some d) h g = g
    cases (Some d) p h g = h
