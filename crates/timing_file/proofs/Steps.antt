-- What the reader knows after one more line.
use Rattle.std.proofs.Common.{◌≡◌, ℕ, ◌+◌, ◌&&◌, ◌||◌, Bool, true, false, List, [], ◌∷◌, ◌++◌, length, Option, Some, None, refl, sym, ap, subst, ◌∙◌, inl, inr}
use Rattle.std.specs.Prelude.{slice_get, Result}
use Rattle.std.specs.Bool.{OnTrue}
use Rattle.std.specs.List.{list_all, list_any, flat_map}
use Rattle.std.proofs.Math.Bool.{and-false, and-true, or-true, or-false}
use Rattle.std.proofs.lemmas.Grind.{flat_map-append}
use Rattle.std.proofs.lemmas.List.{append-nil}
use Rattle.std.proofs.lemmas.List.Concat.{flat_map-cons}
use Rattle.std.proofs.lemmas.List.Folds.{list_all-append, list_any-append}
use Rattle.gate_values.specs.declared.Kind.{Kind}
use Rattle.circuit_meaning.specs.declared.flip_flop.Clock.{Clock}
use Rattle.texts.specs.declared.line_faults.causes.LineFault.{LineFault}
use Rattle.texts.specs.line_faults.Reading.{Steps}
use Rattle.texts.proofs.Callers.{rows-push}
use Rattle.timing_file.specs.declared.TimingCause.{TimingCause}
use Rattle.timing_file.specs.declared.TimingCause.TheVariants.{OutOfMemory}
use Rattle.timing_file.specs.declared.TimingRow.{TimingRow}
use Rattle.timing_file.specs.declared.ClockRow.{ClockRow}
use Rattle.timing_file.specs.declared.statement.Subject.{Subject}
use Rattle.timing_file.specs.declared.reader.TimingReader.{TimingReader}
use Rattle.timing_file.specs.Forms.{Statement, CommonClock, NamedClock, Default, DefaultOf, DelayOf, InitOf, PinOf, ClockedBy, Line, Blank, Version, Plain, Versioned}
use Rattle.timing_file.specs.Subjects.{same_subject, subject_of}
use Rattle.timing_file.specs.Subjects as subjects
use Rattle.timing_file.specs.Timing.{Content, NumberedStatement, clock_stated, default_stated, kind_stated, row_of, clock_row_of, is_blank, is_version, cause_of, cause_of_statement, content_from, is_repeated, statements_at, statements_of}
use Rattle.timing_file.specs.inner.Views.{is_alike, subject_seen}
use Rattle.timing_file.specs.inner.Reading.{HasRead, IsStatement, StepsStatement, with_statement}

-- the five lists that a content is made of
abbrev clocks_in : List NumberedStatement → List Clock
clocks_in all = flat_map (λ s. clock_stated s.statement) all

abbrev defaults_in : List NumberedStatement → List ℕ
defaults_in all = flat_map (λ s. default_stated s.statement) all

abbrev kinds_in : List NumberedStatement → List (Kind × ℕ)
kinds_in all = flat_map (λ s. kind_stated s.statement) all

abbrev rows_in : List NumberedStatement → List TimingRow
rows_in all = flat_map (λ s. row_of s.line s.statement) all

abbrev clock_rows_in : List NumberedStatement → List ClockRow
clock_rows_in all = flat_map (λ s. clock_row_of s.line s.statement) all

abbrev made : Option Clock → Option ℕ → List (Kind × ℕ) → List TimingRow → List ClockRow → Content
made clock default kinds rows clocks = record { clock = clock; default = default; kinds = kinds; rows = rows; clocks = clocks }

made-same : {a b : Option Clock} {d e : Option ℕ} {k l : List (Kind × ℕ)} {r s : List TimingRow} {c f : List ClockRow} → a ≡ b → d ≡ e → k ≡ l → r ≡ s → c ≡ f → made a d k r c ≡ made b e l s f
made-same {a} {b} {d} {e} {k} {l} {r} {s} {c} {f} clock default kinds rows clocks =
    ap (λ (x : Option Clock). made x d k r c) clock ∙ ap (λ (x : Option ℕ). made b x k r c) default ∙ ap (λ (x : List (Kind × ℕ)). made b e x r c) kinds ∙ ap (λ (x : List TimingRow). made b e l x c) rows ∙ ap (λ (x : List ClockRow). made b e l s x) clocks

flat_map-push : {Y : Type 0} (f : NumberedStatement → List Y) (all : List NumberedStatement) (s : NumberedStatement) → flat_map f (all ++ s ∷ []) ≡ flat_map f all ++ f s
flat_map-push {Y} f all s = flat_map-append f all (s ∷ []) ∙ ap (λ (l : List Y). flat_map f all ++ l) (flat_map-cons f s [] ∙ append-nil (f s))

first-push : {Y : Type 0} (f : NumberedStatement → List Y) (all : List NumberedStatement) (s : NumberedStatement) → slice_get (flat_map f (all ++ s ∷ [])) 0 ≡ slice_get (flat_map f all ++ f s) 0
first-push {Y} f all s = ap (λ (l : List Y). slice_get l 0) (flat_map-push f all s)

first_kept : {Y : Type 0} (l : List Y) → slice_get l 0 ≡ slice_get (l ++ []) 0
first_kept {Y} l = ap (λ (l : List Y). slice_get l 0) (sym (append-nil l))

abbrev repeats : Statement → List NumberedStatement → Bool
repeats e all = list_any (λ s. same_subject (subject_of e) (subject_of s.statement)) all

-- where no statement repeats a clock without a name, there is none
no_clock : (c : Clock) (all : List NumberedStatement) → repeats (CommonClock c) all ≡ false → clocks_in all ≡ []
no_clock c [] h = refl
no_clock c (s ∷ all) h = flat_map-cons (λ s. clock_stated s.statement) s all ∙ cases s.statement (no_clock c all) h
  where
    cases : (e : Statement) (again : repeats (CommonClock c) all ≡ false → clocks_in all ≡ []) → (same_subject (subject_of (CommonClock c)) (subject_of e) || repeats (CommonClock c) all) ≡ false → clock_stated e ++ clocks_in all ≡ []
    cases (CommonClock d) again h = absurd cc
    cases (NamedClock n d) again h = again h
    cases (Default d) again h = again h
    cases (DefaultOf k d) again h = again h
    cases (DelayOf n d) again h = again h
    cases (InitOf n v) again h = again h
    cases (PinOf n k d) again h = again h
    cases (ClockedBy n d) again h = again h

-- and so for a default without a kind
no_default : (d : ℕ) (all : List NumberedStatement) → repeats (Default d) all ≡ false → defaults_in all ≡ []
no_default d [] h = refl
no_default d (s ∷ all) h = flat_map-cons (λ s. default_stated s.statement) s all ∙ cases s.statement (no_default d all) h
  where
    cases : (e : Statement) (again : repeats (Default d) all ≡ false → defaults_in all ≡ []) → (same_subject (subject_of (Default d)) (subject_of e) || repeats (Default d) all) ≡ false → default_stated e ++ defaults_in all ≡ []
    cases (CommonClock c) again h = again h
    cases (NamedClock n c) again h = again h
    cases (Default c) again h = absurd cc
    cases (DefaultOf k c) again h = again h
    cases (DelayOf n c) again h = again h
    cases (InitOf n v) again h = again h
    cases (PinOf n k c) again h = again h
    cases (ClockedBy n c) again h = again h

-- the content of one more statement that repeats none
pub content-push : (all : List NumberedStatement) (n : ℕ) (e : Statement) → repeats e all ≡ false → with_statement (content_from all) n e ≡ content_from (all ++ record { line = n; statement = e } ∷ [])
content-push all n e h = cases e h ∙ sym (joined (record { line = n; statement = e }))
  where
    joined : (s : NumberedStatement) → content_from (all ++ s ∷ []) ≡ made (slice_get (clocks_in all ++ clock_stated s.statement) 0) (slice_get (defaults_in all ++ default_stated s.statement) 0) (kinds_in all ++ kind_stated s.statement) (rows_in all ++ row_of s.line s.statement) (clock_rows_in all ++ clock_row_of s.line s.statement)
    joined s = made-same (first-push (λ s. clock_stated s.statement) all s) (first-push (λ s. default_stated s.statement) all s) (flat_map-push (λ s. kind_stated s.statement) all s) (flat_map-push (λ s. row_of s.line s.statement) all s) (flat_map-push (λ s. clock_row_of s.line s.statement) all s)

    cases : (e : Statement) → repeats e all ≡ false → with_statement (content_from all) n e ≡ made (slice_get (clocks_in all ++ clock_stated e) 0) (slice_get (defaults_in all ++ default_stated e) 0) (kinds_in all ++ kind_stated e) (rows_in all ++ row_of n e) (clock_rows_in all ++ clock_row_of n e)
    cases (CommonClock c) h = made-same (ap (λ (l : List Clock). slice_get (l ++ c ∷ []) 0) (sym (no_clock c all h))) (first_kept (defaults_in all)) (sym (append-nil (kinds_in all))) (sym (append-nil (rows_in all))) (sym (append-nil (clock_rows_in all)))
    cases (NamedClock m c) h = made-same (first_kept (clocks_in all)) (first_kept (defaults_in all)) (sym (append-nil (kinds_in all))) (sym (append-nil (rows_in all))) refl
    cases (Default d) h = made-same (first_kept (clocks_in all)) (ap (λ (l : List ℕ). slice_get (l ++ d ∷ []) 0) (sym (no_default d all h))) (sym (append-nil (kinds_in all))) (sym (append-nil (rows_in all))) (sym (append-nil (clock_rows_in all)))
    cases (DefaultOf k d) h = made-same (first_kept (clocks_in all)) (first_kept (defaults_in all)) refl (sym (append-nil (rows_in all))) (sym (append-nil (clock_rows_in all)))
    cases (DelayOf m d) h = made-same (first_kept (clocks_in all)) (first_kept (defaults_in all)) (sym (append-nil (kinds_in all))) refl (sym (append-nil (clock_rows_in all)))
    cases (InitOf m v) h = made-same (first_kept (clocks_in all)) (first_kept (defaults_in all)) (sym (append-nil (kinds_in all))) refl (sym (append-nil (clock_rows_in all)))
    cases (PinOf m k d) h = made-same (first_kept (clocks_in all)) (first_kept (defaults_in all)) (sym (append-nil (kinds_in all))) refl (sym (append-nil (clock_rows_in all)))
    cases (ClockedBy m c) h = made-same (first_kept (clocks_in all)) (first_kept (defaults_in all)) (sym (append-nil (kinds_in all))) refl (sym (append-nil (clock_rows_in all)))

-- a blank line
pub blank_step : (before : List Line) (r : TimingReader) → HasRead before r → HasRead (before ++ Blank ∷ []) r
blank_step before r read =
    let same : statements_of (before ++ Blank ∷ []) ≡ statements_of before = rows-push statements_at before Blank (length before + 1) refl ∙ append-nil (statements_of before) in
    record {
      blank = list_all-append is_blank before (Blank ∷ []) ∙ and-true (list_all is_blank before) ∙ read.blank;
      version = list_any-append is_version before (Blank ∷ []) ∙ or-false (list_any is_version before) ∙ read.version;
      content = read.content ∙ ap content_from (sym same);
      seen = λ q. read.seen q ∙ ap (list_any (λ s. same_subject (subject_seen q) (subject_of s.statement))) (sym same);
    }

pub blank_gives : (before : List Line) (r : TimingReader) (line : Line) → line ≡ Blank → HasRead before r → (cause_of before line ≡ None) × HasRead (before ++ line ∷ []) r
blank_gives before r line is read = subst (λ (l : Line). (cause_of before l ≡ None) × HasRead (before ++ l ∷ []) r) (sym is) (refl, blank_step before r read)

-- the line `version 2`
pub version_step : (before : List Line) (r : TimingReader) → HasRead before r → r.is_empty ≡ true → (cause_of before Version ≡ None) × HasRead (before ++ Version ∷ []) (record r { is_empty = false; is_version_2 = true })
version_step before r read empty =
    let same : statements_of (before ++ Version ∷ []) ≡ statements_of before = rows-push statements_at before Version (length before + 1) refl ∙ append-nil (statements_of before) in (
      rw (read.blank, empty) refl,
      record {
        blank = list_all-append is_blank before (Version ∷ []) ∙ and-false (list_all is_blank before);
        version = list_any-append is_version before (Version ∷ []) ∙ or-true (list_any is_version before);
        content = read.content ∙ ap content_from (sym same);
        seen = λ q. read.seen q ∙ ap (list_any (λ s. same_subject (subject_seen q) (subject_of s.statement))) (sym same);
      },
    )

-- whether the subject of a statement was seen
pub repeated : (before : List Line) (r : TimingReader) (key : Subject) (e : Statement) → HasRead before r → subject_seen key ≡ subject_of e → (b : Bool) → list_any (is_alike key) r.seen.keys ≡ b → is_repeated before e ≡ b
repeated before r key e read key-is b h =
    let seen : list_any (λ s. same_subject (subject_seen key) (subject_of s.statement)) (statements_of before) ≡ b = sym (read.seen key) ∙ h in
    subst (λ (x : subjects.Subject). list_any (λ s. same_subject x (subject_of s.statement)) (statements_of before) ≡ b) key-is seen

or_last : (a b : Bool) → (a || b) ≡ (b || (a || false))
or_last true true = refl
or_last true false = refl
or_last false true = refl
or_last false false = refl

at_line : (n : ℕ) (line : Line) (e : Statement) → IsStatement line (Some e) → (statements_at n line ≡ record { line = n; statement = e } ∷ []) × (is_blank line ≡ false) × (is_version line ≡ false)
at_line n line e (inl is) = rw is (refl, refl, refl)
at_line n line e (inr is) = rw is (refl, refl, refl)

-- a line that states something for the first time
pub stated_step : (before : List Line) (line : Line) (r new : TimingReader) (key : Subject) (e : Statement) (n : ℕ) → IsStatement line (Some e) → HasRead before r → length before + 1 ≡ n → subject_seen key ≡ subject_of e
    → list_any (is_alike key) r.seen.keys ≡ false
    → ((q : Subject) → list_any (is_alike q) new.seen.keys ≡ (is_alike q key || list_any (is_alike q) r.seen.keys))
    → new.stated ≡ with_statement r.stated n e → new.is_empty ≡ false → new.is_version_2 ≡ r.is_version_2
    → (cause_of_statement before (Some e) ≡ None) × HasRead (before ++ line ∷ []) new
stated_step before line r new key e n is read count key-is fresh grows stated filled same_version =
    let unrepeated : is_repeated before e ≡ false = repeated before r key e read key-is false fresh in
    let at = at_line n line e is in
    let more : statements_of (before ++ line ∷ []) ≡ statements_of before ++ record { line = n; statement = e } ∷ [] = rows-push statements_at before line n count ∙ ap (λ (l : List NumberedStatement). statements_of before ++ l) at.0 in (
      rw unrepeated refl,
      record {
        blank = list_all-append is_blank before (line ∷ []) ∙ ap (λ (b : Bool). list_all is_blank before && (b && true)) at.1 ∙ and-false (list_all is_blank before) ∙ sym filled;
        version = list_any-append is_version before (line ∷ []) ∙ ap (λ (b : Bool). list_any is_version before || (b || false)) at.2 ∙ or-false (list_any is_version before) ∙ read.version ∙ sym same_version;
        content = stated ∙ ap (λ (c : Content). with_statement c n e) read.content ∙ content-push (statements_of before) n e unrepeated ∙ ap content_from (sym more);
        seen = λ q. grows q ∙ ap (λ (b : Bool). is_alike q key || b) (read.seen q) ∙ or_last (is_alike q key) (list_any (λ s. same_subject (subject_seen q) (subject_of s.statement)) (statements_of before))
            ∙ ap (λ (x : subjects.Subject). list_any (λ s. same_subject (subject_seen q) (subject_of s.statement)) (statements_of before) || (same_subject (subject_seen q) x || false)) key-is
            ∙ sym (ap (list_any (λ s. same_subject (subject_seen q) (subject_of s.statement))) more ∙ list_any-append (λ s. same_subject (subject_seen q) (subject_of s.statement)) (statements_of before) (record { line = n; statement = e } ∷ []));
      },
    )

pub on_true : (P : Type 0) (b : Bool) → b ≡ true → OnTrue b P → P
on_true P true e p = p
on_true P false e p = absurd cc

pub statement_steps : (before : List Line) (line : Line) (o p : Option Statement) (n : ℕ) (r : TimingReader) (answer : Result (Unit {0}) (LineFault TimingCause)) → o ≡ p → (IsStatement line p → StepsStatement before line p n r answer) → IsStatement line o → StepsStatement before line o n r answer
statement_steps before line o p n r answer same steps is = subst (λ (x : Option Statement). StepsStatement before line x n r answer) (sym same) (steps (subst (λ (x : Option Statement). IsStatement line x) same is))

abbrev pub StepsLine : List Line → Line → ℕ → TimingReader → Result (Unit {0}) (LineFault TimingCause) → Type 0
StepsLine before line n r answer = Steps OutOfMemory (cause_of before line) (HasRead (before ++ line ∷ []) r) n answer

-- a line of every file is answered as its statement is
pub plain_steps : (before : List Line) (line : Line) (o : Option Statement) (n : ℕ) (r : TimingReader) (answer : Result (Unit {0}) (LineFault TimingCause)) → line ≡ Plain o → ((l : Line) → IsStatement l o → StepsStatement before l o n r answer) → StepsLine before line n r answer
plain_steps before line o n r answer is steps = subst (λ (l : Line). StepsLine before l n r answer) (sym is) (steps (Plain o) (inl refl))

-- and so is a line of a file of version 2 in such a file
pub versioned_steps : (before : List Line) (line : Line) (o : Option Statement) (n : ℕ) (r : TimingReader) (answer : Result (Unit {0}) (LineFault TimingCause)) → list_any is_version before ≡ true → line ≡ Versioned o → ((l : Line) → IsStatement l o → StepsStatement before l o n r answer) → StepsLine before line n r answer
versioned_steps before line o n r answer has is steps = subst (λ (l : Line). StepsLine before l n r answer) (sym is) (rw has (steps (Versioned o) (inr refl)))
