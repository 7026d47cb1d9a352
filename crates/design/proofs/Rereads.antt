-- What rows say, one row after another.
use Rattle.std.proofs.Common.{◌≡◌, ℕ, ◌+◌, ◌<◌, ◌≤◌, Bool, true, false, ◌&&◌, cond, List, [], ◌∷◌, ◌++◌, length, take, drop, get_or, Option, Some, None, refl, sym, ap, ap₂, ◌∙◌, ◌⊎◌, inl, inr}
use Rattle.std.specs.Prelude.{nat_eq, Result, Ok, Err, OnOk, IfErr}
use Rattle.std.specs.Str.{bytes_eq}
use Rattle.std.specs.Borrow.{Bor}
use Rattle.std.specs.BTreeMap.{BTreeMap, get_by}
use Rattle.std.specs.Cmp.Lexicographic.{slice_cmp}
use Rattle.std.specs.Ordering.{nat_cmp, is_eq}
use Rattle.std.specs.Cmp.{tied_then, unsigned_tied}
use Rattle.std.proofs.lemmas.List.{drop_more, drop_all, take_more}
use Rattle.std.proofs.lemmas.Cmp.{nat_list_eq_equiv}
use Rattle.std.proofs.lemmas.Map.Text.{is_eq-slice_cmp}
use Rattle.circuit_meaning.specs.declared.flip_flop.Clock.{Clock}
use Rattle.design.specs.inner.Said.{KnowsClocks, HasStated, TakesRow, pin_cmp}
use Rattle.bench_reader.specs.Netlists as netlists
use Rattle.timing_file.specs.Timing as timings
use Rattle.timing_file.specs.declared.ClockRow.{ClockRow}
use Rattle.timing_file.specs.declared.TimingRow.{TimingRow}
use Rattle.timing_file.specs.declared.TimingWhat.{TimingWhat}
use Rattle.design.specs.declared.fault.JoinFault.{JoinFault}
use Rattle.design.specs.declared.fault.JoinCause.{JoinCause}
use Rattle.design.specs.declared.fault.JoinFile.TheVariants as file
use Rattle.design.specs.declared.signal_timing.SignalTiming.{SignalTiming}
use Rattle.design.specs.Causes.{out_of_memory}
use Rattle.design.specs.Join.{number, or_else, last_said, when, is_signal, said_of, rows_say, first_fault, clock_of_row, cause_of_what, cause_of_timing, driver_at, fault_of, timing_fault}

or_else-none : {A : Type 0} (a : Option A) → or_else a None ≡ a
or_else-none None = refl
or_else-none (Some x) = refl

or_else-again : {A : Type 0} (a b c : Option A) → or_else (or_else a b) c ≡ or_else a (or_else b c)
or_else-again None b c = refl
or_else-again (Some x) b c = refl

-- one row more at the end says the last word
pub last_said-push : {R A : Type 0} (says : R → Option A) (rows : List R) (row : R) → last_said says (rows ++ row ∷ []) ≡ or_else (says row) (last_said says rows)
last_said-push says [] row = sym (or_else-none (says row))
last_said-push says (r ∷ rows) row = ap (λ o. or_else o (says r)) (last_said-push says rows row) ∙ or_else-again (says row) (last_said says rows) (says r)

unsaid : {A : Type 0} (b : Bool) (x : Option A) → or_else (when b None) x ≡ x
unsaid true x = refl
unsaid false x = refl

said : {A : Type 0} (b : Bool) (v : A) (x : Option A) → cond b (Some v) x ≡ or_else (when b (Some v)) x
said true v x = refl
said false v x = refl

said-twice : {A : Type 0} (b c : Bool) (v : A) (x : Option A) → cond (b && c) (Some v) x ≡ or_else (when b (when c (Some v))) x
said-twice true true v x = refl
said-twice true false v x = refl
said-twice false c v x = refl

module _ (netlist : netlists.Content) (before : List TimingRow) (row : TimingRow) (n : ℕ) (is-number : number netlist row.name ≡ Some n) (w : TimingWhat) (is : row.what ≡ w) where
  more : {A : Type 0} (s : ℕ) (says : TimingWhat → Option A) → rows_say netlist (before ++ row ∷ []) s says ≡ or_else (when (nat_eq n s) (says w)) (rows_say netlist before s says)
  more s says = last_said-push (said_of netlist s says) before row
      ∙ ap₂ (λ (o : Option ℕ) (v : TimingWhat). or_else (when (is_signal s o) (says v)) (rows_say netlist before s says)) is-number is

  -- the row says nothing of this
  pub say-same : {A : Type 0} (s : ℕ) (says : TimingWhat → Option A) → says w ≡ None → (x : Option A) → x ≡ rows_say netlist before s says → x ≡ rows_say netlist (before ++ row ∷ []) s says
  say-same s says none x e = e ∙ sym (more s says ∙ ap (λ o. or_else (when (nat_eq n s) o) (rows_say netlist before s says)) none ∙ unsaid (nat_eq n s) (rows_say netlist before s says))

  -- the row says this
  pub say-more : {A : Type 0} (s : ℕ) (says : TimingWhat → Option A) (v : A) → says w ≡ Some v → (x y : Option A) → y ≡ cond (nat_eq n s) (Some v) x → x ≡ rows_say netlist before s says → y ≡ rows_say netlist (before ++ row ∷ []) s says
  say-more s says v some x y put e = put ∙ ap (cond (nat_eq n s) (Some v)) e ∙ said (nat_eq n s) v (rows_say netlist before s says)
      ∙ sym (more s says ∙ ap (λ o. or_else (when (nat_eq n s) o) (rows_say netlist before s says)) some)

  pub say-pin : {A : Type 0} (s k : ℕ) (says : TimingWhat → Option A) (p : ℕ) (v : A) → says w ≡ when (nat_eq p k) (Some v) → (x y : Option A) → y ≡ cond (is_eq (pin_cmp (n, p) (s, k))) (Some v) x → x ≡ rows_say netlist before s says
      → y ≡ rows_say netlist (before ++ row ∷ []) s says
  say-pin s k says p v some x y put e = put ∙ ap₂ (λ b o. cond b (Some v) o) (sym (tied_then (nat_cmp n s) (nat_cmp p k)) ∙ ap₂ (λ (a b : Bool). a && b) (unsigned_tied n s) (unsigned_tied p k)) e
      ∙ said-twice (nat_eq n s) (nat_eq p k) v (rows_say netlist before s says) ∙ sym (more s says ∙ ap (λ o. or_else (when (nat_eq n s) o) (rows_say netlist before s says)) some)

-- the first fault is that of the rows left
pub fault-passed : {R : Type 0} (fault : R → Option JoinFault) (rows : List R) (i : ℕ) (d : R) → i < length rows → fault (get_or rows i d) ≡ None → first_fault fault (drop i rows) ≡ first_fault fault (drop (i + 1) rows)
fault-passed fault rows i d l none = ap (first_fault fault) (drop_more rows i d l) ∙ ap (λ o. or_else o (first_fault fault (drop (i + 1) rows))) none

pub fault-found : {R : Type 0} (fault : R → Option JoinFault) (rows : List R) (i : ℕ) (d : R) (f : JoinFault) → i < length rows → fault (get_or rows i d) ≡ Some f → first_fault fault (drop i rows) ≡ Some f
fault-found fault rows i d f l some = ap (first_fault fault) (drop_more rows i d l) ∙ ap (λ o. or_else o (first_fault fault (drop (i + 1) rows))) some

pub fault-none : {R : Type 0} (fault : R → Option JoinFault) (rows : List R) (i : ℕ) → length rows ≤ i → first_fault fault (drop i rows) ≡ None
fault-none fault rows i l = ap (first_fault fault) (drop_all i rows l)

said-clock : (b : Bool) (v : Clock) (x : Option Clock) → cond b (Some v) x ≡ or_else (cond b (Some v) None) x
said-clock true v x = refl
said-clock false v x = refl

-- the clocks of one row more
pub clock-more : (rows : List ClockRow) (i : ℕ) (row : ClockRow) → i < length rows → row ≡ get_or rows i row → (old new : BTreeMap (Bor (List ℕ)) Clock) (key : Bor (List ℕ)) → key.now ≡ row.name
    → ((q : Bor (List ℕ)) → get_by (λ k. slice_cmp nat_cmp q.now k.now) new ≡ cond (is_eq (slice_cmp nat_cmp key.now q.now)) (Some row.clock) (get_by (λ k. slice_cmp nat_cmp q.now k.now) old)) → KnowsClocks (take i rows) old → KnowsClocks (take (i + 1) rows) new
clock-more rows i row l at old new key named puts knows q =
    let here : is_eq (slice_cmp nat_cmp key.now q.now) ≡ bytes_eq q.now row.name = is_eq-slice_cmp key.now q.now ∙ nat_list_eq_equiv.symm key.now q.now ∙ ap (bytes_eq q.now) named in
    puts q ∙ ap₂ (λ b o. cond b (Some row.clock) o) here (knows q) ∙ said-clock (bytes_eq q.now row.name) row.clock (last_said (clock_of_row q.now) (take i rows))
    ∙ sym (ap (last_said (clock_of_row q.now)) (take_more rows i row l ∙ ap (λ r. take i rows ++ r ∷ []) (sym at)) ∙ last_said-push (clock_of_row q.now) (take i rows) row)

-- a timing row without a cause
pub row-passes : (netlist : netlists.Content) (timing : timings.Content) (row : TimingRow) (s : ℕ) → number netlist row.name ≡ Some s → (o : Option JoinCause) → o ≡ cause_of_what timing (driver_at netlist s) row.what → o ≡ None
    → timing_fault netlist timing row ≡ None
row-passes netlist timing row s n o e none = ap (λ (m : Option ℕ). fault_of file.Timing row.line (cause_of_timing netlist timing m row.what)) n ∙ ap (fault_of file.Timing row.line) (sym e ∙ none)

pub takes-row : (netlist : netlists.Content) (timing : timings.Content) (before : List TimingRow) (row : TimingRow) (stated : SignalTiming) (r : Result (Unit {0}) JoinFault)
    → timing_fault netlist timing row ≡ None → OnOk r (HasStated netlist timing (before ++ row ∷ []) stated) → IfErr r (λ fault. fault ≡ out_of_memory) → TakesRow netlist timing before row stated r
takes-row netlist timing before row stated (Ok x) none has oom = (none, has)
takes-row netlist timing before row stated (Err fault) none has oom = inl oom

-- the first row at fault, or none so far
pub refused-at : {R : Type 0} (fault : R → Option JoinFault) (rows : List R) (i : ℕ) (row : R) (f : JoinFault) → i < length rows → row ≡ get_or rows i row → first_fault fault rows ≡ first_fault fault (drop i rows)
    → (f ≡ out_of_memory) ⊎ (fault row ≡ Some f) → (f ≡ out_of_memory) ⊎ (first_fault fault rows ≡ Some f)
refused-at fault rows i row f l at e (inl h) = inl h
refused-at fault rows i row f l at e (inr h) = inr (e ∙ fault-found fault rows i row f l (ap fault (sym at) ∙ h))

pub passed-at : {R : Type 0} (fault : R → Option JoinFault) (rows : List R) (i : ℕ) (row : R) → i < length rows → row ≡ get_or rows i row → first_fault fault rows ≡ first_fault fault (drop i rows)
    → fault row ≡ None → first_fault fault rows ≡ first_fault fault (drop (i + 1) rows)
passed-at fault rows i row l at e none = e ∙ fault-passed fault rows i row l (ap fault (sym at) ∙ none)

pub taken-at : {R : Type 0} (rows : List R) (i : ℕ) (row : R) → i < length rows → row ≡ get_or rows i row → take i rows ++ row ∷ [] ≡ take (i + 1) rows
taken-at rows i row l at = sym (take_more rows i row l ∙ ap (λ r. take i rows ++ r ∷ []) (sym at))
