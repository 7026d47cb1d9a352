-- The content of one file, and what is refused in its place.
use Rattle.std.proofs.Common.{◌≡◌, ℕ, ◌+◌, ◌≤◌, ◌⊎◌, inl, inr, List, Some, Result, Ok, Err, IsErrAnd, refl, sym, ap, subst, ◌∙◌}
use Rattle.backsim_io.specs.State.{FilesState}
use Rattle.texts.specs.line_faults.Faults.{at_no_line}
use Rattle.texts.specs.declared.line_faults.causes.LineFault.{LineFault}
use Rattle.bench_reader.specs.Netlists.{bench_of}
use Rattle.timing_file.specs.Timing.{timing_of}
use Rattle.stimulus_file.specs.Stimulus.{stimulus_of}
use Rattle.circuit_files.specs.declared.refusal.CircuitFile.{CircuitFile}
use Rattle.circuit_files.specs.declared.refusal.CircuitFile.TheVariants.{Netlist, Timing, Stimulus}
use Rattle.circuit_files.specs.declared.refusal.FileRefusal.{FileRefusal}
use Rattle.circuit_files.specs.declared.stop.FilesStop.{FilesStop}
use Rattle.circuit_files.specs.declared.stop.FilesStop.TheVariants.{Refused, NotOpened, Unread, OutOfMemory}
use Rattle.circuit_files.specs.Changes.{Opened}
use Rattle.circuit_files.specs.Files.{◌>>=◌, or_refusal, refused_netlist, refused_timing, refused_stimulus, within_limit, netlist_of, delays_of, settings_of}
use Rattle.circuit_files.specs.Stops.{before, IsAnswerOf, IsQuiet, IsStopOf}
use Rattle.circuit_files.specs.inner.Reading.{IsAt, ReadsContent, TextStops}

-- the content of a file is its text, parsed
pub record IsContent {A C : Type 0} (file : CircuitFile) (refused : LineFault C → FileRefusal) (parse : List ℕ → Result A (LineFault C)) (content_of : List ℕ → Result A FileRefusal) : Type 0 where
  pub is : (bytes : List ℕ) → content_of bytes ≡ (within_limit file bytes >>= λ text. or_refusal refused (parse text))

pub netlist-is : IsContent Netlist refused_netlist bench_of netlist_of
unfolding netlist_of
netlist-is = record { is = λ bytes. refl }

pub delays-are : IsContent Timing refused_timing timing_of delays_of
unfolding delays_of
delays-are = record { is = λ bytes. refl }

pub settings-are : IsContent Stimulus refused_stimulus stimulus_of settings_of
unfolding settings_of
settings-are = record { is = λ bytes. refl }

-- a stop answers with its refusal
pub refuses : {A : Type 0} (no_memory : Type 0) (refusal : FileRefusal) (stop : FilesStop) (said : Result A FileRefusal)
    → IsStopOf refusal no_memory stop → no_memory ⊎ (said ≡ Err refusal) → IsAnswerOf (Err stop) said
refuses no_memory refusal (Refused given) said is (inl gone) = absurd (let h = is.memory gone in cc)
refuses no_memory refusal (Refused given) said is (inr says) = says ∙ ap (λ (r : FileRefusal). Err r) (sym is.refuses)
refuses no_memory refusal (Unread file) said is either = tt
refuses no_memory refusal (NotOpened file) said is either = tt
refuses no_memory refusal OutOfMemory said is either = tt

-- what stops the text stops the content
unread : {A : Type 0} (file : CircuitFile) (bytes : List ℕ) (parse : List ℕ → Result A FileRefusal) (stop : FilesStop)
    → IsAnswerOf {A = List ℕ} (Err stop) (within_limit file bytes) → IsAnswerOf {A = A} (Err stop) (within_limit file bytes >>= parse)
unread file bytes parse (Refused refusal) says = rw says refl
unread file bytes parse (Unread met) says = tt
unread file bytes parse (NotOpened met) says = tt
unread file bytes parse OutOfMemory says = tt

-- a stop that no fault made is at each file
at-any : (file : CircuitFile) (stop : FilesStop) → IsQuiet stop → IsAt file stop
at-any file (Refused refusal) quiet = tt
at-any file (NotOpened met) quiet = absurd quiet
at-any file (Unread met) quiet = absurd quiet
at-any file OutOfMemory quiet = tt

quiet-text : (file : CircuitFile) (old new : FilesState) (stop : FilesStop) → IsQuiet stop → Opened (before file + 1) old new → TextStops file old new stop
quiet-text file old new (Refused refusal) quiet opened = opened
quiet-text file old new (NotOpened met) quiet opened = absurd quiet
quiet-text file old new (Unread met) quiet opened = absurd quiet
quiet-text file old new OutOfMemory quiet opened = opened

parsed : {A C : Type 0} {file : CircuitFile} {refused : LineFault C → FileRefusal} {parse : List ℕ → Result A (LineFault C)} {content_of : List ℕ → Result A FileRefusal}
    → IsContent file refused parse content_of → (bytes items text : List ℕ) → within_limit file bytes ≡ Ok items → text ≡ items → content_of bytes ≡ or_refusal refused (parse text)
parsed c bytes items text fits same = c.is bytes ∙ (rw (fits, sym same) refl)

module _ {A C : Type 0} {file : CircuitFile} {name : List ℕ} {refused : LineFault C → FileRefusal} {parse : List ℕ → Result A (LineFault C)} {content_of : List ℕ → Result A FileRefusal}
    (content : IsContent file refused parse content_of) {old new : FilesState} (started : new.started ≤ before file + 1) where
  -- the text was not read
  pub text-stopped : (was : FilesStop) (result : Result A FilesStop) → IsErrAnd result (λ stop. stop ≡ was)
      → ((bytes : List ℕ) → old.bytes name ≡ Some bytes → IsAnswerOf {A = List ℕ} (Err was) (within_limit file bytes)) → IsAt file was → TextStops file old new was
      → ReadsContent file name content_of old new result
  text-stopped was (Ok given) handed says at changes = absurd handed
  text-stopped was (Err stop) handed says at changes = subst (λ (e : FilesStop). ReadsContent file name content_of old new (Err e)) (sym handed) (record {
    content = λ bytes held. subst (IsAnswerOf {A = A} (Err was)) (sym (content.is bytes)) (unread file bytes (λ text. or_refusal refused (parse text)) was (says bytes held));
    place = at;
    started = started;
    state = changes;
  })

  module _ {items text : List ℕ} (fits : (bytes : List ℕ) → old.bytes name ≡ Some bytes → within_limit file bytes ≡ Ok items) (same : text ≡ items) (opened : Opened (before file + 1) old new) where
    -- a line is at fault
    pub text-refused : (memory : C) (fault : LineFault C) (result : Result A FilesStop) → IsErrAnd result (λ stop. IsStopOf (refused fault) (fault ≡ at_no_line memory) stop)
        → (fault ≡ at_no_line memory) ⊎ (parse text ≡ Err fault) → ReadsContent file name content_of old new result
    text-refused memory fault (Ok given) made says = absurd made
    text-refused memory fault (Err stop) made says = record {
      content = λ bytes held. refuses (fault ≡ at_no_line memory) (refused fault) stop (content_of bytes) made (refused-too bytes held says);
      place = at-any file stop made.quiet;
      started = started;
      state = quiet-text file old new stop made.quiet opened;
    } where
      refused-too : (bytes : List ℕ) → old.bytes name ≡ Some bytes → (fault ≡ at_no_line memory) ⊎ (parse text ≡ Err fault) → (fault ≡ at_no_line memory) ⊎ (content_of bytes ≡ Err (refused fault))
      refused-too bytes held (inl gone) = inl gone
      refused-too bytes held (inr e) = inr (parsed content bytes items text (fits bytes held) same ∙ ap (or_refusal refused) e)

    -- it is what the format says
    pub text-parsed : (given : A) → parse text ≡ Ok given → ReadsContent file name content_of old new (Ok given)
    text-parsed given says = record {
      content = λ bytes held. parsed content bytes items text (fits bytes held) same ∙ ap (or_refusal refused) says;
      place = tt;
      started = started;
      state = opened;
    }
