-- What reading the three files comes to, by where it ends.
use Rattle.std.proofs.Common.{◌≡◌, ℕ, List, Some, Result, Ok, Err, IfErr, IsErrAnd, sym, subst, ◌∙◌, lit<}
use Rattle.backsim_io.specs.State.{FilesState}
use Rattle.bench_reader.specs.Netlists as netlists
use Rattle.timing_file.specs.Timing as timings
use Rattle.stimulus_file.specs.Stimulus as stimuli
use Rattle.design.specs.Join.{design_of}
use Rattle.design.specs.Joined.{Joined}
use Rattle.circuit_files.specs.declared.refusal.CircuitFile.TheVariants.{Netlist, Timing, Stimulus}
use Rattle.circuit_files.specs.declared.stop.FilesStop.{FilesStop}
use Rattle.circuit_files.specs.Changes.{Opened, DesignChanges}
use Rattle.circuit_files.specs.Files.{netlist_of, delays_of, settings_of, first_two, design_of_files, or_refusal, refused_join}
use Rattle.circuit_files.specs.Stops.{IsAnswerOf, AnswersFirst, IsQuiet}
use Rattle.circuit_files.specs.inner.Reading.{ReadsContent}
use Rattle.circuit_files.proofs.Changed.{opened-none, opened-later, held-same, stop-later, joined-state}
use Rattle.circuit_files.proofs.Designed.{files_stop_netlist, files_stop_timing, files_stop_stimulus, files_joined}
use Rattle.circuit_files.proofs.Firsts.{passes, stops_first, two_stop, behind_netlist}

-- what is promised of the files with these names
pub record ReadsDesign (netlist timing stimulus : List ℕ) (old new : FilesState) (result : Result Joined FilesStop) : Type 0 where
  pub design : (first second third : List ℕ) → old.bytes netlist ≡ Some first → old.bytes timing ≡ Some second → old.bytes stimulus ≡ Some third → IsAnswerOf result (design_of_files first second third)
  pub first : (first : List ℕ) → old.bytes netlist ≡ Some first → AnswersFirst 1 new.started result (netlist_of first)
  pub second : (first second : List ℕ) → old.bytes netlist ≡ Some first → old.bytes timing ≡ Some second → AnswersFirst 2 new.started result (first_two first second)
  pub state : DesignChanges old new result

-- a stop that is handed on
handed-on : {netlist timing stimulus : List ℕ} {old new : FilesState} (was : FilesStop) (result : Result Joined FilesStop) → IsErrAnd result (λ stop. stop ≡ was)
    → ReadsDesign netlist timing stimulus old new (Err was) → ReadsDesign netlist timing stimulus old new result
handed-on was (Ok design) handed reads = absurd handed
handed-on {netlist} {timing} {stimulus} {old} {new} was (Err stop) handed reads = subst (λ (e : FilesStop). ReadsDesign netlist timing stimulus old new (Err e)) (sym handed) reads

pub netlist-stopped : {netlist : List ℕ} (timing stimulus : List ℕ) {old new : FilesState} (was : FilesStop) (result : Result Joined FilesStop) → IsErrAnd result (λ stop. stop ≡ was) → old.started ≡ 0
    → ReadsContent Netlist netlist netlist_of old new (Err was) → ReadsDesign netlist timing stimulus old new result
netlist-stopped timing stimulus {old} {new} was result handed none read = handed-on was result handed (record {
  design = λ first second third is_first is_second is_third. files_stop_netlist first second third was (read.content first is_first);
  first = λ first is_first. stops_first 1 new.started Netlist was (netlist_of first) (lit< tt) read.started read.place (read.content first is_first);
  second = λ first second is_first is_second. stops_first 2 new.started Netlist was (first_two first second) (lit< tt) read.started read.place (two_stop first second was (read.content first is_first));
  state = stop-later Netlist old old new was (opened-none old none) read.place read.state;
})

module _ {netlist : List ℕ} {old one : FilesState} {content : netlists.Content} (whole : ReadsContent Netlist netlist netlist_of old one (Ok content)) where
  -- the timing file still holds what it held
  timing-held : (timing second : List ℕ) → old.bytes timing ≡ Some second → one.bytes timing ≡ Some second
  timing-held timing second is_second = held-same 1 old one whole.state timing ∙ is_second

  first-passes : (started : ℕ) (result : Result Joined FilesStop) (first : List ℕ) → old.bytes netlist ≡ Some first → AnswersFirst 1 started result (netlist_of first)
  first-passes started result first is_first = passes 1 started result (netlist_of first) content (whole.content first is_first)

  pub timing-stopped : {timing : List ℕ} (stimulus : List ℕ) {new : FilesState} (was : FilesStop) (result : Result Joined FilesStop) → IsErrAnd result (λ stop. stop ≡ was)
      → ReadsContent Timing timing delays_of one new (Err was) → ReadsDesign netlist timing stimulus old new result
  timing-stopped {timing} stimulus {new} was result handed read = handed-on was result handed (record {
    design = λ first second third is_first is_second is_third. files_stop_timing first second third content was (whole.content first is_first) (read.content second (timing-held timing second is_second));
    first = first-passes new.started (Err was);
    second = λ first second is_first is_second. subst (AnswersFirst {A = Joined} {B = timings.Content} 2 new.started (Err was)) (sym (behind_netlist first second content (whole.content first is_first)))
        (stops_first 2 new.started Timing was (delays_of second) (lit< tt) read.started read.place (read.content second (timing-held timing second is_second)));
    state = stop-later Timing old one new was whole.state read.place read.state;
  })

  module _ {timing : List ℕ} {two : FilesState} {delays : timings.Content} (timed : ReadsContent Timing timing delays_of one two (Ok delays)) where
    delays-known : (second : List ℕ) → old.bytes timing ≡ Some second → delays_of second ≡ Ok delays
    delays-known second is_second = timed.content second (timing-held timing second is_second)

    two-pass : (started : ℕ) (result : Result Joined FilesStop) (first second : List ℕ) → old.bytes netlist ≡ Some first → old.bytes timing ≡ Some second → AnswersFirst 2 started result (first_two first second)
    two-pass started result first second is_first is_second =
        passes 2 started result (first_two first second) delays (behind_netlist first second content (whole.content first is_first) ∙ delays-known second is_second)

    opened-two : Opened 2 old two
    opened-two = opened-later 1 2 old one two whole.state timed.state

    -- the stimulus still holds what it held
    stimulus-held : (stimulus third : List ℕ) → old.bytes stimulus ≡ Some third → two.bytes stimulus ≡ Some third
    stimulus-held stimulus third is_third = held-same 2 old two opened-two stimulus ∙ is_third

    pub stimulus-stopped : {stimulus : List ℕ} {new : FilesState} (was : FilesStop) (result : Result Joined FilesStop) → IsErrAnd result (λ stop. stop ≡ was)
        → ReadsContent Stimulus stimulus settings_of two new (Err was) → ReadsDesign netlist timing stimulus old new result
    stimulus-stopped {stimulus} {new} was result handed read = handed-on was result handed (record {
      design = λ first second third is_first is_second is_third. files_stop_stimulus first second third content delays was (whole.content first is_first) (delays-known second is_second)
          (read.content third (stimulus-held stimulus third is_third));
      first = first-passes new.started (Err was);
      second = two-pass new.started (Err was);
      state = stop-later Stimulus old two new was opened-two read.place read.state;
    })

    module _ {stimulus : List ℕ} {new : FilesState} {settings : stimuli.Content} (set : ReadsContent Stimulus stimulus settings_of two new (Ok settings)) where
      settings-known : (third : List ℕ) → old.bytes stimulus ≡ Some third → settings_of third ≡ Ok settings
      settings-known third is_third = set.content third (stimulus-held stimulus third is_third)

      opened-three : Opened 3 old new
      opened-three = opened-later 2 3 old two new opened-two set.state

      pub joined : (result : Result Joined FilesStop) → IsAnswerOf result (or_refusal refused_join (design_of content delays settings)) → IfErr result IsQuiet → ReadsDesign netlist timing stimulus old new result
      joined result says quiet = record {
        design = λ first second third is_first is_second is_third. subst (IsAnswerOf result)
            (sym (files_joined first second third content delays settings (whole.content first is_first) (delays-known second is_second) (settings-known third is_third))) says;
        first = first-passes new.started result;
        second = two-pass new.started result;
        state = joined-state old new result quiet opened-three;
      }
