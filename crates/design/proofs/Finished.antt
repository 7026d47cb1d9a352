-- The answer of a join, from what its parts answer.
use Rattle.std.proofs.Common.{◌≡◌, ℕ, List, Option, Some, None, sym, ap, ap₂, ◌∙◌, ◌⊎◌, inl, inr}
use Rattle.std.specs.Prelude.{Ok, Err}
use Rattle.bench_reader.specs.Netlists as netlists
use Rattle.timing_file.specs.Timing as timings
use Rattle.stimulus_file.specs.Stimulus as stimuli
use Rattle.stimulus_file.specs.Stimulus.{SetRow}
use Rattle.design.specs.declared.fault.JoinFault.{JoinFault}
use Rattle.design.specs.Causes.{out_of_memory}
use Rattle.design.specs.Joined.{Joined}
use Rattle.design.specs.Join.{or_else, unless_fault, first_fault, timing_fault, set_fault, circuit_from, design_of, AnswersDesign}

module _ (netlist : netlists.Content) (timing : timings.Content) (stimulus : stimuli.Content) where
  abbrev joined : Joined
  joined = record { netlist = netlist; circuit = circuit_from netlist timing stimulus }

  pub refused-timing : (f : JoinFault) → (f ≡ out_of_memory) ⊎ (first_fault (timing_fault netlist timing) timing.rows ≡ Some f) → AnswersDesign (Err f) (design_of netlist timing stimulus)
  unfolding design_of
  refused-timing f (inl h) = inl h
  refused-timing f (inr h) = inr (ap (λ o. unless_fault (or_else o (first_fault (set_fault netlist stimulus.horizon) stimulus.sets)) joined) h)

  pub refused-set : (h : ℕ) (sets : List SetRow) (f : JoinFault) → h ≡ stimulus.horizon → sets ≡ stimulus.sets → first_fault (timing_fault netlist timing) timing.rows ≡ None
      → (f ≡ out_of_memory) ⊎ (first_fault (set_fault netlist h) sets ≡ Some f) → AnswersDesign (Err f) (design_of netlist timing stimulus)
  unfolding design_of
  refused-set h sets f a b none (inl o) = inl o
  refused-set h sets f a b none (inr o) =
      inr (ap₂ (λ (x : Option JoinFault) (y : Option JoinFault). unless_fault (or_else x y) joined) none
      (sym (ap₂ (λ (k : ℕ) (s : List SetRow). first_fault (set_fault netlist k) s) a b) ∙ o))

  pub none-at : (h : ℕ) (sets : List SetRow) → h ≡ stimulus.horizon → sets ≡ stimulus.sets → first_fault (set_fault netlist h) sets ≡ None → first_fault (set_fault netlist stimulus.horizon) stimulus.sets ≡ None
  none-at h sets a b o = sym (ap₂ (λ (k : ℕ) (s : List SetRow). first_fault (set_fault netlist k) s) a b) ∙ o

  pub accepted : (j : Joined) → first_fault (timing_fault netlist timing) timing.rows ≡ None → first_fault (set_fault netlist stimulus.horizon) stimulus.sets ≡ None → j ≡ joined → design_of netlist timing stimulus ≡ Ok j
  unfolding design_of
  accepted j t s e = ap₂ (λ (x : Option JoinFault) (y : Option JoinFault). unless_fault (or_else x y) joined) t s ∙ ap Ok (sym e)
