-- What the program promises, by its words.
use Rattle.std.specs.Prelude.{◌≡◌, ◌⊎◌, ⊤, ℕ, List, [], ◌∷◌}
use Rattle.backsim_io.specs.Counts.{Grows, GrowsByPrefix, Stays}
use Rattle.backsim_io.specs.FilesInMemory.{SameMade}
use Rattle.backsim_io.specs.State.{Rises}
use Rattle.backsim_check.specs.Given.{Names, names_of, Given, AreGiven, AreAll}
use Rattle.backsim_check.specs.Seen.{Output, Seen}
use Rattle.backsim_check.specs.Texts.{usage}
use Rattle.backsim_check.specs.Answers.{IsProved, IsUnproved, IsTrueOf, Wrote, WrotePart, EndsAs, WritesNothing}
use Rattle.backsim_check.specs.Refused.{IsRefused, IsAnswer, Refuses, IfRefused}
use Rattle.backsim_check.specs.Changes.{ChangesFiles, CountsFaults}
use Rattle.backsim_check.specs.declared.status.CheckStatus.{CheckStatus}
use Rattle.backsim_check.specs.declared.status.CheckStatus.TheVariants.{Yes, Words, Refused, WriteFault, No}

-- the line was written, under the status that is due, or at most a part of it, under that of a write fault
abbrev pub IsTold : CheckStatus → (line : List ℕ) → Output → Output → CheckStatus → Type 0
IsTold due line out new_out status =
    ((status ≡ due) × Grows out.written new_out.written line × (new_out.faults ≡ out.faults))
    ⊎ ((status ≡ WriteFault) × GrowsByPrefix out.written new_out.written line × Rises out.faults new_out.faults)

-- what is written of four files, by the status
abbrev pub Writes : Given → (proof : List ℕ) → Output → Output → CheckStatus → Type 0
Writes given proof out new_out Yes = Wrote (IsProved given proof) out new_out
Writes given proof out new_out Refused = Wrote (IsRefused given proof) out new_out
Writes given proof out new_out No = Wrote (IsUnproved given proof) out new_out
Writes given proof out new_out WriteFault = WrotePart (IsAnswer given proof) out new_out
Writes given proof out new_out _ = ⊤

-- The proof in the last of the four files of these names is checked against the circuit of the others.
pub record ChecksProof (names : Names) (before after : Seen) (status : CheckStatus) : Type 0 where
  -- The theorem: if the line says yes, forward simulation of the circuit of the three files gives that value, whoever wrote the proof.
  pub holds : (given : Given) → AreGiven before.files.bytes names given → status ≡ Yes → Wrote (IsTrueOf given) before.out after.out
  -- each status, and what is written with it
  pub writes : (given : Given) (proof : List ℕ) → AreAll before.files.bytes names given proof → Writes given proof before.out after.out status
  -- when each status comes, unless a fault or a lack of memory ends the call
  pub proved : (given : Given) (proof line : List ℕ) → AreAll before.files.bytes names given proof → IsProved given proof line → EndsAs Yes status
  pub unproved : (given : Given) (proof line : List ℕ) → AreAll before.files.bytes names given proof → IsUnproved given proof line → EndsAs No status
  pub refused : IfRefused before.files.bytes names (λ n line. Refuses n line before after status)
  pub no_usage : ¬ (status ≡ Words)
  -- a fault has its cause, and nothing else changes
  pub unwritten : WritesNothing status → Stays before.out.written after.out.written
  pub files : ChangesFiles before.files after.files status
  pub sink : CountsFaults before.out after.out status
  pub made : SameMade before.made after.made

-- Four words are the names of files. For others the usage text is written.
abbrev pub Checks : List (List ℕ) → Seen → Seen → CheckStatus → Type 0
Checks (netlist ∷ timing ∷ stimulus ∷ proof ∷ []) before after status = ChecksProof (names_of netlist timing stimulus proof) before after status
Checks words before after status = IsTold Words usage before.out after.out status
