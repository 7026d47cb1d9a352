-- The input of a call.
use Rattle.std.specs.Prelude.{◌≡◌, ℕ, List, Option, Some}

-- the names of the four files
pub record Names : Type 0 where
  pub netlist : List ℕ
  pub timing : List ℕ
  pub stimulus : List ℕ
  pub proof : List ℕ

abbrev pub names_of : (netlist timing stimulus proof : List ℕ) → Names
names_of netlist timing stimulus proof = record { netlist = netlist; timing = timing; stimulus = stimulus; proof = proof }

-- the bytes of the three files of a circuit
pub record Given : Type 0 where
  pub netlist : List ℕ
  pub timing : List ℕ
  pub stimulus : List ℕ

-- the files with the first three names have these bytes
pub record AreGiven (bytes : List ℕ → Option (List ℕ)) (names : Names) (given : Given) : Type 0 where
  pub netlist : bytes names.netlist ≡ Some given.netlist
  pub timing : bytes names.timing ≡ Some given.timing
  pub stimulus : bytes names.stimulus ≡ Some given.stimulus

-- the same, and the fourth file has the bytes of the proof
pub record AreAll (bytes : List ℕ → Option (List ℕ)) (names : Names) (given : Given) (proof : List ℕ) : Type 0 where
  pub circuit : AreGiven bytes names given
  pub proof_is : bytes names.proof ≡ Some proof
