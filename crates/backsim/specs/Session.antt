-- What a session is given, and what it serves.
use Rattle.std.specs.Prelude.{◌≡◌, ◌≤◌, ℕ, List, [], ◌∷◌, length, Some, Ok}
use Rattle.std.specs.Io.KnownBytes.{IsAtEnd}
use Rattle.texts.specs.Made.{Made}
use Rattle.circuit_files.specs.Files.{design_of_files}
use Rattle.design.specs.Joined.{Joined}
use Rattle.session_meaning.specs.Session.{Setup}
use Rattle.session_meaning.specs.Whole.{IsWhole}
use Rattle.session_loop.specs.Halting.{WroteFiles}
use Rattle.backsim.specs.Commands.{Command}
use Rattle.backsim.specs.Seen.{Seen, bytes_in, left_in, created_in}

-- the bytes of the three files and of the script
pub record Given : Type 0 where
  pub netlist : List ℕ
  pub timing : List ℕ
  pub stimulus : List ℕ
  pub script : List ℕ

-- these are held under the three names, and left in the script
pub record AreGiven (before : Seen) (command : Command) (given : Given) : Type 0 where
  pub netlist : bytes_in before command.netlist ≡ Some given.netlist
  pub timing : bytes_in before command.timing ≡ Some given.timing
  pub stimulus : bytes_in before command.stimulus ≡ Some given.stimulus
  pub script : left_in before ≡ Some given.script

abbrev pub setup_of : Command → Joined → Setup
setup_of command design = record {
  design = design;
  shards = command.shards;
  capacity = command.cells;
  names = command.netlist ∷ command.timing ∷ command.stimulus ∷ command.journal ∷ [];
}

-- the files make a design, and this holds of it with the memo that the command asks for
pub record OfDesign (command : Command) (given : Given) (says : Setup → Type 0) : Type 0 where
  pub design : Joined
  pub accepted : design_of_files given.netlist given.timing given.stimulus ≡ Ok design
  pub holds : says (setup_of command design)

-- Of the design these replies were written, and the files that were created are this journal, under the
-- journal's name, and after it these dumps.
abbrev pub Wrote : Command → Given → Seen → Seen → (Setup → List ℕ → List ℕ → List Made → Type 0) → Type 0
Wrote command given before after such =
    OfDesign command given (λ setup. WroteFiles (such setup) command.journal before.written after.written before.made after.made (created_in after))

-- the session of the script stands whole
abbrev pub ServedAll : Command → Given → Seen → Seen → Type 0
ServedAll command given before after = Wrote command given before after (λ setup. IsWhole setup given.script)

-- the script has at most 16,777,216 bytes and was read to its end, and its session stands whole
pub record IsServed (command : Command) (given : Given) (before after : Seen) : Type 0 where
  pub short : length given.script ≤ 16777216
  pub read : IsAtEnd (left_in after)
  pub session : ServedAll command given before after
