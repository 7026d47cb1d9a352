-- What only the proofs and the private functions of this crate speak of, beside `KeptNetlists`.
use Rattle.std.specs.Prelude.{◌≡◌, ℕ, IsTrue, ◌+◌, ◌≤◌, List, map, take, drop, length, sum_by, ⊤}
use Rattle.std.specs.List.{All}
use Rattle.gate_values.specs.declared.Kind.{Kind}
use Rattle.gate_values.specs.Gates.{allows}
use Rattle.bench_reader.specs.declared.netlist.Definition.{Definition}
use Rattle.bench_reader.specs.declared.netlist.Definition.TheVariants as definition
use Rattle.bench_reader.specs.Netlists.{NetlistDriver, Primary, Driven, Content, IsNetlist}

-- what drives the signal that has this definition, in a netlist with these pins
abbrev pub driver : List ℕ → Definition → NetlistDriver
driver pins (definition.Missing line) = Primary
driver pins definition.Input = Primary
driver pins (definition.Gate kind count start) = Driven kind (take count (drop start pins))

-- how many pins a definition has
abbrev pub pin_count : Definition → ℕ
pin_count (definition.Missing line) = 0
pin_count definition.Input = 0
pin_count (definition.Gate kind count start) = count

-- a gate's pins lie among so many, and are as many as its kind takes
pub record IsPlaced (pins : ℕ) (kind : Kind) (start count : ℕ) : Type 0 where
  pub within : start + count ≤ pins
  pub counted : IsTrue (allows kind count)

abbrev pub FitsRows : ℕ → Definition → Type 0
FitsRows pins (definition.Missing line) = ⊤
FitsRows pins definition.Input = ⊤
FitsRows pins (definition.Gate kind count start) = IsPlaced pins kind start count

-- a definition for each name, with its pins, within the limits
pub record IsKeptNetlist (names : List (List ℕ)) (rows : List Definition) (pins : List ℕ) : Type 0 where
  pub rows_len : length rows ≡ length names
  pub few : length names ≤ 1048576
  pub room : length pins ≤ 4194304
  pub fits : All (FitsRows (length pins)) rows
  pub total : sum_by pin_count rows ≤ length pins

abbrev pub content : List (List ℕ) → List Definition → List ℕ → List ℕ → Content
content names rows pins outputs = record { names = names; rows = map (driver pins) rows; outputs = outputs }

-- what holds of the lists of a netlist
pub record IsKeptName (names : List (List ℕ)) (rows : List Definition) (pins outputs : List ℕ) : Type 0 where
  pub kept : IsKeptNetlist names rows pins
  pub netlist : IsNetlist (content names rows pins outputs)
