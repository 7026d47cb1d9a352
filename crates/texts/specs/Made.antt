-- A file by its name and its bytes.
use Rattle.std.specs.Prelude.{ℕ, List}

-- a file that was created
pub record Made : Type 0 where
  pub name : List ℕ
  pub bytes : List ℕ
