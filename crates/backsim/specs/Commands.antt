-- What the words ask for.
use Rattle.std.specs.Prelude.{ℕ, ⊤, Option, Some, None}
use Rattle.command_words.specs.Words.{Text, Form, Session, Workload}

-- a session: the names of its four files, the workers, the shards of the memo, and for how many cells each has room
pub record Command : Type 0 where
  pub netlist : Text
  pub timing : Text
  pub stimulus : Text
  pub journal : Text
  pub workers : ℕ
  pub shards : ℕ
  pub cells : ℕ

abbrev pub command_of : (netlist timing stimulus journal : Text) → (workers shards cells : ℕ) → Command
command_of netlist timing stimulus journal workers shards cells =
    record { netlist = netlist; timing = timing; stimulus = stimulus; journal = journal; workers = workers; shards = shards; cells = cells }

-- only a session reads a script
abbrev pub OnNoSession : Type 0 → Option Form → Type 0
OnNoSession says None = says
OnNoSession says (Some (Workload number journal workers)) = says
OnNoSession says (Some (Session netlist timing stimulus journal workers shards cells)) = ⊤
