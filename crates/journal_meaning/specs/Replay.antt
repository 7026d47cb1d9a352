-- The replay of a journal, and which journals are legal.
use Rattle.std.specs.Prelude.{◌≡◌, ⊤, ℕ, false, List, [], ◌∷◌}
use Rattle.valid_intervals.specs.declared.SignalCell.{SignalCell}
use Rattle.journal_meaning.specs.declared.Entry.{Entry}
use Rattle.journal_meaning.specs.declared.Entry.TheVariants.{Evicted}
use Rattle.journal_meaning.specs.States.{State, fresh, IsLeastRecent}
use Rattle.journal_meaning.specs.Table.{Needs, after}
use Rattle.journal_meaning.specs.Batches.{Batch}
use Rattle.journal_meaning.specs.Allowed.{IsAllowed}

-- the state to which the entries lead
abbrev pub replay : State → List Entry → State
replay s [] = s
replay s (e ∷ es) = replay (after s e) es

-- each entry has what it needs of the state before it, and names only what it may
abbrev pub IsLegal : Batch → ℕ → State → List Entry → Type 0
IsLegal b shard s [] = ⊤
IsLegal b shard s (e ∷ es) = Needs b.capacity s e × IsAllowed b shard e × IsLegal b shard (after s e) es

-- no claim is left, and no eviction waits for its fill
pub record IsAtEnd (s : State) : Type 0 where
  pub claims : s.claims ≡ []
  pub made : s.made ≡ false

-- a whole journal of a shard in a batch, from the cells that the shard held before
pub record IsLegalBatch (b : Batch) (shard : ℕ) (cells : List SignalCell) (es : List Entry) : Type 0 where
  pub legal : IsLegal b shard (fresh cells) es
  pub ended : IsAtEnd (replay (fresh cells) es)

-- in a trim each entry evicts the last cell
abbrev pub EvictsLast : State → Entry → Type 0
EvictsLast s (Evicted signal start) = IsLeastRecent s.cells signal start
EvictsLast s e = ⊥

abbrev pub IsLegalTrim : State → List Entry → Type 0
IsLegalTrim s [] = ⊤
IsLegalTrim s (e ∷ es) = EvictsLast s e × IsLegalTrim (after s e) es
