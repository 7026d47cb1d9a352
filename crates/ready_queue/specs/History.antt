-- The pushes and pops of passes, and the rule that the queue keeps: no item is lost, made up or handed out twice.
use Rattle.std.specs.Prelude.{◌≡◌, ℕ, Bool, true, List, [], ◌∷◌, ◌++◌, IsPermutation}
use Rattle.std.specs.List.{flat_map}
use mathlib.Core.Option.{some}
use lib.ListN.{get_elem?}
use Rattle.ready_queue.specs.declared.History.{History}

module _ {T : Type 0} where
  -- the items pushed and popped through one pass, in order, and whether the queue has no other pass
  abbrev pub history : List T → List T → Bool → History T
  history pushed popped only = record { pushed = pushed; popped = popped; only = only }

  -- what was pushed through all passes, one pass after another
  abbrev pub all_pushed : List (History T) → List T
  all_pushed passes = flat_map (λ p. p.pushed) passes

  -- what was popped through all passes
  abbrev pub all_popped : List (History T) → List T
  all_popped passes = flat_map (λ p. p.popped) passes

  -- the rule of a queue that holds these items and whose passes have these histories
  pub record IsKept (items : List T) (passes : List (History T)) : Type 0 where
    -- up to order, the items pushed are those popped and those in the queue
    pub none_lost : IsPermutation (all_pushed passes) (all_popped passes ++ items)
    -- if a history says that its pass is the only one, it is
    pub only : (n : ℕ) (p : History T) → get_elem? passes n ≡ some p → p.only ≡ true → passes ≡ p ∷ []

  -- the rule held of these items when one of the passes had this history
  abbrev pub IsKeptBeside : History T → List T → Type 0
  IsKeptBeside p items = (passes : List (History T)) × (n : ℕ) × (get_elem? passes n ≡ some p) × IsKept items passes
