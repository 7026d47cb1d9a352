-- What clauses say of a ready queue and of its passes.
use Rattle.std.specs.Prelude.{◌≡◌, ℕ, true, List, [], ◌++◌, IsPermutation}
use Rattle.crossbeam_queue.specs.Fifo.{Held}
use Rattle.crossbeam_queue.specs.Passes.{view, IsPassOf as IsRuledPassOf, ruled_capacity}
use Rattle.ready_queue.specs.declared.History.{History}
use Rattle.ready_queue.specs.declared.ReadyQueue.{ReadyQueue}
use Rattle.ready_queue.specs.declared.QueuePass.{QueuePass}
use Rattle.ready_queue.specs.History.{IsKeptBeside}

module _ {T : Type 0} where
  -- the items pushed and popped through a pass
  abbrev pub history_of : QueuePass T → History T
  history_of p = view p.pass

  -- the items pushed through a pass, in order
  abbrev pub pushed_by : QueuePass T → List T
  pushed_by p = (history_of p).pushed

  -- the items popped through a pass, in order
  abbrev pub popped_by : QueuePass T → List T
  popped_by p = (history_of p).popped

  -- the queue has no other pass
  abbrev pub IsOnly : QueuePass T → Type 0
  IsOnly p = (history_of p).only ≡ true

  -- the pass is one of this queue
  abbrev pub IsPassOf : ReadyQueue T → QueuePass T → Type 0
  IsPassOf q p = IsRuledPassOf q.queue p.pass

  -- a pass of this queue through which no item has gone
  pub record IsFreshPassOf (q : ReadyQueue T) (p : QueuePass T) : Type 0 where
    pub of_queue : IsPassOf q p
    pub pushed : pushed_by p ≡ []
    pub popped : popped_by p ≡ []

  -- how many items the queue may hold
  abbrev pub capacity_of : ReadyQueue T → ℕ
  capacity_of q = ruled_capacity q.queue

  -- at one moment the queue held n items and kept its rule, with the present history of this pass
  abbrev pub HeldBeside : ℕ → QueuePass T → Type 0
  HeldBeside n p = Held n (IsKeptBeside (history_of p))

  -- some n items are, up to order, those pushed and not popped through the pass
  abbrev pub Lacks : ℕ → QueuePass T → Type 0
  Lacks n p = Held n (λ items. IsPermutation (pushed_by p) (popped_by p ++ items))
