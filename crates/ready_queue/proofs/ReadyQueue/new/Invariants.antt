use Rattle.std.proofs.Common.{◌≡◌, [], All, vec_len, ◌+◌, true}
use Rattle.crossbeam_queue.specs.Passes.{view, IsPassOf}
use Rattle.ready_queue.specs.Queue.{IsFreshPassOf, capacity_of}
use Rattle.ready_queue.proofs.ReadyQueue.new.Given as goal

abbrev pub invariant-loop-made : goal.invariant-loop-made
invariant-loop-made g l = record {
  capacity : capacity_of l.queue ≡ l.capacity;
  count : vec_len l.all + 1 ≡ l._made;
  fresh : All (IsFreshPassOf l.queue) l.all.items;
  mine : IsPassOf l.queue.queue l.first;
  pushed : (view l.first).pushed ≡ [];
  popped : (view l.first).popped ≡ [];
  only : l._made ≡ 1 → (view l.first).only ≡ true;
}
