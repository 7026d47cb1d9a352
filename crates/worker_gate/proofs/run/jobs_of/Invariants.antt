use Rattle.std.proofs.Common.{◌≤◌, vec_len, All}
use Rattle.ready_queue.specs.Queue.{IsPassOf, IsFreshPassOf}
use Rattle.worker_gate.proofs.run.jobs_of.Given as goal

abbrev pub invariant-loop-pass : goal.invariant-loop-pass
invariant-loop-pass g l = record {
  passes : All (IsFreshPassOf l.queue) l.passes.items;
  jobs : All (λ job. IsPassOf l.queue job.pass) l.jobs.items;
  few : vec_len l.passes ≤ vec_len l.fn.passes;
}

abbrev pub decreases-loop-pass : goal.decreases-loop-pass
decreases-loop-pass g l = vec_len l.passes
