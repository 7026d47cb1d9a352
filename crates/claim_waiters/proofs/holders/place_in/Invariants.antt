use Rattle.std.proofs.Common.{◌≡◌, ◌+◌, ◌-◌, ◌≤◌, drop, length}
use Rattle.claim_waiters.specs.inner.View.{place_in}
use Rattle.claim_waiters.proofs.holders.place_in.Given as goal

abbrev pub invariant-loop-place : goal.invariant-loop-place
invariant-loop-place l = (l.place ≤ length l.few) × (place_in l.few l.p ≡ l.place + place_in (drop l.place l.few) l.p)

abbrev pub decreases-loop-place : goal.decreases-loop-place
decreases-loop-place l = length l.few - l.place
