use Rattle.std.proofs.Common.{◌≡◌, ◌<◌, ◌≤◌, ℕ, true, get_or}
use Rattle.journal_meaning.specs.declared.batch.Query.{Query}
use Rattle.valid_intervals.specs.declared.Point.{Point}
use Rattle.plan_core.specs.asked.Wanted.{is_wanted}
use Rattle.plan_core.proofs.asked.wanted.Wanted.windows.Given as goal

abbrev pub invariant-loop-q : goal.invariant-loop-q
invariant-loop-q l = (i : ℕ) (d : Query) (p : Point) → i < l.q-index → p.signal ≡ (get_or l.queries i d).signal → (get_or l.queries i d).from ≤ p.time → p.time < (get_or l.queries i d).to → is_wanted l.wanted p ≡ true
