-- The times of a window's query.
use Rattle.std.proofs.Common.{◌≡◌, ℕ, ◌+◌, Bool, true, false, cond, nat_le, Option, Some, None, refl, subst}
use Rattle.journal_meaning.specs.declared.batch.Query.{Query}
use Rattle.query_lines.specs.declared.line.Window.{Window}
use Rattle.design.specs.Joined.{Joined}
use Rattle.design.specs.Join.{number}
use Rattle.session_meaning.specs.declared.Verdict.TheVariants.{Ask, Past}
use Rattle.session_meaning.specs.Verdicts.{window_verdict, verdict}

-- they are those of the window
pub record HasTimes (window : Window) (q : Query) : Type 0 where
  pub from_is : q.from ≡ window.from
  pub to_is : q.to ≡ window.to

times-by : (horizon line : ℕ) (window : Window) (signal : Option ℕ) (q : Query) → window_verdict horizon line window signal ≡ Ask q → HasTimes window q
times-by horizon line window None q is = absurd cc
times-by horizon line window (Some s) q is = cases (nat_le window.to (horizon + 1)) is
  where
    asked : Query
    asked = record { number = line; signal = s; from = window.from; to = window.to; budget = window.budget }

    cases : (b : Bool) → cond b (Ask asked) Past ≡ Ask q → HasTimes window q
    cases true h = let same : asked ≡ q = cc in subst (HasTimes window) same (record { from_is = refl; to_is = refl })
    cases false h = absurd cc

pub query-times : (d : Joined) (line : ℕ) (window : Window) (q : Query) → verdict d line window ≡ Ask q → HasTimes window q
query-times d line window q is = times-by d.circuit.horizon line window (number d.netlist window.name) q is
