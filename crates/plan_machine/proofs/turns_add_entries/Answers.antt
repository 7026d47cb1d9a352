use Rattle.plan_machine.proofs.Journals.{turn-adds, run-adds, run-tasks}
use Rattle.plan_machine.proofs.turns_add_entries.Goals as goal

pub returns : goal.returns
returns c = record { turn = turn-adds; run = run-adds; tasks = run-tasks }
