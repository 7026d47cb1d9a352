use Rattle.plan_machine.proofs.Freed.{settles-handed, settled-answered}
use Rattle.plan_machine.proofs.settlement_answers.Goals as goal

pub returns : goal.returns
returns c = record { settles = λ b l site opening handed freed are f. settles-handed b l opening site handed freed are f; answers = settled-answered }
