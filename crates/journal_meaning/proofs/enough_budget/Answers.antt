use Rattle.journal_meaning.proofs.Budgets.{enough-budget}
use Rattle.journal_meaning.proofs.enough_budget.Goals as goal

pub returns : goal.returns
returns g = λ b ok opening lists from room q one most answer h. enough-budget b ok opening lists from room q one most answer h
