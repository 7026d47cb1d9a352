use Rattle.std.proofs.Common.{◌≡◌, arith, ◌∙◌, sym}
use Rattle.std.proofs.lemmas.Bool.Decides.{nat_tests}
use Rattle.worker_gate.proofs.Places.{none_empty}
use Rattle.worker_gate.proofs.board.Board.is_full.Goals as goal

pub returns : goal.returns
returns g c = λ full.
    let b = c.args.self.now in
    let none : b.empty ≡ 0 = grind (arith, nat_tests, full) in none_empty b.places.items (sym b.empties ∙ none)
